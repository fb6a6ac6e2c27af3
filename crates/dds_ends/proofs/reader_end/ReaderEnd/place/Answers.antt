use Rattle.std.proofs.Common.{sym, subst}
use Rattle.rtps_reader.specs.Reader.{Tracks}
use Rattle.dds_ends.specs.Kept.{ReaderKept}
use Rattle.dds_ends.proofs.reader_end.ReaderEnd.place.Goals as goal

pub returns : goal.returns
returns c =
    λ t tracks. c.place.ensures.place t
    (subst (λ (k : ReaderKept). Tracks k.reader c.args.row t) (sym c.self.view_is) tracks)
