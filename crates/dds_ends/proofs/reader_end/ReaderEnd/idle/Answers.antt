use Rattle.std.proofs.Common.{◌∙◌, refl, subst, sym}
use Rattle.rtps_reader.specs.Reader.{Tracks}
use Rattle.dds_ends.specs.Kept.{ReaderKept}
use Rattle.dds_ends.proofs.reader_end.ReaderEnd.idle.Goals as goal

pub returns-clause-idle : goal.returns-clause-idle
returns-clause-idle c =
    λ t tracks. record {
      begun = refl;
      to = c.place.ensures.place t
          (subst (λ (k : ReaderKept). Tracks k.reader c.args.row t) (sym c.self.view_is) tracks);
      passed = c.from_vec.ensures.elements ∙ c.new.ensures.items;
      heard = refl;
      acknack = refl;
    }
