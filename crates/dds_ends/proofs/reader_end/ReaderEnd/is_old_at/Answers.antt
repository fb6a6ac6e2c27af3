use Rattle.std.proofs.Common.{ℕ, ℤ, Bool, sym, subst, ap, ◌∙◌, w32, rules}
use Rattle.std.specs.Prelude.{nat_lt, not}
use Rattle.std.proofs.lemmas.Int.{to_z-of_z}
use Rattle.dds_base.specs.Counts.{is_later}
use Rattle.rtps_reader.specs.Reader.{Tracks}
use Rattle.rtps_wire.specs.declared.submessage.Submessage.{Submessage}
use Rattle.dds_ends.specs.Kept.{ReaderKept}
use Rattle.dds_ends.specs.Observing.{is_old}
use Rattle.dds_ends.proofs.reader_end.ReaderEnd.is_old_at.Goals as goal

pub returns-in-Data : goal.returns-in-Data
returns-in-Data c = λ t tracks.
    let here = subst (λ (k : ReaderKept). Tracks k.reader c.args.row t) (sym c.self.view_is) tracks in
    ap (λ (n : ℕ). nat_lt n c.number-in-Data.result) c.number.ensures.number
    ∙ (ap (λ (n : ℕ). nat_lt c.in-Data.body.writer_sn n)
    (c.number-in-Data.ensures.number ∙ c.place.ensures.place t here)
    ∙ ap (λ (s : Submessage). is_old t s) (sym c.in-Data.is))

pub returns-in-Heartbeat : goal.returns-in-Heartbeat
returns-in-Heartbeat c = λ t tracks.
    let here = subst (λ (k : ReaderKept). Tracks k.reader c.args.row t) (sym c.self.view_is) tracks in
    ap (λ (b : Bool). not b)
    (c.is_later.ensures.later t here
    ∙ ap (λ (n : ℤ). is_later t.count n) (to_z-of_z w32 c.in-Heartbeat.body.count (search rules)))
    ∙ ap (λ (s : Submessage). is_old t s) (sym c.in-Heartbeat.is)
