use Rattle.std.proofs.Common.{◌≡◌, ℕ, Bool, true, false, sym, subst, ap, ◌∙◌}
use Rattle.std.specs.Prelude.{if◌then◌else◌, nat_le}
use Rattle.rtps_reader.specs.Reader.{Tracks}
use Rattle.rtps_reader.specs.Tracked.{may_take}
use Rattle.dds_ends.specs.Identity.{reliable_in}
use Rattle.dds_ends.specs.Kept.{ReaderKept}
use Rattle.dds_ends.proofs.reader_end.ReaderEnd.may_take.Goals as goal

pub returns-then-self : goal.returns-then-self
returns-then-self c = λ t tracks.
    let here = subst (λ (k : ReaderKept). Tracks k.reader c.args.row t) (sym c.self.view_is) tracks in
    let reliable : reliable_in c.args.self.now.store ≡ true =
    sym (ap (λ (k : ReaderKept). reliable_in k.store) c.self.view_is) ∙ (c.self.invariant.policy ∙ c.if-self.true) in
    c.may_take.ensures.takes t here
    ∙ ap (λ (b : Bool). if b then may_take t c.args.number else nat_le t.place c.args.number) (sym reliable)

pub returns-else-self : goal.returns-else-self
returns-else-self c = λ t tracks.
    let here = subst (λ (k : ReaderKept). Tracks k.reader c.args.row t) (sym c.self.view_is) tracks in
    let other : reliable_in c.args.self.now.store ≡ false =
    sym (ap (λ (k : ReaderKept). reliable_in k.store) c.self.view_is) ∙ (c.self.invariant.policy ∙ c.if-self.false) in
    ap (λ (n : ℕ). nat_le n c.number-else-self.result) (c.number.ensures.number ∙ c.place.ensures.place t here)
    ∙ (ap (λ (n : ℕ). nat_le t.place n) c.number-else-self.ensures.number
    ∙ ap (λ (b : Bool). if b then may_take t c.args.number else nat_le t.place c.args.number) (sym other))
