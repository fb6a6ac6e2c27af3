use Rattle.std.proofs.Common.{◌≡◌, ◌∙◌, List, Option, Some, None, ℕ, ap, arith, false, sym}
use Rattle.std.specs.Prelude.{is_some}
use Rattle.dds_machine.specs.declared.reply.Move.{Move}
use Rattle.dds_core.specs.Moved.{AreCopies, CopiesKept, MovesKept}
use Rattle.dds_core.proofs.moves.Moves.take_report.Goals as goal
use Rattle.dds_core.proofs.moves.Moves.take_report.Goals.{then-is_some, else-is_some}

-- where there are none, they are those of anything
none_kept : (copies : Option CopiesKept) (items : List Move) (room : ℕ) → is_some copies ≡ false
    → AreCopies copies items room
none_kept None items room none = tt
none_kept (Some copies) items room none = absurd cc

pub invariant_of-self : goal.invariant_of-self
invariant_of-self c =
    let once : c.if-is_some.self.twice ≡ false = elim c.if-is_some.branch [
      | then-is_some w ↦ ap (λ (m : MovesKept). m.twice) w.self-is ∙ w.hand_on.ensures.once
      | else-is_some w ↦ ap (λ (m : MovesKept). m.twice) w.self-is
          ∙ sym (ap (λ (m : MovesKept). m.twice) c.self.view_is) ∙ sym w.if-is_some.ensures
    ] in
    let view : is_some c.self-2.inside.copies ≡ c.if-is_some.self.twice =
    ap (λ (m : MovesKept). m.twice) c.self-2.view_is in
    (omega (arith), none_kept c.self-2.inside.copies c.replace-moves.new.dest.items 0 (view ∙ once))
