use Rattle.std.proofs.Common.{◌≡◌, false, sym, subst}
use Rattle.dds_notices.specs.declared.slot.Slot.{Slot}
use Rattle.dds_notices.specs.Listeners.{ByEntity, is_any}
use Rattle.dds_notices.proofs.ListenerLaws.{nobody_is_none}
use Rattle.dds_notices.proofs.slots.Slots.open.Goals as goal

pub invariant_of-result : goal.invariant_of-result
invariant_of-result g c = λ unset.
    subst (λ (all : ByEntity (Slot g.row.L.Denot)). is_any all ≡ false) (sym c.in_ok-unset.ensures)
    (nobody_is_none (Slot g.row.L.Denot) c.args.writers c.args.readers)
