use Rattle.std.proofs.Common.{◌∙◌, ap}
use Rattle.dds_notices.proofs.listener.BoxDynListenerSendListener.room.Goals as goal

pub returns : goal.returns
returns g c =
    record { capacity = c.room.ensures ∙ ap (λ p. (g.dyn-1.0.entry p.0).1.capacity p.1) c.deref_box-1.ensures.1 }
