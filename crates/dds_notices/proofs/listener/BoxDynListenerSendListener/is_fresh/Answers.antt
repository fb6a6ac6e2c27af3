use Rattle.std.proofs.Common.{◌≡◌, [], subst}
use Rattle.std.specs.Prelude.{◌↔◌, IsTrue}
use Rattle.dds_notices.proofs.listener.BoxDynListenerSendListener.is_fresh.Goals as goal

pub returns : goal.returns
returns g c =
    record {
      fresh = subst (λ p. IsTrue c.is_fresh.result ↔ ((g.dyn-1.0.entry p.0).1.notices p.1 ≡ []))
          c.deref_box-1.ensures.1 c.is_fresh.ensures;
    }
