use Rattle.std.proofs.Common.{◌∙◌, ap}
use Rattle.std.specs.Prelude.{slice_get}
use Rattle.dds_notices.proofs.listener.BoxDynListenerSendListener.held.Goals as goal

pub returns : goal.returns
returns g c =
    record {
      notice = c.held.ensures
          ∙ ap (λ p. slice_get ((g.dyn-1.0.entry p.0).1.notices p.1) c.args.at) c.deref_box-1.ensures.1;
    }
