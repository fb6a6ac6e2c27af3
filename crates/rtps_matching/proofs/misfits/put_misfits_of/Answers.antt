use Rattle.std.proofs.Common.{◌∙◌, ◌++◌, Option, ap, refl}
use Rattle.std.specs.Option.{option_to_list}
use Rattle.rtps_discovery.proofs.Lists.{filter_map-step}
use Rattle.rtps_matching.specs.declared.told.Misfitting.{Misfitting}
use Rattle.rtps_matching.specs.Misfits.{misfitting}
use Rattle.rtps_matching.proofs.misfits.put_misfits_of.Goals as goal

pub loop-other-preserved : goal.loop-other-preserved
loop-other-preserved c =
    filter_map-step (misfitting c.args.own.now) c.args.far.now c.loop-other.other-index c.other-item.result
    c.args.found.now.items c.loop-other.found.items c.put.new.found.items (misfitting c.args.own.now c.other-item.result)
    c.loop-other-test.true c.other-item.is refl c.loop-other.invariant
    (c.in_ok-put.ensures.ok ∙ ap (λ (o : Option Misfitting). c.loop-other.found.items ++ option_to_list o) c.misfitting.ensures)
