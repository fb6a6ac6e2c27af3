use Rattle.std.proofs.Common.{◌∙◌, ◌++◌, [], Bool, false, Option, ap, refl}
use Rattle.std.specs.Option.{option_to_list}
use Rattle.dds_base.specs.declared.guid.Guid.{Guid}
use Rattle.rtps_discovery.proofs.Lists.{filter_map-step}
use Rattle.rtps_matching.specs.declared.told.Told.{Told}
use Rattle.rtps_matching.specs.Matches.{change}
use Rattle.rtps_matching.specs.Steps.{meeting}
use Rattle.rtps_matching.proofs.endpoints.meetings_of.Goals as goal

pub loop-other-preserved : goal.loop-other-preserved
loop-other-preserved c =
    filter_map-step (meeting c.args.own.now) c.args.far.now c.loop-other.other-index c.other-item.result
    [] c.loop-other.told.items c.put.new.told.items (meeting c.args.own.now c.other-item.result)
    c.loop-other-test.true c.other-item.is refl c.loop-other.invariant
    (c.in_ok-put.ensures.ok ∙ ap (λ (o : Option Told). c.loop-other.told.items ++ option_to_list o)
    (c.change.ensures
    ∙ (ap (λ (g : Guid). change g c.other-item.result.guid false c.is_matched.result) c.guid.ensures.guid
    ∙ ap (λ (b : Bool). change c.args.own.now.endpoint.guid c.other-item.result.guid false b) c.is_matched.ensures)))
