use Rattle.std.proofs.Common.{◌∙◌, ◌++◌, Bool, false, Option, ap, refl}
use Rattle.std.specs.Option.{option_to_list}
use Rattle.dds_base.specs.declared.guid.Guid.{Guid}
use Rattle.rtps_discovery.proofs.Lists.{filter_map-step}
use Rattle.rtps_matching.specs.declared.end.End.{End}
use Rattle.rtps_matching.specs.declared.told.Told.{Told}
use Rattle.rtps_matching.specs.Matches.{change, parting}
use Rattle.rtps_matching.proofs.endpoints.put_partings_with.Goals as goal

pub loop-end-preserved : goal.loop-end-preserved
loop-end-preserved c =
    filter_map-step (λ (o : End). parting o c.args.far.now) c.args.own.now c.loop-end.end-index c.end-item.result
    c.args.told.now.items c.loop-end.told.items c.put.new.told.items (parting c.end-item.result c.args.far.now)
    c.loop-end-test.true c.end-item.is refl c.loop-end.invariant
    (c.in_ok-put.ensures.ok ∙ ap (λ (o : Option Told). c.loop-end.told.items ++ option_to_list o)
    (c.change.ensures
    ∙ (ap (λ (g : Guid). change g c.args.far.now.guid c.is_matched.result false) c.guid.ensures.guid
    ∙ ap (λ (b : Bool). change c.end-item.result.endpoint.guid c.args.far.now.guid b false) c.is_matched.ensures)))
