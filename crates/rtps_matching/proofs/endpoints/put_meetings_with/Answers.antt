use Rattle.std.proofs.Common.{◌∙◌, ◌++◌, Bool, true, Option, Some, ap, refl}
use Rattle.std.specs.Option.{option_to_list}
use Rattle.dds_base.specs.declared.guid.Guid.{Guid}
use Rattle.rtps_discovery.proofs.Lists.{filter_map-step}
use Rattle.rtps_matching.specs.declared.told.Told.{Told}
use Rattle.rtps_matching.specs.Matches.{change, change_of, is_matched}
use Rattle.rtps_matching.specs.Steps.{with_awake}
use Rattle.rtps_matching.proofs.endpoints.put_meetings_with.Goals as goal

pub loop-end-preserved : goal.loop-end-preserved
loop-end-preserved c =
    filter_map-step (change_of (Some c.args.far.now) (with_awake true c.args.far.now)) c.args.own.now
    c.loop-end.end-index c.end-item.result c.args.told.now.items c.loop-end.told.items c.put.new.told.items
    (change_of (Some c.args.far.now) (with_awake true c.args.far.now) c.end-item.result)
    c.loop-end-test.true c.end-item.is refl c.loop-end.invariant
    (c.in_ok-put.ensures.ok ∙ ap (λ (o : Option Told). c.loop-end.told.items ++ option_to_list o)
    (c.change.ensures
    ∙ (ap (λ (g : Guid). change g c.args.far.now.guid c.is_matched-was.result c.would_match-is.result) c.guid.ensures.guid
    ∙ (ap (λ (b : Bool). change c.end-item.result.endpoint.guid c.args.far.now.guid b c.would_match-is.result)
    c.is_matched-was.ensures
    ∙ ap (λ (b : Bool). change c.end-item.result.endpoint.guid c.args.far.now.guid
    (is_matched c.end-item.result c.args.far.now) b) c.would_match-is.ensures))))
