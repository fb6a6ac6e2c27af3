use Rattle.std.proofs.Common.{◌∙◌, ◌++◌, Bool, Option, ap, refl}
use Rattle.std.specs.Option.{option_copied, option_to_list}
use Rattle.dds_base.specs.declared.guid.Guid.{Guid}
use Rattle.rtps_discovery.proofs.Lists.{filter_map-step}
use Rattle.rtps_matching.specs.declared.told.Told.{Told}
use Rattle.rtps_matching.specs.Matches.{change, change_of, was_matched}
use Rattle.rtps_matching.proofs.endpoints.put_changes.Goals as goal

pub loop-end-preserved : goal.loop-end-preserved
loop-end-preserved c =
    filter_map-step (change_of (option_copied c.args.old) c.args.new.now) c.args.own.now c.loop-end.end-index
    c.end-item.result c.args.told.now.items c.loop-end.told.items c.put.new.told.items
    (change_of (option_copied c.args.old) c.args.new.now c.end-item.result)
    c.loop-end-test.true c.end-item.is refl c.loop-end.invariant
    (c.in_ok-put.ensures.ok ∙ ap (λ (o : Option Told). c.loop-end.told.items ++ option_to_list o)
    (c.change.ensures
    ∙ (ap (λ (g : Guid). change g c.args.new.now.guid c.was_matched-was.result c.is_matched-is.result) c.guid.ensures.guid
    ∙ (ap (λ (b : Bool). change c.end-item.result.endpoint.guid c.args.new.now.guid b c.is_matched-is.result)
    c.was_matched-was.ensures
    ∙ ap (λ (b : Bool). change c.end-item.result.endpoint.guid c.args.new.now.guid
    (was_matched c.end-item.result (option_copied c.args.old)) b) c.is_matched-is.ensures))))
