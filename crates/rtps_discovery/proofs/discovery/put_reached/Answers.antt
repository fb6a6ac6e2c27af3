use Rattle.std.proofs.Common.{◌∙◌, ◌++◌, Option, ap, refl}
use Rattle.std.specs.Option.{option_to_list}
use Rattle.rtps_announcements.specs.declared.locator.Locator.{Locator}
use Rattle.rtps_discovery.specs.Rows.{reach}
use Rattle.rtps_discovery.proofs.Lists.{filter_map-step}
use Rattle.rtps_discovery.proofs.discovery.put_reached.Goals as goal

pub loop-row-preserved : goal.loop-row-preserved
loop-row-preserved c =
    filter_map-step reach c.args.rows.now c.loop-row.row-index c.row-item.result c.args.addresses.now.items
    c.loop-row.addresses.items c.put_address.new.addresses.items (reach c.row-item.result) c.loop-row-test.true
    c.row-item.is refl c.loop-row.invariant
    (c.in_ok-put_address.ensures.ok
    ∙ ap (λ (o : Option Locator). c.loop-row.addresses.items ++ option_to_list o) c.reach.ensures)
