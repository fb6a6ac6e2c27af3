use Rattle.dds_base.proofs.Lists.{map-step}
use Rattle.dds_discovery.specs.Events.{link_gone_on}
use Rattle.dds_discovery.proofs.discovery.go_on.Goals as goal

pub loop-link-preserved : goal.loop-link-preserved
loop-link-preserved c =
    map-step (link_gone_on c.args.time c.args.speaks) c.args.links.now c.loop-link.links c.loop-link.link-index _ _
    c.loop-link-test.true c.loop-link.auto.links c.loop-link.invariant c.link_goes_on.ensures
