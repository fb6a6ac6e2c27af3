use Rattle.dds_base.proofs.Lists.{map-step}
use Rattle.dds_discovery.specs.Events.{link_anew}
use Rattle.dds_discovery.proofs.discovery.write_all_anew.Goals as goal

pub loop-link-preserved : goal.loop-link-preserved
loop-link-preserved c =
    map-step link_anew c.args.links.now c.loop-link.links c.loop-link.link-index _ _ c.loop-link-test.true
    c.loop-link.auto.links c.loop-link.invariant c.write_anew.ensures
