use Rattle.dds_cache.proofs.PushLaws.{holds-unknown}
use Rattle.dds_cache.proofs.pushing.push_out.Goals as goal

pub returns-in-None-clause-holds : goal.returns-in-None-clause-holds
returns-in-None-clause-holds c = λ h but.
    holds-unknown c.args.qos.now c.args.instances.now h c.args.key c.args.samples.now.items
    (c.in-None.ensures.key c.args.qos.now h but.instances) but
