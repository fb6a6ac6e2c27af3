use Rattle.dds_cache.proofs.PushLaws.{holds-fresh}
use Rattle.dds_cache.proofs.pushing.push_out_by_write.Goals as goal

pub returns-then-is_alone-clause-holds : goal.returns-then-is_alone-clause-holds
returns-then-is_alone-clause-holds c = λ table h is_known up but.
    holds-fresh c.args.qos.now table h c.args.known.now.key c.args.samples.now.items (up c.if-is_alone.true) but
