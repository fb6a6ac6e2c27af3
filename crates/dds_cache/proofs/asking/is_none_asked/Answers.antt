use Rattle.dds_cache.proofs.CountLaws.{unmet-instances, unmet-unasked}
use Rattle.dds_cache.proofs.KeptLaws.{not-true}
use Rattle.dds_cache.proofs.asking.is_none_asked.Goals as goal

pub returns-then-exclude : goal.returns-then-exclude
returns-then-exclude c = λ q h holds same.
    unmet-unasked q h c.args.masks c.args.samples.now holds.each
    (c.exclude.ensures c.requires.counted c.if-exclude.true)

pub returns-then-len-samples : goal.returns-then-len-samples
returns-then-len-samples c = λ q h holds same.
    unmet-instances q h c.args.masks c.args.samples.now holds.each
    (c.asks_for_any.ensures q h holds.instances (not-true c.asks_for_any.result same))
