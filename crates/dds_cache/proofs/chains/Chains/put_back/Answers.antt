use Rattle.dds_cache.proofs.chains.Chains.put_back.Goals as goal

pub returns-then-is_at-clause-spans : goal.returns-then-is_at-clause-spans
returns-then-is_at-clause-spans c = λ ok.
    let there = c.is_at.ensures c.if-is_at.true in
    c.replace_at.ensures.spans c.args.latest.key there.0 there.1
