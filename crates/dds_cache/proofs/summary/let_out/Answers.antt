use Rattle.dds_cache.proofs.SummaryLaws.{counted-out}
use Rattle.dds_cache.proofs.summary.let_out.Goals as goal

pub returns-clause-counted : goal.returns-clause-counted
returns-clause-counted c =
    counted-out c.args.samples.now.items c.args.place c.index_mut-kept.result.now c.take_out.new.self
    c.args.summary.now c.count_out.new.self c.requires.within c.index_mut-kept.ensures.value c.take_out.ensures.left
    c.requires.counted c.count_out.ensures.outs c.count_out.ensures.reads c.count_out.ensures.writes
    c.count_out.ensures.chains
