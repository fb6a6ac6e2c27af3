use Rattle.dds_cache.proofs.reader_cache.ReaderCache.leave.Goals as goal

pub returns-clause-ok : goal.returns-clause-ok
returns-clause-ok c = λ h stands matched. c.in_ok-skip.ensures.left h c.args.writer c.args.moment stands matched
