use Rattle.dds_cache.proofs.reader_cache.ReaderCache.hear.Goals as goal

pub returns-clause-ok : goal.returns-clause-ok
returns-clause-ok c = λ h stands matched. c.in_ok-skip.ensures.heard h c.args.writer c.args.moment stands matched
