use Rattle.dds_cache.proofs.reader_cache.ReaderCache.pass.Goals as goal

pub returns-clause-ok : goal.returns-clause-ok
returns-clause-ok c = λ h stands matched. c.in_ok-skip.ensures.passed h c.args.writer c.args.first c.args.last stands matched
