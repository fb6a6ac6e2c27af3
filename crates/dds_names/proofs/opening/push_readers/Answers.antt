use Rattle.std.proofs.Common.{get_or, rules}
use Rattle.dds_base.specs.Matched.{is_reliable_reader}
use Rattle.dds_base.specs.declared.config.ReaderConfig.{ReaderConfig}
use Rattle.dds_names.proofs.OpeningLaws.{named_so, names_more}
use Rattle.dds_names.proofs.opening.push_readers.Goals as goal

pub loop-index-preserved : goal.loop-index-preserved
loop-index-preserved c =
    names_more (λ (r : ReaderConfig). r.entity) is_reliable_reader c.args.prefix c.args.number c.loop-index.index
    c.args.readers.now _ c.loop-index.all.items c.push.new.self.items _ _ (search rules) c.in_ok-push.ensures.items
    (named_so (λ (r : ReaderConfig). r.entity) is_reliable_reader c.args.prefix c.args.number c.loop-index.index
    (get_or c.args.readers.now c.loop-index.index _) _ c.is_reliable.ensures.reliable)
    c.loop-index.invariant
