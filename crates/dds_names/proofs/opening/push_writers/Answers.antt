use Rattle.std.proofs.Common.{true, refl, rules}
use Rattle.dds_base.specs.declared.config.WriterConfig.{WriterConfig}
use Rattle.dds_names.proofs.OpeningLaws.{names_more}
use Rattle.dds_names.proofs.opening.push_writers.Goals as goal

pub loop-index-preserved : goal.loop-index-preserved
loop-index-preserved c =
    names_more (λ (w : WriterConfig). w.entity) (λ w. true) c.args.prefix c.args.number c.loop-index.index
    c.args.writers.now _ c.loop-index.all.items c.push.new.self.items _ _ (search rules) c.in_ok-push.ensures.items refl
    c.loop-index.invariant
