use Rattle.std.proofs.Common.{ap, sym, ◌∙◌}
use Rattle.dds_base.specs.FaultAt.{is_unfit}
use Rattle.dds_base.specs.declared.config_rules.PairPolicy.{PairPolicy}
use Rattle.dds_base.proofs.PairLaws.{unfit-owner, unfit-reliability}
use Rattle.dds_base.proofs.config_rules.is_unfit.Goals as goal

pub returns-in-Ownership : goal.returns-in-Ownership
returns-in-Ownership c =
    c.is_not_offered.ensures
    ∙ (unfit-owner c.args.writer.now c.args.reader.now
    ∙ ap (λ (policy : PairPolicy). is_unfit policy c.args.writer.now c.args.reader.now) (sym c.in-Ownership.is))

pub returns-in-Reliability : goal.returns-in-Reliability
returns-in-Reliability c =
    c.is_not_offered-in-Reliability.ensures
    ∙ (unfit-reliability c.args.writer.now c.args.reader.now
    ∙ ap (λ (policy : PairPolicy). is_unfit policy c.args.writer.now c.args.reader.now) (sym c.in-Reliability.is))
