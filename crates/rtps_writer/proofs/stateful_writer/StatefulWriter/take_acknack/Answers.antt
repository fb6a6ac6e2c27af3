use Rattle.std.proofs.Common.{ℤ, ap, sym, ◌∙◌, subst, w32}
use Rattle.std.proofs.lemmas.Int.{to_z-of_z}
use Rattle.rtps_writer.specs.Acknack.{acknack_answers, after_acknack, is_applied, newly_acknowledged}
use Rattle.rtps_writer.specs.Standing.{StandsFor}
use Rattle.rtps_writer.proofs.AcknackLaws.{answers-applied, answers-ignored, newly-applied, stands-applied}
use Rattle.rtps_writer.proofs.stateful_writer.StatefulWriter.take_acknack.Goals as goal

pub returns-then-applies-clause-stands : goal.returns-then-applies-clause-stands
returns-then-applies-clause-stands c = λ s given.
    subst (λ (z : ℤ). StandsFor c.apply-acknowledged.new.self (after_acknack s c.args.reader c.args.base z))
    (to_z-of_z w32 c.args.count c.ranges.count)
    (stands-applied _ s c.args.reader c.args.base _ (sym (c.applies.ensures.applied s given) ∙ c.if-applies.true)
    (c.apply-acknowledged.ensures.stands s given))

pub returns-then-applies-clause-acknowledged : goal.returns-then-applies-clause-acknowledged
returns-then-applies-clause-acknowledged c = λ s given.
    newly-applied s c.args.reader c.args.base _ _ (sym (c.applies.ensures.applied s given) ∙ c.if-applies.true)
    (c.apply-acknowledged.ensures.acknowledged s given)
    ∙ ap (λ (z : ℤ). newly_acknowledged s (after_acknack s c.args.reader c.args.base z) c.args.reader)
    (to_z-of_z w32 c.args.count c.ranges.count)

pub returns-then-applies-clause-answers : goal.returns-then-applies-clause-answers
returns-then-applies-clause-answers c = λ s given.
    answers-applied s c.args.reader c.args.base c.args.set.now _ _
    (sym (c.applies.ensures.applied s given) ∙ c.if-applies.true)
    (c.answer.ensures _ (c.apply-acknowledged.ensures.stands s given))
    ∙ ap (λ (z : ℤ). acknack_answers s c.args.reader c.args.base c.args.set.now z)
    (to_z-of_z w32 c.args.count c.ranges.count)

pub returns-else-applies-clause-answers : goal.returns-else-applies-clause-answers
returns-else-applies-clause-answers c = λ s given.
    c.requires.none
    ∙ sym (answers-ignored s c.args.reader c.args.base c.args.set.now c.args.count
    (ap (λ (z : ℤ). is_applied s c.args.reader c.args.base z) (sym (to_z-of_z w32 c.args.count c.ranges.count))
    ∙ (sym (c.applies.ensures.applied s given) ∙ c.if-applies.false)))
