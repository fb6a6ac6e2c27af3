use Rattle.std.proofs.Common.{ℤ, ap, sym, ◌∙◌, subst, w32}
use Rattle.std.proofs.lemmas.Int.{to_z-of_z}
use Rattle.rtps_writer.specs.Acknack.{acknack_answers, after_acknack, is_applied, newly_acknowledged}
use Rattle.rtps_writer.specs.Standing.{StandsFor}
use Rattle.rtps_writer.proofs.AcknackLaws.{answers-ignored}
use Rattle.rtps_writer.proofs.stateful_writer.StatefulWriter.on_acknack.Goals as goal

pub returns-then-not-applies-clause-answers : goal.returns-then-not-applies-clause-answers
returns-then-not-applies-clause-answers c = λ s given.
    c.new-room.ensures.items
    ∙ sym (answers-ignored s c.args.reader c.args.base c.args.set.now c.args.count
    (ap (λ (z : ℤ). is_applied s c.args.reader c.args.base z) (sym (to_z-of_z w32 c.args.count c.ranges.count))
    ∙ (sym (c.applies.ensures.applied s given) ∙ c.if-not-applies.true)))

pub returns-clause-stands : goal.returns-clause-stands
returns-clause-stands c = λ s given.
    subst (λ (z : ℤ). StandsFor c.take_acknack.new.self (after_acknack s c.args.reader c.args.base z))
    (to_z-of_z w32 c.args.count c.ranges.count) (c.take_acknack.ensures.stands s given)

pub returns-clause-acknowledged : goal.returns-clause-acknowledged
returns-clause-acknowledged c = λ s given.
    c.take_acknack.ensures.acknowledged s given
    ∙ ap (λ (z : ℤ). newly_acknowledged s (after_acknack s c.args.reader c.args.base z) c.args.reader)
    (to_z-of_z w32 c.args.count c.ranges.count)

pub returns-clause-answers : goal.returns-clause-answers
returns-clause-answers c = λ s given.
    c.take_acknack.ensures.answers s given
    ∙ ap (λ (z : ℤ). acknack_answers s c.args.reader c.args.base c.args.set.now z)
    (to_z-of_z w32 c.args.count c.ranges.count)
