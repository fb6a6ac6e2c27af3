use Rattle.std.proofs.Common.{ℕ, ℤ, Some, set, ap, sym, ◌∙◌, w32}
use Rattle.std.proofs.lemmas.Int.{to_z-of_z}
use Rattle.dds_base.specs.Kept.{acknowledge}
use Rattle.rtps_writer.specs.Acknack.{if_later}
use Rattle.rtps_writer.specs.WriterState.{acknowledged_by, history_of}
use Rattle.rtps_writer.proofs.AcknackLaws.{acknack-stands}
use Rattle.rtps_writer.proofs.Parts.{history_at, stands_as}
use Rattle.rtps_writer.proofs.stateful_writer.StatefulWriter.apply.Goals as goal

pub returns-clause-stands : goal.returns-clause-stands
returns-clause-stands c = λ s given.
    let h = history_at _ c.args.self.now s c.self.view_is given in
    acknack-stands _ s c.args.reader c.args.base c.args.count c.acked.new.self _
    (stands_as c.args.self.now _ s (sym c.self.view_is) given)
    (c.acked.ensures.stands (history_of s) h)
    (ap (λ (z : ℤ). set c.self.inside.counts.items c.args.reader (Some z))
    (to_z-of_z w32 c.args.count c.ranges.count))

pub returns-clause-acknowledged : goal.returns-clause-acknowledged
returns-clause-acknowledged c = λ s given.
    let h = history_at _ c.args.self.now s c.self.view_is given in
    let moved = c.acked.ensures.stands (history_of s) h in
    c.if_later.ensures
    ∙ (ap (λ (n : ℕ). if_later n c.acknowledged-after.result)
    (c.acknowledged-before.ensures.acknowledged (history_of s) h)
    ∙ ap (λ (n : ℕ). if_later (acknowledged_by s c.args.reader) n)
    (c.acknowledged-after.ensures.acknowledged (acknowledge (history_of s) c.args.reader c.args.base) moved))
