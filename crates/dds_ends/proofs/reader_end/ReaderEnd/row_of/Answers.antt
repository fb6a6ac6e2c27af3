use Rattle.std.proofs.Common.{ℕ, ap, subst, ◌∙◌}
use Rattle.std.specs.Prelude.{IfNone, List}
use Rattle.dds_ends.specs.declared.matching.WriterName.{WriterName}
use Rattle.dds_ends.specs.Kept.{ReaderKept}
use Rattle.dds_ends.specs.Readiness.{receiver_at, IsFirstName, writer_guid}
use Rattle.dds_ends.proofs.Named.{none_named}
use Rattle.dds_ends.proofs.reader_end.ReaderEnd.row_of.Goals as goal

pub returns-clause-none : goal.returns-clause-none
returns-clause-none c =
    none_named c.args.own.now c.args.self.now
    (receiver_at c.args.receiver.now) c.args.reader_id.now c.args.writer_id.now c.find.result
    (subst (λ (ns : List WriterName). IfNone c.find.result
    ((k : ℕ) → IsFirstName ns (writer_guid (receiver_at c.args.receiver.now) c.args.writer_id.now) k → ⊥))
    (c.deref.ensures.value ∙ ap (λ (k : ReaderKept). k.writers) c.self.view_is) c.find.ensures.none)
