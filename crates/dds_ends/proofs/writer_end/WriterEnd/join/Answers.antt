use Rattle.std.proofs.Common.{true, false, Some, refl, sym, ◌∙◌}
use Rattle.dds_base.specs.declared.code.Code.TheVariants.{BadParameter, PreconditionNotMet}
use Rattle.dds_ends.specs.Coming.{joining_refusal}
use Rattle.dds_ends.proofs.Meetings.{joins_known, may_join}
use Rattle.dds_ends.proofs.Refusing.{for_cause, joining_by, joining_unknown, memory_refused}
use Rattle.dds_ends.proofs.Results.{on_ok, ok_from}
use Rattle.dds_ends.proofs.writer_end.WriterEnd.join.Goals as goal

pub returns-in_default-clause-refused : goal.returns-in_default-clause-refused
returns-in_default-clause-refused c = λ w answered s.
    for_cause (joining_refusal w c.args.reader) BadParameter
    (joining_unknown c.args.self.now c.args.self.now c.args.reader refl
    (sym c.knows.ensures ∙ c.in_default.is) w answered s)

pub returns-then-is_matched-clause-refused : goal.returns-then-is_matched-clause-refused
returns-then-is_matched-clause-refused c = λ w answered s.
    for_cause (joining_refusal w c.args.reader) PreconditionNotMet
    (joining_by c.args.self.now c.args.self.now c.args.reader (Some c.in-Some.known) true refl
    (sym c.knows.ensures ∙ c.in-Some.is) (sym c.is_matched.ensures ∙ c.if-is_matched.true) w answered s)

pub attach-requires : goal.attach-requires
attach-requires c =
    record {
      may =
          may_join c.args.self.now c.args.reader c.in-Some.known (sym c.knows.ensures ∙ c.in-Some.is)
          (sym c.is_matched.ensures ∙ c.if-is_matched.false);
    }

pub returns-clause-ok : goal.returns-clause-ok
returns-clause-ok c =
    ok_from c.attach.result
    (joins_known c.args.self.now c.args.reader c.in-Some.known c.args.greeted c.attach.new.self
    (sym c.knows.ensures ∙ c.in-Some.is)) c.attach.ensures.ok

pub returns-clause-accepted : goal.returns-clause-accepted
returns-clause-accepted c =
    on_ok c.attach.result
    (joining_by c.args.self.now c.args.self.now c.args.reader (Some c.in-Some.known) false refl
    (sym c.knows.ensures ∙ c.in-Some.is) (sym c.is_matched.ensures ∙ c.if-is_matched.false))

pub returns-clause-refused : goal.returns-clause-refused
returns-clause-refused c =
    memory_refused joining_refusal c.attach.result c.args.self.now c.args.reader
    (joining_by c.args.self.now c.args.self.now c.args.reader (Some c.in-Some.known) false refl
    (sym c.knows.ensures ∙ c.in-Some.is) (sym c.is_matched.ensures ∙ c.if-is_matched.false)) c.attach.ensures.memory
