use Rattle.std.proofs.Common.{true, false, Some, None, refl, sym, ◌∙◌}
use Rattle.dds_base.specs.declared.code.Code.TheVariants.{OutOfResources, PreconditionNotMet}
use Rattle.dds_ends.specs.Meeting.{meeting_refusal}
use Rattle.dds_ends.proofs.Meetings.{full_now, may_join, meeting_by, meets_known, meets_new}
use Rattle.dds_ends.proofs.Refusing.{for_cause, memory_refused}
use Rattle.dds_ends.proofs.Results.{ok_from, on_ok}
use Rattle.dds_ends.proofs.writer_end.WriterEnd.meet.Goals as goal

pub returns-then-is_matched-clause-refused : goal.returns-then-is_matched-clause-refused
returns-then-is_matched-clause-refused c = λ w answered s.
    for_cause (meeting_refusal w c.args.name.reader) PreconditionNotMet
    (meeting_by c.args.self.now c.args.self.now c.args.name.reader _ true _ refl refl
    (sym c.is_matched.ensures ∙ c.if-is_matched.true) refl w answered s)

-- ---- one that it knows

pub attach-requires : goal.attach-requires
attach-requires c =
    record {
      may =
          may_join c.args.self.now c.args.name.reader c.in-Some.known (sym c.knows.ensures ∙ c.in-Some.is)
          (sym c.is_matched.ensures ∙ c.if-is_matched.false);
    }

pub returns-in-Some-clause-ok : goal.returns-in-Some-clause-ok
returns-in-Some-clause-ok c =
    ok_from c.attach.result
    (meets_known c.args.self.now c.args.name c.args.is_reliable c.in-Some.known c.args.greeted c.attach.new.self
    (sym c.knows.ensures ∙ c.in-Some.is)) c.attach.ensures.ok

pub returns-in-Some-clause-accepted : goal.returns-in-Some-clause-accepted
returns-in-Some-clause-accepted c =
    on_ok c.attach.result
    (meeting_by c.args.self.now c.args.self.now c.args.name.reader (Some c.in-Some.known) false _ refl
    (sym c.knows.ensures ∙ c.in-Some.is) (sym c.is_matched.ensures ∙ c.if-is_matched.false) refl)

pub returns-in-Some-clause-refused : goal.returns-in-Some-clause-refused
returns-in-Some-clause-refused c =
    memory_refused meeting_refusal c.attach.result c.args.self.now c.args.name.reader
    (meeting_by c.args.self.now c.args.self.now c.args.name.reader (Some c.in-Some.known) false _ refl
    (sym c.knows.ensures ∙ c.in-Some.is) (sym c.is_matched.ensures ∙ c.if-is_matched.false) refl)
    c.attach.ensures.memory

-- ---- one that it does not know

pub returns-then-is_full-clause-refused : goal.returns-then-is_full-clause-refused
returns-then-is_full-clause-refused c = λ w answered s.
    for_cause (meeting_refusal w c.args.name.reader) OutOfResources
    (meeting_by c.args.self.now c.args.self.now c.args.name.reader None false true refl
    (sym c.knows.ensures ∙ c.in_default.is) (sym c.is_matched.ensures ∙ c.if-is_matched.false)
    (full_now c.args.name.reader.peer c.is_full.result true c.self.view_is c.as_slice.ensures.value c.is_full.ensures
    c.if-is_full.true) w answered s)

pub returns-clause-ok : goal.returns-clause-ok
returns-clause-ok c =
    ok_from c.attach-2.result
    (meets_new c.args.self.now (record { name = c.args.name; is_reliable = c.args.is_reliable }) c.args.greeted
    c.attach-2.new.self) c.attach-2.ensures.ok

pub returns-clause-accepted : goal.returns-clause-accepted
returns-clause-accepted c =
    on_ok c.attach-2.result
    (meeting_by c.args.self.now c.args.self.now c.args.name.reader None false false refl
    (sym c.knows.ensures ∙ c.in_default.is) (sym c.is_matched.ensures ∙ c.if-is_matched.false)
    (full_now c.args.name.reader.peer c.is_full.result false c.self.view_is c.as_slice.ensures.value c.is_full.ensures
    c.if-is_full.false))

pub returns-clause-refused : goal.returns-clause-refused
returns-clause-refused c =
    memory_refused meeting_refusal c.attach-2.result c.args.self.now c.args.name.reader
    (meeting_by c.args.self.now c.args.self.now c.args.name.reader None false false refl
    (sym c.knows.ensures ∙ c.in_default.is) (sym c.is_matched.ensures ∙ c.if-is_matched.false)
    (full_now c.args.name.reader.peer c.is_full.result false c.self.view_is c.as_slice.ensures.value c.is_full.ensures
    c.if-is_full.false))
    c.attach-2.ensures.memory
