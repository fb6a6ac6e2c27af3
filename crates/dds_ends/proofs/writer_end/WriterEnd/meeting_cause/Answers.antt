use Rattle.std.proofs.Common.{true, false, Some, None, refl, sym, ◌∙◌}
use Rattle.dds_ends.proofs.Meetings.{full_now, meeting_by}
use Rattle.dds_ends.proofs.writer_end.WriterEnd.meeting_cause.Goals as goal

pub returns-then-is_matched : goal.returns-then-is_matched
returns-then-is_matched c = record {
  cause =
      meeting_by c.args.self.now c.args.self.now c.args.reader _ true _ refl refl
      (sym c.is_matched-is_matched.ensures ∙ c.if-is_matched.true) refl;
}

pub returns-in-Some : goal.returns-in-Some
returns-in-Some c = record {
  cause =
      meeting_by c.args.self.now c.args.self.now c.args.reader (Some c.in-Some.field-0) false _ refl
      (sym c.knows.ensures ∙ c.in-Some.is) (sym c.is_matched-is_matched.ensures ∙ c.if-is_matched.false) refl;
}

pub returns-then-is_full : goal.returns-then-is_full
returns-then-is_full c = record {
  cause =
      meeting_by c.args.self.now c.args.self.now c.args.reader None false true refl
      (sym c.knows.ensures ∙ c.in_default.is) (sym c.is_matched-is_matched.ensures ∙ c.if-is_matched.false)
      (full_now c.args.reader.peer c.is_full.result true c.self.view_is c.as_slice.ensures.value c.is_full.ensures
      c.if-is_full.true);
}

pub returns : goal.returns
returns c = record {
  cause =
      meeting_by c.args.self.now c.args.self.now c.args.reader None false false refl
      (sym c.knows.ensures ∙ c.in_default.is) (sym c.is_matched-is_matched.ensures ∙ c.if-is_matched.false)
      (full_now c.args.reader.peer c.is_full.result false c.self.view_is c.as_slice.ensures.value c.is_full.ensures
      c.if-is_full.false);
}
