use Rattle.std.proofs.Common.{Bool, true, false, arith, subst}
use Rattle.dds_ends.specs.Standing.{HasNoRow, IsFirstRow}
use Rattle.dds_ends.proofs.Lists.{get-within}
use Rattle.dds_ends.proofs.MeetingWriters.{as_many, full_refusal, knows_refusal, new_accepted, on_rows}
use Rattle.dds_ends.proofs.Parting.{IsMatchedSo}
use Rattle.dds_ends.proofs.reader_end.ReaderEnd.meeting_cause.Goals as goal

-- ---- one that it does not know

pub returns-then-len-ge-MAX_KNOWN : goal.returns-then-len-ge-MAX_KNOWN
returns-then-len-ge-MAX_KNOWN c =
    let many = c.if-len-ge-MAX_KNOWN.true in
    let count = as_many c.self.view_is c.self.inside.writers.ok.0 c.len.ensures in
    record {
      cause =
          full_refusal c.args.self.now c.args.writer
          (on_rows (λ ns. HasNoRow ns c.args.writer) c.self.view_is c.as_slice.ensures.value c.in_default.ensures)
          (omega (arith, many, count));
    }

pub returns-in_default : goal.returns-in_default
returns-in_default c =
    let few = c.if-len-ge-MAX_KNOWN.false in
    let count = as_many c.self.view_is c.self.inside.writers.ok.0 c.len.ensures in
    record {
      cause =
          new_accepted c.args.self.now c.args.writer
          (on_rows (λ ns. HasNoRow ns c.args.writer) c.self.view_is c.as_slice.ensures.value c.in_default.ensures)
          (omega (arith, few, count));
    }

-- ---- one that it knows

pub is_attached-is_matched-requires : goal.is_attached-is_matched-requires
is_attached-is_matched-requires c =
    let first : IsFirstRow c.args.self.now.writers c.args.writer c.in-Some.row =
    on_rows (λ ns. IsFirstRow ns c.args.writer c.in-Some.row) c.self.view_is c.as_slice.ensures.value c.in-Some.ensures in
    get-within c.args.self.now.writers c.in-Some.row first.name first.at

pub returns-then-is_matched : goal.returns-then-is_matched
returns-then-is_matched c = record {
  cause =
      knows_refusal c.args.self.now c.args.writer c.in-Some.row true
      (on_rows (λ ns. IsFirstRow ns c.args.writer c.in-Some.row) c.self.view_is c.as_slice.ensures.value
      c.in-Some.ensures)
      (subst (λ (b : Bool). IsMatchedSo c.args.self.now c.in-Some.row b) c.if-is_matched.true
      c.is_attached-is_matched.ensures.attached);
}

pub returns : goal.returns
returns c = record {
  cause =
      knows_refusal c.args.self.now c.args.writer c.in-Some.row false
      (on_rows (λ ns. IsFirstRow ns c.args.writer c.in-Some.row) c.self.view_is c.as_slice.ensures.value
      c.in-Some.ensures)
      (subst (λ (b : Bool). IsMatchedSo c.args.self.now c.in-Some.row b) c.if-is_matched.false
      c.is_attached-is_matched.ensures.attached);
}
