use Rattle.std.proofs.Common.{ℕ, ◌<◌, ◌≤◌, Bool, true, false, List, ap, arith, length, rules, subst}
use Rattle.dds_base.specs.declared.code.Code.TheVariants.{OutOfResources, PreconditionNotMet}
use Rattle.dds_base.specs.declared.endpoint.Endpoint.{Endpoint}
use Rattle.dds_machine.specs.Matching.{max_known}
use Rattle.dds_ends.specs.declared.matching.WriterName.{WriterName}
use Rattle.dds_ends.specs.Kept.{ReaderKept}
use Rattle.dds_ends.specs.Standing.{HasNoRow, IsFirstRow}
use Rattle.dds_ends.proofs.Lists.{get-within}
use Rattle.dds_ends.proofs.MeetingWriters.{as_many, full_refusal, knows_refusal, meets_known, meets_new, new_accepted, on_rows, refused_for, refused_memory}
use Rattle.dds_ends.proofs.Parting.{IsMatchedSo}
use Rattle.dds_ends.proofs.reader_end.ReaderEnd.meet.Goals as goal

-- ---- one that it does not know

pub returns-then-row-ge-MAX_KNOWN-clause-refused : goal.returns-then-row-ge-MAX_KNOWN-clause-refused
returns-then-row-ge-MAX_KNOWN-clause-refused c =
    let many = c.if-row-ge-MAX_KNOWN.true in
    let count = as_many c.self.view_is c.self.inside.writers.ok.0 c.len-row.ensures in
    refused_for c.args.self.now c.args.name.writer OutOfResources
    (full_refusal c.args.self.now c.args.name.writer
    (on_rows (λ ns. HasNoRow ns c.args.name.writer) c.self.view_is c.as_slice.ensures.value c.in_default.ensures)
    (omega (arith, many, count)))

pub returns-in_err-know-clause-refused : goal.returns-in_err-know-clause-refused
returns-in_err-know-clause-refused c =
    let few = c.if-row-ge-MAX_KNOWN.false in
    let count = as_many c.self.view_is c.self.inside.writers.ok.0 c.len-row.ensures in
    refused_memory c.from_residual.result c.args.self.now c.args.name.writer
    (new_accepted c.args.self.now c.args.name.writer
    (on_rows (λ ns. HasNoRow ns c.args.name.writer) c.self.view_is c.as_slice.ensures.value c.in_default.ensures)
    (omega (arith, few, count))) (search rules)

pub returns-in_default-clause-ok : goal.returns-in_default-clause-ok
returns-in_default-clause-ok c =
    meets_new c.args.self.now c.know.new.self c.args.name c.args.as_writer c.len-row.result
    (on_rows (λ ns. HasNoRow ns c.args.name.writer) c.self.view_is c.as_slice.ensures.value c.in_default.ensures)
    (as_many c.self.view_is c.self.inside.writers.ok.0 c.len-row.ensures) c.in_ok-know.ensures.ok

pub returns-in_default-clause-accepted : goal.returns-in_default-clause-accepted
returns-in_default-clause-accepted c =
    let few = c.if-row-ge-MAX_KNOWN.false in
    let count = as_many c.self.view_is c.self.inside.writers.ok.0 c.len-row.ensures in
    new_accepted c.args.self.now c.args.name.writer
    (on_rows (λ ns. HasNoRow ns c.args.name.writer) c.self.view_is c.as_slice.ensures.value c.in_default.ensures)
    (omega (arith, few, count))

-- ---- one that it knows

within : (names : List WriterName) (w : Endpoint) (row : ℕ) → IsFirstRow names w row → row < length names
within names w row first = get-within names row first.name first.at

pub is_attached-requires : goal.is_attached-requires
is_attached-requires c =
    within c.args.self.now.writers c.args.name.writer c.in-Some.row
    (on_rows (λ ns. IsFirstRow ns c.args.name.writer c.in-Some.row) c.self.view_is c.as_slice.ensures.value
    c.in-Some.ensures)

pub returns-then-is_attached-clause-refused : goal.returns-then-is_attached-clause-refused
returns-then-is_attached-clause-refused c =
    refused_for c.args.self.now c.args.name.writer PreconditionNotMet
    (knows_refusal c.args.self.now c.args.name.writer c.in-Some.row true
    (on_rows (λ ns. IsFirstRow ns c.args.name.writer c.in-Some.row) c.self.view_is c.as_slice.ensures.value
    c.in-Some.ensures)
    (subst (λ (b : Bool). IsMatchedSo c.args.self.now c.in-Some.row b) c.if-is_attached.true
    c.is_attached.ensures.attached))

pub attach-requires : goal.attach-requires
attach-requires c =
    within c.args.self.now.writers c.args.name.writer c.in-Some.row
    (on_rows (λ ns. IsFirstRow ns c.args.name.writer c.in-Some.row) c.self.view_is c.as_slice.ensures.value
    c.in-Some.ensures)

pub returns-clause-ok : goal.returns-clause-ok
returns-clause-ok c =
    meets_known c.args.self.now c.attach.new.self c.args.name c.args.as_writer c.in-Some.row
    (on_rows (λ ns. IsFirstRow ns c.args.name.writer c.in-Some.row) c.self.view_is c.as_slice.ensures.value
    c.in-Some.ensures)
    c.attach.ensures.attaches

pub returns-clause-few : goal.returns-clause-few
returns-clause-few c =
    let many : length c.self.inside.writers.items ≤ max_known = c.self.invariant.many in
    let same = ap (λ (k : ReaderKept). length k.writers) c.self.view_is in
    let lt =
    within c.args.self.now.writers c.args.name.writer c.in-Some.row
    (on_rows (λ ns. IsFirstRow ns c.args.name.writer c.in-Some.row) c.self.view_is c.as_slice.ensures.value
    c.in-Some.ensures) in
    omega (arith, many, same, lt)

pub returns-clause-accepted : goal.returns-clause-accepted
returns-clause-accepted c =
    knows_refusal c.args.self.now c.args.name.writer c.in-Some.row false
    (on_rows (λ ns. IsFirstRow ns c.args.name.writer c.in-Some.row) c.self.view_is c.as_slice.ensures.value
    c.in-Some.ensures)
    (subst (λ (b : Bool). IsMatchedSo c.args.self.now c.in-Some.row b) c.if-is_attached.false
    c.is_attached.ensures.attached)
