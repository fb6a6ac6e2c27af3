use Rattle.std.proofs.Common.{◌≡◌, ℕ, ◌<◌, ◌≤◌, List, Some, length, ap, sym, subst, ◌∙◌, arith, rules}
use Rattle.std.specs.Int.{w32}
use Rattle.std.proofs.lemmas.Int.{to_z-of_z}
use Rattle.std.proofs.lemmas.Option.{same_Some, slice_get-get_or}
use Rattle.dds_base.specs.declared.change.Change.{Change}
use Rattle.dds_base.specs.declared.guid.EntityId.{EntityId}
use Rattle.dds_base.specs.declared.guid.GuidPrefix.{GuidPrefix}
use Rattle.rtps_writer.specs.declared.answer.Answer.{Answer}
use Rattle.dds_ends.specs.declared.answering.Answering.{Answering}
use Rattle.dds_ends.specs.declared.matching.ReaderName.{ReaderName}
use Rattle.dds_ends.specs.Answering.{AreAnswerable, TakesAckNack}
use Rattle.dds_ends.specs.Kept.{WriterKept}
use Rattle.dds_ends.specs.Standing.{AreShort}
use Rattle.dds_ends.proofs.WriterEnds.{kept_as}
use Rattle.dds_ends.proofs.Replies.{acknack_taken, after-changes, answerable, few_answers}
use Rattle.dds_ends.proofs.writer_end.WriterEnd.take_acknack.Goals as goal

abbrev answering_of : GuidPrefix → EntityId → ℕ → ReaderName → Answering
answering_of own entity most reader = record { own = own; entity = entity; reader = reader; max_value = most }

pub send_answers-requires-clause-can : goal.send_answers-requires-clause-can
send_answers-requires-clause-can c =
    let whole = c.self.invariant in
    subst (λ (xs : List Answer). AreAnswerable c.self.inside.max_value c.take_acknack-acknowledged.new.self xs) (sym c.as_slice.ensures.value)
    (answerable c.self.inside.max_value c.take_acknack-acknowledged.new.self whole.state c.args.row _ c.args.body.now.reader_sn_state _
    c.take_acknack-acknowledged.result.answers.items
    (c.take_acknack-acknowledged.ensures.stands whole.state whole.stands) whole.short c.requires.base
    (c.take_acknack-acknowledged.ensures.answers whole.state whole.stands))

pub send_answers-requires-clause-few : goal.send_answers-requires-clause-few
send_answers-requires-clause-few c =
    let whole = c.self.invariant in
    let few = few_answers whole.state c.args.row _ c.args.body.now.reader_sn_state _ in
    subst (λ (xs : List Answer). length xs ≤ 256)
    (sym (c.as_slice.ensures.value ∙ c.take_acknack-acknowledged.ensures.answers whole.state whole.stands)) few

pub invariant_of-self : goal.invariant_of-self
invariant_of-self c =
    let whole = c.self.invariant in
    record {
      limited = whole.limited;
      few_at = whole.few_at;
      matched_are = whole.matched_are;
      once = whole.once;
      among = whole.among;
      told = whole.told;
      few = whole.few;
      many = whole.many;
      count = c.mark_heard.ensures.readers ∙ (c.take_acknack-acknowledged.ensures.readers ∙ whole.count);
      state = _;
      stands =
          c.mark_heard.ensures.stands _ (c.take_acknack-acknowledged.ensures.stands whole.state whole.stands);
      short = subst (λ (cs : List Change). AreShort c.self.inside.max_value cs) (sym (after-changes whole.state c.args.row _ _)) whole.short;
    }

pub returns-clause-takes : goal.returns-clause-takes
returns-clause-takes c =
    let old : WriterKept =
    kept_as c.self.inside.entity c.self.inside.autodispose c.self.inside.max_value c.self.inside.known.items
    c.self.inside.matched.items c.self.inside.destinations.items c.self.inside.readers.items c.self.inside.counts.items
    c.self.inside.matches c.self.inside.writer in
    let within : c.args.row < length c.self.inside.readers.items =
    let row = c.requires.row in let same = ap (λ (k : WriterKept). length k.readers) c.self.view_is in
    omega (arith, row, same) in
    subst (λ (k : WriterKept). TakesAckNack k c.args.prefix c.args.row c.args.body.now c.args.sent.now
    (record old { writer = c.mark_heard.new.writer }) c.take_acknack-acknowledged.result.acknowledged
    c.send_answers.new.sent) c.self.view_is
    (acknack_taken old c.args.prefix c.args.row c.args.body.now c.args.sent.now c.take_acknack-acknowledged.new.self
    c.mark_heard.new.writer c.take_acknack-acknowledged.result.acknowledged c.send_answers.new.sent _ _
    c.applies-is_applied.result c.as_slice.result.now
    (answering_of c.args.prefix c.self.inside.entity c.self.inside.max_value c.index.result.now)
    c.base-base.ensures.base (to_z-of_z w32 c.args.body.now.count (search rules)) c.applies-is_applied.ensures.applied
    c.take_acknack-acknowledged.ensures.stands
    c.take_acknack-acknowledged.ensures.acknowledged
    (λ s given. c.as_slice.ensures.value ∙ c.take_acknack-acknowledged.ensures.answers s given)
    c.send_answers.ensures.sends c.mark_heard.ensures.stands
    (λ name at.
    let is : c.index.result.now ≡ name =
    same_Some c.index.result.now name
    (sym (slice_get-get_or c.self.inside.readers.items c.args.row _ within
    ∙ ap (λ (x : ReaderName). Some x) (sym c.index.ensures)) ∙ at) in
    ap (λ (x : ReaderName). answering_of c.args.prefix c.self.inside.entity c.self.inside.max_value x) is))
