use Rattle.std.proofs.Common.{◌≡◌, ℕ, ◌<◌, List, Some, false, length, slice_get, refl, rules, subst, sym, ◌∙◌}
use Rattle.std.proofs.lemmas.Option.{slice_get_read}
use Rattle.dds_base.specs.Number.{is_number}
use Rattle.dds_machine.specs.declared.call.Call.TheVariants as call
use Rattle.dds_protocol.specs.declared.event.Event.TheVariants as event
use Rattle.dds_ends.specs.declared.matching.WriterName.{WriterName}
use Rattle.dds_core.specs.Kept.{PeerKept}
use Rattle.dds_core.proofs.CallSteps.{Follows, follows_as, still_stands}
use Rattle.dds_core.proofs.MatchedWriters.{matched_already, matches_writer, met_again, no_reader_matched, no_writer_matched, row_again}
use Rattle.dds_core.proofs.peer.Peer.match_writer.Goals as goal

pub returns-in_default-clause-step : goal.returns-in_default-clause-step
returns-in_default-clause-step c = λ roster peer given.
    let none : is_number c.args.reader (length c.self.inside.readers.items) ≡ false =
    subst (λ (n : ℕ). is_number c.args.reader n ≡ false) (c.len.ensures ∙ c.self.inside.readers.ok.0)
    c.in_default.ensures.index in
    subst (λ (k : PeerKept). Follows k roster peer (event.Call (call.MatchWriter c.args.reader c.args.writer)) c.refused.result)
    c.self.view_is
    (follows_as _ roster peer _ _ _ c.refused.ensures
    (no_reader_matched _ roster peer c.args.reader c.args.writer (still_stands c.self.view_is given) none))

pub returns-in_default-writer_row_among-clause-step : goal.returns-in_default-writer_row_among-clause-step
returns-in_default-writer_row_among-clause-step c = λ roster peer given.
    let within : c.in-Some.index < length c.self.inside.readers.items = search rules in
    subst (λ (k : PeerKept). Follows k roster peer (event.Call (call.MatchWriter c.args.reader c.args.writer)) c.refused-in_default-writer_row_among.result)
    c.self.view_is
    (follows_as _ roster peer _ _ _ c.refused-in_default-writer_row_among.ensures
    (no_writer_matched _ roster peer c.args.reader c.in-Some.index c.index.result.now c.args.writer
    (still_stands c.self.view_is given) c.in-Some.ensures.index.0 (slice_get_read _ _ _ _ refl within c.index.ensures)
    (λ j n there. c.in_default-writer_row_among.ensures j n
    (subst (λ (ns : List WriterName). slice_get ns j ≡ Some n) (sym c.writers.ensures) there))))

pub returns-then-is_attached-clause-step : goal.returns-then-is_attached-clause-step
returns-then-is_attached-clause-step c = λ roster peer given.
    let within : c.in-Some.index < length c.self.inside.readers.items = search rules in
    let first : slice_get c.self.inside.readers.items c.in-Some.index ≡ Some c.index.result.now =
    slice_get_read _ _ _ _ refl within c.index.ensures in
    let second : slice_get c.self.inside.readers.items c.in-Some.index ≡ Some c.index-2.result.now =
    slice_get_read _ _ _ _ refl within c.index-2.ensures in
    subst (λ (k : PeerKept). Follows k roster peer (event.Call (call.MatchWriter c.args.reader c.args.writer)) c.refused-then-is_attached.result)
    c.self.view_is
    (follows_as _ roster peer _ _ _ c.refused-then-is_attached.ensures
    (matched_already _ roster peer c.args.reader c.in-Some.index c.in-Some-writer_row_among.row c.index-2.result.now
    c.args.writer c.is_attached.result (still_stands c.self.view_is given) c.in-Some.ensures.index.0 second
    (row_again c.self.inside.readers.items c.in-Some.index first second c.writers.ensures c.in-Some-writer_row_among.ensures) c.is_attached.ensures.attached
    c.if-is_attached.true))

pub returns-clause-step : goal.returns-clause-step
returns-clause-step c = λ roster peer given.
    let within : c.in-Some.index < length c.self.inside.readers.items = search rules in
    let first : slice_get c.self.inside.readers.items c.in-Some.index ≡ Some c.index.result.now =
    slice_get_read _ _ _ _ refl within c.index.ensures in
    let second : slice_get c.self.inside.readers.items c.in-Some.index ≡ Some c.index-2.result.now =
    slice_get_read _ _ _ _ refl within c.index-2.ensures in
    let at : slice_get c.self.inside.readers.items c.in-Some.index ≡ Some c.index_mut.result.now =
    slice_get_read _ _ _ _ refl within c.index_mut.ensures.value in
    follows_as _ roster peer _ _ _ c.answered.ensures
    (matches_writer _ roster peer c.args.reader c.in-Some.index c.in-Some-writer_row_among.row c.index_mut.result.now
    c.attach.new.self c.args.writer c.is_attached.result c.new.result (still_stands c.self.view_is given)
    c.in-Some.ensures.index.0 at (row_again c.self.inside.readers.items c.in-Some.index first at c.writers.ensures c.in-Some-writer_row_among.ensures)
    (met_again c.self.inside.readers.items c.in-Some.index second at c.is_attached.ensures.attached) c.if-is_attached.false c.attach.ensures.attaches
    c.new.ensures.number)
