use Rattle.std.proofs.Common.{true, List, map, refl, ap, sym, subst, ◌∙◌}
use Rattle.std.specs.Prelude.{Ok}
use Rattle.dds_base.specs.Written.{Asserted}
use Rattle.rtps_writer.specs.declared.heartbeat.HeartbeatDue.{HeartbeatDue}
use Rattle.dds_machine.specs.Calls.{with_written}
use Rattle.dds_protocol.specs.DueMessages.{Due, AreSent}
use Rattle.dds_protocol.specs.Dues.{AreFew}
use Rattle.dds_ends.specs.declared.heartbeat.Beat.{Beat}
use Rattle.dds_ends.specs.declared.matching.Destination.{Destination}
use Rattle.dds_ends.specs.declared.matching.ReaderName.{ReaderName}
use Rattle.dds_ends.specs.Beating.{assertions_of, beats_message}
use Rattle.dds_ends.specs.Kept.{WriterKept}
use Rattle.dds_ends.specs.MatchedEnds.{readers_of}
use Rattle.dds_ends.specs.Standing.{state_of}
use Rattle.dds_ends.proofs.Among.{as_few_at}
use Rattle.dds_ends.proofs.Asserting.{count_left, due_told, nowhere, told_are, told_is, told_none}
use Rattle.dds_ends.proofs.WriterEnds.{enters_if, kept_as, stands_there}
use Rattle.dds_ends.proofs.writer_end.WriterEnd.assert.Goals as goal

pub send_to_all-requires-clause-due : goal.send_to_all-requires-clause-due
send_to_all-requires-clause-due c =
    let whole = c.self.invariant in
    due_told c.assert.new.self whole.state _ c.args.now c.in-Some.due (c.in_ok-due.ensures.ok whole.state whole.stands)
    (sym (c.in_ok-due.ensures.accepted whole.state whole.stands).1 ∙ c.in-Some.is)

pub send_to_all-requires-clause-few : goal.send_to_all-requires-clause-few
send_to_all-requires-clause-few c =
    let whole = c.self.invariant in
    subst (λ (ns : List ReaderName). AreFew (readers_of ns)) (sym c.as_slice-2.ensures.value)
    (as_few_at c.self.inside.known.items c.self.inside.matched.items whole.matched_are whole.few_at)

pub returns-clause-ok : goal.returns-clause-ok
returns-clause-ok c =
    enters_if {A = Unit {0}} {B = Unit {0}} (Ok tt) _ c.args.self.now
    (Asserted c.args.now) c.assert.new.self c.self.view_is
    c.in_ok-due.ensures.ok

pub returns-clause-tells : goal.returns-clause-tells
returns-clause-tells c = λ w answered s.
    let kept : WriterKept =
    kept_as c.self.inside.entity c.self.inside.autodispose c.self.inside.max_value c.self.inside.known.items
    c.self.inside.matched.items c.self.inside.destinations.items c.self.inside.readers.items c.self.inside.counts.items
    c.self.inside.matches c.self.inside.writer in
    let beat : Beat =
    record { prefix = c.args.prefix; entity = c.self.inside.entity; due = c.in-Some.due; asserts = true } in
    let sent = c.send_to_all.result in
    let here = stands_there kept c.args.self.now w answered c.self.view_is s in
    let accepted = c.in_ok-due.ensures.accepted (state_of w answered) here.writer in
    let due = sym accepted.1 ∙ c.in-Some.is in
    let entered =
    enters_if {A = Unit {0}} {B = Unit {0}} (Ok tt) kept c.args.self.now (Asserted c.args.now) c.assert.new.self
    c.self.view_is c.in_ok-due.ensures.ok in
    let told =
    c.send_to_all.ensures.sent (with_written w (Asserted c.args.now)) answered
    (record {
      names_are = here.readers ∙ ap (λ (ns : List ReaderName). map (λ (n : ReaderName). n.reader) ns)
          (sym c.as_slice.ensures.value);
      stands = (entered.stands w answered s).writer;
      first_is = ap (λ (d : HeartbeatDue). d.first) (told_is w answered _ c.args.now c.in-Some.due due);
    }) in (
      count_left w answered accepted.0,
      subst (λ (k : WriterKept). AreSent (assertions_of c.args.prefix k w answered) sent.packets.items sent.unsent)
          c.self.view_is
          (subst (λ (dues : List Due). AreSent dues sent.packets.items sent.unsent)
          (ap (λ (ns : List ReaderName). map (beats_message beat w answered ns) c.as_slice-3.result.now) c.as_slice-2.ensures.value
          ∙ (ap (λ (ds : List Destination). map (beats_message beat w answered kept.matched) ds) c.as_slice-3.ensures.value
          ∙ told_are c.args.prefix kept w answered _ c.args.now c.in-Some.due due))
          told),
    )

pub returns-in_default-clause-ok : goal.returns-in_default-clause-ok
returns-in_default-clause-ok c =
    enters_if {A = Unit {0}} {B = Unit {0}} (Ok tt) _ c.args.self.now
    (Asserted c.args.now) c.assert.new.self c.self.view_is
    c.in_ok-due.ensures.ok

pub returns-in_default-clause-tells : goal.returns-in_default-clause-tells
returns-in_default-clause-tells c = λ w answered s.
    let kept : WriterKept =
    kept_as c.self.inside.entity c.self.inside.autodispose c.self.inside.max_value c.self.inside.known.items
    c.self.inside.matched.items c.self.inside.destinations.items c.self.inside.readers.items c.self.inside.counts.items
    c.self.inside.matches c.self.inside.writer in
    let here = stands_there kept c.args.self.now w answered c.self.view_is s in
    let accepted = c.in_ok-due.ensures.accepted (state_of w answered) here.writer in
    let due = sym accepted.1 ∙ c.in_default.is in (
      count_left w answered accepted.0,
      subst (λ (k : WriterKept). AreSent (assertions_of c.args.prefix k w answered) c.new.result.items 0) c.self.view_is
          (subst (λ (dues : List Due). AreSent dues c.new.result.items 0)
          (told_none c.args.prefix kept w answered _ c.args.now
          (nowhere c.self.inside.destinations.items c.len-is_matched.result
          (c.len-is_matched.ensures ∙ c.self.inside.destinations.ok.0)) due)
          (c.new.ensures.items, refl)),
    )
