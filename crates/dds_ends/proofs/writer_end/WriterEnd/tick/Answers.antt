use Rattle.std.proofs.Common.{◌≡◌, false, List, Some, map, ap, sym, subst, ◌∙◌}
use Rattle.rtps_writer.specs.WriterState.{heartbeat_due, ticked as rtps_ticked, unasked as rtps_unasked}
use Rattle.rtps_writer.specs.declared.heartbeat.HeartbeatDue.{HeartbeatDue}
use Rattle.dds_machine.specs.Ticks.{ticked}
use Rattle.dds_protocol.specs.DueMessages.{Due}
use Rattle.dds_protocol.specs.Dues.{AreFew}
use Rattle.dds_ends.specs.declared.heartbeat.Beat.{Beat}
use Rattle.dds_ends.specs.declared.matching.ReaderName.{ReaderName}
use Rattle.dds_ends.specs.declared.sending.Announced.{Announced}
use Rattle.dds_ends.specs.Beating.{AddsTo, beats_of, beats_to}
use Rattle.dds_ends.specs.Kept.{WriterKept}
use Rattle.dds_ends.specs.MatchedEnds.{readers_of}
use Rattle.dds_ends.specs.Sending.{AreMessages}
use Rattle.dds_ends.specs.Standing.{state_of}
use Rattle.dds_ends.specs.Stepping.{some_await}
use Rattle.dds_ends.proofs.Among.{as_few_at, rows_are}
use Rattle.dds_ends.proofs.Beating.{adds_none, beats_are, beats_none, due_at, due_is}
use Rattle.dds_ends.proofs.WriterEnds.{kept_as, stands_there, ticked_there, ticks}
use Rattle.dds_ends.proofs.writer_end.WriterEnd.tick.Goals as goal
use Rattle.dds_ends.proofs.writer_end.WriterEnd.tick.Goals.{in-Some, in_default}

pub send_beats-requires-clause-due : goal.send_beats-requires-clause-due
send_beats-requires-clause-due c =
    let whole = c.self.invariant in
    due_at c.tick.new.self whole.state c.args.now c.in-Some.due (c.tick.ensures.stands whole.state whole.stands)
    (sym (c.tick.ensures.due whole.state whole.stands) ∙ c.in-Some.is)

pub send_beats-requires-clause-few : goal.send_beats-requires-clause-few
send_beats-requires-clause-few c =
    let whole = c.self.invariant in
    subst (λ (ns : List ReaderName). AreFew (readers_of ns)) (sym c.as_slice.ensures.value)
    (as_few_at c.self.inside.known.items c.self.inside.readers.items (rows_are whole) whole.few_at)

pub invariant_of-self : goal.invariant_of-self
invariant_of-self c =
    let whole = c.self.invariant in
    record {
      limited = whole.limited;
      few_at = whole.few_at;
      matched_are = whole.matched_are;
      once = whole.once;
      among = whole.among;
      told = whole.told;
      few = whole.few;
      many = whole.many;
      count = c.tell_all.ensures.readers ∙ (c.tick.ensures.readers ∙ whole.count);
      state = rtps_unasked (rtps_ticked whole.state c.args.now);
      stands =
          c.tell_all.ensures.stands (rtps_ticked whole.state c.args.now)
          (c.tick.ensures.stands whole.state whole.stands);
      short = whole.short;
    }

pub returns-clause-ticks : goal.returns-clause-ticks
returns-clause-ticks c =
    ticks _ c.args.self.now c.args.now c.tick.new.self c.tell_all.new.self c.self.view_is c.tick.ensures.stands
    c.tell_all.ensures.stands

pub returns-clause-beats : goal.returns-clause-beats
returns-clause-beats c = λ w answered s.
    let old = c.args.sent.now in
    let kept : WriterKept =
    kept_as c.self.inside.entity c.self.inside.autodispose c.self.inside.max_value c.self.inside.known.items
    c.self.inside.matched.items c.self.inside.destinations.items c.self.inside.readers.items c.self.inside.counts.items
    c.self.inside.matches c.self.inside.writer in
    let here = stands_there kept c.args.self.now w answered c.self.view_is s in
    let dues : WriterKept → List Due = λ k. beats_of c.args.prefix k w answered in
    elim c.match-tick.branch [
      | in-Some v ↦
          let beat : Beat =
          record { prefix = c.args.prefix; entity = c.self.inside.entity; due = v.in-Some.due; asserts = false } in
          let due : heartbeat_due (state_of w answered) c.args.now ≡ Some v.in-Some.due =
          sym (c.tick.ensures.due (state_of w answered) here.writer) ∙ v.in-Some.is in
          let sent =
          v.send_beats.ensures.beats (ticked c.args.now (some_await w answered) w) answered
          (record {
            names_are = here.readers ∙ ap (λ (ns : List ReaderName). map (λ (n : ReaderName). n.reader) ns)
                (sym v.as_slice.ensures.value);
            stands =
                ticked_there w answered c.args.now c.tick.new.self
                (c.tick.ensures.stands (state_of w answered) here.writer);
            first_is = ap (λ (d : HeartbeatDue). d.first) (due_is w answered c.args.now v.in-Some.due due).1;
          }) in
          subst (λ (x : Announced). AddsTo (dues c.args.self.now) old x) (sym v.sent-is)
          (subst (λ (k : WriterKept). AddsTo (dues k) old v.send_beats.new.sent) c.self.view_is
          (subst (λ (ds : List Due). AddsTo ds old v.send_beats.new.sent)
          (ap (λ (ns : List ReaderName). beats_to beat w answered ns) v.as_slice.ensures.value
          ∙ beats_are c.args.prefix kept w answered c.args.now v.in-Some.due due) sent))
      | in_default v ↦
          subst (λ (x : Announced). AddsTo (dues c.args.self.now) old x) (sym v.sent-is)
          (subst (λ (k : WriterKept). AddsTo (dues k) old old) c.self.view_is
          (subst (λ (ds : List Due). AddsTo ds old old)
          (beats_none c.args.prefix kept w answered c.args.now
          (sym (c.tick.ensures.due (state_of w answered) here.writer) ∙ v.in_default.is))
          (adds_none old.packets.items old.unsent)))
    ]

pub returns-clause-messages : goal.returns-clause-messages
returns-clause-messages c = λ before.
    elim c.match-tick.branch [
      | in-Some v ↦
          subst (λ (x : Announced). AreMessages x.packets.items) (sym v.sent-is) (v.send_beats.ensures.messages before)
      | in_default v ↦ subst (λ (x : Announced). AreMessages x.packets.items) (sym v.sent-is) before
    ]
