use Rattle.std.proofs.Common.{◌≡◌, ◌∙◌, ℕ, ◌<◌, false, ap, length, refl, rules, subst, sym}
use Rattle.std.proofs.lemmas.Option.{slice_get_read}
use Rattle.dds_base.specs.Number.{is_number}
use Rattle.dds_machine.specs.declared.call.Call.TheVariants as call
use Rattle.dds_protocol.specs.declared.event.Event.TheVariants as event
use Rattle.dds_protocol.specs.declared.event.Output.{Output}
use Rattle.dds_core.specs.Kept.{PeerKept}
use Rattle.dds_core.proofs.AnyTests.{nobody_met_then}
use Rattle.dds_core.proofs.CallSteps.{still_stands}
use Rattle.dds_core.proofs.MetReaders.{FollowsMeeting, caused, meeting_as, meets_at, meets_not, met_at, no_writer_meets, not_called_so, not_named, refused_at, wants_memory}
use Rattle.dds_core.proofs.peer.Peer.meet_reader.Goals as goal

-- there is no such writer
pub returns-in_default-clause-step : goal.returns-in_default-clause-step
returns-in_default-clause-step c = record {
  step = λ roster peer given.
      let none : is_number c.args.writer (length c.self.inside.writers.items) ≡ false =
      subst (λ (n : ℕ). is_number c.args.writer n ≡ false) (c.len.ensures ∙ c.self.inside.writers.ok.0)
      c.in_default.ensures.index in
      subst (λ (k : PeerKept). FollowsMeeting k roster peer
      (event.Call (call.MeetReader c.args.writer c.args.far c.args.greeted)) c.refused.result) c.self.view_is
      (meeting_as _ roster peer _ _ _ c.refused.ensures
      (no_writer_meets _ c.args.writer c.args.far c.args.greeted roster peer (still_stands c.self.view_is given) none));
  meets = nobody_met_then _ _ _ _ (ap (λ (o : Output). o.reply) c.refused.ensures);
}

-- the reader may not be called so
pub returns-then-not-may_call_reader-clause-step : goal.returns-then-not-may_call_reader-clause-step
returns-then-not-may_call_reader-clause-step c = record {
  step = λ roster peer given.
      subst (λ (k : PeerKept). FollowsMeeting k roster peer
      (event.Call (call.MeetReader c.args.writer c.args.far c.args.greeted)) c.refused-then-not-may_call_reader.result)
      c.self.view_is
      (meeting_as _ roster peer _ _ _ c.refused-then-not-may_call_reader.ensures
      (not_called_so _ c.args.writer c.args.far c.is_reliable-is_reliable.result c.args.greeted roster peer
      (still_stands c.self.view_is given) c.is_reliable-is_reliable.ensures.reliable
      (sym c.may_call_reader.ensures ∙ c.if-not-may_call_reader.true)));
  meets = nobody_met_then _ _ _ _ (ap (λ (o : Output). o.reply) c.refused-then-not-may_call_reader.ensures);
}

-- the writer has a cause against it
pub returns-in-Some-meeting_cause-clause-step : goal.returns-in-Some-meeting_cause-clause-step
returns-in-Some-meeting_cause-clause-step c = record {
  step = λ roster peer given.
      let within : c.in-Some.index < length c.self.inside.writers.items = search rules in
      subst (λ (k : PeerKept). FollowsMeeting k roster peer
      (event.Call (call.MeetReader c.args.writer c.args.far c.args.greeted)) c.refused-in-Some-meeting_cause.result)
      c.self.view_is
      (meeting_as _ roster peer _ _ _ c.refused-in-Some-meeting_cause.ensures
      (refused_at _ c.args.writer c.in-Some.index c.index.result.now c.args.far c.is_reliable-is_reliable.result c.args.greeted
      c.in-Some-meeting_cause.code roster peer (record {
        stands = still_stands c.self.view_is given;
        at = slice_get_read _ _ _ _ refl within c.index.ensures;
        within = within;
        read = c.is_reliable-is_reliable.ensures.reliable;
        called = sym c.may_call_reader.ensures ∙ c.if-not-may_call_reader.false;
      }) c.in-Some.ensures.index.0
      (caused c.index.result.now c.args.far.endpoint c.in-Some-meeting_cause.code c.meeting_cause.result
      c.meeting_cause.ensures.cause c.in-Some-meeting_cause.is)));
  meets = nobody_met_then _ _ _ _ (ap (λ (o : Output). o.reply) c.refused-in-Some-meeting_cause.ensures);
}

-- no memory is left for the name
pub returns-in-Err-clause-step : goal.returns-in-Err-clause-step
returns-in-Err-clause-step c = record {
  step = λ roster peer given.
      let within : c.in-Some.index < length c.self.inside.writers.items = search rules in
      meeting_as _ roster peer _ _ _ c.refused-in-Err.ensures
      (not_named _ c.args.writer c.in-Some.index c.index.result.now c.add_reader.new.self c.args.far c.is_reliable-is_reliable.result
      c.args.greeted c.in-Err.code roster peer (record {
        stands = still_stands c.self.view_is given;
        at = slice_get_read _ _ _ _ refl within c.index.ensures;
        within = within;
        read = c.is_reliable-is_reliable.ensures.reliable;
        called = sym c.may_call_reader.ensures ∙ c.if-not-may_call_reader.false;
      }) c.in-Some.ensures.index.0
      (wants_memory c.index.result.now c.args.far.endpoint c.in-Err.code c.meeting_cause.result c.meeting_cause.ensures.cause
      c.in_default-meeting_cause.is c.in-Err.ensures.memory) c.in-Err.ensures.err);
  meets = nobody_met_then _ _ _ _ (ap (λ (o : Output). o.reply) c.refused-in-Err.ensures);
}

pub returns-in-Ok-meet-clause-step : goal.returns-in-Ok-meet-clause-step
returns-in-Ok-meet-clause-step c = record {
  step = λ roster peer given.
      let within : c.in-Some.index < length c.self.inside.writers.items = search rules in
      meeting_as _ roster peer _ _ _ c.answered.ensures
      (meets_at _ c.args.writer c.in-Some.index c.index_mut.result.now c.meet.new.self c.add_reader.new.self c.args.far
      c.is_reliable-is_reliable.result c.args.greeted roster peer (record {
        stands = still_stands c.self.view_is given;
        at = slice_get_read _ _ _ _ refl within c.index_mut.ensures.value;
        within = within;
        read = c.is_reliable-is_reliable.ensures.reliable;
        called = sym c.may_call_reader.ensures ∙ c.if-not-may_call_reader.false;
      }) c.in-Some.ensures.index.0 c.in-Ok-meet.ensures.accepted c.in-Ok-meet.ensures.ok c.in-Ok.ensures.ok);
  meets =
      let within : c.in-Some.index < length c.self.inside.writers.items = search rules in
      met_at _ _ c.args.writer c.in-Some.index c.index_mut.result.now c.args.far c.is_reliable-is_reliable.result
      c.args.greeted c.answered.result c.self.view_is
      (slice_get_read _ _ _ _ refl within c.index_mut.ensures.value) c.in-Some.ensures.index.0
      c.is_reliable-is_reliable.ensures.reliable (sym c.may_call_reader.ensures ∙ c.if-not-may_call_reader.false)
      c.answered.ensures;
}

-- no memory is left at the writer, and the name goes
pub returns-in-Err-meet-clause-step : goal.returns-in-Err-meet-clause-step
returns-in-Err-meet-clause-step c = record {
  step = λ roster peer given.
      let within : c.in-Some.index < length c.self.inside.writers.items = search rules in
      meeting_as _ roster peer _ _ _ c.refused-in-Err-meet.ensures
      (meets_not _ c.args.writer c.in-Some.index c.index_mut.result.now c.meet.new.self c.take_back_reader.new.self
      c.args.far c.is_reliable-is_reliable.result c.args.greeted c.in-Err-meet.code roster peer (record {
        stands = still_stands c.self.view_is given;
        at = slice_get_read _ _ _ _ refl within c.index_mut.ensures.value;
        within = within;
        read = c.is_reliable-is_reliable.ensures.reliable;
        called = sym c.may_call_reader.ensures ∙ c.if-not-may_call_reader.false;
      }) c.in-Some.ensures.index.0 c.in-Err-meet.ensures.refused c.in-Err-meet.ensures.err
      (c.take_back_reader.ensures ∙ c.in-Ok.ensures.before));
  meets = nobody_met_then _ _ _ _ (ap (λ (o : Output). o.reply) c.refused-in-Err-meet.ensures);
}
