use Rattle.std.proofs.Common.{◌≡◌, ◌∙◌, ℕ, ◌<◌, Bool, false, inl, inr, length, slice_get, ap, refl, rules, subst, sym}
use Rattle.std.proofs.lemmas.Option.{slice_get_read}
use Rattle.dds_base.specs.Number.{is_number}
use Rattle.dds_base.specs.declared.qos.MatchedWriter.{MatchedWriter}
use Rattle.dds_base.specs.Checked.{is_bad_lease}
use Rattle.dds_machine.specs.declared.call.Call.TheVariants as call
use Rattle.dds_protocol.specs.declared.event.Event.TheVariants as event
use Rattle.dds_ends.specs.Meeting.{MeetsWriter}
use Rattle.dds_protocol.specs.declared.event.Output.{Output}
use Rattle.dds_core.specs.Kept.{PeerKept}
use Rattle.dds_core.proofs.AnyTests.{nobody_met_then}
use Rattle.dds_core.proofs.CallSteps.{still_stands}
use Rattle.dds_core.proofs.MetReaders.{FollowsMeeting, meeting_as}
use Rattle.dds_core.proofs.MetWriters.{caused, meets_at, meets_not, met_at, no_reader_meets, not_named, not_to_be_met, refused_at, wants_memory, writer_name}
use Rattle.dds_core.proofs.peer.Peer.meet_writer.Goals as goal

-- the lease that was looked at is that of the writer
bad_lease : {as_writer as_far : MatchedWriter} {is said : Bool} → is ≡ said → is ≡ is_bad_lease as_writer.lease
    → as_writer ≡ as_far → is_bad_lease as_far.lease ≡ said
bad_lease so tests same = sym (ap (λ (m : MatchedWriter). is_bad_lease m.lease) same) ∙ (sym tests ∙ so)

-- there is no such reader
pub returns-in_default-clause-step : goal.returns-in_default-clause-step
returns-in_default-clause-step c = record {
  step = λ roster peer given.
      let none : is_number c.args.reader (length c.self.inside.readers.items) ≡ false =
      subst (λ (n : ℕ). is_number c.args.reader n ≡ false) (c.len.ensures ∙ c.self.inside.readers.ok.0)
      c.in_default.ensures.index in
      subst (λ (k : PeerKept). FollowsMeeting k roster peer (event.Call (call.MeetWriter c.args.reader c.args.far))
      c.refused.result) c.self.view_is
      (meeting_as _ roster peer _ _ _ c.refused.ensures
      (no_reader_meets _ c.args.reader c.args.far roster peer (still_stands c.self.view_is given) none));
  meets = nobody_met_then _ _ _ _ (ap (λ (o : Output). o.reply) c.refused.ensures);
}

-- the writer may not be called so
pub returns-then-not-may_call_writer-clause-step : goal.returns-then-not-may_call_writer-clause-step
returns-then-not-may_call_writer-clause-step c = record {
  step = λ roster peer given.
      subst (λ (k : PeerKept). FollowsMeeting k roster peer (event.Call (call.MeetWriter c.args.reader c.args.far))
      c.refused-then-not-may_call_writer.result) c.self.view_is
      (meeting_as _ roster peer _ _ _ c.refused-then-not-may_call_writer.ensures
      (not_to_be_met _ c.args.reader c.args.far roster peer (still_stands c.self.view_is given)
      (inl (sym c.may_call_writer.ensures ∙ c.if-not-may_call_writer.true))));
  meets = nobody_met_then _ _ _ _ (ap (λ (o : Output). o.reply) c.refused-then-not-may_call_writer.ensures);
}

-- no writer may have its lease
pub returns-then-is_bad_lease-clause-step : goal.returns-then-is_bad_lease-clause-step
returns-then-is_bad_lease-clause-step c = record {
  step = λ roster peer given.
      subst (λ (k : PeerKept). FollowsMeeting k roster peer (event.Call (call.MeetWriter c.args.reader c.args.far))
      c.refused-then-is_bad_lease.result) c.self.view_is
      (meeting_as _ roster peer _ _ _ c.refused-then-is_bad_lease.ensures
      (not_to_be_met _ c.args.reader c.args.far roster peer (still_stands c.self.view_is given)
      (inr (bad_lease c.if-is_bad_lease.true c.is_bad_lease.ensures c.as_matched-as_writer.ensures))));
  meets = nobody_met_then _ _ _ _ (ap (λ (o : Output). o.reply) c.refused-then-is_bad_lease.ensures);
}

-- the reader has a cause against it
pub returns-in-Some-meeting_cause-clause-step : goal.returns-in-Some-meeting_cause-clause-step
returns-in-Some-meeting_cause-clause-step c = record {
  step = λ roster peer given.
      let within : c.in-Some.index < length c.self.inside.readers.items = search rules in
      subst (λ (k : PeerKept). FollowsMeeting k roster peer (event.Call (call.MeetWriter c.args.reader c.args.far))
      c.refused-in-Some-meeting_cause.result) c.self.view_is
      (meeting_as _ roster peer _ _ _ c.refused-in-Some-meeting_cause.ensures
      (refused_at _ c.args.reader c.in-Some.index c.index.result.now c.args.far c.in-Some-meeting_cause.code roster peer
      (record {
        stands = still_stands c.self.view_is given;
        at = slice_get_read _ _ _ _ refl within c.index.ensures;
        within = within;
        called = sym c.may_call_writer.ensures ∙ c.if-not-may_call_writer.false;
        lease = bad_lease c.if-is_bad_lease.false c.is_bad_lease.ensures c.as_matched-as_writer.ensures;
      }) c.in-Some.ensures.index.0
      (caused c.index.result.now c.args.far.endpoint c.in-Some-meeting_cause.code c.meeting_cause.result
      c.meeting_cause.ensures.cause c.in-Some-meeting_cause.is)));
  meets = nobody_met_then _ _ _ _ (ap (λ (o : Output). o.reply) c.refused-in-Some-meeting_cause.ensures);
}

-- no memory is left for the name
pub returns-in-Err-clause-step : goal.returns-in-Err-clause-step
returns-in-Err-clause-step c = record {
  step = λ roster peer given.
      let within : c.in-Some.index < length c.self.inside.readers.items = search rules in
      meeting_as _ roster peer _ _ _ c.refused-in-Err.ensures
      (not_named _ c.args.reader c.in-Some.index c.index.result.now c.add_writer.new.self c.args.far c.in-Err.code roster
      peer (record {
        stands = still_stands c.self.view_is given;
        at = slice_get_read _ _ _ _ refl within c.index.ensures;
        within = within;
        called = sym c.may_call_writer.ensures ∙ c.if-not-may_call_writer.false;
        lease = bad_lease c.if-is_bad_lease.false c.is_bad_lease.ensures c.as_matched-as_writer.ensures;
      }) c.in-Some.ensures.index.0
      (wants_memory c.index.result.now c.args.far.endpoint c.in-Err.code c.meeting_cause.result c.meeting_cause.ensures.cause
      c.in_default-meeting_cause.is c.in-Err.ensures.memory) c.in-Err.ensures.err);
  meets = nobody_met_then _ _ _ _ (ap (λ (o : Output). o.reply) c.refused-in-Err.ensures);
}

pub returns-in-Ok-meet-clause-step : goal.returns-in-Ok-meet-clause-step
returns-in-Ok-meet-clause-step c = record {
  step = λ roster peer given.
      let within : c.in-Some.index < length c.self.inside.readers.items = search rules in
      meeting_as _ roster peer _ _ _ c.answered.ensures
      (meets_at _ c.args.reader c.in-Some.index c.in-Ok-meet.row c.index_mut.result.now c.meet.new.self
      c.add_writer.new.self c.args.far c.new-handle.result roster peer (record {
        stands = still_stands c.self.view_is given;
        at = slice_get_read _ _ _ _ refl within c.index_mut.ensures.value;
        within = within;
        called = sym c.may_call_writer.ensures ∙ c.if-not-may_call_writer.false;
        lease = bad_lease c.if-is_bad_lease.false c.is_bad_lease.ensures c.as_matched-as_writer.ensures;
      }) c.in-Some.ensures.index.0 c.in-Ok-meet.ensures.accepted
      (subst (λ (m : MatchedWriter). MeetsWriter c.index_mut.result.now (writer_name c.args.far) m c.in-Ok-meet.row
      c.meet.new.self) c.as_matched-as_writer.ensures c.in-Ok-meet.ensures.ok) c.new-handle.ensures.number
      c.in-Ok.ensures.ok);
  meets =
      let within : c.in-Some.index < length c.self.inside.readers.items = search rules in
      met_at _ _ c.args.reader c.in-Some.index c.index_mut.result.now c.args.far c.new-handle.result
      c.answered.result c.self.view_is
      (slice_get_read _ _ _ _ refl within c.index_mut.ensures.value) c.in-Some.ensures.index.0
      (sym c.may_call_writer.ensures ∙ c.if-not-may_call_writer.false) c.answered.ensures;
}

-- no memory is left at the reader, and the name goes
pub returns-in-Err-meet-clause-step : goal.returns-in-Err-meet-clause-step
returns-in-Err-meet-clause-step c = record {
  step = λ roster peer given.
      let within : c.in-Some.index < length c.self.inside.readers.items = search rules in
      meeting_as _ roster peer _ _ _ c.refused-in-Err-meet.ensures
      (meets_not _ c.args.reader c.in-Some.index c.index_mut.result.now c.meet.new.self c.take_back_writer.new.self
      c.args.far c.in-Err-meet.code roster peer (record {
        stands = still_stands c.self.view_is given;
        at = slice_get_read _ _ _ _ refl within c.index_mut.ensures.value;
        within = within;
        called = sym c.may_call_writer.ensures ∙ c.if-not-may_call_writer.false;
        lease = bad_lease c.if-is_bad_lease.false c.is_bad_lease.ensures c.as_matched-as_writer.ensures;
      }) c.in-Some.ensures.index.0 c.in-Err-meet.ensures.refused c.in-Err-meet.ensures.err
      (c.take_back_writer.ensures ∙ c.in-Ok.ensures.before));
  meets = nobody_met_then _ _ _ _ (ap (λ (o : Output). o.reply) c.refused-in-Err-meet.ensures);
}
