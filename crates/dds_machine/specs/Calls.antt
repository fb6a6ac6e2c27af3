-- What a peer answers to a call, and what the call does: the first cause that holds refuses it, else it is done, unless
-- a growth was refused.
--
-- DDS 1.4, 2.2.2.4 (register_instance, write, dispose, unregister_instance, assert_liveliness,
-- get_liveliness_lost_status, get_publication_matched_status), 2.2.2.5 (the forms of read and take, get_key_value,
-- lookup_instance, get_sample_lost_status, get_liveliness_changed_status, get_subscription_matched_status), 2.2.1.1
-- (return codes); RTPS 2.5, 8.4.7.4, 8.4.10.3 (matched_reader_add, matched_writer_add and their removals).
use Rattle.std.specs.Prelude.{◌≡◌, ◌≢◌, ◌⊎◌, ℕ, ◌+◌, ◌-◌, ◌^◌, ◌≤◌, nat_lt, not, Bool, true, false, List, [], ◌∷◌, length, Option, Some, None, is_some}
use Rattle.std.specs.Option.{option_map_or}
use Rattle.dds_base.specs.declared.change.ChangeKind.TheVariants as kind
use Rattle.dds_base.specs.declared.code.Code.{Code}
use Rattle.dds_base.specs.declared.code.Code.TheVariants.{Memory, NoData, Timeout}
use Rattle.dds_base.specs.declared.endpoint.Endpoint.{Endpoint}
use Rattle.dds_base.specs.declared.happening.Happening.{Happening}
use Rattle.dds_base.specs.declared.happening.Happening.TheVariants.{Read as HasRead, Took}
use Rattle.dds_base.specs.declared.happening.SamplePosition.{SamplePosition}
use Rattle.dds_base.specs.declared.key.Key.{Key}
use Rattle.dds_base.specs.declared.selection.Selection.{Selection}
use Rattle.dds_base.specs.declared.status.LivelinessChangedStatus.{LivelinessChangedStatus}
use Rattle.dds_base.specs.declared.status.LivelinessLostStatus.{LivelinessLostStatus}
use Rattle.dds_base.specs.declared.status.SampleLostStatus.{SampleLostStatus}
use Rattle.dds_base.specs.Access.{no_filter, collection_of, handle_of}
use Rattle.dds_base.specs.Liveliness.{alive_count, liveliness_changed_status, not_alive_count}
use Rattle.dds_base.specs.Refusal.{Refuses}
use Rattle.dds_base.specs.Selection.{picked_by}
use Rattle.dds_base.specs.Statuses.{lost_count, sample_lost_status}
use Rattle.dds_base.specs.Written.{Written, Registered, Changed, Asserted, LookedAt, StrengthSet, is_key_registered, liveliness_lost_status}
use Rattle.dds_base.specs.Number.{at_number}
use Rattle.dds_base.specs.declared.policies.LivelinessKind.TheVariants.{ManualByTopic}
use Rattle.dds_base.specs.declared.policies.LivelinessKind.{LivelinessKind}
use Rattle.dds_base.specs.declared.qos.MatchedWriter.{MatchedWriter}
use Rattle.dds_base.specs.Matched.{is_reliable}
use Rattle.dds_base.specs.Policies.{units_of}
use Rattle.dds_machine.specs.declared.call.Call.{Call}
use Rattle.dds_machine.specs.declared.far.FarReader.{FarReader}
use Rattle.dds_machine.specs.declared.far.FarWriter.{FarWriter}
use Rattle.dds_machine.specs.declared.call.Call.TheVariants.{Register, Write, Dispose, Unregister, AssertLiveliness, SetStrength, Read, Take, GetKeyValue, LookupInstance, GetSampleLost, GetLivelinessChanged, GetLivelinessLost, ReadByCondition, TakeByCondition, CreateReadCondition, CreateQueryCondition, CreateGuardCondition, SetTriggerValue, DeleteCondition, GetTriggerValue, CreateWaitSet, DeleteWaitSet, AttachCondition, DetachCondition, GetConditions, WaitBegin, WaitLook, WaitEnd, SetEnabledStatuses, GetStatusChanges, MatchReader, UnmatchReader, MatchWriter, UnmatchWriter, GetPublicationMatched, GetSubscriptionMatched, MeetReader, MeetWriter}
use Rattle.dds_machine.specs.declared.reply.Reply.{Reply}
use Rattle.dds_machine.specs.declared.reply.Reply.TheVariants.{Done, Samples, KeyValue, InstanceHandle, SampleLost, LivelinessChanged, LivelinessLost, Matched, Created, TriggerValue, Conditions, Active, Waiting, StatusChanges, Refused}
use Rattle.dds_conditions.specs.declared.condition.Cond.{Cond}
use Rattle.dds_conditions.specs.declared.condition.Condition.TheVariants.{Guard, Samples as OfSamples}
use Rattle.dds_conditions.specs.Attached.{active_of, is_attached}
use Rattle.dds_conditions.specs.Watched.{Watched, attach_refusal, conditions_of, detaching_refusal, free_refusal, guard_refusal, is_timed_out, knows, knows_entity, number_refusal, unless_there, use_refusal, with_attached, with_condition, with_condition_at, with_deadline, with_detached, with_enabled, with_wait_set, with_wait_set_at, without_condition}
use Rattle.dds_machine.specs.Matching.{Telling, MatchReader as HasReader, UnmatchReader as HasReaderNoMore, MatchWriter as HasWriter, UnmatchWriter as HasWriterNoMore, MeetReader as HasMetReader, MeetWriter as HasMetWriter, TellingMayWantMemory, after_telling, knows_reliable, with_match, publication_matched, reader_looked_at, seen_after_telling, subscription_matched, telling_refusal, writer_looked_at}
use Rattle.dds_machine.specs.Watching.{Test, Tests, condition_refusal, condition_selection, condition_test, query_condition_refusal, read_condition_refusal, status_changes, trigger_value}
use Rattle.dds_machine.specs.Part.{Part, Rtps, Dds, Seen, Reader, Writer, own_writer, own_proxies, own_reader, publication_among, with_reader, with_writer}
use Rattle.dds_machine.specs.Refusals.{change_made, unregister_kind, writer_refusal, write_refusal, dispose_refusal, unregister_refusal, assert_refusal, strength_refusal, access_refusal, key_of, key_refusal, reader_refusal}

-- the samples that an access of the peer's reader returns
abbrev pub picked_at : Test → Part → ℕ → Selection → List SamplePosition
picked_at test part reader selection =
    picked_by (own_reader part reader).qos (own_reader part reader).happened selection test

-- a peer's reader, of whose statuses this was seen
abbrev pub after_look : Part → ℕ → Seen → Dds
after_look part reader seen = with_reader part.dds reader (record (own_reader part reader) { seen = seen })

-- what a peer's calls see once SUBSCRIPTION_MATCHED of its reader was looked at
abbrev pub after_matches_look : Part → ℕ → Dds
after_matches_look part reader =
    with_reader part.dds reader (reader_looked_at (own_proxies part reader) (own_reader part reader))

-- what is seen of a reader's statuses once its SAMPLE_LOST was looked at
abbrev pub seen_lost : Reader → Seen
seen_lost r = record r.seen { lost = lost_count r.happened; entries_at_lost = length r.happened }

-- what is seen of them once its LIVELINESS_CHANGED was looked at
abbrev pub seen_liveliness : Reader → Seen
seen_liveliness r = record r.seen {
  alive = alive_count r.qos r.happened;
  not_alive = not_alive_count r.qos r.happened;
  entries_at_turn = length r.happened;
}

-- a peer's reader, after one more thing happened there
abbrev pub with_happening : Part → ℕ → Happening → Dds
with_happening part reader happening = with_reader part.dds reader
    (record (own_reader part reader) { happened = happening ∷ (own_reader part reader).happened })

-- the handle by which a reader knows an instance's key
abbrev pub handle_at : Reader → Key → ℕ
handle_at r key = handle_of r.qos r.happened key

-- its SAMPLE_LOST, by what was seen of it before
abbrev pub lost_at : Reader → SampleLostStatus
lost_at r = sample_lost_status r.happened r.seen.lost

-- its LIVELINESS_CHANGED, likewise
abbrev pub liveliness_at : Reader → LivelinessChangedStatus
liveliness_at r = liveliness_changed_status r.qos r.happened r.seen.alive r.seen.not_alive

-- a writer's LIVELINESS_LOST
abbrev pub liveliness_lost_at : Writer → LivelinessLostStatus
liveliness_lost_at w = liveliness_lost_status w.lease w.written

-- What a call does to its peer's writers and places, if anything: it enters something at a writer, tells a writer or a
-- reader who is matched with it, or looks at a writer's matches.
pub data Effect : Type 0 where
  nothing : Effect
  writes : (writer : ℕ) (entry : Written) → Effect
  tells : (telling : Telling) → Effect
  looks_at_matches : (writer : ℕ) → Effect

-- a writer, after one more thing happened there
abbrev pub with_written : Writer → Written → Writer
with_written w entry = record w { written = entry ∷ w.written }

-- a peer's writers and places after an effect
abbrev pub effect : Rtps → Effect → Rtps
effect old nothing = old
effect old (writes writer entry) = with_writer old writer (λ w. with_written w entry)
effect old (tells telling) = after_telling old telling
effect old (looks_at_matches writer) = with_writer old writer writer_looked_at

-- what the call tells of a reader: whether it is a reliable one, the writer knows
abbrev pub reader_told : Part → ℕ → Endpoint → Telling
reader_told part writer reader = HasReader writer reader (knows_reliable (own_writer part writer) reader)

-- what a writer is told of a far reader: its name, and whether it asks for all changes (DDS 1.4, 2.2.3, RELIABILITY)
abbrev pub far_reader_told : ℕ → FarReader → Telling
far_reader_told writer far = HasMetReader writer
    (record { end = far.endpoint; guid = far.guid; reliable = is_reliable far.requested.reliability })

-- how long an assertion of a writer lasts at its readers: for ever where it does not assert itself by topic (DDS 1.4,
-- 2.2.3, LIVELINESS)
abbrev pub lease_by : LivelinessKind → Option ℕ → Option ℕ
lease_by ManualByTopic lease = lease
lease_by kind lease = None

-- what a reader keeps of a far writer: its GUID, its strength and its lease
abbrev pub as_matched : FarWriter → MatchedWriter
as_matched far =
    record { guid = far.guid; strength = far.offered.strength; lease = lease_by far.offered.liveliness.kind (units_of far.offered.liveliness.lease) }

-- what a reader is told of it
abbrev pub far_writer_told : ℕ → FarWriter → Telling
far_writer_told reader far = HasMetWriter reader far.endpoint (as_matched far)

-- the publication handle of a writer once the peer's reader was told of it: one that it does not know has the next one
abbrev pub handle_once_met : Part → ℕ → Endpoint → ℕ
handle_once_met part reader writer =
    option_map_or (λ handle. handle) (publication_among (with_match (own_proxies part reader) writer) writer) 0

-- what a call that is answered so does to the peer's writers and places
abbrev pub effect_of : Part → Call → Reply → Effect
effect_of part (Register writer key) Done = writes writer (Registered key)
effect_of part (Write writer key value) Done = writes writer (Changed (change_made part writer kind.Write key value))
effect_of part (Dispose writer key) Done = writes writer (Changed (change_made part writer kind.Dispose key []))
effect_of part (Unregister writer key) Done =
    writes writer (Changed (change_made part writer (unregister_kind (own_writer part writer).autodispose) key []))
effect_of part (AssertLiveliness writer) Done = writes writer (Asserted part.dds.moment)
effect_of part (SetStrength writer strength) Done = writes writer (StrengthSet strength)
effect_of part (GetLivelinessLost writer) (LivelinessLost status) = writes writer LookedAt
effect_of part (MatchReader writer reader greeted) Done = tells (reader_told part writer reader)
effect_of part (UnmatchReader writer reader) Done = tells (HasReaderNoMore writer reader)
effect_of part (MatchWriter reader writer) (InstanceHandle handle) = tells (HasWriter reader writer)
effect_of part (UnmatchWriter reader writer) Done = tells (HasWriterNoMore reader writer)
effect_of part (GetPublicationMatched writer) (Matched status) = looks_at_matches writer
effect_of part (MeetReader writer far greeted) Done = tells (far_reader_told writer far)
effect_of part (MeetWriter reader far) (InstanceHandle handle) = tells (far_writer_told reader far)
effect_of part call reply = nothing

-- A call that the first cause refuses, if there is one, or want of memory: else it is done. What was `old` is then
-- `done`; where it is refused it is as it was.
abbrev pub IsDoneUnless : {X : Type 0} → Option Code → Reply → X → X → X → Type 0
IsDoneUnless refusal Done old done new = (refusal ≡ None) × (new ≡ done)
IsDoneUnless refusal (Refused code) old done new = Refuses refusal code × (new ≡ old)
IsDoneUnless refusal reply old done new = ⊥

-- an access may want memory: it picks something, or no more can be counted than happened
abbrev pub MayWantMemory : List SamplePosition → List Happening → Type 0
MayWantMemory picked happened = (picked ≢ []) ⊎ (2 ^ 64 - 1 ≤ length happened)

-- An access by a test that enters so: the samples that it picks, or NO_DATA where it picks none, and either is entered;
-- or the first cause that refuses it, and it did not happen; or want of memory where there is none, which comes after
-- NO_DATA: it needs samples that are picked, or as many entries as can be counted.
abbrev pub AnswersAccess : (List SamplePosition → Happening) → Test → Part → ℕ → Selection → Reply → Dds → Type 0
AnswersAccess entry test old reader selection (Samples samples) dds =
    (access_refusal old reader selection ≡ None) × (picked_at test old reader selection ≢ [])
    × (samples ≡ collection_of (own_reader old reader).qos (own_reader old reader).happened
    (picked_at test old reader selection))
    × (dds ≡ with_happening old reader (entry (picked_at test old reader selection)))
AnswersAccess entry test old reader selection (Refused NoData) dds =
    (access_refusal old reader selection ≡ None) × (picked_at test old reader selection ≡ [])
    × (dds ≡ with_happening old reader (entry []))
AnswersAccess entry test old reader selection (Refused code) dds =
    Refuses (access_refusal old reader selection) code × (dds ≡ old.dds)
    × (code ≡ Memory → MayWantMemory (picked_at test old reader selection) (own_reader old reader).happened)
AnswersAccess entry test old reader selection reply dds = ⊥

-- A call that needs no memory: the first cause refuses it, and nothing changes; or it is answered so, and this is what
-- the peer's calls see from then on.
abbrev pub IsAnswered : Option Code → Reply → Dds → Part → Reply → Dds → Type 0
IsAnswered (Some code) answer after old reply dds = (reply ≡ Refused code) × (dds ≡ old.dds)
IsAnswered None answer after old reply dds = (reply ≡ answer) × (dds ≡ after)

-- the same of a call of what is watched: this is watched from then on
abbrev pub IsAnsweredWatching : Option Code → Reply → Watched → Part → Reply → Dds → Type 0
IsAnsweredWatching refusal answer after old reply dds =
    IsAnswered refusal answer (record old.dds { watch = after }) old reply dds

-- the same, or where no cause refuses it but it needs memory, want of memory, and nothing changes
abbrev pub IsAnsweredInMemory : Bool → Option Code → Reply → Watched → Part → Reply → Dds → Type 0
IsAnsweredInMemory needs refusal answer after old reply dds =
    IsAnsweredWatching refusal answer after old reply dds
    ⊎ ((refusal ≡ None) × (needs ≡ true) × (reply ≡ Refused Memory) × (dds ≡ old.dds))

-- A look at a WaitSet in which somebody waits: its active conditions, which end the wait; where there is none, TIMEOUT,
-- which ends it too, once its deadline has come; before that, the wait goes on.
abbrev pub AnswersLook : List Cond → Bool → Part → ℕ → Reply → Dds → Type 0
AnswersLook [] true old wait_set reply dds =
    IsAnsweredWatching (use_refusal (at_number old.dds.watch.wait_sets wait_set)) (Refused Timeout)
    (with_deadline old.dds.watch wait_set None) old reply dds
AnswersLook [] false old wait_set reply dds =
    IsAnsweredWatching (use_refusal (at_number old.dds.watch.wait_sets wait_set)) Waiting old.dds.watch old reply dds
AnswersLook (c ∷ cs) timed_out old wait_set reply dds =
    IsAnsweredInMemory true (use_refusal (at_number old.dds.watch.wait_sets wait_set)) (Active (c ∷ cs))
    (with_deadline old.dds.watch wait_set None) old reply dds

-- An access by a condition: the first cause refuses it, or it is the access by the condition's masks and test.
abbrev pub AnswersByCondition : (List SamplePosition → Happening) → Option Code → Test → Part → ℕ → Selection → Reply
    → Dds → Type 0
AnswersByCondition entry (Some code) test old reader selection reply dds = (reply ≡ Refused code) × (dds ≡ old.dds)
AnswersByCondition entry None test old reader selection reply dds =
    AnswersAccess entry test old reader selection reply dds

-- A call that tells a peer's writer or reader who is matched with it: the first cause refuses it, or want of memory
-- where there is none, and nothing changes; or it is answered so.
abbrev pub AnswersTelling : Telling → Reply → Part → Reply → Dds → Type 0
AnswersTelling telling answer old (Refused code) dds =
    Refuses (telling_refusal old telling) code × (code ≡ Memory → TellingMayWantMemory old telling) × (dds ≡ old.dds)
AnswersTelling telling answer old reply dds =
    (telling_refusal old telling ≡ None) × (reply ≡ answer) × (dds ≡ seen_after_telling old telling)

-- What a call answers, and what it does to what the peer's own calls see. A look at a status, a key, a handle and an
-- assertion need no memory. These are the calls ..
abbrev pub Answers : Tests → Part → Call → Reply → Dds → Type 0
-- .. of a writer
Answers tests old (Register writer key) reply dds =
    IsAnsweredInMemory (not (is_key_registered key (own_writer old writer).written)) (writer_refusal old writer) Done
    old.dds.watch old reply dds
Answers tests old (Write writer key value) reply dds =
    IsDoneUnless (write_refusal old writer key value) reply old.dds old.dds dds
Answers tests old (Dispose writer key) reply dds =
    IsDoneUnless (dispose_refusal old writer key) reply old.dds old.dds dds
Answers tests old (Unregister writer key) reply dds =
    IsDoneUnless (unregister_refusal old writer key) reply old.dds old.dds dds
Answers tests old (AssertLiveliness writer) reply dds =
    IsAnswered (assert_refusal old writer) Done old.dds old reply dds
Answers tests old (SetStrength writer strength) reply dds =
    IsAnswered (strength_refusal old writer) Done old.dds old reply dds
Answers tests old (GetLivelinessLost writer) reply dds =
    IsAnswered (writer_refusal old writer) (LivelinessLost (liveliness_lost_at (own_writer old writer))) old.dds old
    reply dds
-- .. of the samples of a reader, of its instances and of its statuses
Answers tests old (Read reader selection) reply dds = AnswersAccess HasRead no_filter old reader selection reply dds
Answers tests old (Take reader selection) reply dds = AnswersAccess Took no_filter old reader selection reply dds
Answers tests old (GetKeyValue reader instance) (KeyValue key) dds =
    (key_refusal old reader instance ≡ None) × (key_of old reader instance ≡ Some key) × (dds ≡ old.dds)
Answers tests old (GetKeyValue reader instance) (Refused code) dds =
    (key_refusal old reader instance ≡ Some code) × (dds ≡ old.dds)
Answers tests old (GetKeyValue reader instance) reply dds = ⊥
Answers tests old (LookupInstance reader key) reply dds =
    IsAnswered (reader_refusal old reader) (InstanceHandle (handle_at (own_reader old reader) key)) old.dds old
    reply dds
Answers tests old (GetSampleLost reader) reply dds =
    IsAnswered (reader_refusal old reader) (SampleLost (lost_at (own_reader old reader)))
    (after_look old reader (seen_lost (own_reader old reader))) old reply dds
Answers tests old (GetLivelinessChanged reader) reply dds =
    IsAnswered (reader_refusal old reader) (LivelinessChanged (liveliness_at (own_reader old reader)))
    (after_look old reader (seen_liveliness (own_reader old reader))) old reply dds
-- .. of the samples that a condition picks
Answers tests old (ReadByCondition reader scope condition) reply dds =
    AnswersByCondition HasRead (condition_refusal old reader scope condition)
    (condition_test tests old condition) old reader
    (condition_selection old scope condition) reply dds
Answers tests old (TakeByCondition reader scope condition) reply dds =
    AnswersByCondition Took (condition_refusal old reader scope condition)
    (condition_test tests old condition) old reader
    (condition_selection old scope condition) reply dds
-- .. of conditions
Answers tests old (CreateReadCondition reader masks) reply dds =
    IsAnsweredInMemory true (read_condition_refusal old reader) (Created (length old.dds.watch.conditions + 1))
    (with_condition old.dds.watch (OfSamples reader masks None)) old reply dds
Answers tests old (CreateQueryCondition reader masks filter) reply dds =
    IsAnsweredInMemory true (query_condition_refusal old reader filter) (Created (length old.dds.watch.conditions + 1))
    (with_condition old.dds.watch (OfSamples reader masks (Some filter))) old reply dds
Answers tests old CreateGuardCondition reply dds =
    IsAnsweredInMemory true (number_refusal old.dds.watch.conditions) (Created (length old.dds.watch.conditions + 1))
    (with_condition old.dds.watch (Guard false)) old reply dds
Answers tests old (SetTriggerValue condition value) reply dds =
    IsAnsweredWatching (guard_refusal (at_number old.dds.watch.conditions condition)) Done
    (with_condition_at old.dds.watch condition (Some (Guard value))) old reply dds
Answers tests old (DeleteCondition condition) reply dds =
    IsAnsweredWatching (unless_there (is_some (at_number old.dds.watch.conditions condition))) Done
    (without_condition old.dds.watch condition) old reply dds
Answers tests old (GetTriggerValue condition) reply dds =
    IsAnsweredWatching (unless_there (knows old.dds.watch condition))
    (TriggerValue (trigger_value tests old condition)) old.dds.watch old reply dds
-- .. of WaitSets
Answers tests old CreateWaitSet reply dds =
    IsAnsweredInMemory true (number_refusal old.dds.watch.wait_sets) (Created (length old.dds.watch.wait_sets + 1))
    (with_wait_set old.dds.watch) old reply dds
Answers tests old (DeleteWaitSet wait_set) reply dds =
    IsAnsweredWatching (free_refusal (at_number old.dds.watch.wait_sets wait_set)) Done
    (with_wait_set_at old.dds.watch wait_set None) old reply dds
Answers tests old (AttachCondition wait_set condition) reply dds =
    IsAnsweredInMemory (not (is_attached condition (conditions_of old.dds.watch wait_set)))
    (attach_refusal old.dds.watch wait_set condition) Done
    (with_attached old.dds.watch wait_set condition) old reply dds
Answers tests old (DetachCondition wait_set condition) reply dds =
    IsAnsweredWatching (detaching_refusal old.dds.watch wait_set condition) Done
    (with_detached old.dds.watch wait_set condition) old reply dds
Answers tests old (GetConditions wait_set) reply dds =
    IsAnsweredInMemory (nat_lt 0 (length (conditions_of old.dds.watch wait_set)))
    (unless_there (is_some (at_number old.dds.watch.wait_sets wait_set)))
    (Conditions (conditions_of old.dds.watch wait_set)) old.dds.watch old reply dds
Answers tests old (WaitBegin wait_set deadline) reply dds =
    IsAnsweredWatching (free_refusal (at_number old.dds.watch.wait_sets wait_set)) Done
    (with_deadline old.dds.watch wait_set (Some deadline)) old reply dds
Answers tests old (WaitLook wait_set) reply dds =
    AnswersLook (active_of (trigger_value tests old) (conditions_of old.dds.watch wait_set))
    (is_timed_out (at_number old.dds.watch.wait_sets wait_set) old.dds.moment) old wait_set reply dds
Answers tests old (WaitEnd wait_set) reply dds =
    IsAnsweredWatching (use_refusal (at_number old.dds.watch.wait_sets wait_set)) Done
    (with_deadline old.dds.watch wait_set None) old reply dds
-- .. of the statuses of an entity
Answers tests old (SetEnabledStatuses entity mask) reply dds =
    IsAnsweredWatching (unless_there (knows_entity old.dds.watch entity)) Done
    (with_enabled old.dds.watch entity mask) old reply dds
Answers tests old (GetStatusChanges entity) reply dds =
    IsAnsweredWatching (unless_there (knows_entity old.dds.watch entity))
    (StatusChanges (status_changes old entity)) old.dds.watch old reply dds
-- .. of who is matched with a writer or a reader
Answers tests old (MatchReader writer reader greeted) reply dds =
    AnswersTelling (reader_told old writer reader) Done old reply dds
Answers tests old (UnmatchReader writer reader) reply dds =
    AnswersTelling (HasReaderNoMore writer reader) Done old reply dds
Answers tests old (MatchWriter reader writer) reply dds =
    AnswersTelling (HasWriter reader writer)
    (InstanceHandle (option_map_or (λ handle. handle) (publication_among (own_proxies old reader) writer) 0)) old reply dds
Answers tests old (UnmatchWriter reader writer) reply dds =
    AnswersTelling (HasWriterNoMore reader writer) Done old reply dds
Answers tests old (GetPublicationMatched writer) reply dds =
    IsAnswered (writer_refusal old writer) (Matched (publication_matched (own_writer old writer))) old.dds old reply dds
Answers tests old (GetSubscriptionMatched reader) reply dds =
    IsAnswered (reader_refusal old reader)
    (Matched (subscription_matched (own_proxies old reader) (own_reader old reader))) (after_matches_look old reader) old
    reply dds
Answers tests old (MeetReader writer far greeted) reply dds =
    AnswersTelling (far_reader_told writer far) Done old reply dds
Answers tests old (MeetWriter reader far) reply dds =
    AnswersTelling (far_writer_told reader far) (InstanceHandle (handle_once_met old reader far.endpoint)) old reply dds

-- one call at a peer
pub record CallStep (tests : Tests) (old : Part) (call : Call) (reply : Reply) (new : Part) : Type 0 where
  pub answers : Answers tests old call reply new.dds
  pub rtps : new.rtps ≡ effect old.rtps (effect_of old call reply)
