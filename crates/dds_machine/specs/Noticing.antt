-- What listeners are told at an event's end: each status that was raised in the event, with its values at that moment,
-- goes once to the listener of its entity, else to that of the participant; its flag is then cleared, as by a look.
-- Where nobody takes it the flag stays.
--
-- DDS 1.4, 2.2.4.1 (communication statuses), 2.2.4.2.1 (changes in plain communication status), 2.2.4.3 (access through
-- listeners).
use Rattle.std.specs.Prelude.{ℕ, zero, suc, ◌==◌, nat_lt, List, length, Option, None, Some, is_some, if◌then◌else◌}
use Rattle.dds_base.specs.declared.entity.Entity.{Entity}
use Rattle.dds_base.specs.declared.entity.Entity.TheVariants as entity
use Rattle.dds_base.specs.Liveliness.{liveliness_changed_status}
use Rattle.dds_base.specs.StatusFlags.{data_available_at, is_after, turned_at}
use Rattle.dds_base.specs.Statuses.{sample_lost_status}
use Rattle.dds_base.specs.Written.{LookedAt, liveliness_lost_status}
use Rattle.dds_notices.specs.declared.notice.Status.{Status}
use Rattle.dds_notices.specs.declared.notice.Status.TheVariants.{SampleLost, DataAvailable, LivelinessLost, LivelinessChanged, PublicationMatched, SubscriptionMatched}
use Rattle.dds_notices.specs.Listeners.{Place, after_notice, taker_of, with_entity}
use Rattle.dds_machine.specs.Part.{Part, Reader, Seen, Writer, WriterProxy, own_proxies, own_reader, own_writer}
use Rattle.dds_machine.specs.Calls.{Effect, after_look, after_matches_look, effect, looks_at_matches, seen_liveliness, seen_lost, writes}
use Rattle.dds_machine.specs.declared.event.WorldEvent.{WorldEvent}
use Rattle.dds_machine.specs.declared.event.WorldEvent.TheVariants as event
use Rattle.dds_machine.specs.Matching.{attached_count, publication_matched, subscription_matched}
use Rattle.dds_machine.specs.Numbered.{with_numbered}
use Rattle.dds_machine.specs.Passing.{passed_at}
use Rattle.dds_machine.specs.Machine.{Machine, part_at}

-- ---- what an event raised, by what an entity was before it

-- SAMPLE_LOST of a reader, if changes were passed over
abbrev pub lost_raised : Reader → Reader → Option Status
lost_raised before r =
    if is_after (length before.happened) (passed_at r.happened)
    then Some (SampleLost (sample_lost_status r.happened r.seen.lost)) else None

-- its DATA_AVAILABLE, if a sample came
abbrev pub data_raised : Reader → Reader → Option Status
data_raised before r = if is_after (length before.happened) (data_available_at r.qos r.happened) then Some DataAvailable
    else None

-- its LIVELINESS_CHANGED, if a writer became alive, or not alive
abbrev pub turn_raised : Reader → Reader → Option Status
turn_raised before r =
    if is_after (length before.happened) (turned_at r.happened)
    then Some (LivelinessChanged (liveliness_changed_status r.qos r.happened r.seen.alive r.seen.not_alive)) else None

-- how often a writer's liveliness was lost
abbrev pub losses_of : Writer → ℕ
losses_of w = (liveliness_lost_status w.lease w.written).total_count

-- LIVELINESS_LOST of a writer, if it was lost
abbrev pub loss_raised : Writer → Writer → Option Status
loss_raised before w = if nat_lt (losses_of before) (losses_of w)
    then Some (LivelinessLost (liveliness_lost_status w.lease w.written)) else None

-- PUBLICATION_MATCHED of a writer, if more or fewer readers are matched with it
abbrev pub publication_raised : Writer → Writer → Option Status
publication_raised before w =
    if length w.matched == length before.matched then None else Some (PublicationMatched (publication_matched w))

-- SUBSCRIPTION_MATCHED of a reader that knew those writers and knows these, if it is matched with more or fewer
abbrev pub subscription_raised : List WriterProxy → List WriterProxy → Reader → Option Status
subscription_raised before rows r =
    if attached_count rows == attached_count before then None
    else Some (SubscriptionMatched (subscription_matched rows r))

-- ---- what is told of it

-- what is seen of a reader's other statuses once this one was looked at
abbrev pub seen_by : Reader → Status → Seen
seen_by r (SampleLost values) = seen_lost r
seen_by r DataAvailable = record r.seen { entries_at_data = length r.happened }
seen_by r (LivelinessChanged values) = seen_liveliness r
seen_by r other = r.seen

-- what a look at this status of a writer does there
abbrev pub look_of : ℕ → Status → Effect
look_of n (PublicationMatched values) = looks_at_matches n
look_of n other = writes n LookedAt

-- a part, once a status of an entity was looked at
abbrev pub looked_at : Part → Entity → Status → Part
looked_at part entity.Participant status = part
looked_at part (entity.Writer n) status = record part { rtps = effect part.rtps (look_of n status) }
looked_at part (entity.Reader n) (SubscriptionMatched values) = record part { dds = after_matches_look part n }
looked_at part (entity.Reader n) status = record part { dds = after_look part n (seen_by (own_reader part n) status) }

-- a part, once a listener was told of a status of an entity, and it was looked at
abbrev pub told_of : Part → Entity → Status → Part
told_of part entity status = record (looked_at part entity status) {
  dds = record (looked_at part entity status).dds
      { listeners = after_notice part.dds.listeners (record { entity = entity; status = status }) };
}

-- a part, once a status of an entity, if it was raised, was told to whoever takes it, if somebody does
abbrev pub told : Part → Entity → Option Status → Part
told part entity None = part
told part entity (Some status) =
    if is_some (taker_of part.dds.listeners entity status) then told_of part entity status else part

-- A part, once the statuses of the reader of this number that were raised since the part was as before were told, by
-- ascending bit (2.3.3): SAMPLE_LOST, DATA_AVAILABLE, LIVELINESS_CHANGED and SUBSCRIPTION_MATCHED.
abbrev pub reader_told : Part → ℕ → Part → Part
reader_told before n part =
    let lost : Part = told part (entity.Reader n) (lost_raised (own_reader before n) (own_reader part n)) in
    let came : Part = told lost (entity.Reader n) (data_raised (own_reader before n) (own_reader lost n)) in
    let turn : Part = told came (entity.Reader n) (turn_raised (own_reader before n) (own_reader came n)) in
    told turn (entity.Reader n) (subscription_raised (own_proxies before n) (own_proxies turn n) (own_reader turn n))

-- a part, once those of the writer of this number were told likewise: LIVELINESS_LOST and PUBLICATION_MATCHED
abbrev pub writer_told : Part → ℕ → Part → Part
writer_told before n part =
    let lost : Part = told part (entity.Writer n) (loss_raised (own_writer before n) (own_writer part n)) in
    told lost (entity.Writer n) (publication_raised (own_writer before n) (own_writer lost n))

-- the first so many entities, in their order
abbrev pub each_told : (ℕ → Part → Part) → ℕ → Part → Part
each_told tell zero part = part
each_told tell (suc n) part = tell (suc n) (each_told tell n part)

-- the end of an event that came to a peer's part as it was before: the writers first, then the readers
unfoldable pub at_end : Part → Part → Part
at_end before part = each_told (reader_told before) (length part.dds.readers)
    (each_told (writer_told before) (length part.rtps.writers) part)

-- ---- in a network

-- the peer of an event
abbrev pub peer_of : WorldEvent → ℕ
peer_of (event.Call peer call) = peer
peer_of (event.Tick peer now) = peer
peer_of (event.Deliver peer packet) = peer
peer_of (event.Resume peer reader) = peer

-- the machine at the end of an event, which came to it as it was before
abbrev pub machine_ended : Machine → WorldEvent → Machine → Machine
machine_ended before e m = record {
  parts = with_numbered m.parts (peer_of e) (at_end (part_at before (peer_of e)) (part_at m (peer_of e)));
}

-- ---- listeners that are set

-- a peer's part with another place of a listener at an entity, or none
abbrev pub part_with_place : Part → Entity → Option Place → Part
part_with_place part entity place =
    record part { dds = record part.dds { listeners = with_entity part.dds.listeners entity place } }

-- the machine, in which the peer of this number has that
abbrev pub machine_with_place : Machine → ℕ → Entity → Option Place → Machine
machine_with_place m peer entity place =
    record { parts = with_numbered m.parts peer (part_with_place (part_at m peer) entity place) }
