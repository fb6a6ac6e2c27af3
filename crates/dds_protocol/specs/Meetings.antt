-- Whom a peer meets: the ends that it is told of stand in the roster, under the name that is told, with the GUID that is
-- told, and are matched there with its own end. So what packets claim of them, who speak of them by their GUIDs, is
-- claimed of those names.
--
-- RTPS 2.5, 8.2 (GUID_t), 8.4.7.4 (matched_reader_add), 8.4.10.3 (matched_writer_add).
use Rattle.std.specs.Prelude.{◌≡◌, ◌⊎◌, ℕ, true}
use Rattle.dds_base.specs.declared.code.Code.{Code}
use Rattle.dds_base.specs.Matched.{is_reliable}
use Rattle.dds_machine.specs.declared.call.Call.TheVariants.{MeetReader, MeetWriter}
use Rattle.dds_machine.specs.declared.reply.Reply.{Reply}
use Rattle.dds_machine.specs.declared.reply.Reply.TheVariants.{Done, InstanceHandle, Refused}
use Rattle.dds_protocol.specs.declared.event.Event.{Event}
use Rattle.dds_protocol.specs.declared.event.Event.TheVariants as event
use Rattle.dds_machine.specs.declared.event.WorldEvent.{WorldEvent}
use Rattle.dds_machine.specs.declared.event.WorldEvent.TheVariants as world
use Rattle.dds_protocol.specs.Claims.{IsReader, IsWriter}
use Rattle.dds_protocol.specs.Roster.{Roster}

-- Whom the peer of this number meets by the event, which is answered so, the roster has, by that name and GUID, matched
-- with the end that is told; and a reader is as reliable there as it is told.
abbrev pub MeetsByRoster : Roster → ℕ → Event → Reply → Type 0
MeetsByRoster roster peer (event.Call (MeetReader writer far greeted)) Done =
    IsReader roster far.guid.prefix far.guid.entity far.endpoint
    × (roster.are_matched (record { peer = peer; number = writer }) far.endpoint ≡ true)
    × (roster.is_reliable far.endpoint ≡ is_reliable far.requested.reliability)
MeetsByRoster roster peer (event.Call (MeetWriter reader far)) (InstanceHandle handle) =
    IsWriter roster far.guid.prefix far.guid.entity far.endpoint
    × (roster.are_matched far.endpoint (record { peer = peer; number = reader }) ≡ true)
MeetsByRoster roster peer other reply = Unit {0}

-- the event is none of the calls by which a peer meets an end
abbrev pub IsNoMeeting : Event → Type 0
IsNoMeeting (event.Call (MeetReader writer far greeted)) = ⊥
IsNoMeeting (event.Call (MeetWriter reader far)) = ⊥
IsNoMeeting other = Unit {0}

-- whom a peer of the network meets by the event, which is answered so, the roster has
abbrev pub MeetsInNetwork : Roster → WorldEvent → Reply → Type 0
MeetsInNetwork roster (world.Call peer call) reply = MeetsByRoster roster peer (event.Call call) reply
MeetsInNetwork roster other reply = Unit {0}

-- the event of the network is none of those calls
abbrev pub NobodyIn : WorldEvent → Type 0
NobodyIn (world.Call peer call) = IsNoMeeting (event.Call call)
NobodyIn other = Unit {0}

-- by such an event nobody is met, and by none that is refused: so whatever the roster, it has whom the peer meets by it
abbrev pub NobodyIsMet : Type 0
NobodyIsMet = (roster : Roster) (peer : ℕ) (event : Event) (reply : Reply)
    → IsNoMeeting event ⊎ ((code : Code) × (reply ≡ Refused code)) → MeetsByRoster roster peer event reply
