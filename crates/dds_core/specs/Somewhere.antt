-- That some roster has whom a peer meets. A peer takes a newcomer by the names that it knows itself; who else there is it
-- can't know. Where the newcomer is called otherwise there, what the peer stands for is that of another roster.
--
-- RTPS 2.5, 8.4.7.4 (matched_reader_add), 8.4.10.3 (matched_writer_add).
use Rattle.std.specs.Prelude.{◌≡◌}
use Rattle.dds_machine.specs.declared.reply.Reply.{Reply}
use Rattle.dds_protocol.specs.declared.event.Event.{Event}
use Rattle.dds_protocol.specs.Meetings.{MeetsByRoster}
use Rattle.dds_protocol.specs.Peer.{Peer}
use Rattle.dds_protocol.specs.Roster.{Roster}
use Rattle.dds_core.specs.Kept.{PeerKept}
use Rattle.dds_core.specs.Ruling.{IsSound}
use Rattle.dds_core.specs.Standing.{StandsFor}

-- There is a roster that has whom the peer meets by the event, and in it a peer of the same number and the same part for
-- which the values stand, and of which all that is known was claimed.
pub record Somewhere (Stands : Roster → Peer → Type 0) (peer : Peer) (event : Event) (reply : Reply) : Type 0 where
  pub roster : Roster
  pub alike : Peer
  pub number : alike.number ≡ peer.number
  pub part : alike.part ≡ peer.part
  pub stands : Stands roster alike
  pub sound : IsSound roster alike
  pub has : MeetsByRoster roster alike.number event reply

-- so it is of each state that these values stand for, and of which all that is known was claimed
abbrev pub MeetsSomewhere : PeerKept → Event → Reply → Type 0
MeetsSomewhere kept event reply = (roster : Roster) (peer : Peer) → StandsFor kept roster peer → IsSound roster peer
    → Somewhere (StandsFor kept) peer event reply
