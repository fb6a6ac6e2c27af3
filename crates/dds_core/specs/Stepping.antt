-- What an event does to a peer. Inner functions alone cite this: nothing here has to be believed.
--
-- RTPS 2.5, 8.4.7 (StatefulWriter), 8.4.10 (StatefulReader): the machine has them without packets.
use Rattle.dds_protocol.specs.Roster.{Roster}
use Rattle.dds_protocol.specs.declared.event.Event.{Event}
use Rattle.dds_protocol.specs.declared.event.Event.TheVariants as event
use Rattle.dds_protocol.specs.declared.event.Output.{Output}
use Rattle.dds_machine.specs.Calls.{effect_of}
use Rattle.dds_machine.specs.Watching.{Tests}
use Rattle.dds_conditions.specs.NoFilters.{no_filters}
use Rattle.dds_protocol.specs.DueMessages.{AreSent}
use Rattle.dds_protocol.specs.Meetings.{MeetsByRoster}
use Rattle.dds_protocol.specs.Peer.{Peer, PeerStep}
use Rattle.dds_core.specs.Kept.{PeerKept}
use Rattle.dds_core.specs.Standing.{StandsFor}
use Rattle.dds_core.specs.Ruling.{IsSound, KeepsRules}
use Rattle.dds_core.specs.Sending.{SendsFor, due_at_tick}
use Rattle.dds_core.specs.Somewhere.{MeetsSomewhere}

-- for each state that the old values stand for, the event is a step by these filters to one that the new values stand
-- for
abbrev pub StepsBy : Tests → PeerKept → Event → Output → PeerKept → Type 0
StepsBy tests old event output new = (roster : Roster) (peer : Peer) → StandsFor old roster peer
    → (after : Peer) × PeerStep roster tests peer event output after × StandsFor new roster after

-- the same of an event by which the peer meets nobody but whom the roster has; and some roster has whom it meets
pub record StepsMeeting (tests : Tests) (old : PeerKept) (event : Event) (output : Output) (new : PeerKept)
    : Type 0 where
  pub step : (roster : Roster) (peer : Peer) → StandsFor old roster peer
      → MeetsByRoster roster peer.number event output.reply
      → (after : Peer) × PeerStep roster tests peer event output after × StandsFor new roster after
  pub meets : MeetsSomewhere old event output.reply

-- the same of any event in which no filter has a say
abbrev pub Steps : PeerKept → Event → Output → PeerKept → Type 0
Steps old event output new = StepsBy no_filters old event output new

-- for each state that the values stand for, this is what is sent at a call or a tick; what is sent at a delivery, and
-- where places are tried again, is said by the rules of the protocol
abbrev pub Sends : PeerKept → Event → Output → Type 0
Sends old (event.Call call) output =
    (roster : Roster) (peer : Peer) → StandsFor old roster peer
    → SendsFor roster peer (effect_of peer.part call output.reply) output
Sends old (event.Tick now) output =
    (roster : Roster) (peer : Peer) → StandsFor old roster peer
    → AreSent (due_at_tick roster peer output.reply) output.packets output.unsent
Sends old (event.Deliver packet) output = Unit {0}
Sends old (event.Resume reader) output = Unit {0}

-- For each state that the old values stand for, and of which all that is known was claimed, the event, by which the peer
-- meets nobody but whom the roster has, is a step to one that the new values stand for, and of which all that is known was
-- claimed; it follows the rules of the protocol. Some roster has whom the peer meets.
pub record SoundStepsBy (tests : Tests) (old : PeerKept) (event : Event) (output : Output) (new : PeerKept)
    : Type 0 where
  pub step : (roster : Roster) (peer : Peer) → StandsFor old roster peer → IsSound roster peer
      → MeetsByRoster roster peer.number event output.reply
      → (after : Peer) × PeerStep roster tests peer event output after × StandsFor new roster after
      × IsSound roster after × KeepsRules roster peer event output after
  pub meets : MeetsSomewhere old event output.reply

-- the same of an event in which no filter has a say, and by which nobody is met
abbrev pub SoundSteps : PeerKept → Event → Output → PeerKept → Type 0
SoundSteps old event output new =
    (roster : Roster) (peer : Peer) → StandsFor old roster peer → IsSound roster peer
    → (after : Peer) × PeerStep roster no_filters peer event output after × StandsFor new roster after
    × IsSound roster after × KeepsRules roster peer event output after
