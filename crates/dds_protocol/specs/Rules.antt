-- A network whose peers keep the rules of the reliable protocol: which messages are due at an event, and which packets
-- are sent of them.
--
-- RTPS 2.5, 8.4.9 (reliable StatefulWriter), 8.4.12 (reliable StatefulReader).
use Rattle.std.specs.Prelude.{◌≡◌, ℕ, ◌+◌, ◌-◌, ◌^◌, min, List, [], ◌∷◌, ◌++◌, length, slice_get, Some}
use Rattle.dds_protocol.specs.Roster.{Roster}
use Rattle.dds_base.specs.Written.{Changed, Asserted}
use Rattle.dds_protocol.specs.Noticing.{world_ended}
use Rattle.dds_protocol.specs.declared.event.Packet.{Packet}
use Rattle.dds_machine.specs.declared.event.WorldEvent.{WorldEvent}
use Rattle.dds_machine.specs.declared.event.WorldEvent.TheVariants.{Call, Tick, Deliver, Resume}
use Rattle.dds_machine.specs.declared.reply.Reply.{Reply}
use Rattle.dds_machine.specs.declared.reply.Reply.TheVariants.{Done, Reported}
use Rattle.dds_machine.specs.Part.{own_writer, writer_changes}
use Rattle.dds_machine.specs.Calls.{Effect, writes, effect_of}
use Rattle.dds_machine.specs.Machine.{AllTests, Step}
use Rattle.dds_protocol.specs.Progress.{Progresses}
use Rattle.dds_protocol.specs.Peer.{state_of}
use Rattle.dds_protocol.specs.DueMessages.{Due, AreSent, assertions_due, changes_due, heartbeats_due}
use Rattle.dds_protocol.specs.Protocol.{State, TakesPacket}
use Rattle.dds_protocol.specs.Resuming.{Resumes}
use Rattle.dds_protocol.specs.Traffic.{Traffic, Sends}
use Rattle.dds_protocol.specs.World.{WorldState, WorldStep, peer_at, machine_of}

-- what is due for what a call enters at a writer of the peer: a change is announced, with the next number, and an
-- assertion is told
abbrev pub announcements_due : Roster → ℕ → State → Effect → List Due
announcements_due roster peer old (writes writer (Changed change)) =
    changes_due roster (record { peer = peer; number = writer }) (own_writer old.part writer).matched
    (length (writer_changes (own_writer old.part writer)) + 1) change
announcements_due roster peer old (writes writer (Asserted moment)) =
    assertions_due roster (old.known.answered writer) (record { peer = peer; number = writer })
    (own_writer old.part writer)
announcements_due roster peer old other = []

-- These messages are due at an event: for a call what announces its change or tells its assertion, at a tick that is
-- done the HEARTBEATs of the peer, for a delivered packet what the rules say once it was taken up; where places are
-- tried again, by the rules, and where the event is refused, none.
abbrev pub AreDue : Roster → WorldState → WorldEvent → Reply → WorldState → List Due → Type 0
AreDue roster old (Call peer call) reply new dues =
    dues ≡ announcements_due roster peer (state_of (peer_at old peer)) (effect_of (peer_at old peer).part call reply)
AreDue roster old (Tick peer now) Done new dues =
    dues ≡ heartbeats_due roster (peer_at old peer).known.answered peer (peer_at old peer).part
AreDue roster old (Deliver peer number) (Reported report) new dues =
    (packet : Packet) × (slice_get old.sent (number - 1) ≡ Some packet)
    × TakesPacket roster peer packet.bytes (state_of (peer_at old peer)) report dues (state_of (peer_at new peer))
AreDue roster old (Resume peer reader) (Reported report) new dues =
    (dues ≡ []) × Resumes reader (state_of (peer_at old peer)) report (state_of (peer_at new peer))
AreDue roster old event reply new dues = dues ≡ []

-- One event of a network by the rules: it is a step of the peers, and of the messages that are due these packets are
-- sent, in their order; so many are not.
pub record RuledStep (roster : Roster) (tests : AllTests) (old : WorldState) (event : WorldEvent) (reply : Reply)
    (lost : ℕ) (new : WorldState) : Type 0 where
  pub step : WorldStep roster tests old event reply new
  pub dues : List Due
  pub due : AreDue roster old event reply new dues
  pub packets : List Packet
  pub sent : new.sent ≡ old.sent ++ packets
  pub are_sent : AreSent dues packets lost

-- what a network sent so far, where so many packets were counted as unsent
abbrev pub traffic_of : WorldState → ℕ → Traffic
traffic_of world unsent = record { sent = world.sent; unsent = unsent }

-- One event of a network by the rules, and how many packets are counted as unsent before it and after it: to the
-- greatest number that has 64 bits, those that are due and not sent besides. It is a step of the machine that the peers
-- are the parts of; what the machine can say of what is sent is so; and a delivered packet is taken up, submessage by
-- submessage.
pub record CountedStep (roster : Roster) (tests : AllTests) (old : WorldState) (unsent : ℕ) (event : WorldEvent)
    (reply : Reply)
    (new : WorldState) (next : ℕ) : Type 0 where
  pub lost : ℕ
  pub ruled : RuledStep roster tests old event reply lost new
  pub counted : next ≡ min (unsent + lost) (2 ^ 64 - 1)
  pub machine : Step tests (length old.sent) (machine_of old) event reply (machine_of new)
  pub sends : Sends roster (traffic_of old unsent) (machine_of old) event reply (traffic_of new next)
  pub progress : Progresses roster old.sent (machine_of old) event reply

-- Replies to a list of events of a network by the rules, one after another, each to its end, at which listeners are
-- told; with the counts of unsent packets before and after.
abbrev pub RuledRun : Roster → AllTests → WorldState → ℕ → List WorldEvent → List Reply → WorldState → ℕ → Type 0
RuledRun roster tests old unsent [] [] new last = (new ≡ old) × (last ≡ unsent)
RuledRun roster tests old unsent (event ∷ events) (reply ∷ replies) new last =
    (mid : WorldState) × (next : ℕ) × CountedStep roster tests old unsent event reply mid next
    × RuledRun roster tests (world_ended old event mid) next events replies new last
RuledRun roster tests old unsent [] (reply ∷ replies) new last = ⊥
RuledRun roster tests old unsent (event ∷ events) [] new last = ⊥
