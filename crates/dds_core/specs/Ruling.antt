-- That what a peer knows was claimed, and that an event keeps to the rules of the protocol: what it sends, too.
--
-- RTPS 2.5, 8.4.7 (StatefulWriter, ReaderProxy), 8.4.10 (StatefulReader, WriterProxy).
use Rattle.std.specs.Prelude.{◌≡◌, ℕ, List}
use Rattle.dds_protocol.specs.Roster.{Roster}
use Rattle.dds_protocol.specs.declared.event.Event.{Event}
use Rattle.dds_protocol.specs.declared.event.Event.TheVariants as event
use Rattle.dds_protocol.specs.declared.event.Output.{Output}
use Rattle.dds_machine.specs.declared.reply.Reply.{Reply}
use Rattle.dds_machine.specs.declared.reply.Reply.TheVariants.{Reported}
use Rattle.dds_machine.specs.declared.reply.Report.{Report}
use Rattle.dds_protocol.specs.Backed.{IsBacked}
use Rattle.dds_protocol.specs.Peer.{Peer, packets_of, state_of as network_of}
use Rattle.dds_protocol.specs.DueMessages.{Due, AreSent}
use Rattle.dds_protocol.specs.Protocol.{State, TakesPacket}
use Rattle.dds_protocol.specs.Resuming.{Resumes}
use Rattle.dds_machine.specs.Calls.{effect_of}
use Rattle.dds_core.specs.Sending.{SendsFor, SendsNothing, due_at_tick}

-- all that the peer knows is claimed by what was delivered to it
abbrev pub IsSound : Roster → Peer → Type 0
IsSound roster peer = IsBacked roster peer.number (packets_of peer.delivered) peer.delivered (network_of peer)

-- A packet that was delivered is taken up by the rules of the protocol: they say what moves, what is known then, and
-- which messages are due; these are sent, in their order, or counted as unsent.
pub record IsTakenByRules (roster : Roster) (old : Peer) (packet : List ℕ) (output : Output) (new : Peer) : Type 0 where
  pub report : Report
  pub reply : output.reply ≡ Reported report
  pub dues : List Due
  pub takes : TakesPacket roster old.number packet (network_of old) report dues (network_of new)
  pub sent : AreSent dues output.packets output.unsent

-- where the places of a reader are tried again, the rules say what moves, and what is known then
abbrev pub ResumesByRules : ℕ → State → Reply → State → Type 0
ResumesByRules reader old (Reported report) new = Resumes reader old report new
ResumesByRules reader old reply new = Unit {0}

-- what a call enters is announced; at a tick what is due then is sent; a delivery follows the rules of the protocol, and
-- so do places that are tried again, at which nothing is sent (RTPS 2.5, 8.4.9, 8.4.12)
abbrev pub KeepsRules : Roster → Peer → Event → Output → Peer → Type 0
KeepsRules roster old (event.Call call) output new = SendsFor roster old (effect_of old.part call output.reply) output
KeepsRules roster old (event.Tick now) output new =
    AreSent (due_at_tick roster old output.reply) output.packets output.unsent
KeepsRules roster old (event.Deliver packet) output new = IsTakenByRules roster old packet output new
KeepsRules roster old (event.Resume reader) output new =
    SendsNothing output × ResumesByRules reader (network_of old) output.reply (network_of new)
