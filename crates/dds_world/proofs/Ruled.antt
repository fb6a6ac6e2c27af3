-- A network whose peers keep the rules of the protocol.
use Rattle.std.proofs.Common.{◌≡◌, ap, ℕ, suc, ◌+◌, ◌-◌, List, [], Some, length, get_or, slice_get, subst, sym, ◌∙◌, refl, arith}
use Rattle.dds_protocol.specs.Roster.{Roster, roster_of}
use Rattle.dds_base.specs.Written.{Registered, Changed, Asserted, LookedAt, StrengthSet, Ticked}
use Rattle.dds_machine.specs.declared.call.Call.{Call}
use Rattle.dds_protocol.specs.declared.event.Event.TheVariants as event
use Rattle.dds_protocol.specs.declared.event.Output.{Output}
use Rattle.dds_protocol.specs.declared.event.Packet.{Packet}
use Rattle.dds_machine.specs.declared.event.WorldEvent.{WorldEvent}
use Rattle.dds_machine.specs.declared.event.WorldEvent.TheVariants as world
use Rattle.dds_machine.specs.declared.reply.Reply.{Reply}
use Rattle.dds_machine.specs.declared.reply.Reply.TheVariants.{Done, Reported}
use Rattle.dds_machine.specs.declared.reply.Report.{Report}
use Rattle.dds_machine.specs.Part.{Part}
use Rattle.dds_machine.specs.Calls.{Effect, nothing, writes, tells, looks_at_matches, effect_of}
use Rattle.dds_protocol.specs.Peer.{Peer, no_peer, state_of}
use Rattle.dds_base.specs.declared.endpoint.Endpoint.{Endpoint}
use Rattle.dds_protocol.specs.Contact.{Contact}
use Rattle.dds_protocol.specs.DueMessages.{Due, AreSent, heartbeats_due}
use Rattle.dds_protocol.specs.Protocol.{State, TakesPacket}
use Rattle.dds_protocol.specs.Rules.{AreDue, announcements_due, CountedStep, traffic_of}
use Rattle.dds_protocol.specs.World.{WorldState, machine_of, peer_at}
use Rattle.dds_protocol.proofs.Composed.{composes}
use Rattle.dds_core.specs.Ruling.{ResumesByRules}
use Rattle.dds_core.specs.Sending.{SendsFor, due_at_tick}
use Rattle.dds_core.proofs.CallSteps.{number_is}
use Rattle.dds_protocol.specs.Noticing.{world_ended}
use Rattle.dds_protocol.specs.Traffic.{Traffic, Sends}
use Rattle.dds_protocol.proofs.EndsBeside.{machine_ends}
use Rattle.dds_machine.specs.Noticing.{machine_ended}
use Rattle.dds_machine.specs.Runs.{Steps}
use Rattle.dds_world.specs.WorldStanding.{Hearing, WorldKept, StandsFor, MachineStandsIn, MeetsByConfig, KeepsRules, traffic}
use Rattle.dds_world.specs.Posting.{Announces}
use Rattle.dds_world.specs.Acting.{Acts, RuledSteps}
use Rattle.dds_world.proofs.Sends.{numbered_so}
use Rattle.dds_world.proofs.WorldSteps.{SendsItsDues, acts_ruled, calls_at, delivers_at, found_at, resumes_at, ticks_at}
use Rattle.dds_machine.specs.Machine.{AllTests, Machine, Step}

-- what was sent is that of the state
pub sent_is : {hearing : Hearing} → (kept : WorldKept hearing) (roster : Roster) (network : WorldState)
    (s : StandsFor kept roster network)
    → traffic_of network kept.unsent ≡ traffic kept
sent_is kept roster network s =
    ap (λ (ps : List Packet). let t : Traffic = record { sent = ps; unsent = kept.unsent } in t) s.sent

-- a step by the rules keeps them, and what is delivered at it is taken up, since claims are true
pub rules_at : {hearing : Hearing} → {tests : AllTests} (old new : WorldKept hearing) (ev : WorldEvent) (reply : Reply)
    → RuledSteps tests old ev reply new → Announces old ev reply new → KeepsRules tests old ev reply new
rules_at {tests} old new ev reply steps announces roster network s met =
    let t = steps roster network s met in
    let sends : Sends roster (traffic_of network old.unsent) (machine_of network) ev reply (traffic_of t.0 new.unsent) =
    subst (λ (x : Traffic). Sends roster x (machine_of network) ev reply (traffic_of t.0 new.unsent))
    (sym (sent_is old roster network s))
    (subst (λ (x : Traffic). Sends roster (traffic old) (machine_of network) ev reply x)
    (sym (sent_is new roster (world_ended network ev t.0) t.5)) (announces roster network s met)) in
    let counted : CountedStep roster tests network old.unsent ev reply t.0 new.unsent = record {
      lost = t.1;
      ruled = t.2;
      counted = t.3;
      machine = subst (λ (ps : List Packet). Step tests (length ps) (machine_of network) ev reply (machine_of t.0))
          (sym s.sent) t.4;
      sends = sends;
      progress = (composes roster tests network t.0 ev reply s.sound t.2.step).1;
    } in
    (t.0, counted, t.5)

-- it is a step of the machine that the peers are the parts of
pub machine_steps : {hearing : Hearing} → {tests : AllTests} (old new : WorldKept hearing) (ev : WorldEvent)
    (reply : Reply)
    → RuledSteps tests old ev reply new → Steps MachineStandsIn MeetsByConfig tests (length old.sent) old ev reply new
machine_steps {tests} old new ev reply steps config m stands met =
    let network = stands.0 in
    let t = steps (roster_of config) network stands.2 met in (
      machine_of t.0,
      subst (λ (x : Machine). Step tests (length old.sent) x ev reply (machine_of t.0)) stands.1 t.4,
      (
        world_ended network ev t.0,
        machine_ends network ev t.0 ∙ ap (λ (x : Machine). machine_ended x ev (machine_of t.0)) stands.1,
        t.5,
      ),
    )

-- ---- a call

effect_due : (roster : Roster) (peer : Peer) (effect : Effect) (output : Output) → SendsFor roster peer effect output
    → AreSent (announcements_due roster peer.number (state_of peer) effect) output.packets output.unsent
effect_due roster peer (writes w (Changed change)) output one = one.are_sent
effect_due roster peer (writes w (Registered key)) output none = (none.packets, none.unsent)
effect_due roster peer (writes w (Asserted moment)) output are = are
effect_due roster peer (writes w LookedAt) output none = (none.packets, none.unsent)
effect_due roster peer (writes w (StrengthSet strength)) output none = (none.packets, none.unsent)
effect_due roster peer (writes w (Ticked now behind)) output none = (none.packets, none.unsent)
effect_due roster peer (tells telling) output none = (none.packets, none.unsent)
effect_due roster peer (looks_at_matches w) output none = (none.packets, none.unsent)
effect_due roster peer nothing output none = (none.packets, none.unsent)

call_dues : {hearing : Hearing} → {tests : AllTests} → (kept new : WorldKept hearing) (i : ℕ) (call : Call)
    (reply : Reply)
    (a : Acts tests kept i (event.Call call) reply new)
    → SendsItsDues tests kept i (event.Call call) (world.Call (suc i) call) reply new a
call_dues kept new i call reply a roster network next s rules =
    let peer : Peer = get_or network.peers i no_peer in
    let output : Output = a.acts.output in
    let sent =
    effect_due roster peer (effect_of peer.part call output.reply) output rules in
    let replied : AreSent (announcements_due roster peer.number (state_of peer) (effect_of peer.part call reply))
    output.packets output.unsent =
    subst (λ (r : Reply). AreSent (announcements_due roster peer.number (state_of peer) (effect_of peer.part call r))
    output.packets output.unsent) (sym a.acts.replies) sent in (
      announcements_due roster (suc i) (state_of peer) (effect_of peer.part call reply),
      refl,
      subst (λ (n : ℕ). AreSent (announcements_due roster n (state_of peer) (effect_of peer.part call reply))
          output.packets output.unsent)
          (numbered_so kept roster network i a.acts.core s a.acts.at) replied,
    )

pub called : {hearing : Hearing} → {tests : AllTests} → (kept new : WorldKept hearing) (i peer : ℕ) (call : Call)
    (reply : Reply) → peer ≡ i + 1
    → Acts tests kept i (event.Call call) reply new → RuledSteps tests kept (world.Call peer call) reply new
called {tests} kept new i peer call reply is a =
    subst (λ (n : ℕ). RuledSteps tests kept (world.Call n call) reply new) (number_is peer i is)
    (acts_ruled kept new i (event.Call call)
    (world.Call (suc i) call) reply refl (calls_at tests kept.sent (suc i) call) a
    (call_dues kept new i call reply a) (λ roster met. met))

-- ---- a tick

-- what is due at a tick with this reply, where the writers know this of their readers
abbrev due_so : Roster → (ℕ → Endpoint → Contact) → ℕ → Part → Reply → List Due
due_so roster contacts peer part Done = heartbeats_due roster contacts peer part
due_so roster contacts peer part reply = []

tick_due : (roster : Roster) (peer : Peer) (reply : Reply)
    → due_at_tick roster peer reply ≡ due_so roster peer.known.answered peer.number peer.part reply
tick_due roster peer Done = refl
tick_due roster peer reply = refl

are_due_so : (roster : Roster) (network next : WorldState) (i now : ℕ) (reply : Reply)
    → AreDue roster network (world.Tick (suc i) now) reply next
    (due_so roster (get_or network.peers i no_peer).known.answered (suc i) (get_or network.peers i no_peer).part reply)
are_due_so roster network next i now Done = refl
are_due_so roster network next i now reply = refl

tick_dues : {hearing : Hearing} → {tests : AllTests} → (kept new : WorldKept hearing) (i now : ℕ) (reply : Reply)
    (a : Acts tests kept i (event.Tick now) reply new)
    → SendsItsDues tests kept i (event.Tick now) (world.Tick (suc i) now) reply new a
tick_dues kept new i now reply a roster network next s rules =
    let peer : Peer = get_or network.peers i no_peer in
    let contacts : ℕ → Endpoint → Contact = peer.known.answered in
    let output : Output = a.acts.output in
    let sent : AreSent (due_so roster contacts peer.number peer.part output.reply) output.packets output.unsent =
    subst (λ (ds : List Due). AreSent ds output.packets output.unsent) (tick_due roster peer output.reply) rules in
    let replied : AreSent (due_so roster contacts peer.number peer.part reply) output.packets output.unsent =
    subst (λ (r : Reply). AreSent (due_so roster contacts peer.number peer.part r) output.packets output.unsent)
    (sym a.acts.replies) sent in (
      due_so roster contacts (suc i) peer.part reply,
      are_due_so roster network next i now reply,
      subst (λ (n : ℕ). AreSent (due_so roster contacts n peer.part reply) output.packets output.unsent)
          (numbered_so kept roster network i a.acts.core s a.acts.at) replied,
    )

pub ticked : {hearing : Hearing} → {tests : AllTests} → (kept new : WorldKept hearing) (i peer now : ℕ)
    (reply : Reply) → peer ≡ i + 1
    → Acts tests kept i (event.Tick now) reply new → RuledSteps tests kept (world.Tick peer now) reply new
ticked {tests} kept new i peer now reply is a =
    subst (λ (n : ℕ). RuledSteps tests kept (world.Tick n now) reply new) (number_is peer i is)
    (acts_ruled kept new i (event.Tick now) (world.Tick (suc i) now) reply refl (ticks_at tests kept.sent (suc i) now) a
    (tick_dues kept new i now reply a) (λ roster met. tt))

-- ---- a delivery

-- what is due to the packet that this report is of
reported_due : (roster : Roster) (network next : WorldState) (peer number : ℕ) (packet : Packet) (reply : Reply)
    (report : Report) (dues : List Due) → reply ≡ Reported report → slice_get network.sent (number - 1) ≡ Some packet
    → TakesPacket roster peer packet.bytes (state_of (peer_at network peer)) report dues (state_of (peer_at next peer))
    → AreDue roster network (world.Deliver peer number) reply next dues
reported_due roster network next peer number packet reply report dues is at takes =
    subst (λ (r : Reply). AreDue roster network (world.Deliver peer number) r next dues) (sym is) (packet, at, takes)

delivery_dues : {hearing : Hearing} → {tests : AllTests} → (kept new : WorldKept hearing) (i j : ℕ) (packet : Packet)
    (reply : Reply)
    → slice_get kept.sent j ≡ Some packet → (a : Acts tests kept i (event.Deliver packet.bytes) reply new)
    → SendsItsDues tests kept i (event.Deliver packet.bytes) (world.Deliver (suc i) (j + 1)) reply new a
delivery_dues kept new i j packet reply at a roster network next s rules =
    let before : State = state_of (get_or network.peers i no_peer) in
    let later : State = state_of (get_or next.peers i no_peer) in
    let there : slice_get network.sent ((j + 1) - 1) ≡ Some packet =
    subst (λ (ps : List Packet). slice_get ps ((j + 1) - 1) ≡ Some packet) (sym s.sent)
    (found_at kept.sent j packet at) in (
      rules.dues,
      reported_due roster network next (suc i) (j + 1) packet reply rules.report rules.dues
          (a.acts.replies ∙ rules.reply) there
          (subst (λ (n : ℕ). TakesPacket roster n packet.bytes before rules.report rules.dues later)
          (numbered_so kept roster network i a.acts.core s a.acts.at) rules.takes),
      rules.sent,
    )

-- a packet that was sent is taken up by the rules
taken_up : {hearing : Hearing} → {tests : AllTests} → (kept new : WorldKept hearing) (i j : ℕ) (packet : Packet)
    (reply : Reply)
    → slice_get kept.sent j ≡ Some packet → Acts tests kept i (event.Deliver packet.bytes) reply new
    → RuledSteps tests kept (world.Deliver (suc i) (j + 1)) reply new
taken_up {tests} kept new i j packet reply at a =
    acts_ruled kept new i (event.Deliver packet.bytes)
    (world.Deliver (suc i) (j + 1)) reply refl (delivers_at tests kept.sent (suc i) (j + 1) packet (omega arith)
    (found_at kept.sent j packet at)) a
    (delivery_dues kept new i j packet reply at a) (λ roster met. tt)

pub delivered : {hearing : Hearing} → {tests : AllTests} → (kept new : WorldKept hearing) (i j : ℕ) (packet : Packet)
    (reply : Reply)
    → slice_get kept.sent j ≡ Some packet → Acts tests kept i (event.Deliver packet.bytes) reply new
    → RuledSteps tests kept (world.Deliver (i + 1) (j + 1)) reply new
delivered {tests} kept new i j packet reply at a =
    let next : suc i ≡ i + 1 = omega arith in
    subst (λ (n : ℕ). RuledSteps tests kept (world.Deliver n (j + 1)) reply new) next
    (taken_up kept new i j packet reply at a)

-- ---- places that are tried again

resumed_due : (roster : Roster) (network next : WorldState) (peer reader : ℕ) (reply : Reply)
    → ResumesByRules reader (state_of (peer_at network peer)) reply (state_of (peer_at next peer))
    → AreDue roster network (world.Resume peer reader) reply next []
resumed_due roster network next peer reader (Reported report) h = (refl, h)
resumed_due roster network next peer reader reply h = refl

resume_dues : {hearing : Hearing} → {tests : AllTests} → (kept new : WorldKept hearing) (i reader : ℕ) (reply : Reply)
    (a : Acts tests kept i (event.Resume reader) reply new)
    → SendsItsDues tests kept i (event.Resume reader) (world.Resume (suc i) reader) reply new a
resume_dues kept new i reader reply a roster network next s rules =
    let before : State = state_of (get_or network.peers i no_peer) in
    let later : State = state_of (get_or next.peers i no_peer) in (
      [],
      resumed_due roster network next (suc i) reader reply
          (subst (λ (r : Reply). ResumesByRules reader before r later) (sym a.acts.replies) rules.1),
      (rules.0.packets, rules.0.unsent),
    )

pub resumed : {hearing : Hearing} → {tests : AllTests} → (kept new : WorldKept hearing) (i peer reader : ℕ)
    (reply : Reply) → peer ≡ i + 1
    → Acts tests kept i (event.Resume reader) reply new → RuledSteps tests kept (world.Resume peer reader) reply new
resumed {tests} kept new i peer reader reply is a =
    subst (λ (n : ℕ). RuledSteps tests kept (world.Resume n reader) reply new) (number_is peer i is)
    (acts_ruled kept new i (event.Resume reader)
    (world.Resume (suc i) reader) reply refl (resumes_at tests kept.sent (suc i) reader) a
    (resume_dues kept new i reader reply a) (λ roster met. tt))
