-- What a network sends at an event.
use Rattle.std.proofs.Common.{◌≡◌, ℕ, suc, ◌+◌, List, Some, length, get_or, slice_get, subst, sym, ◌∙◌, refl, arith}
use Rattle.dds_base.specs.declared.change.Change.{Change}
use Rattle.dds_protocol.specs.Roster.{Roster}
use Rattle.dds_base.specs.Written.{Registered, Changed, Asserted, LookedAt, StrengthSet, Ticked}
use Rattle.dds_machine.specs.declared.call.Call.{Call}
use Rattle.dds_base.specs.declared.endpoint.Endpoint.{Endpoint}
use Rattle.dds_protocol.specs.declared.event.Event.{Event}
use Rattle.dds_protocol.specs.declared.event.Event.TheVariants as event
use Rattle.dds_protocol.specs.declared.event.Output.{Output}
use Rattle.dds_protocol.specs.declared.event.Packet.{Packet}
use Rattle.dds_machine.specs.declared.event.WorldEvent.TheVariants as world
use Rattle.dds_machine.specs.declared.reply.Reply.{Reply}
use Rattle.dds_machine.specs.declared.reply.Report.{Report}
use Rattle.dds_machine.specs.declared.reply.Reply.TheVariants.{Done, Refused, Reported}
use Rattle.dds_base.specs.declared.code.Code.TheVariants.{BadParameter}
use Rattle.dds_machine.specs.Part.{Part, own_writer, writer_changes, peers_of}
use Rattle.dds_machine.specs.Calls.{Effect, nothing, writes, tells, looks_at_matches, effect_of}
use Rattle.dds_machine.specs.Machine.{AllTests, part_at}
use Rattle.dds_protocol.specs.Peer.{Peer, no_peer}
use Rattle.dds_protocol.specs.DueMessages.{Due, AreSent, assertions_due, changes_due, heartbeats_due}
use Rattle.dds_protocol.specs.Contact.{Contact}
use Rattle.dds_protocol.specs.Traffic.{Traffic, Announced, Sends, SendsDues, SendsOf}
use Rattle.dds_protocol.specs.World.{WorldState, machine_of}
use Rattle.dds_machine.proofs.Tables.{numbered-map}
use Rattle.dds_core.specs.Kept.{PeerKept}
use Rattle.dds_core.specs.Ruling.{KeepsRules as CoreKeepsRules}
use Rattle.dds_core.specs.Sending.{SendsNothing, SendsChange, SendsFor, due_at_tick}
use Rattle.dds_core.proofs.CallSteps.{number_is, refused_nothing}
use Rattle.dds_ends.proofs.Lists.{get-within}
use Rattle.dds_world.specs.WorldStanding.{Hearing, WorldKept, StandsFor, traffic}
use Rattle.dds_protocol.specs.Meetings.{MeetsByRoster}
use Rattle.dds_world.proofs.Meetings.{met_at}
use Rattle.dds_world.specs.Posting.{Posts, Announces}
use Rattle.dds_world.specs.Acting.{Acts, Counts, IsQuiet}
use Rattle.dds_world.proofs.Posted.{lost_in_all, lost_is, posted_count, posted_on}

-- a change that a peer announces is announced in the network
announced : {hearing : Hearing} → (kept new : WorldKept hearing) (roster : Roster) (writer : Endpoint)
    (readers : List Endpoint) (number : ℕ)
    (change : Change) (output : Output) → Posts kept.sent output.packets new.sent → Counts kept output new
    → SendsChange roster writer readers number change output
    → Announced roster (traffic kept) writer readers number change (traffic new)
announced kept new roster writer readers number change output posts counts one =
    let parts = posted_count output.packets posts.posted posts.lost posts.are_posted in
    record {
      packets = posts.posted;
      sent = posts.sent;
      to_peers = λ packet m. one.to_peers packet (posts.of_packets packet m);
      says = λ packet reader m same matched. one.says packet reader (posts.of_packets packet m) same matched;
      different = posts.different one.different;
      lost = output.unsent + posts.lost;
      counted =
          lost_in_all (length posts.posted) (length output.packets) posts.lost output.unsent
          (length (peers_of readers)) parts one.counted;
      are_sent =
          posted_on (changes_due roster writer readers number change) output.packets posts.posted output.unsent
          posts.lost one.are_sent posts.are_posted;
      unsent = lost_is kept new output posts counts;
    }

-- what a peer sends of its dues is sent in the network
pub dues_sent : {hearing : Hearing} → (kept new : WorldKept hearing) (dues : List Due) (output : Output)
    → Posts kept.sent output.packets new.sent
    → Counts kept output new → AreSent dues output.packets output.unsent → SendsDues dues (traffic kept) (traffic new)
dues_sent kept new dues output posts counts are = record {
  packets = posts.posted;
  sent = posts.sent;
  lost = output.unsent + posts.lost;
  are_sent = posted_on dues output.packets posts.posted output.unsent posts.lost are posts.are_posted;
  unsent = lost_is kept new output posts counts;
}

traffic_as : (a b : List Packet) (m n : ℕ) → a ≡ b → m ≡ n
    → ◌≡◌ {A = Traffic} (record { sent = a; unsent = m }) (record { sent = b; unsent = n })
traffic_as a b m n e f = cc

same_traffic : {hearing : Hearing} → (kept new : WorldKept hearing) (output : Output) → IsQuiet kept output new
    → SendsNothing output
    → traffic new ≡ traffic kept
same_traffic kept new output quiet none =
    let q = quiet none in traffic_as new.sent kept.sent new.unsent kept.unsent q.0 q.1

-- what a peer of this number and this part, whose writers know this of their readers, sends for an effect
abbrev SendsAt : Roster → Traffic → (ℕ → Endpoint → Contact) → ℕ → Part → Effect → Traffic → Type 0
SendsAt roster old contacts peer part (writes writer (Changed change)) new =
    Announced roster old (record { peer = peer; number = writer }) (own_writer part writer).matched
    (length (writer_changes (own_writer part writer)) + 1) change new
SendsAt roster old contacts peer part (writes writer (Asserted moment)) new =
    SendsDues (assertions_due roster (contacts writer) (record { peer = peer; number = writer })
    (own_writer part writer)) old new
SendsAt roster old contacts peer part other new = new ≡ old

effect_sends : {hearing : Hearing} → (kept new : WorldKept hearing) (roster : Roster) (peer : Peer) (effect : Effect)
    (output : Output)
    → Posts kept.sent output.packets new.sent → Counts kept output new → IsQuiet kept output new
    → SendsFor roster peer effect output
    → SendsAt roster (traffic kept) peer.known.answered peer.number peer.part effect (traffic new)
effect_sends kept new roster peer (writes w (Changed change)) output posts counts quiet one =
    announced kept new roster (record { peer = peer.number; number = w }) (own_writer peer.part w).matched
    (length (writer_changes (own_writer peer.part w)) + 1) change output posts counts one
effect_sends kept new roster peer (writes w (Registered key)) output posts counts quiet none =
    same_traffic kept new output quiet none
effect_sends kept new roster peer (writes w (Asserted moment)) output posts counts quiet are =
    dues_sent kept new (assertions_due roster (peer.known.answered w) (record { peer = peer.number; number = w })
    (own_writer peer.part w)) output posts counts are
effect_sends kept new roster peer (writes w LookedAt) output posts counts quiet none =
    same_traffic kept new output quiet none
effect_sends kept new roster peer (writes w (StrengthSet strength)) output posts counts quiet none =
    same_traffic kept new output quiet none
effect_sends kept new roster peer (writes w (Ticked now behind)) output posts counts quiet none =
    same_traffic kept new output quiet none
effect_sends kept new roster peer (tells telling) output posts counts quiet none =
    same_traffic kept new output quiet none
effect_sends kept new roster peer (looks_at_matches w) output posts counts quiet none =
    same_traffic kept new output quiet none
effect_sends kept new roster peer nothing output posts counts quiet none = same_traffic kept new output quiet none

-- a peer of the machine sends so
machine_sends : (roster : Roster) (old new : Traffic) (contacts : ℕ → Endpoint → Contact) (network : WorldState)
    (peer : ℕ) (effect : Effect) → SendsAt roster old contacts peer (part_at (machine_of network) peer) effect new
    → SendsOf roster old (machine_of network) peer effect new
machine_sends roster old new contacts network peer (writes w (Changed change)) h = h
machine_sends roster old new contacts network peer (writes w (Registered key)) h = h
machine_sends roster old new contacts network peer (writes w (Asserted moment)) h = (contacts w, h)
machine_sends roster old new contacts network peer (writes w LookedAt) h = h
machine_sends roster old new contacts network peer (writes w (StrengthSet strength)) h = h
machine_sends roster old new contacts network peer (writes w (Ticked now behind)) h = h
machine_sends roster old new contacts network peer (tells telling) h = h
machine_sends roster old new contacts network peer (looks_at_matches w) h = h
machine_sends roster old new contacts network peer nothing h = h

-- the number of the peer of this index
pub numbered_so : {hearing : Hearing} → (kept : WorldKept hearing) (roster : Roster) (network : WorldState) (i : ℕ)
    (core : PeerKept)
    → StandsFor kept roster network → slice_get kept.peers i ≡ Some core
    → (get_or network.peers i no_peer).number ≡ suc i
numbered_so kept roster network i core s at =
    let count = s.count in
    let low = get-within kept.peers i core at in s.sound.number (suc i) (omega arith, omega (arith, count, low))

-- the event of the peer of this index follows the rules of the protocol
rules_of : {hearing : Hearing} → {tests : AllTests} → (kept new : WorldKept hearing) (i : ℕ) (ev : Event)
    (reply : Reply) (a : Acts tests kept i ev reply new) (roster : Roster) (network : WorldState)
    → StandsFor kept roster network → MeetsByRoster roster (suc i) ev reply
    → (after : Peer) × CoreKeepsRules roster (get_or network.peers i no_peer) ev a.acts.output after
rules_of kept new i ev reply a roster network s met =
    let acts = a.acts in
    let r =
    acts.steps roster (get_or network.peers i no_peer) (s.each i acts.core acts.at) (s.filters i)
    (s.listeners i acts.slots acts.slots_at) (s.known i acts.core acts.at)
    (met_at kept roster network i acts.core ev reply acts.output.reply s acts.at acts.replies met) in
    (r.0, r.2)

-- what is sent at a call of the peer of this index
call_sends : {hearing : Hearing} → {tests : AllTests} → (kept new : WorldKept hearing) (i : ℕ) (c : Call)
    (reply : Reply)
    → Acts tests kept i (event.Call c) reply new → Announces kept (world.Call (suc i) c) reply new
call_sends kept new i c reply a roster network s met =
    let acts = a.acts in
    let old : Traffic = traffic kept in
    let peer : Peer = get_or network.peers i no_peer in
    let output : Output = acts.output in
    let number = numbered_so kept roster network i acts.core s acts.at in
    let part : part_at (machine_of network) (suc i) ≡ peer.part =
    numbered-map (λ (p : Peer). p.part) network.peers (suc i) no_peer in
    let effect : Effect = effect_of peer.part c output.reply in
    let contacts : ℕ → Endpoint → Contact = peer.known.answered in
    let sent : SendsAt roster old contacts peer.number peer.part effect (traffic new) =
    effect_sends kept new roster peer effect output acts.posts a.counts a.quiet
    (rules_of kept new i (event.Call c) reply a roster network s met).1 in
    let replied : SendsAt roster old contacts peer.number peer.part (effect_of peer.part c reply) (traffic new) =
    subst (λ (r : Reply). SendsAt roster old contacts peer.number peer.part (effect_of peer.part c r) (traffic new))
    (sym acts.replies) sent in
    let numbered' : SendsAt roster old contacts (suc i) peer.part (effect_of peer.part c reply) (traffic new) =
    subst (λ (n : ℕ). SendsAt roster old contacts n peer.part (effect_of peer.part c reply) (traffic new)) number
    replied in
    let parted : SendsAt roster old contacts (suc i) (part_at (machine_of network) (suc i))
    (effect_of (part_at (machine_of network) (suc i)) c reply) (traffic new) =
    subst (λ (p : Part). SendsAt roster old contacts (suc i) p (effect_of p c reply) (traffic new)) (sym part)
    numbered' in
    machine_sends roster old (traffic new) contacts network (suc i)
    (effect_of (part_at (machine_of network) (suc i)) c reply) parted

pub called_sends : {hearing : Hearing} → {tests : AllTests} → (kept new : WorldKept hearing) (i peer : ℕ) (c : Call)
    (reply : Reply) → peer ≡ i + 1
    → Acts tests kept i (event.Call c) reply new → Announces kept (world.Call peer c) reply new
called_sends kept new i peer c reply is a =
    subst (λ (n : ℕ). Announces kept (world.Call n c) reply new) (number_is peer i is) (call_sends kept new i c reply a)

-- a tick sends what is due

-- what a tick of such a peer sends, by its reply
abbrev TicksAt : Roster → Traffic → (ℕ → Endpoint → Contact) → ℕ → Part → Reply → Traffic → Type 0
TicksAt roster old contacts peer part Done new = SendsDues (heartbeats_due roster contacts peer part) old new
TicksAt roster old contacts peer part reply new = new ≡ old

tick_sends : {hearing : Hearing} → (kept new : WorldKept hearing) (roster : Roster) (peer : Peer) (reply : Reply)
    (output : Output)
    → Posts kept.sent output.packets new.sent → Counts kept output new → IsQuiet kept output new
    → AreSent (due_at_tick roster peer reply) output.packets output.unsent
    → TicksAt roster (traffic kept) peer.known.answered peer.number peer.part reply (traffic new)
tick_sends kept new roster peer Done output posts counts quiet are =
    dues_sent kept new (heartbeats_due roster peer.known.answered peer.number peer.part) output posts counts are
tick_sends kept new roster peer reply output posts counts quiet are =
    same_traffic kept new output quiet (record { packets = are.0; unsent = are.1 })

machine_ticks : (roster : Roster) (old new : Traffic) (contacts : ℕ → Endpoint → Contact) (network : WorldState)
    (peer now : ℕ) (reply : Reply) → TicksAt roster old contacts peer (part_at (machine_of network) peer) reply new
    → Sends roster old (machine_of network) (world.Tick peer now) reply new
machine_ticks roster old new contacts network peer now Done h = (contacts, h)
machine_ticks roster old new contacts network peer now reply h = h

ticks_sent : {hearing : Hearing} → {tests : AllTests} → (kept new : WorldKept hearing) (i now : ℕ) (reply : Reply)
    → Acts tests kept i (event.Tick now) reply new → Announces kept (world.Tick (suc i) now) reply new
ticks_sent kept new i now reply a roster network s met =
    let acts = a.acts in
    let old : Traffic = traffic kept in
    let peer : Peer = get_or network.peers i no_peer in
    let number = numbered_so kept roster network i acts.core s acts.at in
    let part : part_at (machine_of network) (suc i) ≡ peer.part =
    numbered-map (λ (p : Peer). p.part) network.peers (suc i) no_peer in
    let contacts : ℕ → Endpoint → Contact = peer.known.answered in
    let sent : TicksAt roster old contacts peer.number peer.part acts.output.reply (traffic new) =
    tick_sends kept new roster peer acts.output.reply acts.output acts.posts a.counts a.quiet
    (rules_of kept new i (event.Tick now) reply a roster network s tt).1 in
    let replied : TicksAt roster old contacts peer.number peer.part reply (traffic new) =
    subst (λ (r : Reply). TicksAt roster old contacts peer.number peer.part r (traffic new)) (sym acts.replies) sent in
    machine_ticks roster old (traffic new) contacts network (suc i) now reply
    (subst (λ (p : Part). TicksAt roster old contacts (suc i) p reply (traffic new)) (sym part)
    (subst (λ (n : ℕ). TicksAt roster old contacts n peer.part reply (traffic new)) number replied))

pub ticked_sends : {hearing : Hearing} → {tests : AllTests} → (kept new : WorldKept hearing) (i peer now : ℕ)
    (reply : Reply) → peer ≡ i + 1
    → Acts tests kept i (event.Tick now) reply new → Announces kept (world.Tick peer now) reply new
ticked_sends kept new i peer now reply is a =
    subst (λ (n : ℕ). Announces kept (world.Tick n now) reply new) (number_is peer i is)
    (ticks_sent kept new i now reply a)

-- a delivery sends what is then due

reported : (roster : Roster) (old new : Traffic) (network : WorldState) (peer number : ℕ) (reply : Reply)
    (report : Report) → reply ≡ Reported report → (dues : List Due) → SendsDues dues old new
    → Sends roster old (machine_of network) (world.Deliver peer number) reply new
reported roster old new network peer number (Reported r) report is dues h = (dues, h)
reported roster old new network peer number reply report is dues h = absurd cc

pub delivered_sends : {hearing : Hearing} → {tests : AllTests} → (kept new : WorldKept hearing) (i peer number : ℕ)
    (bytes : List ℕ) (reply : Reply)
    → Acts tests kept i (event.Deliver bytes) reply new → Announces kept (world.Deliver peer number) reply new
delivered_sends kept new i peer number bytes reply a roster network s met =
    let acts = a.acts in
    let rules = (rules_of kept new i (event.Deliver bytes) reply a roster network s tt).1 in
    reported roster (traffic kept) (traffic new) network peer number reply rules.report
    (acts.replies ∙ rules.reply) rules.dues
    (dues_sent kept new rules.dues acts.output acts.posts a.counts rules.sent)

-- where places are tried again nothing is sent

pub resumed_sends : {hearing : Hearing} → {tests : AllTests} → (kept new : WorldKept hearing) (i peer reader : ℕ)
    (reply : Reply)
    → Acts tests kept i (event.Resume reader) reply new → Announces kept (world.Resume peer reader) reply new
resumed_sends kept new i peer reader reply a roster network s met =
    same_traffic kept new a.acts.output a.quiet
    (rules_of kept new i (event.Resume reader) reply a roster network s tt).1.0

-- what is refused sends nothing

pub refused_call_sends : {hearing : Hearing} → (kept : WorldKept hearing) (peer : ℕ) (c : Call)
    → Announces kept (world.Call peer c) (Refused BadParameter) kept
refused_call_sends kept peer c roster network s met =
    subst (λ (e : Effect). SendsOf roster (traffic kept) (machine_of network) peer e (traffic kept))
    (sym (refused_nothing (part_at (machine_of network) peer) c BadParameter)) refl

pub refused_tick_sends : {hearing : Hearing} → (kept : WorldKept hearing) (peer now : ℕ)
    → Announces kept (world.Tick peer now) (Refused BadParameter) kept
refused_tick_sends kept peer now roster network s met = refl

pub refused_delivery_sends : {hearing : Hearing} → (kept : WorldKept hearing) (peer number : ℕ)
    → Announces kept (world.Deliver peer number) (Refused BadParameter) kept
refused_delivery_sends kept peer number roster network s met = refl

pub refused_resume_sends : {hearing : Hearing} → (kept : WorldKept hearing) (peer reader : ℕ)
    → Announces kept (world.Resume peer reader) (Refused BadParameter) kept
refused_resume_sends kept peer reader roster network s met = refl
