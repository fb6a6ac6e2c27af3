-- The steps of a network.
use Rattle.std.proofs.Common.{◌≡◌, ◌≢◌, ◌⊎◌, ℕ, zero, suc, ◌+◌, ◌-◌, ◌^◌, ◌<◌, ◌≤◌, min, Bool, true, false, List, [], ◌∷◌, ◌++◌, Some, length, get_or, slice_get, subst, ap, sym, ◌∙◌, refl, inl, inr, ⊎_elim, arith, append_assoc, length-append, get_or-set_same}
use Rattle.std.specs.Prelude.{if◌then◌else◌, ◌&&◌, nat_lt, nat_le, Contains, AllPairs}
use Rattle.std.specs.List.{All}
use Rattle.std.proofs.lemmas.Bool.Decides.{nat_tests}
use Rattle.std.proofs.lemmas.List.{get_or_append_left, get_or_at}
use Rattle.std.proofs.lemmas.List.Elements.{All-push, Contains-append_left, Contains-append_right, Contains-append_cases}
use Rattle.std.proofs.lemmas.List.Kept.{AllPairs-cons}
use Rattle.dds_base.specs.declared.code.Code.TheVariants.{BadParameter}
use Rattle.dds_protocol.specs.Roster.{Roster}
use Rattle.dds_protocol.specs.Bounds.{IsBounded}
use Rattle.dds_protocol.specs.Fresh.{HasUsedCounts}
use Rattle.dds_machine.specs.Noticing.{peer_of}
use Rattle.dds_protocol.specs.Noticing.{peer_at_end, world_ended}
use Rattle.dds_protocol.proofs.EndsBeside.{ended_same, ended_sound, ended_used, world_bounded}
use Rattle.dds_machine.specs.declared.call.Call.{Call}
use Rattle.dds_protocol.specs.declared.event.Event.{Event}
use Rattle.dds_protocol.specs.declared.event.Event.TheVariants as event
use Rattle.dds_protocol.specs.declared.event.Packet.{Packet}
use Rattle.dds_machine.specs.declared.event.WorldEvent.{WorldEvent}
use Rattle.dds_machine.specs.declared.event.WorldEvent.TheVariants as world
use Rattle.dds_machine.specs.declared.reply.Reply.{Reply}
use Rattle.dds_machine.specs.declared.reply.Reply.TheVariants.{Refused}
use Rattle.dds_machine.specs.Machine.{AllTests, Step}
use Rattle.dds_machine.specs.Numbered.{HasNumber}
use Rattle.dds_protocol.specs.Peer.{Peer, no_peer, state_of}
use Rattle.dds_machine.specs.Calls.{Effect}
use Rattle.dds_protocol.specs.DueMessages.{Due, AreSent}
use Rattle.dds_protocol.specs.Rules.{RuledStep, AreDue, announcements_due}
use Rattle.dds_protocol.specs.World.{Sound, WorldState, WorldStep, PeerSteps, machine_of, peer_at}
use Rattle.dds_protocol.proofs.Bounded.{steps_bounded}
use Rattle.dds_protocol.proofs.Composed.{composes}
use Rattle.dds_protocol.proofs.FreshCounts.{steps_used}
use Rattle.dds_machine.proofs.Tables.{append_nothing}
use Rattle.dds_core.specs.Standing.{StandsFor as CoreStandsFor}
use Rattle.dds_core.specs.Ruling.{KeepsRules as CoreKeepsRules}
use Rattle.dds_core.proofs.CallSteps.{refused_nothing}
use Rattle.dds_ends.proofs.Lists.{get-within}
use Rattle.dds_world.specs.WorldStanding.{Hearing, WorldKept, StandsFor}
use Rattle.dds_world.specs.Posting.{ArePosted, Posts}
use Rattle.dds_world.specs.Acting.{Acts, RuledSteps}
use Rattle.dds_protocol.specs.Meetings.{MeetsByRoster, MeetsInNetwork}
use Rattle.dds_world.proofs.Meetings.{met_at}
use Rattle.dds_world.proofs.Posted.{lost_is, posted_on}
use Rattle.dds_world.proofs.Replaced.{ended_at, peer_stands, same_at, with_peer}

-- lists of which any two elements differ

last_apart : (R : Packet → Packet → Type 0) (qs : List Packet) (p : Packet) → AllPairs R (qs ++ p ∷ []) → (x : Packet)
    → Contains qs x → R x p
last_apart R qs p all x c =
    let total = length-append qs (p ∷ []) in
    let within : length qs < length (qs ++ p ∷ []) = omega (arith, total) in
    let here : get_or (qs ++ p ∷ []) c.0 x ≡ x = get_or_append_left qs (p ∷ []) x c.0 c.1 ∙ c.2 in
    let last : get_or (qs ++ p ∷ []) (length qs) x ≡ p = get_or_at qs p [] x (length qs) refl in
    subst (λ (y : Packet). R y p) here
    (subst (λ (y : Packet). R (get_or (qs ++ p ∷ []) c.0 x) y) last (all c.0 (length qs) x c.1 within))

front_apart : (R : Packet → Packet → Type 0) (qs : List Packet) (p : Packet) → AllPairs R (qs ++ p ∷ []) → AllPairs R qs
front_apart R qs p all i j d lt within =
    let total = length-append qs (p ∷ []) in
    let low : i < length qs = omega (arith, lt, within) in
    let here : get_or (qs ++ p ∷ []) i d ≡ get_or qs i d = get_or_append_left qs (p ∷ []) d i low in
    let there : get_or (qs ++ p ∷ []) j d ≡ get_or qs j d = get_or_append_left qs (p ∷ []) d j within in
    subst (λ (y : Packet). R y (get_or qs j d)) here
    (subst (λ (y : Packet). R (get_or (qs ++ p ∷ []) i d) y) there (all i j d lt (omega (arith, within, total))))

more_apart : (R : Packet → Packet → Type 0) (ps : List Packet) (p : Packet) → AllPairs R ps
    → ((x : Packet) → Contains ps x → R x p) → AllPairs R (ps ++ p ∷ [])
more_apart R [] p all each = λ i j d lt within. absurd (omega (arith, lt, within))
more_apart R (x ∷ ps) p all each =
    let first : All (R x) ps = λ k d lt. all 0 (suc k) d (omega arith) (omega (arith, lt)) in
    let rest : AllPairs R ps = λ i j d lt within. all (suc i) (suc j) d (omega (arith, lt)) (omega (arith, within)) in
    AllPairs-cons R x (ps ++ p ∷ []) (All-push (R x) ps p first (each x (0, omega arith, refl)))
    (more_apart R ps p rest (λ y c. each y (suc c.0, omega (arith, c.1), c.2)))

-- the packets in their order, with one more that was sent, or was lost

one_posted : (packets posted : List Packet) (packet : Packet) (lost : ℕ) → ArePosted packets posted lost
    → ArePosted (packets ++ packet ∷ []) (posted ++ packet ∷ []) lost
one_posted [] posted packet lost h = inl ([], ap (λ (ps : List Packet). ps ++ packet ∷ []) h.0, (refl, h.1))
one_posted (p ∷ ps) posted packet lost (inl f) =
    inl (f.0 ++ packet ∷ [], ap (λ (xs : List Packet). xs ++ packet ∷ []) f.1, one_posted ps f.0 packet lost f.2)
one_posted (p ∷ ps) posted packet lost (inr g) = inr (g.0, g.1, one_posted ps posted packet g.0 g.2)

one_lost : (packets posted : List Packet) (packet : Packet) (lost : ℕ) → ArePosted packets posted lost
    → ArePosted (packets ++ packet ∷ []) posted (lost + 1)
one_lost [] posted packet lost h = inr (lost, refl, h)
one_lost (p ∷ ps) posted packet lost (inl f) = inl (f.0, f.1, one_lost ps f.0 packet lost f.2)
one_lost (p ∷ ps) posted packet lost (inr g) =
    inr (
      lost,
      refl,
      subst (λ (n : ℕ). ArePosted (ps ++ packet ∷ []) posted n) (sym g.1)
          (one_lost ps posted packet g.0 g.2),
    )

-- one more packet was sent, or found no memory
pub posts_more : (old packets now new : List Packet) (packet : Packet) (b : Bool) → Posts old packets now
    → new ≡ (if b then now ++ packet ∷ [] else now) → Posts old (packets ++ packet ∷ []) new
posts_more old packets now new packet true h is =
    let count = length-append h.posted (packet ∷ []) in
    let total = length-append packets (packet ∷ []) in
    let fewer = h.fewer in
    record {
      posted = h.posted ++ packet ∷ [];
      sent = is ∙ (ap (λ (xs : List Packet). xs ++ packet ∷ []) h.sent ∙ append_assoc old h.posted (packet ∷ []));
      lost = h.lost;
      are_posted = one_posted packets h.posted packet h.lost h.are_posted;
      of_packets =
          λ p c. ⊎_elim (λ o. Contains-append_left packets (packet ∷ []) p (h.of_packets p o))
          (λ o. Contains-append_right packets (packet ∷ []) p o) (Contains-append_cases h.posted (packet ∷ []) p c);
      fewer = omega (arith, count, total, fewer);
      different = λ d.
          more_apart (λ (a b : Packet). a.to ≢ b.to) h.posted packet
          (h.different (front_apart (λ (a b : Packet). a.to ≢ b.to) packets packet d))
          (λ x c. last_apart (λ (a b : Packet). a.to ≢ b.to) packets packet d x (h.of_packets x c));
    }
posts_more old packets now new packet false h is =
    let total = length-append packets (packet ∷ []) in
    let fewer = h.fewer in
    record {
      posted = h.posted;
      sent = is ∙ h.sent;
      lost = h.lost + 1;
      are_posted = one_lost packets h.posted packet h.lost h.are_posted;
      of_packets = λ p c. Contains-append_left packets (packet ∷ []) p (h.of_packets p c);
      fewer = omega (arith, total, fewer);
      different = λ d. h.different (front_apart (λ (a b : Packet). a.to ≢ b.to) packets packet d);
    }

-- how an event of a peer of this number is one of the network
abbrev pub IsEventOf : AllTests → List Packet → Event → ℕ → WorldEvent → Type 0
IsEventOf tests sent ev peer whole =
    (roster : Roster) (old new : WorldState) (reply : Reply) → old.sent ≡ sent
    → PeerSteps roster (tests peer) old peer ev reply new → WorldStep roster tests old whole reply new

pub calls_at : (tests : AllTests) → (sent : List Packet) (peer : ℕ) (call : Call)
    → IsEventOf tests sent (event.Call call) peer (world.Call peer call)
calls_at tests sent peer call roster old new reply same step = inl step

pub ticks_at : (tests : AllTests) → (sent : List Packet) (peer now : ℕ)
    → IsEventOf tests sent (event.Tick now) peer (world.Tick peer now)
ticks_at tests sent peer now roster old new reply same step = inl step

pub delivers_at : (tests : AllTests) → (sent : List Packet) (peer number : ℕ) (packet : Packet) → 1 ≤ number
    → slice_get sent (number - 1) ≡ Some packet
    → IsEventOf tests sent (event.Deliver packet.bytes) peer (world.Deliver peer number)
delivers_at tests sent peer number packet low found roster old new reply same step =
    inl (packet, low, subst (λ (ps : List Packet). slice_get ps (number - 1) ≡ Some packet) (sym same) found, step)

pub resumes_at : (tests : AllTests) → (sent : List Packet) (peer reader : ℕ)
    → IsEventOf tests sent (event.Resume reader) peer (world.Resume peer reader)
resumes_at tests sent peer reader roster old new reply same step = inl step

-- what the peer of this index sends at an event is what is due at it
abbrev pub SendsItsDues : {hearing : Hearing} → (tests : AllTests)
    → (kept : WorldKept hearing) (i : ℕ) (ev : Event) (whole : WorldEvent) (reply : Reply) (new : WorldKept hearing)
    → Acts tests kept i ev reply new → Type 0
SendsItsDues tests kept i ev whole reply new a =
    (roster : Roster) (network next : WorldState) → StandsFor kept roster network
    → CoreKeepsRules roster (get_or network.peers i no_peer) ev a.acts.output (get_or next.peers i no_peer)
    → (dues : List Due) × AreDue roster network whole reply next dues
    × AreSent dues a.acts.output.packets a.acts.output.unsent

-- an event of the peer of this index is one of the network by the rules of the protocol
pub acts_ruled : {hearing : Hearing} → {tests : AllTests} → (kept new : WorldKept hearing) (i : ℕ) (ev : Event)
    (whole : WorldEvent) (reply : Reply)
    → peer_of whole ≡ suc i → IsEventOf tests kept.sent ev (suc i) whole → (a : Acts tests kept i ev reply new)
    → SendsItsDues tests kept i ev whole reply new a
    → ((roster : Roster) → MeetsInNetwork roster whole reply → MeetsByRoster roster (suc i) ev reply)
    → RuledSteps tests kept whole reply new
acts_ruled {hearing} {tests} kept new i ev whole reply its into acts sends meets roster network s met =
    let a = acts.acts in
    let core : CoreStandsFor a.core roster (get_or network.peers i no_peer) = s.each i a.core a.at in
    let r =
    a.steps roster (get_or network.peers i no_peer) core (s.filters i) (s.listeners i a.slots a.slots_at)
    (s.known i a.core a.at)
    (met_at kept roster network i a.core ev reply a.output.reply s a.at a.replies (meets roster met)) in
    let next : WorldState = with_peer network i r.0 new.sent in
    let low : i < length kept.peers = get-within kept.peers i a.core a.at in
    let count = s.count in
    let step : PeerSteps roster (tests (suc i)) network (suc i) ev reply next = record {
      within = (omega arith, omega (arith, count, low));
      output = a.output;
      replies = sym a.replies;
      after = r.0;
      step = r.1;
      posted = a.posts.posted;
      of_packets = a.posts.of_packets;
      changed =
          ap (λ (ps : List Packet). with_peer network i r.0 ps)
          (a.posts.sent ∙ ap (λ (ps : List Packet). ps ++ a.posts.posted) (sym s.sent));
    } in
    let whole_step : WorldStep roster tests network whole reply next = into roster network next reply s.sent step in
    let low' : i < length network.peers = omega (arith, count, low) in
    let there : get_or next.peers i no_peer ≡ r.0 = get_or-set_same network.peers i r.0 no_peer low' in
    let rules : CoreKeepsRules roster (get_or network.peers i no_peer) ev a.output (get_or next.peers i no_peer) =
    subst (λ (p : Peer). CoreKeepsRules roster (get_or network.peers i no_peer) ev a.output p) (sym there) r.2 in
    let due = sends roster network next s rules in
    let lost : ℕ = a.output.unsent + a.posts.lost in
    let ruled : RuledStep roster tests network whole reply lost next = record {
      step = whole_step;
      dues = due.0;
      due = due.1;
      packets = a.posts.posted;
      sent = a.posts.sent ∙ ap (λ (ps : List Packet). ps ++ a.posts.posted) (sym s.sent);
      are_sent = posted_on due.0 a.output.packets a.posts.posted a.output.unsent a.posts.lost due.2 a.posts.are_posted;
    } in
    let c = composes roster tests network next whole reply s.sound whole_step in
    let unsent = lost_is kept new a.output a.posts acts.counts in
    let end : Peer = peer_at_end (get_or network.peers i no_peer) r.0 in
    let ends : world_ended network whole next ≡ with_peer network i end new.sent =
    ended_at network whole i r.0 new.sent its low' in
    let used : HasUsedCounts roster next =
    steps_used roster tests network whole reply lost next core.is_peer.is_roster s.used ruled in
    let bounded : IsBounded (machine_of next) =
    steps_bounded tests (length network.sent) (machine_of network) whole reply (machine_of next) s.bounded c.0 in
    let stands : StandsFor new roster (with_peer network i end new.sent) =
    peer_stands hearing.stands hearing.stands kept new roster network i a.after a.left end new.sent s a.peers a.listeners
    (λ j k places other h. h)
    (λ j. same_at (λ (p : Peer). p.part.dds.watch.filters) network.peers i end (r.4 ∙ sym (s.filters i)) j
    ∙ (s.filters j ∙ ap (λ (ns : List ℕ). get_or ns j 0) (sym a.filters)))
    r.3 r.5 r.6 refl
    (λ packet m.
    ⊎_elim (λ o. s.messages packet o) (λ o. a.messages packet (a.posts.of_packets packet o))
    (Contains-append_cases kept.sent a.posts.posted packet
    (subst (λ (ps : List Packet). Contains ps packet) a.posts.sent m)))
    (omega (arith, unsent))
    (subst (λ (w : WorldState). Sound roster w) ends (ended_sound roster network whole next c.2))
    (subst (λ (w : WorldState). HasUsedCounts roster w) ends (ended_used roster network whole next used))
    (subst (λ (w : WorldState). IsBounded (machine_of w)) ends (world_bounded network whole next bounded)) in (
      next,
      lost,
      ruled,
      unsent,
      subst (λ (ps : List Packet). Step tests (length ps) (machine_of network) whole reply (machine_of next)) s.sent
          c.0,
      subst (λ (w : WorldState). StandsFor new roster w) (sym ends) stands,
    )

-- the packet of an index, by its number
pub found_at : (sent : List Packet) (j : ℕ) (packet : Packet) → slice_get sent j ≡ Some packet
    → slice_get sent ((j + 1) - 1) ≡ Some packet
found_at sent j packet at =
    let same : (j + 1) - 1 ≡ j = omega arith in subst (λ (n : ℕ). slice_get sent n ≡ Some packet) (sym same) at

-- numbers that nobody has

no_such : (n count : ℕ) → (nat_lt 0 n && nat_le n count) ≡ false → (n ≡ 0) ⊎ (count < n)
no_such zero count h = inl refl
no_such (suc n) count h = inr (grind (arith, nat_tests, h))

nobody : {hearing : Hearing} → (kept : WorldKept hearing) (roster : Roster) (network : WorldState) (peer : ℕ)
    → StandsFor kept roster network
    → (nat_lt 0 peer && nat_le peer (length kept.peers)) ≡ false → HasNumber network.peers peer → ⊥
nobody kept roster network peer s none has =
    let count = s.count in
    let low = has.0 in
    let high = has.1 in
    ⊎_elim (λ z. omega (arith, z, low)) (λ past. omega (arith, past, high, count))
    (no_such peer (length kept.peers) none)

-- what is refused changes nothing, and nothing is due
stays : {hearing : Hearing} → {tests : AllTests} → (kept : WorldKept hearing) (roster : Roster) (network : WorldState)
    (ev : WorldEvent)
    → StandsFor kept roster network → WorldStep roster tests network ev (Refused BadParameter) network
    → AreDue roster network ev (Refused BadParameter) network []
    → (after : WorldState) × (lost : ℕ) × RuledStep roster tests network ev (Refused BadParameter) lost after
    × (kept.unsent ≡ min (kept.unsent + lost) (2 ^ 64 - 1))
    × Step tests (length kept.sent) (machine_of network) ev (Refused BadParameter) (machine_of after)
    × StandsFor kept roster (world_ended network ev after)
stays {tests} kept roster network ev s step none =
    let few = s.few in
    let c = composes roster tests network network ev (Refused BadParameter) s.sound step in
    let ruled : RuledStep roster tests network ev (Refused BadParameter) 0 network = record {
      step = step;
      dues = [];
      due = none;
      packets = [];
      sent = sym (append_nothing network.sent);
      are_sent = (refl, refl);
    } in (
      network,
      0,
      ruled,
      omega (arith, few),
      subst
          (λ (ps : List Packet). Step tests (length ps) (machine_of network) ev (Refused BadParameter)
          (machine_of network)) s.sent c.0,
      subst (λ (w : WorldState). StandsFor kept roster w)
          (sym (ended_same network ev)) s,
    )

pub unknown_call : {hearing : Hearing} → {tests : AllTests} → (kept : WorldKept hearing) (peer : ℕ) (call : Call)
    → (nat_lt 0 peer && nat_le peer (length kept.peers)) ≡ false
    → RuledSteps tests kept (world.Call peer call) (Refused BadParameter) kept
unknown_call kept peer call none roster network s met =
    stays kept roster network (world.Call peer call) s
    (inr (λ has. nobody kept roster network peer s none has, record { is_refused = refl; after = refl }))
    (sym (ap (λ (e : Effect). announcements_due roster peer (state_of (peer_at network peer)) e)
    (refused_nothing (peer_at network peer).part call BadParameter)))

pub unknown_tick : {hearing : Hearing} → {tests : AllTests} → (kept : WorldKept hearing) (peer now : ℕ)
    → (nat_lt 0 peer && nat_le peer (length kept.peers)) ≡ false
    → RuledSteps tests kept (world.Tick peer now) (Refused BadParameter) kept
unknown_tick kept peer now none roster network s met =
    stays kept roster network (world.Tick peer now) s
    (inr (λ has. nobody kept roster network peer s none has, record { is_refused = refl; after = refl })) refl

pub unknown_delivery : {hearing : Hearing} → {tests : AllTests} → (kept : WorldKept hearing) (peer number : ℕ)
    → (nat_lt 0 peer && nat_le peer (length kept.peers)) ≡ false
    → RuledSteps tests kept (world.Deliver peer number) (Refused BadParameter) kept
unknown_delivery kept peer number none roster network s met =
    stays kept roster network (world.Deliver peer number) s
    (inr (
      inr (inr (λ has. nobody kept roster network peer s none has)),
      record { is_refused = refl; after = refl },
    )) refl

pub unknown_packet : {hearing : Hearing} → {tests : AllTests} → (kept : WorldKept hearing) (peer number : ℕ)
    → (nat_lt 0 number && nat_le number (length kept.sent)) ≡ false
    → RuledSteps tests kept (world.Deliver peer number) (Refused BadParameter) kept
unknown_packet kept peer number none roster network s met =
    let count = ap (λ (ps : List Packet). length ps) s.sent in
    let why : (number ≡ 0) ⊎ (length network.sent < number) ⊎ (HasNumber network.peers peer → ⊥) =
    ⊎_elim (λ z. inl z) (λ past. inr (inl (omega (arith, past, count)))) (no_such number (length kept.sent) none) in
    stays kept roster network (world.Deliver peer number) s (inr (why, record { is_refused = refl; after = refl })) refl

pub unknown_resume : {hearing : Hearing} → {tests : AllTests} → (kept : WorldKept hearing) (peer reader : ℕ)
    → (nat_lt 0 peer && nat_le peer (length kept.peers)) ≡ false
    → RuledSteps tests kept (world.Resume peer reader) (Refused BadParameter) kept
unknown_resume kept peer reader none roster network s met =
    stays kept roster network (world.Resume peer reader) s
    (inr (λ has. nobody kept roster network peer s none has, record { is_refused = refl; after = refl })) refl
