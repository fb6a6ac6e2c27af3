-- An order of the entries of histories, in which each packet was sent before it is delivered, is a run of the machine.
use Rattle.std.proofs.Common.{◌≡◌, ℕ, zero, suc, ◌+◌, ◌-◌, ◌<◌, ◌≤◌, ◌==◌, Bool, true, false, List, [], ◌∷◌, ◌++◌, Some, Contains, refl, subst, ap, sym, ◌∙◌, inl, ⊎_elim, arith, length, length-append, slice_get, get_or, eq-eqb}
use Rattle.std.specs.Prelude.{if◌then◌else◌}
use Rattle.std.proofs.lemmas.Bool.{eqb-true, eqb-false}
use Rattle.dds_protocol.specs.Roster.{Roster}
use Rattle.dds_protocol.specs.declared.event.Event.{Event}
use Rattle.dds_protocol.specs.declared.event.Event.TheVariants as event
use Rattle.dds_protocol.specs.declared.event.Packet.{Packet}
use Rattle.dds_machine.specs.declared.event.WorldEvent.{WorldEvent}
use Rattle.dds_machine.specs.declared.event.WorldEvent.TheVariants as world
use Rattle.dds_machine.specs.declared.reply.Reply.{Reply}
use Rattle.dds_machine.specs.Machine.{AllTests, Machine}
use Rattle.dds_machine.specs.Runs.{Run}
use Rattle.dds_protocol.specs.Noticing.{peer_at_end, world_ended}
use Rattle.dds_machine.specs.Noticing.{peer_of}
use Rattle.dds_machine.specs.Numbered.{HasNumber}
use Rattle.dds_protocol.specs.Peer.{Peer, no_peer}
use Rattle.dds_protocol.specs.World.{PeerSteps, Sound, WorldState, WorldStep, machine_of, peer_at}
use Rattle.dds_protocol.proofs.Composed.{Composed, composes, world_after}
use Rattle.dds_protocol.proofs.EndsBeside.{ended_sound, machine_ends}
use Rattle.dds_machine.proofs.Tables.{length-with_numbered, numbered-cases, numbered-same}
use Rattle.dds_trace.specs.declared.trace.Entry.{Entry}
use Rattle.dds_trace.specs.History.{Happens, IsHistory}
use Rattle.dds_trace.specs.Woven.{IsEvent, IsRun, PeerEntry, replies_of}

-- the entries of one peer, in order
abbrev pub entries_at : ℕ → List PeerEntry → List Entry
entries_at peer [] = []
entries_at peer (e ∷ es) = if e.peer == peer then e.entry ∷ entries_at peer es else entries_at peer es

-- what the event delivers, if it delivers, has the octets of one of these packets
abbrev pub IsSent : List Packet → Event → Type 0
IsSent sent (event.Deliver octets) = (p : Packet) × Contains sent p × (p.bytes ≡ octets)
IsSent sent other = Unit {0}

-- each packet that is delivered was sent by an earlier entry, or before all
abbrev pub AreHonest : List Packet → List PeerEntry → Type 0
AreHonest sent [] = Unit {0}
AreHonest sent (e ∷ es) = IsSent sent e.entry.event × AreHonest (sent ++ e.entry.output.packets) es

-- each is of one of so many peers
abbrev pub AreOf : ℕ → List PeerEntry → Type 0
AreOf peers [] = Unit {0}
AreOf peers (e ∷ es) = (1 ≤ e.peer) × (e.peer ≤ peers) × AreOf peers es

-- the entries of each peer are a history from what it is in the network
abbrev pub HaveHistories : Roster → AllTests → WorldState → List PeerEntry → Type 0
HaveHistories roster tests start es = (peer : ℕ) → HasNumber start.peers peer
    → (last : Peer) × IsHistory roster (tests peer) (peer_at start peer) (entries_at peer es) last

pub entries_own : (e : PeerEntry) (es : List PeerEntry) (i : ℕ) (b : Bool) → (e.peer == i) ≡ b → b ≡ true
    → entries_at i (e ∷ es) ≡ e.entry ∷ entries_at i es
entries_own e es i b is so =
    ap (λ (c : Bool). if c then e.entry ∷ entries_at i es else entries_at i es) (is ∙ so)

pub entries_other : (e : PeerEntry) (es : List PeerEntry) (i : ℕ) → (e.peer == i) ≡ false
    → entries_at i (e ∷ es) ≡ entries_at i es
entries_other e es i is = ap (λ (c : Bool). if c then e.entry ∷ entries_at i es else entries_at i es) is

get_of : (xs : List Packet) (k : ℕ) (x : Packet) → k < length xs → get_or xs k x ≡ x → slice_get xs k ≡ Some x
get_of [] k x lt h = absurd (omega (arith, lt))
get_of (y ∷ ys) zero x lt h = ap (λ (z : Packet). Some z) h
get_of (y ∷ ys) (suc k) x lt h = get_of ys k x (omega (arith, lt)) h

-- the number of a packet that was sent
number_of : (sent : List Packet) (packet : Packet) → Contains sent packet
    → (number : ℕ) × (1 ≤ number) × (slice_get sent (number - 1) ≡ Some packet)
number_of sent packet c =
    let at : (c.0 + 1) - 1 ≡ c.0 = omega arith in (
      c.0 + 1,
      omega arith,
      subst (λ (k : ℕ). slice_get sent k ≡ Some packet) (sym at) (get_of sent c.0 packet c.1 c.2),
    )

-- the event of the network
record EventOf (roster : Roster) (tests : AllTests) (ws : WorldState) (peer : ℕ) (ev : Event) (reply : Reply)
    (new : WorldState) : Type 0 where
  w : WorldEvent
  is : IsEvent ws.sent peer ev w
  step : WorldStep roster tests ws w reply new
  at : peer_of w ≡ peer

event_of : (roster : Roster) (tests : AllTests) (ws : WorldState) (peer : ℕ) (ev : Event) (reply : Reply)
    (new : WorldState) → PeerSteps roster (tests peer) ws peer ev reply new → IsSent ws.sent ev
    → EventOf roster tests ws peer ev reply new
event_of roster tests ws peer (event.Call call) reply new steps sent =
    record { w = world.Call peer call; is = refl; step = inl steps; at = refl }
event_of roster tests ws peer (event.Tick now) reply new steps sent =
    record { w = world.Tick peer now; is = refl; step = inl steps; at = refl }
event_of roster tests ws peer (event.Deliver bytes) reply new steps sent =
    let n = number_of ws.sent sent.0 sent.1 in record {
      w = world.Deliver peer n.0;
      is = (n.0, sent.0, n.1, n.2, sent.2, refl);
      step = inl (
        sent.0,
        n.1,
        n.2,
        subst (λ (b : List ℕ). PeerSteps roster (tests peer) ws peer (event.Deliver b) reply new) (sym sent.2) steps,
      );
      at = refl;
    }
event_of roster tests ws peer (event.Resume reader) reply new steps sent =
    record { w = world.Resume peer reader; is = refl; step = inl steps; at = refl }

-- the network once the event of an entry is over
abbrev next_of : WorldState → WorldEvent → ℕ → Peer → List Packet → WorldState
next_of ws w i stepped packets = world_ended ws w (world_after ws i stepped packets)

own_next : (ws : WorldState) (w : WorldEvent) (i : ℕ) (stepped : Peer) (packets : List Packet) → HasNumber ws.peers i
    → peer_of w ≡ i → peer_at (next_of ws w i stepped packets) i ≡ peer_at_end (peer_at ws i) stepped
own_next ws w i stepped packets within at =
    let after : WorldState = world_after ws i stepped packets in
    let there : peer_at after i ≡ stepped = numbered-same ws.peers i stepped no_peer within in
    let more : HasNumber after.peers i =
    (within.0, (let e = length-with_numbered ws.peers i stepped in omega (arith, within.1, e))) in
    let P : ℕ → Type 0 = λ k. peer_at (next_of ws w i stepped packets) k ≡ peer_at_end (peer_at ws k) (peer_at after k) in
    let of_event : P (peer_of w) =
    numbered-same after.peers (peer_of w) (peer_at_end (peer_at ws (peer_of w)) (peer_at after (peer_of w))) no_peer
    (subst (λ (k : ℕ). HasNumber after.peers k) (sym at) more) in
    subst (λ (k : ℕ). P k) at of_event ∙ ap (λ (p : Peer). peer_at_end (peer_at ws i) p) there

other_next : (ws : WorldState) (w : WorldEvent) (i : ℕ) (stepped : Peer) (packets : List Packet) (j : ℕ)
    → peer_of w ≡ i → (j ≡ i → ⊥) → peer_at (next_of ws w i stepped packets) j ≡ peer_at ws j
other_next ws w i stepped packets j at apart =
    let after : WorldState = world_after ws i stepped packets in
    let last : Peer = peer_at_end (peer_at ws (peer_of w)) (peer_at after (peer_of w)) in
    let first = ⊎_elim (λ s. s) (λ o. absurd (apart o.0)) (numbered-cases ws.peers i stepped j no_peer) in
    let second =
    ⊎_elim (λ s. s) (λ o. absurd (apart (o.0 ∙ at))) (numbered-cases after.peers (peer_of w) last j no_peer) in
    second ∙ first

-- the other entries are histories from the next state
later : (roster : Roster) (tests : AllTests) (ws : WorldState) (e : PeerEntry) (es : List PeerEntry) (w : WorldEvent)
    (stepped mid last : Peer) (packets : List Packet) → HasNumber ws.peers e.peer → peer_of w ≡ e.peer
    → HaveHistories roster tests ws (e ∷ es) → mid ≡ peer_at_end (peer_at ws e.peer) stepped
    → IsHistory roster (tests e.peer) mid (entries_at e.peer es) last
    → (i : ℕ) → HasNumber ws.peers i → (b : Bool) → (e.peer == i) ≡ b
    → (l : Peer) × IsHistory roster (tests i) (peer_at (next_of ws w e.peer stepped packets) i) (entries_at i es) l
later roster tests ws e es w stepped mid last packets within at histories ended run i there true is =
    let same : e.peer ≡ i = eqb-true e.peer i is in
    subst (λ (k : ℕ). (l : Peer)
    × IsHistory roster (tests k) (peer_at (next_of ws w e.peer stepped packets) k) (entries_at k es) l) same (
      last,
      subst (λ (p : Peer). IsHistory roster (tests e.peer) p (entries_at e.peer es) last)
          (ended ∙ sym (own_next ws w e.peer stepped packets within at)) run,
    )
later roster tests ws e es w stepped mid last packets within at histories ended run i there false is =
    let h = histories i there in (
      h.0,
      subst (λ (p : Peer). IsHistory roster (tests i) p (entries_at i es) h.0)
          (sym (other_next ws w e.peer stepped packets i at (λ q. eqb-false e.peer i is (sym q))))
          (subst (λ (xs : List Entry). IsHistory roster (tests i) (peer_at ws i) xs h.0) (entries_other e es i is) h.1),
    )

pub weaves : (roster : Roster) (tests : AllTests) (ws : WorldState) (order : List PeerEntry) → Sound roster ws
    → AreOf (length ws.peers) order → AreHonest ws.sent order → HaveHistories roster tests ws order
    → IsRun tests ws order
weaves roster tests ws [] sound of honest histories =
    record { events = []; are_events = tt; sent = length ws.sent; last = machine_of ws; run = (refl, refl) }
weaves roster tests ws (e ∷ es) sound of honest histories =
    let within : HasNumber ws.peers e.peer = (of.0, of.1) in
    let h = histories e.peer within in
    let run : IsHistory roster (tests e.peer) (peer_at ws e.peer) (e.entry ∷ entries_at e.peer es) h.0 =
    subst (λ (xs : List Entry). IsHistory roster (tests e.peer) (peer_at ws e.peer) xs h.0)
    (entries_own e es e.peer (e.peer == e.peer) refl (eq-eqb e.peer e.peer refl)) h.1 in
    let happens : Happens roster (tests e.peer) (peer_at ws e.peer) e.entry.event e.entry.output run.0 = run.1 in
    let packets : List Packet = e.entry.output.packets in
    let reply : Reply = e.entry.output.reply in
    let after : WorldState = world_after ws e.peer happens.stepped packets in
    let steps : PeerSteps roster (tests e.peer) ws e.peer e.entry.event reply after =
    record {
      within = within;
      output = e.entry.output;
      replies = refl;
      after = happens.stepped;
      step = happens.step;
      posted = packets;
      of_packets = λ p c. c;
      changed = refl;
    } in
    let ev : EventOf roster tests ws e.peer e.entry.event reply after =
    event_of roster tests ws e.peer e.entry.event reply after steps honest.0 in
    let s : Composed roster tests ws ev.w reply after = composes roster tests ws after ev.w reply sound ev.step in
    let next : WorldState = world_ended ws ev.w after in
    let ended_count : length next.peers ≡ length after.peers =
    length-with_numbered after.peers (peer_of ev.w)
    (peer_at_end (peer_at ws (peer_of ev.w)) (peer_at after (peer_of ev.w))) in
    let after_count : length after.peers ≡ length ws.peers =
    length-with_numbered ws.peers e.peer happens.stepped in
    let same_length : length next.peers ≡ length ws.peers = omega (arith, ended_count, after_count) in
    let rest : IsRun tests next es =
    weaves roster tests next es (ended_sound roster ws ev.w after s.2)
    (subst (λ (n : ℕ). AreOf n es) (sym same_length) of.2) honest.1
    (λ i there. later roster tests ws e es ev.w happens.stepped run.0 h.0 packets within ev.at histories happens.ended
    run.2 i (there.0, (let t = there.1 in omega (arith, t, same_length))) (e.peer == i) refl) in
    record {
      events = ev.w ∷ rest.events;
      are_events = (ev.is, rest.are_events);
      sent = rest.sent;
      last = rest.last;
      run = (
        machine_of after,
        length next.sent,
        s.0,
        (let more = length-append ws.sent packets in omega (arith, more)),
        subst (λ (m : Machine). Run tests (length next.sent) m rest.events (replies_of es) rest.sent rest.last)
            (machine_ends ws ev.w after) rest.run,
      );
    }
