-- An event of a network by the rules sends and takes no count that its sender has not used.
use Rattle.std.proofs.Common.{◌≡◌, ◌⊎◌, ℕ, ℤ, pos, ◌+◌, ◌-◌, ◌≤◌, ◌≤ℤ◌, Bool, true, false, List, [], ◌∷◌, ◌++◌, Option, Some, Contains, length, length-append, refl, subst, ap, sym, ◌∙◌, inl, inr, ⊎_elim, arith}
use Rattle.std.specs.Prelude.{if◌then◌else◌, ◌||◌}
use Rattle.std.specs.List.{All, list_any}
use Rattle.std.proofs.lemmas.Int.{ints}
use Rattle.std.proofs.lemmas.List.Elements.{All-contains, Contains-append_cases}
use Rattle.dds_base.specs.declared.change.Change.{Change}
use Rattle.dds_protocol.specs.Roster.{IsRoster, Roster}
use Rattle.dds_base.specs.declared.guid.EntityId.{EntityId}
use Rattle.dds_base.specs.declared.guid.GuidPrefix.{GuidPrefix}
use Rattle.dds_base.specs.Written.{Written, Registered, Changed, Asserted, LookedAt, StrengthSet, Ticked, counts_of}
use Rattle.rtps_reader.specs.Tracked.{Tracked}
use Rattle.rtps_wire.specs.declared.heartbeat.Heartbeat.{Heartbeat as HeartbeatBody}
use Rattle.rtps_wire.specs.declared.submessage.Submessage.{Submessage}
use Rattle.rtps_wire.specs.Messages.{IsWritable, spelling_of}
use Rattle.dds_machine.specs.declared.call.Call.{Call}
use Rattle.dds_base.specs.declared.endpoint.Endpoint.{Endpoint}
use Rattle.dds_protocol.specs.declared.event.Event.{Event}
use Rattle.dds_protocol.specs.declared.event.Event.TheVariants as event
use Rattle.dds_protocol.specs.declared.event.Packet.{Packet}
use Rattle.dds_machine.specs.declared.event.WorldEvent.{WorldEvent}
use Rattle.dds_machine.specs.declared.event.WorldEvent.TheVariants as world
use Rattle.dds_machine.specs.declared.reply.Move.{Move}
use Rattle.dds_machine.specs.declared.reply.Report.{Report}
use Rattle.dds_machine.specs.declared.reply.Reply.{Reply}
use Rattle.dds_machine.specs.declared.reply.Reply.TheVariants.{Done, Reported}
use Rattle.dds_machine.specs.Numbered.{HasNumber}
use Rattle.dds_machine.specs.Part.{Part, ReaderProxy, Writer, own_proxies, own_writer, writer_changes, is_behind, peers_of, heartbeats_used}
use Rattle.dds_machine.specs.Moves.{Grounds}
use Rattle.dds_machine.specs.Ticks.{ticked, after_tick, TicksAsked}
use Rattle.dds_machine.specs.Calls.{Effect, nothing, writes, tells, looks_at_matches, effect, effect_of, with_written}
use Rattle.dds_machine.specs.Watching.{Tests}
use Rattle.dds_protocol.specs.Claims.{Receiver, receiver_of, after_submessage, every_reader, IsWriter}
use Rattle.dds_protocol.specs.Receipt.{TakesUp, Receives}
use Rattle.dds_protocol.specs.Dues.{IsPartOf}
use Rattle.dds_machine.specs.Machine.{Machine, AllTests, part_at, writer_at}
use Rattle.dds_protocol.specs.Peer.{Peer, EventStep, Knows, no_peer, claimed, claimed_by, packets_of, state_of}
use Rattle.dds_protocol.specs.Contact.{Contact, awaits_heartbeat}
use Rattle.dds_protocol.specs.DueMessages.{Due, writer_entity, change_message, readers_told, was_asked, heartbeats_to, heartbeats_due_to, assertions_due, heartbeats_due}
use Rattle.dds_protocol.specs.Protocol.{Known, State, TakesPacket}
use Rattle.dds_protocol.specs.Resuming.{Resumes}
use Rattle.dds_protocol.specs.World.{WorldState, WorldStep, PeerSteps, peer_at, machine_of}
use Rattle.dds_protocol.specs.Rules.{announcements_due, AreDue, RuledStep}
use Rattle.dds_protocol.specs.Fresh.{HasHeartbeat, HasAckNack, heartbeats_used_at, tracked_at, acknacks_used_at, HasUsedCounts}
use Rattle.dds_protocol.proofs.BeatsTo.{AreBeats, IsBeatTo, are_beats, beat_read, no_ask_read}
use Rattle.dds_protocol.proofs.Composed.{parts_at, machine_after, world_after, contains_at}
use Rattle.dds_protocol.proofs.Contacts.{KnowsAlike, call_knows, knows_same, tick_knows}
use Rattle.dds_protocol.proofs.CountsTaken.{Counting, Counts, again_counts, packet_counts}
use Rattle.dds_protocol.proofs.CountsWritten.{plain_beats, plain_asks, plain_data, each_of}
use Rattle.dds_protocol.proofs.DuesAssertions.{OfEachTold, told_each, asserted_writer}
use Rattle.dds_protocol.proofs.DuesGrowth.{Gains, gains_same, gains_on, AreMoves-gains, is_part_kept}
use Rattle.dds_protocol.proofs.DuesHeartbeats.{of_all, some_told}
use Rattle.dds_protocol.proofs.DuesMatched.{own_name}
use Rattle.dds_protocol.proofs.DuesPackets.{IsOfDue, sent_is_due}
use Rattle.dds_protocol.proofs.DuesParts.{call_part, tick_part}
use Rattle.dds_protocol.proofs.Framing.{number_or_not}
use Rattle.dds_protocol.proofs.Resumed.{as_moves}
use Rattle.dds_protocol.proofs.Growth.{WriterGrows, writer_same, Grows, CallStep-grows, TickStep-grows, MachineGrows, with_part-grows, counts-more}
use Rattle.dds_protocol.proofs.OneName.{one_writer}
use Rattle.dds_machine.proofs.Tables.{numbered-cases, numbered-same, number_there, length-with_numbered, no_less_same}
use Rattle.dds_machine.proofs.Ticked.{numbered-writers_ticked}

-- the packet is the written form of one of these messages, which has one
pub record IsWrittenOf (dues : List Due) (packet : Packet) : Type 0 where
  pub due : Due
  pub among : Contains dues due
  pub writable : IsWritable due.message
  pub is : packet ≡ record { to = due.to; bytes = spelling_of due.message }

-- so is each packet that an event by the rules sends
pub sent_written : (roster : Roster) (tests : AllTests) (old : WorldState) (ev : WorldEvent) (reply : Reply) (lost : ℕ)
    (new : WorldState) → (h : RuledStep roster tests old ev reply lost new)
    → (packet : Packet) → Contains h.packets packet → IsWrittenOf h.dues packet
sent_written roster tests old ev reply lost new h packet among =
    let d : IsOfDue h.dues packet = sent_is_due h.dues h.packets lost h.are_sent packet among in
    record {
      due = d.due;
      among = d.among;
      writable = d.writable;
      is = d.is;
    }

-- ---- what an event makes of a peer's part

takes_up_gains : (roster : Roster) (gs : ℕ → Grounds) (peer : ℕ) (own : GuidPrefix) (index : ℕ) (at : Receiver)
    (ss : List Submessage) (old : Part) (moves : List Move) (refused : Option ℕ) (new : Part)
    → TakesUp roster gs peer own index at ss old moves refused new → Gains old new
takes_up_gains roster gs peer own index at [] old moves refused new h =
    subst (λ (p : Part). Gains old p) (sym h.2) (gains_same old)
takes_up_gains roster gs peer own index at (s ∷ ss) old moves refused new (inl h) =
    subst (λ (p : Part). Gains old p) (sym h.2) (gains_same old)
takes_up_gains roster gs peer own index at (s ∷ ss) old moves refused new (inr h) =
    gains_on old h.2 new (AreMoves-gains (gs index) old h.0 h.2 h.4)
    (takes_up_gains roster gs peer own (index + 1) (after_submessage own at s) ss h.2 h.1 refused new h.6)

pub receives_gains : (roster : Roster) (gs : ℕ → Grounds) (peer : ℕ) (bytes : List ℕ) (old : Part) (report : Report)
    (new : Part) → Receives roster gs peer bytes old report new → Gains old new
receives_gains roster gs peer bytes old report new (inl h) =
    takes_up_gains roster gs peer (roster.prefix peer) 0
    (receiver_of h.message.prefix) h.message.submessages old report.moves report.refused new h.taken
receives_gains roster gs peer bytes old report new (inr h) =
    subst (λ (p : Part). Gains old p) (sym h.after) (gains_same old)

-- it grows, and stays that of the configuration
pub record Lasts (roster : Roster) (peer : ℕ) (old new : Part) : Type 0 where
  pub grows : Grows old.rtps new.rtps
  pub part : IsPartOf roster peer old → IsPartOf roster peer new

event_lasts : (roster : Roster) (tests : Tests) (peer : ℕ) (before : Peer) (ev : Event) (reply : Reply) (after : Peer)
    → EventStep roster tests before ev reply after → Lasts roster peer before.part after.part
event_lasts roster tests peer before (event.Call call) reply after h = record {
  grows = CallStep-grows tests before.part call reply after.part h.0;
  part = call_part roster peer tests before.part call reply after.part h.0;
}
event_lasts roster tests peer before (event.Tick now) reply after h = record {
  grows = TickStep-grows before.part now reply after.part (was_asked before.known.answered before.part, h.0);
  part = tick_part roster peer before.part now reply after.part (was_asked before.known.answered before.part, h.0);
}
event_lasts roster tests peer before (event.Deliver packet) (Reported report) after h =
    let g : Gains before.part after.part =
    receives_gains roster (claimed roster before.delivered packet before.part.rtps.readers before.number)
    before.number packet before.part
    report after.part h.0 in
    record { grows = g.grows; part = is_part_kept roster peer before.part after.part g.count }
event_lasts roster tests peer before (event.Deliver packet) reply after h = absurd h
event_lasts roster tests peer before (event.Resume k) reply after h =
    let claims : Grounds = claimed_by roster (packets_of before.delivered) before.number in
    let made = as_moves claims before.part k reply after.part h.0 in
    let g : Gains before.part after.part = AreMoves-gains claims before.part made.0 after.part made.1 in
    record { grows = g.grows; part = is_part_kept roster peer before.part after.part g.count }

-- ---- what it makes of the network

-- lists grow, the peers stay those of the configuration, and all but one are as they were
pub record Stays (roster : Roster) (old : WorldState) (peer : ℕ) (new : WorldState) : Type 0 where
  pub grows : MachineGrows (machine_of old) (machine_of new)
  pub parts : ((p : ℕ) → HasNumber old.peers p → IsPartOf roster p (peer_at old p).part) → (p : ℕ)
      → HasNumber new.peers p → IsPartOf roster p (peer_at new p).part
  pub others : (p : ℕ) → (p ≡ peer → ⊥) → peer_at new p ≡ peer_at old p

pub stays_same : (roster : Roster) (old : WorldState) (peer : ℕ) (new : WorldState) → new ≡ old
    → Stays roster old peer new
stays_same roster old peer new same = record {
  grows = subst (λ (x : WorldState). MachineGrows (machine_of old) (machine_of x)) (sym same)
      (record { writers = λ w. writer_same (writer_at (machine_of old) w); places = λ r w. no_less_same _ });
  parts =
      λ of p has. subst (λ (x : WorldState). IsPartOf roster p (peer_at x p).part) (sym same)
      (of p (subst (λ (x : WorldState). HasNumber x.peers p) same has));
  others = λ p apart. ap (λ (x : WorldState). peer_at x p) same;
}

-- one peer is another, whose part has lasted
pub stays_with : (roster : Roster) (old : WorldState) (peer : ℕ) (after : Peer) (posted : List Packet)
    (new : WorldState) → HasNumber old.peers peer → new ≡ world_after old peer after posted
    → Lasts roster peer (peer_at old peer).part after.part → Stays roster old peer new
stays_with roster old peer after posted new within changed lasts = record {
  grows =
      subst (λ (x : Machine). MachineGrows (machine_of old) x)
      (sym (ap machine_of changed ∙ machine_after old peer after posted))
      (with_part-grows (machine_of old) peer after.part
      (subst (λ (p : Part). Grows p.rtps after.part.rtps) (sym (parts_at old peer)) lasts.grows));
  parts = λ of p has.
      subst (λ (x : WorldState). IsPartOf roster p (peer_at x p).part) (sym changed)
      (⊎_elim (λ e. subst (λ (x : Peer). IsPartOf roster p x.part) (sym e) (of p (before p has)))
      (λ s.
      subst (λ (x : Peer). IsPartOf roster p x.part) (sym s.1)
      (subst (λ (n : ℕ). IsPartOf roster n after.part) (sym s.0) (lasts.part (of peer within))))
      (numbered-cases old.peers peer after p no_peer));
  others = λ p apart.
      ap (λ (x : WorldState). peer_at x p) changed
      ∙ ⊎_elim (λ e. e) (λ s. absurd (apart s.0)) (numbered-cases old.peers peer after p no_peer);
}
  where
    before : (p : ℕ) → HasNumber new.peers p → HasNumber old.peers p
    before p has =
        let low = has.0 in
        let high = has.1 in
        let same = ap (λ (x : WorldState). length x.peers) changed in
        let count = length-with_numbered old.peers peer after in
        (omega (arith, low), omega (arith, high, same, count))

pub steps_stays : (roster : Roster) (tests : Tests) (old : WorldState) (peer : ℕ) (ev : Event) (reply : Reply)
    (new : WorldState) → PeerSteps roster tests old peer ev reply new → Stays roster old peer new
steps_stays roster tests old peer ev reply new h =
    stays_with roster old peer h.after h.posted new h.within h.changed
    (event_lasts roster tests peer (peer_at old peer) ev h.output.reply h.after h.step.step)

-- a writer that grows has used no fewer counts
used_more : (old new : Writer) → WriterGrows old new → heartbeats_used old ≤ heartbeats_used new
used_more old new g =
    let r = counts-more g.more old.written in
    let is : counts_of new.written ≡ counts_of old.written ++ r.0 =
    ap (λ (c : List Written). counts_of c) g.written ∙ r.1 in
    let longer = ap (λ (xs : List Bool). length xs) is in
    let sum = length-append (counts_of old.written) r.0 in
    omega (arith, longer, sum)

-- what an event does to counts
pub record Uses (roster : Roster) (old : WorldState) (packets : List Packet) (new : WorldState) : Type 0 where
  pub parts : (p : ℕ) → HasNumber new.peers p → IsPartOf roster p (peer_at new p).part
  pub grows : MachineGrows (machine_of old) (machine_of new)
  pub asked : (w r : Endpoint) → acknacks_used_at old w r ≤ acknacks_used_at new w r
  pub taken : (w r : Endpoint) (count : ℤ) → (tracked_at new w r).count ≡ Some count
      → ((tracked_at old w r).count ≡ Some count) ⊎ (count ≤ℤ pos (heartbeats_used_at old w))
  pub answered : (w r : Endpoint) (count : ℤ) → ((peer_at new w.peer).known.answered w.number r).count ≡ Some count
      → (((peer_at old w.peer).known.answered w.number r).count ≡ Some count)
      ⊎ (count ≤ℤ pos (acknacks_used_at old w r))
  pub beats : (p : Packet) (w : Endpoint) (count : ℤ) → Contains packets p → HasHeartbeat roster p.bytes w count
      → count ≤ℤ pos (heartbeats_used_at new w)
  pub asks : (p : Packet) (w r : Endpoint) (count : ℤ) → Contains packets p → HasAckNack roster p.bytes w r count
      → count ≤ℤ pos (acknacks_used_at new w r)

pub uses_used : (roster : Roster) (old : WorldState) (packets : List Packet) (new : WorldState)
    → new.sent ≡ old.sent ++ packets → HasUsedCounts roster old → Uses roster old packets new → HasUsedCounts roster new
uses_used roster old packets new sent h u = record {
  of_roster = u.parts;
  heartbeat_sent = λ p w count among has.
      ⊎_elim (λ o. beat_on w count (h.heartbeat_sent p w count o has)) (λ n. u.beats p w count n has)
      (Contains-append_cases old.sent packets p (subst (λ (ps : List Packet). Contains ps p) sent among));
  acknack_sent = λ p w r count among has.
      ⊎_elim (λ o. ask_on w r count (h.acknack_sent p w r count o has)) (λ n. u.asks p w r count n has)
      (Contains-append_cases old.sent packets p (subst (λ (ps : List Packet). Contains ps p) sent among));
  heartbeat_taken =
      λ w r count e. beat_on w count (⊎_elim (λ o. h.heartbeat_taken w r count o) (λ n. n) (u.taken w r count e));
  acknack_taken =
      λ w r count e. ask_on w r count (⊎_elim (λ o. h.acknack_taken w r count o) (λ n. n) (u.answered w r count e));
}
  where
    beat_on : (w : Endpoint) (count : ℤ) → count ≤ℤ pos (heartbeats_used_at old w)
        → count ≤ℤ pos (heartbeats_used_at new w)
    beat_on w count low =
        let more = used_more (writer_at (machine_of old) w) (writer_at (machine_of new) w)
        (u.grows.writers w) in omega (arith, ints, low, more)

    ask_on : (w r : Endpoint) (count : ℤ) → count ≤ℤ pos (acknacks_used_at old w r)
        → count ≤ℤ pos (acknacks_used_at new w r)
    ask_on w r count low = let more = u.asked w r in omega (arith, ints, low, more)

-- ---- a call or a tick: what is known is as it was, but for who asks

pub uses_knowing : (roster : Roster) (old : WorldState) (packets : List Packet) (new : WorldState) (peer : ℕ)
    → Stays roster old peer new → HasUsedCounts roster old
    → ((p : ℕ) → KnowsAlike (peer_at old p).known (peer_at new p).known)
    → ((p : Packet) (w : Endpoint) (count : ℤ) → Contains packets p → HasHeartbeat roster p.bytes w count
    → count ≤ℤ pos (heartbeats_used_at new w))
    → ((p : Packet) (w r : Endpoint) (count : ℤ) → Contains packets p → HasAckNack roster p.bytes w r count → ⊥)
    → Uses roster old packets new
uses_knowing roster old packets new peer s h same beats asks = record {
  parts = s.parts h.of_roster;
  grows = s.grows;
  asked = λ w r. let e = ap (λ (t : Tracked). t.acknacks) ((same r.peer).tracked w r.number) in omega (arith, e);
  taken = λ w r count e. inl (sym (ap (λ (t : Tracked). t.count) ((same r.peer).tracked w r.number)) ∙ e);
  answered = λ w r count e. inl (sym ((same w.peer).counts w.number r) ∙ e);
  beats = beats;
  asks = λ p w r count among has. absurd (asks p w r count among has);
}

-- what a peer's step does to what it knows, which is no less so of what is as it was, is so at each peer
pub known_by : (R : Known → Known → Type 0) → ((known : Known) → R known known)
    → (roster : Roster) (tests : Tests) (old : WorldState) (peer : ℕ) (ev : Event) (reply : Reply)
    (new : WorldState) (h : PeerSteps roster tests old peer ev reply new)
    → R (peer_at old peer).known h.after.known → (p : ℕ) → R (peer_at old p).known (peer_at new p).known
known_by R same roster tests old peer ev reply new h one p =
    subst (λ (x : WorldState). R (peer_at old p).known (peer_at x p).known) (sym h.changed)
    (⊎_elim (λ e. subst (λ (x : Peer). R (peer_at old p).known x.known) (sym e) (same (peer_at old p).known))
    (λ s. subst (λ (x : Peer). R (peer_at old p).known x.known) (sym s.1)
    (subst (λ (n : ℕ). R (peer_at old n).known h.after.known) (sym s.0) one))
    (numbered-cases old.peers peer h.after p no_peer))

pub known_of : (roster : Roster) (tests : Tests) (old : WorldState) (peer : ℕ) (ev : Event) (reply : Reply)
    (new : WorldState) (h : PeerSteps roster tests old peer ev reply new)
    → KnowsAlike (peer_at old peer).known h.after.known → (p : ℕ)
    → KnowsAlike (peer_at old p).known (peer_at new p).known
known_of roster tests old peer ev reply new h alike p =
    known_by KnowsAlike (λ known. knows_same known known refl) roster tests old peer ev reply new h alike p

-- a change that is announced has neither a HEARTBEAT nor an ACKNACK
record IsSilent (roster : Roster) (due : Due) : Type 0 where
  beat : (w : Endpoint) (count : ℤ) → IsWritable due.message → HasHeartbeat roster (spelling_of due.message) w count → ⊥
  ask : (w r : Endpoint) (count : ℤ) → IsWritable due.message → HasAckNack roster (spelling_of due.message) w r count
      → ⊥

change_silent : (roster : Roster) (own to : GuidPrefix) (writer : EntityId) (number : ℕ) (change : Change) (n : ℕ)
    → IsSilent roster (record { to = n; message = change_message own to writer number change })
change_silent roster own to writer number change n = record {
  beat =
      λ w count writable has. plain_beats roster (change_message own to writer number change) w count writable
      (tt, plain_data every_reader writer number (Some change)) has;
  ask =
      λ w r count writable has. plain_asks roster (change_message own to writer number change) w r count writable
      (tt, plain_data every_reader writer number (Some change)) has;
}

-- What is so of silent messages, and of those that tell an assertion, is so of what is due for what a call enters.
announced : (roster : Roster) (peer : ℕ) (old : State) (e : Effect) (P : Due → Type 0)
    → ((due : Due) → IsSilent roster due → P due)
    → ((writer moment : ℕ) → e ≡ writes writer (Asserted moment)
    → OfEachTold roster (old.known.answered writer) peer old.part writer P)
    → (due : Due) → Contains (announcements_due roster peer old e) due → P due
announced roster peer old (writes writer (Changed change)) P silent told due among =
    let number : ℕ = length (writer_changes (own_writer old.part writer)) + 1 in
    let entity : EntityId = writer_entity roster peer writer in
    each_of P
    (λ to. record {
      to = to;
      message = change_message (roster.prefix peer)
          (roster.prefix to) entity number change;
    })
    (λ to.
    silent (record {
      to = to;
      message = change_message (roster.prefix peer)
          (roster.prefix to) entity number change;
    })
    (change_silent roster (roster.prefix peer) (roster.prefix to) entity number change to))
    (peers_of (own_writer old.part writer).matched) due among
announced roster peer old (writes writer (Asserted moment)) P silent told due among =
    All-contains P
    (assertions_due roster (old.known.answered writer) (record { peer = peer; number = writer })
    (own_writer old.part writer))
    due (told_each roster (old.known.answered writer) peer old.part writer P (told writer moment refl)) among
announced roster peer old (writes writer (Registered key)) P silent told due among =
    let lt = among.1 in absurd (omega (arith, lt))
announced roster peer old (writes writer LookedAt) P silent told due among =
    let lt = among.1 in absurd (omega (arith, lt))
announced roster peer old (writes writer (StrengthSet strength)) P silent told due among =
    let lt = among.1 in absurd (omega (arith, lt))
announced roster peer old (writes writer (Ticked now behind)) P silent told due among =
    let lt = among.1 in absurd (omega (arith, lt))
announced roster peer part nothing P silent told due among = let lt = among.1 in absurd (omega (arith, lt))
announced roster peer old (tells t) P silent told due among = let lt = among.1 in absurd (omega (arith, lt))
announced roster peer old (looks_at_matches w) P silent told due among =
    let lt = among.1 in absurd (omega (arith, lt))

-- packets that are written forms of silent messages
silent_beats : (roster : Roster) (dues : List Due) (packets : List Packet)
    → ((p : Packet) → Contains packets p → IsWrittenOf dues p) → ((due : Due) → Contains dues due → IsSilent roster due)
    → (p : Packet) (w : Endpoint) (count : ℤ) → Contains packets p → HasHeartbeat roster p.bytes w count → ⊥
silent_beats roster dues packets written silent p w count among has =
    let d =
    written p among in (silent d.due d.among).beat w count d.writable
    (subst (λ (x : Packet). HasHeartbeat roster x.bytes w count) d.is has)

silent_asks : (roster : Roster) (dues : List Due) (packets : List Packet)
    → ((p : Packet) → Contains packets p → IsWrittenOf dues p) → ((due : Due) → Contains dues due → IsSilent roster due)
    → (p : Packet) (w r : Endpoint) (count : ℤ) → Contains packets p → HasAckNack roster p.bytes w r count → ⊥
silent_asks roster dues packets written silent p w r count among has =
    let d =
    written p among in (silent d.due d.among).ask w r count d.writable
    (subst (λ (x : Packet). HasAckNack roster x.bytes w r count) d.is has)

uses_silent : (roster : Roster) (old : WorldState) (dues : List Due) (packets : List Packet) (new : WorldState)
    (peer : ℕ) → Stays roster old peer new → HasUsedCounts roster old
    → ((p : ℕ) → KnowsAlike (peer_at old p).known (peer_at new p).known)
    → ((p : Packet) → Contains packets p → IsWrittenOf dues p)
    → ((due : Due) → Contains dues due → IsSilent roster due) → Uses roster old packets new
uses_silent roster old dues packets new peer s h same written silent =
    uses_knowing roster old packets new peer s h same
    (λ p w count among has. absurd (silent_beats roster dues packets written silent p w count among has))
    (silent_asks roster dues packets written silent)

none_silent : (roster : Roster) (dues : List Due) → dues ≡ [] → (due : Due) → Contains dues due → IsSilent roster due
none_silent roster dues none due among =
    let empty = ap (λ (ds : List Due). length ds) none in let lt = among.1 in absurd (omega (arith, empty, lt))

-- ---- HEARTBEATs

-- a HEARTBEAT that is due has a count that the event uses
record IsBeat (roster : Roster) (peer : ℕ) (after : Part) (due : Due) : Type 0 where
  beat : (w : Endpoint) (count : ℤ) → IsWritable due.message → HasHeartbeat roster (spelling_of due.message) w count
      → (w.peer ≡ peer) × (count ≤ℤ pos (heartbeats_used (own_writer after w.number)))
  ask : (w r : Endpoint) (count : ℤ) → IsWritable due.message → HasAckNack roster (spelling_of due.message) w r count
      → ⊥

-- one without a HEARTBEAT too
silent_beat : (roster : Roster) (peer : ℕ) (after : Part) (due : Due) → IsSilent roster due
    → IsBeat roster peer after due
silent_beat roster peer after due h = record {
  beat = λ w count writable has. absurd (h.beat w count writable has);
  ask = h.ask;
}

-- the next HEARTBEATs of the peer's writer are such ones where one count more is used afterwards
next_beat : (roster : Roster) (peer : ℕ) (part after : Part) (number to : ℕ) (final liveliness : Bool)
    (contacts : Endpoint → Contact) (readers : List Endpoint)
    → IsRoster roster → IsPartOf roster peer part → HasNumber part.rtps.writers number
    → heartbeats_used (own_writer after number) ≡ heartbeats_used (own_writer part number) + 1
    → IsBeat roster peer after
    (heartbeats_due_to roster final liveliness peer number contacts (own_writer part number) readers to)
next_beat roster peer part after number to final liveliness contacts readers checked of there more = record {
  beat = λ w count writable has.
      let me : Endpoint = record { peer = peer; number = number } in
      let found =
      beat_read each (roster.prefix peer) (roster.prefix to) has.own has.at beats has.heartbeat all writable
      has.there in
      let source = ap (λ (r : Receiver). r.source_guid_prefix) found.0 in
      let from : IsWriter roster (roster.prefix peer) (writer_entity roster peer number) w =
      subst (λ (p : GuidPrefix). IsWriter roster p (writer_entity roster peer number) w) source
      (subst (λ (e : EntityId). IsWriter roster has.at.source_guid_prefix e w)
      (ap (λ (h : HeartbeatBody). h.writer_id) found.1.is) has.from) in
      let same : w ≡ me =
      one_writer roster (roster.prefix peer) (writer_entity roster peer number) w me checked from
      (own_name roster peer part of number there).name in
      let is : count ≡ pos (heartbeats_used (own_writer part number) + 1) =
      sym has.same_count ∙ ap (λ (h : HeartbeatBody). h.count) found.1.is in
      let at : count ≤ℤ pos (heartbeats_used (own_writer after number)) =
      subst (λ (z : ℤ). z ≤ℤ pos (heartbeats_used (own_writer after number))) (sym is) (omega (arith, ints, more)) in (
        ap (λ (e : Endpoint). e.peer) same,
        subst
            (λ (e : Endpoint). count ≤ℤ pos (heartbeats_used (own_writer after e.number))) (sym same) at,
      );
  ask =
      λ w r count writable has. no_ask_read each (roster.prefix peer) (roster.prefix to) has.own has.at beats
      has.acknack all writable has.there;
}
  where
    each : HeartbeatBody → Type 0
    each h = IsBeatTo roster final liveliness peer number contacts (own_writer part number) to h

    beats : List Submessage
    beats = heartbeats_to roster final liveliness peer number contacts (own_writer part number) readers to

    all : AreBeats each beats
    all = are_beats roster final liveliness peer number contacts (own_writer part number) readers to

-- an event at which such messages are due, and nothing is learned
uses_beats : (roster : Roster) (tests : Tests) (old : WorldState) (peer : ℕ) (ev : Event) (reply : Reply)
    (dues : List Due) (packets : List Packet) (new : WorldState) → HasUsedCounts roster old
    → (step : PeerSteps roster tests old peer ev reply new) → KnowsAlike (peer_at old peer).known step.after.known
    → ((due : Due) → Contains dues due → IsBeat roster peer step.after.part due)
    → ((p : Packet) → Contains packets p → IsWrittenOf dues p) → Uses roster old packets new
uses_beats roster tests old peer ev reply dues packets new h step same all written =
    uses_knowing roster old packets new peer (steps_stays roster tests old peer ev reply new step) h
    (known_of roster tests old peer ev reply new step same)
    (λ p w count among has.
    let d = written p among in
    let one =
    (all d.due d.among).beat w count d.writable
    (subst (λ (x : Packet). HasHeartbeat roster x.bytes w count) d.is has) in
    subst (λ (q : Part). count ≤ℤ pos (heartbeats_used (own_writer q w.number))) (sym (here w.peer one.0)) one.1)
    (λ p w r count among has. let d = written p among in (all d.due d.among).ask w r count d.writable
    (subst (λ (x : Packet). HasAckNack roster x.bytes w r count) d.is has))
  where
    here : (p : ℕ) → p ≡ peer → part_at (machine_of new) p ≡ step.after.part
    here p e =
        ap (λ (n : ℕ). part_at (machine_of new) n) e
        ∙ (parts_at new peer
        ∙ (ap (λ (x : WorldState). (peer_at x peer).part) step.changed
        ∙ ap (λ (x : Peer). x.part) (numbered-same old.peers peer step.after no_peer step.within)))

-- ---- a tick

used_ticked : (now : ℕ) (asked : Bool) (w : Writer) (b : Bool) → (is_behind w || asked) ≡ b → b ≡ true
    → heartbeats_used (ticked now asked w) ≡ heartbeats_used w + 1
used_ticked now asked w true is so =
    let longer =
    ap (λ (c : Bool). length (if c then counts_of w.written ++ false ∷ [] else counts_of w.written)) is in
    let sum = length-append (counts_of w.written) (false ∷ []) in
    omega (arith, longer, sum)
used_ticked now asked w false is so = cc

-- some reader is behind, asks, or is silent
abbrev tells_some : (Endpoint → Contact) → Writer → Bool
tells_some contacts w = is_behind w || list_any (λ (p : ReaderProxy). awaits_heartbeat (contacts p.reader)) w.readers

used_after_tick : (contacts : ℕ → Endpoint → Contact) (part : Part) (now number : ℕ)
    → tells_some (contacts number) (own_writer part number) ≡ true
    → heartbeats_used (own_writer (after_tick (was_asked contacts part) part now) number)
    ≡ heartbeats_used (own_writer part number) + 1
used_after_tick contacts part now number told =
    ⊎_elim (λ e. ap (λ (x : Writer). heartbeats_used x) e
    ∙ used_ticked now (was_asked contacts part number) (own_writer part number)
    (tells_some (contacts number) (own_writer part number)) refl told)
    (λ n.
    let none : tells_some (contacts number) (own_writer part number) ≡ false =
    ap (λ (x : Writer). tells_some (contacts number) x) n.1 in
    absurd cc)
    (numbered-writers_ticked now (was_asked contacts part) part.rtps.writers number)

beats_are : (roster : Roster) (contacts : ℕ → Endpoint → Contact) (peer : ℕ) (part : Part) (now : ℕ)
    → IsRoster roster → IsPartOf roster peer part
    → All (IsBeat roster peer (after_tick (was_asked contacts part) part now))
    (heartbeats_due roster contacts peer part)
beats_are roster contacts peer part now checked of =
    of_all roster contacts peer part (IsBeat roster peer (after_tick (was_asked contacts part) part now))
    (λ number to there left among. next_beat roster peer part (after_tick (was_asked contacts part) part now) number to
    false false (contacts number) (readers_told (contacts number) (own_writer part number)) checked of there
    (used_after_tick contacts part now number (some_told (contacts number) (own_writer part number) to among)))

uses_tick : (roster : Roster) (tests : Tests) (old : WorldState) (peer now : ℕ) (dues : List Due)
    (packets : List Packet) (new : WorldState) → IsRoster roster → HasUsedCounts roster old
    → PeerSteps roster tests old peer (event.Tick now) Done new
    → dues ≡ heartbeats_due roster (peer_at old peer).known.answered peer (peer_at old peer).part
    → ((p : Packet) → Contains packets p → IsWrittenOf dues p) → Uses roster old packets new
uses_tick roster tests old peer now dues packets new checked h step are written =
    uses_beats roster tests old peer (event.Tick now) Done dues packets new h step
    (tick_knows (peer_at old peer) now step.output.reply step.after step.step.knows) all written
  where
    part : Part
    part = (peer_at old peer).part

    contacts : ℕ → Endpoint → Contact
    contacts = (peer_at old peer).known.answered

    ticks : TicksAsked (was_asked contacts part) part now Done step.after.part
    ticks =
        subst (λ (r : Reply). TicksAsked (was_asked contacts part) part now r step.after.part) step.replies
        step.step.step.0

    all : (due : Due) → Contains dues due → IsBeat roster peer step.after.part due
    all due among =
        subst (λ (q : Part). IsBeat roster peer q due) (sym ticks.1)
        (All-contains (IsBeat roster peer (after_tick (was_asked contacts part) part now))
        (heartbeats_due roster contacts peer part) due
        (beats_are roster contacts peer part now checked (h.of_roster peer step.within))
        (subst (λ (ds : List Due). Contains ds due) are among))

-- ---- a call

-- the writer that asserted has used one count more
used_asserted : (w : Writer) (moment : ℕ)
    → heartbeats_used (with_written w (Asserted moment)) ≡ heartbeats_used w + 1
used_asserted w moment = length-append (counts_of w.written) (true ∷ [])

uses_call : (roster : Roster) (tests : Tests) (old : WorldState) (peer : ℕ) (call : Call) (reply : Reply)
    (dues : List Due) (packets : List Packet) (new : WorldState) → IsRoster roster
    → HasUsedCounts roster old
    → PeerSteps roster tests old peer (event.Call call) reply new
    → dues ≡ announcements_due roster peer (state_of (peer_at old peer)) (effect_of (peer_at old peer).part call reply)
    → ((p : Packet) → Contains packets p → IsWrittenOf dues p) → Uses roster old packets new
uses_call roster tests old peer call reply dues packets new checked h step are written =
    uses_beats roster tests old peer (event.Call call) reply dues packets new h step
    (call_knows (peer_at old peer) call step.output.reply step.after step.step.knows)
    (λ due among.
    announced roster peer (state_of (peer_at old peer)) (effect_of part call reply) (IsBeat roster peer step.after.part)
    (silent_beat roster peer step.after.part) told due
    (subst (λ (ds : List Due). Contains ds due) are among)) written
  where
    part : Part
    part = (peer_at old peer).part

    entered : step.after.part.rtps ≡ effect part.rtps (effect_of part call reply)
    entered = step.step.step.0.rtps ∙ ap (λ (r : Reply). effect part.rtps (effect_of part call r)) step.replies

    told : (writer moment : ℕ) → effect_of part call reply ≡ writes writer (Asserted moment)
        → OfEachTold roster ((peer_at old peer).known.answered writer) peer part writer
        (IsBeat roster peer step.after.part)
    told writer moment is there matched to =
        let after =
        asserted_writer part step.after.part writer moment there
        (entered ∙ ap (λ (e : Effect). effect part.rtps e) is) in
        next_beat roster peer part step.after.part writer to true true ((peer_at old peer).known.answered writer)
        (own_writer part writer).matched checked (h.of_roster peer step.within) there
        (ap (λ (w : Writer). heartbeats_used w) after ∙ used_asserted (own_writer part writer) moment)

known_same : (old new : WorldState) → new ≡ old → (p : ℕ) → KnowsAlike (peer_at old p).known (peer_at new p).known
known_same old new same p =
    knows_same (peer_at old p).known (peer_at new p).known (ap (λ (x : WorldState). (peer_at x p).known) same)

-- at no peer
uses_no_call : (roster : Roster) (old : WorldState) (peer : ℕ) (e : Effect) (dues : List Due) (packets : List Packet)
    (new : WorldState) → HasUsedCounts roster old → (HasNumber old.peers peer → ⊥) → new ≡ old
    → dues ≡ announcements_due roster peer (state_of (peer_at old peer)) e
    → ((p : Packet) → Contains packets p → IsWrittenOf dues p) → Uses roster old packets new
uses_no_call roster old peer e dues packets new h never same are written =
    uses_silent roster old dues packets new peer (stays_same roster old peer new same) h
    (known_same old new same) written
    (λ due among.
    announced roster peer (state_of (peer_at old peer)) e (IsSilent roster) (λ d s. s)
    (λ writer moment is there. absurd (nobody writer there))
    due (subst (λ (ds : List Due). Contains ds due) are among))
  where
    nobody : (writer : ℕ) → HasNumber (peer_at old peer).part.rtps.writers writer → ⊥
    nobody writer there =
        ⊎_elim (λ has. never has)
        (λ none.
        let empty = ap (λ (x : Peer). length x.part.rtps.writers) none in
        let low = there.0 in let high = there.1 in absurd (omega (arith, empty, low, high)))
        (number_there old.peers peer no_peer)

-- ---- a delivery

-- the counts that a peer of the network has used
abbrev counting : (roster : Roster) → IsRoster roster → WorldState → ℕ → Counting
counting roster checked old peer = record {
  roster = roster;
  checked = checked;
  peer = peer;
  own = roster.prefix peer;
  beats = λ w. heartbeats_used_at old w;
  asks = λ w r. acknacks_used_at old w r;
}

-- an event at which one peer counts so
uses_counts : (roster : Roster) (old : WorldState) (peer : ℕ) (dues : List Due) (packets : List Packet)
    (new : WorldState) (checked : IsRoster roster) → HasUsedCounts roster old
    → Stays roster old peer new
    → Counts (counting roster checked old peer) (state_of (peer_at old peer)) dues (state_of (peer_at new peer))
    → ((p : Packet) → Contains packets p → IsWrittenOf dues p) → Uses roster old packets new
uses_counts roster old peer dues packets new checked h s counts written = record {
  parts = s.parts h.of_roster;
  grows = s.grows;
  asked =
      λ w r. ⊎_elim (λ e. asked_here w r e)
      (λ n. let same = ap (λ (x : Peer). (x.known.tracked w r.number).acknacks)
      (s.others r.peer n) in omega (arith, same)) (number_or_not r.peer peer);
  taken = λ w r count e.
      ⊎_elim (λ is. taken_here w r count is e)
      (λ n. inl (sym (ap (λ (x : Peer). (x.known.tracked w r.number).count) (s.others r.peer n)) ∙ e))
      (number_or_not r.peer peer);
  answered = λ w r count e.
      ⊎_elim (λ is. answered_here w r count is e)
      (λ n. inl (sym (ap (λ (x : Peer). (x.known.answered w.number r).count) (s.others w.peer n)) ∙ e))
      (number_or_not w.peer peer);
  beats = λ p w count among has.
      let d = written p among in
      absurd ((counts.counted d.due d.among).beat w count d.writable
      (subst (λ (x : Packet). HasHeartbeat roster x.bytes w count) d.is has));
  asks = λ p w r count among has.
      let d = written p among in
      let one =
      (counts.counted d.due d.among).ask w r count d.writable
      (subst (λ (x : Packet). HasAckNack roster x.bytes w r count) d.is has) in
      subst (λ (n : ℕ). count ≤ℤ pos ((peer_at new n).known.tracked w r.number).acknacks) (sym one.0) one.1;
}
  where
    asked_here : (w r : Endpoint) → r.peer ≡ peer → acknacks_used_at old w r ≤ acknacks_used_at new w r
    asked_here w r e =
        subst (λ (n : ℕ). ((peer_at old n).known.tracked w r.number).acknacks
        ≤ ((peer_at new n).known.tracked w r.number).acknacks) (sym e) (counts.asked w r.number)

    taken_here : (w r : Endpoint) (count : ℤ) → r.peer ≡ peer → (tracked_at new w r).count ≡ Some count
        → ((tracked_at old w r).count ≡ Some count) ⊎ (count ≤ℤ pos (heartbeats_used_at old w))
    taken_here w r count is e =
        subst (λ (n : ℕ). (((peer_at old n).known.tracked w r.number).count ≡ Some count)
        ⊎ (count ≤ℤ pos (heartbeats_used_at old w))) (sym is)
        (counts.taken w r.number count
        (subst (λ (n : ℕ). ((peer_at new n).known.tracked w r.number).count ≡ Some count) is e))

    answered_here : (w r : Endpoint) (count : ℤ) → w.peer ≡ peer
        → ((peer_at new w.peer).known.answered w.number r).count ≡ Some count
        → (((peer_at old w.peer).known.answered w.number r).count ≡ Some count)
        ⊎ (count ≤ℤ pos (acknacks_used_at old w r))
    answered_here w r count is e =
        let at : ((peer_at new peer).known.answered w.number r).count ≡ Some count =
        subst (λ (n : ℕ). ((peer_at new n).known.answered w.number r).count ≡ Some count) is e in
        let me : record { peer = peer; number = w.number } ≡ w = ap (λ (n : ℕ). endpoint_of n w.number) (sym is) in
        ⊎_elim (λ o. inl (subst (λ (n : ℕ). ((peer_at old n).known.answered w.number r).count ≡ Some count) (sym is) o))
        (λ n. inr (subst (λ (x : Endpoint). count ≤ℤ pos (acknacks_used_at old x r)) me n))
        (counts.answered w.number r count at)
      where
        endpoint_of : ℕ → ℕ → Endpoint
        endpoint_of peer number = record { peer = peer; number = number }

uses_delivery : (roster : Roster) (old : WorldState) (peer : ℕ) (packet : Packet) (report : Report) (dues : List Due)
    (packets : List Packet) (new : WorldState) → IsRoster roster → HasUsedCounts roster old
    → Stays roster old peer new → Contains old.sent packet
    → TakesPacket roster peer packet.bytes (state_of (peer_at old peer)) report dues (state_of (peer_at new peer))
    → ((p : Packet) → Contains packets p → IsWrittenOf dues p) → Uses roster old packets new
uses_delivery roster old peer packet report dues packets new checked h s among takes written =
    uses_counts roster old peer dues packets new checked h s
    (packet_counts (counting roster checked old peer) packet.bytes refl
    (λ w count has. h.heartbeat_sent packet w count among has)
    (λ w r count has. h.acknack_sent packet w r count among has)
    (state_of (peer_at old peer)) report dues (state_of (peer_at new peer)) takes) written

-- places that are tried again
uses_resume : (roster : Roster) (old : WorldState) (peer k : ℕ) (report : Report) (dues : List Due)
    (packets : List Packet) (new : WorldState) → IsRoster roster → HasUsedCounts roster old
    → Stays roster old peer new → dues ≡ []
    → Resumes k (state_of (peer_at old peer)) report (state_of (peer_at new peer))
    → ((p : Packet) → Contains packets p → IsWrittenOf dues p) → Uses roster old packets new
uses_resume roster old peer k report dues packets new checked h s none resumes written =
    let c : Counting = counting roster checked old peer in
    let before : State = state_of (peer_at old peer) in
    let after : State = state_of (peer_at new peer) in
    uses_counts roster old peer dues packets new checked h s
    (subst (λ (ds : List Due). Counts c before ds after) (sym none)
    (again_counts c k 0 (own_proxies before.part k) before report.moves report.refused after resumes)) written

-- ---- an event

-- one at which nothing is due, and nothing is learned
uses_nothing : (roster : Roster) (old : WorldState) (dues : List Due) (packets : List Packet) (new : WorldState)
    (peer : ℕ) → Stays roster old peer new → HasUsedCounts roster old
    → ((p : ℕ) → KnowsAlike (peer_at old p).known (peer_at new p).known)
    → ((p : Packet) → Contains packets p → IsWrittenOf dues p) → dues ≡ [] → Uses roster old packets new
uses_nothing roster old dues packets new peer s used same written none =
    uses_silent roster old dues packets new peer s used same written (none_silent roster dues none)

-- a tick that is not done
uses_no_tick : (roster : Roster) (tests : Tests) (old : WorldState) (peer now : ℕ) (reply : Reply) (dues : List Due)
    (packets : List Packet) (new : WorldState) → HasUsedCounts roster old
    → PeerSteps roster tests old peer (event.Tick now) reply new
    → ((p : Packet) → Contains packets p → IsWrittenOf dues p) → dues ≡ [] → Uses roster old packets new
uses_no_tick roster tests old peer now reply dues packets new used s written none =
    uses_nothing roster old dues packets new peer (steps_stays roster tests old peer (event.Tick now) reply new s) used
    (known_of roster tests old peer (event.Tick now) reply new s
    (tick_knows (peer_at old peer) now s.output.reply s.after s.step.knows)) written none

-- a delivery that is not reported changes nothing
pub not_reported : (roster : Roster) (tests : AllTests) (old : WorldState) (peer number : ℕ) (reply : Reply)
    (new : WorldState) → WorldStep roster tests old (world.Deliver peer number) reply new
    → ((before : Peer) (bytes : List ℕ) (after : Peer)
    → EventStep roster (tests peer) before (event.Deliver bytes) reply after → ⊥) → new ≡ old
not_reported roster tests old peer number reply new (inl s) never =
    absurd (never (peer_at old peer) s.0.bytes s.3.after
    (subst (λ (r : Reply). EventStep roster (tests peer) (peer_at old peer) (event.Deliver s.0.bytes) r s.3.after)
    s.3.replies s.3.step.step))
not_reported roster tests old peer number reply new (inr s) never = s.1.after

uses_no_report : (roster : Roster) (tests : AllTests) (old : WorldState) (peer number : ℕ) (reply : Reply)
    (dues : List Due) (packets : List Packet) (new : WorldState) → HasUsedCounts roster old
    → WorldStep roster tests old (world.Deliver peer number) reply new
    → ((before : Peer) (bytes : List ℕ) (after : Peer)
    → EventStep roster (tests peer) before (event.Deliver bytes) reply after → ⊥)
    → ((p : Packet) → Contains packets p → IsWrittenOf dues p) → dues ≡ [] → Uses roster old packets new
uses_no_report roster tests old peer number reply dues packets new used s never written none =
    let same : new ≡ old = not_reported roster tests old peer number reply new s never in
    uses_nothing roster old dues packets new peer (stays_same roster old peer new same) used
    (known_same old new same) written none

-- nor does a peer know anew by a reader that is not there
pub not_resumed : (roster : Roster) (tests : AllTests) (old : WorldState) (peer k : ℕ) (reply : Reply)
    (new : WorldState) → WorldStep roster tests old (world.Resume peer k) reply new
    → ((before after : Peer) → Knows before (event.Resume k) reply after → after.known ≡ before.known)
    → Stays roster old peer new × ((p : ℕ) → (peer_at new p).known ≡ (peer_at old p).known)
not_resumed roster tests old peer k reply new (inl s) same = (
  steps_stays roster (tests peer) old peer (event.Resume k) reply new s,
  known_by (λ before after. after ≡ before) (λ known. refl) roster (tests peer) old peer (event.Resume k) reply new s
      (same (peer_at old peer) s.after
      (subst (λ (r : Reply). Knows (peer_at old peer) (event.Resume k) r s.after) s.replies s.step.knows)),
)
not_resumed roster tests old peer k reply new (inr s) same =
    (stays_same roster old peer new s.1.after, λ p. ap (λ (x : WorldState). (peer_at x p).known) s.1.after)

uses_no_resume : (roster : Roster) (tests : AllTests) (old : WorldState) (peer k : ℕ) (reply : Reply)
    (dues : List Due) (packets : List Packet) (new : WorldState) → HasUsedCounts roster old
    → WorldStep roster tests old (world.Resume peer k) reply new
    → ((before after : Peer) → Knows before (event.Resume k) reply after → after.known ≡ before.known)
    → ((p : Packet) → Contains packets p → IsWrittenOf dues p) → dues ≡ [] → Uses roster old packets new
uses_no_resume roster tests old peer k reply dues packets new used s same written none =
    let stays = not_resumed roster tests old peer k reply new s same in
    uses_nothing roster old dues packets new peer stays.0 used
    (λ p. knows_same (peer_at old p).known (peer_at new p).known (stays.1 p)) written none

uses_step : (roster : Roster) (tests : AllTests) (old : WorldState) (ev : WorldEvent) (reply : Reply) (dues : List Due)
    (packets : List Packet) (new : WorldState) → IsRoster roster → HasUsedCounts roster old
    → ((p : Packet) → Contains packets p → IsWrittenOf dues p) → WorldStep roster tests old ev reply new
    → AreDue roster old ev reply new dues → Uses roster old packets new
uses_step roster tests old (world.Call peer call) reply dues packets new checked used written (inl s) are =
    uses_call roster (tests peer) old peer call reply dues packets new checked used s are written
uses_step roster tests old (world.Call peer call) reply dues packets new checked used written (inr s) are =
    uses_no_call roster old peer (effect_of (peer_at old peer).part call reply) dues packets new used s.0 s.1.after are
    written
uses_step roster tests old (world.Tick peer now) Done dues packets new checked used written (inl s) are =
    uses_tick roster (tests peer) old peer now dues packets new checked used s are written
uses_step roster tests old (world.Tick peer now) Done dues packets new checked used written (inr s) are =
    let r = s.1.is_refused in absurd cc
uses_step roster tests old (world.Tick peer now) reply dues packets new checked used written (inl s) are =
    uses_no_tick roster (tests peer) old peer now reply dues packets new used s written are
uses_step roster tests old (world.Tick peer now) reply dues packets new checked used written (inr s) are =
    uses_nothing roster old dues packets new peer (stays_same roster old peer new s.1.after) used
    (known_same old new s.1.after) written are
uses_step roster tests old (world.Deliver peer number) (Reported report) dues packets new checked used written
    (inl s) are =
    uses_delivery roster old peer are.0 report dues packets new checked used
    (steps_stays roster (tests peer) old peer (event.Deliver s.0.bytes) (Reported report) new s.3)
    (contains_at old.sent (number - 1) are.0 are.1) are.2 written
uses_step roster tests old (world.Deliver peer number) (Reported report) dues packets new checked used written
    (inr s) are = let r = s.1.is_refused in absurd cc
uses_step roster tests old (world.Deliver peer number) reply dues packets new checked used written s are =
    uses_no_report roster tests old peer number reply dues packets new used s (λ p b q h. h) written are
uses_step roster tests old (world.Resume peer k) (Reported report) dues packets new checked used written (inl s) are =
    uses_resume roster old peer k report dues packets new checked used
    (steps_stays roster (tests peer) old peer (event.Resume k) (Reported report) new s) are.0 are.1 written
uses_step roster tests old (world.Resume peer k) (Reported report) dues packets new checked used written (inr s) are =
    let r = s.1.is_refused in absurd cc
uses_step roster tests old (world.Resume peer k) reply dues packets new checked used written s are =
    uses_no_resume roster tests old peer k reply dues packets new used s (λ p q h. h) written are

pub steps_used : (roster : Roster) (tests : AllTests) (old : WorldState) (ev : WorldEvent) (reply : Reply) (lost : ℕ)
    (new : WorldState) → IsRoster roster → HasUsedCounts roster old
    → RuledStep roster tests old ev reply lost new → HasUsedCounts roster new
steps_used roster tests old ev reply lost new checked used h =
    uses_used roster old h.packets new h.sent used
    (uses_step roster tests old ev reply h.dues h.packets new checked used
    (sent_written roster tests old ev reply lost new h) h.step h.due)
