-- A round by its stages: after it the reader has caught up, unless something hindered it.
use Rattle.std.proofs.Common.{◌≡◌, ◌⊎◌, ℕ, ℤ, ◌+◌, ◌-◌, ◌^◌, ◌<◌, ◌≤◌, min, Bool, true, false, List, [], ◌∷◌, ◌++◌, Option, Some, None, Contains, map, length, slice_get, refl, subst, ap, sym, ◌∙◌, inl, inr, ⊎_elim, arith, length-append}
use Rattle.std.specs.Prelude.{IsSome, if◌then◌else◌, nat_le}
use Rattle.std.proofs.lemmas.Bool.{cases_lt}
use Rattle.std.proofs.lemmas.Bool.Decides.{nat_tests}
use Rattle.dds_protocol.specs.Roster.{Roster}
use Rattle.dds_base.specs.declared.guid.EntityId.{EntityId}
use Rattle.dds_base.specs.Kept.{numbers_from}
use Rattle.std.specs.Option.{option_map_or, unwrap_or}
use Rattle.rtps_wire.specs.declared.seek.Sought.{Sought}
use Rattle.rtps_wire.specs.declared.seek.Sought.TheVariants as sought
use Rattle.rtps_wire.specs.Sought.{Has}
use Rattle.dds_protocol.specs.Noticing.{world_ended}
use Rattle.dds_base.specs.declared.endpoint.Endpoint.{Endpoint}
use Rattle.dds_protocol.specs.declared.event.Packet.{Packet}
use Rattle.dds_machine.specs.declared.event.WorldEvent.{WorldEvent}
use Rattle.dds_machine.specs.declared.event.WorldEvent.TheVariants as world
use Rattle.dds_machine.specs.declared.reply.Reply.{Reply}
use Rattle.dds_machine.specs.declared.reply.Reply.TheVariants.{Done}
use Rattle.dds_protocol.specs.Dues.{IsPartOf}
use Rattle.dds_protocol.specs.Fresh.{HasHeartbeat, HasAckNack, heartbeats_used_at, acknacks_used_at}
use Rattle.dds_machine.specs.Machine.{AllTests, part_at, place_at, writer_at}
use Rattle.dds_machine.specs.Numbered.{HasNumber}
use Rattle.dds_machine.specs.Part.{Part, Writer, NoLess, IsAtMost, own_proxies, own_writer, acknowledged_of, how_of, is_attached, writer_changes}
use Rattle.dds_protocol.specs.DueMessages.{writer_entity}
use Rattle.dds_protocol.specs.Closed.{IsClosed}
use Rattle.dds_protocol.specs.Greetings.{NobodyIsSilent}
use Rattle.dds_protocol.specs.Repair.{AsksInRound, BeginsRound, Delivers, DeliversAll, HasCaughtUp, IsRepairRound, StandsAt, packets_for}
use Rattle.dds_protocol.specs.Rules.{RuledStep, RuledRun}
use Rattle.dds_protocol.specs.World.{WorldState, peer_at, machine_of}
use Rattle.dds_protocol.proofs.Composed.{parts_at}
use Rattle.dds_protocol.proofs.PairAsked.{has_writer}
use Rattle.dds_protocol.proofs.PairAsks.{asks_found}
use Rattle.dds_protocol.proofs.PairBeats.{beats_are_sent}
use Rattle.dds_protocol.proofs.PairBegun.{Begun, Missed, Told, met, the_begun, writer_is}
use Rattle.dds_protocol.proofs.PairCaughtUp.{pair_catches_up, answers_are_few}
use Rattle.dds_protocol.proofs.PairEnded.{leaves_ended}
use Rattle.dds_protocol.proofs.PairFound.{beat_found, beat_sought, ask_found_among}
use Rattle.dds_protocol.proofs.PairMissed.{LeavesPair, missed_leaves_pair, not_behind, tick_leaves_pair}
use Rattle.dds_protocol.proofs.PairNamed.{PairOf}
use Rattle.dds_protocol.proofs.PairTicked.{tick_leaves, ticks_there}
use Rattle.dds_protocol.proofs.DuesMatched.{own_name, reader_entity_is}
use Rattle.dds_core.proofs.KnownPairs.{pair_kept}
use Rattle.dds_world.specs.declared.round.Matched.{Matched}
use Rattle.dds_world.specs.declared.round.Round.{Round}
use Rattle.dds_world.specs.declared.round.RoundReply.{RoundReply}
use Rattle.dds_world.specs.Repairing.{Knows, IsKnown, Stage, Answering, Acknowledging, Beating}
use Rattle.dds_world.specs.Round.{IsExcused, IsHindered, has_unsent, IsStep, AreSteps, IsTo, HasNone, IsFirst, Rounds, answers_at, is_whole, are_whole, replies_of}
use Rattle.dds_world.specs.WorldStanding.{Hearing, WorldKept, StandsFor}
use Rattle.dds_world.proofs.Caught.{CoreAt, core_at, place_known, few_changes, places_after, unsent_shown, went, sent_by, whole_tick, delivers, first_whole, Ran, ran, none_lost, deliver_all, later_packet, among_none, get_later}
use Rattle.dds_world.proofs.Rounds.{BySteps, IsMatchedSo, IsPlace, acks_steps, beats_steps, round_is, stage_is}
use Rattle.dds_world.proofs.RunSteps.{Went}

-- ---- a packet that is delivered

-- Of the packets that were sent since so many had been, the first such one is delivered at this peer. Memory was found
-- for it, and nothing was lost: before it no fewer than so many are counted as unsent, and after it no more.
record Delivered {hearing : Hearing} (tests : AllTests) (Is : Packet → Type 0) (from peer unsent : ℕ)
    (old : WorldKept hearing) : Type 0 where
  k : ℕ
  reply : RoundReply
  mid : WorldKept hearing
  first : IsFirst Is old.sent from (length old.sent) k
  step : IsStep tests old (world.Deliver peer k) reply mid
  whole : is_whole reply.reply ≡ true
  same : mid.unsent ≤ unsent
  more : unsent ≤ old.unsent

-- in a stage whose replies are whole, and in which nothing was lost, there is no such packet, or it is delivered so
stage_delivers : {hearing : Hearing} → {tests : AllTests}
    → (roster : Roster) (network : WorldState) (Is : Packet → Type 0) (from peer unsent : ℕ)
    (Next : WorldKept hearing → List WorldEvent → List RoundReply → WorldKept hearing → Type 0) (old : WorldKept hearing)
    (events : List WorldEvent) (replies : List RoundReply) (new : WorldKept hearing)
    (P : List WorldEvent → List RoundReply → WorldKept hearing → Type 0) → StandsFor old roster network
    → new.unsent ≤ unsent → unsent ≤ old.unsent → BySteps tests Next new
    → (HasNone Is old.sent from (length old.sent) → P [] [] old)
    → ((d : Delivered tests Is from peer unsent old) (later : List WorldEvent) (rest : List RoundReply)
    → are_whole rest ≡ true → unsent ≤ d.mid.unsent → Next d.mid later rest new
    → P (world.Deliver peer d.k ∷ later) (d.reply ∷ rest) new)
    → Stage tests Is from peer Next old events replies new → are_whole replies ≡ true → P events replies new
stage_delivers {tests} roster network Is from peer unsent Next old events replies new P s same more steps none goes =
    stage_is Is from peer Next old events replies new (λ es rs n. are_whole rs ≡ true → P es rs n)
    (λ no whole. none no)
    (λ k reply mid later rest first step next whole.
    let w =
    first_whole roster network old (world.Deliver peer k) reply mid later rest new unsent step
    (steps mid later rest next) s whole same more in
    let d : Delivered tests Is from peer unsent old = record {
      k = k;
      reply = reply;
      mid = mid;
      first = first;
      step = step;
      whole = w.whole;
      same = w.same;
      more = more;
    } in
    goes d later rest w.rest w.more next)

-- it is a delivery by the rules
delivered : {hearing : Hearing} → {tests : AllTests} {Is : Packet
    → Type 0} {from peer unsent : ℕ} {old : WorldKept hearing}
    (d : Delivered tests Is from peer unsent old) {roster : Roster} {network : WorldState}
    → StandsFor old roster network
    → (w : Went tests roster network old (world.Deliver peer d.k) d.reply.reply d.mid)
    → Delivers roster tests network peer d.first.packet w.step.lost w.after
delivered {peer = peer} {old = old} d {roster} {network} s w =
    delivers roster network old peer d.k d.first.packet d.reply.reply d.mid s d.first.at.1 d.whole w

-- nothing was lost at it
nothing_lost : {hearing : Hearing} → {tests : AllTests} {Is : Packet
    → Type 0} {from peer unsent : ℕ} {old : WorldKept hearing}
    (d : Delivered tests Is from peer unsent old) {roster : Roster} {network : WorldState}
    (w : Went tests roster network old (world.Deliver peer d.k) d.reply.reply d.mid) → old.unsent ≤ unsent
    → unsent < 2 ^ 64 - 1 → w.step.lost ≡ 0
nothing_lost {old = old} d w most below =
    let same = d.same in
    let more = d.more in
    none_lost old.unsent w.step.lost d.mid.unsent w.step.counted (omega (arith, same, more))
    (omega (arith, below, most))

-- its packet is one of those that were sent since
sent_since : {hearing : Hearing} → {tests : AllTests} {Is : Packet → Type 0} {peer unsent : ℕ} {old : WorldKept hearing}
    (before packets : List Packet) (d : Delivered tests Is (length before) peer unsent old)
    → old.sent ≡ before ++ packets
    → Contains packets d.first.packet
sent_since before packets d sent =
    let above = d.first.above in
    later_packet before packets (d.k - 1) d.first.packet (omega (arith, above))
    (subst (λ (ps : List Packet). slice_get ps (d.k - 1) ≡ Some d.first.packet) sent d.first.at.1)

-- ---- what is known at the beginning

-- the acknowledgement of a matched reader
some_is : (o : Option ℕ) → IsSome o → (x : ℕ) × (o ≡ Some x)
some_is (Some x) h = (x, refl)
some_is None h = absurd cc

-- the reader was greeted, and has yet to answer
abbrev is_silent : WorldState → Matched → Bool
is_silent network m = ((peer_at network m.writer.peer).known.answered m.writer.number m.reader).silent

-- a tick of the writer's peer, for which memory was found and at which nothing was lost, where the reader has answered
record Tick (hearing : Hearing) : Type 0 where
  tests : AllTests
  roster : Roster
  network : WorldState
  old : WorldKept hearing
  mid : WorldKept hearing
  m : Matched
  place : ℕ
  ticked : RoundReply
  s : StandsFor old roster network
  at : place_at (machine_of network) m.reader m.writer ≡ Some place
  attached : is_attached (how_of (own_proxies (part_at (machine_of network) m.reader.peer) m.reader.number) m.writer)
      ≡ true
  known : Knows roster network m
  step : IsStep tests old (world.Tick m.writer.peer m.moment) ticked mid
  whole : is_whole ticked.reply ≡ true
  same : mid.unsent ≤ old.unsent
  below : old.unsent < 2 ^ 64 - 1
  spoken : is_silent network m ≡ false

w0 : {hearing : Hearing} → (t : Tick hearing)
    → Went t.tests t.roster t.network t.old (world.Tick t.m.writer.peer t.m.moment) t.ticked.reply t.mid
w0 t = went t.roster t.network t.old (world.Tick t.m.writer.peer t.m.moment) t.ticked t.mid t.step t.s

abbrev after_tick : {hearing : Hearing} → Tick hearing → WorldState
after_tick t = (w0 t).after

-- at its end
abbrev noted_tick : {hearing : Hearing} → Tick hearing → WorldState
noted_tick t = world_ended t.network (world.Tick t.m.writer.peer t.m.moment) (after_tick t)

ruled0 : {hearing : Hearing} → (t : Tick hearing)
    → RuledStep t.roster t.tests t.network (world.Tick t.m.writer.peer t.m.moment) Done 0 (after_tick t)
ruled0 t =
    subst (λ (n : ℕ). RuledStep t.roster t.tests t.network (world.Tick t.m.writer.peer t.m.moment) Done n
    (after_tick t)) (none_lost t.old.unsent (w0 t).step.lost t.mid.unsent (w0 t).step.counted t.same t.below)
    (subst (λ (r : Reply). RuledStep t.roster t.tests t.network (world.Tick t.m.writer.peer t.m.moment) r
    (w0 t).step.lost (after_tick t))
    (whole_tick t.tests t.roster t.network t.m.writer.peer t.m.moment t.ticked.reply (after_tick t) t.whole
    (w0 t).step.ruled.step) (w0 t).step.ruled)

sent0 : {hearing : Hearing} → (t : Tick hearing) → t.mid.sent ≡ t.old.sent ++ (ruled0 t).packets
sent0 t =
    sent_by t.roster t.network t.old (world.Tick t.m.writer.peer t.m.moment) Done 0 (after_tick t) t.mid t.s
    (w0 t).stands (ruled0 t)

abbrev part : {hearing : Hearing} → Tick hearing → Part
part t = (peer_at t.network t.m.writer.peer).part

there : {hearing : Hearing} → (t : Tick hearing) → HasNumber t.network.peers t.m.writer.peer
there t = ticks_there t.roster t.tests t.network t.m.writer.peer t.m.moment (after_tick t) (ruled0 t).step

core : {hearing : Hearing} → (t : Tick hearing) → CoreAt t.roster t.network t.m.writer.peer
core t = core_at t.old t.roster t.network t.m.writer.peer t.s (there t)

of : {hearing : Hearing} → (t : Tick hearing) → IsPartOf t.roster t.m.writer.peer (part t)
of t = t.s.used.of_roster t.m.writer.peer (there t)

acknowledged : {hearing : Hearing} → Tick hearing → ℕ
acknowledged t =
    (some_is (acknowledged_of (writer_at (machine_of t.network) t.m.writer).readers t.m.reader) t.known.matched).0

abbrev the_last : {hearing : Hearing} → Tick hearing → ℕ
the_last t = length (writer_changes (writer_at (machine_of t.network) t.m.writer))

row : {hearing : Hearing} → (t : Tick hearing)
    → acknowledged_of (writer_at (machine_of t.network) t.m.writer).readers t.m.reader
    ≡ Some (acknowledged t)
unfolding acknowledged
row t = (some_is (acknowledged_of (writer_at (machine_of t.network) t.m.writer).readers t.m.reader) t.known.matched).1

own_row : {hearing : Hearing} → (t : Tick hearing)
    → acknowledged_of (own_writer (part t) t.m.writer.number).readers t.m.reader
    ≡ Some (acknowledged t)
own_row t =
    subst (λ (w : Writer). acknowledged_of w.readers t.m.reader ≡ Some (acknowledged t))
    (writer_is t.network t.m.writer) (row t)

here : {hearing : Hearing} → (t : Tick hearing) → HasNumber (part t).rtps.writers t.m.writer.number
here t = has_writer (part t) t.m.writer.number t.m.reader (acknowledged t, own_row t)

pair : {hearing : Hearing} → (t : Tick hearing) → PairOf t.roster t.m.writer t.m.reader
pair t =
    subst (λ (n : ℕ). PairOf t.roster (record { peer = n; number = t.m.writer.number }) t.m.reader)
    (t.s.sound.number t.m.writer.peer (there t))
    (pair_kept t.roster (peer_at t.network t.m.writer.peer) (core t).core (core t).stands t.m.writer.number t.m.reader
    (acknowledged t) (own_row t))

stands : {hearing : Hearing} → (t : Tick hearing) → StandsAt t.network t.m.writer t.m.reader t.place (acknowledged t)
stands t =
    let k = place_known t.old t.roster t.network t.m.writer t.m.reader t.place t.s t.at in
    record {
      here = k.here;
      place_is = t.at;
      attached = ap (λ (q : Part). is_attached (how_of (own_proxies q t.m.reader.number) t.m.writer))
          (sym (parts_at t.network t.m.reader.peer)) ∙ t.attached;
      known = k.known;
      acknowledged_is = row t;
    }

few : {hearing : Hearing} → (t : Tick hearing) → the_last t < 2 ^ 62
few t =
    subst (λ (w : Writer). length (writer_changes w) < 2 ^ 62) (sym (writer_is t.network t.m.writer))
    (few_changes (core t).core t.roster (peer_at t.network t.m.writer.peer) t.m.writer.number (core t).stands (here t))

-- ---- what a round ends with

-- what the round answers
abbrev pub answer_of : {hearing : Hearing} → WorldKept hearing → Matched → ℕ → ℕ → List RoundReply → Round
answer_of old m from to replies = record {
  replies = replies;
  was_behind = m.pair.is_behind;
  unsent_before = old.unsent;
  last = m.pair.last;
  from = from;
  to = to;
}

-- it is excused, and has caught up where nobody has come or left, or is silent
abbrev IsExcusedSo : WorldState → WorldState → Endpoint → Endpoint → ℕ → Type 0
IsExcusedSo network after writer reader place =
    IsExcused network writer reader
    × (IsClosed (machine_of network) → NobodyIsSilent network
    → HasCaughtUp after writer reader place (length (writer_changes (writer_at (machine_of network) writer))))

-- what hindered it is shown without the place after it
abbrev EndsSo : {hearing : Hearing} → AllTests → Roster → WorldState → WorldKept hearing → Matched → ℕ
    → List WorldEvent → List RoundReply → WorldKept hearing
    → Type 0
EndsSo tests roster network old m place events replies new =
    (after : WorldState) × RuledRun roster tests network old.unsent events (replies_of replies) after new.unsent
    × StandsFor new roster after
    × (IsHindered network m.writer m.reader (answer_of old m place place replies)
    ⊎ (IsExcusedSo network after m.writer m.reader place
    ⊎ HasCaughtUp after m.writer m.reader place (length (writer_changes (writer_at (machine_of network) m.writer)))))

abbrev Ends : {hearing : Hearing} → Tick hearing → List WorldEvent → List RoundReply → WorldKept hearing → Type 0
Ends t events replies new = EndsSo t.tests t.roster t.network t.old t.m t.place events replies new

-- so it is where the reader was not behind, and the two stand as they did
abbrev Unhindered : {hearing : Hearing} → Tick hearing → WorldState → Type 0
Unhindered t after =
    IsExcusedSo t.network after t.m.writer t.m.reader t.place ⊎ HasCaughtUp after t.m.writer t.m.reader t.place (the_last t)

unhindered : {hearing : Hearing} → (t : Tick hearing) (after : WorldState)
    → LeavesPair t.network after t.m.writer t.m.reader → the_last t < acknowledged t → Unhindered t after
unhindered t after left past =
    ⊎_elim (λ none. inl (inr none.0, λ closed nobody. none.1 closed)) (λ caught. inr caught)
    (not_behind t.roster t.network after t.m.writer t.m.reader t.place (acknowledged t) t.s.sound t.s.bounded left
    (stands t) past)

-- ---- no HEARTBEAT was sent

-- a HEARTBEAT that was sent is found
beat_is_found : {hearing : Hearing} → (t : Tick hearing) → acknowledged t ≤ the_last t
    → heartbeats_used_at t.network t.m.writer < 2 ^ 31 - 1
    → HasNone (IsTo t.m.reader.peer (sought.Heartbeat t.m.pair.writer)) t.mid.sent (length t.old.sent)
    (length t.mid.sent) → ⊥
beat_is_found t behind left none =
    let beat =
    beats_are_sent t.roster t.tests t.m.writer t.m.reader (acknowledged t) t.m.moment t.network (after_tick t)
    (core t).stands.is_peer.is_roster t.s.used (row t) behind left (ruled0 t) in
    let name = own_name t.roster t.m.writer.peer (part t) (of t) t.m.writer.number (here t) in
    let has : Has beat.packet.bytes (sought.Heartbeat t.m.pair.writer) =
    subst (λ (e : EntityId). Has beat.packet.bytes (sought.Heartbeat e)) (sym t.known.writer)
    (beat_sought t.roster t.m.writer beat.packet.bytes beat.count _
    (writer_entity t.roster t.m.writer.peer t.m.writer.number) name.name beat.has) in
    among_none (IsTo t.m.reader.peer (sought.Heartbeat t.m.pair.writer)) t.old.sent
    (ruled0 t).packets t.mid.sent beat.packet (sent0 t) beat.among (beat.to, has) none

-- the reader is behind, as the answer says
told_behind : {hearing : Hearing} → (t : Tick hearing) → acknowledged t ≤ the_last t → t.m.pair.is_behind ≡ true
told_behind t behind =
    t.known.behind
    ∙ (ap (λ (o : Option ℕ). option_map_or (λ a. nat_le a (the_last t)) o false) (row t)
    ∙ is_le (acknowledged t) (the_last t) behind)
  where
    is_le : (a b : ℕ) → a ≤ b → nat_le a b ≡ true
    is_le a b le = grind (arith, nat_tests, le)

no_beat : {hearing : Hearing} → (t : Tick hearing)
    → HasNone (IsTo t.m.reader.peer (sought.Heartbeat t.m.pair.writer)) t.mid.sent (length t.old.sent)
    (length t.mid.sent)
    → Ends t (world.Tick t.m.writer.peer t.m.moment ∷ []) (t.ticked ∷ []) t.mid
no_beat t none = (
  noted_tick t,
  (after_tick t, t.mid.unsent, (w0 t).step, (refl, refl)),
  (w0 t).stands,
  ⊎_elim (λ past. inr (unhindered t (noted_tick t) ticked past))
      (λ behind.
      ⊎_elim (λ left. absurd (beat_is_found t behind left none))
      (λ used. inl (inr (inr (inr (inl (refl, told_behind t behind, used))))))
      (cases_lt (heartbeats_used_at t.network t.m.writer) (2 ^ 31 - 1)))
      (cases_lt (the_last t) (acknowledged t)),
)
  where
    ticked : LeavesPair t.network (noted_tick t) t.m.writer t.m.reader
    ticked =
        tick_leaves_pair t.network (noted_tick t) t.m.writer t.m.reader
        (λ p. leaves_ended t.network (world.Tick t.m.writer.peer t.m.moment) (after_tick t) p t.network
        (tick_leaves t.roster t.tests t.network t.m.writer.peer t.m.moment (after_tick t) (ruled0 t).step p))

-- ---- the HEARTBEAT was heard

-- its delivery, after such a tick
record Hear (hearing : Hearing) : Type 0 where
  t : Tick hearing
  beat : Delivered t.tests (IsTo t.m.reader.peer (sought.Heartbeat t.m.pair.writer)) (length t.old.sent)
      t.m.reader.peer t.old.unsent t.mid

w1 : {hearing : Hearing} → (h : Hear hearing) → Went h.t.tests h.t.roster (noted_tick h.t) h.t.mid
    (world.Deliver h.t.m.reader.peer h.beat.k) h.beat.reply.reply h.beat.mid
w1 h =
    went h.t.roster (noted_tick h.t) h.t.mid (world.Deliver h.t.m.reader.peer h.beat.k) h.beat.reply h.beat.mid
    h.beat.step (w0 h.t).stands

abbrev after_beat : {hearing : Hearing} → Hear hearing → WorldState
after_beat h = (w1 h).after

-- at its end
abbrev noted_beat : {hearing : Hearing} → Hear hearing → WorldState
noted_beat h = world_ended (noted_tick h.t) (world.Deliver h.t.m.reader.peer h.beat.k) (after_beat h)

hears : {hearing : Hearing} → (h : Hear hearing)
    → Delivers h.t.roster h.t.tests (noted_tick h.t) h.t.m.reader.peer h.beat.first.packet
    (w1 h).step.lost (after_beat h)
hears h = delivered h.beat (w0 h.t).stands (w1 h)

among1 : {hearing : Hearing} → (h : Hear hearing) → Contains (ruled0 h.t).packets h.beat.first.packet
among1 h = sent_since h.t.old.sent (ruled0 h.t).packets h.beat (sent0 h.t)

beat_has : {hearing : Hearing} → (h : Hear hearing)
    → (count : ℤ) × HasHeartbeat h.t.roster h.beat.first.packet.bytes h.t.m.writer count
beat_has h =
    beat_found h.t.roster h.t.tests h.t.network h.t.m.moment 0 (after_tick h.t) h.t.m.writer h.beat.first.packet
    (of h.t) (here h.t) (ruled0 h.t) (among1 h)
    (subst (λ (e : EntityId). Has h.beat.first.packet.bytes (sought.Heartbeat e)) h.t.known.writer h.beat.first.is.1)

begins : {hearing : Hearing} → (h : Hear hearing)
    → BeginsRound h.t.roster h.t.tests h.t.m.writer h.t.m.reader h.t.network (after_beat h)
begins h = record {
  now = h.t.m.moment;
  ticked = after_tick h.t;
  lost_beats = 0;
  ticks = ruled0 h.t;
  beat = h.beat.first.packet;
  beat_sent = among1 h;
  beat_to = h.beat.first.is.0;
  beat_count = (beat_has h).0;
  beat_of = (beat_has h).1;
  lost_asks = (w1 h).step.lost;
  hears = hears h;
}

begun : {hearing : Hearing} → Hear hearing → Begun
begun h =
    the_begun h.t.roster h.t.tests h.t.m.writer h.t.m.reader h.t.place (acknowledged h.t) h.t.network (after_beat h)
    (core h.t).stands.is_peer.is_roster h.t.s.sound h.t.s.used h.t.s.bounded (pair h.t).pair (stands h.t) (begins h)

none1 : {hearing : Hearing} → (h : Hear hearing) → (w1 h).step.lost ≡ 0
none1 h = nothing_lost h.beat (w1 h) h.t.same h.t.below

sent1 : {hearing : Hearing} → (h : Hear hearing) → h.beat.mid.sent ≡ h.t.mid.sent ++ (hears h).step.packets
sent1 h =
    sent_by h.t.roster (noted_tick h.t) h.t.mid (world.Deliver h.t.m.reader.peer (hears h).number) _ (w1 h).step.lost
    (after_beat h) h.beat.mid (w0 h.t).stands (w1 h).stands (hears h).step

-- the ACKNACK, as it is looked for
abbrev ask_of : {hearing : Hearing} → Hear hearing → Sought
ask_of h = sought.AckNack h.t.m.pair.reader h.t.m.pair.writer

ask_is : {hearing : Hearing} → (h : Hear hearing) → sought.AckNack (pair h.t).pair.reader_entity
    (writer_entity h.t.roster h.t.m.writer.peer h.t.m.writer.number) ≡ ask_of h
ask_is h =
    let r : h.t.m.pair.reader ≡ (pair h.t).pair.reader_entity =
    h.t.known.reader ∙ reader_entity_is h.t.roster _ (pair h.t).pair.reader_entity h.t.m.reader (pair h.t).pair.is_reader in
    let w = h.t.known.writer in cc

-- one that was sent, as the reader was told, is found
ask_is_found : {hearing : Hearing} → (h : Hear hearing) → Told (begun h)
    → acknacks_used_at h.t.network h.t.m.writer h.t.m.reader < 2 ^ 31 - 1
    → HasNone (IsTo h.t.m.writer.peer (ask_of h)) h.beat.mid.sent (length h.t.mid.sent) (length h.beat.mid.sent) → ⊥
unfolding begun begins w1 hears
ask_is_found h told left none =
    let last : the_last h.t ≡ length (writer_changes (own_writer (part h.t) h.t.m.writer.number)) =
    ap (λ (w : Writer). length (writer_changes w)) (writer_is h.t.network h.t.m.writer) in
    let small = few h.t in
    let ask = asks_found told (omega (arith, small, last)) left (none1 h) in
    among_none (IsTo h.t.m.writer.peer (ask_of h)) h.t.mid.sent (hears h).step.packets h.beat.mid.sent ask.0
    (sent1 h) ask.1 (ask.2, subst (λ (x : Sought). Has ask.0.bytes x) (ask_is h) ask.3) none

-- where no HEARTBEAT told it, it was not behind
told_nothing : {hearing : Hearing} → (h : Hear hearing) → Missed (begun h) → Unhindered h.t (noted_beat h)
unfolding begun begins w1 hears
told_nothing h missed =
    let last : the_last h.t ≡ length (writer_changes (own_writer (part h.t) h.t.m.writer.number)) =
    ap (λ (w : Writer). length (writer_changes w)) (writer_is h.t.network h.t.m.writer) in
    let past = missed.of.past (acknowledged h.t) (own_row h.t) in
    unhindered h.t (noted_beat h) (missed_leaves_pair (begun h) missed) (omega (arith, past, last))

no_ask : {hearing : Hearing} → (h : Hear hearing)
    → HasNone (IsTo h.t.m.writer.peer (ask_of h)) h.beat.mid.sent (length h.t.mid.sent) (length h.beat.mid.sent)
    → Ends h.t (world.Tick h.t.m.writer.peer h.t.m.moment ∷ world.Deliver h.t.m.reader.peer h.beat.k ∷ [])
    (h.t.ticked ∷ h.beat.reply ∷ []) h.beat.mid
no_ask h none = (
  noted_beat h,
  (after_tick h.t, h.t.mid.unsent, (w0 h.t).step, (after_beat h, h.beat.mid.unsent, (w1 h).step, (refl, refl))),
  (w1 h).stands,
  ⊎_elim
      (λ told. inl
      (⊎_elim (λ left. absurd (ask_is_found h told left none)) (λ used. inr (inr (inr (inr (refl, used)))))
      (cases_lt (acknacks_used_at h.t.network h.t.m.writer h.t.m.reader) (2 ^ 31 - 1))))
      (λ missed. inr (told_nothing h missed)) (met (begun h)),
)

-- ---- the ACKNACK was taken

-- its delivery, after that of the HEARTBEAT
record Ask (hearing : Hearing) : Type 0 where
  h : Hear hearing
  ask : Delivered h.t.tests (IsTo h.t.m.writer.peer (ask_of h)) (length h.t.mid.sent) h.t.m.writer.peer h.t.old.unsent
      h.beat.mid

w2 : {hearing : Hearing} → (a : Ask hearing) → Went a.h.t.tests a.h.t.roster (noted_beat a.h) a.h.beat.mid
    (world.Deliver a.h.t.m.writer.peer a.ask.k) a.ask.reply.reply a.ask.mid
w2 a =
    went a.h.t.roster (noted_beat a.h) a.h.beat.mid (world.Deliver a.h.t.m.writer.peer a.ask.k) a.ask.reply
    a.ask.mid a.ask.step (w1 a.h).stands

abbrev after_ask : {hearing : Hearing} → Ask hearing → WorldState
after_ask a = (w2 a).after

-- at its end
abbrev noted_ask : {hearing : Hearing} → Ask hearing → WorldState
noted_ask a = world_ended (noted_beat a.h) (world.Deliver a.h.t.m.writer.peer a.ask.k) (after_ask a)

takes : {hearing : Hearing} → (a : Ask hearing)
    → Delivers a.h.t.roster a.h.t.tests (noted_beat a.h) a.h.t.m.writer.peer a.ask.first.packet 0
    (after_ask a)
takes a =
    subst (λ (n : ℕ). Delivers a.h.t.roster a.h.t.tests (noted_beat a.h) a.h.t.m.writer.peer a.ask.first.packet n
    (after_ask a)) (nothing_lost a.ask (w2 a) a.h.beat.same a.h.t.below) (delivered a.ask (w1 a.h).stands (w2 a))

among2 : {hearing : Hearing} → (a : Ask hearing) → Contains (hears a.h).step.packets a.ask.first.packet
among2 a = sent_since a.h.t.mid.sent (hears a.h).step.packets a.ask (sent1 a.h)

ask_has : {hearing : Hearing} → (a : Ask hearing)
    → (count : ℤ) × HasAckNack a.h.t.roster a.ask.first.packet.bytes a.h.t.m.writer a.h.t.m.reader count
unfolding begun begins hears
ask_has a =
    ask_found_among (begun a.h) a.ask.first.packet (among2 a)
    (subst (λ (x : Sought). Has a.ask.first.packet.bytes x) (sym (ask_is a.h)) a.ask.first.is.1)

asks : {hearing : Hearing} → (a : Ask hearing)
    → AsksInRound a.h.t.roster a.h.t.tests a.h.t.m.writer a.h.t.m.reader a.h.t.network (after_ask a)
unfolding begins hears
asks a = record {
  heard = after_beat a.h;
  begins = begins a.h;
  ask = a.ask.first.packet;
  ask_sent = among2 a;
  ask_count = (ask_has a).0;
  ask_of = (ask_has a).1;
  answers = takes a;
}

abbrev answers : {hearing : Hearing} → Ask hearing → List Packet
answers a = (takes a).step.packets

sent2 : {hearing : Hearing} → (a : Ask hearing) → a.ask.mid.sent ≡ a.h.beat.mid.sent ++ answers a
sent2 a =
    sent_by a.h.t.roster (noted_beat a.h) a.h.beat.mid (world.Deliver a.h.t.m.writer.peer (takes a).number) _ 0
    (after_ask a) a.ask.mid (w1 a.h).stands (w2 a).stands (takes a).step

-- the deliveries of all of them
abbrev deliveries : {hearing : Hearing} → Ask hearing → List WorldEvent
deliveries a =
    map (λ k. world.Deliver a.h.t.m.reader.peer k) (numbers_from (length a.h.beat.mid.sent + 1) (length (answers a)))

-- 256 packets are enough for them
enough : (most count : ℕ) → count ≤ packets_for most → count ≤ 256
enough most count few = by (nat_le most 1024) few
  where
    by : (b : Bool) → count ≤ (if b then 32 else 256) → count ≤ 256
    by true h = omega (arith, h)
    by false h = h

-- the events after the ACKNACK are those
all_answers : {hearing : Hearing} → (a : Ask hearing) → answers_at a.h.t.m.reader.peer (length a.h.beat.mid.sent)
    (length a.ask.mid.sent)
    ≡ deliveries a
unfolding asks
all_answers a =
    let c = a.h.t in
    let few =
    answers_are_few c.roster a.h.t.tests c.m.writer c.m.reader c.place (acknowledged c) c.network (after_ask a)
    (core c).stands.is_peer.is_roster c.s.sound c.s.used c.s.bounded (pair c).pair (stands c) (asks a) in
    let most : length (answers a) ≤ 256 = enough (writer_at (machine_of c.network) c.m.writer).max_value _ few in
    let size = ap (λ (ps : List Packet). length ps) (sent2 a) in
    let parts = length-append a.h.beat.mid.sent (answers a) in
    let count : min 256 (length a.ask.mid.sent - length a.h.beat.mid.sent) ≡ length (answers a) =
    omega (arith, most, size, parts) in
    ap (λ (n : ℕ). map (λ k. world.Deliver c.m.reader.peer k) (numbers_from (length a.h.beat.mid.sent + 1) n)) count

answered : {hearing : Hearing} → (a : Ask hearing) (later : List WorldEvent) (rest : List RoundReply)
    (new : WorldKept hearing) → are_whole rest ≡ true
    → Answering a.h.t.tests a.h.t.m.reader.peer (length a.h.beat.mid.sent) a.ask.mid later rest new
    → Ends a.h.t (world.Tick a.h.t.m.writer.peer a.h.t.m.moment ∷ world.Deliver a.h.t.m.reader.peer a.h.beat.k
    ∷ world.Deliver a.h.t.m.writer.peer a.ask.k ∷ later) (a.h.t.ticked ∷ a.h.beat.reply ∷ a.ask.reply ∷ rest) new
unfolding asks
answered {hearing} a later rest new whole next = (
  all.after,
  (
    after_tick c,
    c.mid.unsent,
    (w0 c).step,
    (after_beat a.h, a.h.beat.mid.unsent, (w1 a.h).step, (after_ask a, a.ask.mid.unsent, (w2 a).step, run)),
  ),
  all.stands,
  inr (inr (pair_catches_up c.roster a.h.t.tests c.m.writer c.m.reader c.place (acknowledged c) c.network all.after
      (core c).stands.is_peer.is_roster c.s.sound c.s.used c.s.bounded (pair c).pair (stands c) c.spoken round)),
)
  where
    c : Tick hearing
    c = a.h.t

    steps : AreSteps a.h.t.tests a.ask.mid (deliveries a) rest new
    steps = subst (λ (es : List WorldEvent). AreSteps a.h.t.tests a.ask.mid es rest new) (next.0 ∙ all_answers a) next.1

    at : (k : ℕ) (p : Packet) → slice_get (answers a) k ≡ Some p
        → slice_get a.ask.mid.sent (length a.h.beat.mid.sent + 1 + k - 1) ≡ Some p
    at k p is =
        let index : length a.h.beat.mid.sent + k ≡ length a.h.beat.mid.sent + 1 + k - 1 = omega arith in
        subst (λ (i : ℕ). slice_get a.ask.mid.sent i ≡ Some p) index
        (subst (λ (ps : List Packet). slice_get ps (length a.h.beat.mid.sent + k) ≡ Some p) (sym (sent2 a))
        (get_later a.h.beat.mid.sent (answers a) k p is))

    all : Ran a.h.t.tests c.roster (noted_ask a) a.ask.mid (deliveries a) rest new
        (λ x. DeliversAll c.roster a.h.t.tests (noted_ask a) c.m.reader.peer (answers a) x)
    all =
        deliver_all c.roster c.m.reader.peer (length a.h.beat.mid.sent + 1) (answers a) (noted_ask a) a.ask.mid rest new
        (omega arith) at whole steps (w2 a).stands

    run : RuledRun c.roster a.h.t.tests (noted_ask a) a.ask.mid.unsent later (replies_of rest) all.after new.unsent
    run =
        subst (λ (es : List WorldEvent). RuledRun c.roster a.h.t.tests (noted_ask a) a.ask.mid.unsent es
        (replies_of rest) all.after new.unsent) (sym (next.0 ∙ all_answers a)) all.run

    round : IsRepairRound c.roster a.h.t.tests c.m.writer c.m.reader c.network all.after
    round = record { asked = after_ask a; asks = asks a; repairs = all.then }

-- ---- the stages

-- a round whose HEARTBEAT was heard ends so
after_hearing : {hearing : Hearing} → (h : Hear hearing) (events : List WorldEvent) (replies : List RoundReply)
    (new : WorldKept hearing)
    → are_whole replies ≡ true → new.unsent ≤ h.t.old.unsent → h.t.old.unsent ≤ h.beat.mid.unsent
    → Acknowledging h.t.tests h.t.m (length h.t.mid.sent) h.beat.mid events replies new
    → Ends h.t (world.Tick h.t.m.writer.peer h.t.m.moment ∷ world.Deliver h.t.m.reader.peer h.beat.k ∷ events)
    (h.t.ticked ∷ h.beat.reply ∷ replies) new
after_hearing h events replies new whole same more next =
    stage_delivers h.t.roster (noted_beat h) (IsTo h.t.m.writer.peer (ask_of h)) (length h.t.mid.sent)
    h.t.m.writer.peer h.t.old.unsent (Answering h.t.tests h.t.m.reader.peer (length h.beat.mid.sent)) h.beat.mid events
    replies new
    (λ es rs n. Ends h.t (world.Tick h.t.m.writer.peer h.t.m.moment ∷ world.Deliver h.t.m.reader.peer h.beat.k ∷ es)
    (h.t.ticked ∷ h.beat.reply ∷ rs) n) (w1 h).stands same more (λ mid es rs a. a.1) (no_ask h)
    (λ ask later rest all above a. answered (record { h = h; ask = ask }) later rest new all a) next whole

-- a round after such a tick ends so
after_ticking : {hearing : Hearing} → (t : Tick hearing) (events : List WorldEvent) (replies : List RoundReply)
    (new : WorldKept hearing)
    → are_whole replies ≡ true → new.unsent ≤ t.old.unsent → t.old.unsent ≤ t.mid.unsent
    → Beating t.tests t.m (length t.old.sent) t.mid events replies new
    → Ends t (world.Tick t.m.writer.peer t.m.moment ∷ events) (t.ticked ∷ replies) new
after_ticking t events replies new whole same more next =
    stage_delivers t.roster (noted_tick t) (IsTo t.m.reader.peer (sought.Heartbeat t.m.pair.writer))
    (length t.old.sent) t.m.reader.peer t.old.unsent (Acknowledging t.tests t.m (length t.mid.sent)) t.mid events
    replies new (λ es rs n. Ends t (world.Tick t.m.writer.peer t.m.moment ∷ es) (t.ticked ∷ rs) n) (w0 t).stands same
    more (λ mid es rs a. acks_steps t.m (length t.mid.sent) mid es rs new a) (no_beat t)
    (λ beat later rest all above a. after_hearing (record { t = t; beat = beat }) later rest new all same above a) next
    whole

-- ---- the round

ends : {hearing : Hearing} → {tests : AllTests} → (old : WorldKept hearing) (m : Matched) (ticked : RoundReply)
    (mid : WorldKept hearing)
    (events : List WorldEvent) (replies : List RoundReply) (new : WorldKept hearing) → IsKnown old m
    → IsStep tests old (world.Tick m.writer.peer m.moment) ticked mid
    → Beating tests m (length old.sent) mid events replies new
    → (roster : Roster) (network : WorldState) (place : ℕ) → StandsFor old roster network
    → place_at (machine_of network) m.reader m.writer ≡ Some place
    → true ≡ is_attached (how_of (own_proxies (part_at (machine_of network) m.reader.peer) m.reader.number) m.writer)
    → EndsSo tests roster network old m place (world.Tick m.writer.peer m.moment ∷ events) (ticked ∷ replies) new
ends {hearing} {tests} old m ticked mid events replies new known tick beats roster network place s at here =
    by (is_silent network m) refl
  where
    steps : AreSteps tests mid events replies new
    steps = beats_steps m (length old.sent) mid events replies new beats

    all : Ran tests roster network old (world.Tick m.writer.peer m.moment ∷ events) (ticked ∷ replies) new
        (λ x. Unit {0})
    all =
        ran roster network old (world.Tick m.writer.peer m.moment ∷ events) (ticked ∷ replies) new (mid, tick, steps) s

    hindered : IsHindered network m.writer m.reader (answer_of old m place place (ticked ∷ replies))
        → EndsSo tests roster network old m place (world.Tick m.writer.peer m.moment ∷ events) (ticked ∷ replies) new
    hindered why = (all.after, all.run, all.stands, inl why)

    excused : is_silent network m ≡ true
        → EndsSo tests roster network old m place (world.Tick m.writer.peer m.moment ∷ events) (ticked ∷ replies) new
    excused is =
        let nobody_so : NobodyIsSilent network → ⊥ = λ nobody. let no = sym is ∙ nobody m.writer m.reader in cc in
        (all.after, all.run, all.stands, inr (inl (inl is, λ closed nobody. absurd (nobody_so nobody))))

    good : is_silent network m ≡ false → are_whole (ticked ∷ replies) ≡ true → new.unsent ≤ old.unsent
        → old.unsent < 2 ^ 64 - 1
        → EndsSo tests roster network old m place (world.Tick m.writer.peer m.moment ∷ events) (ticked ∷ replies) new
    good spoken whole same below =
        let w =
        first_whole roster network old (world.Tick m.writer.peer m.moment) ticked mid events replies new old.unsent
        tick steps s whole same (omega arith) in
        let t : Tick hearing = record {
          tests = tests;
          roster = roster;
          network = network;
          old = old;
          mid = mid;
          m = m;
          place = place;
          ticked = ticked;
          s = s;
          at = at;
          attached = sym here;
          known = known roster network s;
          step = tick;
          whole = w.whole;
          same = w.same;
          below = below;
          spoken = spoken;
        } in
        after_ticking t events replies new w.rest same w.more beats

    all_sent : is_silent network m ≡ false → are_whole (ticked ∷ replies) ≡ true → (b : Bool)
        → has_unsent old.unsent (ticked ∷ replies) ≡ b
        → EndsSo tests roster network old m place (world.Tick m.writer.peer m.moment ∷ events) (ticked ∷ replies) new
    all_sent spoken whole true e = hindered (inr (inl e))
    all_sent spoken whole false e =
        let same =
        unsent_shown tests old.unsent old (world.Tick m.writer.peer m.moment ∷ events) (ticked ∷ replies) new
        (mid, tick, steps) (omega arith) e in
        ⊎_elim (λ below. good spoken whole same below) (λ full. hindered (inr (inr (inl full))))
        (cases_lt old.unsent (2 ^ 64 - 1))

    all_whole : is_silent network m ≡ false → (b : Bool) → are_whole (ticked ∷ replies) ≡ b
        → EndsSo tests roster network old m place (world.Tick m.writer.peer m.moment ∷ events) (ticked ∷ replies) new
    all_whole spoken false e = hindered (inl e)
    all_whole spoken true e = all_sent spoken e (has_unsent old.unsent (ticked ∷ replies)) refl

    by : (b : Bool) → is_silent network m ≡ b
        → EndsSo tests roster network old m place (world.Tick m.writer.peer m.moment ∷ events) (ticked ∷ replies) new
    by true e = excused e
    by false e = all_whole e (are_whole (ticked ∷ replies)) refl

-- a reader that has a place keeps one
still_there : (o : Option ℕ) (from : ℕ) → IsAtMost from o → o ≡ Some (unwrap_or o from)
still_there (Some to) from h = refl
still_there None from h = absurd h

rounds_of : {hearing : Hearing} → {tests : AllTests} → (old : WorldKept hearing) (m : Matched) (ticked : RoundReply)
    (mid : WorldKept hearing)
    (events : List WorldEvent) (replies : List RoundReply) (new : WorldKept hearing)
    (from : ℕ) (to : Option ℕ) → IsKnown old m → IsStep tests old (world.Tick m.writer.peer m.moment) ticked mid
    → Beating tests m (length old.sent) mid events replies new
    → IsPlace old m.reader m.writer (Some from) → IsMatchedSo old m.reader m.writer true
    → IsPlace new m.reader m.writer to
    → Rounds tests old m.writer m.reader (answer_of old m from (unwrap_or to from) (ticked ∷ replies)) new
rounds_of {tests} old m ticked mid events replies new from to known tick beats from_is here to_is = record {
  events = world.Tick m.writer.peer m.moment ∷ events;
  steps = (mid, tick, beats_steps m (length old.sent) mid events replies new beats);
  round = λ roster network s.
      let k = known roster network s in
      let before : place_at (machine_of network) m.reader m.writer ≡ Some from = sym (from_is roster network s) in
      let end = ends old m ticked mid events replies new known tick beats roster network from s before
      (here roster network s) in
      let all : List WorldEvent = world.Tick m.writer.peer m.moment ∷ events in
      let no_less =
      places_after roster tests network old.unsent all
      (replies_of (ticked ∷ replies)) end.0 new.unsent end.1 m.reader m.writer in
      let at_most = subst (λ (o : Option ℕ). NoLess o (place_at (machine_of end.0) m.reader m.writer)) before no_less in
      let after : to ≡ place_at (machine_of end.0) m.reader m.writer = to_is roster end.0 end.2 in
      let there : to ≡ Some (unwrap_or to from) =
      still_there to from (subst (λ (o : Option ℕ). IsAtMost from o) (sym after) at_most) in
      record {
        is_round = round_is old m ticked mid events replies new known tick beats roster network s;
        after = end.0;
        run = end.1;
        stands = end.2;
        was_behind = k.behind;
        unsent_before = refl;
        last = k.last;
        from = before;
        to = sym after ∙ there;
        caught_up =
            subst (λ (n : ℕ). IsHindered network m.writer m.reader (answer_of old m from from (ticked ∷ replies))
            ⊎ (IsExcused network m.writer m.reader ⊎ HasCaughtUp end.0 m.writer m.reader from n))
            (sym k.last)
            (⊎_elim (λ why. inl why) (λ o. inr (⊎_elim (λ e. inl e.0) (λ caught. inr caught) o)) end.3);
        closed = λ closed nobody.
            subst (λ (n : ℕ). IsHindered network m.writer m.reader (answer_of old m from from (ticked ∷ replies))
            ⊎ HasCaughtUp end.0 m.writer m.reader from n)
            (sym k.last)
            (⊎_elim (λ why. inl why) (λ o. inr (⊎_elim (λ e. e.1 closed nobody) (λ caught. caught) o)) end.3);
      };
}

pub rounds_are : {hearing : Hearing} → {tests : AllTests}
    → (old : WorldKept hearing) (writer reader : Endpoint) (m : Matched) (ticked : RoundReply) (mid : WorldKept hearing)
    (replies all : List RoundReply) (new : WorldKept hearing)
    (events : List WorldEvent) (from : ℕ) (to : Option ℕ) → m.writer ≡ writer → m.reader ≡ reader
    → all ≡ ticked ∷ replies → IsKnown old m
    → IsStep tests old (world.Tick m.writer.peer m.moment) ticked mid
    → Beating tests m (length old.sent) mid events replies new
    → IsPlace old reader writer (Some from) → IsMatchedSo old reader writer true → IsPlace new reader writer to
    → Rounds tests old writer reader (answer_of old m from (unwrap_or to from) all) new
rounds_are {tests} old writer reader m ticked mid replies all new events from to w r is known tick beats =
    subst (λ (e : Endpoint). IsPlace old reader e (Some from) → IsMatchedSo old reader e true → IsPlace new reader e to
    → Rounds tests old e reader (answer all) new) w
    (subst (λ (e : Endpoint). IsPlace old e m.writer (Some from) → IsMatchedSo old e m.writer true
    → IsPlace new e m.writer to → Rounds tests old m.writer e (answer all) new) r
    (subst (λ (rs : List RoundReply). IsPlace old m.reader m.writer (Some from)
    → IsMatchedSo old m.reader m.writer true → IsPlace new m.reader m.writer to
    → Rounds tests old m.writer m.reader (answer rs) new) (sym is)
    (λ from_is here to_is. rounds_of old m ticked mid events replies new from to known tick beats from_is here to_is)))
  where
    answer : List RoundReply → Round
    answer rs = answer_of old m from (unwrap_or to from) rs
