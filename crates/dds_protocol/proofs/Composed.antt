-- Steps of peers, on claims that are true, are steps of the machine, and leave the claims true.
use Rattle.std.proofs.Common.{◌≡◌, ◌⊎◌, ℕ, ℤ, zero, suc, ◌+◌, ◌-◌, ◌<◌, ◌≤◌, List, [], ◌∷◌, ◌++◌, Option, None, Some, true, Contains, subst, ap, sym, refl, ◌∙◌, inl, inr, ⊎_elim, arith, length, slice_get}
use Rattle.std.specs.Prelude.{slice_index_or}
use Rattle.std.proofs.lemmas.List.{length-map}
use Rattle.std.proofs.lemmas.Option.{same_Some, slice_get_within}
use Rattle.std.proofs.lemmas.List.Elements.{Contains-append_cases}
use Rattle.dds_base.specs.declared.change.Change.{Change}
use Rattle.dds_base.specs.declared.code.Code.{Code}
use Rattle.dds_protocol.specs.Roster.{Roster}
use Rattle.dds_base.specs.declared.qos.ReaderQos.{ReaderQos}
use Rattle.dds_base.specs.Places.{WriterGrounds, MayPassOver}
use Rattle.dds_base.specs.Kept.{change_at, is_dropped}
use Rattle.dds_base.specs.Matched.{is_reliable}
use Rattle.dds_base.specs.declared.endpoint.Endpoint.{Endpoint}
use Rattle.dds_protocol.specs.declared.event.Event.{Event}
use Rattle.dds_protocol.specs.declared.event.Event.TheVariants as event
use Rattle.dds_protocol.specs.declared.event.Output.{Output}
use Rattle.dds_protocol.specs.declared.event.Packet.{Packet}
use Rattle.dds_machine.specs.declared.event.WorldEvent.{WorldEvent}
use Rattle.dds_machine.specs.declared.event.WorldEvent.TheVariants as world
use Rattle.dds_machine.specs.declared.reply.Move.{Move}
use Rattle.dds_machine.specs.declared.reply.Move.TheVariants.{Place, Acknowledged, Heard, Begun as HasBegun, Strange}
use Rattle.dds_base.specs.declared.guid.GuidPrefix.{GuidPrefix}
use Rattle.rtps_wire.specs.declared.submessage.Submessage.{Submessage}
use Rattle.rtps_wire.specs.declared.submessage.Submessage.TheVariants.{Heartbeat, Gap}
use Rattle.dds_base.specs.declared.guid.EntityId.{EntityId}
use Rattle.dds_machine.specs.declared.reply.Report.{Report}
use Rattle.dds_machine.specs.declared.reply.Reply.{Reply}
use Rattle.dds_machine.specs.declared.reply.Reply.TheVariants.{Refused, Reported}
use Rattle.dds_machine.specs.Numbered.{with_numbered, HasNumber}
use Rattle.dds_machine.specs.Part.{Writer, WriterProxy, Part, no_part, no_writer, own_writer, own_proxies, own_reader, acknowledged_of, with_acknowledged, owed_from, place_of, writer_changes, history_of, is_assertion, IsBelow, IsAtMost, IsCovered, NoLess}
use Rattle.dds_base.proofs.PlaceLaws.{SayAsMuch, goes_on}
use Rattle.dds_machine.specs.Moves.{Grounds, as_to, match_of, position_at, IsMove, AreMoves, DeliveryStep, ResumeStep}
use Rattle.dds_protocol.specs.Receipt.{HasNoRoom, MovesOver, TakesUp, Receives}
use Rattle.dds_protocol.specs.Progress.{ReceivesIn, Progresses}
use Rattle.dds_machine.specs.Ticks.{TickStep}
use Rattle.dds_machine.specs.Calls.{CallStep}
use Rattle.dds_machine.specs.Matching.{Telling, TellStep}
use Rattle.dds_machine.specs.Watching.{Tests}
use Rattle.dds_protocol.specs.Claims.{Receiver, after_submessage, receiver_of, IsToReliable, Says, Claim, ChangeIs, MayPass, PlaceReached, Asserts, Claims, Claimed}
use Rattle.dds_protocol.specs.DueMessages.{was_asked}
use Rattle.dds_protocol.specs.Peer.{Peer, Delivery, PeerStep, EventStep, no_peer, claimed, claimed_by, packets_of, IsTrueAt}
use Rattle.dds_machine.specs.Machine.{Machine, AllTests, part_at, writer_at, place_at, grounds_of, AtPeer, Step, IsRefused}
use Rattle.dds_protocol.specs.World.{WorldState, peer_at, machine_of, PeerSteps, IsRefusedIn, WorldStep, Holds, Sound}
use Rattle.dds_machine.proofs.Tables.{numbered-cases, numbered-map, numbered-same, map-with_numbered, length-with_numbered, no_less_same, no_less_on, below_on}
use Rattle.dds_protocol.proofs.Owing.{Covered, covered_on, covered_same, covered_acknowledged}
use Rattle.dds_protocol.proofs.Told.{telling_covered, told_so, untold_or_told}
use Rattle.dds_protocol.proofs.Policies.{call_qos, tick_qos, delivery_qos, moves_qos}
use Rattle.dds_protocol.proofs.Resumed.{as_moves}
use Rattle.dds_protocol.proofs.Growth.{Grows, IsMove-grows, AreMoves-grows, DeliveryStep-grows, CallStep-grows, CallStep-readers, TickStep-acknowledged, TickStep-grows, MachineGrows, with_part, with_part-grows, Holds-grows}

abbrev pub AllHold : Roster → Machine → List (List ℕ) → Type 0
AllHold roster m packets =
    (bytes : List ℕ) (claim : Claim) → Contains packets bytes → Claims roster bytes claim → Holds m claim

abbrev pub at : ℕ → ℕ → Endpoint
at peer number = record { peer = peer; number = number }

holds_claimed : (roster : Roster) (m : Machine) (packets : List (List ℕ)) → AllHold roster m packets → (c : Claim)
    → Claimed roster packets c → Holds m c
holds_claimed roster m packets all c h = all h.packet c h.among h.claims

-- each reader of the peers that are there is as reliable as the roster says
abbrev pub KeepsPolicies : Roster → Machine → Type 0
KeepsPolicies roster m =
    (reader : Endpoint) (entity : EntityId) → HasNumber m.parts reader.peer → roster.readers reader ≡ Some entity
    → is_reliable (own_reader (part_at m reader.peer) reader.number).qos.reliability ≡ roster.is_reliable reader

-- the reader, of which a packet says what it may pass over, is a reliable one, and is told of a change's number
abbrev IsTold : Machine → Endpoint → ℕ → Type 0
IsTold m r n = (is_reliable (own_reader (part_at m r.peer) r.number).qos.reliability ≡ true) × (1 ≤ n)

reliable_one : (roster : Roster) (m : Machine) → KeepsPolicies roster m → (own : GuidPrefix) (receiver : Receiver)
    (reader_id writer_id : EntityId) (w r : Endpoint) → HasNumber m.parts r.peer
    → IsToReliable roster own receiver reader_id writer_id w r
    → is_reliable (own_reader (part_at m r.peer) r.number).qos.reliability ≡ true
reliable_one roster m keeps own receiver reader_id writer_id w r there h =
    keeps r h.is_to.entity there h.is_to.to.at_reader ∙ h.reliable

is_told : (roster : Roster) (m : Machine) → KeepsPolicies roster m → (own : GuidPrefix) (receiver : Receiver)
    (s : Submessage) (w r : Endpoint) (n : ℕ) → HasNumber m.parts r.peer → Says roster own receiver s (MayPass w r n)
    → IsTold m r n
is_told roster m keeps own receiver (Gap g) w r n there h =
    (reliable_one roster m keeps own receiver g.reader_id g.writer_id w r there h.0, h.1)
is_told roster m keeps own receiver (Heartbeat g) w r n there h =
    (reliable_one roster m keeps own receiver g.reader_id g.writer_id w r there h.0, h.1)
is_told roster m keeps own receiver s w r n there h = absurd h

told_claimed : (roster : Roster) (m : Machine) (packets : List (List ℕ)) → KeepsPolicies roster m → (w r : Endpoint)
    (n : ℕ) → HasNumber m.parts r.peer → Claimed roster packets (MayPass w r n) → IsTold m r n
told_claimed roster m packets keeps w r n there h =
    is_told roster m keeps h.claims.own h.claims.at h.claims.submessage w r n there h.claims.says

-- what a delivery rests on at the peer of this number is true
record AreTrue (m : Machine) (i : ℕ) (g : Grounds) : Type 0 where
  change : (w : Endpoint) (r n : ℕ) (c : Change) → g.is_change w r n c → Holds m (ChangeIs w (at i r) n c)
  pass : (w : Endpoint) (r n : ℕ) → g.may_pass w r n → Holds m (MayPass w (at i r) n)
  told : (w : Endpoint) (r n : ℕ) → g.may_pass w r n → IsTold m (at i r) n
  place : (w : ℕ) (r : Endpoint) (base : ℕ) → g.has_place w r base → Holds m (PlaceReached (at i w) r base)
  hear : (w : Endpoint) (r : ℕ) (count : ℤ) → g.may_hear w r count → Holds m (Asserts w (at i r) count)

claimed-true : (roster : Roster) (m : Machine) (i : ℕ) (before : List Delivery) (packet : List ℕ)
    (rows : List (List WriterProxy)) (index : ℕ)
    → HasNumber m.parts i → KeepsPolicies roster m → AllHold roster m (packet ∷ packets_of before)
    → AreTrue m i (claimed roster before packet rows i index)
claimed-true roster m i before packet rows index there keeps all = record {
  change = λ w r n c h. holds_claimed roster m (packet ∷ packets_of before) all (ChangeIs w (at i r) n c) h;
  pass = λ w r n h. holds_claimed roster m (packet ∷ packets_of before) all (MayPass w (at i r) n) h;
  told = λ w r n h. told_claimed roster m (packet ∷ packets_of before) keeps w (at i r) n there h;
  place = λ w r base h. holds_claimed roster m (packet ∷ packets_of before) all (PlaceReached (at i w) r base) h;
  hear = λ w r count h. holds_claimed roster m (packet ∷ packets_of before) all (Asserts w (at i r) count) h.0;
}

-- so is what places that are tried again rest on
claimed_by-true : (roster : Roster) (m : Machine) (i : ℕ) (packets : List (List ℕ)) → HasNumber m.parts i
    → KeepsPolicies roster m → AllHold roster m packets → AreTrue m i (claimed_by roster packets i)
claimed_by-true roster m i packets there keeps all = record {
  change = λ w r n c h. holds_claimed roster m packets all (ChangeIs w (at i r) n c) h;
  pass = λ w r n h. holds_claimed roster m packets all (MayPass w (at i r) n) h;
  told = λ w r n h. told_claimed roster m packets keeps w (at i r) n there h;
  place = λ w r base h. holds_claimed roster m packets all (PlaceReached (at i w) r base) h;
  hear = λ w r count h. absurd h;
}

-- a place goes on over true claims as the machine's does

-- from the reader's place on, what is true says as much as what a delivery rests on: a change that it may pass over
-- is not one that it has passed
says_as_much : (m : Machine) (i : ℕ) (g : Grounds) → AreTrue m i g → (w : Endpoint) (r place : ℕ)
    → NoLess (place_at m (at i r) w) (Some place) → SayAsMuch (as_to g w r) (as_to (grounds_of m i) w r) place
says_as_much m i g t w r place low = record {
  is_change = λ n c above h. t.change w r n c h;
  may_pass = λ n above h.
      ⊎_elim (λ d. inl d)
      (λ o.
      ⊎_elim
      (λ below. let told = t.told w r n h in inr (record { reliable = told.0; from = told.1; below = below }))
      (λ past. let under : n < place = below_on n (place_at m (at i r) w)
      (Some place) past low in absurd (omega (arith, under, above))) o)
      (t.pass w r n h);
}

-- what may be passed over on some grounds may be on grounds that say as much
pub passed_over_on : (g k : WriterGrounds) (from : ℕ) → SayAsMuch g k from → (qos : ReaderQos) (n : ℕ) → from ≤ n
    → MayPassOver g qos n → MayPassOver k qos n
passed_over_on g k from m qos n low (inl h) = inl (m.may_pass n low h)
passed_over_on g k from m qos n low (inr h) =
    let before = h.1.before in
    inr (
      h.0,
      record {
        later = h.1.later;
        change = h.1.change;
        is_change = m.is_change h.1.later h.1.change (omega (arith, low, before)) h.1.is_change;
        before = h.1.before;
      },
    )

-- moves on true claims are moves of the machine
abbrev IsAbove : Machine → ℕ → Part → Type 0
IsAbove m i part = (r : ℕ) (w : Endpoint) → NoLess (place_at m (at i r) w) (place_of (own_proxies part r) w)

sound_move : (m : Machine) (i : ℕ) (g : Grounds) → AreTrue m i g → (old : Part) (mv : Move) (new : Part)
    → IsAbove m i old → IsMove g old mv new → IsMove (grounds_of m i) old mv new
sound_move m i g t old (Place w r to passed) new low h =
    let from : NoLess (place_at m (at i r) w) (Some h.place) =
    subst (λ (o : Option ℕ). NoLess (place_at m (at i r) w) o) h.matched.at (low r w) in
    record {
      publication = h.publication;
      place = h.place;
      matched = h.matched;
      forward = h.forward;
      end = h.end;
      goes =
          goes_on (as_to g w r) (as_to (grounds_of m i) w r) h.place (says_as_much m i g t w r h.place from)
          (match_of old r h.publication) (position_at old r h.place) passed to h.end (omega arith) h.goes;
      after = h.after;
    }
sound_move m i g t old (Acknowledged w r to) new low h = record {
  acknowledged = h.acknowledged;
  matched = h.matched;
  forward = h.forward;
  has_place = t.place w r to h.has_place;
  after = h.after;
}
sound_move m i g t old (Strange w r) new low h = record {
  acknowledged = h.acknowledged;
  matched = h.matched;
  base = h.base;
  has_place = t.place w r h.base h.has_place;
  beyond = h.beyond;
  after = h.after;
}
sound_move m i g t old (HasBegun w r from to) new low h =
    let least : NoLess (place_at m (at i r) w) (Some from) =
    subst (λ (o : Option ℕ). NoLess (place_at m (at i r) w) o) h.at (low r w) in
    record {
      waits = h.waits;
      at = h.at;
      no_less = h.no_less;
      may_pass = λ n above under.
          passed_over_on (as_to g w r) (as_to (grounds_of m i) w r) from (says_as_much m i g t w r from least)
          (own_reader old r).qos n above (h.may_pass n above under);
      after = h.after;
    }
sound_move m i g t old (Heard w r) new low h = record {
  publication = h.publication;
  matched = h.matched;
  here = h.here;
  heard = h.heard;
  last = h.last;
  count = h.count;
  later = h.later;
  may_hear = t.hear w r h.count h.may_hear;
  after = h.after;
}

above_grown : (m : Machine) (i : ℕ) (old new : Part) → IsAbove m i old → Grows old.rtps new.rtps → IsAbove m i new
above_grown m i old new low g r w =
    no_less_on (place_at m (at i r) w) (place_of (own_proxies old r) w) (place_of (own_proxies new r) w) (low r w)
    (g.places r w)

sound_moves : (m : Machine) (i : ℕ) (g : Grounds) → AreTrue m i g → (old : Part) (ms : List Move) (new : Part)
    → IsAbove m i old → AreMoves g old ms new → AreMoves (grounds_of m i) old ms new
sound_moves m i g t old [] new low h = h
sound_moves m i g t old (mv ∷ ms) new low h = (
  h.0,
  sound_move m i g t old mv h.0 low h.1,
  sound_moves m i g t h.0 ms new
      (above_grown m i old h.0 low (IsMove-grows g old mv h.0 h.1)) h.2,
)

sound_resume : (m : Machine) (i : ℕ) (g : Grounds) → AreTrue m i g → (old : Part) (k : ℕ) (reply : Reply) (new : Part)
    → IsAbove m i old → ResumeStep g old k reply new → ResumeStep (grounds_of m i) old k reply new
sound_resume m i g t old k (Reported report) new low h = (h.0, h.1, sound_moves m i g t old report.moves new low h.2)
sound_resume m i g t old k (Refused code) new low h = h
sound_resume m i g t old k reply new low h = absurd h

-- submessages that are taken up on true claims

pub moves_on : (g : Grounds) (old : Part) (made : List Move) (mid : Part) (later : List Move) (new : Part)
    → AreMoves g old made mid → AreMoves g mid later new → AreMoves g old (made ++ later) new
moves_on g old [] mid later new h k = subst (λ (q : Part). AreMoves g q later new) h k
moves_on g old (mv ∷ ms) mid later new h k = (h.0, h.1, moves_on g h.0 ms mid later new h.2 k)

no_room-sound : (m : Machine) (i : ℕ) (g : Grounds) → AreTrue m i g → (part : Part) (w : Endpoint) (r p n : ℕ)
    → HasNoRoom g part w r p n → HasNoRoom (grounds_of m i) part w r p n
no_room-sound m i g t part w r p n h =
    record { change = h.change; is_change = t.change w r n h.change h.is_change; no_room = h.no_room }

abbrev InMachine : Roster → Machine → ℕ → GuidPrefix → ℕ → Receiver → List Submessage → Part → List Move → Option ℕ
    → Part → Type 0
InMachine roster m i own index at ss old moves refused new =
    TakesUp roster (λ k. grounds_of m i) i own index at ss old moves refused new
    × AreMoves (grounds_of m i) old moves new

takes_up-sound : (roster : Roster) (m : Machine) (i : ℕ) (gs : ℕ → Grounds) → ((k : ℕ) → AreTrue m i (gs k))
    → (own : GuidPrefix) (index : ℕ) (receiver : Receiver) (ss : List Submessage) (old : Part) (moves : List Move)
    (refused : Option ℕ) (new : Part) → IsAbove m i old
    → TakesUp roster gs i own index receiver ss old moves refused new
    → InMachine roster m i own index receiver ss old moves refused new
takes_up-sound roster m i gs t own index receiver [] old moves refused new low h =
    (h, subst (λ (ms : List Move). AreMoves (grounds_of m i) old ms new) (sym h.0) h.2)
takes_up-sound roster m i gs t own index receiver (s ∷ ss) old moves refused new low (inl h) =
    (inl h, subst (λ (ms : List Move). AreMoves (grounds_of m i) old ms new) (sym h.0) h.2)
takes_up-sound roster m i gs t own index receiver (s ∷ ss) old moves refused new low (inr h) =
    let mid : Part = h.2 in
    let own_moves : AreMoves (grounds_of m i) old h.0 mid = sound_moves m i (gs index) (t index) old h.0 mid low h.4 in
    let rest : InMachine roster m i own (index + 1) (after_submessage own receiver s) ss mid h.1 refused new =
    takes_up-sound roster m i gs t own (index + 1) (after_submessage own receiver s) ss mid h.1 refused new
    (above_grown m i old mid low (AreMoves-grows (gs index) old h.0 mid h.4)) h.6 in
    let over : MovesOver roster (grounds_of m i) i own receiver s old h.0 =
    λ w r p n c says here matched least most. ⊎_elim (λ o. inl o)
    (λ o. inr (no_room-sound m i (gs index) (t index) old w r.number p n o))
    (h.5 w r p n c says here matched least most) in (
      inr (h.0, h.1, mid, h.3, own_moves, over, rest.0),
      subst (λ (ms : List Move). AreMoves (grounds_of m i) old ms new) (sym h.3)
          (moves_on (grounds_of m i) old h.0 mid h.1 new own_moves rest.1),
    )

receives-sound : (roster : Roster) (m : Machine) (i : ℕ) (gs : ℕ → Grounds) → ((k : ℕ) → AreTrue m i (gs k))
    → (bytes : List ℕ) (old : Part) (report : Report) (new : Part) → IsAbove m i old
    → Receives roster gs i bytes old report new → Receives roster (λ k. grounds_of m i) i bytes old report new
    × AreMoves (grounds_of m i) old report.moves new
receives-sound roster m i gs t bytes old report new low (inl h) =
    let r =
    takes_up-sound roster m i gs t (roster.prefix i) 0
    (receiver_of h.message.prefix) h.message.submessages old report.moves report.refused new low h.taken in
    (inl (record { message = h.message; offset = h.offset; is_read = h.is_read; taken = r.0 }), r.1)
receives-sound roster m i gs t bytes old report new low (inr h) =
    (inr h, subst (λ (ms : List Move). AreMoves (grounds_of m i) old ms new) (sym h.moves) h.after)

-- no reader has acknowledged more than it has or is not owed
abbrev pub AckedBelow : Machine → ℕ → Part → Type 0
AckedBelow m i part = (w : ℕ) (r : Endpoint) → Covered (own_writer part w) r (place_at m r (at i w))

acked_move : (m : Machine) (i : ℕ) (old : Part) (mv : Move) (new : Part) → IsMove (grounds_of m i) old mv new
    → AckedBelow m i old → AckedBelow m i new
acked_move m i old (Place w r to passed) new h le = subst (λ (q : Part). AckedBelow m i q) (sym h.after) le
acked_move m i old (HasBegun w r from to) new h le = subst (λ (q : Part). AckedBelow m i q) (sym h.after) le
acked_move m i old (Heard w r) new h le = subst (λ (q : Part). AckedBelow m i q) (sym h.after) le
acked_move m i old (Strange w r) new h le = subst (λ (q : Part). AckedBelow m i q) (sym h.after) le
acked_move m i old (Acknowledged w r to) new h le =
    let before = own_writer old w in
    let after : Writer = record before { readers = with_acknowledged before.readers r to } in
    subst (λ (q : Part). AckedBelow m i q) (sym h.after)
    (λ k v.
    ⊎_elim (λ e. subst (λ (x : Writer). Covered x v (place_at m v (at i k))) (sym e) (le k v))
    (λ s.
    subst (λ (x : Writer). Covered x v (place_at m v (at i k))) (sym s.1)
    (subst (λ (j : ℕ). Covered after v (place_at m v (at i j))) (sym s.0)
    (covered_acknowledged before r h.acknowledged to v (λ x. place_at m x (at i w)) h.matched h.has_place
    (no_less_same (place_at m v (at i w))) (le w v))))
    (numbered-cases old.rtps.writers w after k no_writer))

acked_moves : (m : Machine) (i : ℕ) (old : Part) (ms : List Move) (new : Part) → AreMoves (grounds_of m i) old ms new
    → AckedBelow m i old → AckedBelow m i new
acked_moves m i old [] new h le = subst (λ (q : Part). AckedBelow m i q) (sym h) le
acked_moves m i old (mv ∷ ms) new h le = acked_moves m i h.0 ms new h.2 (acked_move m i old mv h.0 h.1 le)

-- what an event at a peer does to its part of the machine, whatever packet it delivers
abbrev pub PartStep : Tests → Machine → ℕ → Event → Reply → Part → Type 0
PartStep tests m peer (event.Call call) reply after = CallStep tests (part_at m peer) call reply after
PartStep tests m peer (event.Tick now) reply after = TickStep (part_at m peer) now reply after
PartStep tests m peer (event.Deliver packet) reply after = DeliveryStep (grounds_of m peer) (part_at m peer) reply after
PartStep tests m peer (event.Resume reader) reply after =
    ResumeStep (grounds_of m peer) (part_at m peer) reader reply after

-- and how a packet is taken up there
abbrev pub EventProgresses : Roster → Machine → ℕ → Event → Reply → Type 0
EventProgresses roster m peer (event.Deliver packet) reply = ReceivesIn roster m peer packet reply
EventProgresses roster m peer ev reply = Unit {0}

pub PartStep-grows : (tests : Tests) (m : Machine) (i : ℕ) (ev : Event) (reply : Reply) (after : Part)
    → PartStep tests m i ev reply after → Grows (part_at m i).rtps after.rtps
PartStep-grows tests m i (event.Call call) reply after h = CallStep-grows tests (part_at m i) call reply after h
PartStep-grows tests m i (event.Tick now) reply after h = TickStep-grows (part_at m i) now reply after h
PartStep-grows tests m i (event.Deliver packet) reply after h =
    DeliveryStep-grows (grounds_of m i) (part_at m i) reply after h
PartStep-grows tests m i (event.Resume k) reply after h =
    let made = as_moves (grounds_of m i) (part_at m i) k reply after h in
    AreMoves-grows (grounds_of m i) (part_at m i) made.0 after made.1

acked_delivery : (m : Machine) (i : ℕ) (old : Part) (reply : Reply) (new : Part)
    → DeliveryStep (grounds_of m i) old reply new → AckedBelow m i old → AckedBelow m i new
acked_delivery m i old (Reported report) new h le = acked_moves m i old report.moves new h le
acked_delivery m i old reply new h le = absurd h

acked_as : (m : Machine) (i : ℕ) (old new : Part) → ((k : ℕ) → (own_writer new k).readers ≡ (own_writer old k).readers)
    → Grows old.rtps new.rtps → AckedBelow m i old → AckedBelow m i new
acked_as m i old new same grows le w r =
    covered_same (own_writer old w) (own_writer new w) r (place_at m r (at i w)) (same w) ((grows.writers w).owed r)
    (no_less_same (place_at m r (at i w))) (le w r)

-- so it is after a telling
pub acked_told : (m : Machine) (i : ℕ) (old : Part) (t : Telling) (refusal : Option Code) (new : Part)
    → TellStep old t refusal new → AckedBelow m i old → AckedBelow m i new
acked_told m i old t refusal new h below =
    told_so (λ a b. AckedBelow m i a → AckedBelow m i b) old t (λ x. x)
    (λ x k r. telling_covered old.rtps t r (λ n. place_at m r (record { peer = i; number = n })) k (x k r)) refusal new h
    below

PartStep-acked : (tests : Tests) (m : Machine) (i : ℕ) (ev : Event) (reply : Reply) (after : Part)
    → PartStep tests m i ev reply after → AckedBelow m i (part_at m i) → AckedBelow m i after
PartStep-acked tests m i (event.Call call) reply after h le =
    ⊎_elim
    (λ untold. acked_as m i (part_at m i) after (CallStep-readers tests (part_at m i) call reply after h untold)
    (CallStep-grows tests (part_at m i) call reply after h) le)
    (λ told. acked_told m i (part_at m i) told.0 None after told.1 le)
    (untold_or_told tests (part_at m i) call reply after h)
PartStep-acked tests m i (event.Tick now) reply after h le =
    acked_as m i (part_at m i) after (TickStep-acknowledged (part_at m i) now reply after h)
    (TickStep-grows (part_at m i) now reply after h) le
PartStep-acked tests m i (event.Deliver packet) reply after h le = acked_delivery m i (part_at m i) reply after h le
PartStep-acked tests m i (event.Resume k) reply after h le =
    let made = as_moves (grounds_of m i) (part_at m i) k reply after h in
    acked_moves m i (part_at m i) made.0 after made.1 le

-- the policies of its readers stay
PartStep-qos : (tests : Tests) (m : Machine) (i : ℕ) (ev : Event) (reply : Reply) (after : Part)
    → PartStep tests m i ev reply after → (r : ℕ) → (own_reader after r).qos ≡ (own_reader (part_at m i) r).qos
PartStep-qos tests m i (event.Call call) reply after h r = call_qos tests (part_at m i) call reply after h r
PartStep-qos tests m i (event.Tick now) reply after h r = tick_qos (part_at m i) now reply after h r
PartStep-qos tests m i (event.Deliver packet) reply after h r =
    delivery_qos (grounds_of m i) (part_at m i) reply after r h
PartStep-qos tests m i (event.Resume k) reply after h r =
    let made = as_moves (grounds_of m i) (part_at m i) k reply after h in
    moves_qos (grounds_of m i) (part_at m i) made.0 after r made.1

-- what is acknowledged is not owed, or the reader is past it
covered_past : (n : ℕ) (a : Option ℕ) (owed : ℕ) (place : Option ℕ) → IsBelow n a → IsCovered a owed place
    → (n < owed) ⊎ IsBelow n place
covered_past n None owed place below h = absurd below
covered_past n (Some a) owed place below h =
    ⊎_elim (λ q. inl (omega (arith, below, q))) (λ q. inr (below_on n (Some a) place below q)) h

-- what a peer sends is true of the machine
true_holds : (m : Machine) (i : ℕ) (part : Part) → part_at m i ≡ part → AckedBelow m i part → (c : Claim)
    → IsTrueAt i part c → Holds m c
true_holds m i part is le (ChangeIs w r n c) h =
    let same : part_at m w.peer ≡ part =
    ap (λ (j : ℕ). part_at m j) h.0 ∙ is in subst
    (λ (q : Part). change_at (writer_changes (own_writer q w.number)) n ≡ Some c) (sym same) h.1
true_holds m i part is le (MayPass w r n) h =
    let same : part_at m w.peer ≡ part = ap (λ (j : ℕ). part_at m j) h.0 ∙ is in
    ⊎_elim (λ d. inl (subst (λ (q : Part). is_dropped (history_of (own_writer q w.number)) n ≡ true) (sym same) d))
    (λ o.
    let owes : n < owed_from (own_writer part w.number) r → n < owed_from (writer_at m w) r =
    λ q. subst (λ (p : Part). n < owed_from (own_writer p w.number) r) (sym same) q in
    let past : IsBelow n (place_at m r (at i w.number)) → IsBelow n (place_at m r w) =
    λ q. subst (λ (j : ℕ). IsBelow n (place_at m r (at j w.number))) (sym h.0) q in
    ⊎_elim (λ q. inr (inl (owes q)))
    (λ b. ⊎_elim (λ q. inr (inl (owes q))) (λ q. inr (inr (past q)))
    (covered_past n (acknowledged_of (own_writer part w.number).readers r) (owed_from (own_writer part w.number) r)
    (place_at m r (at i w.number)) b (le w.number r))) o) h.1
true_holds m i part is le (PlaceReached w r base) h =
    let same : part_at m r.peer ≡ part =
    ap (λ (j : ℕ). part_at m j) h.0 ∙ is in subst
    (λ (q : Part). IsAtMost base (place_of (own_proxies q r.number) w)) (sym same) h.1
true_holds m i part is le (Asserts w r count) h =
    let same : part_at m w.peer ≡ part =
    ap (λ (j : ℕ). part_at m j) h.0 ∙ is in subst (λ (q : Part). is_assertion (own_writer q w.number) count ≡ true)
    (sym same) h.1

-- the step of a peer, on packets that were sent, is one of the machine's part, and what was delivered stays true
abbrev EventHolds : Roster → Machine → Event → Type 0
EventHolds roster m (event.Call call) = Unit {0}
EventHolds roster m (event.Tick now) = Unit {0}
EventHolds roster m (event.Resume reader) = Unit {0}
EventHolds roster m (event.Deliver packet) = (c : Claim) → Claims roster packet c → Holds m c

abbrev pub DeliveredHold : Roster → Machine → List Delivery → Type 0
DeliveredHold roster m deliveries =
    (delivery : Delivery) (claim : Claim) → Contains deliveries delivery → Claims roster delivery.packet claim
    → Holds m claim

-- an element of a list with one more in front
pub front_or_rest : {X : Type 0} (x : X) (xs : List X) (y : X) (k : ℕ) → k < length (x ∷ xs)
    → slice_index_or (x ∷ xs) k y ≡ y → (x ≡ y) ⊎ Contains xs y
front_or_rest x xs y zero lt is = inl is
front_or_rest x xs y (suc k) lt is = inr (k, omega (arith, lt), is)

-- what is in a list of one is that one
pub is_alone : {X : Type 0} (x y : X) → Contains (x ∷ []) y → x ≡ y
is_alone x y among =
    ⊎_elim (λ e. e) (λ (o : Contains [] y). let lt = o.1 in absurd (omega (arith, lt)))
    (front_or_rest x [] y among.0 among.1 among.2)

pub later_in : {X : Type 0} (x : X) (xs : List X) (y : X) → Contains xs y → Contains (x ∷ xs) y
later_in x xs y c = (suc c.0, omega (arith, c.1), c.2)

packets_hold : (roster : Roster) (m : Machine) (ds : List Delivery) → DeliveredHold roster m ds
    → AllHold roster m (packets_of ds)
packets_hold roster m [] all bytes claim c s = absurd (omega (arith, c.1))
packets_hold roster m (d ∷ ds) all bytes claim c s =
    ⊎_elim (λ e. all d claim (0, omega arith, refl) (subst (λ (b : List ℕ). Claims roster b claim) (sym e) s))
    (λ r. packets_hold roster m ds (λ x y o t. all x y (later_in d ds x o) t) bytes claim r s)
    (front_or_rest d.packet (packets_of ds) bytes c.0 c.1 c.2)

with_packet : (roster : Roster) (m : Machine) (packet : List ℕ) (packets : List (List ℕ))
    → EventHolds roster m (event.Deliver packet) → AllHold roster m packets → AllHold roster m (packet ∷ packets)
with_packet roster m packet packets sent all bytes claim c s =
    ⊎_elim (λ e. sent claim (subst (λ (b : List ℕ). Claims roster b claim) (sym e) s)) (λ r. all bytes claim r s)
    (front_or_rest packet packets bytes c.0 c.1 c.2)

with_delivery : (roster : Roster) (m : Machine) (d : Delivery) (ds : List Delivery)
    → EventHolds roster m (event.Deliver d.packet) → DeliveredHold roster m ds → DeliveredHold roster m (d ∷ ds)
with_delivery roster m d ds sent all x claim c s =
    ⊎_elim (λ e. sent claim (subst (λ (y : Delivery). Claims roster y.packet claim) (sym e) s)) (λ r. all x claim r s)
    (front_or_rest d ds x c.0 c.1 c.2)

above_self : (m : Machine) (i : ℕ) → IsAbove m i (part_at m i)
above_self m i r w = no_less_same (place_at m (at i r) w)

part_delivery : (roster : Roster) (m : Machine) (i : ℕ) (packet : List ℕ) (before : Peer) (report : Report) (new : Part)
    → before.number ≡ i → part_at m i ≡ before.part → HasNumber m.parts i → KeepsPolicies roster m
    → AllHold roster m (packet ∷ packets_of before.delivered)
    → Receives roster (claimed roster before.delivered packet before.part.rtps.readers before.number) before.number
    packet before.part report new
    → Receives roster (λ k. grounds_of m i) i packet (part_at m i) report new
    × AreMoves (grounds_of m i) (part_at m i) report.moves new
part_delivery roster m i packet before report new is at_i there keeps hold h =
    let rows : List (List WriterProxy) = before.part.rtps.readers in
    let here : Receives roster (claimed roster before.delivered packet rows i) i packet (part_at m i) report new =
    subst (λ (q : Part). Receives roster (claimed roster before.delivered packet rows i) i packet q report new)
    (sym at_i)
    (subst (λ (j : ℕ). Receives roster (claimed roster before.delivered packet rows j) j packet before.part report new)
    is h) in
    receives-sound roster m i (claimed roster before.delivered packet rows i)
    (λ k. claimed-true roster m i before.delivered packet rows k there keeps hold) packet (part_at m i) report new
    (above_self m i) here

abbrev EventSteps : Roster → Tests → Machine → ℕ → Event → Reply → Peer → Type 0
EventSteps roster tests m i ev reply after =
    PartStep tests m i ev reply after.part × EventProgresses roster m i ev reply
    × DeliveredHold roster m after.delivered

part_step : (roster : Roster) (tests : Tests) (m : Machine) (i : ℕ) (ev : Event) (before : Peer) (reply : Reply)
    (after : Peer) → before.number ≡ i → part_at m i ≡ before.part → HasNumber m.parts i → KeepsPolicies roster m
    → EventHolds roster m ev → DeliveredHold roster m before.delivered → EventStep roster tests before ev reply after
    → EventSteps roster tests m i ev reply after
part_step roster tests m i (event.Call call) before reply after is at_i there keeps sent all h = (
  subst (λ (q : Part). CallStep tests q call reply after.part) (sym at_i) h.0,
  tt,
  subst
      (λ (ds : List Delivery). DeliveredHold roster m ds) (sym h.1) all,
)
part_step roster tests m i (event.Tick now) before reply after is at_i there keeps sent all h = (
  subst (λ (q : Part). TickStep q now reply after.part) (sym at_i)
      (was_asked before.known.answered before.part, h.0),
  tt,
  subst
      (λ (ds : List Delivery). DeliveredHold roster m ds) (sym h.1) all,
)
part_step roster tests m i (event.Deliver packet) before (Reported report) after is at_i there keeps sent all h =
    let hold : AllHold roster m (packet ∷ packets_of before.delivered) =
    with_packet roster m packet (packets_of before.delivered) sent (packets_hold roster m before.delivered all) in
    let r = part_delivery roster m i packet before report after.part is at_i there keeps hold h.0 in (
      r.1,
      (after.part, r.0),
      subst (λ (ds : List Delivery). DeliveredHold roster m ds) (sym h.1)
          (with_delivery roster m
          (record { packet = packet; rows = before.part.rtps.readers; report = report }) before.delivered sent all),
    )
part_step roster tests m i (event.Deliver packet) before reply after is at_i there keeps sent all h = absurd h
part_step roster tests m i (event.Resume k) before reply after is at_i there keeps sent all h =
    let hold : AllHold roster m (packets_of before.delivered) = packets_hold roster m before.delivered all in
    let claims : ℕ → Grounds = λ j. claimed_by roster (packets_of before.delivered) j in
    let here : ResumeStep (claims i) (part_at m i) k reply after.part =
    subst (λ (q : Part). ResumeStep (claims i) q k reply after.part) (sym at_i)
    (subst (λ (j : ℕ). ResumeStep (claims j) before.part k reply after.part) is h.0) in (
      sound_resume m i (claims i) (claimed_by-true roster m i (packets_of before.delivered) there keeps hold) (part_at m i) k
          reply after.part (above_self m i) here,
      tt,
      subst (λ (ds : List Delivery). DeliveredHold roster m ds) (sym h.1) all,
    )

pub parts_at : (ws : WorldState) (i : ℕ) → part_at (machine_of ws) i ≡ (peer_at ws i).part
parts_at ws i = numbered-map (λ (p : Peer). p.part) ws.peers i no_peer

abbrev pub world_after : WorldState → ℕ → Peer → List Packet → WorldState
world_after ws i after posted = record { peers = with_numbered ws.peers i after; sent = ws.sent ++ posted }

pub machine_after : (ws : WorldState) (i : ℕ) (after : Peer) (posted : List Packet)
    → machine_of (world_after ws i after posted) ≡ with_part (machine_of ws) i after.part
machine_after ws i after posted =
    ap (λ (ps : List Part). let m : Machine = record { parts = ps } in m)
    (map-with_numbered (λ (p : Peer). p.part) ws.peers i after)

-- numbers of parts are numbers of peers
pub part_number : (ws : WorldState) (i : ℕ) → HasNumber ws.peers i → HasNumber (machine_of ws).parts i
part_number ws i h =
    let count = length-map ws.peers (λ (p : Peer). p.part) in let low = h.0 in let high = h.1 in
    (omega (arith, low), omega (arith, high, count))

pub peer_number : (ws : WorldState) (i : ℕ) → HasNumber (machine_of ws).parts i → HasNumber ws.peers i
peer_number ws i h =
    let count = length-map ws.peers (λ (p : Peer). p.part) in let low = h.0 in let high = h.1 in
    (omega (arith, low), omega (arith, high, count))

-- the readers of the machine's parts are those of the peers
policies_of : (roster : Roster) (ws : WorldState) → Sound roster ws → KeepsPolicies roster (machine_of ws)
policies_of roster ws sound r entity there at = sound.policies r entity (peer_number ws r.peer there) at

-- the world in which one peer has another part, and has sent packets that are true of it, is sound where that part has
-- grown, its writers have acknowledged no more than they may, and its readers keep their policies
pub sound_after : (roster : Roster) (ws : WorldState) (i : ℕ) (after : Peer) (posted : List Packet)
    → Sound roster ws → HasNumber ws.peers i → after.number ≡ i
    → Grows (part_at (machine_of ws) i).rtps after.part.rtps → AckedBelow (machine_of ws) i after.part
    → ((r : ℕ) → (own_reader after.part r).qos ≡ (own_reader (part_at (machine_of ws) i) r).qos)
    → DeliveredHold roster (machine_of ws) after.delivered
    → ((p : Packet) (c : Claim) → Contains posted p → Claims roster p.bytes c → IsTrueAt i after.part c)
    → Sound roster (world_after ws i after posted)
sound_after roster ws i after posted sound within own_number part_grows mine qos delivered true_there =
    let m : Machine = machine_of ws in
    let m' : Machine = with_part m i after.part in
    let new : WorldState = world_after ws i after posted in
    let is_m' : machine_of new ≡ m' = machine_after ws i after posted in
    let grows : MachineGrows m m' = with_part-grows m i after.part part_grows in
    let still : (c : Claim) → Holds m c → Holds m' c = Holds-grows m m' grows in
    let to_new : (c : Claim) → Holds m' c → Holds (machine_of new) c =
    λ c h. subst (λ (x : Machine). Holds x c) (sym is_m') h in
    let here : part_at m' i ≡ after.part = numbered-same m.parts i after.part no_part (part_number ws i within) in
    let mine' : AckedBelow m' i after.part =
    λ w r. covered_on (acknowledged_of (own_writer after.part w).readers r) (owed_from (own_writer after.part w) r)
    (owed_from (own_writer after.part w) r) (place_at m r (at i w)) (place_at m' r (at i w)) (omega arith)
    (grows.places r (at i w)) (mine w r) in
    let same_length : length new.peers ≡ length ws.peers = length-with_numbered ws.peers i after in
    record {
      number = λ p lt.
          let low = lt.0 in
          let high = lt.1 in
          ⊎_elim (λ e. ap (λ (q : Peer). q.number) e
          ∙ sound.number p (omega (arith, low), omega (arith, high, same_length)))
          (λ o. ap (λ (q : Peer). q.number) o.1 ∙ (own_number ∙ sym o.0)) (numbered-cases ws.peers i after p no_peer);
      sent = λ p c d h.
          ⊎_elim (λ o. to_new c (still c (sound.sent p c o h)))
          (λ n. to_new c (true_holds m' i after.part here mine' c (true_there p c n h)))
          (Contains-append_cases ws.sent posted p d);
      delivered = λ j d c o h.
          ⊎_elim (λ e. to_new c
          (still c (sound.delivered j d c (subst (λ (q : Peer). Contains q.delivered d) e o) h)))
          (λ e. to_new c (still c (delivered d c (subst (λ (q : Peer). Contains q.delivered d) e.1 o) h)))
          (numbered-cases ws.peers i after j no_peer);
      acknowledged = λ w r.
          subst (λ (x : Machine). Covered (writer_at x w) r (place_at x r w)) (sym is_m')
          (⊎_elim
          (λ e.
          subst (λ (q : Part). Covered (own_writer q w.number) r (place_at m' r w)) (sym e)
          (covered_on (acknowledged_of (writer_at m w).readers r) (owed_from (writer_at m w) r)
          (owed_from (writer_at m w) r) (place_at m r w) (place_at m' r w) (omega arith) (grows.places r w)
          (sound.acknowledged w r)))
          (λ o.
          subst (λ (q : Part). Covered (own_writer q w.number) r (place_at m' r w)) (sym o.1)
          (subst (λ (j : ℕ). Covered (own_writer after.part w.number) r (place_at m' r (at j w.number))) (sym o.0)
          (mine' w.number r)))
          (numbered-cases m.parts i after.part w.peer no_part));
      policies = λ r entity lt at_reader.
          let low = lt.0 in
          let high = lt.1 in
          let k : ℕ = r.number in
          let old_one = sound.policies r entity (omega (arith, low), omega (arith, high, same_length)) at_reader in
          ap (λ (x : Machine). is_reliable (own_reader (part_at x r.peer) k).qos.reliability) is_m'
          ∙ ⊎_elim (λ e. ap (λ (q : Part). is_reliable (own_reader q k).qos.reliability) e ∙ old_one)
          (λ o.
          ap (λ (q : Part). is_reliable (own_reader q k).qos.reliability) o.1
          ∙ (ap (λ (q : ReaderQos). is_reliable q.reliability) (qos k)
          ∙ (ap (λ (n : ℕ). is_reliable (own_reader (part_at m n) k).qos.reliability) (sym o.0) ∙ old_one)))
          (numbered-cases m.parts i after.part r.peer no_part);
    }

pub happens : (roster : Roster) (tests : Tests) (ws : WorldState) (i : ℕ) (ev : Event) (output : Output) (after : Peer)
    (posted : List Packet)
    → Sound roster ws → HasNumber ws.peers i → PeerStep roster tests (peer_at ws i) ev output after
    → EventHolds roster (machine_of ws) ev → ((p : Packet) → Contains posted p → Contains output.packets p)
    → PartStep tests (machine_of ws) i ev output.reply after.part
    × EventProgresses roster (machine_of ws) i ev output.reply × Sound roster (world_after ws i after posted)
happens roster tests ws i ev output after posted sound within step is_sent of_packets =
    let m : Machine = machine_of ws in
    let is_number : (peer_at ws i).number ≡ i = sound.number i within in
    let s : EventSteps roster tests m i ev output.reply after =
    part_step roster tests m i ev (peer_at ws i) output.reply after is_number (parts_at ws i)
    (part_number ws i within) (policies_of roster ws sound) is_sent
    (λ d c o h. sound.delivered i d c o h) step.step in
    let own_number : after.number ≡ i = step.same_number ∙ is_number in (
      s.0,
      s.1,
      sound_after roster ws i after posted sound within own_number
          (PartStep-grows tests m i ev output.reply after.part s.0)
          (PartStep-acked tests m i ev output.reply after.part s.0 (λ w r. sound.acknowledged (at i w) r))
          (PartStep-qos tests m i ev output.reply after.part s.0) s.2
          (λ p c among h. subst (λ (j : ℕ). IsTrueAt j after.part c) own_number
          (step.sent p c (of_packets p among) h)),
    )

abbrev pub Composed : Roster → AllTests → WorldState → WorldEvent → Reply → WorldState → Type 0
Composed roster tests old event reply new =
    Step tests (length old.sent) (machine_of old) event reply (machine_of new)
    × Progresses roster old.sent (machine_of old) event reply × Sound roster new

pub contains_at : (xs : List Packet) (i : ℕ) (x : Packet) → slice_get xs i ≡ Some x → Contains xs x
contains_at [] i x h = cc
contains_at (y ∷ ys) zero x h = (0, omega arith, same_Some y x h)
contains_at (y ∷ ys) (suc i) x h = let r = contains_at ys i x h in (suc r.0, omega (arith, r.1), r.2)

-- an event of one peer
composed : (roster : Roster) (tests : AllTests) (old new : WorldState) (peer : ℕ) (ev : Event) (whole : WorldEvent)
    (reply : Reply) → Sound roster old → EventHolds roster (machine_of old) ev
    → PeerSteps roster (tests peer) old peer ev reply new
    → ((m : Machine) → AtPeer (machine_of old) peer
    (λ after. PartStep (tests peer) (machine_of old) peer ev reply after) m
    → Step tests (length old.sent) (machine_of old) whole reply m)
    → (EventProgresses roster (machine_of old) peer ev reply → Progresses roster old.sent (machine_of old) whole reply)
    → Composed roster tests old whole reply new
composed roster tests old new peer ev whole reply sound holds h step progress =
    let r =
    happens roster (tests peer) old peer ev h.output h.after h.posted sound h.within h.step holds h.of_packets in
    let s : PartStep (tests peer) (machine_of old) peer ev reply h.after.part =
    subst (λ (x : Reply). PartStep (tests peer) (machine_of old) peer ev x h.after.part) h.replies r.0 in
    let t : EventProgresses roster (machine_of old) peer ev reply =
    subst (λ (x : Reply). EventProgresses roster (machine_of old) peer ev x) h.replies r.1 in
    subst (λ (w : WorldState). Composed roster tests old whole reply w) (sym h.changed) (
      step (machine_of (world_after old peer h.after h.posted))
          (record {
            within = part_number old peer h.within;
            after = h.after.part;
            step = s;
            changed = machine_after old
                peer h.after h.posted;
          }),
      progress t,
      r.2,
    )

composed_delivery : (roster : Roster) (tests : AllTests) (old new : WorldState) (peer number : ℕ) (packet : Packet)
    (reply : Reply) → Sound roster old → 1 ≤ number → slice_get old.sent (number - 1) ≡ Some packet
    → PeerSteps roster (tests peer) old peer (event.Deliver packet.bytes) reply new
    → Composed roster tests old (world.Deliver peer number) reply new
composed_delivery roster tests old new peer number packet reply sound low found h =
    let within = slice_get_within old.sent (number - 1) packet found in
    composed roster tests old new peer (event.Deliver packet.bytes) (world.Deliver peer number) reply sound
    (λ c s. sound.sent packet c (contains_at old.sent (number - 1) packet found) s) h
    (λ m at. inl (
      low,
      omega (arith, within),
      record { within = at.within; after = at.after; step = at.step; changed = at.changed },
    ))
    (λ t other least is there. subst (λ (p : Packet). ReceivesIn roster (machine_of old) peer p.bytes reply)
    (same_Some packet other (sym found ∙ is)) t)

no_part_number : (ws : WorldState) (i : ℕ) → (HasNumber ws.peers i → ⊥) → HasNumber (machine_of ws).parts i → ⊥
no_part_number ws i none h = none (peer_number ws i h)

-- a packet that was sent, and a peer, are no reason to refuse a delivery
not_refused : (roster : Roster) (old : WorldState) (peer number : ℕ) (reply : Reply)
    → (number ≡ 0) ⊎ (length old.sent < number) ⊎ (HasNumber old.peers peer → ⊥)
    → Progresses roster old.sent (machine_of old) (world.Deliver peer number) reply
not_refused roster old peer number reply (inl z) packet least is there = absurd (omega (arith, z, least))
not_refused roster old peer number reply (inr (inl over)) packet least is there =
    let within = slice_get_within old.sent (number - 1) packet is in absurd (omega (arith, over, within, least))
not_refused roster old peer number reply (inr (inr none)) packet least is there =
    absurd (none (peer_number old peer there))

-- what the world refuses, the machine refuses, and the world is as sound as it was
refused : (roster : Roster) (old new : WorldState) (reply : Reply) → Sound roster old → IsRefusedIn old reply new
    → IsRefused (machine_of old) reply (machine_of new) × Sound roster new
refused roster old new reply sound h =
    ((h.is_refused, ap machine_of h.after), subst (λ (w : WorldState). Sound roster w) (sym h.after) sound)

pub composes : (roster : Roster) (tests : AllTests) (old new : WorldState) (ev : WorldEvent) (reply : Reply)
    → Sound roster old → WorldStep roster tests old ev reply new → Composed roster tests old ev reply new
composes roster tests old new (world.Call peer call) reply sound (inl h) =
    composed roster tests old new peer (event.Call call) (world.Call peer call) reply sound tt h (λ m at. inl at)
    (λ t. tt)
composes roster tests old new (world.Call peer call) reply sound (inr h) =
    let r = refused roster old new reply sound h.1 in (inr (no_part_number old peer h.0, r.0), tt, r.1)
composes roster tests old new (world.Tick peer now) reply sound (inl h) =
    composed roster tests old new peer (event.Tick now) (world.Tick peer now) reply sound tt h (λ m at. inl at)
    (λ t. tt)
composes roster tests old new (world.Tick peer now) reply sound (inr h) =
    let r = refused roster old new reply sound h.1 in (inr (no_part_number old peer h.0, r.0), tt, r.1)
composes roster tests old new (world.Deliver peer number) reply sound (inl h) =
    composed_delivery roster tests old new peer number h.0 reply sound h.1 h.2 h.3
composes roster tests old new (world.Deliver peer number) reply sound (inr h) =
    let r = refused roster old new reply sound h.1 in (
      inr (
        ⊎_elim (λ z. inl z) (λ o. ⊎_elim (λ s. inr (inl s)) (λ p. inr (inr (no_part_number old peer p))) o) h.0,
        r.0,
      ),
      not_refused roster old peer number reply h.0,
      r.1,
    )
composes roster tests old new (world.Resume peer k) reply sound (inl h) =
    composed roster tests old new peer (event.Resume k) (world.Resume peer k) reply sound tt h (λ m at. inl at)
    (λ t. tt)
composes roster tests old new (world.Resume peer k) reply sound (inr h) =
    let r = refused roster old new reply sound h.1 in (inr (no_part_number old peer h.0, r.0), tt, r.1)
