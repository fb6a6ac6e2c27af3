-- Who is matched with whom stays, in every step at which nobody is told of it.
use Rattle.std.proofs.Common.{◌≡◌, ℕ, List, [], ◌∷◌, Option, None, Some, refl, subst, ap, sym, ◌∙◌, inl, inr, ⊎_elim}
use Rattle.std.specs.Prelude.{is_some}
use Rattle.std.specs.Option.{option_map}
use Rattle.dds_machine.specs.declared.call.Call.{Call}
use Rattle.dds_machine.specs.declared.call.Call.TheVariants as call
use Rattle.dds_base.specs.declared.endpoint.Endpoint.{Endpoint}
use Rattle.dds_machine.specs.declared.event.WorldEvent.{WorldEvent}
use Rattle.dds_machine.specs.declared.event.WorldEvent.TheVariants as world
use Rattle.dds_machine.specs.declared.reply.Move.{Move}
use Rattle.dds_machine.specs.declared.reply.Move.TheVariants.{Place, Acknowledged, Heard, Begun as HasBegun, Strange}
use Rattle.dds_machine.specs.declared.reply.Reply.{Reply}
use Rattle.dds_machine.specs.declared.reply.Reply.TheVariants.{Done, LivelinessLost, Matched, Reported}
use Rattle.dds_machine.specs.Calls.{effect_of, CallStep}
use Rattle.dds_machine.specs.Machine.{Machine, AllTests, part_at, grounds_of, Step}
use Rattle.dds_machine.specs.Moves.{Grounds, IsMove, AreMoves, DeliveryStep}
use Rattle.dds_machine.specs.Noticing.{machine_ended}
use Rattle.dds_machine.specs.Numbered.{numbered, with_numbered}
use Rattle.dds_machine.specs.Part.{ReaderProxy, WriterProxy, Writer, Part, NoLess, acknowledged_of, no_part, no_writer, own_proxies, own_reader, own_writer, place_of, row_of, Begun, with_acknowledged, with_begun, with_heard, with_place, with_row}
use Rattle.dds_machine.specs.Ticks.{TickStep}
use Rattle.dds_machine.specs.Watching.{Tests}
use Rattle.dds_protocol.specs.Closed.{TellsNobody}
use Rattle.dds_machine.proofs.Tables.{no_less_on, no_less_same, numbered-cases, row-cases}
use Rattle.dds_protocol.proofs.Alike.{AlikeParts, alike_readers}
use Rattle.dds_protocol.proofs.EndsBeside.{ended_alike}
use Rattle.dds_protocol.proofs.Resumed.{as_moves}
use Rattle.dds_protocol.proofs.Growth.{CallStep-readers, CallStep-rows, IsMove-grows, TickStep-acknowledged, TickStep-rows, Untold}
use Rattle.dds_protocol.proofs.Policies.{call_qos, move_qos, tick_qos}

-- ---- rows

pub mapped_some : {X Y : Type 0} (f : X → Y) (o : Option X) → is_some (option_map f o) ≡ is_some o
mapped_some f None = refl
mapped_some f (Some x) = refl

row_there : {X : Type 0} (name : X → Endpoint) (change : X → X) → ((x : X) → name (change x) ≡ name x)
    → (rows : List X) (w v : Endpoint)
    → is_some (row_of name (with_row name change rows w) v) ≡ is_some (row_of name rows v)
row_there {X = X} name change kept rows w v =
    ⊎_elim (λ e. ap (λ (o : Option X). is_some o) e)
    (λ s.
    ap (λ (o : Option X). is_some o) s.1
    ∙ (mapped_some change (row_of name rows w) ∙ ap (λ (x : Endpoint). is_some (row_of name rows x)) (sym s.0)))
    (row-cases name change kept rows w v)

-- a field is there where the row is
field_there : {X : Type 0} (name : X → Endpoint) (field : X → ℕ) (change : X → X)
    → ((x : X) → name (change x) ≡ name x) → (rows : List X) (w v : Endpoint)
    → is_some (option_map field (row_of name (with_row name change rows w) v))
    ≡ is_some (option_map field (row_of name rows v))
field_there name field change kept rows w v =
    mapped_some field (row_of name (with_row name change rows w) v)
    ∙ (row_there name change kept rows w v ∙ sym (mapped_some field (row_of name rows v)))

place_there : (change : WriterProxy → WriterProxy) → ((p : WriterProxy) → (change p).writer ≡ p.writer)
    → (rows : List WriterProxy) (w v : Endpoint)
    → is_some (place_of (with_row (λ (p : WriterProxy). p.writer) change rows w) v) ≡ is_some (place_of rows v)
place_there change kept rows w v =
    field_there (λ (p : WriterProxy). p.writer) (λ (p : WriterProxy). p.place) change kept rows w v

-- ---- parts

-- the peer's readers have places in the same lists, no lower ones, and its writers have rows for the same readers; and
-- policies stay
pub record SameEnds (old new : Part) : Type 0 where
  pub places : (r : ℕ) (w : Endpoint)
      → is_some (place_of (own_proxies new r) w) ≡ is_some (place_of (own_proxies old r) w)
  pub further : (r : ℕ) (w : Endpoint) → NoLess (place_of (own_proxies old r) w) (place_of (own_proxies new r) w)
  pub rows : (k : ℕ) (r : Endpoint)
      → is_some (acknowledged_of (own_writer new k).readers r) ≡ is_some (acknowledged_of (own_writer old k).readers r)
  pub qos : (r : ℕ) → (own_reader new r).qos ≡ (own_reader old r).qos

pub ends_same : (p : Part) → SameEnds p p
ends_same p = record {
  places = λ r w. refl;
  further = λ r w. no_less_same (place_of (own_proxies p r) w);
  rows = λ k r. refl;
  qos = λ r. refl;
}

pub ends_on : (a b c : Part) → SameEnds a b → SameEnds b c → SameEnds a c
ends_on a b c f g = record {
  places = λ r w. g.places r w ∙ f.places r w;
  further = λ r w.
      no_less_on (place_of (own_proxies a r) w) (place_of (own_proxies b r) w) (place_of (own_proxies c r) w)
      (f.further r w) (g.further r w);
  rows = λ k r. g.rows k r ∙ f.rows k r;
  qos = λ r. g.qos r ∙ f.qos r;
}

-- where the rows of readers and those of writers are the same
ends_as : (old new : Part) → ((r : ℕ) → own_proxies new r ≡ own_proxies old r)
    → ((k : ℕ) → (own_writer new k).readers ≡ (own_writer old k).readers)
    → ((r : ℕ) → (own_reader new r).qos ≡ (own_reader old r).qos) → SameEnds old new
ends_as old new proxies readers qos = record {
  places = λ r w. ap (λ (rows : List WriterProxy). is_some (place_of rows w)) (proxies r);
  further = λ r w.
      subst (λ (rows : List WriterProxy). NoLess (place_of (own_proxies old r) w) (place_of rows w)) (sym (proxies r))
      (no_less_same (place_of (own_proxies old r) w));
  rows = λ k r. ap (λ (rows : List ReaderProxy). is_some (acknowledged_of rows r)) (readers k);
  qos = qos;
}

-- one reader has other rows, with the same names
set_places : (old : Part) (k : ℕ) (rows : List WriterProxy)
    → ((w : Endpoint) → is_some (place_of rows w) ≡ is_some (place_of (own_proxies old k) w)) → (r : ℕ) (w : Endpoint)
    → is_some (place_of (numbered (with_numbered old.rtps.readers k rows) r []) w)
    ≡ is_some (place_of (own_proxies old r) w)
set_places old k rows same r w =
    ⊎_elim (λ e. ap (λ (xs : List WriterProxy). is_some (place_of xs w)) e)
    (λ s.
    ap (λ (xs : List WriterProxy). is_some (place_of xs w)) s.1
    ∙ (same w ∙ ap (λ (j : ℕ). is_some (place_of (own_proxies old j) w)) (sym s.0)))
    (numbered-cases old.rtps.readers k rows r [])

-- ---- moves

move_ends : (g : Grounds) (old : Part) (m : Move) (new : Part) → IsMove g old m new → SameEnds old new
move_ends g old (Place w r to passed) new h = record {
  places = λ j v.
      ap (λ (q : Part). is_some (place_of (own_proxies q j) v)) h.after
      ∙ set_places old r (with_place (own_proxies old r) w to)
      (place_there (λ (p : WriterProxy). record p { place = to }) (λ p. refl) (own_proxies old r) w) j v;
  further = λ j v. (IsMove-grows g old (Place w r to passed) new h).places j v;
  rows = λ k v. ap (λ (q : Part). is_some (acknowledged_of (own_writer q k).readers v)) h.after;
  qos = λ j. move_qos g old (Place w r to passed) new j h;
}
move_ends g old (Heard w r) new h = record {
  places = λ j v.
      ap (λ (q : Part). is_some (place_of (own_proxies q j) v)) h.after
      ∙ set_places old r (with_heard (own_proxies old r) w h.count)
      (place_there (λ (p : WriterProxy). record p { heard = Some h.count }) (λ p. refl) (own_proxies old r) w) j v;
  further = λ j v. (IsMove-grows g old (Heard w r) new h).places j v;
  rows = λ k v. ap (λ (q : Part). is_some (acknowledged_of (own_writer q k).readers v)) h.after;
  qos = λ j. move_qos g old (Heard w r) new j h;
}
move_ends g old (HasBegun w r from to) new h = record {
  places = λ j v.
      ap (λ (q : Part). is_some (place_of (own_proxies q j) v)) h.after
      ∙ set_places old r (with_begun (own_proxies old r) w to)
      (place_there (λ (p : WriterProxy). record p { place = to; how = Begun }) (λ p. refl) (own_proxies old r) w) j v;
  further = λ j v. (IsMove-grows g old (HasBegun w r from to) new h).places j v;
  rows = λ k v. ap (λ (q : Part). is_some (acknowledged_of (own_writer q k).readers v)) h.after;
  qos = λ j. move_qos g old (HasBegun w r from to) new j h;
}
move_ends g old (Strange w r) new h = subst (λ (q : Part). SameEnds old q) (sym h.after) (ends_same old)
move_ends g old (Acknowledged w r to) new h =
    let before : Writer = own_writer old w in
    let after : Writer = record before { readers = with_acknowledged before.readers r to } in
    record {
      places = λ j v. ap (λ (q : Part). is_some (place_of (own_proxies q j) v)) h.after;
      further = λ j v. (IsMove-grows g old (Acknowledged w r to) new h).places j v;
      rows = λ k v.
          ap (λ (q : Part). is_some (acknowledged_of (own_writer q k).readers v)) h.after
          ∙ ⊎_elim (λ e. ap (λ (x : Writer). is_some (acknowledged_of x.readers v)) e)
          (λ s.
          ap (λ (x : Writer). is_some (acknowledged_of x.readers v)) s.1
          ∙ (field_there (λ (p : ReaderProxy). p.reader) (λ (p : ReaderProxy). p.acknowledged)
          (λ (p : ReaderProxy). record p { acknowledged = to }) (λ p. refl) before.readers r v
          ∙ ap (λ (j : ℕ). is_some (acknowledged_of (own_writer old j).readers v)) (sym s.0)))
          (numbered-cases old.rtps.writers w after k no_writer);
      qos = λ j. move_qos g old (Acknowledged w r to) new j h;
    }

pub next_ends : (first : Part) (g : Grounds) (old : Part) (m : Move) (new : Part) → SameEnds first old
    → IsMove g old m new → SameEnds first new
next_ends first g old m new e h = ends_on first old new e (move_ends g old m new h)

moves_ends : (g : Grounds) (old : Part) (ms : List Move) (new : Part) → AreMoves g old ms new → SameEnds old new
moves_ends g old [] new h = subst (λ (q : Part). SameEnds old q) (sym h) (ends_same old)
moves_ends g old (m ∷ ms) new h =
    ends_on old h.0 new (move_ends g old m h.0 h.1) (moves_ends g h.0 ms new h.2)

delivery_ends : (g : Grounds) (old : Part) (reply : Reply) (new : Part) → DeliveryStep g old reply new
    → SameEnds old new
delivery_ends g old (Reported report) new h = moves_ends g old report.moves new h
delivery_ends g old reply new h = absurd h

-- ---- calls, ticks, and the end of an event

-- nobody is told by the effect of a call by which nobody comes or goes
none_told : (old : Part) (peer : ℕ) (c : Call) (reply : Reply) → TellsNobody (world.Call peer c)
    → Untold (effect_of old c reply)
none_told old peer (call.MatchReader w r greeted) reply h = absurd h
none_told old peer (call.UnmatchReader w r) reply h = absurd h
none_told old peer (call.MatchWriter r w) reply h = absurd h
none_told old peer (call.UnmatchWriter r w) reply h = absurd h
none_told old peer (call.MeetReader w far greeted) reply h = absurd h
none_told old peer (call.MeetWriter r far) reply h = absurd h
none_told old peer (call.Register v key) Done h = tt
none_told old peer (call.Write v key value) Done h = tt
none_told old peer (call.Dispose v key) Done h = tt
none_told old peer (call.Unregister v key) Done h = tt
none_told old peer (call.AssertLiveliness v) Done h = tt
none_told old peer (call.SetStrength v strength) Done h = tt
none_told old peer (call.GetLivelinessLost v) (LivelinessLost status) h = tt
none_told old peer (call.GetPublicationMatched v) (Matched status) h = tt
none_told old peer c reply h = tt

-- the rows that a call leaves
pub call_proxies : (tests : Tests) (old : Part) (peer : ℕ) (c : Call) (reply : Reply) (new : Part)
    → TellsNobody (world.Call peer c) → CallStep tests old c reply new → (r : ℕ)
    → own_proxies new r ≡ own_proxies old r
call_proxies tests old peer c reply new none h r =
    ap (λ (rows : List (List WriterProxy)). numbered rows r [])
    (CallStep-rows tests old c reply new h (none_told old peer c reply none))

pub call_readers : (tests : Tests) (old : Part) (peer : ℕ) (c : Call) (reply : Reply) (new : Part)
    → TellsNobody (world.Call peer c) → CallStep tests old c reply new → (k : ℕ)
    → (own_writer new k).readers ≡ (own_writer old k).readers
call_readers tests old peer c reply new none h k =
    CallStep-readers tests old c reply new h (none_told old peer c reply none) k

call_ends : (tests : Tests) (old : Part) (peer : ℕ) (c : Call) (reply : Reply) (new : Part)
    → TellsNobody (world.Call peer c) → CallStep tests old c reply new → SameEnds old new
call_ends tests old peer c reply new none h =
    ends_as old new (call_proxies tests old peer c reply new none h) (call_readers tests old peer c reply new none h)
    (call_qos tests old c reply new h)

tick_ends : (old : Part) (now : ℕ) (reply : Reply) (new : Part) → TickStep old now reply new → SameEnds old new
tick_ends old now reply new h =
    ends_as old new
    (λ r. ap (λ (rows : List (List WriterProxy)). numbered rows r []) (TickStep-rows old now reply new h))
    (TickStep-acknowledged old now reply new h) (tick_qos old now reply new h)

pub alike_ends : (old new : Part) → AlikeParts old new → SameEnds old new
alike_ends old new a =
    ends_as old new (λ r. ap (λ (rows : List (List WriterProxy)). numbered rows r []) a.rows)
    (λ k. alike_readers (own_writer old k) (own_writer new k) (a.writers k)) a.qos

-- ---- the machine

abbrev pub EndsStay : Machine → Machine → Type 0
EndsStay old new = (i : ℕ) → SameEnds (part_at old i) (part_at new i)

stay_where : (m : Machine) (new : Machine) → new ≡ m → EndsStay m new
stay_where m new is i = subst (λ (x : Machine). SameEnds (part_at m i) (part_at x i)) (sym is) (ends_same (part_at m i))

stay_with : (m : Machine) (peer : ℕ) (after : Part) (new : Machine)
    → new ≡ record { parts = with_numbered m.parts peer after } → SameEnds (part_at m peer) after → EndsStay m new
stay_with m peer after new is h =
    subst (λ (x : Machine). EndsStay m x) (sym is)
    (λ i. ⊎_elim (λ e. subst (λ (q : Part). SameEnds (part_at m i) q) (sym e) (ends_same (part_at m i)))
    (λ s. subst (λ (q : Part). SameEnds (part_at m i) q) (sym s.1)
    (subst (λ (j : ℕ). SameEnds (part_at m j) after) (sym s.0) h))
    (numbered-cases m.parts peer after i no_part))

step_stays : (tests : AllTests) (sent : ℕ) (m : Machine) (ev : WorldEvent) (reply : Reply) (new : Machine)
    → TellsNobody ev → Step tests sent m ev reply new → EndsStay m new
step_stays tests sent m (world.Call peer c) reply new none (inl h) =
    stay_with m peer h.after new h.changed (call_ends (tests peer) (part_at m peer) peer c reply h.after none h.step)
step_stays tests sent m (world.Call peer c) reply new none (inr h) = stay_where m new h.1.1
step_stays tests sent m (world.Tick peer now) reply new none (inl h) =
    stay_with m peer h.after new h.changed (tick_ends (part_at m peer) now reply h.after h.step)
step_stays tests sent m (world.Tick peer now) reply new none (inr h) = stay_where m new h.1.1
step_stays tests sent m (world.Deliver peer packet) reply new none (inl h) =
    stay_with m peer h.2.after new h.2.changed
    (delivery_ends (grounds_of m peer) (part_at m peer) reply h.2.after h.2.step)
step_stays tests sent m (world.Deliver peer packet) reply new none (inr h) = stay_where m new h.1.1
step_stays tests sent m (world.Resume peer k) reply new none (inl h) =
    let made = as_moves (grounds_of m peer) (part_at m peer) k reply h.after h.step in
    stay_with m peer h.after new h.changed (moves_ends (grounds_of m peer) (part_at m peer) made.0 h.after made.1)
step_stays tests sent m (world.Resume peer k) reply new none (inr h) = stay_where m new h.1.1

-- also at the end of the event
pub ended_stays : (tests : AllTests) (sent : ℕ) (m : Machine) (ev : WorldEvent) (reply : Reply) (new : Machine)
    → TellsNobody ev → Step tests sent m ev reply new → EndsStay m (machine_ended m ev new)
ended_stays tests sent m ev reply new none h i =
    ends_on (part_at m i) (part_at new i) (part_at (machine_ended m ev new) i)
    (step_stays tests sent m ev reply new none h i)
    (alike_ends (part_at new i) (part_at (machine_ended m ev new) i) (ended_alike m ev new i))
