-- While nobody comes or goes nobody has.
use Rattle.std.proofs.Common.{◌≡◌, ℕ, zero, suc, ◌+◌, ◌==◌, ◌&&◌, ◌≤◌, Bool, true, false, cond, get_or, map, List, [], ◌∷◌, ◌++◌, Option, None, Some, refl, subst, ap, sym, ◌∙◌, inl, inr, ⊎_elim, arith}
use Rattle.std.specs.Prelude.{IsSome}
use Rattle.std.specs.Option.{option_map, option_map_or}
use Rattle.std.proofs.lemmas.Option.{same_Some}
use Rattle.dds_base.specs.declared.config.Config.{Config}
use Rattle.dds_base.specs.declared.config.PeerConfig.{PeerConfig}
use Rattle.dds_base.specs.declared.config.WriterConfig.{WriterConfig}
use Rattle.dds_base.specs.declared.config.ReaderConfig.{ReaderConfig}
use Rattle.dds_base.specs.declared.qos.ReaderQos.{ReaderQos}
use Rattle.dds_base.specs.Matched.{is_reliable, is_reliable_reader, same_topic}
use Rattle.dds_base.specs.declared.endpoint.Endpoint.{Endpoint}
use Rattle.dds_machine.specs.declared.event.WorldEvent.{WorldEvent}
use Rattle.dds_machine.specs.declared.event.WorldEvent.TheVariants as world
use Rattle.dds_machine.specs.declared.reply.Move.{Move}
use Rattle.dds_machine.specs.declared.reply.Move.TheVariants.{Place, Acknowledged, Heard, Begun as HasBegun, Strange}
use Rattle.dds_machine.specs.declared.reply.Reply.{Reply}
use Rattle.dds_machine.specs.declared.reply.Reply.TheVariants.{Refused, Reported}
use Rattle.dds_machine.specs.Machine.{Machine, AllTests, part_at, place_at, writer_at, grounds_of, Step}
use Rattle.dds_machine.specs.Moves.{Grounds, IsMove, AreMoves, DeliveryStep, ResumeStep}
use Rattle.dds_machine.specs.Noticing.{machine_ended}
use Rattle.dds_machine.specs.Numbered.{numbered, with_numbered}
use Rattle.dds_machine.specs.Opening.{matched_writers, reliable_readers, opening_writer, opening_part, opening}
use Rattle.dds_machine.specs.Part.{Away, Waiting, Begun, same_endpoint, ReaderProxy, WriterProxy, Writer, Part, IsAtMost, no_part, no_writer, row_of, with_row, acknowledged_of, own_proxies, own_reader, own_writer, with_acknowledged, with_place, with_heard}
use Rattle.dds_machine.specs.Runs.{Run}
use Rattle.dds_machine.proofs.Tables.{at_most_on, numbered-cases, row-cases}
use Rattle.dds_protocol.specs.Closed.{BeginNone, IsClosed, NobodyTold, NoneBegins, TellsNobody}
use Rattle.dds_protocol.specs.Noticing.{world_ended}
use Rattle.dds_protocol.specs.Opening.{opening_world}
use Rattle.dds_protocol.specs.World.{WorldState, machine_of}
use Rattle.dds_protocol.proofs.Alike.{AlikeParts, alike_readers}
use Rattle.dds_protocol.proofs.EndsBeside.{ended_alike, machine_ends}
use Rattle.dds_protocol.proofs.Ends.{EndsStay, alike_ends, call_proxies, call_readers, ended_stays}
use Rattle.dds_protocol.proofs.EndsOpened.{opens_rows, opens_places}
use Rattle.dds_protocol.proofs.Resumed.{as_moves, places_begin_none}
use Rattle.dds_protocol.proofs.Growth.{TickStep-rows, TickStep-acknowledged}
use Rattle.dds_protocol.proofs.Opened.{opening_is, writers_in, readers_in}
use Rattle.dds_protocol.proofs.SameBeside.{SameBeside, parts_alike}

-- ---- rows

-- the place of this row, if there is one, has begun
abbrev IsBegun : Option WriterProxy → Type 0
IsBegun o = (row : WriterProxy) → o ≡ Some row → row.how ≡ Begun

abbrev RowsBegun : List WriterProxy → Type 0
RowsBegun rows = (w : Endpoint) → IsBegun (row_of (λ (p : WriterProxy). p.writer) rows w)

still_begun : (change : WriterProxy → WriterProxy) → ((p : WriterProxy) → (change p).how ≡ p.how)
    → (o : Option WriterProxy) → IsBegun o → IsBegun (option_map change o)
still_begun change kept None h row e = cc
still_begun change kept (Some x) h row e =
    sym (ap (λ (p : WriterProxy). p.how) (same_Some (change x) row e)) ∙ (kept x ∙ h x refl)

rows_begun : (change : WriterProxy → WriterProxy) → ((p : WriterProxy) → (change p).writer ≡ p.writer)
    → ((p : WriterProxy) → (change p).how ≡ p.how) → (rows : List WriterProxy) (v : Endpoint) → RowsBegun rows
    → RowsBegun (with_row (λ (p : WriterProxy). p.writer) change rows v)
rows_begun change named kept rows v h w =
    ⊎_elim (λ e. subst (λ (o : Option WriterProxy). IsBegun o) (sym e) (h w))
    (λ s. subst (λ (o : Option WriterProxy). IsBegun o) (sym s.1)
    (still_begun change kept (row_of (λ (p : WriterProxy). p.writer) rows v) (h v)))
    (row-cases (λ (p : WriterProxy). p.writer) change named rows v w)

-- the reader of this row, if there is one, is owed all
abbrev IsOwedAll : Option ReaderProxy → Type 0
IsOwedAll o = (row : ReaderProxy) → o ≡ Some row → row.first ≤ 1

abbrev RowsOwed : List ReaderProxy → Type 0
RowsOwed rows = (r : Endpoint) → IsOwedAll (row_of (λ (p : ReaderProxy). p.reader) rows r)

owed_row_is : (p row : ReaderProxy) → p.first ≤ 1 → ◌≡◌ {A = Option ReaderProxy} (Some p) (Some row) → row.first ≤ 1
owed_row_is p row low e = subst (λ (q : ReaderProxy). q.first ≤ 1) (same_Some p row e) low

still_owed : (to : ℕ) (o : Option ReaderProxy) → IsOwedAll o
    → IsOwedAll (option_map (λ (p : ReaderProxy). record p { acknowledged = to }) o)
still_owed to None h row e = cc
still_owed to (Some x) h row e = owed_row_is (record x { acknowledged = to }) row (h x refl) e

rows_owed : (rows : List ReaderProxy) (v : Endpoint) (to : ℕ) → RowsOwed rows → RowsOwed (with_acknowledged rows v to)
rows_owed rows v to h r =
    ⊎_elim (λ e. subst (λ (o : Option ReaderProxy). IsOwedAll o) (sym e) (h r))
    (λ s. subst (λ (o : Option ReaderProxy). IsOwedAll o) (sym s.1)
    (still_owed to (row_of (λ (p : ReaderProxy). p.reader) rows v) (h v)))
    (row-cases (λ (p : ReaderProxy). p.reader) (λ (p : ReaderProxy). record p { acknowledged = to }) (λ p. refl) rows v r)

-- ---- parts

record PartClosed (part : Part) : Type 0 where
  begun : (r : ℕ) → RowsBegun (own_proxies part r)
  owed : (k : ℕ) → RowsOwed (own_writer part k).readers

same_closed : (old new : Part) → ((r : ℕ) → own_proxies new r ≡ own_proxies old r)
    → ((k : ℕ) → (own_writer new k).readers ≡ (own_writer old k).readers) → PartClosed old → PartClosed new
same_closed old new proxies readers c = record {
  begun = λ r. subst (λ (rows : List WriterProxy). RowsBegun rows) (sym (proxies r)) (c.begun r);
  owed = λ k. subst (λ (rows : List ReaderProxy). RowsOwed rows) (sym (readers k)) (c.owed k);
}

alike_closed : (old new : Part) → AlikeParts old new → PartClosed old → PartClosed new
alike_closed old new alike c =
    same_closed old new (λ r. ap (λ (rows : List (List WriterProxy)). numbered rows r []) alike.rows)
    (λ k. alike_readers (own_writer old k) (own_writer new k) (alike.writers k)) c

set_begun : (old : Part) (k : ℕ) (rows : List WriterProxy) → PartClosed old → RowsBegun rows → (r : ℕ)
    → RowsBegun (numbered (with_numbered old.rtps.readers k rows) r [])
set_begun old k rows c h r =
    ⊎_elim (λ e. subst (λ (xs : List WriterProxy). RowsBegun xs) (sym e) (c.begun r))
    (λ s. subst (λ (xs : List WriterProxy). RowsBegun xs) (sym s.1) h)
    (numbered-cases old.rtps.readers k rows r [])

-- ---- what an event does

-- no place waits there, so none begins
none_begins : (g : Grounds) (old : Part) (w : Endpoint) (r from to : ℕ) (new : Part) → PartClosed old
    → IsMove g old (HasBegun w r from to) new → ⊥
none_begins g old w r from to new c h = by (row_of (λ (p : WriterProxy). p.writer) (own_proxies old r) w) refl
  where
    by : (o : Option WriterProxy) → row_of (λ (p : WriterProxy). p.writer) (own_proxies old r) w ≡ o → ⊥
    by None e =
        let at : ◌≡◌ {A = Option ℕ} None (Some from) =
        sym (ap (λ (x : Option WriterProxy). option_map (λ (p : WriterProxy). p.place) x) e) ∙ h.at in
        cc
    by (Some row) e =
        let waits : Waiting ≡ row.how =
        sym h.waits ∙ ap (λ (x : Option WriterProxy). option_map_or (λ (p : WriterProxy). p.how) x Away) e in
        let begun : Waiting ≡ Begun = waits ∙ c.begun r w row e in
        cc

move_closed : (g : Grounds) (old : Part) (m : Move) (new : Part) → PartClosed old → IsMove g old m new → PartClosed new
move_closed g old (Place w r to passed) new c h =
    subst (λ (q : Part). PartClosed q) (sym h.after) (record {
      begun = set_begun old r (with_place (own_proxies old r) w to) c
          (rows_begun (λ (p : WriterProxy). record p { place = to }) (λ p. refl) (λ p. refl) (own_proxies old r) w
          (c.begun r));
      owed = λ k. c.owed k;
    })
move_closed g old (Heard w r) new c h =
    subst (λ (q : Part). PartClosed q) (sym h.after) (record {
      begun = set_begun old r (with_heard (own_proxies old r) w h.count) c
          (rows_begun (λ (p : WriterProxy). record p { heard = Some h.count }) (λ p. refl) (λ p. refl)
          (own_proxies old r) w (c.begun r));
      owed = λ k. c.owed k;
    })
move_closed g old (HasBegun w r from to) new c h = absurd (none_begins g old w r from to new c h)
move_closed g old (Strange w r) new c h = subst (λ (q : Part). PartClosed q) (sym h.after) c
move_closed g old (Acknowledged w r to) new c h =
    let after : Writer = record (own_writer old w) { readers = with_acknowledged (own_writer old w).readers r to } in
    subst (λ (q : Part). PartClosed q) (sym h.after) (record {
      begun = λ k. c.begun k;
      owed = λ k.
          ⊎_elim (λ e. subst (λ (x : Writer). RowsOwed x.readers) (sym e) (c.owed k))
          (λ s. subst (λ (x : Writer). RowsOwed x.readers) (sym s.1)
          (rows_owed (own_writer old w).readers r to (c.owed w)))
          (numbered-cases old.rtps.writers w after k no_writer);
    })

moves_closed : (g : Grounds) (old : Part) (ms : List Move) (new : Part) → PartClosed old → AreMoves g old ms new
    → PartClosed new
moves_closed g old [] new c h = subst (λ (q : Part). PartClosed q) (sym h) c
moves_closed g old (m ∷ ms) new c h = moves_closed g h.0 ms new (move_closed g old m h.0 c h.1) h.2

moves_begin_none : (g : Grounds) (old : Part) (ms : List Move) (new : Part) → PartClosed old → AreMoves g old ms new
    → BeginNone ms
moves_begin_none g old [] new c h = tt
moves_begin_none g old (HasBegun w r from to ∷ ms) new c h = absurd (none_begins g old w r from to h.0 c h.1)
moves_begin_none g old (Place w r to passed ∷ ms) new c h =
    moves_begin_none g h.0 ms new (move_closed g old (Place w r to passed) h.0 c h.1) h.2
moves_begin_none g old (Heard w r ∷ ms) new c h =
    moves_begin_none g h.0 ms new (move_closed g old (Heard w r) h.0 c h.1) h.2
moves_begin_none g old (Strange w r ∷ ms) new c h =
    moves_begin_none g h.0 ms new (move_closed g old (Strange w r) h.0 c h.1) h.2
moves_begin_none g old (Acknowledged w r to ∷ ms) new c h =
    moves_begin_none g h.0 ms new (move_closed g old (Acknowledged w r to) h.0 c h.1) h.2

delivery_closed : (g : Grounds) (old : Part) (reply : Reply) (new : Part) → PartClosed old → DeliveryStep g old reply new
    → PartClosed new
delivery_closed g old (Reported report) new c h = moves_closed g old report.moves new c h
delivery_closed g old reply new c h = absurd h

-- ---- the machine

abbrev AllClosed : Machine → Type 0
AllClosed m = (i : ℕ) → PartClosed (part_at m i)

parts_of : (m : Machine) → IsClosed m → AllClosed m
parts_of m c i = record {
  begun = λ r w row e. c.begun (record { peer = i; number = r }) w row e;
  owed = λ k r row e. c.owed (record { peer = i; number = k }) r row e;
}

-- whoever has a place has a row where it is a reliable one, and whoever has a row has a place
abbrev AreKnown : Machine → Type 0
AreKnown m =
    (w r : Endpoint) → IsSome (place_at m r w)
    → is_reliable (own_reader (part_at m r.peer) r.number).qos.reliability ≡ true
    → IsSome (acknowledged_of (writer_at m w).readers r)

abbrev ArePlaced : Machine → Type 0
ArePlaced m = (w r : Endpoint) → IsSome (acknowledged_of (writer_at m w).readers r) → IsAtMost 1 (place_at m r w)

of_parts : (m : Machine) → AllClosed m → AreKnown m → ArePlaced m → IsClosed m
of_parts m c known placed = record {
  begun = λ r w row e. (c r.peer).begun r.number w row e;
  known = known;
  owed = λ w r row e. (c w.peer).owed w.number r row e;
  placed = placed;
}

known_on : (old new : Machine) → EndsStay old new → AreKnown old → AreKnown new
known_on old new e h w r placed reliable =
    (e w.peer).rows w.number r
    ∙ h w r (sym ((e r.peer).places r.number w) ∙ placed)
    (ap (λ (q : ReaderQos). is_reliable q.reliability) (sym ((e r.peer).qos r.number)) ∙ reliable)

placed_on : (old new : Machine) → EndsStay old new → ArePlaced old → ArePlaced new
placed_on old new e h w r has =
    at_most_on 1 (place_at old r w) (place_at new r w) (h w r (sym ((e w.peer).rows w.number r) ∙ has))
    ((e r.peer).further r.number w)

with_closed : (m : Machine) (peer : ℕ) (after : Part) (new : Machine)
    → new ≡ record { parts = with_numbered m.parts peer after } → AllClosed m → PartClosed after → AllClosed new
with_closed m peer after new is c h =
    subst (λ (x : Machine). AllClosed x) (sym is)
    (λ i. ⊎_elim (λ e. subst (λ (q : Part). PartClosed q) (sym e) (c i))
    (λ s. subst (λ (q : Part). PartClosed q) (sym s.1) h)
    (numbered-cases m.parts peer after i no_part))

ended_closed : (before : Machine) (e : WorldEvent) (m : Machine) → AllClosed m → AllClosed (machine_ended before e m)
ended_closed before e m c i =
    alike_closed (part_at m i) (part_at (machine_ended before e m) i) (ended_alike before e m i) (c i)

step_closed : (tests : AllTests) (sent : ℕ) (m : Machine) (ev : WorldEvent) (reply : Reply) (new : Machine)
    → TellsNobody ev → AllClosed m → Step tests sent m ev reply new → AllClosed new
step_closed tests sent m (world.Call peer c) reply new none a (inl h) =
    let old : Part = part_at m peer in
    with_closed m peer h.after new h.changed a
    (same_closed old h.after (call_proxies (tests peer) old peer c reply h.after none h.step)
    (call_readers (tests peer) old peer c reply h.after none h.step) (a peer))
step_closed tests sent m (world.Call peer c) reply new none a (inr h) =
    subst (λ (x : Machine). AllClosed x) (sym h.1.1) a
step_closed tests sent m (world.Tick peer now) reply new none a (inl h) =
    with_closed m peer h.after new h.changed a
    (same_closed (part_at m peer) h.after
    (λ r. ap (λ (rows : List (List WriterProxy)). numbered rows r [])
    (TickStep-rows (part_at m peer) now reply h.after h.step))
    (TickStep-acknowledged (part_at m peer) now reply h.after h.step) (a peer))
step_closed tests sent m (world.Tick peer now) reply new none a (inr h) =
    subst (λ (x : Machine). AllClosed x) (sym h.1.1) a
step_closed tests sent m (world.Deliver peer packet) reply new none a (inl h) =
    with_closed m peer h.2.after new h.2.changed a
    (delivery_closed (grounds_of m peer) (part_at m peer) reply h.2.after (a peer) h.2.step)
step_closed tests sent m (world.Deliver peer packet) reply new none a (inr h) =
    subst (λ (x : Machine). AllClosed x) (sym h.1.1) a
step_closed tests sent m (world.Resume peer k) reply new none a (inl h) =
    let made = as_moves (grounds_of m peer) (part_at m peer) k reply h.after h.step in
    with_closed m peer h.after new h.changed a
    (moves_closed (grounds_of m peer) (part_at m peer) made.0 h.after (a peer) made.1)
step_closed tests sent m (world.Resume peer k) reply new none a (inr h) =
    subst (λ (x : Machine). AllClosed x) (sym h.1.1) a

-- a network that differs in what its calls and listeners see is closed too
pub closed_beside : (old new : WorldState) → SameBeside old new → IsClosed (machine_of old) → IsClosed (machine_of new)
closed_beside old new s c =
    let m : Machine = machine_of old in
    let m' : Machine = machine_of new in
    let stay : EndsStay m m' = λ i. alike_ends (part_at m i) (part_at m' i) (parts_alike old new s i) in
    of_parts m' (λ i. alike_closed (part_at m i) (part_at m' i) (parts_alike old new s i) (parts_of m c i))
    (known_on m m' stay (λ w r. c.known w r)) (placed_on m m' stay (λ w r. c.placed w r))

pub stays_closed : (tests : AllTests) (sent : ℕ) (m : Machine) (ev : WorldEvent) (reply : Reply) (new : Machine)
    → TellsNobody ev → IsClosed m → Step tests sent m ev reply new → IsClosed (machine_ended m ev new)
stays_closed tests sent m ev reply new none c h =
    let stay : EndsStay m (machine_ended m ev new) = ended_stays tests sent m ev reply new none h in
    of_parts (machine_ended m ev new)
    (ended_closed m ev new (step_closed tests sent m ev reply new none (parts_of m c) h))
    (known_on m (machine_ended m ev new) stay (λ w r. c.known w r))
    (placed_on m (machine_ended m ev new) stay (λ w r. c.placed w r))

-- so it is of a network at the end of an event
pub world_closed : (tests : AllTests) (sent : ℕ) (before : WorldState) (e : WorldEvent) (reply : Reply)
    (world : WorldState) → TellsNobody e → IsClosed (machine_of before)
    → Step tests sent (machine_of before) e reply (machine_of world)
    → IsClosed (machine_of (world_ended before e world))
world_closed tests sent before e reply world none c h =
    subst (λ (m : Machine). IsClosed m) (sym (machine_ends before e world))
    (stays_closed tests sent (machine_of before) e reply (machine_of world) none c h)

pub runs_closed : (tests : AllTests) (sent : ℕ) (m : Machine) (events : List WorldEvent) (replies : List Reply) (last : ℕ)
    (after : Machine)
    → NobodyTold events → IsClosed m → Run tests sent m events replies last after → IsClosed after
runs_closed tests sent m [] [] last after none c h = subst (λ (x : Machine). IsClosed x) (sym h.0) c
runs_closed tests sent m [] (reply ∷ replies) last after none c h = absurd h
runs_closed tests sent m (ev ∷ events) [] last after none c h = absurd h
runs_closed tests sent m (ev ∷ events) (reply ∷ replies) last after none c h =
    runs_closed tests h.1 (machine_ended m ev h.0) events replies last after none.1
    (stays_closed tests sent m ev reply h.0 none.0 c h.2) h.4

-- what a delivery reports goes before what the others do
delivery_begins : (g : Grounds) (old : Part) (peer packet : ℕ) (reply : Reply) (new : Part) (events : List WorldEvent)
    (replies : List Reply) → PartClosed old → DeliveryStep g old reply new → NoneBegins events replies
    → NoneBegins (world.Deliver peer packet ∷ events) (reply ∷ replies)
delivery_begins g old peer packet (Reported report) new events replies c h rest =
    (moves_begin_none g old report.moves new c h, rest)
delivery_begins g old peer packet reply new events replies c h rest = absurd h

-- so does what is reported where places are tried again
resume_begins : (g : Grounds) (old : Part) (peer k : ℕ) (reply : Reply) (new : Part) (events : List WorldEvent)
    (replies : List Reply) → ResumeStep g old k reply new → NoneBegins events replies
    → NoneBegins (world.Resume peer k ∷ events) (reply ∷ replies)
resume_begins g old peer k (Reported report) new events replies h rest = (places_begin_none k report.moves h.1, rest)
resume_begins g old peer k (Refused code) new events replies h rest = rest
resume_begins g old peer k reply new events replies h rest = absurd h

step_begins : (tests : AllTests) (sent : ℕ) (m : Machine) (ev : WorldEvent) (reply : Reply) (new : Machine)
    (events : List WorldEvent) (replies : List Reply) → IsClosed m → Step tests sent m ev reply new
    → NoneBegins events replies → NoneBegins (ev ∷ events) (reply ∷ replies)
step_begins tests sent m (world.Call peer c) reply new events replies closed h rest = rest
step_begins tests sent m (world.Tick peer now) reply new events replies closed h rest = rest
step_begins tests sent m (world.Deliver peer packet) reply new events replies closed (inl h) rest =
    delivery_begins (grounds_of m peer) (part_at m peer) peer packet reply h.2.after events replies
    (parts_of m closed peer) h.2.step rest
step_begins tests sent m (world.Deliver peer packet) reply new events replies closed (inr h) rest =
    subst (λ (x : Reply). NoneBegins (world.Deliver peer packet ∷ events) (x ∷ replies)) (sym h.1.0) rest
step_begins tests sent m (world.Resume peer k) reply new events replies closed (inl h) rest =
    resume_begins (grounds_of m peer) (part_at m peer) peer k reply h.after events replies h.step rest
step_begins tests sent m (world.Resume peer k) reply new events replies closed (inr h) rest =
    subst (λ (x : Reply). NoneBegins (world.Resume peer k ∷ events) (x ∷ replies)) (sym h.1.0) rest

pub begins_none : (tests : AllTests) (sent : ℕ) (m : Machine) (events : List WorldEvent) (replies : List Reply) (last : ℕ)
    (after : Machine) → NobodyTold events → IsClosed m → Run tests sent m events replies last after
    → NoneBegins events replies
begins_none tests sent m [] [] last after none c h = tt
begins_none tests sent m [] (reply ∷ replies) last after none c h = absurd h
begins_none tests sent m (ev ∷ events) [] last after none c h = absurd h
begins_none tests sent m (ev ∷ events) (reply ∷ replies) last after none c h =
    step_begins tests sent m ev reply h.0 events replies c h.2
    (begins_none tests h.1 (machine_ended m ev h.0) events replies last after none.1
    (stays_closed tests sent m ev reply h.0 none.0 c h.2) h.4)

-- ---- the opening

-- each row has begun, and each is owed all
abbrev AllBegun : List WriterProxy → Type 0
AllBegun [] = Unit {0}
AllBegun (p ∷ ps) = (p.how ≡ Begun) × AllBegun ps

abbrev AllOwed : List ReaderProxy → Type 0
AllOwed [] = Unit {0}
AllOwed (p ∷ ps) = (p.first ≤ 1) × AllOwed ps

begun_found : (rows : List WriterProxy) → AllBegun rows → RowsBegun rows
begun_found [] f w = λ row e. cc
begun_found (p ∷ ps) f w = by (same_endpoint p.writer w) (begun_found ps f.1 w)
  where
    by : (b : Bool) → IsBegun (row_of (λ (x : WriterProxy). x.writer) ps w)
        → IsBegun (cond b (Some p) (row_of (λ (x : WriterProxy). x.writer) ps w))
    by true rest = λ row e. sym (ap (λ (x : WriterProxy). x.how) (same_Some p row e)) ∙ f.0
    by false rest = rest

owed_found : (rows : List ReaderProxy) → AllOwed rows → RowsOwed rows
owed_found [] f r = λ row e. cc
owed_found (p ∷ ps) f r = by (same_endpoint p.reader r) (owed_found ps f.1 r)
  where
    by : (b : Bool) → IsOwedAll (row_of (λ (x : ReaderProxy). x.reader) ps r)
        → IsOwedAll (cond b (Some p) (row_of (λ (x : ReaderProxy). x.reader) ps r))
    by true rest = λ row e. owed_row_is p row f.0 e
    by false rest = rest

begun_or : (b : Bool) (p : WriterProxy) (rows : List WriterProxy) → p.how ≡ Begun → AllBegun rows
    → AllBegun (cond b (p ∷ rows) rows)
begun_or true p rows begun f = (begun, f)
begun_or false p rows begun f = f

begun_both : (xs ys : List WriterProxy) → AllBegun xs → AllBegun ys → AllBegun (xs ++ ys)
begun_both [] ys f g = g
begun_both (x ∷ xs) ys f g = (f.0, begun_both xs ys f.1 g)

owed_or : (b : Bool) (p : ReaderProxy) (rows : List ReaderProxy) → p.first ≤ 1 → AllOwed rows
    → AllOwed (cond b (p ∷ rows) rows)
owed_or true p rows all f = (all, f)
owed_or false p rows all f = f

owed_both : (xs ys : List ReaderProxy) → AllOwed xs → AllOwed ys → AllOwed (xs ++ ys)
owed_both [] ys f g = g
owed_both (x ∷ xs) ys f g = (f.0, owed_both xs ys f.1 g)

begun_row : (topic peer n : ℕ) (ws : List WriterConfig) → AllBegun (writers_in topic peer n ws)
begun_row topic peer n [] = tt
begun_row topic peer n (x ∷ ws) =
    begun_or (x.topic == topic)
    (record { writer = record { peer = peer; number = n }; place = 1; heard = None; how = Begun })
    (writers_in topic peer (n + 1) ws) refl (begun_row topic peer (n + 1) ws)

begun_rows : (topic peer : ℕ) (ps : List PeerConfig) → AllBegun (matched_writers topic peer ps)
begun_rows topic peer [] = tt
begun_rows topic peer (p ∷ ps) =
    let here : AllBegun (writers_in topic peer 1 p.writers) = begun_row topic peer 1 p.writers in
    begun_both (writers_in topic peer 1 p.writers) (matched_writers topic (peer + 1) ps) here
    (begun_rows topic (peer + 1) ps)

owed_row : (topic peer n : ℕ) (rs : List ReaderConfig) → AllOwed (readers_in topic peer n rs)
owed_row topic peer n [] = tt
owed_row topic peer n (x ∷ rs) =
    owed_or (is_reliable_reader x && same_topic x.topic topic)
    (record { reader = record { peer = peer; number = n }; first = 1; acknowledged = 1 })
    (readers_in topic peer (n + 1) rs) (omega arith) (owed_row topic peer (n + 1) rs)

owed_rows : (topic peer : ℕ) (ps : List PeerConfig) → AllOwed (reliable_readers topic peer ps)
owed_rows topic peer [] = tt
owed_rows topic peer (p ∷ ps) =
    let here : AllOwed (readers_in topic peer 1 p.readers) = owed_row topic peer 1 p.readers in
    owed_both (readers_in topic peer 1 p.readers) (reliable_readers topic (peer + 1) ps) here
    (owed_rows topic (peer + 1) ps)

begun_reader : (peers : List PeerConfig) (rs : List ReaderConfig) (k : ℕ)
    → AllBegun (get_or (map (λ (x : ReaderConfig). matched_writers x.topic 1 peers) rs) k [])
begun_reader peers [] k = tt
begun_reader peers (x ∷ rs) zero = begun_rows x.topic 1 peers
begun_reader peers (x ∷ rs) (suc k) = begun_reader peers rs k

owed_writer : (peers : List PeerConfig) (ws : List WriterConfig) (k : ℕ)
    → AllOwed (get_or (map (opening_writer peers) ws) k no_writer).readers
owed_writer peers [] k = tt
owed_writer peers (x ∷ ws) zero = owed_rows x.topic 1 peers
owed_writer peers (x ∷ ws) (suc k) = owed_writer peers ws k

none_closed : PartClosed no_part
none_closed = record {
  begun = λ r. begun_found (own_proxies no_part r) (proxies r);
  owed = λ k. owed_found (own_writer no_part k).readers (readers k);
}
  where
    proxies : (r : ℕ) → AllBegun (own_proxies no_part r)
    proxies zero = tt
    proxies (suc r) = tt

    readers : (k : ℕ) → AllOwed (own_writer no_part k).readers
    readers zero = tt
    readers (suc k) = tt

part_closed : (peers : List PeerConfig) (p : PeerConfig) → PartClosed (opening_part peers p)
part_closed peers p = record {
  begun = λ r. begun_found (own_proxies (opening_part peers p) r) (proxies r);
  owed = λ k. owed_found (own_writer (opening_part peers p) k).readers (readers k);
}
  where
    proxies : (r : ℕ) → AllBegun (own_proxies (opening_part peers p) r)
    proxies zero = tt
    proxies (suc r) = begun_reader peers p.readers r

    readers : (k : ℕ) → AllOwed (own_writer (opening_part peers p) k).readers
    readers zero = tt
    readers (suc k) = owed_writer peers p.writers k

parts_closed : (peers ps : List PeerConfig) (i : ℕ) → PartClosed (get_or (map (opening_part peers) ps) i no_part)
parts_closed peers [] i = none_closed
parts_closed peers (p ∷ ps) zero = part_closed peers p
parts_closed peers (p ∷ ps) (suc i) = parts_closed peers ps i

pub opens_closed : (config : Config) → IsClosed (opening config)
opens_closed config = of_parts (opening config) all (opens_rows config) (opens_places config)
  where
    all : (i : ℕ) → PartClosed (part_at (opening config) i)
    all zero = none_closed
    all (suc i) = parts_closed config.peers config.peers i

-- the network's machine is
pub opened_closed : (config : Config) → IsClosed (machine_of (opening_world config))
opened_closed config = subst (λ (m : Machine). IsClosed m) (sym (opening_is config)) (opens_closed config)
