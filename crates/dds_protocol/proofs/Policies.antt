-- What a delivery does changes no reader's policies.
use Rattle.std.proofs.Common.{◌≡◌, ℕ, true, List, [], ◌∷◌, map, refl, ap, sym, ◌∙◌, inl, inr, ⊎_elim}
use Rattle.dds_base.specs.declared.happening.Happening.{Happening}
use Rattle.dds_base.specs.declared.happening.Happening.TheVariants.{Read as HasRead, Took, Heard as WasHeard}
use Rattle.dds_base.specs.declared.qos.ReaderQos.{ReaderQos}
use Rattle.dds_base.specs.Matched.{is_reliable}
use Rattle.dds_machine.specs.declared.call.Call.{Call}
use Rattle.dds_base.specs.declared.endpoint.Endpoint.{Endpoint}
use Rattle.dds_machine.specs.declared.event.WorldEvent.{WorldEvent}
use Rattle.dds_machine.specs.declared.event.WorldEvent.TheVariants as world
use Rattle.dds_machine.specs.declared.reply.Move.{Move}
use Rattle.dds_machine.specs.declared.reply.Move.TheVariants.{Place, Acknowledged, Heard, Begun as HasBegun, Strange}
use Rattle.dds_machine.specs.declared.reply.Reply.{Reply}
use Rattle.dds_machine.specs.declared.reply.Reply.TheVariants.{Done, Refused, Reported}
use Rattle.dds_machine.specs.Calls.{CallStep}
use Rattle.dds_machine.specs.Machine.{Machine, AllTests, part_at, grounds_of, Step}
use Rattle.dds_machine.specs.Numbered.{numbered, with_numbered}
use Rattle.dds_machine.specs.Part.{WriterProxy, Reader, Dds, Part, no_reader, no_part, own_proxies, own_reader, at_reader, with_place, with_begun, with_heard}
use Rattle.dds_machine.specs.Matching.{Telling, MatchReader, UnmatchReader, MatchWriter, UnmatchWriter, MeetReader, MeetWriter, parted_at, reader_joined, reader_left, reader_met, reader_looked_at, seen_after_telling}
use Rattle.dds_machine.specs.Moves.{Grounds, IsMove, AreMoves, DeliveryStep}
use Rattle.dds_machine.specs.Ticks.{TickStep, reader_ticked}
use Rattle.dds_machine.specs.Watching.{Tests}
use Rattle.dds_machine.proofs.Tables.{numbered-cases, numbered-map-cases}
use Rattle.dds_protocol.proofs.Resumed.{as_moves}
use Rattle.dds_protocol.proofs.CallChanges.{CallChange, unchanged, reads, takes, looks, watches, is_told, sees_matches, changes_of}

-- the peer's reader of this number is a reliable one
abbrev pub IsReliableAt : Part → ℕ → Type 0
IsReliableAt part r = is_reliable (own_reader part r).qos.reliability ≡ true

pub at_reader-qos : (old : Part) (k : ℕ) (rows : List WriterProxy) (happened : List Happening) (r : ℕ)
    → (own_reader (at_reader old k rows happened) r).qos ≡ (own_reader old r).qos
at_reader-qos old k rows happened r =
    let reader : Reader = record (own_reader old k) { happened = happened } in
    ⊎_elim (λ s. ap (λ (x : Reader). x.qos) s)
    (λ o. ap (λ (x : Reader). x.qos) o.1 ∙ ap (λ (j : ℕ). (own_reader old j).qos) (sym o.0))
    (numbered-cases old.dds.readers k reader r no_reader)

pub move_qos : (g : Grounds) (old : Part) (m : Move) (new : Part) (r : ℕ) → IsMove g old m new
    → (own_reader new r).qos ≡ (own_reader old r).qos
move_qos g old (Place v k to passed) new r h =
    ap (λ (x : Part). (own_reader x r).qos) h.after ∙ at_reader-qos old k (with_place (own_proxies old k) v to) h.end.happened r
move_qos g old (Acknowledged v k to) new r h = ap (λ (x : Part). (own_reader x r).qos) h.after
move_qos g old (Strange v k) new r h = ap (λ (x : Part). (own_reader x r).qos) h.after
move_qos g old (Heard v k) new r h = ap (λ (x : Part). (own_reader x r).qos) h.after ∙ at_reader-qos old k (with_heard (own_proxies old k) v h.count)
    (WasHeard h.publication old.dds.moment ∷ (own_reader old k).happened) r
move_qos g old (HasBegun v k from to) new r h =
    ap (λ (x : Part). (own_reader x r).qos) h.after
    ∙ at_reader-qos old k (with_begun (own_proxies old k) v to) (own_reader old k).happened r

pub still_reliable : (g : Grounds) (old : Part) (m : Move) (new : Part) (r : ℕ) → IsMove g old m new
    → IsReliableAt old r → IsReliableAt new r
still_reliable g old m new r h reliable =
    ap (λ (q : ReaderQos). is_reliable q.reliability) (move_qos g old m new r h) ∙ reliable

pub moves_qos : (g : Grounds) (old : Part) (ms : List Move) (new : Part) (r : ℕ) → AreMoves g old ms new
    → (own_reader new r).qos ≡ (own_reader old r).qos
moves_qos g old [] new r h = ap (λ (x : Part). (own_reader x r).qos) h
moves_qos g old (m ∷ ms) new r h = moves_qos g h.0 ms new r h.2 ∙ move_qos g old m h.0 r h.1

pub delivery_qos : (g : Grounds) (old : Part) (reply : Reply) (new : Part) (r : ℕ) → DeliveryStep g old reply new
    → (own_reader new r).qos ≡ (own_reader old r).qos
delivery_qos g old (Reported report) new r h = moves_qos g old report.moves new r h
delivery_qos g old reply new r h = absurd h

-- ---- calls

-- the reader of number k has changed, and has the same policies
pub changed_qos : (old : Part) (new : Dds) (k : ℕ) (reader : Reader) (r : ℕ) → reader.qos ≡ (own_reader old k).qos
    → new ≡ record old.dds { readers = with_numbered old.dds.readers k reader }
    → (numbered new.readers r no_reader).qos ≡ (own_reader old r).qos
changed_qos old new k reader r same e =
    ap (λ (d : Dds). (numbered d.readers r no_reader).qos) e
    ∙ ⊎_elim (λ s. ap (λ (x : Reader). x.qos) s)
    (λ o. ap (λ (x : Reader). x.qos) o.1 ∙ (same ∙ ap (λ (j : ℕ). (own_reader old j).qos) (sym o.0)))
    (numbered-cases old.dds.readers k reader r no_reader)

-- a telling leaves the policies
pub telling_qos : (old : Part) (t : Telling) (r : ℕ)
    → (numbered (seen_after_telling old t).readers r no_reader).qos ≡ (own_reader old r).qos
telling_qos old (MatchReader w v reliable) r = refl
telling_qos old (UnmatchReader w v) r = refl
telling_qos old (MatchWriter k w) r =
    changed_qos old (seen_after_telling old (MatchWriter k w)) k (reader_joined (own_reader old k) w) r refl refl
telling_qos old (UnmatchWriter k w) r =
    changed_qos old (seen_after_telling old (UnmatchWriter k w)) k
    (reader_left (own_reader old k) w (parted_at old k w)) r refl refl
telling_qos old (MeetReader w v) r = refl
telling_qos old (MeetWriter k w as_writer) r =
    changed_qos old (seen_after_telling old (MeetWriter k w as_writer)) k
    (reader_met (own_proxies old k) (own_reader old k) w as_writer) r refl refl

change_qos : (old : Part) (new : Dds) (r : ℕ) → CallChange old new
    → (numbered new.readers r no_reader).qos ≡ (own_reader old r).qos
change_qos old new r (unchanged is) = ap (λ (d : Dds). (numbered d.readers r no_reader).qos) is
change_qos old new r (reads k samples is) =
    changed_qos old new k (record (own_reader old k) { happened = HasRead samples ∷ (own_reader old k).happened }) r refl is
change_qos old new r (takes k samples is) =
    changed_qos old new k (record (own_reader old k) { happened = Took samples ∷ (own_reader old k).happened }) r refl is
change_qos old new r (looks k seen is) =
    changed_qos old new k (record (own_reader old k) { seen = seen }) r refl is
change_qos old new r (watches after filters sets is) = ap (λ (d : Dds). (numbered d.readers r no_reader).qos) is
change_qos old new r (is_told t is) =
    ap (λ (d : Dds). (numbered d.readers r no_reader).qos) is ∙ telling_qos old t r
change_qos old new r (sees_matches k is) =
    changed_qos old new k (reader_looked_at (own_proxies old k) (own_reader old k)) r refl is

pub call_qos : (tests : Tests) (old : Part) (c : Call) (reply : Reply) (new : Part) → CallStep tests old c reply new
    → (r : ℕ) → (own_reader new r).qos ≡ (own_reader old r).qos
call_qos tests old c reply new h r = change_qos old new.dds r (changes_of tests old c reply new.dds h.answers)

-- ---- ticks

ticked_qos : (now : ℕ) (rs : List Reader) (r : ℕ)
    → (numbered (map (reader_ticked now) rs) r no_reader).qos ≡ (numbered rs r no_reader).qos
ticked_qos now rs r =
    ⊎_elim (λ e. ap (λ (x : Reader). x.qos) e) (λ n. ap (λ (x : Reader). x.qos) (n.0 ∙ sym n.1))
    (numbered-map-cases (reader_ticked now) rs r no_reader)

pub tick_qos : (old : Part) (now : ℕ) (reply : Reply) (new : Part) → TickStep old now reply new → (r : ℕ)
    → (own_reader new r).qos ≡ (own_reader old r).qos
tick_qos old now Done new h r =
    ap (λ (x : Part). (own_reader x r).qos) h.1.1 ∙ ticked_qos now old.dds.readers r
tick_qos old now (Refused code) new h r = ap (λ (x : Part). (own_reader x r).qos) h.1.1
tick_qos old now reply new h r = absurd h.1

-- ---- the machine

-- the policies of a reader stay
pub reader_qos_at : (m : Machine) (peer : ℕ) (after : Part) (new : Machine) (r : Endpoint)
    → new ≡ record { parts = with_numbered m.parts peer after }
    → ((k : ℕ) → (own_reader after k).qos ≡ (own_reader (part_at m peer) k).qos)
    → (own_reader (part_at new r.peer) r.number).qos ≡ (own_reader (part_at m r.peer) r.number).qos
reader_qos_at m peer after new r changed same =
    ap (λ (x : Machine). (own_reader (part_at x r.peer) r.number).qos) changed
    ∙ ⊎_elim (λ s. ap (λ (x : Part). (own_reader x r.number).qos) s)
    (λ o. ap (λ (x : Part). (own_reader x r.number).qos) o.1
    ∙ (same r.number ∙ ap (λ (j : ℕ). (own_reader (part_at m j) r.number).qos) (sym o.0)))
    (numbered-cases m.parts peer after r.peer no_part)

pub Step-qos : (tests : AllTests) (sent : ℕ) (m : Machine) (ev : WorldEvent) (reply : Reply) (new : Machine)
    (r : Endpoint) → Step tests sent m ev reply new
    → (own_reader (part_at new r.peer) r.number).qos ≡ (own_reader (part_at m r.peer) r.number).qos
Step-qos tests sent m (world.Call peer c) reply new r (inl h) =
    reader_qos_at m peer h.after new r h.changed
    (call_qos (tests peer) (part_at m peer) c reply h.after h.step)
Step-qos tests sent m (world.Call peer c) reply new r (inr h) =
    ap (λ (x : Machine). (own_reader (part_at x r.peer) r.number).qos) h.1.1
Step-qos tests sent m (world.Tick peer now) reply new r (inl h) =
    reader_qos_at m peer h.after new r h.changed (tick_qos (part_at m peer) now reply h.after h.step)
Step-qos tests sent m (world.Tick peer now) reply new r (inr h) =
    ap (λ (x : Machine). (own_reader (part_at x r.peer) r.number).qos) h.1.1
Step-qos tests sent m (world.Deliver peer packet) reply new r (inl h) =
    reader_qos_at m peer h.2.after new r h.2.changed
    (λ k. delivery_qos (grounds_of m peer) (part_at m peer) reply h.2.after k h.2.step)
Step-qos tests sent m (world.Deliver peer packet) reply new r (inr h) =
    ap (λ (x : Machine). (own_reader (part_at x r.peer) r.number).qos) h.1.1
Step-qos tests sent m (world.Resume peer k) reply new r (inl h) =
    let made = as_moves (grounds_of m peer) (part_at m peer) k reply h.after h.step in
    reader_qos_at m peer h.after new r h.changed
    (λ n. moves_qos (grounds_of m peer) (part_at m peer) made.0 h.after n made.1)
Step-qos tests sent m (world.Resume peer k) reply new r (inr h) =
    ap (λ (x : Machine). (own_reader (part_at x r.peer) r.number).qos) h.1.1
