-- What one of the peer's readers does with a submessage rests on what packets claim.
use Rattle.std.proofs.Common.{◌≡◌, ◌⊎◌, ℕ, ℤ, ◌-◌, ◌<◌, ◌≤◌, ◌&&◌, ◌||◌, Bool, true, false, nat_lt, nat_le, List, [], ◌∷◌, Option, Some, None, refl, subst, ap, sym, ◌∙◌, inl, inr, ⊎_elim, arith, eq-eqb, max}
use Rattle.std.specs.Prelude.{if◌then◌else◌}
use Rattle.std.specs.Option.{option_map}
use Rattle.std.proofs.lemmas.Bool.Decides.{nat_tests}
use Rattle.std.proofs.lemmas.Option.{same_Some}
use Rattle.dds_base.specs.declared.change.Change.{Change}
use Rattle.dds_protocol.specs.Roster.{IsRoster, Roster}
use Rattle.dds_base.specs.declared.guid.EntityId.{EntityId}
use Rattle.dds_base.specs.declared.guid.GuidPrefix.{GuidPrefix}
use Rattle.dds_base.specs.declared.happening.Happening.{Happening}
use Rattle.dds_base.specs.declared.happening.Happening.TheVariants.{Passed}
use Rattle.dds_base.specs.Matched.{is_reliable}
use Rattle.dds_base.specs.declared.qos.ReaderQos.{ReaderQos}
use Rattle.dds_base.specs.Places.{Match, MayPassOver, PlaceWith, coming, GoesTo}
use Rattle.dds_base.specs.Presence.{has_room}
use Rattle.dds_base.proofs.PlaceLaws.{goes_nowhere}
use Rattle.dds_base.specs.Counts.{is_later}
use Rattle.rtps_sets.specs.NumberSet.{NumberSet, has_number}
use Rattle.rtps_sets.specs.Window.{is_in_window}
use Rattle.rtps_reader.specs.Tracked.{Slot, Missing, Held, Irrelevant, Tracked, is_missing, is_passable, is_passable_slot, is_named, with_data, with_gap}
use Rattle.rtps_reader.specs.Advance.{known}
use Rattle.rtps_reader.specs.Jump.{jumped_to, comes, JumpsIf, Jumps}
use Rattle.rtps_wire.specs.declared.data.Data.{Data as DataBody}
use Rattle.rtps_wire.specs.declared.gap.Gap.{Gap as GapBody}
use Rattle.rtps_wire.specs.declared.submessage.Submessage.{Submessage}
use Rattle.rtps_wire.specs.declared.submessage.Submessage.TheVariants.{Data, Heartbeat, Gap}
use Rattle.rtps_wire.specs.Content.{change_in}
use Rattle.dds_base.specs.declared.endpoint.Endpoint.{Endpoint}
use Rattle.dds_machine.specs.declared.reply.Move.{Move}
use Rattle.dds_machine.specs.declared.reply.Move.TheVariants.{Place}
use Rattle.dds_machine.specs.Numbered.{HasNumber}
use Rattle.dds_machine.specs.Part.{Attachment, Away, Waiting, Begun, WriterProxy, Part, own_proxies, own_reader, place_of, row_of, with_begun, heard_of, at_reader}
use Rattle.dds_machine.specs.Moves.{Grounds, as_to, match_of, position_at, IsMatchedAt, AreMoves}
use Rattle.dds_protocol.specs.Claims.{Receiver, IsToReader, Claim, ChangeIs, MayPass, Says, Claimed}
use Rattle.dds_protocol.specs.Receipt.{GoesOver, HasNoRoom}
use Rattle.dds_protocol.specs.Peer.{Delivery, claimed, packets_of, delivered_to}
use Rattle.dds_protocol.specs.DueMessages.{Due}
use Rattle.dds_protocol.specs.Protocol.{BeginsIf, BeginsWith, MeetsChange, MeetsGap, StartsAt, State, GoesBy, Goes, TakesChange, TakesGap, Idles, ReaderTakes, stands_to, with_tracked}
use Rattle.dds_protocol.specs.Backed.{reader_at, IsClaimed, IsBacked}
use Rattle.dds_protocol.proofs.Attached.{SameMet, is_met}
use Rattle.dds_protocol.proofs.Composed.{moves_on}
use Rattle.dds_protocol.proofs.OneName.{one_writer}
use Rattle.dds_protocol.proofs.Framing.{Frames, tracked_elsewhere, frames_at, frames_none, frames_on, has_reader, tracked_here}
use Rattle.dds_protocol.proofs.Knowing.{data_claimed, gap_claimed}
use Rattle.dds_protocol.proofs.Ways.{Went, goes_went, change_went, jumps_go}
use Rattle.dds_protocol.proofs.Ruled.{backed_on, way_moves, goes_moves, way_frames, went_backed}
use Rattle.dds_protocol.proofs.Policies.{at_reader-qos}
use Rattle.dds_protocol.proofs.Growth.{AreMoves-grows, none_before}
use Rattle.dds_protocol.proofs.KnownRows.{unknown_unmatched}
use Rattle.dds_machine.proofs.Tables.{begun-hits, numbered-same, row-hits}

-- a submessage of a packet, which comes to a peer after these deliveries, and found these rows
pub record Coming : Type 0 where
  pub roster : Roster
  pub checked : IsRoster roster
  pub peer : ℕ
  pub before : List Delivery
  pub packet : List ℕ
  pub rows : List (List WriterProxy)
  pub index : ℕ
  pub own : GuidPrefix
  pub at : Receiver
  pub submessage : Submessage
  pub says : (claim : Claim) → Says roster own at submessage claim → Claimed roster (packet ∷ packets_of before) claim

abbrev pub grounds : Coming → Grounds
grounds c = claimed c.roster c.before c.packet c.rows c.peer c.index

abbrev pub packets : Coming → List (List ℕ)
packets c = c.packet ∷ packets_of c.before

abbrev pub deliveries : Coming → List Delivery
deliveries c = delivered_to c.packet c.rows c.index ∷ c.before

abbrev pub Backs : Coming → State → Type 0
Backs c s = IsBacked c.roster c.peer (packets c) (deliveries c) s

-- the same are matched as when the packet came
abbrev pub Met : Coming → State → Type 0
Met c s = SameMet c.rows s.part.rtps.readers

-- the reader took no HEARTBEAT of the writer with a greater count than that of this one, if the two are matched
abbrev pub IsPast : Coming → Submessage → ℕ → State → Type 0
IsPast c (Heartbeat h) r s =
    (w : Endpoint) → IsToReader c.roster c.own c.at h.reader_id h.writer_id w (reader_at c.peer r)
    → is_met c.rows r w ≡ true → is_later (s.known.tracked w r).count h.count ≡ false
IsPast c other r s = Unit {0}

-- the change at the reader's place moves it, if there is room
abbrev pub MovesIt : Coming → Submessage → ℕ → State → List Move → Type 0
MovesIt c s r old made =
    (w : Endpoint) (publication number : ℕ) (change : Change)
    → Says c.roster c.own c.at s (ChangeIs w (reader_at c.peer r) number change)
    → IsMatchedAt old.part w r publication number
    → GoesOver w r number made ⊎ HasNoRoom (grounds c) old.part w r publication number

-- a reader took a submessage up
pub record IsTakenAt (c : Coming) (s : Submessage) (r : ℕ) (old : State) (made : List Move) (new : State) : Type 0 where
  pub moves : AreMoves (grounds c) old.part made new.part
  pub backed : Backs c new
  pub writer : Endpoint
  pub frames : Frames old writer r new
  pub past : IsPast c s r new
  pub over : MovesIt c s r old made

-- nothing is done
pub nothing_taken : (c : Coming) (s : Submessage) (r : ℕ) (old : State) (made : List Move) (dues : List Due)
    (new : State) → Backs c old → Idles old made dues new → IsPast c s r old → MovesIt c s r old []
    → IsTakenAt c s r old made new
nothing_taken c s r old made dues new b i past over = record {
  moves =
      subst (λ (ms : List Move). AreMoves (grounds c) old.part ms new.part) (sym i.0) (ap (λ (x : State). x.part) i.2);
  backed = subst (λ (x : State). Backs c x) (sym i.2) b;
  writer = reader_at 0 0;
  frames = subst (λ (x : State). Frames old (reader_at 0 0) r x) (sym i.2) (frames_none old (reader_at 0 0) r);
  past = subst (λ (x : State). IsPast c s r x) (sym i.2) past;
  over = subst (λ (ms : List Move). MovesIt c s r old ms) (sym i.0) over;
}

-- the place of a matched writer goes on
abbrev pub tracked_by : State → Endpoint → ℕ → Tracked
tracked_by s w r = s.known.tracked w r

-- ---- a DATA

-- at the place the change is held, or the place can go over it
held_there : (number : ℕ) (c : Change) (t : Tracked) → t.place ≡ number
    → ((d : Change) × ((with_data number c t).slot number ≡ Held d))
    ⊎ (is_passable (with_data number c t) number ≡ true)
held_there number c t at = by (t.slot number) refl
  where
    is_first : is_in_window t.place number ≡ true
    is_first = grind (arith, nat_tests)

    slot_is : (s : Slot) → t.slot number ≡ s → (with_data number c t).slot number ≡ (if is_missing s then Held c else s)
    slot_is s e =
        ap (λ (b : Bool). if b && (is_in_window t.place number && is_missing (t.slot number)) then Held c else t.slot
        number) (eq-eqb number number refl)
        ∙ (ap (λ (b : Bool). if b && is_missing (t.slot number) then Held c else t.slot number) is_first
        ∙ ap (λ (x : Slot). if is_missing x then Held c else x) e)

    by : (s : Slot) → t.slot number ≡ s → ((d : Change) × ((with_data number c t).slot number ≡ Held d))
        ⊎ (is_passable (with_data number c t) number ≡ true)
    by Missing e = inl (c, slot_is Missing e)
    by (Held d) e = inl (d, slot_is (Held d) e)
    by Irrelevant e = inr (ap (λ (x : Slot). is_passable_slot t.first number x) (slot_is Irrelevant e))

-- so the place moves, or has no room
moved_or_full : (c : Coming) (old : State) (w : Endpoint) (r number : ℕ) (change : Change) (made : List Move)
    (new : State) (h : Goes old w r (with_data number change (tracked_by old w r)) made new)
    → IsClaimed c.roster c.peer (packets c) w r (with_data number change (tracked_by old w r))
    → (tracked_by old w r).place ≡ h.place → number ≡ h.place
    → GoesOver w r number made ⊎ HasNoRoom (grounds c) old.part w r h.publication number
moved_or_full c old w r number change made new h k at same = by (nat_lt h.place h.to) refl
  where
    t : Tracked
    t = with_data number change (tracked_by old w r)

    full : h.to ≤ h.place → (d : Change) → t.slot number ≡ Held d
        → HasNoRoom (grounds c) old.part w r h.publication number
    full low d held =
        let still =
        goes_nowhere (known t) (match_of old.part r h.publication)
        (record { place = t.place; happened = (own_reader old.part r).happened }) h.passed h.to
        (record { place = h.to; happened = h.happened }) h.advances.goes (omega (arith, at, low)) in
        let to : h.to ≡ number = ap (λ (p : PlaceWith). p.place) still.0 ∙ (at ∙ sym same) in
        let happened : h.happened ≡ (own_reader old.part r).happened = ap (λ (p : PlaceWith). p.happened) still.0 in
        let none : has_room (own_reader old.part r).qos h.happened
        (coming (match_of old.part r h.publication) (record { place = h.to; happened = h.happened }) d) ≡ false =
        h.advances.stops.no_room d (ap (λ (n : ℕ). t.slot n) to ∙ held) in
        record {
          change = d;
          is_change = k.change number d (omega (arith, at, same)) held;
          no_room =
              subst (λ (n : ℕ). has_room (own_reader old.part r).qos (own_reader old.part r).happened
              (coming (match_of old.part r h.publication) (position_at old.part r n) d) ≡ false) to
              (subst (λ (xs : List Happening). has_room (own_reader old.part r).qos xs
              (coming (match_of old.part r h.publication) (record { place = h.to; happened = xs }) d)
              ≡ false) happened none);
        }

    passes : h.to ≤ h.place → is_passable t number ≡ true → ⊥
    passes low can =
        let still =
        goes_nowhere (known t) (match_of old.part r h.publication)
        (record { place = t.place; happened = (own_reader old.part r).happened }) h.passed h.to
        (record { place = h.to; happened = h.happened }) h.advances.goes (omega (arith, at, low)) in
        let to : h.to ≡ number = ap (λ (p : PlaceWith). p.place) still.0 ∙ (at ∙ sym same) in
        let no = h.advances.stops.not_passable in
        let yes : is_passable t h.to ≡ true = ap (λ (n : ℕ). is_passable t n) to ∙ can in
        cc

    by : (b : Bool) → nat_lt h.place h.to ≡ b → GoesOver w r number made
        ⊎ HasNoRoom (grounds c) old.part w r h.publication number
    by true e =
        let forward : h.place < h.to = grind (arith, nat_tests) in
        let one : made ≡ Place w r h.to h.passed ∷ [] =
        h.moves_are ∙ ap (λ (b : Bool). if b then Place w r h.to h.passed ∷ [] else []) e in
        inl (subst (λ (ms : List Move). GoesOver w r number ms) (sym one)
        (inl (refl, refl, omega (arith, forward, same))))
    by false e =
        let low : h.to ≤ h.place = grind (arith, nat_tests) in
        inr (⊎_elim (λ d. full low d.0 d.1) (λ p. absurd (passes low p))
        (held_there number change (tracked_by old w r) (at ∙ sym same)))

-- a jump goes over the change that it comes to, or there is no room for that at the place
jumped_or_full : (c : Coming) (old : State) (w : Endpoint) (r number : ℕ) (change : Change) (made : List Move)
    (new : State) (h : GoesBy (λ match xs. Jumps match (tracked_by old w r) xs number change) old w r made new)
    → Claimed c.roster (packets c) (ChangeIs w (reader_at c.peer r) number change)
    → (tracked_by old w r).place ≡ h.place → number ≡ h.place
    → GoesOver w r number made ⊎ HasNoRoom (grounds c) old.part w r h.publication number
jumped_or_full c old w r number change made new h says at same =
    by (comes match t.place happened number change) refl h.advances
  where
    t : Tracked
    t = tracked_by old w r

    match : Match
    match = match_of old.part r h.publication

    happened : List Happening
    happened = (own_reader old.part r).happened

    by : (b : Bool) → comes match t.place happened number change ≡ b
        → JumpsIf b match t happened number change h.to h.passed h.known h.happened
        → GoesOver w r number made ⊎ HasNoRoom (grounds c) old.part w r h.publication number
    by true e j =
        let beyond = j.beyond in
        let forward : nat_lt h.place h.to ≡ true = grind (arith, nat_tests) in
        let one : made ≡ Place w r h.to h.passed ∷ [] =
        h.moves_are ∙ ap (λ (b : Bool). if b then Place w r h.to h.passed ∷ [] else []) forward in
        inl (subst (λ (ms : List Move). GoesOver w r number ms) (sym one) (inl (refl, refl, omega (arith, beyond))))
    by false e j =
        let low : nat_le t.place number ≡ true = grind (arith, nat_tests) in
        let none : nat_lt t.place number ≡ false = grind (arith, nat_tests) in
        let full : has_room match.qos (jumped_to match t.place happened number).happened
        (coming match (jumped_to match t.place happened number) change) ≡ false =
        sym (ap (λ (b : Bool). b && has_room match.qos (jumped_to match t.place happened number).happened
        (coming match (jumped_to match t.place happened number) change)) low) ∙ e in
        inr (record {
          change = change;
          is_change = says;
          no_room = sym (ap (λ (b : Bool).
              has_room match.qos (if b then Passed match.publication t.place (number - 1) ∷ happened else happened)
              (coming match (position_at old.part r number) change)) none) ∙ full;
        })

-- the one writer of this name
pub writer_is : (c : Coming) (reader_id writer_id : EntityId) (w v : Endpoint) (r : ℕ)
    → IsToReader c.roster c.own c.at reader_id writer_id w (reader_at c.peer r)
    → IsToReader c.roster c.own c.at reader_id writer_id v (reader_at c.peer r) → w ≡ v
writer_is c reader_id writer_id w v r a b =
    one_writer c.roster c.at.source_guid_prefix writer_id w v c.checked a.from b.from

-- what a reader does on the ground of a DATA or a GAP: its place goes on, and no HEARTBEAT is told
went_taken : (c : Coming) (s : Submessage) (r : ℕ) (old : State) (w : Endpoint) (t : Tracked) (made : List Move)
    (new : State) → Backs c old → t.count ≡ (tracked_by old w r).count
    → IsClaimed c.roster c.peer (packets c) w r t → Went old w r t made new
    → AreMoves (grounds c) old.part made new.part → IsPast c s r new
    → MovesIt c s r old made → IsTakenAt c s r old made new
went_taken c s r old w t made new b count k h moves past over = record {
  moves = moves;
  backed = went_backed c.roster c.peer (packets c) (deliveries c) old w r t made new b count k h;
  writer = w;
  frames = way_frames old w r made new h;
  past = past;
  over = over;
}

goes_taken : (c : Coming) (s : Submessage) (r : ℕ) (old : State) (w : Endpoint) (t : Tracked) (made : List Move)
    (new : State) → Backs c old → t.place ≡ (tracked_by old w r).place → t.count ≡ (tracked_by old w r).count
    → IsClaimed c.roster c.peer (packets c) w r t → (h : Goes old w r t made new) → IsPast c s r new
    → MovesIt c s r old made → IsTakenAt c s r old made new
goes_taken c s r old w t made new b place count k h past over =
    went_taken c s r old w t made new b count k (goes_went old w r t made new h)
    (goes_moves c.roster c.before c.packet c.rows c.peer c.index old w r t made new k h
    (place ∙ b.place w r h.place h.matched.at)) past over

-- where the place of the writer that a DATA is of moves, or has no room, so it is of each writer that it tells of
moves_it : (c : Coming) (d : DataBody) (r : ℕ) (old : State) (w : Endpoint) (made : List Move) (publication place : ℕ)
    → IsToReader c.roster c.own c.at d.reader_id d.writer_id w (reader_at c.peer r)
    → IsMatchedAt old.part w r publication place
    → (d.writer_sn ≡ place
    → GoesOver w r d.writer_sn made ⊎ HasNoRoom (grounds c) old.part w r publication d.writer_sn)
    → MovesIt c (Data d) r old made
moves_it c d r old w made publication place to at here v p number ch told matched =
    let one : v ≡ w = writer_is c d.reader_id d.writer_id v w r told.0 to in
    subst (λ (x : Endpoint). GoesOver x r number made ⊎ HasNoRoom (grounds c) old.part x r p number) (sym one)
    (let there : IsMatchedAt old.part w r p number = subst
    (λ (x : Endpoint). IsMatchedAt old.part x r p number) one matched in
    let handle : publication ≡ p = same_Some publication p (sym at.handle ∙ there.handle) in
    let same : number ≡ place = same_Some number place (sym there.at ∙ at.at) in
    subst (λ (q : ℕ). GoesOver w r number made ⊎ HasNoRoom (grounds c) old.part w r q number) handle
    (subst (λ (n : ℕ). GoesOver w r n made ⊎ HasNoRoom (grounds c) old.part w r publication n) (sym told.1)
    (here (sym told.1 ∙ same))))

-- what the packet claims by a DATA
data_says : (c : Coming) (d : DataBody) → c.submessage ≡ Data d → (w : Endpoint) (r : ℕ)
    → IsToReader c.roster c.own c.at d.reader_id d.writer_id w (reader_at c.peer r)
    → Claimed c.roster (packets c) (ChangeIs w (reader_at c.peer r) d.writer_sn (change_in d.content c.at.timestamp))
data_says c d is w r to =
    let change : Change = change_in d.content c.at.timestamp in
    c.says (ChangeIs w (reader_at c.peer r) d.writer_sn change)
    (subst (λ (s : Submessage). Says c.roster c.own c.at s (ChangeIs w (reader_at c.peer r) d.writer_sn change))
    (sym is) (to, refl, refl))

-- a reliable reader holds it
data_held : (c : Coming) (d : DataBody) → c.submessage ≡ Data d
    → (r : ℕ) (old : State) (w : Endpoint) (made : List Move) (new : State) → Backs c old
    → IsToReader c.roster c.own c.at d.reader_id d.writer_id w (reader_at c.peer r)
    → Goes old w r (with_data d.writer_sn (change_in d.content c.at.timestamp) (tracked_by old w r)) made new
    → IsTakenAt c (Data d) r old made new
data_held c d is r old w made new b to goes =
    let change : Change = change_in d.content c.at.timestamp in
    let k : IsClaimed c.roster c.peer (packets c) w r (with_data d.writer_sn change (tracked_by old w r)) =
    data_claimed c.roster c.peer (packets c) w r d.writer_sn change (tracked_by old w r) (b.claimed w r)
    (data_says c d is w r to) in
    goes_taken c (Data d) r old w (with_data d.writer_sn change (tracked_by old w r)) made new b refl refl k goes tt
    (moves_it c d r old w made goes.publication goes.place to goes.matched
    (λ same. moved_or_full c old w r d.writer_sn change made new goes k
    (b.place w r goes.place goes.matched.at) same))

-- a best-effort reader jumps to it
data_jumped : (c : Coming) (d : DataBody) → c.submessage ≡ Data d
    → (r : ℕ) (old : State) (w : Endpoint) (made : List Move) (new : State) → Backs c old
    → IsToReader c.roster c.own c.at d.reader_id d.writer_id w (reader_at c.peer r)
    → TakesChange false old w r d.writer_sn (change_in d.content c.at.timestamp) made new
    → IsTakenAt c (Data d) r old made new
data_jumped c d is r old w made new b to takes =
    went_taken c (Data d) r old w t made new b refl (b.claimed w r)
    (change_went false old w r d.writer_sn change made new takes)
    (way_moves (grounds c) old w r made new jump
    (subst (λ (n : ℕ). GoesTo (as_to (grounds c) w r) (match_of old.part r jump.publication)
    (record { place = n; happened = (own_reader old.part r).happened }) jump.passed jump.to
    (record { place = jump.to; happened = jump.happened })) at
    (jumps_go (as_to (grounds c) w r) (match_of old.part r jump.publication) t (own_reader old.part r).happened
    d.writer_sn change jump.to jump.passed jump.known jump.happened takes.0 (data_says c d is w r to) jump.advances)))
    tt
    (moves_it c d r old w made jump.publication jump.place to jump.matched
    (λ same. jumped_or_full c old w r d.writer_sn change made new jump (data_says c d is w r to) at same))
  where
    t : Tracked
    t = tracked_by old w r

    change : Change
    change = change_in d.content c.at.timestamp

    jump : GoesBy (λ match h. Jumps match t h d.writer_sn change) old w r made new
    jump = takes.1

    at : t.place ≡ jump.place
    at = b.place w r jump.place jump.matched.at

-- ---- a place that begins

heard_begun : (to : ℕ) (o : Option WriterProxy)
    → option_map (λ (p : WriterProxy). p.heard)
    (option_map (λ (p : WriterProxy). record p { place = to; how = Begun }) o)
    ≡ option_map (λ (p : WriterProxy). p.heard) o
heard_begun to None = refl
heard_begun to (Some p) = refl

-- the place of the reader is where it is to be, and all that is known of the writer stays backed
pub record IsStarted (c : Coming) (w : Endpoint) (r : ℕ) (old : State) (made : List Move) (new : State) : Type 0 where
  pub moves : AreMoves (grounds c) old.part made new.part
  pub frames : Frames old w r new
  pub claimed : IsClaimed c.roster c.peer (packets c) w r (tracked_by new w r)
  pub place : (p : ℕ) → place_of (own_proxies new.part r) w ≡ Some p → (tracked_by new w r).place ≡ p
  pub unknown : place_of (own_proxies new.part r) w ≡ None → (tracked_by new w r).place ≡ (tracked_by old w r).place
  pub count : (tracked_by new w r).count ≡ (tracked_by old w r).count
  pub counts : (n : ℤ) → heard_of (own_proxies new.part r) w ≡ Some (Some n)
      → heard_of (own_proxies old.part r) w ≡ Some (Some n)

pub not_started : (c : Coming) (w : Endpoint) (r : ℕ) (old : State) (made : List Move) (new : State)
    → IsClaimed c.roster c.peer (packets c) w r (tracked_by old w r)
    → ((p : ℕ) → place_of (own_proxies old.part r) w ≡ Some p → (tracked_by old w r).place ≡ p)
    → (made ≡ []) × (new ≡ old) → IsStarted c w r old made new
not_started c w r old made new k place h = record {
  moves = subst (λ (ms : List Move). AreMoves (grounds c) old.part ms new.part) (sym h.0)
      (ap (λ (s : State). s.part) h.1);
  frames = subst (λ (s : State). Frames old w r s) (sym h.1) (frames_none old w r);
  claimed = subst (λ (s : State). IsClaimed c.roster c.peer (packets c) w r (tracked_by s w r)) (sym h.1) k;
  place = λ p e.
      ap (λ (s : State). (tracked_by s w r).place) h.1
      ∙ place p (ap (λ (s : State). place_of (own_proxies s.part r) w) (sym h.1) ∙ e);
  unknown = λ e. ap (λ (s : State). (tracked_by s w r).place) h.1;
  count = ap (λ (s : State). (tracked_by s w r).count) h.1;
  counts = λ n e. ap (λ (s : State). heard_of (own_proxies s.part r) w) (sym h.1) ∙ e;
}

pub starts_at : (c : Coming) (w : Endpoint) (r number : ℕ) (old : State) (made : List Move) (new : State)
    → IsClaimed c.roster c.peer (packets c) w r (tracked_by old w r)
    → ((p : ℕ) → place_of (own_proxies old.part r) w ≡ Some p → (tracked_by old w r).place ≡ p)
    → ((n : ℕ) → 1 ≤ n → n < number → MayPassOver (as_to (grounds c) w r) (own_reader old.part r).qos n)
    → StartsAt old w r number made new → IsStarted c w r old made new
starts_at c w r number old made new k place may h =
    let rows : List WriterProxy = own_proxies old.part r in
    let to : ℕ = max h.place number in
    let t : Tracked = record (tracked_by old w r) { place = to } in
    let from = k.from in
    let at : (tracked_by old w r).place ≡ h.place = place h.place h.at in
    let there : HasNumber old.part.rtps.readers r = has_reader old.part r h.place w h.at in
    let part : new.part ≡ at_reader old.part r (with_begun rows w to) (own_reader old.part r).happened =
    ap (λ (s : State). s.part) h.after in
    let proxies : own_proxies new.part r ≡ with_begun rows w to =
    ap (λ (p : Part). own_proxies p r) part
    ∙ numbered-same old.part.rtps.readers r (with_begun rows w to) [] there in
    let known_is : tracked_by new w r ≡ t =
    ap (λ (s : State). tracked_by s w r) h.after ∙ tracked_here old.known w r t in
    let further : h.place ≤ to = omega arith in
    record {
      moves = subst (λ (ms : List Move). AreMoves (grounds c) old.part ms new.part) (sym h.moves_are) (
        new.part,
        record {
          waits = h.waits;
          at = h.at;
          no_less = further;
          may_pass = λ n above under. may n (omega (arith, from, at, above)) (omega (arith, above, under));
          after = part;
        },
        refl,
      );
      frames =
          subst (λ (s : State). Frames old w r s) (sym h.after)
          (frames_at old w r (λ (p : WriterProxy). record p { place = to; how = Begun }) (λ p. refl)
          (own_reader old.part r).happened (with_tracked old.known w r t) there
          (λ v j apart. tracked_elsewhere old.known w r t v j apart));
      claimed = subst (λ (x : Tracked). IsClaimed c.roster c.peer (packets c) w r x) (sym known_is) (record {
        from = omega (arith, from, at, further);
        change = λ n ch low e. k.change n ch (omega (arith, at, further, low)) e;
        pass = λ n low e. k.pass n (omega (arith, at, further, low)) e;
      });
      place = λ p e.
          ap (λ (x : Tracked). x.place) known_is
          ∙ same_Some to p (sym (begun-hits rows w h.place to h.at)
          ∙ (ap (λ (xs : List WriterProxy). place_of xs w) (sym proxies) ∙ e));
      unknown = λ e.
          absurd (let no : Some to ≡ None =
          sym (begun-hits rows w h.place to h.at)
          ∙ (ap (λ (xs : List WriterProxy). place_of xs w) (sym proxies) ∙ e) in cc);
      count = ap (λ (x : Tracked). x.count) known_is;
      counts = λ n e.
          sym (ap (λ (o : Option WriterProxy). option_map (λ (p : WriterProxy). p.heard) o)
          (row-hits (λ (p : WriterProxy). p.writer) (λ (p : WriterProxy). record p { place = to; how = Begun })
          (λ p. refl) rows w)
          ∙ heard_begun to (row_of (λ (p : WriterProxy). p.writer) rows w))
          ∙ (ap (λ (xs : List WriterProxy). heard_of xs w) (sym proxies) ∙ e);
    }

-- all else is as it was
started_backed : (c : Coming) (w : Endpoint) (r : ℕ) (old : State) (made : List Move) (new : State) → Backs c old
    → HasNumber old.part.rtps.readers r → IsStarted c w r old made new → Backs c new
started_backed c w r old made new b there s =
    backed_on c.roster c.peer (packets c) (deliveries c) w r old new s.frames b (record {
      place = s.place;
      unknown = λ e.
          s.unknown e
          ∙ b.unknown w r
          (none_before old.part.rtps new.part.rtps (AreMoves-grows (grounds c) old.part made new.part s.moves) r w e);
      claimed = s.claimed;
      newest = λ d n among applied.
          ap (λ (o : Option ℤ). is_later o n) s.count ∙ b.newest w r there d n among applied;
      heard = λ n e. ap (λ (o : Option ℤ). is_later o n) s.count ∙ b.heard w r n (s.counts n e);
    })

-- a place that has not begun is at no number of which a DATA may speak
not_begun : (c : Coming) (d : DataBody) (r : ℕ) (old : State) (w : Endpoint) (made : List Move)
    → IsToReader c.roster c.own c.at d.reader_id d.writer_id w (reader_at c.peer r)
    → (stands_to old w r ≡ Begun → ⊥) → MovesIt c (Data d) r old made
not_begun c d r old w made to other v p n ch told matched =
    let one : v ≡ w = writer_is c d.reader_id d.writer_id v w r told.0 to in
    absurd (other (ap (λ (x : Endpoint). stands_to old x r) (sym one) ∙ matched.begun))

-- a best-effort reader that waited begins with the change
data_begun : (c : Coming) (d : DataBody) → c.submessage ≡ Data d
    → (r : ℕ) (old : State) (w : Endpoint) (made : List Move) (new : State) → Backs c old
    → IsToReader c.roster c.own c.at d.reader_id d.writer_id w (reader_at c.peer r)
    → BeginsWith old w r d.writer_sn (change_in d.content c.at.timestamp) made new
    → IsTakenAt c (Data d) r old made new
data_begun c d is r old w made new b to k = record {
  moves = subst (λ (ms : List Move). AreMoves (grounds c) old.part ms new.part) (sym k.moves_are)
      (moves_on (grounds c) old.part k.starting k.started.part k.going new.part start.moves later.moves);
  backed = later.backed;
  writer = w;
  frames = frames_on old k.started new w r start.frames (way_frames k.started w r k.going new k.takes.1);
  past = tt;
  over = not_begun c d r old w made to (λ e. let clash : Waiting ≡ Begun = sym k.starts.waits ∙ e in cc);
}
  where
    change : Change
    change = change_in d.content c.at.timestamp

    best : is_reliable (own_reader old.part r).qos.reliability ≡ false
    best =
        ap (λ (q : ReaderQos). is_reliable q.reliability)
        (sym (ap (λ (s : State). (own_reader s.part r).qos) k.starts.after
        ∙ at_reader-qos old.part r (with_begun (own_proxies old.part r) w (max k.starts.place d.writer_sn))
        (own_reader old.part r).happened r))
        ∙ k.takes.0

    start : IsStarted c w r old k.starting k.started
    start =
        starts_at c w r d.writer_sn old k.starting k.started (b.claimed w r) (λ p e. b.place w r p e)
        (λ n low below. inr (
          best,
          record { later = d.writer_sn; change = change; is_change = data_says c d is w r to; before = below },
        )) k.starts

    later : IsTakenAt c (Data d) r k.started k.going new
    later =
        data_jumped c d is r k.started w k.going new
        (started_backed c w r old k.starting k.started b (has_reader old.part r k.starts.place w k.starts.at) start) to
        k.takes

pub data_taken : (c : Coming) (d : DataBody) → c.submessage ≡ Data d
    → (r : ℕ) (old : State) (made : List Move) (dues : List Due) (new : State) → Backs c old
    → ReaderTakes c.roster c.own c.peer c.at (Data d) r old made dues new → IsTakenAt c (Data d) r old made new
data_taken c d is r old made dues new b (inl h) =
    by (stands_to old h.0 r) refl (c.roster.is_reliable (reader_at c.peer r)) h.3.0
  where
    change : Change
    change = change_in d.content c.at.timestamp

    nothing : (how : Attachment) → stands_to old h.0 r ≡ how → (how ≡ Begun → ⊥) → (made ≡ []) × (new ≡ old)
        → IsTakenAt c (Data d) r old made new
    nothing how e other idle =
        nothing_taken c (Data d) r old made dues new b (idle.0, h.3.1, idle.1) tt
        (not_begun c d r old h.0 [] h.1 (λ begun. other (sym e ∙ begun)))

    begins : (comes_there : Bool) → stands_to old h.0 r ≡ Waiting
        → BeginsIf comes_there old h.0 r d.writer_sn change made new → IsTakenAt c (Data d) r old made new
    begins true e k = data_begun c d is r old h.0 made new b h.1 k
    begins false e idle = nothing Waiting e (λ q. cc) idle

    by : (how : Attachment) → stands_to old h.0 r ≡ how → (reliable : Bool)
        → MeetsChange how reliable old h.0 r d.writer_sn change made new → IsTakenAt c (Data d) r old made new
    by Begun e true goes = data_held c d is r old h.0 made new b h.1 goes
    by Begun e false takes = data_jumped c d is r old h.0 made new b h.1 takes
    by Waiting e true idle = nothing Waiting e (λ q. cc) idle
    by Waiting e false meets =
        begins (nat_le (tracked_by old h.0 r).place d.writer_sn
        && comes (match_of old.part r meets.0) d.writer_sn (own_reader old.part r).happened d.writer_sn change) e meets.2
    by Away e reliable idle = nothing Away e (λ q. cc) idle
data_taken c d is r old made dues new b (inr h) =
    nothing_taken c (Data d) r old made dues new b h.1 tt
    (λ w publication number change told matched.
    absurd (unknown_unmatched old.part r w publication number (h.0 w told.0) matched))

-- ---- a GAP

in_gap : (start : ℕ) (list : NumberSet) (n : ℕ) → is_named start list n ≡ true
    → ((start ≤ n) × (n < list.base)) ⊎ (has_number list n ≡ true)
in_gap start list n h = by (nat_le start n) (nat_lt n list.base) refl refl
  where
    by : (a b : Bool) → nat_le start n ≡ a → nat_lt n list.base ≡ b
        → ((start ≤ n) × (n < list.base)) ⊎ (has_number list n ≡ true)
    by true true e f = inl (grind (arith, nat_tests), grind (arith, nat_tests))
    by true false e f =
        inr (sym (ap (λ (x : Bool). (x && nat_lt n list.base) || has_number list n) e
        ∙ ap (λ (x : Bool). (true && x) || has_number list n) f) ∙ h)
    by false b e f = inr (sym (ap (λ (x : Bool). (x && nat_lt n list.base) || has_number list n) e) ∙ h)

pub gap_taken : (c : Coming) (g : GapBody) → c.submessage ≡ Gap g
    → (r : ℕ) (old : State) (made : List Move) (dues : List Due) (new : State) → Backs c old
    → ReaderTakes c.roster c.own c.peer c.at (Gap g) r old made dues new → IsTakenAt c (Gap g) r old made new
gap_taken c g is r old made dues new b (inl h) = so (stands_to old h.0 r) h.3.0
  where
    nothing : (made ≡ []) × (new ≡ old) → IsTakenAt c (Gap g) r old made new
    nothing idle =
        nothing_taken c (Gap g) r old made dues new b (idle.0, h.3.1, idle.1) tt
        (λ v publication number ch told matched. absurd told)

    by : (reliable : Bool) → c.roster.is_reliable (reader_at c.peer r) ≡ reliable → TakesGap reliable old h.0 r g made new
        → IsTakenAt c (Gap g) r old made new
    by true reliable goes =
        let w : Endpoint = h.0 in
        let k : IsClaimed c.roster c.peer (packets c) w r (with_gap g.gap_start g.gap_list (tracked_by old w r)) =
        gap_claimed c.roster c.peer (packets c) w r g.gap_start g.gap_list (tracked_by old w r) (b.claimed w r)
        (λ n least named. c.says (MayPass w (reader_at c.peer r) n)
        (subst (λ (s : Submessage). Says c.roster c.own c.at s (MayPass w (reader_at c.peer r) n)) (sym is)
        (record { is_to = h.1; reliable = reliable }, least, in_gap g.gap_start g.gap_list n named))) in
        goes_taken c (Gap g) r old w (with_gap g.gap_start g.gap_list (tracked_by old w r)) made new b refl refl k goes
        tt (λ v publication number ch told matched. absurd told)
    by false other idle = nothing idle

    so : (how : Attachment) → MeetsGap how (c.roster.is_reliable (reader_at c.peer r)) old h.0 r g made new
        → IsTakenAt c (Gap g) r old made new
    so Begun takes = by (c.roster.is_reliable (reader_at c.peer r)) refl takes
    so Waiting idle = nothing idle
    so Away idle = nothing idle
gap_taken c g is r old made dues new b (inr h) =
    nothing_taken c (Gap g) r old made dues new b h.1 tt (λ w publication number change told matched. absurd told)
