-- What the submessages of one packet do, computed for a packet of two changes from a writer w1 at peer 1 to a reader r1
-- at peer 2: which moves there must be, and where a submessage that finds no memory may stand.
use Rattle.std.proofs.Common.{◌≡◌, ◌≢◌, ℕ, ◌+◌, ◌≤◌, ◌<◌, false, Option, Some, None, List, [], ◌∷◌, ◌++◌, refl, sym, ap, subst, inl, inr, ⊎_elim, arith, length}
use Rattle.dds_base.specs.declared.change.Change.{Change}
use Rattle.dds_base.specs.declared.guid.GuidPrefix.{GuidPrefix}
use Rattle.dds_base.specs.declared.happening.Happening.{Happening}
use Rattle.dds_base.specs.declared.happening.Happening.TheVariants.{Took}
use Rattle.dds_base.specs.declared.qos.HistoryQos.TheVariants.{KeepAll}
use Rattle.dds_base.specs.Presence.{has_room}
use Rattle.dds_base.specs.Written.{Changed}
use Rattle.rtps_wire.specs.declared.data.Data.{Data as DataBody}
use Rattle.rtps_wire.specs.declared.data.ChangeBody.TheVariants.{Write}
use Rattle.rtps_wire.specs.declared.submessage.Submessage.{Submessage}
use Rattle.rtps_wire.specs.declared.submessage.Submessage.TheVariants.{InfoDst, InfoTs, Data}
use Rattle.dds_conditions.specs.Watched.{opened as nothing_watched}
use Rattle.dds_notices.specs.Listeners.{nobody}
use Rattle.dds_base.specs.declared.endpoint.Endpoint.{Endpoint}
use Rattle.dds_machine.specs.declared.reply.Move.{Move}
use Rattle.dds_machine.specs.declared.reply.Move.TheVariants.{Place, Acknowledged}
use Rattle.dds_machine.specs.Part.{opened_with, Part, Writer, own_reader, nothing_seen}
use Rattle.dds_base.specs.Places.{coming}
use Rattle.dds_machine.specs.Moves.{Grounds, match_of, position_at, AreMoves}
use Rattle.dds_protocol.specs.Claims.{Receiver, receiver_of, after_submessage, IsWriter, IsReader, IsToReader}
use Rattle.dds_machine.specs.Machine.{grounds_of}
use Rattle.dds_protocol.specs.Roster.{IsRoster, Roster, roster_of}
use Rattle.dds_protocol.specs.Receipt.{GoesOver, HasNoRoom, MovesOver, TakesUp}
use Rattle.dds_protocol.proofs.OneName.{one_named, one_writer}
use Rattle.dds_protocol.proofs.Rosters.{good_are_rosters}
use Rattle.dds_protocol.proofs.WorkedReceivers.{prefix_1, prefix_2, w1_id, r1_id, w1, r1, to_2, w1_named, reader_named, some_is}
use Rattle.dds_protocol.proofs.WorkedExamples.{key}
use Rattle.dds_protocol.proofs.WorkedMoves.{peer_2, pair, writing, part_2, machine, write_of, came, came_1, comes_next}

-- ---- what goes over a place

goes_over-1 : GoesOver w1 1 1 (Place w1 1 2 [] ∷ [])
goes_over-1 = inl (refl, refl, omega arith)

goes_over-by_a_later_move : GoesOver w1 1 2 (Place w1 1 2 [] ∷ Acknowledged 1 r1 5 ∷ Place w1 1 3 [] ∷ [])
goes_over-by_a_later_move = inr (inl (refl, refl, omega arith))

-- the place stands at 2, and not beyond it
goes_over-not_2 : GoesOver w1 1 2 (Place w1 1 2 [] ∷ []) → ⊥
goes_over-not_2 h = ⊎_elim (λ here. let beyond = here.2 in absurd (omega arith)) (λ later. later) h

-- another reader's place is another place
goes_over-not_of_2 : GoesOver w1 2 1 (Place w1 1 2 [] ∷ []) → ⊥
goes_over-not_of_2 h = ⊎_elim (λ here. let same = here.1 in absurd (omega arith)) (λ later. later) h

-- ---- a packet of two changes

-- the roster of the two peers
abbrev roster : Roster
roster = roster_of (pair KeepAll)

-- w1 has written 1 and 2, and r1 is at 1
abbrev both : Writer
both = writing KeepAll None (Changed (write_of 1 2) ∷ Changed (write_of 1 1) ∷ []) 1

abbrev begun : Part
begun = part_2 1 None []

abbrev came_2 : List Happening
came_2 = came 2 (write_of 1 2) ∷ came_1

abbrev grounds : Grounds
grounds = grounds_of (machine both begun) 2

-- the change of this number and value, to r1
abbrev data_of : ℕ → DataBody
data_of number =
    record {
      reader_id = r1_id;
      writer_id = w1_id;
      writer_sn = number;
      content = record { body = Write (record { key = key 1; value = number ∷ [] }); strength = None };
    }

abbrev from_data_1 : List Submessage
from_data_1 = Data (data_of 1) ∷ InfoTs (Some 0) ∷ Data (data_of 2) ∷ []

abbrev packet : List Submessage
packet = InfoDst prefix_2 ∷ InfoTs (Some 0) ∷ from_data_1

-- the submessages from this index on are taken up with these moves, and this one found no memory
abbrev TakenFrom : ℕ → Receiver → List Submessage → Part → List Move → Option ℕ → Part → Type 0
TakenFrom index at rest old moves refused new =
    TakesUp roster (λ index. grounds) 2 prefix_2 index at rest old moves refused new

-- so is the whole packet
abbrev TakenUp : List Move → Option ℕ → Part → Type 0
TakenUp moves refused new = TakenFrom 0 (receiver_of prefix_1) packet begun moves refused new

-- the submessage moves each place that it must
abbrev MovesItsPlaces : Receiver → Submessage → Part → List Move → Type 0
MovesItsPlaces at submessage old moves = MovesOver roster grounds 2 prefix_2 at submessage old moves

-- whom a DATA of the packet can be for

is_roster : IsRoster roster
is_roster = good_are_rosters (pair KeepAll) (record { prefixes = refl; each = refl })

w1_there : IsWriter roster prefix_1 w1_id w1
w1_there = w1_named {readers = peer_2.readers}

r1_there : IsReader roster prefix_2 r1_id r1
r1_there = reader_named {readers = peer_2.readers} r1_id 1 0 (omega arith, refl)

to_r1 : IsToReader roster prefix_2 to_2 r1_id w1_id w1 r1
to_r1 = record {
  from = w1_there;
  is_for = refl;
  entity = r1_id;
  to = r1_there;
  named = inl refl;
  matched = refl;
}

from_w1 : (w : Endpoint) → IsWriter roster prefix_1 w1_id w → w1 ≡ w
from_w1 w h = one_writer roster prefix_1 w1_id w1 w is_roster w1_there h

to_r1_alone : (w r : Endpoint) → IsToReader roster prefix_2 to_2 r1_id w1_id w r → 1 ≡ r.number
to_r1_alone w r h =
    sym (ap (λ (e : Endpoint). e.number)
    (one_named roster prefix_2 r1_id w1_id prefix_2 to_2 w r r1 is_roster refl r1_there h))

-- a submessage without a change need move no place, and a DATA moves that of the one reader that it is for
info-moves_nothing : (at : Receiver) (part : Part) (stamp : Option ℕ) → MovesItsPlaces at (InfoTs stamp) part []
info-moves_nothing at part stamp = λ w r publication number change says. absurd says

data-moves_its_place : (part : Part) (number : ℕ)
    → MovesItsPlaces to_2 (Data (data_of number)) part (Place w1 1 (number + 1) [] ∷ [])
data-moves_its_place part number = λ w r publication n change says same matched low high.
    let its_number = says.1 in
    inl (inl (from_w1 w says.0.from, to_r1_alone w r says.0, omega arith))

-- each DATA moves the place by one
moves-1 : AreMoves grounds begun (Place w1 1 2 [] ∷ []) (part_2 2 None came_1)
moves-1 = comes_next grounds 1 (write_of 1 1) [] refl refl

moves-2 : AreMoves grounds (part_2 2 None came_1) (Place w1 1 3 [] ∷ []) (part_2 3 None came_2)
moves-2 = comes_next grounds 2 (write_of 1 2) came_1 refl refl

behind_the_infos : (moves : List Move) (refused : Option ℕ) (new : Part)
    → TakenFrom 2 to_2 from_data_1 begun moves refused new → TakenUp moves refused new
behind_the_infos moves refused new rest =
    inr (
      [],
      moves,
      begun,
      refl,
      refl,
      λ w r publication number change says. absurd says,
      inr ([], moves, begun, refl, refl, info-moves_nothing to_2 begun (Some 0), rest),
    )

behind_data_1 : (moves : List Move) (refused : Option ℕ) (new : Part)
    → TakenFrom 4 to_2 (Data (data_of 2) ∷ []) (part_2 2 None came_1) moves refused new
    → TakenFrom 2 to_2 from_data_1 begun (Place w1 1 2 [] ∷ moves) refused new
behind_data_1 moves refused new rest =
    let info = info-moves_nothing to_2 (part_2 2 None came_1) (Some 0) in
    inr (
      Place w1 1 2 [] ∷ [],
      moves,
      part_2 2 None came_1,
      refl,
      moves-1,
      data-moves_its_place begun 1,
      inr ([], moves, part_2 2 None came_1, refl, refl, info, rest),
    )

-- with memory both come
taken_up-all : TakenUp (Place w1 1 2 [] ∷ Place w1 1 3 [] ∷ []) None (part_2 3 None came_2)
taken_up-all =
    behind_the_infos (Place w1 1 2 [] ∷ Place w1 1 3 [] ∷ []) None (part_2 3 None came_2)
    (behind_data_1 (Place w1 1 3 [] ∷ []) None (part_2 3 None came_2)
    (inr (
      Place w1 1 3 [] ∷ [],
      [],
      part_2 3 None came_2,
      refl,
      moves-2,
      data-moves_its_place (part_2 2 None came_1) 2,
      (refl, refl, refl),
    )))

-- where the first DATA or the second one finds no memory, what stands before it was done, and nothing else
taken_up-refused_2 : TakenUp [] (Some 2) begun
taken_up-refused_2 = behind_the_infos [] (Some 2) begun (inl (refl, refl, refl, (w1, r1, to_r1, refl)))

taken_up-refused_4 : TakenUp (Place w1 1 2 [] ∷ []) (Some 4) (part_2 2 None came_1)
taken_up-refused_4 =
    behind_the_infos (Place w1 1 2 [] ∷ []) (Some 4) (part_2 2 None came_1)
    (behind_data_1 [] (Some 4) (part_2 2 None came_1) (inl (refl, refl, refl, (w1, r1, to_r1, refl))))

-- ---- what excuses nothing

-- a refusal stands at a submessage of the packet
refused-within : (roster : Roster) (ground : ℕ → Grounds) (peer : ℕ) (own : GuidPrefix) (ss : List Submessage)
    (index : ℕ) (at : Receiver) (old : Part) (moves : List Move) (refused : ℕ) (new : Part)
    → TakesUp roster ground peer own index at ss old moves (Some refused) new
    → (index ≤ refused) × (refused < index + length ss)
refused-within roster ground peer own [] index at old moves refused new h = let none = h.1 in absurd cc
refused-within roster ground peer own (s ∷ ss) index at old moves refused new h =
    ⊎_elim (λ stop. let here = some_is refused index stop.1 in (omega arith, omega arith))
    (λ on. let later = refused-within roster ground peer own ss (index + 1)
    (after_submessage own at s) on.2 on.1 refused new on.6 in (omega arith, omega arith)) h

refused-in : (index refused : ℕ) (at : Receiver) (ss : List Submessage) (old new : Part) (moves : List Move)
    → TakenFrom index at ss old moves (Some refused) new
    → (index ≤ refused) × (refused < index + length ss)
refused-in index refused at ss old new moves h =
    refused-within roster (λ index. grounds) 2 prefix_2 ss index at old moves refused new h

taken_up-not_refused_5 : (moves : List Move) (new : Part) → TakenUp moves (Some 5) new → ⊥
taken_up-not_refused_5 moves new h =
    let within = refused-in 0 5 (receiver_of prefix_1) packet begun new moves h in let high = within.1 in
    absurd (omega arith)

-- an INFO_DST and an INFO_TS concern nobody, so none of them finds no memory
taken_up-not_refused_0 : (moves : List Move) (new : Part) → TakenUp moves (Some 0) new → ⊥
taken_up-not_refused_0 moves new h =
    ⊎_elim (λ stop. stop.3)
    (λ on. let within = refused-in 1 0 to_2
    (InfoTs (Some 0) ∷ from_data_1) on.2 new on.1 on.6 in absurd (omega arith)) h

taken_up-not_refused_1 : (moves : List Move) (new : Part) → TakenUp moves (Some 1) new → ⊥
taken_up-not_refused_1 moves new h =
    ⊎_elim (λ stop. stop.3)
    (λ on. ⊎_elim (λ stop. stop.3)
    (λ next. let within = refused-in 2 1 to_2 from_data_1 next.2 new next.1 next.6 in absurd (omega arith)) on.6) h

-- what is taken up without a move, and is not refused at its first submessage, need move nothing there
no_moves : (made later : List Move) → [] ≡ made ++ later → (made ≡ []) × (later ≡ [])
no_moves [] later none = (refl, sym none)
no_moves (m ∷ made) later none = absurd cc

goes_on : (index : ℕ) (at : Receiver) (s : Submessage) (ss : List Submessage) (refused : Option ℕ) (new : Part)
    → refused ≢ Some index → TakenFrom index at (s ∷ ss) begun [] refused new
    → MovesItsPlaces at s begun [] × TakenFrom (index + 1) (after_submessage prefix_2 at s) ss begun [] refused new
goes_on index at s ss refused new elsewhere h =
    ⊎_elim (λ stop. absurd (elsewhere stop.1))
    (λ on.
    let none = no_moves on.0 on.1 on.3 in
    let same = subst (λ (moves : List Move). AreMoves grounds begun moves on.2) none.0 on.4 in
    let moved = subst (λ (moves : List Move). MovesItsPlaces at s begun moves) none.0 on.5 in
    let rest =
    subst (λ (moves : List Move). TakenFrom (index + 1) (after_submessage prefix_2 at s) ss on.2 moves refused new)
    none.1 on.6 in (
      moved,
      subst (λ (part : Part). TakenFrom (index + 1) (after_submessage prefix_2 at s) ss part [] refused new) same
          rest,
    )) h

has_room-for_1 : HasNoRoom grounds begun w1 1 1 1 → ⊥
has_room-for_1 h =
    let change = some_is (write_of 1 1) h.change h.is_change in
    let no_room =
    subst (λ (c : Change). has_room (own_reader begun 1).qos []
    (coming (match_of begun 1 1) (position_at begun 1 1) c) ≡ false) (sym change) h.no_room in
    absurd cc

-- the first DATA, which has the change at the place, moves it, unless it or one before it is refused
taken_up-must_move : (refused : Option ℕ) (new : Part) → refused ≢ Some 0 → refused ≢ Some 1 → refused ≢ Some 2
    → TakenUp [] refused new → ⊥
taken_up-must_move refused new not_0 not_1 not_2 h =
    let from_1 =
    goes_on 0 (receiver_of prefix_1) (InfoDst prefix_2) (InfoTs (Some 0) ∷ from_data_1) refused new not_0 h in
    let from_2 = goes_on 1 to_2 (InfoTs (Some 0)) from_data_1 refused new not_1 from_1.1 in
    let from_3 =
    goes_on 2 to_2 (Data (data_of 1)) (InfoTs (Some 0) ∷ Data (data_of 2) ∷ []) refused new not_2 from_2.1 in
    ⊎_elim (λ none. none) has_room-for_1
    (from_3.0 w1 r1 1 1 (write_of 1 1) (to_r1, refl, refl) refl (record { handle = refl; at = refl; begun = refl }) (omega arith)
    (omega arith))

taken_up-not_without_moves : (new : Part) → TakenUp [] None new → ⊥
taken_up-not_without_moves new h = taken_up-must_move None new (λ e. cc) (λ e. cc) (λ e. cc) h

taken_up-not_excused_by_3 : (new : Part) → TakenUp [] (Some 3) new → ⊥
taken_up-not_excused_by_3 new h =
    taken_up-must_move (Some 3) new (λ e. omega (arith, some_is 3 0 e)) (λ e. omega (arith, some_is 3 1 e))
    (λ e. omega (arith, some_is 3 2 e)) h

-- ---- room

-- a reader that takes up to one sample has no room for the second change while the first is present, so the place need
-- not move
abbrev limited : List Happening → Part
limited happened = record (part_2 2 None []) {
  dds =
      record {
        moment = 0;
        readers = record {
          qos = record (own_reader begun 1).qos
              { max_samples = Some 1 };
          happened = happened;
          seen = nothing_seen;
          matches = opened_with (w1 ∷ []);
        }
            ∷ [];
        watch = nothing_watched 0 1;
        listeners = nobody 0 1;
      };
}

abbrev full : Part
full = limited came_1

abbrev taken : Part
taken = limited (Took (record { key = key 1; position = 1 } ∷ []) ∷ came_1)

full-has_no_room : HasNoRoom (grounds_of (machine both full) 2) full w1 1 1 2
full-has_no_room = record { change = write_of 1 2; is_change = refl; no_room = refl }

-- once it is taken there is room
full-has_room_after_a_take : HasNoRoom (grounds_of (machine both taken) 2) taken w1 1 1 2 → ⊥
full-has_room_after_a_take h =
    let change = some_is (write_of 1 2) h.change h.is_change in
    let at = own_reader taken 1 in
    let no_room =
    subst (λ (c : Change). has_room at.qos at.happened (coming (match_of taken 1 1) (position_at taken 1 2) c)
    ≡ false) (sym change) h.no_room in
    absurd cc
