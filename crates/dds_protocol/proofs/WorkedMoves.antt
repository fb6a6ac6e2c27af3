-- Which moves a place makes, computed at two peers: over changes that come, over runs that are passed over, and where it
-- begins. Peer 1 has a writer w1, peer 2 a matched reader r1.
use Rattle.std.proofs.Common.{◌≡◌, ℕ, zero, suc, ◌+◌, ◌<◌, ◌≤◌, true, Option, None, List, [], ◌∷◌, refl, ap, subst, inl, inr, ⊎_elim, arith}
use Rattle.std.specs.Prelude.{ℤ, slice_index}
use Rattle.dds_base.specs.declared.change.Change.{Change}
use Rattle.dds_base.specs.declared.config.Config.{Config}
use Rattle.dds_base.specs.declared.config.PeerConfig.{PeerConfig}
use Rattle.dds_base.specs.Bounds.{usual_value}
use Rattle.dds_base.specs.declared.happening.Happening.{Happening}
use Rattle.dds_base.specs.declared.happening.Happening.TheVariants.{Came, Passed}
use Rattle.dds_base.specs.declared.qos.HistoryQos.{HistoryQos}
use Rattle.dds_base.specs.declared.qos.HistoryQos.TheVariants.{KeepAll, KeepLast}
use Rattle.dds_base.specs.Presence.{has_room}
use Rattle.dds_base.specs.Written.{Written, Changed}
use Rattle.dds_base.specs.declared.happening.PassedRun.{PassedRun}
use Rattle.dds_base.specs.Places.{WriterGrounds, Match, PlaceWith, Comes, AllCome, Passes, MayPassOver, IsApart, GoesTo}
use Rattle.dds_conditions.specs.Watched.{opened as nothing_watched}
use Rattle.dds_notices.specs.Listeners.{nobody}
use Rattle.dds_machine.specs.declared.reply.Move.{Move}
use Rattle.dds_machine.specs.declared.reply.Move.TheVariants.{Place, Begun as HasBegun}
use Rattle.dds_machine.specs.declared.reply.Reply.TheVariants.{Reported}
use Rattle.dds_machine.specs.Part.{Begun, Waiting, opened_with, Part, Writer, no_reader, nothing_seen, owed_from, Names}
use Rattle.dds_base.specs.declared.qos.ReliabilityQos.TheVariants.{BestEffort}
use Rattle.dds_machine.specs.Moves.{Grounds, as_to, AreMoves, match_of, Begins, Places, DeliveryStep}
use Rattle.dds_machine.specs.Machine.{Machine, grounds_of}
use Rattle.dds_machine.specs.Opening.{opening, reader_names, reader_qos, writer_names}
use Rattle.dds_protocol.proofs.WorkedReceivers.{prefix_1, prefix_2, r1_id, writer, reader, w1, r1, some_is}
use Rattle.dds_protocol.proofs.WorkedExamples.{written}

abbrev pub peer_1 : HistoryQos → PeerConfig
peer_1 history = record { prefix = prefix_1; writers = writer history ∷ []; readers = [] }

abbrev pub peer_2 : PeerConfig
peer_2 = record { prefix = prefix_2; writers = []; readers = reader r1_id 0 ∷ [] }

abbrev pub pair : HistoryQos → Config
pair history = record { peers = peer_1 history ∷ peer_2 ∷ [] }

-- the names that both know
abbrev pub named : Names
named = record { writers = writer_names 1 (pair KeepAll).peers; readers = reader_names 1 (pair KeepAll).peers }

-- w1, with its limit, what happened there and what r1 has acknowledged
abbrev pub writing : HistoryQos → Option ℕ → List Written → ℕ → Writer
writing policy max_samples happened acknowledged =
    record {
      policy = policy;
      max_samples = max_samples;
      lease = None;
      strength = None;
      autodispose = true;
      max_value = usual_value;
      known = record { reader = r1; reliable = true } ∷ [];
      written = happened;
      matched = r1 ∷ [];
      readers = record { reader = r1; first = 1; acknowledged = acknowledged } ∷ [];
      matches = opened_with (r1 ∷ []);
    }

abbrev pub part_1 : Writer → Part
part_1 w =
    record {
      rtps = record { writers = w ∷ []; readers = []; names = named };
      dds = record { moment = 0; readers = []; watch = nothing_watched 1 0; listeners = nobody 1 0 };
    }

-- r1 at this place, with the count by which it heard w1 last, and what happened there
abbrev pub part_2 : ℕ → Option ℤ → List Happening → Part
part_2 place heard happened = record {
  rtps = record { writers = []; readers = (record { writer = w1; place = place; heard = heard; how = Begun } ∷ []) ∷ []; names = named };
  dds =
      record {
        moment = 0;
        readers = record {
          qos = reader_qos (pair KeepAll).peers
              (reader r1_id 0);
          happened = happened;
          seen = nothing_seen;
          matches = opened_with (w1 ∷ []);
        }
            ∷ [];
        watch = nothing_watched 0 1;
        listeners = nobody 0 1;
      };
}

abbrev pub machine : Writer → Part → Machine
machine w at_2 = record { parts = part_1 w ∷ at_2 ∷ [] }

opening-is : opening (pair KeepAll) ≡ machine (writing KeepAll None [] 1) (part_2 1 None [])
opening-is = refl

-- a write of a key, with a value of one octet
abbrev pub write_of : ℕ → ℕ → Change
write_of n value = written n (value ∷ []) 0

abbrev pub came : ℕ → Change → Happening
came number change = Came (record { writer = 1; number = number; change = change; moment = 0 })

-- a delivery at peer 2, where w1 is so, makes these moves
abbrev pub Delivers : Writer → Part → List Move → Part → Type 0
Delivers w old moves new =
    DeliveryStep (grounds_of (machine w old) 2) old (Reported (record { moves = moves; refused = None })) new

-- what a delivery at peer 2 may rest on, where w1 is so
abbrev grounds_at_2 : Writer → Grounds
grounds_at_2 w = grounds_of (machine w (part_2 1 None [])) 2

abbrev pub position : ℕ → List Happening → PlaceWith
position place happened = record { place = place; happened = happened }

-- ---- changes that come

-- three writes of one key, at a writer that keeps all
abbrev pub kept : Writer
kept = writing KeepAll None (Changed (write_of 1 3) ∷ Changed (write_of 1 2) ∷ Changed (write_of 1 1) ∷ []) 1

abbrev pub came_1 : List Happening
came_1 = came 1 (write_of 1 1) ∷ []

abbrev came_3 : List Happening
came_3 = came 3 (write_of 1 3) ∷ came 2 (write_of 1 2) ∷ came_1

-- r1's place at w1 goes on to where the moves go
place_goes : (grounds : Grounds) (place to : ℕ) (old happened : List Happening) (passed : List PassedRun) → place < to
    → GoesTo (as_to grounds w1 1) (match_of (part_2 place None old) 1 1) (position place old) passed to
    (position to happened)
    → AreMoves grounds (part_2 place None old) (Place w1 1 to passed ∷ []) (part_2 to None happened)
place_goes grounds place to old happened passed forward goes = (
  part_2 to None happened,
  record {
    publication = 1;
    place = place;
    matched = record { handle = refl; at = refl; begun = refl };
    forward = forward;
    end = position to happened;
    goes = goes;
    after = refl;
  },
  refl,
)

-- the change at r1's place comes, where there is room for it, and the place is then one more
pub comes_next : (grounds : Grounds) (n : ℕ) (change : Change) (happened : List Happening)
    → grounds.is_change w1 1 n change
    → has_room (reader_qos (pair KeepAll).peers (reader r1_id 0)) happened (came n change) ≡ true
    → AreMoves grounds (part_2 n None happened) (Place w1 1 (n + 1) [] ∷ [])
    (part_2 (n + 1) None (came n change ∷ happened))
comes_next grounds n change happened is_change room =
    let one : PlaceWith = position (n + 1) (came n change ∷ happened) in
    place_goes grounds n (n + 1) happened (came n change ∷ happened) [] (omega arith)
    (change ∷ [], (one, record { is_change = is_change; room = room; after = refl }, refl), refl)

place-goes_to_2 : Delivers kept (part_2 1 None []) (Place w1 1 2 [] ∷ []) (part_2 2 None came_1)
place-goes_to_2 = comes_next (grounds_at_2 kept) 1 (write_of 1 1) [] refl refl

-- one move takes the place over two changes
place-goes_to_4 : Delivers kept (part_2 2 None came_1) (Place w1 1 4 [] ∷ []) (part_2 4 None came_3)
place-goes_to_4 =
    place_goes (grounds_of (machine kept (part_2 2 None came_1)) 2) 2 4 came_1 came_3 [] (omega arith) (
      write_of 1 2 ∷ write_of 1 3 ∷ [],
      (
        position 3 (came 2 (write_of 1 2) ∷ came_1),
        record { is_change = refl; room = refl; after = refl },
        (position 4 came_3, record { is_change = refl; room = refl; after = refl }, refl),
      ),
      refl,
    )

-- w1 and r1, as peer 2 has them
abbrev the_match : Match
the_match = match_of (part_2 1 None []) 1 1

-- no change comes that the writer has not made, and none out of its turn
comes-not_4 : (happened : List Happening) (change : Change) (new : PlaceWith)
    → Comes (as_to (grounds_at_2 kept) w1 1) the_match (position 4 happened) change new → ⊥
comes-not_4 happened change new h = let is = h.is_change in absurd cc

comes-not_2_before_1 : (new : PlaceWith)
    → Comes (as_to (grounds_at_2 kept) w1 1) the_match (position 1 []) (write_of 1 2) new → ⊥
comes-not_2_before_1 new h =
    let value = ap (λ (c : Change). slice_index c.value 0)
    (some_is (write_of 1 1) (write_of 1 2) h.is_change) in absurd (omega arith)

-- a place goes forward alone
place-not_to_itself : (new : Part) → Places (grounds_at_2 kept) (part_2 2 None came_1) w1 1 2 [] new → ⊥
place-not_to_itself new h = let at = some_is 2 h.place h.matched.at in let forward = h.forward in absurd (omega arith)

-- ---- changes that are passed over

abbrev run : ℕ → ℕ → PassedRun
run first last = record { first = first; last = last }

-- a writer that keeps the last one of each key: 2 is dropped
abbrev pub one_dropped : Writer
one_dropped =
    writing (KeepLast 1) None (Changed (write_of 2 3) ∷ Changed (write_of 2 2) ∷ Changed (write_of 1 1) ∷ []) 1

abbrev lost_2 : List Happening
lost_2 = came 3 (write_of 2 3) ∷ Passed 1 2 2 ∷ came_1

-- what a run of these numbers asks of them
abbrev Dropped : Writer → ℕ → Type 0
Dropped w number = MayPassOver (as_to (grounds_at_2 w) w1 1) the_match.qos number

each_of_one : (P : ℕ → Type 0) (n : ℕ) → P n → (number : ℕ) → n ≤ number → number ≤ n → P number
each_of_one P n here number low high = let same : n ≡ number = omega arith in subst P same here

each_of_2_and_3 : (P : ℕ → Type 0) → P 2 → P 3 → (number : ℕ) → 2 ≤ number → number ≤ 3 → P number
each_of_2_and_3 P two three zero low high = absurd (omega arith)
each_of_2_and_3 P two three (suc zero) low high = absurd (omega arith)
each_of_2_and_3 P two three (suc (suc zero)) low high = two
each_of_2_and_3 P two three (suc (suc (suc zero))) low high = three
each_of_2_and_3 P two three (suc (suc (suc (suc n)))) low high = absurd (omega arith)

place-passes_2 : Delivers one_dropped (part_2 2 None came_1) (Place w1 1 4 (run 2 2 ∷ []) ∷ []) (part_2 4 None lost_2)
place-passes_2 =
    place_goes (grounds_of (machine one_dropped (part_2 2 None came_1)) 2) 2 4 came_1 lost_2 (run 2 2 ∷ [])
    (omega arith) (
      position 2 came_1,
      position 3 (Passed 1 2 2 ∷ came_1),
      ([], refl, refl),
      record {
        begins = refl;
        ordered = omega arith;
        may_pass = each_of_one
            (λ number. MayPassOver (as_to (grounds_of (machine one_dropped (part_2 2 None came_1)) 2) w1 1) the_match.qos
            number) 2 (inl (inl refl));
        after = refl;
      },
      tt,
      (write_of 2 3 ∷ [], (position 4 lost_2, record { is_change = refl; room = refl; after = refl }, refl), refl),
    )

-- with one more change of that key 2 and 3 are dropped: one run, entered by its first number and its last, behind which
-- the place stands
abbrev two_dropped : Writer
two_dropped = writing (KeepLast 1) None (Changed (write_of 2 4) ∷ one_dropped.written) 1

passes-2_and_3 : Passes (as_to (grounds_at_2 two_dropped) w1 1) the_match (position 2 came_1) (run 2 3)
    (position 4 (Passed 1 2 3 ∷ came_1))
passes-2_and_3 =
    record {
      begins = refl;
      ordered = omega arith;
      may_pass = each_of_2_and_3
          (Dropped two_dropped) (inl (inl refl)) (inl (inl refl));
      after = refl;
    }

-- a run ends where a change is not dropped, and begins at the place
passes-not_4 : (old new : PlaceWith) (first : ℕ) → first ≤ 4
    → Passes (as_to (grounds_at_2 two_dropped) w1 1) the_match old (run first 4) new → ⊥
passes-not_4 old new first low h =
    ⊎_elim (λ o. ⊎_elim (λ dropped. absurd cc) (λ owed. let below = owed.below in absurd (omega (arith, below))) o)
    (λ jumps. let other = jumps.0 in absurd cc) (h.may_pass 4 low (omega arith))

passes-not_from_3 : (happened : List Happening) (new : PlaceWith)
    → Passes (as_to (grounds_at_2 two_dropped) w1 1) the_match (position 2 happened) (run 3 3) new → ⊥
passes-not_from_3 happened new h = let begins = h.begins in absurd (omega arith)

-- of a writer that keeps all no change is passed over
passes-none_of_keep_all : (old new : PlaceWith) (first last : ℕ)
    → Passes (as_to (grounds_at_2 kept) w1 1) the_match old (run first last) new → ⊥
passes-none_of_keep_all old new first last h =
    ⊎_elim (λ o. ⊎_elim (λ dropped. absurd cc) (λ owed. let below = owed.below in absurd (omega (arith, below))) o)
    (λ jumps. let other = jumps.0 in absurd cc) (h.may_pass first (omega arith) h.ordered)

-- ---- runs that are apart

-- four changes of which 1 and 3 are dropped: two runs, and 2 comes between them
abbrev apart : Writer
apart =
    writing (KeepLast 1) None (Changed (write_of 1 4) ∷ Changed (write_of 1 3) ∷ Changed (write_of 2 2)
    ∷ Changed (write_of 1 1) ∷ []) 1

abbrev lost_1_and_3 : List Happening
lost_1_and_3 = came 4 (write_of 1 4) ∷ Passed 1 3 3 ∷ came 2 (write_of 2 2) ∷ Passed 1 1 1 ∷ []

goes-over_two_runs : GoesTo (as_to (grounds_at_2 apart) w1 1) the_match (position 1 []) (run 1 1 ∷ run 3 3 ∷ []) 5
    (position 5 lost_1_and_3)
goes-over_two_runs = (
  position 1 [],
  position 2 (Passed 1 1 1 ∷ []),
  ([], refl, refl),
  record { begins = refl; ordered = omega arith; may_pass = each_of_one (Dropped apart) 1 (inl (inl refl)); after = refl },
  omega arith,
  (
    position 3 (came 2 (write_of 2 2) ∷ Passed 1 1 1 ∷ []),
    position 4 (Passed 1 3 3 ∷ came 2 (write_of 2 2) ∷ Passed 1 1 1 ∷ []),
    (
      write_of 2 2 ∷ [],
      (
        position 3 (came 2 (write_of 2 2) ∷ Passed 1 1 1 ∷ []),
        record { is_change = refl; room = refl; after = refl },
        refl,
      ),
      refl,
    ),
    record { begins = refl; ordered = omega arith; may_pass = each_of_one (Dropped apart) 3 (inl (inl refl)); after = refl },
    tt,
    (write_of 1 4 ∷ [], (position 5 lost_1_and_3, record { is_change = refl; room = refl; after = refl }, refl), refl),
  ),
)

-- two runs that touch are one run, and no move has them as two
apart-not_touching : IsApart (run 1 1) (run 2 2 ∷ []) → ⊥
apart-not_touching h = absurd (omega (arith, h))

goes-not_over_touching_runs : (grounds : WriterGrounds) (match : Match) (old new : PlaceWith) (to : ℕ)
    → GoesTo grounds match old (run 1 1 ∷ run 2 2 ∷ []) to new → ⊥
goes-not_over_touching_runs grounds match old new to h = absurd (omega (arith, h.4))

-- a place never stands within a run that it went over
come-forward : (grounds : WriterGrounds) (match : Match) (old : PlaceWith) (changes : List Change) (new : PlaceWith)
    → AllCome grounds match old changes new → old.place ≤ new.place
come-forward grounds match old [] new h = let same = ap (λ (p : PlaceWith). p.place) h in omega arith
come-forward grounds match old (change ∷ changes) new h =
    let next = ap (λ (p : PlaceWith). p.place) h.1.after in
    let rest = come-forward grounds match h.0 changes new h.2 in
    omega arith

goes-behind_the_run : (grounds : WriterGrounds) (match : Match) (old new : PlaceWith) (to : ℕ)
    → GoesTo grounds match old (run 1 2 ∷ []) to new → 3 ≤ to
goes-behind_the_run grounds match old new to h =
    let behind = ap (λ (p : PlaceWith). p.place) h.3.after in
    let rest = come-forward grounds match h.1 h.5.0 new h.5.1 in
    let end = h.5.2 in
    omega arith

-- ---- what is not owed

-- w1 keeps its three changes, and owes r1 those from 3 on
abbrev pub owing_3 : Writer
owing_3 = record kept { readers = record { reader = r1; first = 3; acknowledged = 1 } ∷ [] }

owed-from_3 : owed_from owing_3 r1 ≡ 3
owed-from_3 = refl

-- to one that it is not matched with it owes no change that it has made
owed-from_the_next : owed_from (record kept { matched = []; readers = [] }) r1 ≡ 4
owed-from_the_next = refl

-- nor does what is owed begin past the next one, whatever the row says
owed-no_later : owed_from (record kept { readers = record { reader = r1; first = 9; acknowledged = 1 } ∷ [] }) r1 ≡ 4
owed-no_later = refl

-- so r1 may pass over 1 and 2, and over no other number
owed-passes_2 : (grounds_at_2 owing_3).may_pass w1 1 2
owed-passes_2 = inr (record { reliable = refl; from = omega arith; below = omega arith })

owed-not_3 : (grounds_at_2 owing_3).may_pass w1 1 3 → ⊥
owed-not_3 h = ⊎_elim (λ dropped. absurd cc) (λ owed. let below = owed.below in absurd (omega (arith, below))) h

owed-not_0 : (grounds_at_2 owing_3).may_pass w1 1 0 → ⊥
owed-not_0 h = ⊎_elim (λ dropped. absurd cc) (λ owed. let from = owed.from in absurd (omega (arith, from))) h

-- a best-effort reader there may pass over none of them
abbrev best_effort_2 : Part
best_effort_2 = record (part_2 1 None []) {
  dds = record (part_2 1 None []).dds {
    readers = record no_reader { qos = record no_reader.qos { reliability = BestEffort } } ∷ [];
  };
}

owed-not_best_effort : (number : ℕ) → (grounds_of (machine owing_3 best_effort_2) 2).may_pass w1 1 number → ⊥
owed-not_best_effort number h = ⊎_elim (λ dropped. absurd cc) (λ owed. let is = owed.reliable in absurd cc) h

-- ---- a place that begins

-- r1 is matched with w1 again, and its place waits where it was
abbrev pub waiting : ℕ → Part
waiting place =
    record (part_2 place None []) {
      rtps = record {
        writers = [];
        readers = (record { writer = w1; place = place; heard = None; how = Waiting } ∷ []) ∷ [];
        names = named;
      };
    }

-- it begins over what is not owed, and nothing is entered as lost
begins-at_3 : Delivers owing_3 (waiting 1) (HasBegun w1 1 1 3 ∷ []) (part_2 3 None [])
begins-at_3 = (
  part_2 3 None [],
  record {
    waits = refl;
    at = refl;
    no_less = omega arith;
    may_pass = λ number low high.
        inl (inr (record { reliable = refl; from = low; below = omega (arith, high) }));
    after = refl;
  },
  refl,
)

-- or where it was
begins-where_it_was : Delivers owing_3 (waiting 2) (HasBegun w1 1 2 2 ∷ []) (part_2 2 None [])
begins-where_it_was = (
  part_2 2 None [],
  record {
    waits = refl;
    at = refl;
    no_less = omega arith;
    may_pass = λ number low high. absurd (omega (arith, low, high));
    after = refl;
  },
  refl,
)

-- not over a change that is owed
begins-not_at_4 : (new : Part) → Begins (grounds_of (machine owing_3 (waiting 1)) 2) (waiting 1) w1 1 1 4 new → ⊥
begins-not_at_4 new h =
    ⊎_elim
    (λ o. ⊎_elim (λ dropped. absurd cc) (λ owed. let below = owed.below in absurd (omega (arith, below))) o)
    (λ jumps. let other = jumps.0 in absurd cc) (h.may_pass 3 (omega arith) (omega arith))

-- nor where it has begun
begins-once : (to : ℕ) (new : Part) → Begins (grounds_at_2 owing_3) (part_2 1 None []) w1 1 1 to new → ⊥
begins-once to new h = let waits = h.waits in cc

-- a place that waits doesn't go on
waits-goes_nowhere : (to : ℕ) (passed : List PassedRun) (new : Part)
    → Places (grounds_of (machine kept (waiting 1)) 2) (waiting 1) w1 1 to passed new → ⊥
waits-goes_nowhere to passed new h = let begun = h.matched.begun in cc
