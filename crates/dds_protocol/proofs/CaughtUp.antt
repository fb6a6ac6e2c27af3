-- What a round of repair does to a reader's window: each number is known of in the end, and so the place has gone over
-- it.
use Rattle.std.proofs.Common.{◌≡◌, ◌⊎◌, ℕ, ◌+◌, ◌<◌, ◌≤◌, ◌==◌, ◌&&◌, ◌||◌, Bool, true, false, min, nat_lt, nat_le, List, [], ◌∷◌, Some, refl, subst, ap, sym, ◌∙◌, inl, inr, ⊎_elim, arith}
use Rattle.std.specs.Prelude.{if◌then◌else◌}
use Rattle.std.specs.List.{list_any}
use Rattle.std.proofs.lemmas.Bool.{cases_lt}
use Rattle.std.proofs.lemmas.Bool.Decides.{nat_tests}
use Rattle.dds_base.specs.declared.change.Change.{Change}
use Rattle.dds_base.specs.declared.happening.Happening.{Happening}
use Rattle.dds_base.specs.Places.{Match, coming}
use Rattle.dds_base.specs.Presence.{has_room}
use Rattle.dds_base.proofs.PlaceLaws.{goes_forward}
use Rattle.rtps_sets.specs.NumberSet.{empty_from, has_number}
use Rattle.rtps_sets.specs.Window.{is_in_window}
use Rattle.rtps_reader.specs.Tracked.{Slot, Missing, Held, Irrelevant, Tracked, is_missing, is_passable_slot, is_passable, is_open, is_named, with_data, with_gap, with_heartbeat}
use Rattle.rtps_reader.specs.Advance.{known}
use Rattle.rtps_reader.specs.Answer.{answered, is_asked}
use Rattle.rtps_writer.specs.declared.answer.Answer.{Answer}
use Rattle.rtps_writer.specs.declared.answer.Answer.TheVariants.{Data, Gap}
use Rattle.rtps_writer.specs.Answers.{is_answer_to}
use Rattle.dds_protocol.specs.CatchUp.{Standing, GoesOn, TakesAnswer, TakesAnswers, IsRepaired, IsFull, HasGoneOn}

-- the place is past the number, or something is known of it
abbrev pub IsKnown : Tracked → ℕ → Type 0
IsKnown t n = (n < t.place) ⊎ (is_missing (t.slot n) ≡ false)

-- the place stands where it can't go on, but for want of room
pub record IsSettled (match : Match) (s : Standing) : Type 0 where
  pub not_passable : is_passable s.tracked s.tracked.place ≡ false
  pub no_room : (change : Change) → s.tracked.slot s.tracked.place ≡ Held change
      → has_room match.qos s.happened (coming match (record { place = s.tracked.place; happened = s.happened }) change)
      ≡ false

-- ---- the place goes on

pub on_forward : (match : Match) (t : Tracked) (h : List Happening) (new : Standing) → GoesOn match t h new
    → t.place ≤ new.tracked.place
on_forward match t h new g =
    let forward =
    goes_forward (known t) match (record { place = t.place; happened = h }) g.1 g.0
    (record { place = g.0; happened = new.happened }) g.2.goes in
    let le = forward.0 in let place = g.2.place in omega (arith, le, place)

on_known : (match : Match) (t : Tracked) (h : List Happening) (new : Standing) (n : ℕ) → GoesOn match t h new
    → IsKnown t n → IsKnown new.tracked n
on_known match t h new n g (inl below) = let le = on_forward match t h new g in inl (omega (arith, below, le))
on_known match t h new n g (inr something) =
    ⊎_elim (λ below. inl below) (λ at. inr (ap (λ (s : Slot). is_missing s) (g.2.stays.slots n at) ∙ something))
    (cases_lt n new.tracked.place)

pub on_settled : (match : Match) (t : Tracked) (h : List Happening) (new : Standing) → GoesOn match t h new
    → IsSettled match new
on_settled match t h new g = record {
  not_passable =
      ap (λ (s : Slot). is_passable_slot new.tracked.first new.tracked.place s) (same new.tracked.place (omega arith))
      ∙ (ap (λ (f : ℕ). is_passable_slot f new.tracked.place (t.slot new.tracked.place)) g.2.stays.first
      ∙ (ap (λ (n : ℕ). is_passable t n) g.2.place ∙ g.2.stops.not_passable));
  no_room = λ change held.
      subst (λ (n : ℕ). has_room match.qos new.happened
      (coming match (record { place = n; happened = new.happened }) change) ≡ false) (sym g.2.place)
      (g.2.stops.no_room change
      (subst (λ (n : ℕ). t.slot n ≡ Held change) g.2.place (sym (same new.tracked.place (omega arith)) ∙ held)));
}
  where
    same : (n : ℕ) → new.tracked.place ≤ n → new.tracked.slot n ≡ t.slot n
    same n low = g.2.stays.slots n low

-- ---- an answer

held_known : (b : Bool) (change : Change) (s : Slot) → is_missing s ≡ false
    → is_missing (if b then Held change else s) ≡ false
held_known true change s h = refl
held_known false change s h = h

passed_known : (b : Bool) (s : Slot) → is_missing s ≡ false → is_missing (if b then Irrelevant else s) ≡ false
passed_known true s h = refl
passed_known false s h = h

-- what is in the window is known of once it is marked
now_held : (a w : Bool) (change : Change) (s : Slot) → a ≡ true → w ≡ true
    → is_missing (if a && (w && is_missing s) then Held change else s) ≡ false
now_held true true change Missing f g = refl
now_held true true change (Held c) f g = refl
now_held true true change Irrelevant f g = refl
now_held true false change s f g = cc
now_held false w change s f g = cc

now_passed : (a w : Bool) (s : Slot) → a ≡ true → w ≡ true
    → is_missing (if a && (w && is_missing s) then Irrelevant else s) ≡ false
now_passed true true Missing f g = refl
now_passed true true (Held c) f g = refl
now_passed true true Irrelevant f g = refl
now_passed true false s f g = cc
now_passed false w s f g = cc

within : (place n : ℕ) → place ≤ n → n < place + 256 → is_in_window place n ≡ true
within place n low high = grind (arith, nat_tests)

-- the numbers that an answer is for
is_named_by : (first last n : ℕ) → (nat_le first n && nat_le n last) ≡ true
    → is_named first (empty_from (last + 1)) n ≡ true
is_named_by first last n h = either (has_number (empty_from (last + 1)) n) named
  where
    named : (nat_le first n && nat_lt n (last + 1)) ≡ true
    named = by (nat_le first n) (nat_le n last) refl refl
      where
        by : (a b : Bool) → nat_le first n ≡ a → nat_le n last ≡ b → (nat_le first n && nat_lt n (last + 1)) ≡ true
        by true true e f = grind (arith, nat_tests)
        by true false e f = let no = ap (λ (x : Bool). x && nat_le n last) e in let none = sym h ∙ (no ∙ f) in absurd cc
        by false b e f = let no = ap (λ (x : Bool). x && nat_le n last) e in let none = sym h ∙ no in absurd cc

    either : (x : Bool) → (nat_le first n && nat_lt n (last + 1)) ≡ true
        → ((nat_le first n && nat_lt n (last + 1)) || x) ≡ true
    either x e = ap (λ (b : Bool). b || x) e

pub answer_forward : (match : Match) (a : Answer) (old new : Standing) → TakesAnswer match a old new
    → old.tracked.place ≤ new.tracked.place
answer_forward match (Data m) old new h = on_forward match (with_data m h.0 old.tracked) old.happened new h.1
answer_forward match (Gap first last) old new h =
    on_forward match (with_gap first (empty_from (last + 1)) old.tracked) old.happened new h

answer_known : (match : Match) (a : Answer) (old new : Standing) (n : ℕ) → TakesAnswer match a old new
    → IsKnown old.tracked n → IsKnown new.tracked n
answer_known match (Data m) old new n h k =
    on_known match (with_data m h.0 old.tracked) old.happened new n h.1
    (⊎_elim (λ b. inl b) (λ s. inr (held_known ((m == n) && is_open old.tracked n) h.0 (old.tracked.slot n) s)) k)
answer_known match (Gap first last) old new n h k =
    on_known match (with_gap first (empty_from (last + 1)) old.tracked) old.happened new n h
    (⊎_elim (λ b. inl b)
    (λ s. inr (passed_known (is_named first (empty_from (last + 1)) n && is_open old.tracked n) (old.tracked.slot n) s))
    k)

answer_settled : (match : Match) (a : Answer) (old new : Standing) → TakesAnswer match a old new → IsSettled match new
answer_settled match (Data m) old new h = on_settled match (with_data m h.0 old.tracked) old.happened new h.1
answer_settled match (Gap first last) old new h =
    on_settled match (with_gap first (empty_from (last + 1)) old.tracked) old.happened new h

-- a number of the window is known of once it is answered
answer_tells : (match : Match) (a : Answer) (old new : Standing) (n : ℕ) → is_answer_to n a ≡ true
    → n < old.tracked.place + 256
    → TakesAnswer match a old new → IsKnown new.tracked n
answer_tells match (Data m) old new n for high h =
    on_known match (with_data m h.0 old.tracked) old.happened new n h.1
    (⊎_elim (λ b. inl b)
    (λ low. inr (now_held (m == n) (is_in_window old.tracked.place n) h.0 (old.tracked.slot n) for
    (within old.tracked.place n low high)))
    (cases_lt n old.tracked.place))
answer_tells match (Gap first last) old new n for high h =
    on_known match (with_gap first (empty_from (last + 1)) old.tracked) old.happened new n h
    (⊎_elim (λ b. inl b)
    (λ low.
    inr (now_passed (is_named first (empty_from (last + 1)) n) (is_in_window old.tracked.place n) (old.tracked.slot n)
    (is_named_by first last n for) (within old.tracked.place n low high)))
    (cases_lt n old.tracked.place))

-- ---- answers in turn

pub answers_forward : (match : Match) (answers : List Answer) (old new : Standing) → TakesAnswers match answers old new
    → old.tracked.place ≤ new.tracked.place
answers_forward match [] old new h = let e = ap (λ (s : Standing). s.tracked.place) h in omega (arith, e)
answers_forward match (a ∷ rest) old new h =
    let first = answer_forward match a old h.0 h.1 in
    let later = answers_forward match rest h.0 new h.2 in
    omega (arith, first, later)

answers_known : (match : Match) (answers : List Answer) (old new : Standing) (n : ℕ)
    → TakesAnswers match answers old new → IsKnown old.tracked n → IsKnown new.tracked n
answers_known match [] old new n h k = subst (λ (s : Standing). IsKnown s.tracked n) (sym h) k
answers_known match (a ∷ rest) old new n h k =
    answers_known match rest h.0 new n h.2 (answer_known match a old h.0 n h.1 k)

answers_settled : (match : Match) (answers : List Answer) (old new : Standing) → TakesAnswers match answers old new
    → IsSettled match old → IsSettled match new
answers_settled match [] old new h s = subst (λ (x : Standing). IsSettled match x) (sym h) s
answers_settled match (a ∷ rest) old new h s =
    answers_settled match rest h.0 new h.2 (answer_settled match a old h.0 h.1)

answers_tell : (match : Match) (answers : List Answer) (old new : Standing) (n : ℕ)
    → list_any (is_answer_to n) answers ≡ true → n < old.tracked.place + 256
    → TakesAnswers match answers old new → IsKnown new.tracked n
answers_tell match [] old new n for high h = cc
answers_tell match (a ∷ rest) old new n for high h =
    by (is_answer_to n a) refl (λ later. answers_tell match rest h.0 new n later
    (omega (arith, high, answer_forward match a old h.0 h.1)) h.2)
  where
    by : (b : Bool) → is_answer_to n a ≡ b → (list_any (is_answer_to n) rest ≡ true → IsKnown new.tracked n)
        → IsKnown new.tracked n
    by true e later = answers_known match rest h.0 new n h.2 (answer_tells match a old h.0 n e high h.1)
    by false e later = later (sym (ap (λ (b : Bool). b || list_any (is_answer_to n) rest) e) ∙ for)

-- ---- the round

missing_or_not : (s : Slot) → (is_missing s ≡ true) ⊎ (is_missing s ≡ false)
missing_or_not Missing = inl refl
missing_or_not (Held c) = inr refl
missing_or_not Irrelevant = inr refl

asked : (t : Tracked) (last n : ℕ) → t.place ≤ n → n < t.place + 256 → is_missing (t.slot n) ≡ true → n ≤ last
    → is_asked t last n ≡ true
asked t last n low high missing most =
    ap (λ (b : Bool). (b && is_missing (t.slot n)) && nat_le n last) (within t.place n low high)
    ∙ (ap (λ (b : Bool). b && nat_le n last) missing ∙ small)
  where
    small : nat_le n last ≡ true
    small = grind (arith, nat_tests)

-- what is known of, and is no reason to go on, is held without room
full : (match : Match) (s : Standing) (x : Slot) → s.tracked.slot s.tracked.place ≡ x → is_missing x ≡ false
    → IsSettled match s → IsFull match s
full match s Missing is something settled = cc
full match s (Held change) is something settled =
    record { change = change; held = is; no_room = settled.no_room change is }
full match s Irrelevant is something settled =
    let over : is_passable s.tracked s.tracked.place ≡ true =
    ap (λ (y : Slot). is_passable_slot s.tracked.first s.tracked.place y) is in
    let none = settled.not_passable in absurd cc

pub window_catches_up : (match : Match) (last acknowledged : ℕ) (old new : Standing)
    → (r : IsRepaired match last acknowledged old new) → acknowledged ≤ r.due.base
    → HasGoneOn match last old.tracked.place new × (old.tracked.place ≤ r.due.base)
window_catches_up match last acknowledged old new r low = (
  ⊎_elim (λ short. inr (stuck short)) (λ far. inl far)
      (cases_lt new.tracked.place (min (old.tracked.place + 256) (last + 1))),
  omega (arith, base, forward),
)
  where
    from : Tracked
    from = r.heard.tracked

    told : Standing
    told = record r.heard { tracked = answered (Some r.due) from }

    base : r.due.base ≡ from.place
    base = r.tells.base

    forward : old.tracked.place ≤ from.place
    forward = on_forward match (with_heartbeat r.first r.count old.tracked) old.happened r.heard r.hears

    further : from.place ≤ new.tracked.place
    further = answers_forward match r.answers told new r.takes

    settled : IsSettled match new
    settled =
        let s : IsSettled match r.heard =
        on_settled match (with_heartbeat r.first r.count old.tracked) old.happened r.heard r.hears in
        answers_settled match r.answers told new r.takes (record { not_passable = s.not_passable; no_room = s.no_room })

    known_of : new.tracked.place < from.place + 256 → new.tracked.place ≤ last → IsKnown new.tracked new.tracked.place
    known_of high most =
        ⊎_elim
        (λ missing.
        let is : has_number r.due.missing new.tracked.place ≡ true =
        r.tells.members new.tracked.place ∙ asked from last new.tracked.place further high missing most in
        answers_tell match r.answers told new new.tracked.place
        (r.complete new.tracked.place is (omega (arith, low, base, further)) most) high r.takes)
        (λ something. answers_known match r.answers told new new.tracked.place r.takes (inr something))
        (missing_or_not (from.slot new.tracked.place))

    stuck : new.tracked.place < min (old.tracked.place + 256) (last + 1) → IsFull match new
    stuck short =
        ⊎_elim (λ below. absurd (omega (arith, below)))
        (λ something. full match new (new.tracked.slot new.tracked.place) refl something settled)
        (known_of (omega (arith, short, forward)) (omega (arith, short)))
