-- The next change, behind which nothing waits: it comes and the place goes on by one, or it is held where there is no
-- room for it.
use Rattle.std.proofs.Common.{◌≡◌, ℕ, ◌<◌, ◌≤◌, ◌+◌, ◌%◌, Bool, true, false, cond, eqb, List, [], get_or, Option, None, Some, is_some, inl, inr, refl, sym, ap, ◌∙◌, arith, append-nil}
use Rattle.std.specs.Prelude.{◌⊎◌, nat_lt, nat_le, ◌==◌}
use Rattle.std.proofs.lemmas.Bool.{cases_eq, eq-eqb, ne_eqb}
use Rattle.std.proofs.lemmas.Bool.Decides.{nat_tests}
use Rattle.dds_base.specs.declared.change.Change.{Change}
use Rattle.dds_base.specs.declared.happening.Happening.{Happening}
use Rattle.dds_base.specs.declared.happening.PassedRun.{PassedRun}
use Rattle.dds_base.specs.Places.{Match}
use Rattle.rtps_sets.specs.Window.{Marks, mark_of, window_place, is_in_window}
use Rattle.rtps_sets.specs.declared.window.Mark.{Mark}
use Rattle.rtps_sets.specs.declared.window.Mark.TheVariants as mark
use Rattle.rtps_reader.specs.HeldChanges.{held_at}
use Rattle.rtps_reader.specs.Tracked.{Tracked, Slot, Missing, Held, Irrelevant, is_missing, is_passable, is_passable_slot, with_data, SameTracked}
use Rattle.rtps_reader.specs.Advance.{Advances}
use Rattle.rtps_reader.specs.Moving.{FindsNoRoom, HandsOn, IsNext, PassesOver}
use Rattle.rtps_reader.specs.Proxy.{slot_from}
use Rattle.rtps_reader.specs.Sound.{Keeps, says_held}
use Rattle.rtps_reader.proofs.KeptLaws.{GoesOn, goes_on}
use Rattle.rtps_reader.proofs.MoveLaws.{Progress, begun, over, handed, stopped}

-- ---- what is held at the place of a number of which nothing is known

pub nothing_held : (m : Option Mark) (o : Option Change) → is_some o ≡ says_held m
    → is_missing (slot_from m o) ≡ true → o ≡ None
nothing_held None None kept is = refl
nothing_held None (Some change) kept is = absurd (let e : true ≡ false = kept in cc)
nothing_held (Some mark.Irrelevant) o kept is = absurd (let e : false ≡ true = is in cc)
nothing_held (Some mark.Held) None kept is = refl
nothing_held (Some mark.Held) (Some change) kept is = absurd (let e : false ≡ true = is in cc)

-- so it may be taken for empty
pub none_taken : (held : List (Option Change)) (number : ℕ) → held_at held number ≡ None
    → (n : ℕ) → held_at held n ≡ cond (eqb (n % 256) (number % 256)) None (held_at held n)
none_taken held number none n = by (cases_eq (n % 256) (number % 256))
  where
    by : (n % 256 ≡ number % 256) ⊎ (n % 256 ≡ number % 256 → ⊥)
        → held_at held n ≡ cond (eqb (n % 256) (number % 256)) None (held_at held n)
    by (inl same) =
        (ap (λ (place : ℕ). get_or held place None) same ∙ none)
        ∙ sym (ap (λ (b : Bool). cond b None (held_at held n)) (eq-eqb (n % 256) (number % 256) same))
    by (inr other) =
        sym (ap (λ (b : Bool). cond b None (held_at held n)) (ne_eqb (n % 256) (number % 256) other))

-- the place goes over it by one
pub next_goes_on : (w now : Marks) (held : List (Option Change)) (number to : ℕ) → Keeps w held
    → number ≡ window_place w → is_missing (slot_from (mark_of w number) (held_at held number)) ≡ true
    → to ≡ number + 1 → window_place now ≡ to → ((n : ℕ) → mark_of now n ≡ cond (nat_le to n) (mark_of w n) None)
    → GoesOn w now held held
next_goes_on w now held number to keeps here missing next at marks =
    goes_on w now held held number to here next at marks
    (none_taken held number
    (nothing_held (mark_of w number) (held_at held number) (keeps number (omega (arith, here)) (omega (arith, here)))
    missing))

-- ---- what is known with the change

missing_is : (s : Slot) → is_missing s ≡ true → s ≡ Missing
missing_is Missing is = refl
missing_is (Held change) is = absurd (let e : false ≡ true = is in cc)
missing_is Irrelevant is = absurd (let e : false ≡ true = is in cc)

-- it is held
pub next_is_held : (t : Tracked) (number : ℕ) (change : Change) → IsNext t number
    → (with_data number change t).slot t.place ≡ Held change
next_is_held t number change next =
    let here = next.here in
    let same : (number == t.place) ≡ true = grind (arith, nat_tests) in
    let inside : is_in_window t.place t.place ≡ true = grind (arith, nat_tests) in
    let missing : is_missing (t.slot t.place) ≡ true = ap (λ (n : ℕ). is_missing (t.slot n)) (sym here) ∙ next.missing in
    rw (same, inside, missing) refl

-- all others stay
pub others_stay : (t : Tracked) (number n : ℕ) (change : Change) → number < n
    → (with_data number change t).slot n ≡ t.slot n
others_stay t number n change above =
    let other : (number == n) ≡ false = grind (arith, nat_tests) in rw other refl

-- so it can't be passed over
held_stands : (first n : ℕ) (s : Slot) (change : Change) → s ≡ Held change → is_passable_slot first n s ≡ false
held_stands first n s change is = rw is refl

pub next_stands : (t : Tracked) (number : ℕ) (change : Change) → IsNext t number
    → is_passable (with_data number change t) t.place ≡ false
next_stands t number change next =
    held_stands t.first t.place ((with_data number change t).slot t.place) change (next_is_held t number change next)

missing_stands : (first n : ℕ) (s : Slot) → is_missing s ≡ true → first ≤ n → is_passable_slot first n s ≡ false
missing_stands first n s is le = rw (missing_is s is) (let e : nat_lt n first ≡ false = grind (arith, nat_tests) in e)

-- neither can the one behind it
pub behind_stands : (t new : Tracked) (number : ℕ) → IsNext t number → new.place ≡ number + 1
    → new.slot new.place ≡ t.slot (number + 1) → new.first ≡ t.first → is_passable new new.place ≡ false
behind_stands t new number next at same first =
    let least = next.first in
    missing_stands new.first new.place (new.slot new.place) (ap is_missing same ∙ next.behind)
    (omega (arith, at, first, least))

missing_not_held : (s : Slot) (change : Change) → is_missing s ≡ true → s ≡ Held change → ⊥
missing_not_held s change is held = let e : Missing ≡ Held change = sym (missing_is s is) ∙ held in cc

-- ---- how the place moves

-- where nothing can be passed over, nothing is
none_over : (publication : ℕ) (stands : List Happening → Type 0) (t : Tracked) (runs : List PassedRun)
    → is_passable t t.place ≡ false → PassesOver publication stands stands t t runs runs
none_over publication stands t runs stays =
    let same : nat_lt t.place t.place ≡ false = grind (arith, nat_tests) in
    record {
      forward = omega arith;
      passable = λ n low high. absurd (omega (arith, low, high));
      not_passable = stays;
      runs_is = rw same (sym (append-nil runs));
      entered = λ h st. rw same st;
      stays = record { slots = λ n le. refl; first = refl; count = refl; acknacks = refl };
    }

-- the change comes, and nothing more
pub next_comes : (match : Match) (t : Tracked) (h : List Happening) (new : Tracked)
    (before after : List Happening → Type 0)
    → is_passable t t.place ≡ false → HandsOn match before after t new → is_passable new new.place ≡ false
    → is_missing (new.slot new.place) ≡ true → before h
    → (happened : List Happening) × Advances match t h new.place [] new happened × after happened
next_comes match t h new before after stands hands behind missing st =
    let at_first : Progress match t h [] t before (t.place + 1) =
    over match t h [] [] t t before before (begun match t h [] before refl st)
    (none_over match.publication before t [] stands) in
    let come : Progress match t h [] new after new.place = handed match t h [] t new before after at_first hands in
    let then_none = none_over match.publication after new [] behind in
    stopped match t h [] new new after
    (over match t h [] [] new new after after come then_none)
    behind
    (λ change then is was. absurd (missing_not_held (new.slot new.place) change missing is))
    (record { place = refl; slots = λ n. refl; first = refl; count = refl; acknacks = refl })

-- the change waits
pub next_waits : (match : Match) (t : Tracked) (h : List Happening) (new : Tracked) (stands : List Happening → Type 0)
    → is_passable t t.place ≡ false → FindsNoRoom match stands t → SameTracked t new → stands h
    → (happened : List Happening) × Advances match t h new.place [] new happened × stands happened
next_waits match t h new stands at_it full same st =
    stopped match t h [] t new stands
    (over match t h [] [] t t stands stands (begun match t h [] stands refl st)
    (none_over match.publication stands t [] at_it))
    at_it full same
