-- What a GAP marks in a window, number by number.
use Rattle.std.proofs.Common.{◌≡◌, ℕ, ◌<◌, ◌≤◌, ◌+◌, Bool, true, false, cond, refl, ap, ◌∙◌, arith}
use Rattle.std.specs.Prelude.{Option, None, Some, nat_le, nat_lt, ◌==◌, if◌then◌else◌, ◌&&◌, is_none}
use Rattle.std.proofs.lemmas.Bool.Decides.{nat_tests}
use Rattle.rtps_sets.specs.Window.{Marks, mark_of, window_place, is_in_window}
use Rattle.rtps_sets.specs.NumberSet.{NumberSet}
use Rattle.rtps_sets.specs.declared.window.Mark.{Mark}
use Rattle.rtps_sets.specs.declared.window.Mark.TheVariants as mark
use Rattle.rtps_reader.specs.Tracked.{is_named}
use Rattle.rtps_reader.specs.Moving.{mark_named}

and_false : (b : Bool) → (b && false) ≡ false
and_false true = refl
and_false false = refl

and_true : (b : Bool) → (b && true) ≡ b
and_true true = refl
and_true false = refl

marks_step : (same named_n named_number low lt more window : Bool) (m now_n now_number new_n : Option Mark)
    → (same ≡ true → named_number ≡ named_n) → (same ≡ true → now_number ≡ now_n) → (same ≡ true → lt ≡ false)
    → (same ≡ true → more ≡ true) → (same ≡ true → low ≡ true) → window ≡ true → (same ≡ false → more ≡ lt)
    → now_n ≡ cond (named_n && ((low && lt) && is_none m)) (Some mark.Irrelevant) m
    → new_n ≡ cond ((named_number && (window && is_none now_number)) && same) (Some mark.Irrelevant) now_n
    → new_n ≡ cond (named_n && ((low && more) && is_none m)) (Some mark.Irrelevant) m
marks_step false named_n named_number low lt more window m now_n now_number new_n e1 e2 l1 l2 l3 l4 l5 now_is new_is =
    rw (l5 refl) (new_is ∙ (ap (λ (b : Bool). cond b (Some mark.Irrelevant) now_n)
    (and_false (named_number && (window && is_none now_number))) ∙ now_is))
marks_step true true named_number low lt more window m now_n now_number new_n e1 e2 l1 l2 l3 l4 l5 now_is new_is =
    let e3 : now_n ≡ m = rw (l1 refl, l3 refl) at now_is in
    rw (new_is, e1 refl, e2 refl, e3, l4, l2 refl, l3 refl)
    (ap (λ (b : Bool). cond b (Some mark.Irrelevant) m) (and_true (is_none m)))
marks_step true false named_number low lt more window m now_n now_number new_n e1 e2 l1 l2 l3 l4 l5 now_is new_is = rw
    (new_is, e1 refl) now_is

-- one number more is marked if it is named
pub marks_more : (start : ℕ) (list : NumberSet) (w now new : Marks) (number n : ℕ) (named : Bool)
    → window_place w ≤ number
    → number < window_place w + 256 → window_place now ≡ window_place w
    → named ≡ is_named start list number → ((k : ℕ) → mark_of now k ≡ mark_named start list number w k)
    → mark_of new n ≡ (if (named && (is_in_window (window_place now) number && is_none (mark_of now number))) &&
    (number == n) then Some mark.Irrelevant else mark_of now n)
    → mark_of new n ≡ mark_named start list (number + 1) w n
marks_more start list w now new number n named low high at is so_far next =
    marks_step (number == n) (is_named start list n) named (nat_le (window_place w) n) (nat_lt n number)
    (nat_lt n (number + 1)) (is_in_window (window_place now) number) (mark_of w n) (mark_of now n) (mark_of now number)
    (mark_of new n)
    (λ same. is ∙ ap (λ (k : ℕ). is_named start list k) (equal same))
    (λ same. ap (λ (k : ℕ). mark_of now k) (equal same))
    (λ same. let e = equal same in grind (arith, nat_tests)) (λ same. let e = equal same in grind (arith, nat_tests))
    (λ same. let e = equal same in grind (arith, nat_tests))
    (let l : nat_le (window_place now) number ≡ true = grind (arith, nat_tests) in let h : nat_lt number
    (window_place now + 256) ≡ true = grind (arith, nat_tests) in rw (l, h) refl)
    (λ other. grind (arith, nat_tests)) (so_far n) next
  where
    equal : (number == n) ≡ true → number ≡ n
    equal same = grind (arith, nat_tests)

-- a number that is not marked stays so where only smaller ones are named
pub unmarked_more : (named is_open same : Bool) (m m' : Option Mark)
    → m' ≡ cond ((named && is_open) && same) (Some mark.Irrelevant) m → (named ≡ true → same ≡ false) → m ≡ None
    → m' ≡ None
unmarked_more false is_open same m m' is other none = is ∙ none
unmarked_more true false same m m' is other none = is ∙ none
unmarked_more true true same m m' is other none = rw (other refl) at is ∙ none
