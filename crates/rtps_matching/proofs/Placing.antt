-- Where a far endpoint stands.
use Rattle.std.proofs.Common.{◌≡◌, ◌∙◌, ℕ, zero, suc, ◌+◌, ◌<◌, Bool, true, false, cond, List, [], ◌∷◌, ◌++◌, length, set, Some, None, refl, sym, ap, subst, arith}
use Rattle.std.specs.Prelude.{nat_lt, not}
use Rattle.std.specs.List.{position, prefix_len}
use Rattle.std.proofs.lemmas.Bool.{lt-ltb}
use Rattle.rtps_matching.specs.declared.far.Far.{Far}
use Rattle.rtps_matching.specs.Matches.{is_far}
use Rattle.rtps_matching.specs.Steps.{placed}

-- whether a far endpoint has another name
abbrev is_other : Far → Far → Bool
is_other new f = not (is_far new.guid f)

set_first : (new : Far) (far : List Far) (k : ℕ) → k ≡ prefix_len (is_other new) far → k < length far
    → set far k new ≡ placed new far
set_first new [] k e l = absurd (omega (arith, l))
set_first new (f ∷ far) k e l = by_test (λ j d m. set_first new far j d m) (is_far new.guid f) k e l
  where
    by_test : ((j : ℕ) → j ≡ prefix_len (is_other new) far → j < length far → set far j new ≡ placed new far)
        → (b : Bool) (i : ℕ) → i ≡ cond (not b) (1 + prefix_len (is_other new) far) 0 → i < length (f ∷ far)
        → set (f ∷ far) i new ≡ cond b (new ∷ far) (f ∷ placed new far)
    by_test rest true i d m = subst (λ (n : ℕ). set (f ∷ far) n new ≡ new ∷ far) (sym d) refl
    by_test rest false zero d m = absurd (omega (arith, d))
    by_test rest false (suc i) d m =
        ap (λ (fs : List Far). f ∷ fs) (rest i (omega (arith, d)) (omega (arith, m)))

some_is : (b : Bool) (k i : ℕ) → cond b (Some k) None ≡ Some i → i ≡ k
some_is true k i e = cc
some_is false k i e = absurd cc

pub placed_at : (new : Far) (far : List Far) (i : ℕ) → position (is_far new.guid) far ≡ Some i → i < length far
    → set far i new ≡ placed new far
placed_at new far i e l =
    set_first new far i
    (some_is (nat_lt (prefix_len (is_other new) far) (length far)) (prefix_len (is_other new) far) i e) l

add_last : (new : Far) (far : List Far) → (prefix_len (is_other new) far < length far → ⊥)
    → far ++ new ∷ [] ≡ placed new far
add_last new [] none = refl
add_last new (f ∷ far) none = by_test (λ m. add_last new far m) (is_far new.guid f) none
  where
    by_test : ((prefix_len (is_other new) far < length far → ⊥) → far ++ new ∷ [] ≡ placed new far) → (b : Bool)
        → (cond (not b) (1 + prefix_len (is_other new) far) 0 < length (f ∷ far) → ⊥)
        → (f ∷ far) ++ new ∷ [] ≡ cond b (new ∷ far) (f ∷ placed new far)
    by_test rest true m = absurd (m (omega arith))
    by_test rest false m = ap (λ (fs : List Far). f ∷ fs) (rest (λ l. m (omega (arith, l))))

none_is : (b : Bool) (k : ℕ) → cond b (Some k) None ≡ None → b ≡ false
none_is true k e = absurd cc
none_is false k e = refl

pub placed_last : (new : Far) (far : List Far) → position (is_far new.guid) far ≡ None
    → far ++ new ∷ [] ≡ placed new far
placed_last new far e =
    add_last new far
    (λ l.
    let not_less : nat_lt (prefix_len (is_other new) far) (length far) ≡ false =
    none_is (nat_lt (prefix_len (is_other new) far) (length far)) (prefix_len (is_other new) far) e in
    let less : nat_lt (prefix_len (is_other new) far) (length far) ≡ true =
    lt-ltb (prefix_len (is_other new) far) (length far) l in
    let no : true ≡ false = sym less ∙ not_less in absurd cc)
