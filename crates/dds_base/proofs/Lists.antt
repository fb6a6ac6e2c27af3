-- Lists taken apart at an index.
use Rattle.std.proofs.Common.{◌≡◌, ℕ, ◌+◌, ◌<◌, List, ◌∷◌, ◌++◌, length, get_or, set, map, take, drop, sym, ap, ◌∙◌, drop-cons, add-one, suc, arith}
use Rattle.std.proofs.lemmas.List.{get_or_default}
use Rattle.std.proofs.lemmas.List.Edits.{map_over_more}

-- what is left from an index on is the element there and what is left after it
pub drop-step : {A : Type 0} (xs : List A) (at : ℕ) (x : A) → at < length xs → x ≡ get_or xs at x
    → drop at xs ≡ x ∷ drop (at + 1) xs
drop-step {A = A} xs at x within is =
    drop-cons xs at x within ∙ (ap (λ (y : A). y ∷ drop (suc at) xs) (sym is)
    ∙ ap (λ (n : ℕ). x ∷ drop n xs) (sym (add-one at)))

-- one more element was changed by f, in a loop that changes each
pub map-step : {A : Type 0} (f : A → A) (xs ys : List A) (i : ℕ) (d v : A) → i < length xs → length ys ≡ length xs
    → ys ≡ map f (take i xs) ++ drop i xs → v ≡ f (get_or ys i d)
    → set ys i v ≡ map f (take (i + 1) xs) ++ drop (i + 1) xs
map-step {A = A} f xs ys i d v within len done is =
    ap (λ (w : A). set ys i w) is
    ∙ map_over_more f xs ys i (get_or ys i d) within done (get_or_default ys i d (get_or ys i d) (omega arith))
