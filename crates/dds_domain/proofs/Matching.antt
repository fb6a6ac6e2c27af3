-- Those that a test keeps, while elements are gone over.
use Rattle.std.proofs.Common.{◌≡◌, ◌+◌, ◌<◌, ◌∙◌, ℕ, Bool, true, false, List, [], ◌∷◌, ◌++◌, ap, cond, filter, get_or, length, sym, take}
use Rattle.std.proofs.lemmas.List.{append-nil, take_more}
use Rattle.std.proofs.lemmas.List.Elements.{filter-append}

-- with one more
more : {X : Type 0} (p : X → Bool) (xs : List X) (i : ℕ) (d : X) → i < length xs
    → filter p (take (i + 1) xs) ≡ filter p (take i xs) ++ filter p (get_or xs i d ∷ [])
more p xs i d lt = ap (filter p) (take_more xs i d lt) ∙ filter-append p (take i xs) (get_or xs i d ∷ [])

one : {X : Type 0} (p : X → Bool) (x : X) (b : Bool) → p x ≡ b → filter p (x ∷ []) ≡ cond b (x ∷ []) []
one p x b is = ap (λ (t : Bool). cond t (x ∷ []) []) is

-- One more is kept,
pub kept_more : {X : Type 0} (p : X → Bool) (xs : List X) (i : ℕ) (d : X) (old new : List X) → i < length xs
    → old ≡ filter p (take i xs) → p (get_or xs i d) ≡ true → new ≡ old ++ get_or xs i d ∷ []
    → new ≡ filter p (take (i + 1) xs)
kept_more p xs i d old new lt so_far is step =
    step ∙ ap (λ o. o ++ get_or xs i d ∷ []) so_far
    ∙ ap (λ t. filter p (take i xs) ++ t) (sym (one p (get_or xs i d) true is)) ∙ sym (more p xs i d lt)

-- or is not.
pub left_out : {X : Type 0} (p : X → Bool) (xs : List X) (i : ℕ) (d : X) (old new : List X) → i < length xs
    → old ≡ filter p (take i xs) → p (get_or xs i d) ≡ false → new ≡ old → new ≡ filter p (take (i + 1) xs)
left_out p xs i d old new lt so_far is step =
    step ∙ so_far ∙ sym (append-nil (filter p (take i xs)))
    ∙ ap (λ t. filter p (take i xs) ++ t) (sym (one p (get_or xs i d) false is)) ∙ sym (more p xs i d lt)
