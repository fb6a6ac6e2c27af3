-- The rows of a table, while endpoints are gone over.
use Rattle.std.proofs.Common.{◌≡◌, ◌+◌, ◌<◌, ◌∙◌, ℕ, List, [], ◌∷◌, ◌++◌, Option, Some, None, ap, get_or, length, option_to_list, refl, sym, take}
use Rattle.std.specs.List.{filter_map}
use Rattle.std.proofs.lemmas.List.{take_more}
use Rattle.std.proofs.lemmas.List.Elements.{filter_map-append}

-- what one gives
one : {Y : Type 0} (o : Option Y) → filter_map (λ (u : Option Y). u) (o ∷ []) ≡ option_to_list o
one None = refl
one (Some y) = refl

-- what one more gives is behind what those so far gave
pub given_more : {X Y : Type 0} (h : X → Option Y) (xs : List X) (i : ℕ) (d : X) (old new : List Y) → i < length xs
    → old ≡ filter_map h (take i xs) → new ≡ old ++ option_to_list (h (get_or xs i d))
    → new ≡ filter_map h (take (i + 1) xs)
given_more {X} {Y} h xs i d old new lt so_far step =
    step ∙ ap (λ (o : List Y). o ++ option_to_list (h (get_or xs i d))) so_far
    ∙ ap (λ (t : List Y). filter_map h (take i xs) ++ t) (sym (one (h (get_or xs i d))))
    ∙ sym (filter_map-append h (take i xs) (get_or xs i d ∷ []))
    ∙ ap (filter_map h) (sym (take_more xs i d lt))
