-- A list that is made from another one, element by element.
use Rattle.std.proofs.Common.{◌≡◌, ◌∙◌, ℕ, ◌+◌, ◌<◌, List, [], ◌∷◌, ◌++◌, length, take, filter_map, get_or, Option, Some, None, refl, sym, ap, append_assoc}
use Rattle.std.specs.Option.{option_to_list}
use Rattle.std.proofs.lemmas.List.{take_more}
use Rattle.std.proofs.lemmas.List.Elements.{filter_map-append}

filter_map-one : {X Y : Type 0} (f : X → Option Y) (x : X) (o : Option Y) → f x ≡ o
    → filter_map f (x ∷ []) ≡ option_to_list o
filter_map-one f x None e = rw e refl
filter_map-one f x (Some y) e = rw e refl

pub filter_map-step : {X Y : Type 0} (f : X → Option Y) (xs : List X) (i : ℕ) (x : X) (before out new : List Y)
    (o : Option Y) → i < length xs → x ≡ get_or xs i x → o ≡ f x → out ≡ before ++ filter_map f (take i xs)
    → new ≡ out ++ option_to_list o → new ≡ before ++ filter_map f (take (i + 1) xs)
filter_map-step f xs i x before out new o lt at made so_far more =
    let last : filter_map f (take (i + 1) xs) ≡ filter_map f (take i xs) ++ option_to_list o =
    ap (filter_map f) (take_more xs i x lt ∙ ap (λ (z : _). take i xs ++ z ∷ []) (sym at))
    ∙ filter_map-append f (take i xs) (x ∷ [])
    ∙ ap (λ (z : _). filter_map f (take i xs) ++ z) (filter_map-one f x o (sym made)) in
    more ∙ ap (λ (z : _). z ++ option_to_list o) so_far
    ∙ append_assoc before (filter_map f (take i xs)) (option_to_list o)
    ∙ ap (λ (z : _). before ++ z) (sym last)
