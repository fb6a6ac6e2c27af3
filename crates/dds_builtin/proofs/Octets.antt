-- Octets that are read one by one.
use Rattle.std.proofs.Common.{◌≡◌, ℕ, zero, suc, ◌+◌, ◌<◌, ◌≤◌, List, [], ◌∷◌, length, get_or, take, drop, refl, sym, ap, ◌∙◌, arith, drop-cons}

-- so many octets from a place on, each by its place
unfoldable pub reads : ℕ → ℕ → List ℕ → List ℕ
reads zero i xs = []
reads (suc n) i xs = get_or xs i 0 ∷ reads n (suc i) xs

-- they are those that stand there
pub reads_take : (n i : ℕ) (xs : List ℕ) → i + n ≤ length xs → reads n i xs ≡ take n (drop i xs)
unfolding reads
reads_take zero i xs h = refl
reads_take (suc n) i xs h =
    let within : i < length xs = omega (arith, h) in
    ap (λ (z : List ℕ). get_or xs i 0 ∷ z) (reads_take n (suc i) xs (omega (arith, h)))
    ∙ ap (λ (z : List ℕ). take (suc n) z) (sym (drop-cons xs i 0 within))
