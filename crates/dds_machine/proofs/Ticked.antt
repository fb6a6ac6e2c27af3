-- The writers of a peer whose time went on.
use Rattle.std.proofs.Common.{◌≡◌, ◌⊎◌, ℕ, zero, suc, ◌+◌, Bool, List, [], ◌∷◌, get_or, length, refl, ap, subst, inl, inr, arith}
use Rattle.dds_machine.specs.Numbered.{numbered}
use Rattle.dds_machine.specs.Part.{Writer, no_writer}
use Rattle.dds_machine.specs.Ticks.{ticked, writers_ticked}

get-writers_ticked : (now : ℕ) (asked : ℕ → Bool) (n : ℕ) (ws : List Writer) (i : ℕ)
    → (get_or (writers_ticked now asked n ws) i no_writer ≡ ticked now (asked (n + i)) (get_or ws i no_writer))
    ⊎ ((get_or (writers_ticked now asked n ws) i no_writer ≡ no_writer) × (get_or ws i no_writer ≡ no_writer))
get-writers_ticked now asked n [] i = inr (refl, refl)
get-writers_ticked now asked n (w ∷ ws) zero =
    let here : n ≡ n + 0 = omega arith in inl (ap (λ (k : ℕ). ticked now (asked k) w) here)
get-writers_ticked now asked n (w ∷ ws) (suc i) =
    let over : n + 1 + i ≡ n + suc i = omega arith in
    subst
    (λ (k : ℕ).
    (get_or (writers_ticked now asked (n + 1) ws) i no_writer ≡ ticked now (asked k) (get_or ws i no_writer))
    ⊎ ((get_or (writers_ticked now asked (n + 1) ws) i no_writer ≡ no_writer) × (get_or ws i no_writer ≡ no_writer)))
    over (get-writers_ticked now asked (n + 1) ws i)

-- each of them has an entry more, and past their end nothing is
pub numbered-writers_ticked : (now : ℕ) (asked : ℕ → Bool) (ws : List Writer) (k : ℕ)
    → (numbered (writers_ticked now asked 1 ws) k no_writer ≡ ticked now (asked k) (numbered ws k no_writer))
    ⊎ ((numbered (writers_ticked now asked 1 ws) k no_writer ≡ no_writer) × (numbered ws k no_writer ≡ no_writer))
numbered-writers_ticked now asked ws zero = inr (refl, refl)
numbered-writers_ticked now asked ws (suc i) =
    let over : 1 + i ≡ suc i = omega arith in
    subst
    (λ (k : ℕ). (get_or (writers_ticked now asked 1 ws) i no_writer ≡ ticked now (asked k) (get_or ws i no_writer))
    ⊎ ((get_or (writers_ticked now asked 1 ws) i no_writer ≡ no_writer) × (get_or ws i no_writer ≡ no_writer))) over
    (get-writers_ticked now asked 1 ws i)

-- they are as many
pub length-writers_ticked : (now : ℕ) (asked : ℕ → Bool) (n : ℕ) (ws : List Writer)
    → length (writers_ticked now asked n ws) ≡ length ws
length-writers_ticked now asked n [] = refl
length-writers_ticked now asked n (w ∷ ws) = ap suc (length-writers_ticked now asked (n + 1) ws)
