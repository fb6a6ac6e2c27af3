-- Octets that are compared as numbers.
use Rattle.std.proofs.Common.{◌≡◌, ℕ, List, ◌++◌, length, [], ◌∷◌, zero, suc, ◌+◌, ◌≤◌, ◌<◌, ◌==◌, ◌&&◌, Bool, get_or, take, drop, sym, ap, refl, subst, arith, ◌∙◌}
use Rattle.std.specs.Prelude.{nat_eq}
use Rattle.std.specs.Bool.{Decides}
use Rattle.std.specs.Cmp.Lexicographic.{pointwise}
use Rattle.std.specs.Int.{w32, w64, from_le_bytes}
use Rattle.std.proofs.lemmas.Bool.Decides.{Decides-and, Decides-eqb, Decides-like, same_from_decides}
use Rattle.std.proofs.lemmas.Nat.{le_bytes_4, le_bytes_8}
use Rattle.std.proofs.lemmas.Slice.Eq.{slice_eq-Decides}
use Rattle.std.proofs.lemmas.List.{get_or-drop, length-drop, length-take-le, take-append-drop}

-- octets
abbrev pub AreOctets : List ℕ → Type 0
AreOctets xs = (i : ℕ) → get_or xs i 0 < 256

-- four octets are equal where their number is
pub four-Decides : (a b : List ℕ) → length a ≡ 4 → length b ≡ 4 → AreOctets a → AreOctets b
    → Decides (from_le_bytes w32 a == from_le_bytes w32 b) (a ≡ b)
four-Decides a b long other octets others = (
  λ e. sym (le_bytes_4 a _ long octets refl) ∙ le_bytes_4 b _ other others ((Decides-eqb _ _).0 e),
  λ e. (Decides-eqb _ _).1 (ap (from_le_bytes w32) e),
)

-- and so are eight
pub eight-Decides : (a b : List ℕ) → length a ≡ 8 → length b ≡ 8 → AreOctets a → AreOctets b
    → Decides (from_le_bytes w64 a == from_le_bytes w64 b) (a ≡ b)
eight-Decides a b long other octets others = (
  λ e. sym (le_bytes_8 a _ long octets refl) ∙ le_bytes_8 b _ other others ((Decides-eqb _ _).0 e),
  λ e. (Decides-eqb _ _).1 (ap (from_le_bytes w64) e),
)

-- the test of lists, by one that decides
pub as_lists : (a b : List ℕ) (r : Bool) → Decides r (a ≡ b) → r ≡ pointwise nat_eq a b
as_lists a b r decides =
    same_from_decides r (pointwise nat_eq a b) decides (slice_eq-Decides {E = nat_eq} Decides-eqb a b _ refl)

-- the first of some octets are octets
pub octets-take : (n : ℕ) (xs : List ℕ) → AreOctets xs → AreOctets (take n xs)
octets-take zero xs octets i = omega arith
octets-take (suc n) [] octets i = omega arith
octets-take (suc n) (x ∷ xs) octets zero = octets zero
octets-take (suc n) (x ∷ xs) octets (suc i) = octets-take n xs (λ j. octets (suc j)) i

-- and those behind them
pub octets-drop : (n : ℕ) (xs : List ℕ) → AreOctets xs → AreOctets (drop n xs)
octets-drop n xs octets i = subst (λ (x : ℕ). x < 256) (sym (get_or-drop n xs i 0)) (octets (n + i))

-- lists are compared by a first part, and then by what is behind it
pub parts-same : (n : ℕ) (a b : List ℕ) (r s : Bool) → Decides r (take n a ≡ take n b) → Decides s (drop n a ≡ drop n b)
    → (r && s) ≡ pointwise nat_eq a b
parts-same n a b r s first second =
    as_lists a b (r && s)
    (Decides-like (r && s)
    (λ both. sym (take-append-drop n a) ∙ ap (λ (xs : List ℕ). xs ++ drop n a) both.0
    ∙ ap (λ (xs : List ℕ). take n b ++ xs) both.1 ∙ take-append-drop n b)
    (λ whole. (ap (take n) whole, ap (drop n) whole)) (Decides-and r s first second))

-- the first eight of some octets are compared as a number
pub first-Decides : (a b : List ℕ) → 8 ≤ length a → 8 ≤ length b → AreOctets a → AreOctets b
    → Decides (from_le_bytes w64 (take 8 a) == from_le_bytes w64 (take 8 b)) (take 8 a ≡ take 8 b)
first-Decides a b long other octets others =
    eight-Decides (take 8 a) (take 8 b) (length-take-le 8 a long) (length-take-le 8 b other)
    (octets-take 8 a octets) (octets-take 8 b others)

-- octets are compared by the number of the first eight, and by that of what is behind them
pub words-same : (a b : List ℕ) (f : List ℕ → ℕ) (m n k l : ℕ) → 8 ≤ length a → 8 ≤ length b → AreOctets a → AreOctets b
    → Decides (f (drop 8 a) == f (drop 8 b)) (drop 8 a ≡ drop 8 b) → m ≡ from_le_bytes w64 (take 8 a) → n ≡ f (drop 8 a)
    → k ≡ from_le_bytes w64 (take 8 b) → l ≡ f (drop 8 b) → ((m == k) && (n == l)) ≡ pointwise nat_eq a b
words-same a b f m n k l long other octets others behind m_is n_is k_is l_is =
    ap (λ (x : ℕ). (x == k) && (n == l)) m_is
    ∙ ap (λ (x : ℕ). (from_le_bytes w64 (take 8 a) == k) && (x == l)) n_is
    ∙ ap (λ (x : ℕ). (from_le_bytes w64 (take 8 a) == x) && (f (drop 8 a) == l)) k_is
    ∙ ap (λ (x : ℕ). (from_le_bytes w64 (take 8 a) == from_le_bytes w64 (take 8 b)) && (f (drop 8 a) == x)) l_is
    ∙ parts-same 8 a b _ _ (first-Decides a b long other octets others) behind

-- sixteen octets are compared by two numbers
pub sixteen-same : (a b : List ℕ) (m n k l : ℕ) → length a ≡ 16 → length b ≡ 16 → AreOctets a → AreOctets b
    → m ≡ from_le_bytes w64 (take 8 a) → n ≡ from_le_bytes w64 (drop 8 a)
    → k ≡ from_le_bytes w64 (take 8 b) → l ≡ from_le_bytes w64 (drop 8 b)
    → ((m == k) && (n == l)) ≡ pointwise nat_eq a b
sixteen-same a b m n k l long other octets others =
    words-same a b (from_le_bytes w64) m n k l (omega (arith, long)) (omega (arith, other)) octets others
    (eight-Decides (drop 8 a) (drop 8 b) (length-drop 8 a ∙ omega (arith, long)) (length-drop 8 b ∙ omega (arith, other))
    (octets-drop 8 a octets) (octets-drop 8 b others))

-- twelve octets likewise
pub twelve-same : (a b : List ℕ) (m n k l : ℕ) → length a ≡ 12 → length b ≡ 12 → AreOctets a → AreOctets b
    → m ≡ from_le_bytes w64 (take 8 a) → n ≡ from_le_bytes w32 (drop 8 a)
    → k ≡ from_le_bytes w64 (take 8 b) → l ≡ from_le_bytes w32 (drop 8 b)
    → ((m == k) && (n == l)) ≡ pointwise nat_eq a b
twelve-same a b m n k l long other octets others =
    words-same a b (from_le_bytes w32) m n k l (omega (arith, long)) (omega (arith, other)) octets others
    (four-Decides (drop 8 a) (drop 8 b) (length-drop 8 a ∙ omega (arith, long)) (length-drop 8 b ∙ omega (arith, other))
    (octets-drop 8 a octets) (octets-drop 8 b others))

-- four octets are compared by one number
pub four-same : (a b : List ℕ) (m k : ℕ) → length a ≡ 4 → length b ≡ 4 → AreOctets a → AreOctets b
    → m ≡ from_le_bytes w32 a → k ≡ from_le_bytes w32 b → (m == k) ≡ pointwise nat_eq a b
four-same a b m k long other octets others m_is k_is =
    ap (λ (x : ℕ). x == k) m_is ∙ ap (λ (x : ℕ). from_le_bytes w32 a == x) k_is
    ∙ as_lists a b _ (four-Decides a b long other octets others)
