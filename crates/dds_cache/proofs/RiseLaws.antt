-- Where the numbers of keys rise, samples in groups by number are in groups by key.
use Rattle.std.proofs.Common.{◌≡◌, ℕ, ◌+◌, ◌<◌, List, [], ◌∷◌, ◌++◌, filter, Bool, true, false, ◌==◌, ◌||◌, ◌⊎◌, inl, inr, sym, ap, ◌∙◌, refl, subst, cond, arith, zero, suc, ⊎_elim}
use Rattle.std.specs.List.{list_any, All, flat_map, range_with_len}
use Rattle.std.proofs.lemmas.Bool.{cases_Bool, eqb-true, eqb-false, eq-eqb}
use Rattle.std.proofs.lemmas.List.Concat.{flat_map-cons}
use Rattle.std.proofs.lemmas.List.Elements.{All-head, All-tail, All-weaker}
use Rattle.dds_base.specs.declared.key.Key.{Key}
use Rattle.dds_base.specs.declared.happening.SamplePosition.{SamplePosition}
use Rattle.dds_base.specs.Happening.{same_key}
use Rattle.dds_base.proofs.KeyLaws.{key-same}
use Rattle.dds_instances.proofs.RiseLaws.{IsRising, rising-upper, rising-within}
use Rattle.dds_cache.proofs.GroupLaws.{group, groups, unequal}

-- a sample of one of the keys, or of one with a number below those
abbrev IsPlaced : (Key → ℕ) → ℕ → List Key → SamplePosition → Type 0
IsPlaced f a ks s = (f s.key < a) ⊎ (list_any (λ k. same_key k s.key) ks ≡ true)

filter-agree : (f g : SamplePosition → Bool) (ss : List SamplePosition) → All (λ (s : SamplePosition). f s ≡ g s) ss
    → filter f ss ≡ filter g ss
filter-agree f g [] same = refl
filter-agree f g (s ∷ ss) same =
    ap (λ (b : Bool). cond b (s ∷ filter f ss) (filter f ss))
    (All-head (λ (x : SamplePosition). f x ≡ g x) s ss same)
    ∙ ap (λ (xs : List SamplePosition). cond (g s) (s ∷ xs) xs)
    (filter-agree f g ss (All-tail (λ (x : SamplePosition). f x ≡ g x) s ss same))

no-sample : (ss : List SamplePosition) → filter (λ (s : SamplePosition). false) ss ≡ []
no-sample [] = refl
no-sample (s ∷ ss) = no-sample ss

-- none is in the group of a number that no key has
group-empty : (f : Key → ℕ) (a : ℕ) (ss : List SamplePosition)
    → All (λ (s : SamplePosition). (f s.key == a) ≡ false) ss → group (λ (s : SamplePosition). f s.key) ss a ≡ []
group-empty f a ss none =
    filter-agree (λ (s : SamplePosition). f s.key == a) (λ (s : SamplePosition). false) ss none ∙ no-sample ss

pub by-key : (f : Key → ℕ) (a n : ℕ) (ks : List Key) (ss : List SamplePosition) → IsRising f a (a + n) ks
    → All (IsPlaced f a ks) ss → groups (λ (s : SamplePosition). f s.key) ss a n
    ≡ flat_map (λ i. filter (λ (s : SamplePosition). same_key i s.key) ss) ks
by-key f a zero [] ss rising placed = refl
by-key f a zero (k ∷ ks) ss rising placed = absurd (omega (arith, rising.0, rising.1))
by-key f a (suc n) [] ss rising placed =
    flat_map-cons (group (λ (s : SamplePosition). f s.key) ss) a (range_with_len (a + 1) n)
    ∙ (ap (λ (xs : List SamplePosition). xs ++ groups (λ (s : SamplePosition). f s.key) ss (a + 1) n)
    (group-empty f a ss (All-weaker (IsPlaced f a []) (λ (s : SamplePosition). (f s.key == a) ≡ false)
    (λ s is. ⊎_elim (λ below. unequal (f s.key) a (λ same. omega (arith, same, below)))
    (λ there. absurd (let clash : false ≡ true = there in cc)) is) ss placed))
    ∙ by-key f (a + 1) n [] ss tt
    (All-weaker (IsPlaced f a []) (IsPlaced f (a + 1) [])
    (λ s is. ⊎_elim (λ below. inl (omega (arith, below)))
    (λ there. absurd (let clash : false ≡ true = there in cc)) is) ss placed))
by-key f a (suc n) (k ∷ ks) ss rising placed =
    flat_map-cons (group (λ (s : SamplePosition). f s.key) ss) a (range_with_len (a + 1) n)
    ∙ ⊎_elim
    (λ first. let at : f k ≡ a = eqb-true (f k) a first in
    let rest : IsRising f (a + 1) (a + 1 + n) ks =
    rising-upper f (a + 1) (a + suc n) (a + 1 + n) ks (omega arith)
    (subst (λ (m : ℕ). IsRising f (m + 1) (a + suc n) ks) at rising.2) in
    ap (λ (xs : List SamplePosition). xs ++ groups (λ (s : SamplePosition). f s.key) ss (a + 1) n)
    (filter-agree (λ (s : SamplePosition). f s.key == a) (λ (s : SamplePosition). same_key k s.key) ss
    (All-weaker (IsPlaced f a (k ∷ ks)) (λ (s : SamplePosition). (f s.key == a) ≡ same_key k s.key)
    (λ s is. own f a n k ks s at rest is) ss placed))
    ∙ (ap (λ (xs : List SamplePosition). filter (λ (s : SamplePosition). same_key k s.key) ss ++ xs)
    (by-key f (a + 1) n ks ss rest (All-weaker (IsPlaced f a (k ∷ ks)) (IsPlaced f (a + 1) ks)
    (λ s is. later f a k ks s at is) ss placed))
    ∙ sym (flat_map-cons (λ (x : Key). filter (λ (s : SamplePosition). same_key x s.key) ss) k ks)))
    (λ other. let above : a < f k = omega (arith, rising.0, eqb-false (f k) a other) in
    let rest : IsRising f (a + 1) (a + suc n) (k ∷ ks) = (omega (arith, above), rising.1, rising.2) in
    ap (λ (xs : List SamplePosition). xs ++ groups (λ (s : SamplePosition). f s.key) ss (a + 1) n)
    (group-empty f a ss (All-weaker (IsPlaced f a (k ∷ ks)) (λ (s : SamplePosition). (f s.key == a) ≡ false)
    (λ s is. ⊎_elim (λ below. unequal (f s.key) a (λ same. omega (arith, same, below)))
    (λ there. let within = rising-within f (a + 1) (a + suc n) (k ∷ ks) s.key rest there in
    unequal (f s.key) a (λ same. omega (arith, same, within.0))) is) ss placed))
    ∙ by-key f (a + 1) n (k ∷ ks) ss
    (rising-upper f (a + 1) (a + suc n) (a + 1 + n) (k ∷ ks) (omega arith) rest)
    (All-weaker (IsPlaced f a (k ∷ ks)) (IsPlaced f (a + 1) (k ∷ ks))
    (λ s is. ⊎_elim (λ below. inl (omega (arith, below))) (λ there. inr there) is) ss placed))
    (cases_Bool (f k == a))
  where
    own : (f : Key → ℕ) (a n : ℕ) (k : Key) (ks : List Key) (s : SamplePosition) → f k ≡ a
        → IsRising f (a + 1) (a + 1 + n) ks → IsPlaced f a (k ∷ ks) s → (f s.key == a) ≡ same_key k s.key
    own f a n k ks s at rest is =
        ⊎_elim
        (λ same. eq-eqb (f s.key) a (sym (ap f (key-same k s.key same)) ∙ at) ∙ sym same)
        (λ other. unequal (f s.key) a (⊎_elim
        (λ below same. omega (arith, below, same))
        (λ there same. let within = rising-within f (a + 1) (a + 1 + n) ks s.key rest
        (sym (ap (λ (b : Bool). b || list_any (λ x. same_key x s.key) ks) other) ∙ there) in
        omega (arith, same, within.0)) is) ∙ sym other)
        (cases_Bool (same_key k s.key))

    later : (f : Key → ℕ) (a : ℕ) (k : Key) (ks : List Key) (s : SamplePosition) → f k ≡ a
        → IsPlaced f a (k ∷ ks) s → IsPlaced f (a + 1) ks s
    later f a k ks s at is =
        ⊎_elim
        (λ below. inl (omega (arith, below)))
        (λ there. ⊎_elim
        (λ same. let number : f s.key ≡ a = sym (ap f (key-same k s.key same)) ∙ at in inl (omega (arith, number)))
        (λ other. inr (sym (ap (λ (b : Bool). b || list_any (λ x. same_key x s.key) ks) other) ∙ there))
        (cases_Bool (same_key k s.key)))
        is
