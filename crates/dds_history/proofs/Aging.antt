-- One more change ages those before it.
use Rattle.std.proofs.Common.{◌≡◌, ℕ, ◌+◌, ◌-◌, Bool, true, false, cond, List, [], ◌∷◌, ◌++◌, map, length, count_by, refl, ap, arith}
use Rattle.std.specs.Prelude.{if◌then◌else◌}
use Rattle.std.proofs.lemmas.List.Sums.{sum_by-append}
use Rattle.dds_base.specs.declared.key.Key.{Key}
use Rattle.dds_base.specs.declared.change.Change.{Change}
use Rattle.dds_base.specs.declared.qos.HistoryQos.{HistoryQos}
use Rattle.dds_base.specs.declared.qos.HistoryQos.TheVariants.{KeepAll, KeepLast}
use Rattle.dds_base.specs.Happening.{same_key}
use Rattle.dds_base.proofs.KeyLaws.{same_key-refl}
use Rattle.dds_history.specs.Held.{HeldChange, aged, all_from}

-- all changes, with one more of this number
abbrev pub one_more : HistoryQos → List HeldChange → ℕ → Change → List HeldChange
one_more KeepAll entries number change = entries ++ record { number = number; change = change; remaining = 1 } ∷ []
one_more (KeepLast depth) entries number change =
    map (λ e. aged change.key e) (entries ++ record { number = number; change = change; remaining = depth + 1 } ∷ [])

-- how many of these changes have the key
abbrev pub of_key : Key → List Change → ℕ
of_key key cs = count_by (λ (c : Change). same_key c.key key) cs

of_key-append : (key : Key) (cs : List Change) (c : Change) → of_key key (cs ++ c ∷ [])
    ≡ of_key key cs + cond (same_key c.key key) 1 0
of_key-append key cs c = let e = sum_by-append (λ (x : Change). cond (same_key x.key key) 1 0) cs (c ∷ []) in
    omega (arith, e)

one_fewer : (b : Bool) (depth later more : ℕ) → more ≡ later + cond b 1 0 → depth - more
    ≡ (if b then depth - later - 1 else depth - later)
one_fewer true depth later more h = omega arith
one_fewer false depth later more h = omega arith

pub entry_as : (n m : ℕ) (c : Change) (a b : ℕ) → n ≡ m → a ≡ b
    → ◌≡◌ {A = HeldChange} (record { number = n; change = c; remaining = a })
    (record { number = m; change = c; remaining = b })
entry_as n m c a b e f = cc

put_before : (x y : HeldChange) (xs ys : List HeldChange) → x ≡ y → xs ≡ ys → x ∷ xs ≡ y ∷ ys
put_before x y xs ys e f = cc

more-unaged : (n m : ℕ) (cs : List Change) (c : Change) → m ≡ n + length cs
    → all_from KeepAll n (cs ++ c ∷ []) ≡ one_more KeepAll (all_from KeepAll n cs) m c
more-unaged n m [] c at = put_before _ _ [] [] (entry_as n m c 1 1 (omega arith) refl) refl
more-unaged n m (x ∷ cs) c at = put_before _ _ _ _ refl (more-unaged (n + 1) m cs c (omega arith))

more-aged : (depth n m : ℕ) (cs : List Change) (c : Change) → m ≡ n + length cs
    → all_from (KeepLast depth) n (cs ++ c ∷ []) ≡ one_more (KeepLast depth) (all_from (KeepLast depth) n cs) m c
more-aged depth n m [] c at =
    let own = ap (λ (b : Bool). cond b (depth + 1 - 1) (depth + 1)) (same_key-refl c.key) in
    put_before _ _ [] [] (entry_as n m c (depth - 0) _ (omega arith) (omega (arith, own))) refl
more-aged depth n m (x ∷ cs) c at =
    put_before _ _ _ _
    (entry_as n n x _ _ refl
    (one_fewer (same_key c.key x.key) depth (of_key x.key cs) (of_key x.key (cs ++ c ∷ []))
    (of_key-append x.key cs c)))
    (more-aged depth (n + 1) m cs c (omega arith))

-- all changes and one more, which has the next number
pub all-more : (policy : HistoryQos) (n m : ℕ) (cs : List Change) (c : Change) → m ≡ n + length cs
    → all_from policy n (cs ++ c ∷ []) ≡ one_more policy (all_from policy n cs) m c
all-more KeepAll n m cs c at = more-unaged n m cs c at
all-more (KeepLast depth) n m cs c at = more-aged depth n m cs c at
