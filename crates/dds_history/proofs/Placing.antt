-- What is counted of a key by the place at which it stands.
use Rattle.std.proofs.Common.{◌≡◌, ◌≢◌, ℕ, ◌+◌, ◌==◌, ◌∷◌, [], Bool, true, false, Option, Some, cond, slice_get, suc, refl, sym, ap, ◌∙◌, arith}
use Rattle.std.specs.Prelude.{if◌then◌else◌}
use Rattle.std.specs.Cmp.{IsEquivalence}
use Rattle.std.specs.List.{AllByRecursion, IsDistinct, filter, position_or_len}
use Rattle.std.specs.Map.{keys_of, lookup}
use Rattle.std.specs.Option.{unwrap_or}
use Rattle.std.proofs.lemmas.Bool.Decides.{nat_tests}
use Rattle.std.proofs.lemmas.Map.Keys.{IsDistinct-head, IsDistinct-tail}
use Rattle.indexmap.specs.IndexMap.{insert_entry}
use Rattle.dds_base.specs.declared.key.Key.{Key}
use Rattle.dds_base.specs.Happening.{same_key}
use Rattle.dds_base.proofs.KeyLaws.{key-same, same_key-comm, same_key-refl}
use Rattle.dds_history.specs.declared.held.KeyCount.{KeyCount}
use Rattle.dds_history.specs.Entries.{Counted, count_in, is_any_counted, one_more}

pub keys-equivalent : IsEquivalence same_key
keys-equivalent = record {
  refl = same_key-refl;
  symm = same_key-comm;
  congr = λ i j x same. ap (λ (y : Key). same_key y x) (key-same i j same);
}

-- nothing is counted
abbrev nothing : KeyCount
nothing = record { turns = 0; kept = 0 }

-- the count that a look-up finds, where it is replaced or not
pub count-chosen : (b : Bool) (count : KeyCount) (before : Option KeyCount)
    → unwrap_or (cond b (Some count) before) nothing ≡ (if b then count else unwrap_or before nothing)
count-chosen true count before = refl
count-chosen false count before = refl

-- a key that is entered stands at its place
pub stands-entered : (es : Counted) (key : Key) (count : KeyCount)
    → (x : KeyCount) × (slice_get (insert_entry same_key es key count) (position_or_len (same_key key) (keys_of es)) ≡ Some (key, x))
stands-entered [] key count = (count, refl)
stands-entered (e ∷ es) key count = by (same_key key e.0) refl (stands-entered es key count)
  where
    by : (b : Bool) → same_key key e.0 ≡ b
        → ((x : KeyCount) × (slice_get (insert_entry same_key es key count) (position_or_len (same_key key) (keys_of es)) ≡ Some (key, x)))
        → (x : KeyCount) × (slice_get (insert_entry same_key (e ∷ es) key count) (position_or_len (same_key key) (keys_of (e ∷ es))) ≡ Some (key, x))
    by true is rest = rw is (count, ap (λ (k : Key). Some (k, count)) (sym (key-same key e.0 is)))
    by false is rest = rw is (
        let p : ℕ = position_or_len (same_key key) (keys_of es) in
        let next : 1 + p ≡ suc p = omega arith in
        (rest.0, ap (slice_get (e ∷ insert_entry same_key es key count)) next ∙ rest.1)
        )

-- by whether two numbers are the same
pub chosen-same : (m n x y : ℕ) → m ≡ n → (if m == n then x else y) ≡ x
chosen-same m n x y same =
    let is : (m == n) ≡ true = grind (arith, nat_tests) in
    ap (λ (b : Bool). if b then x else y) is

pub chosen-other : (m n x y : ℕ) → m ≢ n → (if m == n then x else y) ≡ y
chosen-other m n x y other =
    let is : (m == n) ≡ false = grind (arith, nat_tests) in
    ap (λ (b : Bool). if b then x else y) is

-- one more is counted of a key
pub one-more : (depth turns kept : ℕ) (count : KeyCount) → turns ≡ count.turns + 1
    → kept ≡ (if count.kept == depth then count.kept else count.kept + 1)
    → (let more : KeyCount = record { turns = turns; kept = kept } in more) ≡ one_more depth count
one-more depth turns kept count turns_are kept_are =
    ap (λ (n : ℕ). let more : KeyCount = record { turns = n; kept = kept } in more) turns_are
    ∙ ap (λ (n : ℕ). let more : KeyCount = record { turns = count.turns + 1; kept = n } in more) kept_are

-- the counts once a key was entered, and then counted anew
pub counted-anew : (old mid new : Counted) (key : Key) (count more : KeyCount) (depth : ℕ) → count ≡ count_in old key
    → more ≡ one_more depth count
    → ((k : Key) → same_key key k ≡ false → count_in mid k ≡ count_in old k)
    → ((k : Key) → count_in new k ≡ (if same_key key k then more else count_in mid k)) → (k : Key)
    → count_in new k ≡ (if same_key key k then one_more depth (count_in old key) else count_in old k)
counted-anew old mid new key count more depth count_is more_is others anew k =
    anew k ∙ by (same_key key k) refl
  where
    by : (b : Bool) → same_key key k ≡ b
        → (if b then more else count_in mid k) ≡ (if b then one_more depth (count_in old key) else count_in old k)
    by true is = more_is ∙ ap (λ (n : KeyCount). one_more depth n) count_is
    by false is = others k is

-- ---- keys of which nothing is counted

idle-is : (count : KeyCount) → is_any_counted count ≡ false → nothing ≡ count
idle-is count idle =
    let turns : 0 ≡ count.turns = grind (arith, nat_tests) in
    let kept : 0 ≡ count.kept = grind (arith, nat_tests) in
    ap (λ (n : ℕ). let c : KeyCount = record { turns = n; kept = 0 } in c) turns
    ∙ ap (λ (n : ℕ). let c : KeyCount = record { turns = count.turns; kept = n } in c) kept

-- of one that does not stand among these nothing is counted
absent-count : (es : Counted) (key k : Key) → AllByRecursion (λ (y : Key). same_key key y ≡ false) (keys_of es)
    → same_key k key ≡ true → count_in es k ≡ nothing
absent-count [] key k apart same = refl
absent-count (e ∷ es) key k apart same =
    let other : same_key k e.0 ≡ false = ap (λ (x : Key). same_key x e.0) (key-same k key same) ∙ apart.0 in
    ap (λ (b : Bool). unwrap_or (cond b (Some e.1) (lookup (same_key k) es)) nothing) other
    ∙ absent-count es key k apart.1 same

-- as much is counted of each key without them
pub counts-without_idle : (es : Counted) → IsDistinct same_key (keys_of es) → (k : Key)
    → count_in (filter (λ (e : Key × KeyCount). is_any_counted e.1) es) k ≡ count_in es k
counts-without_idle [] apart k = refl
counts-without_idle (e ∷ es) apart k =
    by (is_any_counted e.1) refl (same_key k e.0) refl
    (counts-without_idle es (IsDistinct-tail same_key e.0 (keys_of es) apart) k)
  where
    by : (b : Bool) → is_any_counted e.1 ≡ b → (s : Bool) → same_key k e.0 ≡ s
        → count_in (filter (λ (x : Key × KeyCount). is_any_counted x.1) es) k ≡ count_in es k
        → count_in (cond b (e ∷ filter (λ (x : Key × KeyCount). is_any_counted x.1) es)
        (filter (λ (x : Key × KeyCount). is_any_counted x.1) es)) k
        ≡ unwrap_or (cond s (Some e.1) (lookup (same_key k) es)) nothing
    by true some s is later =
        ap (λ (v : Bool). unwrap_or (cond v (Some e.1)
        (lookup (same_key k) (filter (λ (x : Key × KeyCount). is_any_counted x.1) es))) nothing) is
        ∙ (count-chosen s e.1 (lookup (same_key k) (filter (λ (x : Key × KeyCount). is_any_counted x.1) es))
        ∙ (ap (λ (n : KeyCount). if s then e.1 else n) later
        ∙ sym (count-chosen s e.1 (lookup (same_key k) es))))
    by false none true is later =
        later ∙ (absent-count es e.0 k (IsDistinct-head same_key e.0 (keys_of es) apart) is ∙ idle-is e.1 none)
    by false none false is later = later
