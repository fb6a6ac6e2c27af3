-- The present samples are counted among those kept.
use Rattle.std.proofs.Common.{◌≡◌, ℕ, ◌+◌, List, [], ◌∷◌, ◌++◌, length, map, filter, get_or, Bool, true, false, ◌&&◌, ◌||◌, sym, ap, ◌∙◌, refl, cond, arith, suc, ⊎_elim}
use Rattle.std.specs.List.{list_any, All, flat_map, count_by, IsDistinct, AllByRecursion}
use Rattle.std.specs.Prelude.{if◌then◌else◌, nat_lt}
use Rattle.std.proofs.lemmas.Bool.{and_right, cases_Bool, lt-ltb}
use Rattle.std.proofs.lemmas.List.{length-append, length-map}
use Rattle.std.proofs.lemmas.List.Sums.{length-filter, sum_by-cons}
use Rattle.std.proofs.lemmas.List.Elements.{All-head, All-tail, All-weaker}
use Rattle.std.proofs.lemmas.List.Folds.{list_any_none}
use Rattle.std.proofs.lemmas.List.Concat.{flat_map-cons}
use Rattle.std.proofs.lemmas.Map.Keys.{IsDistinct-head, IsDistinct-tail}
use Rattle.dds_base.specs.declared.key.Key.{Key}
use Rattle.dds_base.specs.declared.happening.SamplePosition.{SamplePosition}
use Rattle.dds_base.specs.declared.happening.Happening.{Happening}
use Rattle.dds_base.specs.declared.mask.Masks.{Masks}
use Rattle.dds_base.specs.declared.selection.Selection.{Selection}
use Rattle.dds_base.specs.declared.qos.ReaderQos.{ReaderQos}
use Rattle.dds_base.specs.declared.sample.SampleState.TheVariants.{Read as HasBeenRead, NotRead}
use Rattle.dds_base.specs.Access.{asks_for_sample_state, handle_of, meets, sample_state_of, value_of}
use Rattle.dds_base.specs.Happening.{same_key}
use Rattle.dds_base.specs.Instance.{known_instances}
use Rattle.dds_base.specs.Presence.{is_present, present_of, present_samples}
use Rattle.dds_base.specs.Life.{up_to}
use Rattle.dds_base.proofs.KeyLaws.{key-same, same_key-comm}
use Rattle.dds_instances.proofs.RiseLaws.{known-distinct}
use Rattle.dds_cache.specs.declared.kept.Kept.{Kept}
use Rattle.dds_cache.specs.Kept.{IsKept, IsUnasked, positions_in, sample_at}
use Rattle.dds_cache.specs.Finding.{IsUnmet, asks_for, asks_for_states, is_sought, passes, sample_of}
use Rattle.dds_cache.proofs.GroupLaws.{flat_map-same}
use Rattle.dds_cache.proofs.FindingLaws.{filter-flat_map, passing-all, wanted-of}

-- those of instance i
abbrev of_key : List SamplePosition → Key → List SamplePosition
of_key ss i = filter (λ (s : SamplePosition). same_key i s.key) ss

not-there : (ks : List Key) (i : Key) (s : SamplePosition) → same_key i s.key ≡ true
    → AllByRecursion (λ y. same_key i y ≡ false) ks → list_any (λ k. same_key k s.key) ks ≡ false
not-there [] i s same apart = refl
not-there (k ∷ ks) i s same apart =
    ap (λ (b : Bool). b || list_any (λ y. same_key y s.key) ks)
    (same_key-comm k s.key ∙ (ap (λ (x : Key). same_key x k) (sym (key-same i s.key same)) ∙ apart.0))
    ∙ not-there ks i s same apart.1

-- a sample of none of the instances is in no group
group-none : (ks : List Key) (s : SamplePosition) (ss : List SamplePosition)
    → list_any (λ k. same_key k s.key) ks ≡ false → flat_map (of_key (s ∷ ss)) ks ≡ flat_map (of_key ss) ks
group-none [] s ss none = refl
group-none (k ∷ ks) s ss none =
    let parts = or-parts (same_key k s.key) (list_any (λ x. same_key x s.key) ks) none in
    flat_map-cons (of_key (s ∷ ss)) k ks
    ∙ (ap (λ (b : Bool). cond b (s ∷ of_key ss k) (of_key ss k) ++ flat_map (of_key (s ∷ ss)) ks) parts.0
    ∙ (ap (λ (xs : List SamplePosition). of_key ss k ++ xs) (group-none ks s ss parts.1)
    ∙ sym (flat_map-cons (of_key ss) k ks)))
  where
    or-parts : (a b : Bool) → (a || b) ≡ false → (a ≡ false) × (b ≡ false)
    or-parts true b e = absurd cc
    or-parts false b e = (refl, e)

-- a sample of one of the instances is in one group
group-one : (ks : List Key) (s : SamplePosition) (ss : List SamplePosition) → IsDistinct same_key ks
    → list_any (λ k. same_key k s.key) ks ≡ true → length (flat_map (of_key (s ∷ ss)) ks)
    ≡ suc (length (flat_map (of_key ss) ks))
group-one [] s ss distinct there = absurd (let clash : false ≡ true = there in cc)
group-one (k ∷ ks) s ss distinct there =
    ap length (flat_map-cons (of_key (s ∷ ss)) k ks)
    ∙ (⊎_elim
    (λ same. ap (λ (b : Bool). length (cond b (s ∷ of_key ss k) (of_key ss k) ++ flat_map (of_key (s ∷ ss)) ks)) same
    ∙ ap (λ (xs : List SamplePosition). suc (length (of_key ss k ++ xs)))
    (group-none ks s ss (not-there ks k s same (IsDistinct-head same_key k ks distinct))))
    (λ other. let rest : length (flat_map (of_key (s ∷ ss)) ks)
    ≡ suc (length (flat_map (of_key ss) ks)) = group-one ks s ss (IsDistinct-tail same_key k ks distinct)
    (sym (ap (λ (b : Bool). b || list_any (λ x. same_key x s.key) ks) other) ∙ there) in
    let first : length (of_key ss k ++ flat_map (of_key (s ∷ ss)) ks)
    ≡ length (of_key ss k) + length (flat_map (of_key (s ∷ ss)) ks) = length-append (of_key ss k)
    (flat_map (of_key (s ∷ ss)) ks) in
    let second : length (of_key ss k ++ flat_map (of_key ss) ks)
    ≡ length (of_key ss k) + length (flat_map (of_key ss) ks) = length-append (of_key ss k)
    (flat_map (of_key ss) ks) in
    ap (λ (b : Bool). length (cond b (s ∷ of_key ss k) (of_key ss k) ++ flat_map (of_key (s ∷ ss)) ks)) other
    ∙ omega (arith, first, second, rest))
    (cases_Bool (same_key k s.key))
    ∙ ap (λ (xs : List SamplePosition). suc (length xs)) (sym (flat_map-cons (of_key ss) k ks)))

no-groups : (ks : List Key) → flat_map (of_key []) ks ≡ []
no-groups [] = refl
no-groups (k ∷ ks) = flat_map-cons (of_key []) k ks ∙ no-groups ks

-- samples of distinct instances are as many as their groups have
pub groups-count : (ks : List Key) (ss : List SamplePosition) → IsDistinct same_key ks
    → All (λ (s : SamplePosition). list_any (λ k. same_key k s.key) ks ≡ true) ss
    → length (flat_map (of_key ss) ks) ≡ length ss
groups-count ks [] distinct all = ap length (no-groups ks)
groups-count ks (s ∷ ss) distinct all =
    group-one ks s ss distinct (All-head (λ (x : SamplePosition). list_any (λ k. same_key k x.key) ks ≡ true) s ss all)
    ∙ ap suc (groups-count ks ss distinct
    (All-tail (λ (x : SamplePosition). list_any (λ k. same_key k x.key) ks ≡ true) s ss all))

-- the present samples that pass a test are as many as among those kept
pub present-count : (q : ReaderQos) (h : List Happening) (test : SamplePosition → Bool) (ks : List Kept)
    → All (λ (k : Kept). list_any (λ i. same_key i k.sample.key) (known_instances q h) ≡ true) ks
    → ((i : Key) → filter (is_present q h i) (up_to (length h)) ≡ positions_in q h i ks)
    → count_by test (present_samples q h) ≡ count_by (passes q h test) ks
present-count q h test ks known present =
    let known_is : List Key = known_instances q h in
    let ss : List SamplePosition = map sample_of (filter (passes q h test) ks) in
    sym (length-filter test (present_samples q h))
    ∙ (ap length (filter-flat_map test (present_of q h) known_is)
    ∙ (ap length (flat_map-same (λ i. filter test (present_of q h i)) (of_key ss) known_is
    (λ i. ap (λ (ps : List ℕ). filter test (map (sample_at i) ps)) (present i) ∙ sym (wanted-of q h test i ks)))
    ∙ (groups-count known_is ss (known-distinct q h)
    (passing-all (λ (s : SamplePosition). list_any (λ i. same_key i s.key) known_is ≡ true)
    (passes q h test) ks known)
    ∙ (length-map (filter (passes q h test) ks) sample_of ∙ length-filter (passes q h test) ks))))

-- some passes exactly where those that pass are at least one
pub any-count : {X : Type 0} (p : X → Bool) (xs : List X) → list_any p xs ≡ nat_lt 0 (count_by p xs)
any-count p [] = refl
any-count p (x ∷ xs) =
    one (p x) (list_any p xs) (count_by p xs) (any-count p xs)
    ∙ ap (λ (n : ℕ). nat_lt 0 n) (sym (sum_by-cons (λ y. cond (p y) 1 0) x xs))
  where
    nothing-more : (n : ℕ) → n ≡ 0 + n
    nothing-more n = omega arith

    one : (b rest : Bool) (n : ℕ) → rest ≡ nat_lt 0 n → (b || rest) ≡ nat_lt 0 (cond b 1 0 + n)
    one true rest n is = sym (lt-ltb 0 (1 + n) (omega arith))
    one false rest n is = is ∙ ap (λ (m : ℕ). nat_lt 0 m) (nothing-more n)

-- some present sample passes a test exactly where one of those kept does
pub present-any : (q : ReaderQos) (h : List Happening) (test : SamplePosition → Bool) (ks : List Kept)
    → All (IsKept q h) ks → ((i : Key) → filter (is_present q h i) (up_to (length h)) ≡ positions_in q h i ks)
    → list_any test (present_samples q h) ≡ list_any (passes q h test) ks
present-any q h test ks kept present =
    any-count test (present_samples q h)
    ∙ (ap (λ (n : ℕ). nat_lt 0 n)
    (present-count q h test ks
    (All-weaker (IsKept q h) (λ (k : Kept). list_any (λ i. same_key i k.sample.key) (known_instances q h) ≡ true)
    (λ k is. is.is_known) ks kept) present)
    ∙ sym (any-count (passes q h test) ks))

-- ---- what masks alone tell

-- those of which the masks don't ask for the sample state don't meet them
pub unmet-unasked : (q : ReaderQos) (h : List Happening) (masks : Masks) (ks : List Kept) → All (IsKept q h) ks
    → All (IsUnasked masks.samples) ks → All (IsUnmet q h masks) ks
unmet-unasked q h masks ks kept unasked = λ n d within. one (get_or ks n d) (kept n d within) (unasked n d within)
  where
    one : (k : Kept) → IsKept q h k → IsUnasked masks.samples k → IsUnmet q h masks k
    one k is unasked =
        ⊎_elim
        (λ out. ap (λ (b : Bool). b && meets q h masks k.sample) (is.out_is out))
        (λ stays. ap (λ (b : Bool). is_present q h k.sample.key k.sample.position && b)
        (ap (λ (b : Bool). asks_for_sample_state masks.samples (if b then HasBeenRead else NotRead)
        && asks_for_states q h masks k.sample.key) (sym is.read_is)
        ∙ ap (λ (b : Bool). b && asks_for_states q h masks k.sample.key) (unasked stays))
        ∙ and_right (is_present q h k.sample.key k.sample.position) false refl)
        (cases_Bool k.is_out)

-- what is so of each instance of a list is so of one that is among them
of-known : (p : Key → Bool) (x : Key) (ks : List Key) → All (λ (i : Key). p i ≡ false) ks
    → list_any (λ i. same_key i x) ks ≡ true → p x ≡ false
of-known p x [] all there = absurd (let clash : false ≡ true = there in cc)
of-known p x (k ∷ ks) all there =
    ⊎_elim
    (λ same. ap p (sym (key-same k x same)) ∙ All-head (λ (i : Key). p i ≡ false) k ks all)
    (λ other. of-known p x ks (All-tail (λ (i : Key). p i ≡ false) k ks all)
    (sym (ap (λ (b : Bool). b || list_any (λ i. same_key i x) ks) other) ∙ there))
    (cases_Bool (same_key k x))

-- where the masks ask for the states of no known instance, no kept sample meets them
pub unmet-instances : (q : ReaderQos) (h : List Happening) (masks : Masks) (ks : List Kept) → All (IsKept q h) ks
    → All (λ (i : Key). asks_for_states q h masks i ≡ false) (known_instances q h) → All (IsUnmet q h masks) ks
unmet-instances q h masks ks kept unasked =
    All-weaker (IsKept q h) (IsUnmet q h masks)
    (λ k is. ap (λ (b : Bool). is_present q h k.sample.key k.sample.position
    && (asks_for_sample_state masks.samples (sample_state_of h k.sample) && b))
    (of-known (asks_for_states q h masks) k.sample.key (known_instances q h) unasked is.is_known)
    ∙ (ap (λ (b : Bool). is_present q h k.sample.key k.sample.position && b)
    (and_right (asks_for_sample_state masks.samples (sample_state_of h k.sample)) false refl)
    ∙ and_right (is_present q h k.sample.key k.sample.position) false refl)) ks kept

-- where none of those that are kept meets the masks, no present sample is sought
pub unsought : (q : ReaderQos) (h : List Happening) (selection : Selection) (masks : Masks)
    (test : Key → List ℕ → Bool) (ks : List Kept) → All (IsKept q h) ks
    → ((i : Key) → filter (is_present q h i) (up_to (length h)) ≡ positions_in q h i ks) → All (IsUnmet q h masks) ks
    → list_any (is_sought q h selection masks test) (present_samples q h) ≡ false
unsought q h selection masks test ks kept present unmet =
    present-any q h (is_sought q h selection masks test) ks kept present
    ∙ list_any_none (passes q h (is_sought q h selection masks test)) ks
    (All-weaker (IsUnmet q h masks) (λ (k : Kept). passes q h (is_sought q h selection masks test) k ≡ false)
    (λ k none. neither (is_present q h k.sample.key k.sample.position)
    (asks_for selection (handle_of q h k.sample.key)) (meets q h masks k.sample)
    (test k.sample.key (value_of q h k.sample)) none) ks unmet)
  where
    neither : (p a m t : Bool) → (p && m) ≡ false → (p && (a && (m && t))) ≡ false
    neither true a true t e = absurd (let clash : true ≡ false = e in cc)
    neither true true false t e = refl
    neither true false false t e = refl
    neither false a m t e = refl
