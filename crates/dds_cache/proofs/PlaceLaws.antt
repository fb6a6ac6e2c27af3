-- The kept samples that an access returned are found again at the places of the candidates.
use Rattle.std.proofs.Common.{◌≡◌, ℕ, zero, suc, ◌+◌, ◌≤◌, ◌<◌, ◌≢◌, List, [], ◌∷◌, ◌++◌, length, map, filter, get_or, set, take, Bool, true, false, ◌&&◌, ◌||◌, ◌==◌, cond, sym, ap, ◌∙◌, refl, subst, arith, ⊎_elim, Option, Some, None}
use Rattle.std.specs.Prelude.{nat_lt}
use Rattle.std.specs.List.{list_any, All, count_by}
use Rattle.std.proofs.lemmas.Bool.{and_parts, cases_Bool}
use Rattle.std.proofs.lemmas.Bool.Decides.{nat_tests}
use Rattle.std.proofs.lemmas.List.{get_or-map, get_or_default, get_or-set_other, get_or-set_same, length-map, length-set, same_lists}
use Rattle.std.proofs.lemmas.List.Sums.{count_by_more_yes, sum_by-le-sum_by, sum_by-take-le, get_or-le-sum_by, sum_by-append, sum_by-cons}
use Rattle.std.proofs.lemmas.List.Elements.{All-head, All-tail, All-weaker}
use Rattle.std.proofs.lemmas.List.Folds.{list_any_more}
use Rattle.dds_base.specs.declared.key.Key.{Key}
use Rattle.dds_base.specs.declared.happening.SamplePosition.{SamplePosition}
use Rattle.dds_base.specs.declared.happening.Happening.{Happening}
use Rattle.dds_base.specs.declared.qos.ReaderQos.{ReaderQos}
use Rattle.dds_base.specs.Happening.{same_key, same_sample}
use Rattle.dds_base.specs.Presence.{is_present, present_samples}
use Rattle.dds_base.specs.declared.mask.Masks.{Masks}
use Rattle.dds_base.specs.declared.selection.Selection.{Selection}
use Rattle.dds_base.specs.declared.selection.Selection.TheVariants.{Any, Instance, NextInstance, NextSample}
use Rattle.dds_base.specs.Access.{at_most, handle_of, matching_samples, next_handle, no_filter, not_read}
use Rattle.dds_base.specs.Checked.{limit_of}
use Rattle.dds_base.specs.Instance.{known_instances}
use Rattle.dds_base.specs.Selection.{picked_by}
use Rattle.dds_base.specs.Life.{up_to}
use Rattle.dds_base.proofs.KeyLaws.{key-same, same_key-refl}
use Rattle.dds_instances.specs.Table.{Table}
use Rattle.dds_cache.specs.declared.access.Candidate.{Candidate}
use Rattle.dds_cache.specs.declared.access_kind.AccessKind.{AccessKind}
use Rattle.dds_cache.specs.declared.access_kind.AccessKind.TheVariants.{Read, Take}
use Rattle.dds_cache.specs.declared.kept.Kept.{Kept}
use Rattle.dds_cache.specs.Kept.{is_among, is_here, out_if, read_if, position_of, positions_in, sample_at, IsKept}
use Rattle.dds_cache.specs.Settling.{settled}
use Rattle.dds_cache.specs.Finding.{AreAt, AreChanged, Holds, IsCandidate, IsSmall, is_place, sample_in, AreApart, is_asked_for, passes}
use Rattle.dds_cache.specs.Picking.{Picks}
use Rattle.dds_cache.proofs.CountLaws.{any-count, present-count}
use Rattle.dds_cache.proofs.GroupLaws.{unequal}
use Rattle.dds_cache.proofs.KeptLaws.{some_kept}

-- ---- no two of those that are present are the same sample

count-cons : {X : Type 0} (p : X → Bool) (x : X) (xs : List X) → count_by p (x ∷ xs) ≡ cond (p x) 1 0 + count_by p xs
count-cons p x xs = sum_by-cons (λ y. cond (p y) 1 0) x xs

-- a number stands among those up to n once at most, and not at all above them
once : (m n : ℕ) → (count_by (λ j. j == m) (up_to n) ≤ 1) × (n < m → count_by (λ j. j == m) (up_to n) ≡ 0)
once m zero = (grind arith, λ above. grind arith)
once m (suc n) =
    let before = once m n in
    let more : count_by (λ j. j == m) (up_to n ++ suc n ∷ [])
    ≡ count_by (λ j. j == m) (up_to n) + count_by (λ j. j == m) (suc n ∷ []) =
    sum_by-append (λ j. cond (j == m) 1 0) (up_to n) (suc n ∷ []) in
    let last : count_by (λ j. j == m) (suc n ∷ []) ≡ cond (suc n == m) 1 0 + count_by (λ j. j == m) [] =
    count-cons (λ j. j == m) (suc n) [] in
    let empty : count_by (λ (j : ℕ). j == m) [] ≡ 0 = grind arith in
    ⊎_elim
    (λ same. let is : suc n ≡ m = grind (arith, nat_tests, same) in
    let one : cond {A = ℕ} (suc n == m) 1 0 ≡ 1 = ap (λ (b : Bool). cond b 1 0) same in
    let none : count_by (λ j. j == m) (up_to n) ≡ 0 = before.1 (omega (arith, is)) in
    (omega (arith, more, last, empty, one, none), λ above. absurd (omega (arith, above, is))))
    (λ other. let zero_is : cond {A = ℕ} (suc n == m) 1 0 ≡ 0 = ap (λ (b : Bool). cond b 1 0) other in
    let few : count_by (λ j. j == m) (up_to n) ≤ 1 = before.0 in (
      omega (arith, more, last, empty, zero_is, few),
      λ above. let none : count_by (λ j. j == m) (up_to n) ≡ 0 = before.1 (omega (arith, above)) in
          omega (arith, more, last, empty, zero_is, none),
    ))
    (cases_Bool (suc n == m))

-- a filter leaves no more
count-filtered : {X : Type 0} (f p : X → Bool) (xs : List X) → count_by p (filter f xs) ≤ count_by p xs
count-filtered f p [] = grind arith
count-filtered f p (x ∷ xs) =
    let whole = count-cons p x xs in
    let rest : count_by p (filter f xs) ≤ count_by p xs = count-filtered f p xs in
    ⊎_elim
    (λ yes. let is : count_by p (filter f (x ∷ xs)) ≡ count_by p (x ∷ filter f xs) =
    ap (λ (b : Bool). count_by p (cond b (x ∷ filter f xs) (filter f xs))) yes in
    let more = count-cons p x (filter f xs) in
    omega (arith, whole, rest, is, more))
    (λ no. let is : count_by p (filter f (x ∷ xs)) ≡ count_by p (filter f xs) =
    ap (λ (b : Bool). count_by p (cond b (x ∷ filter f xs) (filter f xs))) no in
    omega (arith, whole, rest, is))
    (cases_Bool (f x))

-- a kept sample is present, of instance i, and at position m
abbrev is_sample : ReaderQos → List Happening → Key → ℕ → Kept → Bool
is_sample q h i m k = is_here q h i k && (k.sample.position == m)

count-positions : (q : ReaderQos) (h : List Happening) (i : Key) (m : ℕ) (ks : List Kept)
    → count_by (is_sample q h i m) ks ≡ count_by (λ j. j == m) (positions_in q h i ks)
count-positions q h i m [] = grind arith
count-positions q h i m (k ∷ ks) =
    count-cons (is_sample q h i m) k ks ∙ one (is_here q h i k) k (count-positions q h i m ks)
  where
    one : (b : Bool) (k : Kept)
        → count_by (is_sample q h i m) ks ≡ count_by (λ j. j == m) (positions_in q h i ks)
        → cond (b && (k.sample.position == m)) 1 0 + count_by (is_sample q h i m) ks
        ≡ count_by (λ j. j == m) (map position_of (cond b (k ∷ filter (is_here q h i) ks) (filter (is_here q h i) ks)))
    one true k rest =
        ap (λ (n : ℕ). cond (k.sample.position == m) 1 0 + n) rest
        ∙ sym (count-cons (λ j. j == m) (position_of k) (positions_in q h i ks))
    one false k rest =
        (let none : 0 + count_by (is_sample q h i m) ks ≡ count_by (is_sample q h i m) ks = omega arith in none) ∙ rest

-- what stands first and once more stands twice
twice : (p : Kept → Bool) (k : Kept) (ks : List Kept) (b : ℕ) (d : Kept) → count_by p (k ∷ ks) ≤ 1 → b < length ks
    → p k ≡ true → p (get_or ks b d) ≡ true → ⊥
twice p k ks b d few within first second =
    let whole = count-cons p k ks in
    let one : cond {A = ℕ} (p k) 1 0 ≡ 1 = ap (λ (x : Bool). cond x 1 0) first in
    let other : cond {A = ℕ} (p (get_or ks b d)) 1 0 ≡ 1 = ap (λ (x : Bool). cond x 1 0) second in
    let some : cond {A = ℕ} (p (get_or ks b d)) 1 0 ≤ count_by p ks =
    get_or-le-sum_by (λ x. cond (p x) 1 0) ks b d within in
    omega (arith, whole, one, other, some, few)

-- two places of what stands once at most are one
one-place : (p : Kept → Bool) (ks : List Kept) (a b : ℕ) (d : Kept) → count_by p ks ≤ 1 → a < length ks → b < length ks
    → p (get_or ks a d) ≡ true → p (get_or ks b d) ≡ true → a ≡ b
one-place p [] a b d few within_a within_b is_a is_b = absurd (omega (arith, within_a))
one-place p (k ∷ ks) zero zero d few within_a within_b is_a is_b = refl
one-place p (k ∷ ks) zero (suc b) d few within_a within_b is_a is_b =
    absurd (twice p k ks b d few (omega (arith, within_b)) is_a is_b)
one-place p (k ∷ ks) (suc a) zero d few within_a within_b is_a is_b =
    absurd (twice p k ks a d few (omega (arith, within_a)) is_b is_a)
one-place p (k ∷ ks) (suc a) (suc b) d few within_a within_b is_a is_b =
    let whole = count-cons p k ks in
    ap suc (one-place p ks a b d (omega (arith, whole, few)) (omega (arith, within_a)) (omega (arith, within_b)) is_a
    is_b)

sample-same : (a b : SamplePosition) → same_sample a b ≡ true → a ≡ b
sample-same a b same =
    let parts = and_parts (same_key a.key b.key) (a.position == b.position) same in
    let key : a.key ≡ b.key = key-same a.key b.key parts.0 in
    let position : a.position ≡ b.position = grind (arith, nat_tests, parts.1) in
    ap (λ (x : Key). sample_at x a.position) key ∙ ap (λ (n : ℕ). sample_at b.key n) position

pub same-sample : (a b : SamplePosition) → a ≡ b → same_sample a b ≡ true
same-sample a b is =
    ap (λ (x : SamplePosition). same_sample a x) (sym is)
    ∙ (ap (λ (y : Bool). y && (a.position == a.position)) (same_key-refl a.key)
    ∙ (let itself : (a.position == a.position) ≡ true = grind (arith, nat_tests) in itself))

-- no two of the kept samples that are present are the same sample
sample-once : (q : ReaderQos) (table : Table) (h : List Happening) (ks : List Kept) (i : Key) (m : ℕ)
    → Holds q table ks h → count_by (is_sample q h i m) ks ≤ 1
sample-once q table h ks i m holds =
    subst (λ (n : ℕ). n ≤ 1)
    (sym (count-positions q h i m ks ∙ ap (λ (js : List ℕ). count_by (λ j. j == m) js) (sym (holds.present i))))
    (let bound : count_by (λ j. j == m) (filter (is_present q h i) (up_to (length h))) ≤ 1 =
    omega (arith, count-filtered (is_present q h i) (λ j. j == m) (up_to (length h)), (once m (length h)).0) in bound)

-- a kept sample that is present is its own
is-sample : (q : ReaderQos) (h : List Happening) (s : SamplePosition) (k : Kept) → k.sample ≡ s
    → is_present q h s.key s.position ≡ true → is_sample q h s.key s.position k ≡ true
is-sample q h s k same present =
    ap (λ (x : SamplePosition). (same_key x.key s.key && is_present q h s.key x.position) && (x.position == s.position))
    same
    ∙ (ap (λ (b : Bool). (b && is_present q h s.key s.position) && (s.position == s.position)) (same_key-refl s.key)
    ∙ (ap (λ (b : Bool). b && (s.position == s.position)) present
    ∙ (let itself : (s.position == s.position) ≡ true = grind (arith, nat_tests) in itself)))

-- a kept sample that is the one of a candidate stands at its place
place-of : (q : ReaderQos) (table : Table) (h : List Happening) (ks : List Kept) (c : Candidate) (at : ℕ) (d : Kept)
    → Holds q table ks h → IsCandidate q h ks c → at < length ks → (get_or ks at d).sample ≡ c.sample → c.at ≡ at
place-of q table h ks c at d holds is within same =
    one-place (is_sample q h c.sample.key c.sample.position) ks c.at at d
    (sample-once q table h ks c.sample.key c.sample.position holds) is.within within
    (is-sample q h c.sample (get_or ks c.at d) (is.there d) is.present)
    (is-sample q h c.sample (get_or ks at d) same is.present)

-- ---- no two candidates stand at one place

-- no sample is picked twice
picked-once : (q : ReaderQos) (table : Table) (h : List Happening) (ks : List Kept) (selection : Selection)
    (test : Key → List ℕ → Bool) (s : SamplePosition) → Holds q table ks h
    → count_by (same_sample s) (picked_by q h selection test) ≤ 1
picked-once q table h ks selection test s holds = of-form selection
  where
    narrower : (k : Kept) → cond (passes q h (same_sample s) k) 1 0 ≤ cond (is_sample q h s.key s.position k) 1 0
    narrower k =
        ⊎_elim
        (λ there. let parts = and_parts (is_present q h k.sample.key k.sample.position) (same_sample s k.sample) there in
        let same : s ≡ k.sample = sample-same s k.sample parts.1 in
        let own : is_sample q h s.key s.position k ≡ true = is-sample q h s k (sym same)
        (ap (λ (x : SamplePosition). is_present q h x.key x.position) same ∙ parts.0) in
        let one : cond {A = ℕ} (passes q h (same_sample s) k) 1 0 ≡ 1 = ap (λ (b : Bool). cond b 1 0) there in
        let other : cond {A = ℕ} (is_sample q h s.key s.position k) 1 0 ≡ 1 = ap (λ (b : Bool). cond b 1 0) own in
        omega (arith, one, other))
        (λ gone. let none : cond {A = ℕ} (passes q h (same_sample s) k) 1 0 ≡ 0 = ap (λ (b : Bool). cond b 1 0) gone in
        omega (arith, none))
        (cases_Bool (passes q h (same_sample s) k))

    present : count_by (same_sample s) (present_samples q h) ≤ 1
    present =
        let counted : count_by (same_sample s) (present_samples q h) ≡ count_by (passes q h (same_sample s)) ks =
        present-count q h (same_sample s) ks
        (All-weaker (IsKept q h) (λ (k : Kept). list_any (λ i. same_key i k.sample.key) (known_instances q h) ≡ true)
        (λ k is. is.is_known) ks holds.each) holds.present in
        let less : count_by (passes q h (same_sample s)) ks ≤ count_by (is_sample q h s.key s.position) ks =
        sum_by-le-sum_by (λ k. cond (passes q h (same_sample s) k) 1 0)
        (λ k. cond (is_sample q h s.key s.position k) 1 0) ks narrower in
        let few : count_by (is_sample q h s.key s.position) ks ≤ 1 =
        sample-once q table h ks s.key s.position holds in
        omega (arith, counted, less, few)

    matching : (masks : Masks) (asked : Key → List ℕ → Bool)
        → count_by (same_sample s) (matching_samples q h masks asked) ≤ 1
    matching masks asked =
        let less : count_by (same_sample s) (matching_samples q h masks asked)
        ≤ count_by (same_sample s) (present_samples q h) =
        count-filtered (is_asked_for q h masks asked) (same_sample s) (present_samples q h) in
        omega (arith, less, present)

    cut : (limit : Option ℕ) (ss : List SamplePosition) → count_by (same_sample s) ss ≤ 1
        → count_by (same_sample s) (at_most limit ss) ≤ 1
    cut None ss few = few
    cut (Some most) ss few =
        let less : count_by (same_sample s) (take most ss) ≤ count_by (same_sample s) ss =
        sum_by-take-le (λ x. cond (same_sample s x) 1 0) ss most in
        omega (arith, less, few)

    of-handle : (n : ℕ) (masks : Masks) (asked : Key → List ℕ → Bool)
        → count_by (same_sample s) (filter (λ (x : SamplePosition). handle_of q h x.key == n)
        (matching_samples q h masks asked)) ≤ 1
    of-handle n masks asked =
        let less : count_by (same_sample s) (filter (λ (x : SamplePosition). handle_of q h x.key == n)
        (matching_samples q h masks asked)) ≤ count_by (same_sample s) (matching_samples q h masks asked) =
        count-filtered (λ (x : SamplePosition). handle_of q h x.key == n) (same_sample s)
        (matching_samples q h masks asked) in
        let few = matching masks asked in
        omega (arith, less, few)

    of-form : (form : Selection) → count_by (same_sample s) (picked_by q h form test) ≤ 1
    of-form (Any max masks) = cut (limit_of max) (matching_samples q h masks test) (matching masks test)
    of-form (Instance handle max masks) =
        cut (limit_of max) (filter (λ (x : SamplePosition). handle_of q h x.key == handle)
        (matching_samples q h masks test)) (of-handle handle masks test)
    of-form (NextInstance previous max masks) =
        cut (limit_of max) (filter (λ (x : SamplePosition). handle_of q h x.key
        == next_handle q h previous (matching_samples q h masks test)) (matching_samples q h masks test))
        (of-handle (next_handle q h previous (matching_samples q h masks test)) masks test)
    of-form NextSample = cut (Some 1) (matching_samples q h not_read no_filter) (matching not_read no_filter)

-- those at one place are no more than those of its sample
at-sample : (q : ReaderQos) (h : List Happening) (ks : List Kept) (cs : List Candidate) (at : ℕ) (d : Kept)
    → All (IsCandidate q h ks) cs
    → count_by (λ (c : Candidate). c.at == at) cs ≤ count_by (same_sample (get_or ks at d).sample) (map sample_in cs)
at-sample q h ks [] at d each = grind arith
at-sample q h ks (c ∷ cs) at d each =
    let s : SamplePosition = (get_or ks at d).sample in
    let is : IsCandidate q h ks c = All-head (IsCandidate q h ks) c cs each in
    let rest : count_by (λ (x : Candidate). x.at == at) cs ≤ count_by (same_sample s) (map sample_in cs) =
    at-sample q h ks cs at d (All-tail (IsCandidate q h ks) c cs each) in
    let more : count_by (λ (x : Candidate). x.at == at) (c ∷ cs)
    ≡ cond (c.at == at) 1 0 + count_by (λ (x : Candidate). x.at == at) cs =
    count-cons (λ (x : Candidate). x.at == at) c cs in
    let more_samples : count_by (same_sample s) (c.sample ∷ map sample_in cs)
    ≡ cond (same_sample s c.sample) 1 0 + count_by (same_sample s) (map sample_in cs) =
    count-cons (same_sample s) c.sample (map sample_in cs) in
    ⊎_elim
    (λ here. let place : c.at ≡ at = grind (arith, nat_tests, here) in
    let same : s ≡ c.sample = ap (λ (n : ℕ). (get_or ks n d).sample) (sym place) ∙ is.there d in
    let one : cond {A = ℕ} (c.at == at) 1 0 ≡ 1 = ap (λ (b : Bool). cond b 1 0) here in
    let other : cond {A = ℕ} (same_sample s c.sample) 1 0 ≡ 1 =
    ap (λ (b : Bool). cond b 1 0) (same-sample s c.sample same) in
    omega (arith, rest, more, more_samples, one, other))
    (λ elsewhere. let none : cond {A = ℕ} (c.at == at) 1 0 ≡ 0 = ap (λ (b : Bool). cond b 1 0) elsewhere in
    omega (arith, rest, more, more_samples, none))
    (cases_Bool (c.at == at))

pub apart-picked : (q : ReaderQos) (table : Table) (h : List Happening) (ks : List Kept) (selection : Selection)
    (test : Key → List ℕ → Bool) (cs : List Candidate) → Holds q table ks h → Picks q h selection test ks cs
    → AreApart cs
apart-picked q table h ks selection test cs holds picks = λ at.
    let d : Kept = some_kept (sample_at (record { 0 = [] }) 0) in
    let s : SamplePosition = (get_or ks at d).sample in
    let less : count_by (λ (c : Candidate). c.at == at) cs ≤ count_by (same_sample s) (map sample_in cs) =
    at-sample q h ks cs at d picks.each in
    let same : count_by (same_sample s) (map sample_in cs) ≡ count_by (same_sample s) (picked_by q h selection test) =
    ap (λ (ss : List SamplePosition). count_by (same_sample s) ss) picks.samples_are in
    let few : count_by (same_sample s) (picked_by q h selection test) ≤ 1 =
    picked-once q table h ks selection test s holds in
    omega (arith, less, same, few)

-- so the place of a candidate is that of none before it
pub apart-so-far : (cs : List Candidate) (i : ℕ) (c : Candidate) → AreApart cs → i < length cs → c ≡ get_or cs i c
    → is_place (take i cs) c.at ≡ false
apart-so-far cs i c apart within is =
    let here : ((get_or cs i c).at == c.at) ≡ true =
    (let place : (get_or cs i c).at ≡ c.at = ap (λ (x : Candidate). x.at) (sym is) in
    let equal : ((get_or cs i c).at == c.at) ≡ true = grind (arith, nat_tests, place) in equal) in
    let more : count_by (λ (x : Candidate). x.at == c.at) (take (i + 1) cs)
    ≡ count_by (λ (x : Candidate). x.at == c.at) (take i cs) + 1 =
    count_by_more_yes (λ (x : Candidate). x.at == c.at) cs i c within here in
    let less : count_by (λ (x : Candidate). x.at == c.at) (take (i + 1) cs)
    ≤ count_by (λ (x : Candidate). x.at == c.at) cs =
    sum_by-take-le (λ (x : Candidate). cond (x.at == c.at) 1 0) cs (i + 1) in
    let few : count_by (λ (x : Candidate). x.at == c.at) cs ≤ 1 = apart c.at in
    let none : count_by (λ (x : Candidate). x.at == c.at) (take i cs) ≡ 0 = omega (arith, more, less, few) in
    any-count (λ (x : Candidate). x.at == c.at) (take i cs) ∙ ap (λ (n : ℕ). nat_lt 0 n) none

-- so the samples of candidates are those at their places
pub at-places : (q : ReaderQos) (table : Table) (h : List Happening) (ks : List Kept) (cs : List Candidate)
    → Holds q table ks h → All (IsCandidate q h ks) cs → AreAt (map sample_in cs) cs ks
at-places q table h ks [] holds each = λ at d within. refl
at-places q table h ks (c ∷ cs) holds each = λ at d within.
    let is : IsCandidate q h ks c = All-head (IsCandidate q h ks) c cs each in
    let rest = at-places q table h ks cs holds (All-tail (IsCandidate q h ks) c cs each) at d within in
    ap (λ (b : Bool). b || list_any (same_sample (get_or ks at d).sample) (map sample_in cs)) (one at d is within)
    ∙ ap (λ (b : Bool). (c.at == at) || b) rest
  where
    one : (at : ℕ) (d : Kept) → IsCandidate q h ks c → at < length ks
        → same_sample (get_or ks at d).sample c.sample ≡ (c.at == at)
    one at d is within =
        ⊎_elim
        (λ same. let place : c.at ≡ at = place-of q table h ks c at d holds is within
        (sample-same (get_or ks at d).sample c.sample same) in
        let equal : (c.at == at) ≡ true = grind (arith, nat_tests, place) in same ∙ sym equal)
        (λ other. other ∙ sym (unequal c.at at (λ place. let there : (get_or ks at d).sample ≡ c.sample =
        ap (λ (n : ℕ). (get_or ks n d).sample) (sym place) ∙ is.there d in
        let clash : true ≡ false = sym (same-sample (get_or ks at d).sample c.sample there) ∙ other in absurd cc)))
        (cases_Bool (same_sample (get_or ks at d).sample c.sample))

-- ---- what is changed at the candidates' places

-- one candidate more
pub changed-more : (change : Bool → Kept → Kept) (cs : List Candidate) (i : ℕ) (c : Candidate) (old now : List Kept)
    (k v : Kept) → ((b : Bool) (x : Kept) → change true (change b x) ≡ change true x) → i < length cs
    → c ≡ get_or cs i c → c.at < length old → k ≡ get_or now c.at k → v ≡ change true k
    → AreChanged change (take i cs) old now → AreChanged change (take (i + 1) cs) old (set now c.at v)
changed-more change cs i c old now k v again within c_is placed k_is v_is so_far = record {
  same_len = length-set now c.at v ∙ so_far.same_len;
  each = λ at d inside.
      let more : is_place (take (i + 1) cs) at ≡ (is_place (take i cs) at || (c.at == at)) =
      list_any_more (λ x. x.at == at) cs i c within
      ∙ ap (λ (x : Candidate). is_place (take i cs) at || (x.at == at)) (sym c_is) in
      ⊎_elim
      (λ same. let place : c.at ≡ at = grind (arith, nat_tests, same) in
      let there : c.at < length now = omega (arith, placed, so_far.same_len) in
      ap (λ (n : ℕ). get_or (set now c.at v) n d) (sym place)
      ∙ (get_or-set_same now c.at v d there
      ∙ (v_is ∙ (ap (change true) (k_is ∙ get_or_default now c.at k d there)
      ∙ (ap (change true) (so_far.each c.at d placed)
      ∙ (again (is_place (take i cs) c.at) (get_or old c.at d)
      ∙ (ap (λ (n : ℕ). change true (get_or old n d)) place
      ∙ ap (λ (b : Bool). change b (get_or old at d)) (sym (more
      ∙ (ap (λ (b : Bool). is_place (take i cs) at || b) same ∙ or-true (is_place (take i cs) at)))))))))))
      (λ other. let apart : at ≢ c.at = λ place. let clash : true ≡ false =
      (let equal : true ≡ (c.at == at) = grind (arith, nat_tests, place) in equal) ∙ other in absurd cc in
      get_or-set_other now c.at at v d apart
      ∙ (so_far.each at d inside
      ∙ ap (λ (b : Bool). change b (get_or old at d)) (sym (more
      ∙ (ap (λ (b : Bool). is_place (take i cs) at || b) other ∙ or-false (is_place (take i cs) at))))))
      (cases_Bool (c.at == at));
}
  where
    or-true : (b : Bool) → (b || true) ≡ true
    or-true true = refl
    or-true false = refl

    or-false : (b : Bool) → (b || false) ≡ b
    or-false true = refl
    or-false false = refl

-- it is then changed in each sample that is among those at the places
pub changed-among : (change : Bool → Kept → Kept) (ss : List SamplePosition) (cs : List Candidate) (old new : List Kept)
    → AreChanged change cs old new → AreAt ss cs old → new ≡ map (λ k. change (is_among ss k) k) old
changed-among change ss cs old new changed at_places =
    same_lists new (map (λ k. change (is_among ss k) k) old)
    (changed.same_len ∙ sym (length-map old (λ k. change (is_among ss k) k)))
    (λ at d within. let inside : at < length old = omega (arith, within, changed.same_len) in
    changed.each at d inside
    ∙ (ap (λ (b : Bool). change b (get_or old at d)) (sym (at_places at d inside))
    ∙ sym (get_or-map (λ k. change (is_among ss k) k) old at d d inside)))

-- a change of marks leaves the counts
pub small-changed : (change : Bool → Kept → Kept) (cs : List Candidate) (old new : List Kept)
    → ((b : Bool) (k : Kept) → IsSmall k → IsSmall (change b k)) → AreChanged change cs old new → All IsSmall old
    → All IsSmall new
small-changed change cs old new keeps changed small = λ at d within.
    let inside : at < length old = omega (arith, within, changed.same_len) in
    subst IsSmall (sym (changed.each at d inside)) (keeps (is_place cs at) (get_or old at d) (small at d inside))

-- an access that finds nothing leaves what is kept
pub settled-none : (kind : AccessKind) (ss : List SamplePosition) (ks : List Kept) → AreAt ss [] ks
    → settled kind ss ks ≡ ks
settled-none Read ss [] at_places = refl
settled-none Take ss [] at_places = refl
settled-none Read ss (k ∷ ks) at_places =
    ap (λ (b : Bool). read_if b k ∷ settled Read ss ks) (at_places 0 k (omega arith))
    ∙ ap (λ (xs : List Kept). k ∷ xs)
    (settled-none Read ss ks (λ at d within. at_places (suc at) d (omega (arith, within))))
settled-none Take ss (k ∷ ks) at_places =
    ap (λ (b : Bool). out_if b k ∷ settled Take ss ks) (at_places 0 k (omega arith))
    ∙ ap (λ (xs : List Kept). k ∷ xs)
    (settled-none Take ss ks (λ at d within. at_places (suc at) d (omega (arith, within))))
