-- What is found of the first instance that an access asks for is what the definitions pick.
use Rattle.std.proofs.Common.{◌≡◌, ℕ, zero, suc, ◌+◌, ◌≤◌, ◌<◌, List, [], ◌∷◌, ◌++◌, length, get_or, take, drop, map, filter, Bool, true, false, ◌==◌, ◌&&◌, sym, ap, ◌∙◌, refl, subst, cond, arith, ⊎_elim, ◌⊎◌, inl, inr, Option, Some, None, take-append-drop, ◌≢◌, ◌-◌}
use Rattle.std.specs.Prelude.{min, nat_lt, slice_get, if◌then◌else◌}
use Rattle.std.specs.List.{All, flat_map}
use Rattle.std.specs.List.Sorted.{IsNonDecreasingBy}
use Rattle.std.proofs.lemmas.Bool.{and_right, cases_Bool, eqb-true, eq-eqb, ltb-true, ltb-false}
use Rattle.std.proofs.lemmas.List.{append-nil, append_assoc, get_or_default, length-map, length-take, map-append, take_all, take_more, take-append-le, take-map}
use Rattle.std.proofs.lemmas.List.Concat.{flat_map-append, flat_map-cons}
use Rattle.std.proofs.lemmas.List.Elements.{All-append, All-cons, All-head, All-nil, All-push, All-tail, All-take, All-weaker, filter-append}
use Rattle.std.proofs.lemmas.Option.{get_or_from_slice_get, slice_get_within}
use Rattle.dds_base.specs.declared.key.Key.{Key}
use Rattle.dds_base.specs.declared.happening.SamplePosition.{SamplePosition}
use Rattle.dds_base.specs.declared.happening.Happening.{Happening}
use Rattle.dds_base.specs.declared.mask.Masks.{Masks}
use Rattle.dds_base.specs.declared.qos.ReaderQos.{ReaderQos}
use Rattle.dds_base.specs.declared.selection.Selection.{Selection}
use Rattle.dds_base.specs.declared.selection.Selection.TheVariants.{Any, Instance, NextInstance, NextSample}
use Rattle.dds_base.specs.declared.sample.SampleState.TheVariants.{Read as HasBeenRead, NotRead}
use Rattle.dds_base.specs.Access.{asks_for_sample_state, value_of, at_most, handle_of, lives_begun, matching_samples, next_handle}
use Rattle.dds_base.specs.Happening.{same_key}
use Rattle.dds_base.specs.Instance.{known_instances}
use Rattle.dds_base.specs.Presence.{is_present, present_of}
use Rattle.dds_base.proofs.KeyLaws.{key-same, same_key-refl}
use Rattle.dds_instances.specs.Table.{Table}
use Rattle.dds_instances.specs.declared.known.KnownInstance.{KnownInstance}
use Rattle.dds_instances.proofs.RiseLaws.{handles-rise, IsRising, rising-each}
use Rattle.dds_cache.specs.declared.access.Candidate.{Candidate}
use Rattle.dds_cache.specs.declared.kept.Kept.{Kept}
use Rattle.dds_cache.specs.Chains.{IsFirst, IsFirstUnread}
use Rattle.dds_cache.specs.Kept.{IsKept, sample_at}
use Rattle.dds_cache.specs.Finding.{Holds, IsCandidate, TellsFound, asks_for, asks_for_states, handle_in, is_asked_for, is_wanted, sample_in, sample_of}
use Rattle.dds_cache.specs.First.{AreFirstOf, AreOfForm, IsFirstAsked, IsFoundOf, IsFull, IsOf, IsPassedBy, Settles, TellsFoundOf, asked_in, of_form, of_handle, wanted_in}
use Rattle.dds_cache.proofs.FindingLaws.{filter-flat_map, filter-more, found-candidate, wanted-of}
use Rattle.dds_cache.proofs.GroupLaws.{unequal}

-- ---- one kept sample after another

one-more : (i : Key) (a b : Bool) (k : Kept) → same_key i k.sample.key ≡ a
    → filter (λ (s : SamplePosition). same_key i s.key) (map sample_of (cond b (k ∷ []) []))
    ≡ cond (a && b) (k.sample ∷ []) []
one-more i true true k is = ap (λ (x : Bool). cond x (k.sample ∷ []) []) is
one-more i false true k is = ap (λ (x : Bool). cond x (k.sample ∷ []) []) is
one-more i true false k is = refl
one-more i false false k is = refl

wanted-more : (q : ReaderQos) (h : List Happening) (masks : Masks) (test : Key → List ℕ → Bool) (i : Key)
    (ks : List Kept) (at : ℕ) (k : Kept) (b : Bool) → at < length ks → k ≡ get_or ks at k
    → (same_key i k.sample.key && is_wanted q h masks test k) ≡ b
    → wanted_in q h masks test i (take (at + 1) ks) ≡ wanted_in q h masks test i (take at ks) ++ cond b (k.sample ∷ []) []
wanted-more q h masks test i ks at k b within is wanted =
    let p : Kept → Bool = is_wanted q h masks test in
    let own : SamplePosition → Bool = λ s. same_key i s.key in
    ap (λ (xs : List Kept). filter own (map sample_of xs)) (filter-more p ks at k (p k) within is refl)
    ∙ (ap (λ (ss : List SamplePosition). filter own ss) (map-append sample_of (filter p (take at ks)) (cond (p k) (k ∷ []) []))
    ∙ (filter-append own (map sample_of (filter p (take at ks))) (map sample_of (cond (p k) (k ∷ []) []))
    ∙ ap (λ (ss : List SamplePosition). wanted_in q h masks test i (take at ks) ++ ss)
    (one-more i (same_key i k.sample.key) (p k) k refl ∙ ap (λ (x : Bool). cond x (k.sample ∷ []) []) wanted)))

pub first-none : (q : ReaderQos) (h : List Happening) (masks : Masks) (test : Key → List ℕ → Bool) (i : Key)
    (ks : List Kept) (at : ℕ) (k : Kept) (cs : List Candidate) → at < length ks → k ≡ get_or ks at k
    → (same_key i k.sample.key && is_wanted q h masks test k) ≡ false
    → AreFirstOf q h masks test i None ks (take at ks) cs → AreFirstOf q h masks test i None ks (take (at + 1) ks) cs
first-none q h masks test i ks at k cs within is unwanted so_far = record {
  samples_are =
      so_far.samples_are
      ∙ sym (wanted-more q h masks test i ks at k false within is unwanted
      ∙ append-nil (wanted_in q h masks test i (take at ks)));
  each = so_far.each;
}

pub first-some : (q : ReaderQos) (h : List Happening) (masks : Masks) (test : Key → List ℕ → Bool) (i : Key)
    (ks : List Kept) (at : ℕ) (k : Kept) (c : Candidate) (cs : List Candidate) → at < length ks → k ≡ get_or ks at k
    → IsKept q h k → IsFoundOf q h masks test i k at c → AreFirstOf q h masks test i None ks (take at ks) cs
    → AreFirstOf q h masks test i None ks (take (at + 1) ks) (cs ++ c ∷ [])
first-some q h masks test i ks at k c cs within is kept found so_far = record {
  samples_are =
      map-append sample_in cs (c ∷ [])
      ∙ (ap (λ (ss : List SamplePosition). ss ++ c.sample ∷ []) so_far.samples_are
      ∙ (ap (λ (s : SamplePosition). wanted_in q h masks test i (take at ks) ++ s ∷ []) found.1.sample_is
      ∙ sym (wanted-more q h masks test i ks at k true within is
      (ap (λ (b : Bool). b && is_wanted q h masks test k) found.0 ∙ found.1.wanted))));
  each =
      All-push (IsCandidate q h ks) cs c so_far.each (found-candidate q h masks test ks at k c within is kept found.1);
}

-- ---- past those that are not wanted

-- one of some kept samples
some-of : (ks : List Kept) (at : ℕ) → at < length ks → Kept
some-of [] at within = absurd (omega (arith, within))
some-of (k ∷ ks) at within = k

passes-one : (q : ReaderQos) (h : List Happening) (masks : Masks) (test : Key → List ℕ → Bool) (i : Key)
    (ks : List Kept) (at : ℕ) (cs : List Candidate)
    → ((d : Kept) → at < length ks
    → (same_key i (get_or ks at d).sample.key && is_wanted q h masks test (get_or ks at d)) ≡ false)
    → AreFirstOf q h masks test i None ks (take at ks) cs → AreFirstOf q h masks test i None ks (take (at + 1) ks) cs
passes-one q h masks test i ks at cs unwanted so_far =
    ⊎_elim
    (λ there. let within : at < length ks = ltb-true at (length ks) there in
    let d : Kept = some-of ks at within in
    first-none q h masks test i ks at (get_or ks at d) cs within (get_or_default ks at d (get_or ks at d) within)
    (unwanted d within) so_far)
    (λ behind. let over : length ks ≤ at = ltb-false at (length ks) behind in
    subst (λ (xs : List Kept). AreFirstOf q h masks test i None ks xs cs)
    (take_all at ks over ∙ sym (take_all (at + 1) ks (omega (arith, over)))) so_far)
    (cases_Bool (nat_lt at (length ks)))

passes-more : (q : ReaderQos) (h : List Happening) (masks : Masks) (test : Key → List ℕ → Bool) (i : Key)
    (ks : List Kept) (at n : ℕ) (cs : List Candidate)
    → ((j : ℕ) (d : Kept) → at ≤ j → j < at + n → j < length ks
    → (same_key i (get_or ks j d).sample.key && is_wanted q h masks test (get_or ks j d)) ≡ false)
    → AreFirstOf q h masks test i None ks (take at ks) cs → AreFirstOf q h masks test i None ks (take (at + n) ks) cs
passes-more q h masks test i ks at zero cs unwanted so_far =
    subst (λ (m : ℕ). AreFirstOf q h masks test i None ks (take m ks) cs) (omega arith) so_far
passes-more q h masks test i ks at (suc n) cs unwanted so_far =
    subst (λ (m : ℕ). AreFirstOf q h masks test i None ks (take m ks) cs) (omega arith)
    (passes-one q h masks test i ks (at + n) cs
    (λ d within. unwanted (at + n) d (omega arith) (omega arith) within)
    (passes-more q h masks test i ks at n cs
    (λ j d from below within. unwanted j d from (omega (arith, below)) within) so_far))

-- where none is wanted from one place to another, those found before the one are those found before the other
pub first-past : (q : ReaderQos) (h : List Happening) (masks : Masks) (test : Key → List ℕ → Bool) (i : Key)
    (ks : List Kept) (at next : ℕ) (cs : List Candidate) → at ≤ next
    → ((j : ℕ) (d : Kept) → at ≤ j → j < next → j < length ks
    → (same_key i (get_or ks j d).sample.key && is_wanted q h masks test (get_or ks j d)) ≡ false)
    → AreFirstOf q h masks test i None ks (take at ks) cs → AreFirstOf q h masks test i None ks (take next ks) cs
first-past q h masks test i ks at next cs from unwanted so_far =
    let there : at + (next - at) ≡ next = omega (arith, from) in
    subst (λ (m : ℕ). AreFirstOf q h masks test i None ks (take m ks) cs) there
    (passes-more q h masks test i ks at (next - at) cs
    (λ j d above below within. unwanted j d above (omega (arith, below, there)) within) so_far)

-- ---- so many at most

wanted-append : (q : ReaderQos) (h : List Happening) (masks : Masks) (test : Key → List ℕ → Bool) (i : Key)
    (xs ys : List Kept)
    → wanted_in q h masks test i (xs ++ ys) ≡ wanted_in q h masks test i xs ++ wanted_in q h masks test i ys
wanted-append q h masks test i xs ys =
    let p : Kept → Bool = is_wanted q h masks test in
    let own : SamplePosition → Bool = λ s. same_key i s.key in
    ap (λ (zs : List Kept). filter own (map sample_of zs)) (filter-append p xs ys)
    ∙ (ap (λ (ss : List SamplePosition). filter own ss) (map-append sample_of (filter p xs) (filter p ys))
    ∙ filter-append own (map sample_of (filter p xs)) (map sample_of (filter p ys)))

pub at_most-map : (max : Option ℕ) (cs : List Candidate) → map sample_in (at_most max cs) ≡ at_most max (map sample_in cs)
at_most-map None cs = refl
at_most-map (Some n) cs = sym (take-map sample_in n cs)

pub at_most-full : {X : Type 0} (max : Option ℕ) (xs ys : List X) → IsFull max (length xs)
    → at_most max xs ≡ at_most max (xs ++ ys)
at_most-full None xs ys full = absurd full
at_most-full (Some n) xs ys full = sym (take-append-le n xs ys full)

pub at_most-all : (P : Candidate → Type 0) (max : Option ℕ) (cs : List Candidate) → All P cs → All P (at_most max cs)
at_most-all P None cs all = all
at_most-all P (Some n) cs all = All-take P n cs all

-- where as many are found as are asked for among the first of the kept samples, or all are gone over, the first of those
-- that are found are the first of all
pub first-cut : (q : ReaderQos) (h : List Happening) (masks : Masks) (test : Key → List ℕ → Bool) (i : Key)
    (max : Option ℕ) (ks : List Kept) (at : ℕ) (cs new : List Candidate)
    → IsFull max (length cs) ⊎ (length ks ≤ at) → new ≡ at_most max cs
    → AreFirstOf q h masks test i None ks (take at ks) cs → AreFirstOf q h masks test i max ks ks new
first-cut q h masks test i max ks at cs new done cut found =
    let so_far : List SamplePosition = wanted_in q h masks test i (take at ks) in
    let rest : List SamplePosition = wanted_in q h masks test i (drop at ks) in
    let whole : so_far ++ rest ≡ wanted_in q h masks test i ks =
    sym (wanted-append q h masks test i (take at ks) (drop at ks))
    ∙ ap (λ (xs : List Kept). wanted_in q h masks test i xs) (take-append-drop at ks) in
    let count : length cs ≡ length so_far = sym (length-map cs sample_in) ∙ ap length found.samples_are in
    let same : at_most max so_far ≡ at_most max (wanted_in q h masks test i ks) =
    ⊎_elim
    (λ full. at_most-full max so_far rest (subst (λ (n : ℕ). IsFull max n) count full)
    ∙ ap (λ (ss : List SamplePosition). at_most max ss) whole)
    (λ all. ap (λ (xs : List Kept). at_most max (wanted_in q h masks test i xs)) (take_all at ks all))
    done in
    record {
      samples_are = ap (λ (xs : List Candidate). map sample_in xs) cut
          ∙ (at_most-map max cs ∙ (ap (λ (ss : List SamplePosition). at_most max ss) found.samples_are ∙ same));
      each =
          subst (λ (xs : List Candidate). All (IsCandidate q h ks) xs) (sym cut)
          (at_most-all (IsCandidate q h ks) max cs found.each);
    }

-- what is so of each is so of the first ones
pub cut-each : (P : Candidate → Type 0) (max : Option ℕ) (cs new : List Candidate) → new ≡ at_most max cs → All P cs
    → All P new
cut-each P max cs new cut all = subst (λ (xs : List Candidate). All P xs) (sym cut) (at_most-all P max cs all)

-- those of one instance stand by handle
pub of-one-sorted : (n : ℕ) (cs : List Candidate) → All (IsOf n) cs → IsNonDecreasingBy handle_in cs
of-one-sorted n cs all = λ i j d le within.
    let first : handle_in (get_or cs i d) ≡ n = all i d (omega (arith, le, within)) in
    let second : handle_in (get_or cs j d) ≡ n = all j d within in
    omega (arith, first, second)

-- ---- the samples of an instance

own-same : (i j : Key) → i ≡ j → same_key i j ≡ true
own-same i j is = ap (λ (x : Key). same_key i x) (sym is) ∙ same_key-refl i

-- one of another instance is none of the wanted ones of an instance
pub unwanted-other : (q : ReaderQos) (h : List Happening) (masks : Masks) (test : Key → List ℕ → Bool) (i : Key)
    (k : Kept) → k.sample.key ≢ i → (same_key i k.sample.key && is_wanted q h masks test k) ≡ false
unwanted-other q h masks test i k other =
    ap (λ (b : Bool). b && is_wanted q h masks test k)
    (⊎_elim (λ same. absurd (other (sym (key-same i k.sample.key same)))) (λ apart. apart)
    (cases_Bool (same_key i k.sample.key)))

-- one that is gone is none of the wanted ones
unwanted-out : (q : ReaderQos) (h : List Happening) (masks : Masks) (test : Key → List ℕ → Bool) (i : Key) (k : Kept)
    → IsKept q h k → k.is_out ≡ true → (same_key i k.sample.key && is_wanted q h masks test k) ≡ false
unwanted-out q h masks test i k kept out =
    ap (λ (b : Bool). same_key i k.sample.key && (b && is_asked_for q h masks test k.sample)) (kept.out_is out)
    ∙ and_right (same_key i k.sample.key) false refl

-- one of another instance, or before the first of its instance that is not gone, is none of the wanted ones of an instance
pub unwanted-first : (q : ReaderQos) (h : List Happening) (masks : Masks) (test : Key → List ℕ → Bool) (i : Key)
    (ks : List Kept) (first j : ℕ) (d : Kept) → All (IsKept q h) ks → IsFirst ks i first → j < first → j < length ks
    → (same_key i (get_or ks j d).sample.key && is_wanted q h masks test (get_or ks j d)) ≡ false
unwanted-first q h masks test i ks first j d all begins below within =
    let k : Kept = get_or ks j d in
    ⊎_elim
    (λ same. ⊎_elim
    (λ out. unwanted-out q h masks test i k (all j d within) out)
    (λ stays. let le : first ≤ j = begins j d within (sym (key-same i k.sample.key same)) stays in
    absurd (omega (arith, le, below)))
    (cases_Bool k.is_out))
    (λ apart. ap (λ (b : Bool). b && is_wanted q h masks test k) apart)
    (cases_Bool (same_key i k.sample.key))

-- one before those that were not read is none of the wanted ones, where no read one is asked for
pub unwanted-unread : (q : ReaderQos) (h : List Happening) (masks : Masks) (test : Key → List ℕ → Bool) (i : Key)
    (ks : List Kept) (first j : ℕ) (d : Kept) → All (IsKept q h) ks
    → asks_for_sample_state masks.samples HasBeenRead ≡ false → IsFirstUnread ks i first → j < first → j < length ks
    → (same_key i (get_or ks j d).sample.key && is_wanted q h masks test (get_or ks j d)) ≡ false
unwanted-unread q h masks test i ks first j d all unasked begins below within =
    let k : Kept = get_or ks j d in
    ⊎_elim
    (λ same. ⊎_elim
    (λ out. unwanted-out q h masks test i k (all j d within) out)
    (λ stays. ⊎_elim
    (λ read. passed k (all j d within) read)
    (λ unread. let le : first ≤ j = begins j d within (sym (key-same i k.sample.key same)) stays unread in
    absurd (omega (arith, le, below)))
    (cases_Bool k.is_read))
    (cases_Bool k.is_out))
    (λ apart. ap (λ (b : Bool). b && is_wanted q h masks test k) apart)
    (cases_Bool (same_key i k.sample.key))
  where
    passed : (k : Kept) → IsKept q h k → k.is_read ≡ true → (same_key i k.sample.key && is_wanted q h masks test k) ≡ false
    passed k kept read =
        ap (λ (b : Bool). same_key i k.sample.key && (is_present q h k.sample.key k.sample.position
        && ((b && asks_for_states q h masks k.sample.key) && test k.sample.key (value_of q h k.sample))))
        (ap (λ (b : Bool). asks_for_sample_state masks.samples (if b then HasBeenRead else NotRead))
        (sym kept.read_is ∙ read) ∙ unasked)
        ∙ (ap (λ (b : Bool). same_key i k.sample.key && b)
        (and_right (is_present q h k.sample.key k.sample.position) false refl)
        ∙ and_right (same_key i k.sample.key) false refl)

-- one of its key is found as any is
pub found-of : (q : ReaderQos) (h : List Happening) (masks : Masks) (test : Key → List ℕ → Bool) (i : Key) (k : Kept)
    (at : ℕ) (found : Option Candidate) → i ≡ k.sample.key → TellsFound q h masks test k at found
    → TellsFoundOf q h masks test i k at found
found-of q h masks test i k at None key unwanted =
    ap (λ (b : Bool). b && is_wanted q h masks test k) (own-same i k.sample.key key) ∙ unwanted
found-of q h masks test i k at (Some c) key found = (own-same i k.sample.key key, found)

-- ---- the samples of one instance after those of another

-- they are of instance i
pub own-key : (p : SamplePosition → Bool) (i : Key) (ps : List ℕ)
    → All (λ (s : SamplePosition). s.key ≡ i) (filter p (map (sample_at i) ps))
own-key p i [] = All-nil (λ (s : SamplePosition). s.key ≡ i)
own-key p i (n ∷ ps) = one (p (sample_at i n)) (own-key p i ps)
  where
    one : (b : Bool) → All (λ (s : SamplePosition). s.key ≡ i) (filter p (map (sample_at i) ps))
        → All (λ (s : SamplePosition). s.key ≡ i)
        (cond b (sample_at i n ∷ filter p (map (sample_at i) ps)) (filter p (map (sample_at i) ps)))
    one true rest = All-cons (λ (s : SamplePosition). s.key ≡ i) (sample_at i n) (filter p (map (sample_at i) ps)) refl rest
    one false rest = rest

pub filter-all : (p : SamplePosition → Bool) (ss : List SamplePosition) → All (λ (s : SamplePosition). p s ≡ true) ss
    → filter p ss ≡ ss
filter-all p [] all = refl
filter-all p (s ∷ ss) all =
    ap (λ (b : Bool). cond b (s ∷ filter p ss) (filter p ss)) (All-head (λ (x : SamplePosition). p x ≡ true) s ss all)
    ∙ ap (λ (xs : List SamplePosition). s ∷ xs) (filter-all p ss (All-tail (λ (x : SamplePosition). p x ≡ true) s ss all))

pub filter-no : (p : SamplePosition → Bool) (ss : List SamplePosition) → All (λ (s : SamplePosition). p s ≡ false) ss
    → filter p ss ≡ []
filter-no p [] all = refl
filter-no p (s ∷ ss) all =
    ap (λ (b : Bool). cond b (s ∷ filter p ss) (filter p ss)) (All-head (λ (x : SamplePosition). p x ≡ false) s ss all)
    ∙ filter-no p ss (All-tail (λ (x : SamplePosition). p x ≡ false) s ss all)

-- what is so of each sample of each instance is so of all of them
pub flat-each : (P : SamplePosition → Type 0) (X : Key → List SamplePosition) (ks : List Key)
    → All (λ (i : Key). All P (X i)) ks → All P (flat_map X ks)
flat-each P X [] all = All-nil P
flat-each P X (k ∷ ks) all =
    subst (λ (ss : List SamplePosition). All P ss) (sym (flat_map-cons X k ks))
    (All-append P (X k) (flat_map X ks) (All-head (λ (i : Key). All P (X i)) k ks all)
    (flat-each P X ks (All-tail (λ (i : Key). All P (X i)) k ks all)))

-- where no instance has the handle, none of the samples is of it
pub none-of : (q : ReaderQos) (h : List Happening) (X : Key → List SamplePosition) (n : ℕ) (ks : List Key)
    → ((i : Key) → All (λ (s : SamplePosition). s.key ≡ i) (X i))
    → All (λ (i : Key). (handle_of q h i == n) ≡ false) ks → of_handle q h n (flat_map X ks) ≡ []
none-of q h X n ks own other =
    filter-no (λ s. handle_of q h s.key == n) (flat_map X ks)
    (flat-each (λ (s : SamplePosition). (handle_of q h s.key == n) ≡ false) X ks
    (All-weaker (λ (i : Key). (handle_of q h i == n) ≡ false)
    (λ (i : Key). All (λ (s : SamplePosition). (handle_of q h s.key == n) ≡ false) (X i))
    (λ i is. All-weaker (λ (s : SamplePosition). s.key ≡ i)
    (λ (s : SamplePosition). (handle_of q h s.key == n) ≡ false)
    (λ s key. ap (λ (x : Key). handle_of q h x == n) key ∙ is) (X i) (own i)) ks other))

-- where one instance alone has the handle, its samples are those of the handle
one-of : (q : ReaderQos) (h : List Happening) (X : Key → List SamplePosition) (i : Key) (before after : List Key)
    → ((x : Key) → All (λ (s : SamplePosition). s.key ≡ x) (X x))
    → All (λ (x : Key). (handle_of q h x == handle_of q h i) ≡ false) before
    → All (λ (x : Key). (handle_of q h x == handle_of q h i) ≡ false) after
    → of_handle q h (handle_of q h i) (flat_map X (before ++ i ∷ after)) ≡ X i
one-of q h X i before after own earlier later =
    let p : SamplePosition → Bool = λ s. handle_of q h s.key == handle_of q h i in
    ap (λ (ss : List SamplePosition). filter p ss)
    (flat_map-append X before (i ∷ after)
    ∙ ap (λ (ss : List SamplePosition). flat_map X before ++ ss) (flat_map-cons X i after))
    ∙ (filter-append p (flat_map X before) (X i ++ flat_map X after)
    ∙ (ap (λ (ss : List SamplePosition). ss ++ filter p (X i ++ flat_map X after))
    (none-of q h X (handle_of q h i) before own earlier)
    ∙ (filter-append p (X i) (flat_map X after)
    ∙ (ap (λ (ss : List SamplePosition). filter p (X i) ++ ss) (none-of q h X (handle_of q h i) after own later)
    ∙ (append-nil (filter p (X i))
    ∙ filter-all p (X i) (All-weaker (λ (s : SamplePosition). s.key ≡ i) (λ (s : SamplePosition). p s ≡ true)
    (λ s key. eq-eqb (handle_of q h s.key) (handle_of q h i) (ap (λ (x : Key). handle_of q h x) key)) (X i)
    (own i)))))))

-- the next handle is that of the first sample of an instance above
pub next-of : (q : ReaderQos) (h : List Happening) (n : ℕ) (xs ys : List SamplePosition)
    → All (λ (s : SamplePosition). nat_lt n (handle_of q h s.key) ≡ false) xs
    → next_handle q h n (xs ++ ys) ≡ next_handle q h n ys
next-of q h n [] ys below = refl
next-of q h n (s ∷ xs) ys below =
    ap (λ (b : Bool). if b then handle_of q h s.key else next_handle q h n (xs ++ ys))
    (All-head (λ (x : SamplePosition). nat_lt n (handle_of q h x.key) ≡ false) s xs below)
    ∙ next-of q h n xs ys (All-tail (λ (x : SamplePosition). nat_lt n (handle_of q h x.key) ≡ false) s xs below)

pub next-first : (q : ReaderQos) (h : List Happening) (n : ℕ) (i : Key) (xs ys : List SamplePosition)
    → All (λ (s : SamplePosition). s.key ≡ i) xs → nat_lt n (handle_of q h i) ≡ true → 0 < length xs
    → next_handle q h n (xs ++ ys) ≡ handle_of q h i
next-first q h n i [] ys own above some = absurd (omega (arith, some))
next-first q h n i (s ∷ xs) ys own above some =
    let key : s.key ≡ i = All-head (λ (x : SamplePosition). x.key ≡ i) s xs own in
    ap (λ (x : Key). if nat_lt n (handle_of q h x) then handle_of q h x else next_handle q h n (xs ++ ys)) key
    ∙ ap (λ (b : Bool). if b then handle_of q h i else next_handle q h n (xs ++ ys)) above

below-each : (q : ReaderQos) (h : List Happening) (X : Key → List SamplePosition) (n : ℕ) (ks : List Key)
    → ((x : Key) → All (λ (s : SamplePosition). s.key ≡ x) (X x))
    → All (λ (x : Key). nat_lt n (handle_of q h x) ≡ false) ks
    → All (λ (s : SamplePosition). nat_lt n (handle_of q h s.key) ≡ false) (flat_map X ks)
below-each q h X n ks own below =
    flat-each (λ (s : SamplePosition). nat_lt n (handle_of q h s.key) ≡ false) X ks
    (All-weaker (λ (x : Key). nat_lt n (handle_of q h x) ≡ false)
    (λ (x : Key). All (λ (s : SamplePosition). nat_lt n (handle_of q h s.key) ≡ false) (X x))
    (λ x is. All-weaker (λ (s : SamplePosition). s.key ≡ x)
    (λ (s : SamplePosition). nat_lt n (handle_of q h s.key) ≡ false)
    (λ s key. ap (λ (y : Key). nat_lt n (handle_of q h y)) key ∙ is) (X x) (own x)) ks below)

-- ---- the instances after one have greater handles

pub rising-after : (f : Key → ℕ) (a b : ℕ) (xs : List Key) (i : Key) (ys : List Key) → IsRising f a b (xs ++ i ∷ ys)
    → All (λ (k : Key). (f k == f i) ≡ false) ys
rising-after f a b [] i ys rising =
    All-weaker (λ (k : Key). f i + 1 ≤ f k) (λ (k : Key). (f k == f i) ≡ false)
    (λ k above. unequal (f k) (f i) (λ same. omega (arith, above, same))) ys
    (rising-each f (f i + 1) b ys rising.2)
rising-after f a b (x ∷ xs) i ys rising = rising-after f (f x + 1) b xs i ys rising.2

-- ---- what an access picks

nobody : (ks : List Key) → All (λ (i : Key). true ≡ false) ks → ks ≡ []
nobody [] all = refl
nobody (k ∷ ks) all = absurd (let clash : true ≡ false = All-head (λ (i : Key). true ≡ false) k ks all in cc)

pub at_most-nil : (max : Option ℕ) (ss : List SamplePosition) → ss ≡ [] → at_most max ss ≡ []
at_most-nil None ss none = none
at_most-nil (Some zero) ss none = ap (λ (xs : List SamplePosition). take 0 xs) none
at_most-nil (Some (suc n)) ss none = ap (λ (xs : List SamplePosition). take (suc n) xs) none

-- the known instances are those before a place, the one there, and those after it
pub split-at : (ks : List Key) (place : ℕ) (i : Key) → slice_get ks place ≡ Some i
    → ks ≡ take place ks ++ i ∷ drop (place + 1) ks
split-at ks place i there =
    sym (take-append-drop (place + 1) ks)
    ∙ (ap (λ (xs : List Key). xs ++ drop (place + 1) ks)
    (take_more ks place i (slice_get_within ks place i there)
    ∙ ap (λ (x : Key). take place ks ++ x ∷ []) (get_or_from_slice_get ks place i i there))
    ∙ append_assoc (take place ks) (i ∷ []) (drop (place + 1) ks))

-- where each instance is asked for, what was found of the first one is what is picked, where it is all or as many as are
-- asked for
first-any : (X : Key → List SamplePosition) (i : Key) (ks after : List Key) (max : Option ℕ)
    (found : List SamplePosition) → ks ≡ i ∷ after → found ≡ at_most max (X i)
    → (length ks ≡ 1) ⊎ IsFull max (length found) → found ≡ at_most max (flat_map X ks)
first-any X i ks after max found are is settles =
    let whole : flat_map X ks ≡ X i ++ flat_map X after =
    ap (λ (xs : List Key). flat_map X xs) are ∙ flat_map-cons X i after in
    ⊎_elim
    (λ one. let none : after ≡ [] = no-more after (omega (arith, ap length are, one)) in
    is
    ∙ ap (λ (ss : List SamplePosition). at_most max ss)
    (sym (whole ∙ (ap (λ (xs : List Key). X i ++ flat_map X xs) none ∙ append-nil (X i)))))
    (λ full. is ∙ (at_most-full max (X i) (flat_map X after)
    (enough max (X i) (subst (λ (ss : List SamplePosition). IsFull max (length ss)) is full))
    ∙ ap (λ (ss : List SamplePosition). at_most max ss) (sym whole)))
    settles
  where
    no-more : (xs : List Key) → length xs ≡ 0 → xs ≡ []
    no-more [] e = refl
    no-more (x ∷ xs) e = absurd (omega (arith, e))

    enough : (max : Option ℕ) (ss : List SamplePosition) → IsFull max (length (at_most max ss))
        → IsFull max (length ss)
    enough None ss full = full
    enough (Some n) ss full = let few : length (take n ss) ≡ min n (length ss) = length-take n ss in omega (arith, few, full)

-- what was found of the first instance that an access asks for is what it picks, where that settles it
pub first-picked : (q : ReaderQos) (table : Table) (h : List Happening) (selection : Selection) (masks : Masks)
    (test : Key → List ℕ → Bool) (max : Option ℕ) (ks : List Kept) (known : KnownInstance) (cs : List Candidate)
    → Holds q table ks h → IsFirstAsked q h selection known
    → AreFirstOf q h masks test known.key max ks ks cs
    → Settles selection max (length (known_instances q h)) (length cs)
    → AreOfForm q h selection masks test max ks cs
first-picked q table h selection masks test max ks known cs holds first found settles = record {
  samples_are = by selection first.before first.asked settles;
  each = found.each;
}
  where
    is : List Key
    is = known_instances q h

    X : Key → List SamplePosition
    X = asked_in q h masks test

    i : Key
    i = known.key

    before : List Key
    before = take first.place is

    after : List Key
    after = drop (first.place + 1) is

    are : is ≡ before ++ i ∷ after
    are = split-at is first.place i first.there

    own : (x : Key) → All (λ (s : SamplePosition). s.key ≡ x) (X x)
    own x = own-key (is_asked_for q h masks test) x _

    matching : matching_samples q h masks test ≡ flat_map X is
    matching = filter-flat_map (is_asked_for q h masks test) (present_of q h) is

    mine : map sample_in cs ≡ at_most max (X i)
    mine =
        found.samples_are
        ∙ ap (λ (ss : List SamplePosition). at_most max ss)
        (wanted-of q h (is_asked_for q h masks test) i ks
        ∙ ap (λ (ps : List ℕ). filter (is_asked_for q h masks test) (map (sample_at i) ps)) (sym (holds.present i)))

    counted : length (map sample_in cs) ≡ length cs
    counted = length-map cs sample_in

    each-asked : All (λ (x : Key). true ≡ false) before → (length is ≡ 1) ⊎ IsFull max (length cs)
        → map sample_in cs ≡ at_most max (matching_samples q h masks test)
    each-asked nobody-before settled =
        first-any X i is after max (map sample_in cs)
        (are ∙ ap (λ (xs : List Key). xs ++ i ∷ after) (nobody before nobody-before)) mine
        (⊎_elim (λ one. inl one) (λ full. inr (subst (λ (n : ℕ). IsFull max n) (sym counted) full)) settled)
        ∙ ap (λ (ss : List SamplePosition). at_most max ss) (sym matching)

    later : All (λ (x : Key). (handle_of q h x == handle_of q h i) ≡ false) after
    later =
        rising-after (handle_of q h) 1 (1 + lives_begun q h) before i after
        (subst (λ (xs : List Key). IsRising (handle_of q h) 1 (1 + lives_begun q h) xs) are (handles-rise q h))

    of-it : All (λ (x : Key). (handle_of q h x == handle_of q h i) ≡ false) before
        → of_handle q h (handle_of q h i) (matching_samples q h masks test) ≡ X i
    of-it earlier =
        ap (λ (ss : List SamplePosition). of_handle q h (handle_of q h i) ss)
        (matching ∙ ap (λ (xs : List Key). flat_map X xs) are)
        ∙ one-of q h X i before after own earlier later

    by : (selection : Selection) → All (IsPassedBy q h selection) before
        → asks_for selection (handle_of q h i) ≡ true
        → Settles selection max (length is) (length cs)
        → map sample_in cs ≡ at_most max (of_form q h selection (matching_samples q h masks test))
    by (Any limit asked) passed its settled = each-asked passed settled
    by NextSample passed its settled = each-asked passed settled
    by (Instance handle limit asked) passed its settled =
        let number : handle_of q h i ≡ handle = eqb-true (handle_of q h i) handle its in
        mine
        ∙ ap (λ (ss : List SamplePosition). at_most max ss)
        (sym (of-it (subst (λ (n : ℕ). All (λ (x : Key). (handle_of q h x == n) ≡ false) before) (sym number) passed))
        ∙ ap (λ (n : ℕ). of_handle q h n (matching_samples q h masks test)) number)
    by (NextInstance previous limit asked) passed its settled = absurd settled

-- where an access asks for no known instance, it picks nothing
pub none-picked : (q : ReaderQos) (h : List Happening) (selection : Selection) (masks : Masks)
    (test : Key → List ℕ → Bool) (max : Option ℕ) (ks : List Kept)
    → All (IsPassedBy q h selection) (known_instances q h) → AreOfForm q h selection masks test max ks []
none-picked q h selection masks test max ks passed = record {
  samples_are =
      sym (at_most-nil max (of_form q h selection (matching_samples q h masks test)) (by selection passed));
  each = All-nil (IsCandidate q h ks);
}
  where
    X : Key → List SamplePosition
    X = asked_in q h masks test

    matching : matching_samples q h masks test ≡ flat_map X (known_instances q h)
    matching = filter-flat_map (is_asked_for q h masks test) (present_of q h) (known_instances q h)

    own : (x : Key) → All (λ (s : SamplePosition). s.key ≡ x) (X x)
    own x = own-key (is_asked_for q h masks test) x _

    nothing : All (λ (x : Key). true ≡ false) (known_instances q h) → matching_samples q h masks test ≡ []
    nothing nobody-known = matching ∙ ap (λ (xs : List Key). flat_map X xs) (nobody (known_instances q h) nobody-known)

    by : (selection : Selection) → All (IsPassedBy q h selection) (known_instances q h)
        → of_form q h selection (matching_samples q h masks test) ≡ []
    by (Any limit asked) all = nothing all
    by NextSample all = nothing all
    by (Instance handle limit asked) all =
        ap (λ (ss : List SamplePosition). of_handle q h handle ss) matching
        ∙ none-of q h X handle (known_instances q h) own all
    by (NextInstance previous limit asked) all =
        let next : next_handle q h previous (matching_samples q h masks test) ≡ 0 =
        ap (λ (ss : List SamplePosition). next_handle q h previous ss)
        (matching ∙ sym (append-nil (flat_map X (known_instances q h))))
        ∙ next-of q h previous (flat_map X (known_instances q h)) []
        (below-each q h X previous (known_instances q h) own all) in
        ap (λ (n : ℕ). of_handle q h n (matching_samples q h masks test)) next
        ∙ (ap (λ (ss : List SamplePosition). of_handle q h 0 ss) matching
        ∙ none-of q h X 0 (known_instances q h) own
        (All-weaker (λ (x : Key). 1 ≤ handle_of q h x) (λ (x : Key). (handle_of q h x == 0) ≡ false)
        (λ x above. unequal (handle_of q h x) 0 (λ same. omega (arith, above, same))) (known_instances q h)
        (rising-each (handle_of q h) 1 (1 + lives_begun q h) (known_instances q h) (handles-rise q h))))
