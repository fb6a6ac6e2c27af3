-- What is found of the next instance is what the definitions pick.
use Rattle.std.proofs.Common.{◌≡◌, ℕ, ℤ, zero, suc, ◌+◌, ◌≤◌, ◌<◌, List, [], ◌∷◌, ◌++◌, length, take, drop, map, filter, Bool, true, false, ◌==◌, sym, ap, ◌∙◌, refl, subst, arith, ⊎_elim, inl, inr, Option, Some, None, is_some}
use Rattle.std.specs.Prelude.{min, nat_lt, slice_get, MatchOption}
use Rattle.std.specs.List.{All, flat_map}
use Rattle.std.proofs.lemmas.Bool.{eq-eqb, ltb-true, ltb-false}
use Rattle.std.proofs.lemmas.List.{append-nil, length-map, length-take, take_all, take_more}
use Rattle.std.proofs.lemmas.List.Concat.{flat_map-append, flat_map-cons}
use Rattle.std.proofs.lemmas.List.Elements.{All-nil, All-push, All-weaker, filter-append}
use Rattle.std.proofs.lemmas.Option.{get_or_from_slice_get, slice_get_cases, slice_get_within}
use Rattle.dds_base.specs.declared.key.Key.{Key}
use Rattle.dds_base.specs.declared.happening.SamplePosition.{SamplePosition}
use Rattle.dds_base.specs.declared.happening.Happening.{Happening}
use Rattle.dds_base.specs.declared.mask.Masks.{Masks}
use Rattle.dds_base.specs.declared.qos.ReaderQos.{ReaderQos}
use Rattle.dds_base.specs.declared.selection.Selection.{Selection}
use Rattle.dds_base.specs.declared.selection.Selection.TheVariants.{Any, Instance, NextInstance, NextSample}
use Rattle.dds_base.specs.Access.{at_most, handle_of, lives_begun, matching_samples, next_handle}
use Rattle.dds_base.specs.Instance.{known_instances}
use Rattle.dds_base.specs.Presence.{present_of}
use Rattle.dds_instances.specs.Table.{Table}
use Rattle.dds_instances.specs.declared.known.KnownInstance.{KnownInstance}
use Rattle.dds_instances.proofs.RiseLaws.{handles-rise, IsRising, rising-each}
use Rattle.dds_cache.specs.declared.access.Candidate.{Candidate}
use Rattle.dds_cache.specs.declared.kept.Kept.{Kept}
use Rattle.dds_cache.specs.Kept.{sample_at}
use Rattle.dds_cache.specs.Finding.{Holds, IsCandidate, asks_for, is_asked_for, sample_in}
use Rattle.dds_cache.specs.First.{AreFirstOf, AreOfForm, AsksForNext, IsBarren, IsFull, IsPassedBy, asked_in, of_form, of_handle}
use Rattle.dds_cache.proofs.FindingLaws.{filter-flat_map, wanted-of}
use Rattle.dds_cache.proofs.FirstLaws.{at_most-nil, filter-all, filter-no, flat-each, next-first, next-of, none-of, own-key, rising-after, split-at}
use Rattle.dds_cache.proofs.GroupLaws.{unequal}

-- ---- instances of which nothing matches

barren-low : (q : ReaderQos) (h : List Happening) (previous : ℕ) (limit : ℤ) (states masks : Masks)
    (test : Key → List ℕ → Bool) (is : List Key) → All (IsBarren q h (NextInstance previous limit states) masks test) is
    → All (λ (s : SamplePosition). nat_lt previous (handle_of q h s.key) ≡ false) (flat_map (asked_in q h masks test) is)
barren-low q h previous limit states masks test is barren =
    flat-each (λ (s : SamplePosition). nat_lt previous (handle_of q h s.key) ≡ false) (asked_in q h masks test) is
    (All-weaker (IsBarren q h (NextInstance previous limit states) masks test)
    (λ (x : Key). All (λ (s : SamplePosition). nat_lt previous (handle_of q h s.key) ≡ false) (asked_in q h masks test x))
    (λ x is_barren. ⊎_elim
    (λ below. All-weaker (λ (s : SamplePosition). s.key ≡ x)
    (λ (s : SamplePosition). nat_lt previous (handle_of q h s.key) ≡ false)
    (λ s key. ap (λ (y : Key). nat_lt previous (handle_of q h y)) key ∙ below) (asked_in q h masks test x)
    (own-key (is_asked_for q h masks test) x _))
    (λ none. subst (λ (ss : List SamplePosition). All (λ (s : SamplePosition). nat_lt previous (handle_of q h s.key)
    ≡ false) ss) (sym none) (All-nil (λ (s : SamplePosition). nat_lt previous (handle_of q h s.key) ≡ false)))
    is_barren) is barren)

-- the instances before a place that an access may begin at
pub barren-first : (q : ReaderQos) (h : List Happening) (selection : Selection) (masks : Masks)
    (test : Key → List ℕ → Bool) (is : List Key) → All (IsPassedBy q h selection) is
    → All (IsBarren q h selection masks test) is
barren-first q h selection masks test is passed =
    All-weaker (IsPassedBy q h selection) (IsBarren q h selection masks test) (λ i is_passed. inl is_passed) is passed

-- one more
pub barren-more : (P : Key → Type 0) (is : List Key) (place : ℕ) → MatchOption (slice_get is place) (Unit {0}) P
    → All P (take place is) → All P (take (place + 1) is)
barren-more P is place one all = by (slice_get is place) refl one
  where
    by : (o : Option Key) → slice_get is place ≡ o → MatchOption o (Unit {0}) P → All P (take (place + 1) is)
    by None there it =
        let over : length is ≤ place = ⊎_elim
        (λ within. absurd (let clash : true ≡ false = sym (ap is_some within.2) ∙ ap is_some there in cc))
        (λ past. past.0) (slice_get_cases is place).1 in
        subst (λ (xs : List Key). All P xs) (take_all place is over ∙ sym (take_all (place + 1) is (omega (arith, over)))) all
    by (Some i) there it =
        subst (λ (xs : List Key). All P xs)
        (sym (take_more is place i (slice_get_within is place i there)
        ∙ ap (λ (x : Key). take place is ++ x ∷ []) (get_or_from_slice_get is place i i there)))
        (All-push P (take place is) i all it)

-- what is so of the instance at a place
pub barren-there : (P : Key → Type 0) (is : List Key) (place : ℕ) (i : Key) → slice_get is place ≡ Some i → P i
    → MatchOption (slice_get is place) (Unit {0}) P
barren-there P is place i there it = subst (λ (o : Option Key). MatchOption o (Unit {0}) P) (sym there) it

-- an instance that is not asked for
pub barren-none : (q : ReaderQos) (h : List Happening) (selection : Selection) (masks : Masks)
    (test : Key → List ℕ → Bool) (place : ℕ)
    → MatchOption (slice_get (known_instances q h) place) (Unit {0}) (IsPassedBy q h selection)
    → MatchOption (slice_get (known_instances q h) place) (Unit {0}) (IsBarren q h selection masks test)
barren-none q h selection masks test place = by (slice_get (known_instances q h) place)
  where
    by : (o : Option Key) → MatchOption o (Unit {0}) (IsPassedBy q h selection)
        → MatchOption o (Unit {0}) (IsBarren q h selection masks test)
    by None it = it
    by (Some i) it = inl it

-- nothing was found of an instance of which nothing matches
pub barren-found : (q : ReaderQos) (table : Table) (h : List Happening) (selection : Selection) (masks : Masks)
    (test : Key → List ℕ → Bool) (max : Option ℕ) (ks : List Kept) (i : Key) (cs : List Candidate) → Holds q table ks h
    → (IsFull max 0 → ⊥) → AreFirstOf q h masks test i max ks ks cs → length cs ≡ 0 → IsBarren q h selection masks test i
barren-found q table h selection masks test max ks i cs holds few found none =
    inr (nothing max (asked_in q h masks test i) few
    (sym (length-map cs sample_in ∙ none)
    ∙ ap length (found.samples_are
    ∙ ap (λ (ss : List SamplePosition). at_most max ss)
    (wanted-of q h (is_asked_for q h masks test) i ks
    ∙ ap (λ (ps : List ℕ). filter (is_asked_for q h masks test) (map (sample_at i) ps)) (sym (holds.present i))))))
  where
    nothing : (m : Option ℕ) (ss : List SamplePosition) → (IsFull m 0 → ⊥) → 0 ≡ length (at_most m ss) → ss ≡ []
    nothing m [] few is = refl
    nothing None (s ∷ ss) few is = absurd (omega (arith, is))
    nothing (Some zero) (s ∷ ss) few is = absurd (few (omega arith))
    nothing (Some (suc n)) (s ∷ ss) few is = absurd (omega (arith, is))

-- where none is asked for, none is picked
pub none-asked : (q : ReaderQos) (h : List Happening) (selection : Selection) (masks : Masks)
    (test : Key → List ℕ → Bool) (max : Option ℕ) (ks : List Kept) → IsFull max 0
    → AreOfForm q h selection masks test max ks []
none-asked q h selection masks test None ks full = absurd full
none-asked q h selection masks test (Some zero) ks full = record { samples_are = refl; each = All-nil (IsCandidate q h ks) }
none-asked q h selection masks test (Some (suc n)) ks full = absurd (omega (arith, full))

-- ---- the next instance

-- the candidates of the first instance above one that has any are those that an access of the next instance picks
pub next-walked : (q : ReaderQos) (table : Table) (h : List Happening) (previous : ℕ) (limit : ℤ) (states masks : Masks)
    (test : Key → List ℕ → Bool) (max : Option ℕ) (ks : List Kept) (place : ℕ) (known : KnownInstance)
    (cs : List Candidate) → Holds q table ks h → slice_get (known_instances q h) place ≡ Some known.key
    → nat_lt previous (handle_of q h known.key) ≡ true
    → All (IsBarren q h (NextInstance previous limit states) masks test) (take place (known_instances q h))
    → AreFirstOf q h masks test known.key max ks ks cs → 0 < length cs
    → AreOfForm q h (NextInstance previous limit states) masks test max ks cs
next-walked q table h previous limit states masks test max ks place known cs holds there above barren found many = record {
  samples_are =
      mine
      ∙ ap (λ (ss : List SamplePosition). at_most max ss)
      (sym of-it ∙ ap (λ (n : ℕ). of_handle q h n (matching_samples q h masks test)) (sym next));
  each = found.each;
}
  where
    is : List Key
    is = known_instances q h

    X : Key → List SamplePosition
    X = asked_in q h masks test

    i : Key
    i = known.key

    before : List Key
    before = take place is

    after : List Key
    after = drop (place + 1) is

    own : (x : Key) → All (λ (s : SamplePosition). s.key ≡ x) (X x)
    own x = own-key (is_asked_for q h masks test) x _

    are : matching_samples q h masks test ≡ flat_map X before ++ (X i ++ flat_map X after)
    are =
        filter-flat_map (is_asked_for q h masks test) (present_of q h) is
        ∙ (ap (λ (xs : List Key). flat_map X xs) (split-at is place i there)
        ∙ (flat_map-append X before (i ∷ after)
        ∙ ap (λ (ss : List SamplePosition). flat_map X before ++ ss) (flat_map-cons X i after)))

    mine : map sample_in cs ≡ at_most max (X i)
    mine =
        found.samples_are
        ∙ ap (λ (ss : List SamplePosition). at_most max ss)
        (wanted-of q h (is_asked_for q h masks test) i ks
        ∙ ap (λ (ps : List ℕ). filter (is_asked_for q h masks test) (map (sample_at i) ps)) (sym (holds.present i)))

    some : (m : Option ℕ) (ss : List SamplePosition) → 0 < length (at_most m ss) → 0 < length ss
    some None ss more = more
    some (Some n) ss more =
        let few : length (take n ss) ≡ min n (length ss) = length-take n ss in omega (arith, few, more)

    low : All (λ (s : SamplePosition). nat_lt previous (handle_of q h s.key) ≡ false) (flat_map X before)
    low = barren-low q h previous limit states masks test before barren

    next : next_handle q h previous (matching_samples q h masks test) ≡ handle_of q h i
    next =
        ap (λ (ss : List SamplePosition). next_handle q h previous ss) are
        ∙ (next-of q h previous (flat_map X before) (X i ++ flat_map X after) low
        ∙ next-first q h previous i (X i) (flat_map X after) (own i) above
        (some max (X i) (subst (λ (n : ℕ). 0 < n) (sym (length-map cs sample_in) ∙ ap length mine) many)))

    later : All (λ (x : Key). (handle_of q h x == handle_of q h i) ≡ false) after
    later =
        rising-after (handle_of q h) 1 (1 + lives_begun q h) before i after
        (subst (λ (xs : List Key). IsRising (handle_of q h) 1 (1 + lives_begun q h) xs) (split-at is place i there)
        (handles-rise q h))

    of-it : of_handle q h (handle_of q h i) (matching_samples q h masks test) ≡ X i
    of-it =
        let p : SamplePosition → Bool = λ s. handle_of q h s.key == handle_of q h i in
        ap (λ (ss : List SamplePosition). filter p ss) are
        ∙ (filter-append p (flat_map X before) (X i ++ flat_map X after)
        ∙ (ap (λ (ss : List SamplePosition). ss ++ filter p (X i ++ flat_map X after))
        (filter-no p (flat_map X before)
        (All-weaker (λ (s : SamplePosition). nat_lt previous (handle_of q h s.key) ≡ false)
        (λ (s : SamplePosition). p s ≡ false)
        (λ s below. let under : handle_of q h s.key ≤ previous = ltb-false previous (handle_of q h s.key) below in
        let over : previous < handle_of q h i = ltb-true previous (handle_of q h i) above in
        unequal (handle_of q h s.key) (handle_of q h i) (λ same. omega (arith, under, over, same))) (flat_map X before)
        low))
        ∙ (filter-append p (X i) (flat_map X after)
        ∙ (ap (λ (ss : List SamplePosition). filter p (X i) ++ ss) (none-of q h X (handle_of q h i) after own later)
        ∙ (append-nil (filter p (X i))
        ∙ filter-all p (X i) (All-weaker (λ (s : SamplePosition). s.key ≡ i) (λ (s : SamplePosition). p s ≡ true)
        (λ s key. eq-eqb (handle_of q h s.key) (handle_of q h i) (ap (λ (x : Key). handle_of q h x) key)) (X i)
        (own i)))))))

-- where none above one has any, it picks nothing
pub no-next : (q : ReaderQos) (h : List Happening) (previous : ℕ) (limit : ℤ) (states masks : Masks)
    (test : Key → List ℕ → Bool) (max : Option ℕ) (ks : List Kept)
    → All (IsBarren q h (NextInstance previous limit states) masks test) (known_instances q h)
    → AreOfForm q h (NextInstance previous limit states) masks test max ks []
no-next q h previous limit states masks test max ks barren = record {
  samples_are = sym (at_most-nil max (of_form q h (NextInstance previous limit states) (matching_samples q h masks test))
      (ap (λ (n : ℕ). of_handle q h n (matching_samples q h masks test)) next
      ∙ (ap (λ (ss : List SamplePosition). of_handle q h 0 ss) matching
      ∙ none-of q h X 0 (known_instances q h) own
      (All-weaker (λ (x : Key). 1 ≤ handle_of q h x) (λ (x : Key). (handle_of q h x == 0) ≡ false)
      (λ x above. unequal (handle_of q h x) 0 (λ same. omega (arith, above, same))) (known_instances q h)
      (rising-each (handle_of q h) 1 (1 + lives_begun q h) (known_instances q h) (handles-rise q h))))));
  each = All-nil (IsCandidate q h ks);
}
  where
    X : Key → List SamplePosition
    X = asked_in q h masks test

    own : (x : Key) → All (λ (s : SamplePosition). s.key ≡ x) (X x)
    own x = own-key (is_asked_for q h masks test) x _

    matching : matching_samples q h masks test ≡ flat_map X (known_instances q h)
    matching = filter-flat_map (is_asked_for q h masks test) (present_of q h) (known_instances q h)

    next : next_handle q h previous (matching_samples q h masks test) ≡ 0
    next =
        ap (λ (ss : List SamplePosition). next_handle q h previous ss)
        (matching ∙ sym (append-nil (flat_map X (known_instances q h))))
        ∙ next-of q h previous (flat_map X (known_instances q h)) []
        (barren-low q h previous limit states masks test (known_instances q h) barren)

-- the same for each form that asks for the next instance
pub next-form : (q : ReaderQos) (table : Table) (h : List Happening) (selection : Selection) (masks : Masks)
    (test : Key → List ℕ → Bool) (max : Option ℕ) (ks : List Kept) (place : ℕ) (known : KnownInstance)
    (cs : List Candidate) → AsksForNext selection → Holds q table ks h
    → slice_get (known_instances q h) place ≡ Some known.key
    → asks_for selection (handle_of q h known.key) ≡ true
    → All (IsBarren q h selection masks test) (take place (known_instances q h))
    → AreFirstOf q h masks test known.key max ks ks cs → 0 < length cs
    → AreOfForm q h selection masks test max ks cs
next-form q table h (Any m s) masks test max ks place known cs next holds there its barren found many = absurd next
next-form q table h (Instance n m s) masks test max ks place known cs next holds there its barren found many = absurd next
next-form q table h NextSample masks test max ks place known cs next holds there its barren found many = absurd next
next-form q table h (NextInstance n m s) masks test max ks place known cs next holds there its barren found many =
    next-walked q table h n m s masks test max ks place known cs holds there its barren found many

pub no-next-form : (q : ReaderQos) (h : List Happening) (selection : Selection) (masks : Masks)
    (test : Key → List ℕ → Bool) (max : Option ℕ) (ks : List Kept) → AsksForNext selection
    → All (IsBarren q h selection masks test) (known_instances q h) → AreOfForm q h selection masks test max ks []
no-next-form q h (Any m s) masks test max ks next barren = absurd next
no-next-form q h (Instance n m s) masks test max ks next barren = absurd next
no-next-form q h NextSample masks test max ks next barren = absurd next
no-next-form q h (NextInstance n m s) masks test max ks next barren = no-next q h n m s masks test max ks barren
