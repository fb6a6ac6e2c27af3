-- What is found instance by instance is what the definitions pick of all.
use Rattle.std.proofs.Common.{◌≡◌, ℕ, zero, suc, ◌+◌, ◌≤◌, ◌<◌, List, [], ◌∷◌, ◌++◌, length, get_or, take, drop, map, filter, Bool, sym, ap, ◌∙◌, refl, subst, arith, ⊎_elim, ◌⊎◌, ◌-◌, Option, Some, None, take-append-drop}
use Rattle.std.specs.Prelude.{slice_get, nat_lt}
use Rattle.std.specs.List.{All, flat_map}
use Rattle.std.specs.List.Sorted.{IsNonDecreasingBy}
use Rattle.std.proofs.lemmas.Bool.{cases_Bool, ltb-true, ltb-false}
use Rattle.std.proofs.lemmas.List.{append-nil, append_assoc, get_or_append_left, get_or-append_right, length-append, length-map, map-append, take_all, take_more}
use Rattle.std.proofs.lemmas.List.Sorted.{IsNonDecreasingBy-take}
use Rattle.std.proofs.lemmas.List.Concat.{flat_map-append, flat_map-cons}
use Rattle.std.proofs.lemmas.List.Elements.{All-append}
use Rattle.std.proofs.lemmas.Option.{get_or_from_slice_get, slice_get_within}
use Rattle.dds_base.specs.declared.key.Key.{Key}
use Rattle.dds_base.specs.declared.happening.SamplePosition.{SamplePosition}
use Rattle.dds_base.specs.declared.happening.Happening.{Happening}
use Rattle.dds_base.specs.declared.mask.Masks.{Masks}
use Rattle.dds_base.specs.declared.qos.ReaderQos.{ReaderQos}
use Rattle.dds_base.specs.declared.selection.Selection.{Selection}
use Rattle.dds_base.specs.declared.selection.Selection.TheVariants.{Any, Instance, NextInstance, NextSample}
use Rattle.dds_base.specs.Access.{at_most, matching_samples}
use Rattle.dds_base.specs.Instance.{known_instances}
use Rattle.dds_base.specs.Presence.{present_of}
use Rattle.dds_instances.specs.Table.{Table}
use Rattle.dds_cache.specs.declared.access.Candidate.{Candidate}
use Rattle.dds_cache.specs.declared.kept.Kept.{Kept}
use Rattle.dds_cache.specs.Kept.{sample_at}
use Rattle.dds_cache.specs.Finding.{Holds, IsCandidate, handle_in, is_asked_for, sample_in}
use Rattle.dds_cache.specs.First.{AreFirstMatching, AreFirstOf, AreFirstUpTo, AreOfForm, AsksForAll, IsFull, IsOf, asked_in}
use Rattle.dds_cache.proofs.FindingLaws.{filter-flat_map, wanted-of}
use Rattle.dds_cache.proofs.FirstLaws.{at_most-all, at_most-full, at_most-map}

-- the first ones of some items and of what follows are those of the first of the items and of what follows
first-of-first : {X : Type 0} (m n : ℕ) (xs rest : List X) → m ≤ n → take m (take n xs ++ rest) ≡ take m (xs ++ rest)
first-of-first zero n xs rest le = refl
first-of-first (suc m) zero xs rest le = absurd (omega (arith, le))
first-of-first (suc m) (suc n) [] rest le = refl
first-of-first (suc m) (suc n) (x ∷ xs) rest le =
    ap (λ ys. x ∷ ys) (first-of-first m n xs rest (omega (arith, le)))

first-behind : {X : Type 0} (m n : ℕ) (before xs rest : List X) → m ≤ n
    → take m (before ++ (take n xs ++ rest)) ≡ take m (before ++ (xs ++ rest))
first-behind m n [] xs rest le = first-of-first m n xs rest le
first-behind zero n (b ∷ before) xs rest le = refl
first-behind (suc m) n (b ∷ before) xs rest le =
    ap (λ ys. b ∷ ys) (first-behind m n before xs rest (omega (arith, le)))

at_most-behind : {X : Type 0} (max : Option ℕ) (before xs rest : List X)
    → at_most max (before ++ (at_most max xs ++ rest)) ≡ at_most max (before ++ (xs ++ rest))
at_most-behind None before xs rest = refl
at_most-behind (Some n) before xs rest = first-behind n n before xs rest (omega arith)

module _ (q : ReaderQos) (h : List Happening) (masks : Masks) (test : Key → List ℕ → Bool) (max : Option ℕ)
    (ks : List Kept) where
  abbrev known_is : List Key
  known_is = known_instances q h

  abbrev asked : Key → List SamplePosition
  asked = asked_in q h masks test

  -- nothing was found of no instances
  pub none-walked : AreFirstUpTo q h masks test max ks 0 []
  none-walked = record { samples_are = λ rest. refl; each = λ n d within. absurd (omega (arith, within)) }

  -- those of one instance more
  pub one-walked : (table : Table) (place : ℕ) (i : Key) (cs more : List Candidate) → Holds q table ks h
      → slice_get known_is place ≡ Some i → AreFirstOf q h masks test i max ks ks more
      → AreFirstUpTo q h masks test max ks place cs → AreFirstUpTo q h masks test max ks (place + 1) (cs ++ more)
  one-walked table place i cs more holds there found so_far = record {
    samples_are = λ rest.
        let own : map sample_in more ≡ at_most max (asked i) = found.samples_are
        ∙ ap (λ (ss : List SamplePosition). at_most max ss)
        (wanted-of q h (is_asked_for q h masks test) i ks
        ∙ ap (λ (ps : List ℕ). filter (is_asked_for q h masks test) (map (sample_at i) ps)) (sym (holds.present i))) in
        let longer : flat_map asked (take (place + 1) known_is) ≡ flat_map asked (take place known_is) ++ asked i =
        ap (λ (xs : List Key). flat_map asked xs)
        (take_more known_is place i (slice_get_within known_is place i there)
        ∙ ap (λ (x : Key). take place known_is ++ x ∷ []) (get_or_from_slice_get known_is place i i there))
        ∙ (flat_map-append asked (take place known_is) (i ∷ [])
        ∙ ap (λ (ss : List SamplePosition). flat_map asked (take place known_is) ++ ss)
        (flat_map-cons asked i [] ∙ append-nil (asked i))) in
        ap (λ (ss : List SamplePosition). at_most max (ss ++ rest)) (map-append sample_in cs more)
        ∙ (ap (λ (ss : List SamplePosition). at_most max ss) (append_assoc (map sample_in cs) (map sample_in more) rest)
        ∙ (so_far.samples_are (map sample_in more ++ rest)
        ∙ (ap (λ (ss : List SamplePosition). at_most max (flat_map asked (take place known_is) ++ (ss ++ rest))) own
        ∙ (at_most-behind max (flat_map asked (take place known_is)) (asked i) rest
        ∙ (ap (λ (ss : List SamplePosition). at_most max ss)
        (sym (append_assoc (flat_map asked (take place known_is)) (asked i) rest))
        ∙ ap (λ (ss : List SamplePosition). at_most max (ss ++ rest)) (sym longer))))));
    each = All-append (IsCandidate q h ks) cs more so_far.each found.each;
  }

  -- once as many were found as are asked for, or all instances are gone over, these are all
  pub all-walked : (place : ℕ) (cs new : List Candidate) → IsFull max (length cs) ⊎ (length known_is ≤ place)
      → new ≡ at_most max cs → AreFirstUpTo q h masks test max ks place cs → AreFirstMatching q h masks test max ks new
  all-walked place cs new done cut found =
      let matching : flat_map asked known_is ≡ matching_samples q h masks test =
      sym (filter-flat_map (is_asked_for q h masks test) (present_of q h) known_is) in
      let rest : List SamplePosition = flat_map asked (drop place known_is) in
      let whole : flat_map asked (take place known_is) ++ rest ≡ flat_map asked known_is =
      sym (flat_map-append asked (take place known_is) (drop place known_is))
      ∙ ap (λ (xs : List Key). flat_map asked xs) (take-append-drop place known_is) in
      let all : at_most max (map sample_in cs) ≡ at_most max (flat_map asked known_is) =
      ⊎_elim
      (λ full. at_most-full max (map sample_in cs) rest
      (subst (λ (n : ℕ). IsFull max n) (sym (length-map cs sample_in)) full)
      ∙ (found.samples_are rest ∙ ap (λ (ss : List SamplePosition). at_most max ss) whole))
      (λ over. ap (λ (ss : List SamplePosition). at_most max ss) (sym (append-nil (map sample_in cs)))
      ∙ (found.samples_are []
      ∙ ap (λ (ss : List SamplePosition). at_most max ss)
      (append-nil (flat_map asked (take place known_is))
      ∙ ap (λ (xs : List Key). flat_map asked xs) (take_all place known_is over)))) done in
      record {
        samples_are = ap (λ (xs : List Candidate). map sample_in xs) cut
            ∙ (at_most-map max cs ∙ (all ∙ ap (λ (ss : List SamplePosition). at_most max ss) matching));
        each = subst (λ (xs : List Candidate). All (IsCandidate q h ks) xs) (sym cut)
            (at_most-all (IsCandidate q h ks) max cs found.each);
      }

-- candidates that stand by handle still do with those of an instance of no smaller handle behind them
pub sorted-more : (n : ℕ) (cs more : List Candidate) → IsNonDecreasingBy handle_in cs
    → All (λ (c : Candidate). handle_in c ≤ n) cs → All (IsOf n) more → IsNonDecreasingBy handle_in (cs ++ more)
sorted-more n cs more sorted below own = λ i j d le within.
    let len : length (cs ++ more) ≡ length cs + length more = length-append cs more in
    ⊎_elim
    (λ there. let early : j < length cs = ltb-true j (length cs) there in
    let first : get_or (cs ++ more) i d ≡ get_or cs i d =
    get_or_append_left cs more d i (omega (arith, early, le)) in
    let second : get_or (cs ++ more) j d ≡ get_or cs j d = get_or_append_left cs more d j early in
    subst (λ (c : Candidate). handle_in (get_or (cs ++ more) i d) ≤ handle_in c) (sym second)
    (subst (λ (c : Candidate). handle_in c ≤ handle_in (get_or cs j d)) (sym first) (sorted i j d le early)))
    (λ behind. let late : length cs ≤ j = ltb-false j (length cs) behind in
    let second : handle_in (get_or (cs ++ more) j d) ≡ n =
    ap handle_in (get_or-append_right cs more (length cs) j d refl late)
    ∙ own (j - length cs) d (omega (arith, within, len, late)) in
    omega (arith, second, reaches i d (omega (arith, le, within))))
    (cases_Bool (nat_lt j (length cs)))
  where
    reaches : (i : ℕ) (d : Candidate) → i < length (cs ++ more) → handle_in (get_or (cs ++ more) i d) ≤ n
    reaches i d within =
        All-append (λ (c : Candidate). handle_in c ≤ n) cs more below
        (λ m e inside. let is : handle_in (get_or more m e) ≡ n = own m e inside in omega (arith, is)) i d within

-- and none of them has a greater handle
pub below-more : (m n : ℕ) (cs more : List Candidate) → m ≤ n → All (λ (c : Candidate). handle_in c ≤ m) cs
    → All (IsOf n) more → All (λ (c : Candidate). handle_in c ≤ n) (cs ++ more)
below-more m n cs more le below own =
    All-append (λ (c : Candidate). handle_in c ≤ n) cs more
    (λ k d within. let is : handle_in (get_or cs k d) ≤ m = below k d within in omega (arith, is, le))
    (λ k d within. let is : handle_in (get_or more k d) ≡ n = own k d within in omega (arith, is))

-- the first of those that stand by handle do
pub sorted-cut : (max : Option ℕ) (cs new : List Candidate) → new ≡ at_most max cs → IsNonDecreasingBy handle_in cs
    → IsNonDecreasingBy handle_in new
sorted-cut max cs new cut sorted = subst (λ (xs : List Candidate). IsNonDecreasingBy handle_in xs) (sym cut) (first max)
  where
    first : (m : Option ℕ) → IsNonDecreasingBy handle_in (at_most m cs)
    first None = sorted
    first (Some n) = IsNonDecreasingBy-take handle_in n cs sorted

-- where an access asks for all instances, the first matching samples are those that it picks
pub walked-form : (q : ReaderQos) (h : List Happening) (selection : Selection) (masks : Masks)
    (test : Key → List ℕ → Bool) (max : Option ℕ) (ks : List Kept) (cs : List Candidate) → AsksForAll selection
    → AreFirstMatching q h masks test max ks cs → AreOfForm q h selection masks test max ks cs
walked-form q h (Any m states) masks test max ks cs all found = record { samples_are = found.samples_are; each = found.each }
walked-form q h (Instance handle m states) masks test max ks cs all found = absurd all
walked-form q h (NextInstance previous m states) masks test max ks cs all found = absurd all
walked-form q h NextSample masks test max ks cs all found = record { samples_are = found.samples_are; each = found.each }
