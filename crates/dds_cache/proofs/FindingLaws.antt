-- The samples that an access finds are those that the definitions say.
use Rattle.std.proofs.Common.{◌≡◌, ℕ, ◌+◌, ◌≤◌, ◌<◌, List, [], ◌∷◌, ◌++◌, length, get_or, take, map, filter, Bool, true, false, not, ◌==◌, ◌&&◌, sym, ap, ◌∙◌, refl, subst, cond, arith, zero, suc, ⊎_elim, ◌⊎◌, inr, Option, Some}
use Rattle.std.specs.Prelude.{if◌then◌else◌}
use Rattle.std.specs.List.{list_any, All, flat_map, range_with_len}
use Rattle.std.specs.List.Sorted.{IsNonDecreasingBy, IsPermutation, IsStableByKey, ties}
use Rattle.std.specs.Ordering.{nat_cmp, is_lt}
use Rattle.std.proofs.lemmas.Bool.{and_parts, cases_Bool}
use Rattle.std.proofs.lemmas.Bool.Decides.{nat_tests}
use Rattle.std.proofs.lemmas.List.{map-append, append-nil, take_more, get_or_default}
use Rattle.std.proofs.lemmas.List.Elements.{filter-append, All-cons, All-head, All-tail, All-push, All-weaker}
use Rattle.std.proofs.lemmas.List.Sorted.{All-permutation}
use Rattle.std.proofs.lemmas.List.Concat.{flat_map-cons}
use Rattle.dds_base.specs.declared.key.Key.{Key}
use Rattle.dds_base.specs.declared.happening.SamplePosition.{SamplePosition}
use Rattle.dds_base.specs.declared.happening.Happening.{Happening}
use Rattle.dds_base.specs.declared.mask.Masks.{Masks}
use Rattle.dds_base.specs.declared.sample.SampleState.TheVariants.{Read as HasBeenRead, NotRead}
use Rattle.dds_base.specs.declared.sample.ViewState.{ViewState}
use Rattle.dds_base.specs.declared.sample.InstanceState.{InstanceState}
use Rattle.dds_base.specs.declared.sample.Picked.{Picked}
use Rattle.dds_base.specs.declared.qos.ReaderQos.{ReaderQos}
use Rattle.dds_base.specs.declared.selection.Selection.{Selection}
use Rattle.dds_base.specs.Happening.{same_key, as_of}
use Rattle.dds_base.specs.Instance.{known_instances, instance_state_of, view_state_of, disposed_generations, no_writers_generations, generations_of}
use Rattle.dds_base.specs.Life.{ends_with_write}
use Rattle.dds_base.specs.Presence.{is_present, present_of}
use Rattle.dds_base.specs.Access.{sample_state_of, picked_of, handle_of, lives_begun, state_of_known, timestamp_of, publication_of, meets, matching_samples}
use Rattle.dds_base.specs.declared.sample.ViewState.TheVariants.{New}
use Rattle.dds_base.specs.declared.sample.InstanceState.TheVariants.{Alive}
use Rattle.dds_instances.specs.Table.{Table}
use Rattle.dds_instances.specs.declared.known.KnownInstance.{KnownInstance}
use Rattle.dds_instances.specs.Known.{IsKnown}
use Rattle.dds_instances.proofs.RiseLaws.{handle-bounds, handles-rise}
use Rattle.dds_cache.specs.declared.kept.Kept.{Kept}
use Rattle.dds_cache.specs.declared.access.Candidate.{Candidate}
use Rattle.dds_cache.specs.Kept.{IsKept, is_live, sample_at, position_of, positions_in, is_here}
use Rattle.dds_cache.specs.Finding.{are_asked_for, asks_for, is_asked_for, is_wanted, described_by, IsFound, IsCandidate, AreCandidates, Holds, sample_in, sample_of, handle_in, passes}
use Rattle.dds_base.proofs.KeyLaws.{key-same, same_key-comm}
use Rattle.dds_cache.proofs.KeptLaws.{live-present, present-in}
use Rattle.dds_cache.proofs.RiseLaws.{by-key}
use Rattle.dds_cache.proofs.GroupLaws.{group, groups, grouped, flat_map-same}

-- what the masks ask for, by what is kept and known
pub asked-is : (q : ReaderQos) (h : List Happening) (masks : Masks) (known_is : KnownInstance) (k : Kept)
    → IsKnown q h known_is → known_is.key ≡ k.sample.key → IsKept q h k
    → are_asked_for masks (if k.is_read then HasBeenRead else NotRead) known_is.view (Some known_is.state)
    ≡ meets q h masks k.sample
asked-is q h masks known_is k is_known key kept =
    ap (λ (b : Bool). are_asked_for masks (if b then HasBeenRead else NotRead) known_is.view (Some known_is.state))
    kept.read_is
    ∙ (ap (λ (v : ViewState). are_asked_for masks (sample_state_of h k.sample) v (Some known_is.state))
    (is_known.view_is ∙ ap (λ (i : Key). view_state_of q i h) key)
    ∙ ap (λ (s : Option InstanceState). are_asked_for masks (sample_state_of h k.sample)
    (view_state_of q k.sample.key h) s) (sym is_known.state_is ∙ ap (λ (i : Key). instance_state_of q i h) key))

-- a kept sample is found exactly where it is wanted
pub found-is : (q : ReaderQos) (h : List Happening) (masks : Masks) (test : Key → List ℕ → Bool)
    (known_is : KnownInstance) (k : Kept) → IsKnown q h known_is → known_is.key ≡ k.sample.key → IsKept q h k
    → (is_live q known_is k && (are_asked_for masks (if k.is_read then HasBeenRead else NotRead) known_is.view
    (Some known_is.state) && test k.sample.key k.value)) ≡ is_wanted q h masks test k
found-is q h masks test known_is k is_known key kept =
    let asked : Bool = are_asked_for masks (if k.is_read then HasBeenRead else NotRead) known_is.view
    (Some known_is.state) && test k.sample.key k.value in
    ap (λ (b : Bool). b && asked) (live-present q h known_is k is_known key kept)
    ∙ ⊎_elim
    (λ there. ap (λ (b : Bool). is_present q h k.sample.key k.sample.position && (b && test k.sample.key k.value))
    (asked-is q h masks known_is k is_known key kept)
    ∙ ap (λ (v : List ℕ). is_present q h k.sample.key k.sample.position
    && (meets q h masks k.sample && test k.sample.key v)) (kept.is_of.value_is (present-in q h k kept there)))
    (λ gone. ap (λ (b : Bool). b && asked) gone
    ∙ sym (ap (λ (b : Bool). b && is_asked_for q h masks test k.sample) gone))
    (cases_Bool (is_present q h k.sample.key k.sample.position))

-- an access asks for what is known of an instance where it asks for the instance
pub asks-known : (q : ReaderQos) (h : List Happening) (selection : Selection) (known_is : KnownInstance) (i : Key)
    → IsKnown q h known_is → known_is.key ≡ i → asks_for selection known_is.handle ≡ asks_for selection (handle_of q h i)
asks-known q h selection known_is i is_known key =
    ap (λ (n : ℕ). asks_for selection n) (is_known.handle_is ∙ ap (λ (x : Key). handle_of q h x) key)

-- what is said of it before its ranks
pub described-is : (q : ReaderQos) (h : List Happening) (known_is : KnownInstance) (k : Kept) → IsKnown q h known_is
    → known_is.key ≡ k.sample.key → IsKept q h k → described_by k known_is ≡ picked_of q h k.sample
described-is q h known_is k is_known key kept =
    let s : SamplePosition = k.sample in
    let past : List Happening = as_of s.position h in
    let read : (if k.is_read then HasBeenRead else NotRead) ≡ sample_state_of h s =
    ap (λ (b : Bool). if b then HasBeenRead else NotRead) kept.read_is in
    let view : known_is.view ≡ view_state_of q s.key h = is_known.view_is ∙ ap (λ (i : Key). view_state_of q i h) key in
    let state : known_is.state ≡ state_of_known (instance_state_of q s.key h) =
    ap (λ (x : Option InstanceState). state_of_known x)
    (sym is_known.state_is ∙ ap (λ (i : Key). instance_state_of q i h) key) in
    let disposed : k.disposed_generation_count ≡ disposed_generations q s.key past = kept.is_of.disposed_is in
    let no_writers : k.no_writers_generation_count ≡ no_writers_generations q s.key past = kept.is_of.no_writers_is in
    let present : known_is.disposed_generations + known_is.no_writers_generations ≡ generations_of q s.key h =
    ap (λ (n : ℕ). n + known_is.no_writers_generations)
    (is_known.disposed_is ∙ ap (λ (i : Key). disposed_generations q i h) key)
    ∙ ap (λ (n : ℕ). disposed_generations q s.key h + n)
    (is_known.no_writers_is ∙ ap (λ (i : Key). no_writers_generations q i h) key) in
    let timestamp : k.source_timestamp ≡ timestamp_of past = kept.is_of.timestamp_is in
    let publication : k.publication_handle ≡ publication_of past = kept.is_of.publication_is in
    let valid : k.valid_data ≡ ends_with_write q s.key past = kept.is_of.valid_is in
    let handle : known_is.handle ≡ handle_of q h s.key =
    is_known.handle_is ∙ ap (λ (i : Key). handle_of q h i) key in
    cc

-- ---- one kept sample after another

pub filter-more : (p : Kept → Bool) (ks : List Kept) (at : ℕ) (k : Kept) (b : Bool) → at < length ks → k ≡ get_or ks at k
    → p k ≡ b → filter p (take (at + 1) ks) ≡ filter p (take at ks) ++ cond b (k ∷ []) []
filter-more p ks at k b within is passes =
    ap (λ (xs : List Kept). filter p xs) (take_more ks at k within ∙ ap (λ (x : Kept). take at ks ++ x ∷ []) (sym is))
    ∙ (filter-append p (take at ks) (k ∷ []) ∙ ap (λ (x : Bool). filter p (take at ks) ++ cond x (k ∷ []) []) passes)

pub candidates-none : (q : ReaderQos) (h : List Happening) (masks : Masks) (test : Key → List ℕ → Bool) (ks : List Kept)
    (at : ℕ) (k : Kept) (cs : List Candidate) → at < length ks → k ≡ get_or ks at k → is_wanted q h masks test k ≡ false
    → AreCandidates q h masks test ks (take at ks) cs → AreCandidates q h masks test ks (take (at + 1) ks) cs
candidates-none q h masks test ks at k cs within is unwanted so_far = record {
  samples_are =
      so_far.samples_are ∙ ap (λ (xs : List Kept). map sample_of xs)
      (sym (filter-more (is_wanted q h masks test) ks at k false within is unwanted
      ∙ append-nil (filter (is_wanted q h masks test) (take at ks))));
  each = so_far.each;
}

-- a kept sample that is found is a candidate
pub found-candidate : (q : ReaderQos) (h : List Happening) (masks : Masks) (test : Key → List ℕ → Bool) (ks : List Kept)
    (at : ℕ) (k : Kept) (c : Candidate) → at < length ks → k ≡ get_or ks at k → IsKept q h k
    → IsFound q h masks test k at c → IsCandidate q h ks c
found-candidate q h masks test ks at k c within is kept found = record {
  within = subst (λ (n : ℕ). n < length ks) (sym found.at_is) within;
  there =
      λ d. ap (λ (n : ℕ). (get_or ks n d).sample) found.at_is
      ∙ (ap (λ (x : Kept). x.sample) (get_or_default ks at d k within ∙ sym is) ∙ sym found.sample_is);
  is_known =
      subst (λ (s : SamplePosition). list_any (λ i. same_key i s.key) (known_instances q h) ≡ true)
      (sym found.sample_is) kept.is_known;
  present =
      ap (λ (s : SamplePosition). is_present q h s.key s.position) found.sample_is
      ∙ (and_parts (is_present q h k.sample.key k.sample.position) (is_asked_for q h masks test k.sample)
      found.wanted).0;
  picked_is = found.picked_is ∙ ap (λ (s : SamplePosition). picked_of q h s) (sym found.sample_is);
  small = found.small;
}

pub candidates-some : (q : ReaderQos) (h : List Happening) (masks : Masks) (test : Key → List ℕ → Bool) (ks : List Kept)
    (at : ℕ) (k : Kept) (c : Candidate) (cs : List Candidate) → at < length ks → k ≡ get_or ks at k → IsKept q h k
    → IsFound q h masks test k at c → AreCandidates q h masks test ks (take at ks) cs
    → AreCandidates q h masks test ks (take (at + 1) ks) (cs ++ c ∷ [])
candidates-some q h masks test ks at k c cs within is kept found so_far = record {
  samples_are =
      map-append sample_in cs (c ∷ [])
      ∙ (ap (λ (ss : List SamplePosition). ss ++ c.sample ∷ []) so_far.samples_are
      ∙ (ap (λ (s : SamplePosition). map sample_of (filter (is_wanted q h masks test) (take at ks)) ++ s ∷ [])
      found.sample_is
      ∙ (sym (map-append sample_of (filter (is_wanted q h masks test) (take at ks)) (k ∷ []))
      ∙ ap (λ (xs : List Kept). map sample_of xs)
      (sym (filter-more (is_wanted q h masks test) ks at k true within is found.wanted)))));
  each =
      All-push (IsCandidate q h ks) cs c so_far.each (found-candidate q h masks test ks at k c within is kept found);
}

-- ---- the candidates by handle are the matching samples

map-group : (cs : List Candidate) (H : SamplePosition → ℕ) (m : ℕ)
    → All (λ (c : Candidate). handle_in c ≡ H c.sample) cs → map sample_in (group handle_in cs m)
    ≡ group H (map sample_in cs) m
map-group [] H m all = refl
map-group (c ∷ cs) H m all =
    map-cond (handle_in c == m) c (group handle_in cs m)
    ∙ (ap (λ (n : ℕ). cond (n == m) (c.sample ∷ map sample_in (group handle_in cs m))
    (map sample_in (group handle_in cs m))) (All-head (λ (x : Candidate). handle_in x ≡ H x.sample) c cs all)
    ∙ ap (λ (ss : List SamplePosition). cond (H c.sample == m) (c.sample ∷ ss) ss)
    (map-group cs H m (All-tail (λ (x : Candidate). handle_in x ≡ H x.sample) c cs all)))
  where
    map-cond : (b : Bool) (c : Candidate) (cs : List Candidate)
        → map sample_in (cond b (c ∷ cs) cs) ≡ cond b (c.sample ∷ map sample_in cs) (map sample_in cs)
    map-cond true c cs = refl
    map-cond false c cs = refl

map-groups : (cs : List Candidate) (H : SamplePosition → ℕ) (a n : ℕ)
    → All (λ (c : Candidate). handle_in c ≡ H c.sample) cs → map sample_in (groups handle_in cs a n)
    ≡ groups H (map sample_in cs) a n
map-groups cs H a zero all = refl
map-groups cs H a (suc n) all =
    ap (λ (xs : List Candidate). map sample_in xs) (flat_map-cons (group handle_in cs) a (range_with_len (a + 1) n))
    ∙ (map-append sample_in (group handle_in cs a) (groups handle_in cs (a + 1) n)
    ∙ (ap (λ (ss : List SamplePosition). ss ++ map sample_in (groups handle_in cs (a + 1) n)) (map-group cs H a all)
    ∙ (ap (λ (ss : List SamplePosition). group H (map sample_in cs) a ++ ss) (map-groups cs H (a + 1) n all)
    ∙ sym (flat_map-cons (group H (map sample_in cs)) a (range_with_len (a + 1) n)))))

pub filter-flat_map : (p : SamplePosition → Bool) (f : Key → List SamplePosition) (ks : List Key)
    → filter p (flat_map f ks) ≡ flat_map (λ i. filter p (f i)) ks
filter-flat_map p f [] = refl
filter-flat_map p f (k ∷ ks) =
    ap (λ (ss : List SamplePosition). filter p ss) (flat_map-cons f k ks)
    ∙ (filter-append p (f k) (flat_map f ks)
    ∙ (ap (λ (ss : List SamplePosition). filter p (f k) ++ ss) (filter-flat_map p f ks)
    ∙ sym (flat_map-cons (λ (i : Key). filter p (f i)) k ks)))

-- the present samples of i that pass a test, among those kept and among those present
pub wanted-of : (q : ReaderQos) (h : List Happening) (test : SamplePosition → Bool) (i : Key) (ks : List Kept)
    → filter (λ (s : SamplePosition). same_key i s.key) (map sample_of (filter (passes q h test) ks))
    ≡ filter test (map (sample_at i) (positions_in q h i ks))
wanted-of q h test i [] = refl
wanted-of q h test i (k ∷ ks) =
    ⊎_elim
    (λ same. let is : k.sample.key ≡ i = key-same k.sample.key i same in
    let here : is_here q h i k ≡ is_present q h k.sample.key k.sample.position =
    ap (λ (b : Bool). b && is_present q h i k.sample.position) same
    ∙ ap (λ (x : Key). is_present q h x k.sample.position) (sym is) in
    let sample : sample_at i k.sample.position ≡ k.sample = ap (λ (x : Key). sample_at x k.sample.position) (sym is) in
    own (is_present q h k.sample.key k.sample.position) (test k.sample) k (filter (passes q h test) ks)
    (filter (is_here q h i) ks) (λ (s : SamplePosition). same_key i s.key) test i
    (same_key-comm i k.sample.key ∙ same) sample refl (wanted-of q h test i ks)
    ∙ sym (ap (λ (b : Bool). filter test
    (map (sample_at i) (map position_of (cond b (k ∷ filter (is_here q h i) ks) (filter (is_here q h i) ks)))))
    here))
    (λ other. skip (passes q h test k) k (filter (passes q h test) ks) (λ (s : SamplePosition). same_key i s.key)
    (same_key-comm i k.sample.key ∙ other)
    ∙ (wanted-of q h test i ks
    ∙ sym (ap (λ (b : Bool). filter test
    (map (sample_at i)
    (map position_of (cond (b && is_present q h i k.sample.position) (k ∷ filter (is_here q h i) ks)
    (filter (is_here q h i) ks))))) other)))
    (cases_Bool (same_key k.sample.key i))
  where
    skip : (b : Bool) (k : Kept) (xs : List Kept) (o : SamplePosition → Bool) → o k.sample ≡ false
        → filter o (map sample_of (cond b (k ∷ xs) xs)) ≡ filter o (map sample_of xs)
    skip true k xs o other =
        ap (λ (b : Bool). cond b (k.sample ∷ filter o (map sample_of xs)) (filter o (map sample_of xs))) other
    skip false k xs o other = refl

    own : (present asked : Bool) (k : Kept) (xs ys : List Kept) (o p : SamplePosition → Bool) (i : Key)
        → o k.sample ≡ true → sample_at i k.sample.position ≡ k.sample → p k.sample ≡ asked
        → filter o (map sample_of xs) ≡ filter p (map (sample_at i) (map position_of ys))
        → filter o (map sample_of (cond (present && asked) (k ∷ xs) xs))
        ≡ filter p (map (sample_at i) (map position_of (cond present (k ∷ ys) ys)))
    own false asked k xs ys o p i its sample is rest = rest
    own true true k xs ys o p i its sample is rest =
        ap (λ (b : Bool). cond b (k.sample ∷ filter o (map sample_of xs)) (filter o (map sample_of xs))) its
        ∙ (ap (λ (ss : List SamplePosition). k.sample ∷ ss) rest
        ∙ (sym (ap (λ (b : Bool). cond b (k.sample ∷ filter p (map (sample_at i) (map position_of ys)))
        (filter p (map (sample_at i) (map position_of ys)))) is)
        ∙ ap (λ (s : SamplePosition). cond (p s) (s ∷ filter p (map (sample_at i) (map position_of ys)))
        (filter p (map (sample_at i) (map position_of ys)))) (sym sample)))
    own true false k xs ys o p i its sample is rest =
        rest
        ∙ (sym (ap (λ (b : Bool). cond b (k.sample ∷ filter p (map (sample_at i) (map position_of ys)))
        (filter p (map (sample_at i) (map position_of ys)))) is)
        ∙ ap (λ (s : SamplePosition). cond (p s) (s ∷ filter p (map (sample_at i) (map position_of ys)))
        (filter p (map (sample_at i) (map position_of ys)))) (sym sample))

-- ---- candidates in the order of their handles are the matching samples

tie-is : (x y : Candidate) → ties (λ a b. is_lt (nat_cmp (handle_in a) (handle_in b))) x y
    ≡ (handle_in y == handle_in x)
tie-is x y = tie-numbers (handle_in x) (handle_in y)
  where
    tie-numbers : (a b : ℕ) → (not (is_lt (nat_cmp a b)) && not (is_lt (nat_cmp b a))) ≡ (b == a)
    tie-numbers a b = grind (arith, nat_tests)

filter-ties : (f g : Candidate → Bool) (cs : List Candidate) → ((c : Candidate) → f c ≡ g c) → filter f cs ≡ filter g cs
filter-ties f g [] same = refl
filter-ties f g (c ∷ cs) same =
    ap (λ (b : Bool). cond b (c ∷ filter f cs) (filter f cs)) (same c)
    ∙ ap (λ (xs : List Candidate). cond (g c) (c ∷ xs) xs) (filter-ties f g cs same)

-- a candidate with another handle
with_handle : Candidate → ℕ → Candidate
with_handle c m = record c { picked = record c.picked { instance_handle = m } }

stable-group : (before after : List Candidate) (c : Candidate) (m : ℕ) → IsStableByKey handle_in nat_cmp before after
    → group handle_in after m ≡ group handle_in before m
unfolding with_handle
stable-group before after c m stable =
    let x : Candidate = with_handle c m in
    filter-ties (λ y. handle_in y == m) (ties (λ a b. is_lt (nat_cmp (handle_in a) (handle_in b))) x) after
    (λ y. sym (tie-is x y))
    ∙ (stable x ∙ filter-ties (ties (λ a b. is_lt (nat_cmp (handle_in a) (handle_in b))) x)
    (λ y. handle_in y == m) before (λ y. tie-is x y))

-- some candidate
nothing : Candidate
nothing = record {
  sample = record { key = record { 0 = [] }; position = 0 };
  picked =
      record {
        sample_state = NotRead;
        view_state = New;
        instance_state = Alive;
        disposed_generation_count = 0;
        no_writers_generation_count = 0;
        instance_generations = 0;
        source_timestamp = 0;
        instance_handle = 0;
        publication_handle = 0;
        valid_data = false;
      };
  at = 0;
}

-- those that pass a test, as samples
pub passing-all : (P : SamplePosition → Type 0) (test : Kept → Bool) (ks : List Kept) → All (λ (k : Kept). P k.sample) ks
    → All P (map sample_of (filter test ks))
passing-all P test [] all = λ k d within. absurd (omega (arith, within))
passing-all P test (k ∷ ks) all =
    one (test k) k (map sample_of (filter test ks)) (filter test ks) refl (All-head (λ (x : Kept). P x.sample) k ks all)
    (passing-all P test ks (All-tail (λ (x : Kept). P x.sample) k ks all))
  where
    one : (b : Bool) (k : Kept) (ss : List SamplePosition) (xs : List Kept) → map sample_of xs ≡ ss → P k.sample
        → All P (map sample_of xs) → All P (map sample_of (cond b (k ∷ xs) xs))
    one true k ss xs is first rest = All-cons P k.sample (map sample_of xs) first rest
    one false k ss xs is first rest = rest

-- the samples of the candidates in the order of their handles
pub matched : (q : ReaderQos) (table : Table) (h : List Happening) (masks : Masks) (test : Key → List ℕ → Bool)
    (ks : List Kept) (before after : List Candidate) → Holds q table ks h → AreCandidates q h masks test ks ks before
    → IsPermutation before after → IsNonDecreasingBy handle_in after → IsStableByKey handle_in nat_cmp before after
    → map sample_in after ≡ matching_samples q h masks test
matched q table h masks test ks before after holds candidates permuted sorted stable =
    let known_is : List Key = known_instances q h in
    let n : ℕ = lives_begun q h in
    let H : SamplePosition → ℕ = λ s. handle_of q h s.key in
    let S : List SamplePosition = map sample_of (filter (is_wanted q h masks test) ks) in
    let bounds : (c : Candidate) → IsCandidate q h ks c → (1 ≤ handle_in c) × (handle_in c < 1 + n) =
    λ c is. let b = handle-bounds q h c.sample.key is.is_known in let same : handle_in c
    ≡ handle_of q h c.sample.key = ap (λ (p : Picked). p.instance_handle) is.picked_is in
    (omega (arith, same, b.0), omega (arith, same, b.1)) in
    let each : All (IsCandidate q h ks) after =
    All-permutation (IsCandidate q h ks) before after permuted candidates.each in
    let handles : All (λ (c : Candidate). handle_in c ≡ H c.sample) before =
    All-weaker (IsCandidate q h ks) (λ (c : Candidate). handle_in c ≡ H c.sample)
    (λ c is. ap (λ (p : Picked). p.instance_handle) is.picked_is) before candidates.each in
    ap (λ (cs : List Candidate). map sample_in cs)
    (sym (grouped handle_in after 1 n sorted
    (All-weaker (IsCandidate q h ks) (λ (c : Candidate). (1 ≤ handle_in c)
    × (handle_in c < 1 + n)) bounds after each))
    ∙ flat_map-same (group handle_in after) (group handle_in before) (range_with_len 1 n)
    (λ m. stable-group before after nothing m stable))
    ∙ (map-groups before H 1 n handles
    ∙ (ap (λ (ss : List SamplePosition). groups H ss 1 n) candidates.samples_are
    ∙ (by-key (λ i. handle_of q h i) 1 n known_is S (handles-rise q h)
    (All-weaker (λ (s : SamplePosition). list_any (λ k. same_key k s.key) known_is ≡ true)
    (λ (s : SamplePosition). (handle_of q h s.key < 1) ⊎ (list_any (λ k. same_key k s.key) known_is ≡ true))
    (λ s there. inr there) S (passing-all (λ (s : SamplePosition). list_any (λ k. same_key k s.key) known_is ≡ true)
    (is_wanted q h masks test) ks (All-weaker (IsKept q h)
    (λ (k : Kept). list_any (λ i. same_key i k.sample.key) known_is ≡ true) (λ k kept. kept.is_known) ks holds.each)))
    ∙ (flat_map-same (λ i. filter (λ (s : SamplePosition). same_key i s.key) S)
    (λ i. filter (is_asked_for q h masks test) (present_of q h i)) known_is
    (λ i. wanted-of q h (is_asked_for q h masks test) i ks
    ∙ ap (λ (ps : List ℕ). filter (is_asked_for q h masks test) (map (sample_at i) ps)) (sym (holds.present i)))
    ∙ sym (filter-flat_map (is_asked_for q h masks test) (present_of q h) known_is)))))

pub candidates-after : (q : ReaderQos) (h : List Happening) (masks : Masks) (test : Key → List ℕ → Bool)
    (ks : List Kept) (before after : List Candidate) → AreCandidates q h masks test ks ks before
    → IsPermutation before after → All (IsCandidate q h ks) after
candidates-after q h masks test ks before after candidates permuted =
    All-permutation (IsCandidate q h ks) before after permuted candidates.each
