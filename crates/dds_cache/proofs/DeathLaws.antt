-- A death adds the samples that it leaves, one instance after another.
use Rattle.std.proofs.Common.{◌≡◌, ℕ, ◌+◌, ◌≤◌, List, [], ◌∷◌, ◌++◌, length, take, Bool, true, false, not, ◌-◌, ◌&&◌, ◌||◌, sym, ap, ◌∙◌, refl, cond, Option, Some, None, zero, suc, ⊎_elim, append_assoc, arith}
use Rattle.std.specs.Prelude.{slice_get, is_some, count_by}
use Rattle.std.specs.List.{list_any, IsDistinct, AllByRecursion}
use Rattle.std.proofs.lemmas.Bool.{and_right, cases_Bool}
use Rattle.std.proofs.lemmas.List.{append-nil, take_more}
use Rattle.std.proofs.lemmas.Option.{get_or_from_slice_get, slice_get_within}
use Rattle.std.proofs.lemmas.List.Folds.{list_any-append}
use Rattle.std.proofs.lemmas.List.Elements.{All-append, All-nil, All-cons}
use Rattle.std.proofs.lemmas.List.Sums.{sum_by-cons, sum_by-take-le}
use Rattle.std.proofs.lemmas.Map.Keys.{IsDistinct-head, IsDistinct-tail}
use Rattle.dds_base.specs.declared.key.Key.{Key}
use Rattle.dds_base.specs.declared.change.ChangeKind.{ChangeKind}
use Rattle.dds_base.specs.declared.happening.Happening.{Happening}
use Rattle.dds_base.specs.declared.happening.Happening.TheVariants.{Died}
use Rattle.dds_base.specs.declared.qos.ReaderQos.{ReaderQos}
use Rattle.dds_base.specs.Happening.{same_key}
use Rattle.dds_base.specs.Ownership.{registered_writers}
use Rattle.dds_base.specs.Instance.{known_instances, instance_state_of, disposed_generations, no_writers_generations}
use Rattle.dds_base.specs.Life.{last_accepted, state_after, is_nobody, is_at, accepted_writes, ends_with_write, keeps, last_marker}
use Rattle.dds_base.specs.Presence.{is_present}
use Rattle.dds_base.specs.Happening.{is_taken}
use Rattle.dds_base.proofs.KeyLaws.{key-same}
use Rattle.dds_base.proofs.LifeLaws.{as_of-newest}
use Rattle.dds_instances.specs.declared.known.KnownInstance.{KnownInstance}
use Rattle.dds_instances.specs.declared.track.InstanceTrack.{InstanceTrack}
use Rattle.dds_instances.specs.Known.{IsKnown, writes_in_life}
use Rattle.dds_instances.specs.Table.{Table, has_marked, marked_of}
use Rattle.dds_instances.specs.Track.{one_if}
use Rattle.dds_instances.proofs.KnownLaws.{known}
use Rattle.dds_instances.proofs.RiseLaws.{known-distinct}
use Rattle.dds_cache.specs.declared.kept.Kept.{Kept}
use Rattle.dds_cache.specs.Kept.{Adds, IsKept, IsKeptAt, IsNewAt, positions_in, sample_at}
use Rattle.dds_cache.specs.Dying.{AddsOf}
use Rattle.dds_cache.proofs.PresenceLaws.{here-append, unknown-absent}
use Rattle.dds_cache.proofs.KeptLaws.{IsNewest}
use Rattle.dds_cache.proofs.StandingLaws.{new-at, one-position}

pub some-same : (a b : Key) → Some a ≡ Some b → a ≡ b
some-same a b e = cc

-- ---- the sample of one instance

-- what is kept of a death, by what is known of the instance then
pub newest-died : (q : ReaderQos) (w moment : ℕ) (h : List Happening) (known_is : KnownInstance) (k : Kept)
    → IsKnown q (Died w moment ∷ h) known_is → known_is.key ≡ k.sample.key → k.valid_data ≡ false
    → k.number ≡ known_is.accepted_writes → k.disposed_generation_count ≡ known_is.disposed_generations
    → k.no_writers_generation_count ≡ known_is.no_writers_generations → k.source_timestamp ≡ moment
    → k.publication_handle ≡ w → k.value ≡ [] → k.is_read ≡ false
    → IsNewest q (Died w moment ∷ h) k
newest-died q w moment h known_is k is_known same valid number disposed no_writers timestamp publication value unread =
    let g : List Happening = Died w moment ∷ h in
    record {
      number_is = number ∙ (is_known.writes_are ∙ ap (λ (x : Key). writes_in_life q x g) same);
      read_is = unread;
      is_of = record {
        valid_is = valid;
        disposed_is = disposed ∙ (is_known.disposed_is ∙ ap (λ (x : Key). disposed_generations q x g) same);
        no_writers_is = no_writers ∙ (is_known.no_writers_is ∙ ap (λ (x : Key). no_writers_generations q x g) same);
        timestamp_is = timestamp;
        publication_is = publication;
        value_is = λ _. value;
      };
    }

-- where the newest entry is not the last marker, a death has left none
pub died-absent : (q : ReaderQos) (w moment : ℕ) (h : List Happening) (i : Key)
    → is_at (last_marker q i (Died w moment ∷ h)) (length h + 1) ≡ false
    → is_present q (Died w moment ∷ h) i (length h + 1) ≡ false
died-absent q w moment h i off =
    let g : List Happening = Died w moment ∷ h in
    let n : ℕ = length h + 1 in
    ap (λ (x : List Happening). not (is_taken (sample_at i n) g) && ((ends_with_write q i x
    && keeps q.history (accepted_writes q i g - accepted_writes q i x)) || is_at (last_marker q i g) n))
    (as_of-newest (Died w moment) h)
    ∙ (ap (λ (b : Bool). not (is_taken (sample_at i n) g) && (false || b)) off
    ∙ and_right (not (is_taken (sample_at i n) g)) false refl)

-- of no instance
pub adds-of-none : (q : ReaderQos) (g : List Happening) (n : ℕ) (ks : List Kept) → AddsOf q g n [] ks ks
adds-of-none q g n ks = record {
  added = [];
  are = sym (append-nil ks);
  each = All-nil (IsKept q g);
  present = λ i. refl;
  new_are = All-nil (IsNewAt q g n);
}

or-none : (b : Bool) → (b || false) ≡ b
or-none true = refl
or-none false = refl

-- of one instance, where the entry left a sample of it
pub adds-of-one : (q : ReaderQos) (g : List Happening) (n : ℕ) (x : Key) (ks : List Kept) (k : Kept)
    → IsKeptAt q g x n k → AddsOf q g n (x ∷ []) ks (ks ++ k ∷ [])
adds-of-one q g n x ks k at = record {
  added = k ∷ [];
  are = refl;
  each = All-cons (IsKept q g) k [] at.kept (All-nil (IsKept q g));
  present =
      λ i. ap (λ (b : Bool). cond (b && is_present q g i n) (n ∷ []) []) (or-none (same_key x i))
      ∙ sym (one-position q g x i n k at.sample_is);
  new_are = All-cons (IsNewAt q g n) k [] (new-at q g x n k at) (All-nil (IsNewAt q g n));
}

-- and where it left none
pub adds-of-nothing : (q : ReaderQos) (g : List Happening) (n : ℕ) (x : Key) (ks : List Kept)
    → is_present q g x n ≡ false → AddsOf q g n (x ∷ []) ks ks
adds-of-nothing q g n x ks absent = record {
  added = [];
  are = sym (append-nil ks);
  each = All-nil (IsKept q g);
  present = λ i. ap (λ (b : Bool). cond (b && is_present q g i n) (n ∷ []) []) (or-none (same_key x i)) ∙ ⊎_elim
      (λ same. ap (λ (b : Bool). cond (b && is_present q g i n) (n ∷ []) []) same
      ∙ ap (λ (b : Bool). cond b (n ∷ []) []) (ap (λ (y : Key). is_present q g y n) (sym (key-same x i same))
      ∙ absent))
      (λ other. ap (λ (b : Bool). cond (b && is_present q g i n) (n ∷ []) []) other)
      (cases_Bool (same_key x i));
  new_are = All-nil (IsNewAt q g n);
}

-- ---- one instance after another

apart-later : (k x : Key) (ks : List Key) (at : ℕ) → AllByRecursion (λ y. same_key x y ≡ false) ks
    → slice_get ks at ≡ Some k → same_key x k ≡ false
apart-later k x [] at apart there = absurd cc
apart-later k x (y ∷ ks) zero apart there = let same : y ≡ k = cc in ap (λ (z : Key). same_key x z) (sym same) ∙ apart.0
apart-later k x (y ∷ ks) (suc at) apart there = apart-later k x ks at apart.1 there

-- a key of distinct ones is not among those before it
before-apart : (ks : List Key) (at : ℕ) (k : Key) → IsDistinct same_key ks → slice_get ks at ≡ Some k
    → list_any (λ x. same_key x k) (take at ks) ≡ false
before-apart [] at k distinct there = absurd cc
before-apart (x ∷ ks) zero k distinct there = refl
before-apart (x ∷ ks) (suc at) k distinct there =
    ap (λ (b : Bool). b || list_any (λ y. same_key y k) (take at ks))
    (apart-later k x ks at (IsDistinct-head same_key x ks distinct) there)
    ∙ before-apart ks at k (IsDistinct-tail same_key x ks distinct) there

both-table : (a s p : Bool) (n : ℕ) → (s ≡ true → a ≡ false)
    → cond ((a || (s || false)) && p) (n ∷ []) [] ≡ cond (a && p) (n ∷ []) [] ++ cond ((s || false) && p) (n ∷ []) []
both-table true true p n apart = absurd (let clash : true ≡ false = apart refl in cc)
both-table true false true n apart = refl
both-table true false false n apart = refl
both-table false s p n apart = refl

take-step : (ks : List Key) (at : ℕ) (k : Key) → slice_get ks at ≡ Some k → take (at + 1) ks ≡ take at ks ++ k ∷ []
take-step ks at k there =
    take_more ks at k (slice_get_within ks at k there)
    ∙ ap (λ (x : Key). take at ks ++ x ∷ []) (get_or_from_slice_get ks at k k there)

-- one more instance
pub adds-of-more : (q : ReaderQos) (g : List Happening) (n at : ℕ) (x : Key) (a b c : List Kept)
    → slice_get (known_instances q g) at ≡ Some x → AddsOf q g n (take at (known_instances q g)) a b
    → AddsOf q g n (x ∷ []) b c → AddsOf q g n (take (at + 1) (known_instances q g)) a c
adds-of-more q g n at x a b c there first second =
    let before : List Key = take at (known_instances q g) in
    let apart : (i : Key) → same_key x i ≡ true → list_any (λ k. same_key k i) before ≡ false =
    λ i same. ap (λ (y : Key). list_any (λ k. same_key k y) before) (sym (key-same x i same))
    ∙ before-apart (known_instances q g) at x (known-distinct q g) there in
    record {
      added = first.added ++ second.added;
      are =
          second.are ∙ (ap (λ (ks : List Kept). ks ++ second.added) first.are
          ∙ append_assoc a first.added second.added);
      each = All-append (IsKept q g) first.added second.added first.each second.each;
      present = λ i.
          ap (λ (is : List Key). cond (list_any (λ k. same_key k i) is && is_present q g i n) (n ∷ []) [])
          (take-step (known_instances q g) at x there)
          ∙ (ap (λ (b : Bool). cond (b && is_present q g i n) (n ∷ []) [])
          (list_any-append (λ k. same_key k i) before (x ∷ []))
          ∙ (both-table (list_any (λ k. same_key k i) before) (same_key x i) (is_present q g i n) n (apart i)
          ∙ (ap (λ (ps : List ℕ). ps ++ cond ((same_key x i || false) && is_present q g i n) (n ∷ []) [])
          (first.present i)
          ∙ (ap (λ (ps : List ℕ). positions_in q g i first.added ++ ps) (second.present i)
          ∙ sym (here-append q g i first.added second.added)))));
      new_are = All-append (IsNewAt q g n) first.added second.added first.new_are second.new_are;
    }

none-from : (o : Option ChangeKind) → is_some o ≡ false → o ≡ None
none-from None e = refl
none-from (Some k) e = absurd cc

-- the samples of all known instances are all that a death leaves
pub adds-died : (q : ReaderQos) (e : Happening) (h : List Happening) (count : ℕ) (old new : List Kept)
    → count ≡ length (known_instances q (e ∷ h))
    → AddsOf q (e ∷ h) (length h + 1) (take count (known_instances q (e ∷ h))) old new → Adds q e h old new
adds-died q e h count old new all adds =
    let g : List Happening = e ∷ h in
    let n : ℕ = length h + 1 in
    record {
      added = adds.added;
      are = adds.are;
      each = adds.each;
      present = λ i. (⊎_elim
          (λ there. sym (ap (λ (b : Bool). cond (b && is_present q g i n) (n ∷ []) []) there))
          (λ unknown. let state : instance_state_of q i g
          ≡ None = ap (λ (l : Option ChangeKind). state_after l (is_nobody (registered_writers q i g)))
          (none-from (last_accepted q i g) (sym (known q g i) ∙ unknown)) in
          ap (λ (b : Bool). cond b (n ∷ []) []) (unknown-absent q e h i state)
          ∙ sym (ap (λ (b : Bool). cond (b && is_present q g i n) (n ∷ []) []) unknown))
          (cases_Bool (list_any (λ k. same_key k i) (known_instances q g)))
          ∙ (ap (λ (is : List Key). cond (list_any (λ k. same_key k i) is && is_present q g i n) (n ∷ []) [])
          (sym (ap (λ (m : ℕ). take m (known_instances q g)) all ∙ take_whole (known_instances q g)))
          ∙ adds.present i));
      new_are = adds.new_are;
    }
  where
    take_whole : (ks : List Key) → take (length ks) ks ≡ ks
    take_whole [] = refl
    take_whole (k ∷ ks) = ap (λ (xs : List Key). k ∷ xs) (take_whole ks)

-- ---- how many of them it leaves

-- of how many of the first instances the newest entry left a marker
abbrev pub marked_among : Table → ℕ → ℕ
marked_among table n = count_by (λ (t : InstanceTrack). is_at t.last_marker table.happened) (take n table.tracks)

-- of one more it left one, or not
pub marked-more : (table : Table) (at : ℕ)
    → marked_among table (at + 1) ≡ marked_among table at + one_if (has_marked table at)
marked-more table at =
    let next : at + 1 ≡ suc at = omega arith in
    ap (λ (m : ℕ). count_by test (take m table.tracks)) next ∙ one_more at table.tracks
  where
    test : InstanceTrack → Bool
    test t = is_at t.last_marker table.happened

    one_more : (k : ℕ) (ts : List InstanceTrack)
        → count_by test (take (suc k) ts)
        ≡ count_by test (take k ts) + one_if (has_marked (record table { tracks = ts }) k)
    one_more zero [] = omega arith
    one_more (suc k) [] = omega arith
    one_more zero (t ∷ ts) = omega arith
    one_more (suc k) (t ∷ ts) =
        let more = sum_by-cons (λ (x : InstanceTrack). cond (test x) 1 0) t (take (suc k) ts) in
        let fewer = sum_by-cons (λ (x : InstanceTrack). cond (test x) 1 0) t (take k ts) in
        let rest = one_more k ts in
        omega (arith, more, fewer, rest)

-- of some of them it left no more than of all
pub marked-some : (table : Table) (n : ℕ) → marked_among table n ≤ marked_of table
marked-some table n =
    sum_by-take-le (λ (t : InstanceTrack). cond (is_at t.last_marker table.happened) 1 0) table.tracks n
