-- What is kept tells whether a sample matches: by any two lists of what happened for which it stands, alike.
use Rattle.std.proofs.Common.{◌≡◌, ℕ, List, [], ◌∷◌, map, length, Bool, true, false, ◌||◌, sym, ap, ◌∙◌, refl, ⊎_elim, Option}
use Rattle.std.specs.Prelude.{is_some, if◌then◌else◌}
use Rattle.std.specs.List.{list_any, All}
use Rattle.std.proofs.lemmas.Bool.{cases_Bool}
use Rattle.std.proofs.lemmas.List.Elements.{All-head, All-tail}
use Rattle.dds_base.specs.declared.key.Key.{Key}
use Rattle.dds_base.specs.declared.happening.Happening.{Happening}
use Rattle.dds_base.specs.declared.mask.Masks.{Masks}
use Rattle.dds_base.specs.declared.qos.ReaderQos.{ReaderQos}
use Rattle.dds_base.specs.declared.sample.ViewState.TheVariants.{New, NotNew}
use Rattle.dds_base.specs.Access.{has_match, state_of_known}
use Rattle.dds_base.specs.Happening.{same_key}
use Rattle.dds_base.specs.Instance.{known_instances}
use Rattle.dds_base.specs.Life.{last_accepted}
use Rattle.dds_base.proofs.KeyLaws.{key-same}
use Rattle.dds_instances.specs.declared.known.KnownInstance.{KnownInstance}
use Rattle.dds_instances.specs.declared.track.InstanceTrack.{InstanceTrack}
use Rattle.dds_instances.specs.Following.{Each, key_of}
use Rattle.dds_instances.specs.Known.{IsKnown}
use Rattle.dds_instances.specs.Table.{Stands, Table}
use Rattle.dds_instances.specs.Track.{Tracks, state_of_track}
use Rattle.dds_instances.proofs.KnownLaws.{known}
use Rattle.dds_instances.proofs.StandingLaws.{told-tracked}
use Rattle.dds_cache.specs.declared.kept.Kept.{Kept}
use Rattle.dds_cache.specs.Finding.{is_asked_for, is_wanted}
use Rattle.dds_cache.specs.Kept.{IsKept}
use Rattle.dds_cache.specs.Standing.{Stored, StandsFor, qos_of}
use Rattle.dds_cache.proofs.CountLaws.{present-any}
use Rattle.dds_cache.proofs.FindingLaws.{found-is}

-- ---- an instance that both know

-- one track has followed the instance through both
record IsTracked (q : ReaderQos) (h g : List Happening) (i : Key) : Type 0 where
  pub track : InstanceTrack
  pub key_is : track.key ≡ i
  pub first : Tracks q track.key h track
  pub second : Tracks q track.key g track

tracked : (q : ReaderQos) (h g : List Happening) (i : Key) (ts : List InstanceTrack) → Each q h ts → Each q g ts
    → list_any (λ k. same_key k i) (map key_of ts) ≡ true → IsTracked q h g i
tracked q h g i [] first second there = absurd cc
tracked q h g i (t ∷ ts) first second there =
    ⊎_elim
    (λ same. record {
      track = t;
      key_is = key-same t.key i same;
      first = All-head (λ (x : InstanceTrack). Tracks q x.key h x) t ts first;
      second = All-head (λ (x : InstanceTrack). Tracks q x.key g x) t ts second;
    })
    (λ other. tracked q h g i ts (All-tail (λ (x : InstanceTrack). Tracks q x.key h x) t ts first)
    (All-tail (λ (x : InstanceTrack). Tracks q x.key g x) t ts second)
    (sym (ap (λ (b : Bool). b || list_any (λ k. same_key k i) (map key_of ts)) other) ∙ there))
    (cases_Bool (same_key t.key i))

-- what is told of a track
told_of : InstanceTrack → KnownInstance
told_of t = record {
  key = t.key;
  handle = t.handle;
  state = state_of_known (state_of_track t);
  view = if t.is_seen then NotNew else New;
  disposed_generations = t.disposed_generations;
  no_writers_generations = t.no_writers_generations;
  accepted_writes = t.accepted_writes;
  last_marker = t.last_marker;
}

told-is : (q : ReaderQos) (h : List Happening) (t : InstanceTrack) (i : Key) → t.key ≡ i → Tracks q t.key h t
    → list_any (λ k. same_key k i) (known_instances q h) ≡ true → IsKnown q h (told_of t)
unfolding told_of
told-is q h t i key tracks there =
    told-tracked q h t (told_of t) tracks
    (ap (λ (x : Key). is_some (last_accepted q x h)) key ∙ (sym (known q h i) ∙ there))
    refl refl refl refl refl refl refl refl

-- ---- a kept sample

wanted-alike : (q : ReaderQos) (table : Table) (h g : List Happening) (masks : Masks) (test : Key → List ℕ → Bool)
    (k : Kept) → Stands q table h → Stands q table g → IsKept q h k → IsKept q g k
    → is_wanted q h masks test k ≡ is_wanted q g masks test k
unfolding told_of
wanted-alike q table h g masks test k first second kept again =
    let i : Key = k.sample.key in
    let one : IsTracked q h g i =
    tracked q h g i table.tracks first.follows.each second.follows.each
    (ap (λ (ks : List Key). list_any (λ x. same_key x i) ks) first.follows.keys_are ∙ kept.is_known) in
    let told : KnownInstance = told_of one.track in
    sym (found-is q h masks test told k (told-is q h one.track i one.key_is one.first kept.is_known) one.key_is kept)
    ∙ found-is q g masks test told k (told-is q g one.track i one.key_is one.second again.is_known) one.key_is again

any-alike : (q : ReaderQos) (table : Table) (h g : List Happening) (masks : Masks) (test : Key → List ℕ → Bool)
    (ks : List Kept) → Stands q table h → Stands q table g → All (IsKept q h) ks → All (IsKept q g) ks
    → list_any (is_wanted q h masks test) ks ≡ list_any (is_wanted q g masks test) ks
any-alike q table h g masks test [] first second kept again = refl
any-alike q table h g masks test (k ∷ ks) first second kept again =
    ap (λ (b : Bool). b || list_any (is_wanted q h masks test) ks)
    (wanted-alike q table h g masks test k first second (All-head (IsKept q h) k ks kept)
    (All-head (IsKept q g) k ks again))
    ∙ ap (λ (b : Bool). is_wanted q g masks test k || b)
    (any-alike q table h g masks test ks first second (All-tail (IsKept q h) k ks kept)
    (All-tail (IsKept q g) k ks again))

-- ---- what is kept

-- some present sample matches by the one exactly where one does by the other
pub matches-alike : (stored : Stored) (h g : List Happening) (masks : Masks) (test : Key → List ℕ → Bool)
    → StandsFor stored h → StandsFor stored g
    → has_match (qos_of stored) h masks test ≡ has_match (qos_of stored) g masks test
matches-alike stored h g masks test first second =
    present-any stored.qos h (is_asked_for stored.qos h masks test) stored.samples first.each first.present
    ∙ (any-alike stored.qos stored.instances h g masks test stored.samples first.instances second.instances first.each
    second.each
    ∙ sym (present-any stored.qos g (is_asked_for stored.qos g masks test) stored.samples second.each second.present))

-- as much happened by the one as by the other
pub counts-alike : (stored : Stored) (h g : List Happening) → StandsFor stored h → StandsFor stored g
    → length h ≡ length g
counts-alike stored h g first second = sym first.instances.happened_is ∙ second.instances.happened_is
