-- What is kept of a sample stays true of it, and says whether it is present.
use Rattle.std.proofs.Common.{◌≡◌, ℕ, ◌+◌, ◌-◌, List, [], ◌∷◌, length, Bool, true, false, not, ◌&&◌, ◌||◌, sym, ap, ◌∙◌, refl, subst, Option, Some, None, arith, ⊎_elim}
use Rattle.std.specs.Prelude.{if◌then◌else◌, is_some, IfSome, MatchOption}
use Rattle.std.specs.List.{list_any}
use Rattle.std.proofs.lemmas.Bool.{cases_Bool, or_cases, or_from, or_parts}
use Rattle.dds_base.specs.declared.key.Key.{Key}
use Rattle.dds_base.specs.declared.happening.Arrival.{Arrival}
use Rattle.dds_base.specs.declared.happening.Happening.TheVariants.{Came}
use Rattle.dds_base.specs.declared.happening.SamplePosition.{SamplePosition}
use Rattle.dds_base.specs.declared.happening.Happening.{Happening}
use Rattle.dds_base.specs.declared.qos.ReaderQos.{ReaderQos}
use Rattle.dds_base.specs.Happening.{same_key, as_of, is_read, is_taken, read_by, taken_by, same_sample}
use Rattle.dds_base.specs.declared.change.ChangeKind.{ChangeKind}
use Rattle.dds_base.specs.declared.sample.InstanceState.{InstanceState}
use Rattle.dds_base.specs.Ownership.{accepted_kind, registered_writers}
use Rattle.dds_base.specs.Instance.{is_known, known_instances, instance_state_of, disposed_generations, no_writers_generations}
use Rattle.dds_base.specs.Life.{state_after, is_nobody, is_write, last_accepted, is_kept_write, keeps, is_at, last_marker, accepted_writes, ends_life, ends_with_write}
use Rattle.dds_base.specs.Presence.{is_present}
use Rattle.dds_base.specs.Access.{newest_value}
use Rattle.dds_base.proofs.LifeLaws.{as_of-older, as_of-newest}
use Rattle.dds_instances.specs.declared.known.KnownInstance.{KnownInstance}
use Rattle.dds_instances.specs.Known.{IsKnown, writes_in_life}
use Rattle.dds_instances.proofs.KnownLaws.{known}
use Rattle.dds_cache.specs.declared.kept.Kept.{Kept}
use Rattle.dds_cache.specs.Kept.{IsKept, IsOf, IsFresh, is_live, is_live_by, out_if, sample_at, value_if}
use Rattle.dds_cache.proofs.EndLaws.{known-lives}
use Rattle.dds_cache.proofs.PresenceLaws.{absent-after, unstated}

-- some kept sample, of which nothing is said but which it is
pub some_kept : SamplePosition → Kept
some_kept s = record {
  sample = s;
  number = 0;
  is_read = false;
  is_out = false;
  valid_data = false;
  disposed_generation_count = 0;
  no_writers_generation_count = 0;
  source_timestamp = 0;
  publication_handle = 0;
  value = [];
}

-- ---- one more entry

-- a count that goes on keeps its distance from one that is never reset
number-next : (ends : Bool) (more all own past number : ℕ) → ends ≡ false → all + number ≡ own + past
    → all + more + number ≡ (if ends then 0 else own + more) + past
number-next true more all own past number is before = absurd (let clash : true ≡ false = is in cc)
number-next false more all own past number is before = omega (arith, before)

-- of an instance that is still known
pub kept-next : (q : ReaderQos) (e : Happening) (h : List Happening) (k : Kept) (r o : Bool) (v : List ℕ)
    → is_known q (e ∷ h) k.sample.key ≡ true → r ≡ (list_any (same_sample k.sample) (read_by e) || k.is_read)
    → o ≡ (list_any (same_sample k.sample) (taken_by e) || k.is_out) → (o ≡ false → v ≡ k.value) → IsKept q h k
    → IsKept q (e ∷ h) (record k { is_read = r; is_out = o; value = v })
kept-next q e h k r o v lives read_is out_is value_is kept =
    let i : Key = k.sample.key in
    let older : as_of k.sample.position (e ∷ h) ≡ as_of k.sample.position h =
    as_of-older e h k.sample.position kept.in_past in
    let past : IsOf q (as_of k.sample.position (e ∷ h)) k =
    subst (λ (g : List Happening). IsOf q g k) (sym older) kept.is_of in
    record {
      in_past = omega (arith, kept.in_past);
      is_known = known q (e ∷ h) i ∙ lives;
      numbered =
          number-next (ends_life q i h e) (if is_write (accepted_kind q i h e) then 1 else 0) _ _ _ k.number
          (known-lives q e h i lives) kept.numbered
          ∙ ap (λ (g : List Happening). writes_in_life q i (e ∷ h) + accepted_writes q i g) (sym older);
      out_is = λ out. ⊎_elim
          (λ taken. absent (ap (λ (b : Bool). b || is_taken k.sample h) taken))
          (λ gone. absent-after q e h i k.sample.position kept.in_past (kept.out_is gone))
          (or_cases (list_any (same_sample k.sample) (taken_by e)) k.is_out (sym out_is ∙ out));
      in_is = λ stays.
          let others = or_parts (list_any (same_sample k.sample) (taken_by e)) k.is_out (sym out_is ∙ stays) in
          or_from (list_any (same_sample k.sample) (taken_by e)) (is_taken k.sample h) others.0 (kept.in_is others.1);
      read_is = read_is ∙ ap (λ (b : Bool). list_any (same_sample k.sample) (read_by e) || b) kept.read_is;
      is_of =
          record {
            valid_is = past.valid_is;
            disposed_is = past.disposed_is;
            no_writers_is =
                past.no_writers_is;
            timestamp_is = past.timestamp_is;
            publication_is = past.publication_is;
            value_is =
                λ stays. value_is stays
                ∙ past.value_is
                (or_parts (list_any (same_sample k.sample) (taken_by e)) k.is_out (sym out_is ∙ stays)).1;
          };
    }
  where
    absent : is_taken k.sample (e ∷ h) ≡ true → is_present q (e ∷ h) k.sample.key k.sample.position ≡ false
    absent taken = ap (λ (b : Bool). not b && (is_kept_write q (e ∷ h) k.sample.key k.sample.position
        || is_at (last_marker q k.sample.key (e ∷ h)) k.sample.position)) taken

-- one that is not present may be marked as gone
pub kept-let : (q : ReaderQos) (h : List Happening) (k : Kept) → IsKept q h k
    → is_present q h k.sample.key k.sample.position ≡ false → IsKept q h (out_if true k)
kept-let q h k kept absent = record {
  in_past = kept.in_past;
  is_known = kept.is_known;
  read_is = kept.read_is;
  out_is = λ _. absent;
  in_is = λ stays. absurd (let clash : true ≡ false = stays in cc);
  numbered = kept.numbered;
  is_of = record {
    valid_is = kept.is_of.valid_is;
    disposed_is = kept.is_of.disposed_is;
    no_writers_is = kept.is_of.no_writers_is;
    timestamp_is = kept.is_of.timestamp_is;
    publication_is = kept.is_of.publication_is;
    value_is = λ stays. absurd (let clash : true ≡ false = stays in cc);
  };
}

-- ---- whether a kept sample is present

-- by how many writes of its instance were accepted in its life, and its last marker
pub live-by-present : (q : ReaderQos) (h : List Happening) (k : Kept) → IsKept q h k
    → is_live_by q (writes_in_life q k.sample.key h) (last_marker q k.sample.key h) k
    ≡ is_present q h k.sample.key k.sample.position
live-by-present q h k kept =
    let i : Key = k.sample.key in
    let j : ℕ = k.sample.position in
    let later : writes_in_life q i h - k.number ≡ accepted_writes q i h - accepted_writes q i (as_of j h) =
    omega (arith, kept.numbered) in
    ⊎_elim
    (λ out. ap (λ (b : Bool). not b && ((k.valid_data && keeps q.history (writes_in_life q i h - k.number))
    || is_at (last_marker q i h) j)) out
    ∙ sym (kept.out_is out))
    (λ stays. ap (λ (b : Bool). not k.is_out && ((b && keeps q.history (writes_in_life q i h - k.number))
    || is_at (last_marker q i h) j)) kept.is_of.valid_is
    ∙ (ap (λ (n : ℕ). not k.is_out && ((ends_with_write q i (as_of j h) && keeps q.history n)
    || is_at (last_marker q i h) j)) later
    ∙ ap (λ (b : Bool). not b && (is_kept_write q h i j || is_at (last_marker q i h) j))
    (stays ∙ sym (kept.in_is stays))))
    (cases_Bool k.is_out)

pub not-true : (b : Bool) → not b ≡ true → b ≡ false
not-true true e = absurd (let clash : false ≡ true = e in cc)
not-true false e = refl

-- a kept sample that is present is not gone
pub present-in : (q : ReaderQos) (h : List Happening) (k : Kept) → IsKept q h k
    → is_present q h k.sample.key k.sample.position ≡ true → k.is_out ≡ false
present-in q h k kept present =
    ⊎_elim
    (λ out. absurd (let clash : true ≡ false = sym present ∙ kept.out_is out in cc))
    (λ stays. stays)
    (cases_Bool k.is_out)

-- what is known of an instance says of a kept sample of it whether it is live
pub live-known : (q : ReaderQos) (h : List Happening) (known : KnownInstance) (k : Kept) → IsKnown q h known
    → known.key ≡ k.sample.key
    → is_live q known k ≡ is_live_by q (writes_in_life q k.sample.key h) (last_marker q k.sample.key h) k
live-known q h known k is_known key =
    ap (λ (n : ℕ). is_live_by q n known.last_marker k)
    (is_known.writes_are ∙ ap (λ (x : Key). writes_in_life q x h) key)
    ∙ ap (λ (m : Option ℕ). is_live_by q (writes_in_life q k.sample.key h) m k)
    (is_known.marker_is ∙ ap (λ (x : Key). last_marker q x h) key)

pub live-present : (q : ReaderQos) (h : List Happening) (known : KnownInstance) (k : Kept) → IsKnown q h known
    → known.key ≡ k.sample.key → IsKept q h k → is_live q known k ≡ is_present q h k.sample.key k.sample.position
live-present q h known k is_known key kept = live-known q h known k is_known key ∙ live-by-present q h k kept

-- ---- the newest sample

-- what is known of the newest entry's sample of an instance
pub record IsNewest (q : ReaderQos) (g : List Happening) (k : Kept) : Type 0 where
  pub number_is : k.number ≡ writes_in_life q k.sample.key g
  pub read_is : k.is_read ≡ false
  pub is_of : IsOf q g k

state-some : (last : Option ChangeKind) (nobody : Bool) (s : InstanceState) → state_after last nobody ≡ Some s
    → is_some last ≡ true
state-some None nobody s e = absurd cc
state-some (Some k) nobody s e = refl

-- an instance with a state is known
pub known-stated : (q : ReaderQos) (g : List Happening) (i : Key) (s : InstanceState) → instance_state_of q i g ≡ Some s
    → list_any (λ k. same_key k i) (known_instances q g) ≡ true
known-stated q g i s is = known q g i ∙ state-some (last_accepted q i g) (is_nobody (registered_writers q i g)) s is

-- an instance is known exactly where something is told of it
pub known-told : (q : ReaderQos) (h : List Happening) (i : Key) (told : Option KnownInstance)
    → MatchOption told (instance_state_of q i h ≡ None) (λ (k : KnownInstance). k.key ≡ i) → IfSome told (IsKnown q h)
    → is_known q h i ≡ is_some told
known-told q h i None none is =
    ap (λ (l : Option ChangeKind). is_some l) (unstated (last_accepted q i h) (is_nobody (registered_writers q i h)) none)
known-told q h i (Some k) key is =
    ap (λ (x : Key). is_known q h x) (sym key)
    ∙ (sym (known q h k.key) ∙ known-stated q h k.key k.state is.state_is)

-- the instance of a kept sample has a state
pub kept-stated : (q : ReaderQos) (h : List Happening) (k : Kept) → IsKept q h k
    → instance_state_of q k.sample.key h ≡ None → ⊥
kept-stated q h k kept none =
    let last : last_accepted q k.sample.key h ≡ None =
    unstated (last_accepted q k.sample.key h) (is_nobody (registered_writers q k.sample.key h)) none in
    let is : true ≡ is_some (last_accepted q k.sample.key h) = sym kept.is_known ∙ known q h k.sample.key in
    let clash : true ≡ false = is ∙ ap (λ (l : Option ChangeKind). is_some l) last in cc

pub kept-newest : (q : ReaderQos) (e : Happening) (h : List Happening) (i : Key) (known_is : KnownInstance) (k : Kept)
    → taken_by e ≡ [] → read_by e ≡ [] → IsFresh h i → k.sample ≡ sample_at i (length h + 1)
    → k.is_out ≡ false → IsKnown q (e ∷ h) known_is → known_is.key ≡ i → IsNewest q (e ∷ h) k → IsKept q (e ∷ h) k
kept-newest q e h i known_is k taken read fresh sample stays is_known key newest =
    let at : k.sample.position ≡ length h + 1 = ap (λ (s : SamplePosition). s.position) sample in
    let key_is : k.sample.key ≡ i = ap (λ (s : SamplePosition). s.key) sample in
    let now : as_of k.sample.position (e ∷ h) ≡ e ∷ h = ap (λ (n : ℕ). as_of n (e ∷ h)) at ∙ as_of-newest e h in
    record {
      in_past = omega (arith, at);
      is_known =
          ap (λ (x : Key). list_any (λ y. same_key y x) (known_instances q (e ∷ h))) (key_is ∙ sym key)
          ∙ known-stated q (e ∷ h) known_is.key known_is.state is_known.state_is;
      out_is = λ out. absurd (let clash : true ≡ false = sym out ∙ stays in cc);
      in_is = λ _.
          ap (λ (ss : List SamplePosition). list_any (same_sample k.sample) ss || is_taken k.sample h) taken
          ∙ (ap (λ (s : SamplePosition). is_taken s h) sample ∙ fresh.untaken);
      read_is =
          newest.read_is
          ∙ sym (ap (λ (ss : List SamplePosition). list_any (same_sample k.sample) ss || is_read k.sample h) read
          ∙ (ap (λ (s : SamplePosition). is_read s h) sample ∙ fresh.unread));
      numbered =
          (let sum : accepted_writes q k.sample.key (e ∷ h) + k.number
          ≡ writes_in_life q k.sample.key (e ∷ h) + accepted_writes q k.sample.key (e ∷ h) =
          omega (arith, newest.number_is) in sum)
          ∙ ap (λ (g : List Happening). writes_in_life q k.sample.key (e ∷ h) + accepted_writes q k.sample.key g)
          (sym now);
      is_of = subst (λ (g : List Happening). IsOf q g k) (sym now) newest.is_of;
    }

-- a kept sample is live exactly where it is present, at its position
pub live-at : (q : ReaderQos) (g : List Happening) (i : Key) (n : ℕ) (known_is : KnownInstance) (k : Kept) (b : Bool)
    → IsKnown q g known_is → known_is.key ≡ i → k.sample ≡ sample_at i n → IsKept q g k → is_live q known_is k ≡ b
    → is_present q g i n ≡ b
live-at q g i n known_is k b is_known key sample kept live =
    let key_is : k.sample.key ≡ i = ap (λ (s : SamplePosition). s.key) sample in
    ap (λ (s : SamplePosition). is_present q g s.key s.position) (sym sample)
    ∙ (sym (live-present q g known_is k is_known (key ∙ sym key_is) kept) ∙ live)

-- what is kept of a change that came, by what is known of its instance then
pub newest-came : (q : ReaderQos) (a : Arrival) (h : List Happening) (known_is : KnownInstance) (k : Kept)
    → IsKnown q (Came a ∷ h) known_is → known_is.key ≡ a.change.key → k.sample.key ≡ a.change.key
    → k.valid_data ≡ ends_with_write q a.change.key (Came a ∷ h) → k.number ≡ known_is.accepted_writes
    → k.disposed_generation_count ≡ known_is.disposed_generations
    → k.no_writers_generation_count ≡ known_is.no_writers_generations → k.source_timestamp ≡ a.change.source_timestamp
    → k.publication_handle ≡ a.writer → k.value ≡ value_if k.valid_data a.change.value → k.is_read ≡ false
    → IsNewest q (Came a ∷ h) k
newest-came q a h known_is k is_known key sample valid number disposed no_writers timestamp publication value unread =
    let g : List Happening = Came a ∷ h in
    let same : known_is.key ≡ k.sample.key = key ∙ sym sample in
    record {
      number_is = number ∙ (is_known.writes_are ∙ ap (λ (x : Key). writes_in_life q x g) same);
      read_is = unread;
      is_of = record {
        valid_is = valid ∙ ap (λ (x : Key). ends_with_write q x g) (sym sample);
        disposed_is = disposed ∙ (is_known.disposed_is ∙ ap (λ (x : Key). disposed_generations q x g) same);
        no_writers_is = no_writers ∙ (is_known.no_writers_is ∙ ap (λ (x : Key). no_writers_generations q x g) same);
        timestamp_is = timestamp;
        publication_is = publication;
        value_is =
            λ _. value ∙ (ap (λ (b : Bool). value_if b a.change.value) valid
            ∙ ap (λ (x : Key). newest_value q x g) (sym sample));
      };
    }
