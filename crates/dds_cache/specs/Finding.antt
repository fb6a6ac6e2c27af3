-- The samples that an access finds among those that are kept. Inner functions alone cite this: nothing here has to be
-- believed.
--
-- DDS 1.4, 2.2.2.5 (read, take: sample_states, view_states, instance_states).
use Rattle.std.specs.Prelude.{◌≡◌, ℕ, ◌+◌, ◌<◌, ◌≤◌, ◌^◌, List, length, Bool, true, false, ◌&&◌, ◌==◌, nat_lt, map, filter, All, Option, IsTrue, MatchOption, slice_index_or}
use Rattle.std.specs.List.{list_any, count_by}
use Rattle.std.specs.List.Sorted.{IsNonDecreasingBy}
use Rattle.dds_base.specs.declared.happening.SamplePosition.{SamplePosition}
use Rattle.dds_base.specs.declared.happening.Happening.{Happening}
use Rattle.dds_base.specs.declared.key.Key.{Key}
use Rattle.dds_base.specs.declared.mask.Masks.{Masks}
use Rattle.dds_base.specs.declared.sample.SampleState.{SampleState}
use Rattle.dds_instances.specs.declared.known.KnownInstance.{KnownInstance}
use Rattle.dds_base.specs.declared.sample.ViewState.{ViewState}
use Rattle.dds_base.specs.declared.sample.InstanceState.{InstanceState}
use Rattle.dds_base.specs.declared.sample.Picked.{Picked}
use Rattle.dds_base.specs.declared.qos.ReaderQos.{ReaderQos}
use Rattle.dds_base.specs.declared.selection.Selection.{Selection}
use Rattle.dds_base.specs.declared.selection.Selection.TheVariants.{Any, Instance, NextInstance, NextSample}
use Rattle.dds_base.specs.Happening.{same_key}
use Rattle.dds_base.specs.Instance.{instance_state_of, known_instances, view_state_of}
use Rattle.dds_base.specs.Presence.{is_present}
use Rattle.dds_base.specs.Life.{up_to}
use Rattle.dds_base.specs.Access.{asks_for_sample_state, asks_for_view_state, asks_for_instance_state, meets, picked_of, own_generations, handle_of, value_of, matching_samples}
use Rattle.dds_cache.specs.declared.kept.Kept.{Kept}
use Rattle.dds_cache.specs.declared.access.Candidate.{Candidate}
use Rattle.dds_cache.specs.Kept.{IsKept, IsUpToDate, is_among, position_of, positions_in, sample_state_in}
use Rattle.dds_instances.specs.Table.{Table, Stands}

-- the masks ask for these states
abbrev pub are_asked_for : Masks → SampleState → ViewState → Option InstanceState → Bool
are_asked_for masks sample view instance =
    asks_for_sample_state masks.samples sample
    && (asks_for_view_state masks.views view && asks_for_instance_state masks.instances instance)

-- the sample meets the masks, and passes the test
abbrev pub is_asked_for : ReaderQos → List Happening → Masks → (Key → List ℕ → Bool) → SamplePosition → Bool
is_asked_for q h masks test s = meets q h masks s && test s.key (value_of q h s)

-- the masks ask for the view state and the state of an instance
abbrev pub asks_for_states : ReaderQos → List Happening → Masks → Key → Bool
asks_for_states q h masks i =
    asks_for_view_state masks.views (view_state_of q i h)
    && asks_for_instance_state masks.instances (instance_state_of q i h)

-- a kept sample is not present, or does not meet the masks
abbrev pub IsUnmet : ReaderQos → List Happening → Masks → Kept → Type 0
IsUnmet q h masks k = (is_present q h k.sample.key k.sample.position && meets q h masks k.sample) ≡ false

-- a kept sample is present, meets the masks, and passes the test
abbrev pub is_wanted : ReaderQos → List Happening → Masks → (Key → List ℕ → Bool) → Kept → Bool
is_wanted q h masks test k = is_present q h k.sample.key k.sample.position && is_asked_for q h masks test k.sample

-- a kept sample is present and passes a test
abbrev pub passes : ReaderQos → List Happening → (SamplePosition → Bool) → Kept → Bool
passes q h test k = is_present q h k.sample.key k.sample.position && test k.sample

-- an access asks for the instance of a handle
abbrev pub asks_for : Selection → ℕ → Bool
asks_for (Any max masks) n = true
asks_for (Instance handle max masks) n = n == handle
asks_for (NextInstance previous max masks) n = nat_lt previous n
asks_for NextSample n = true

-- a sample meets the masks, passes the test, and is of an instance that an access asks for
abbrev pub is_sought : ReaderQos → List Happening → Selection → Masks → (Key → List ℕ → Bool) → SamplePosition → Bool
is_sought q h selection masks test s = asks_for selection (handle_of q h s.key) && is_asked_for q h masks test s

-- the instances and the samples are those of what happened: the samples stand in the order in which they came, and each
-- that has data and is not gone is present
pub record Holds (q : ReaderQos) (table : Table) (ks : List Kept) (h : List Happening) : Type 0 where
  pub instances : Stands q table h
  pub each : All (IsKept q h) ks
  pub present : (i : Key) → filter (is_present q h i) (up_to (length h)) ≡ positions_in q h i ks
  pub in_order : IsNonDecreasingBy position_of ks
  pub up_to_date : All (IsUpToDate q h) ks

-- a kept sample is of instance i, or present if it has data and is not gone
abbrev pub IsOfOrUpToDate : ReaderQos → List Happening → Key → Kept → Type 0
IsOfOrUpToDate q h i k = same_key k.sample.key i ≡ false → IsUpToDate q h k

-- the same, but for the samples of instance i: of those a change may have pushed some out
pub record HoldsBut (q : ReaderQos) (table : Table) (ks : List Kept) (h : List Happening) (i : Key) : Type 0 where
  pub instances : Stands q table h
  pub each : All (IsKept q h) ks
  pub present : (i : Key) → filter (is_present q h i) (up_to (length h)) ≡ positions_in q h i ks
  pub in_order : IsNonDecreasingBy position_of ks
  pub others : All (IsOfOrUpToDate q h i) ks

-- a candidate is the kept sample at an index, described
pub record IsCandidate (q : ReaderQos) (h : List Happening) (ks : List Kept) (c : Candidate) : Type 0 where
  pub within : c.at < length ks
  pub there : (d : Kept) → (slice_index_or ks c.at d).sample ≡ c.sample
  pub is_known : IsTrue (list_any (λ i. same_key i c.sample.key) (known_instances q h))
  pub present : is_present q h c.sample.key c.sample.position ≡ true
  pub picked_is : c.picked ≡ picked_of q h c.sample
  pub small : own_generations c.picked < 2 ^ 64

-- the sample of a candidate
abbrev pub sample_in : Candidate → SamplePosition
sample_in c = c.sample

-- the sample of a kept one
abbrev pub sample_of : Kept → SamplePosition
sample_of k = k.sample

-- the handle of a candidate's instance
abbrev pub handle_in : Candidate → ℕ
handle_in c = c.picked.instance_handle

-- what is known of a candidate before its ranks
abbrev pub picked_in : Candidate → Picked
picked_in c = c.picked

-- the candidates are the wanted ones of a list of kept samples, in their order
pub record AreCandidates (q : ReaderQos) (h : List Happening) (masks : Masks) (test : Key → List ℕ → Bool)
    (ks wanted : List Kept) (cs : List Candidate) : Type 0 where
  pub samples_are : map sample_in cs ≡ map sample_of (filter (is_wanted q h masks test) wanted)
  pub each : All (IsCandidate q h ks) cs

-- what is said of a kept sample before its ranks, by what is known of its instance
abbrev pub described_by : Kept → KnownInstance → Picked
described_by k known = record {
  sample_state = sample_state_in k;
  view_state = known.view;
  instance_state = known.state;
  disposed_generation_count = k.disposed_generation_count;
  no_writers_generation_count = k.no_writers_generation_count;
  instance_generations = known.disposed_generations + known.no_writers_generations;
  source_timestamp = k.source_timestamp;
  instance_handle = known.handle;
  publication_handle = k.publication_handle;
  valid_data = k.valid_data;
}

-- a kept sample is wanted, and found as a candidate
pub record IsFound (q : ReaderQos) (h : List Happening) (masks : Masks) (test : Key → List ℕ → Bool) (k : Kept) (at : ℕ)
    (c : Candidate) : Type 0 where
  pub wanted : is_wanted q h masks test k ≡ true
  pub sample_is : c.sample ≡ k.sample
  pub picked_is : c.picked ≡ picked_of q h k.sample
  pub at_is : c.at ≡ at
  pub small : own_generations c.picked < 2 ^ 64

-- whether a kept sample is wanted, as the candidate that it is then
abbrev pub TellsFound : ReaderQos → List Happening → Masks → (Key → List ℕ → Bool) → Kept → ℕ → Option Candidate
    → Type 0
TellsFound q h masks test k at found =
    MatchOption found (is_wanted q h masks test k ≡ false) (IsFound q h masks test k at)

-- the counts of a kept sample can be added
abbrev pub IsSmall : Kept → Type 0
IsSmall k = k.disposed_generation_count + k.no_writers_generation_count < 2 ^ 64

-- a candidate stands among n kept samples, and its counts can be added
pub record IsPlaced (n : ℕ) (c : Candidate) : Type 0 where
  pub within : c.at < n
  pub small : own_generations c.picked < 2 ^ 64

-- one of the candidates stands at a place
abbrev pub is_place : List Candidate → ℕ → Bool
is_place cs at = list_any (λ c. c.at == at) cs

-- the samples are those that are kept at the candidates' places
abbrev pub AreAt : List SamplePosition → List Candidate → List Kept → Type 0
AreAt ss cs ks = (at : ℕ) (d : Kept) → at < length ks → is_among ss (slice_index_or ks at d) ≡ is_place cs at

-- no two of the candidates stand at one place
abbrev pub AreApart : List Candidate → Type 0
AreApart cs = (at : ℕ) → count_by (λ c. c.at == at) cs ≤ 1

-- of the kept samples each is changed by whether a candidate stands at its place
pub record AreChanged (change : Bool → Kept → Kept) (cs : List Candidate) (old new : List Kept) : Type 0 where
  pub same_len : length new ≡ length old
  pub each : (at : ℕ) (d : Kept) → at < length old
      → slice_index_or new at d ≡ change (is_place cs at) (slice_index_or old at d)

-- what is found are the matching samples, in their order
pub record Finds (q : ReaderQos) (h : List Happening) (masks : Masks) (test : Key → List ℕ → Bool) (ks : List Kept)
    (cs : List Candidate) : Type 0 where
  pub samples_are : map sample_in cs ≡ matching_samples q h masks test
  pub each : All (IsCandidate q h ks) cs
