-- What is kept of a sample. Inner functions cite this, and what a cache stands for, which nobody looks into: nothing
-- here has to be believed.
--
-- DDS 1.4, 2.2.2.5 (SampleInfo), 2.2.3 (HISTORY); RTPS 2.5, 8.2 (HistoryCache of a reader).
use Rattle.std.specs.Prelude.{◌≡◌, ℕ, ◌+◌, ◌-◌, ◌≤◌, List, [], ◌∷◌, ◌++◌, All, if◌then◌else◌, length, get_or, set, Bool, true, false, ◌&&◌, ◌||◌, map, filter, not, IsTrue, Option, MatchOption}
use Rattle.std.specs.List.{list_any, count_by}
use Rattle.dds_base.specs.declared.key.Key.{Key}
use Rattle.dds_base.specs.declared.happening.SamplePosition.{SamplePosition}
use Rattle.dds_base.specs.declared.happening.Happening.{Happening}
use Rattle.dds_base.specs.declared.qos.ReaderQos.{ReaderQos}
use Rattle.dds_base.specs.Happening.{same_key, same_sample, as_of, is_read, is_taken}
use Rattle.dds_base.specs.Instance.{disposed_generations, no_writers_generations, known_instances}
use Rattle.dds_base.specs.Presence.{is_present}
use Rattle.dds_base.specs.Life.{accepted_writes, ends_with_write, keeps, is_at}
use Rattle.dds_base.specs.declared.mask.SampleStateMask.{SampleStateMask}
use Rattle.dds_base.specs.declared.sample.SampleState.{SampleState}
use Rattle.dds_base.specs.declared.sample.SampleState.TheVariants.{Read as HasBeenRead, NotRead}
use Rattle.dds_base.specs.Access.{asks_for_sample_state, timestamp_of, publication_of, newest_value}
use Rattle.dds_cache.specs.Chains.{AreChainsOf}
use Rattle.dds_cache.specs.declared.summary.Summary.{Summary}
use Rattle.dds_cache.specs.declared.kept.Kept.{Kept}
use Rattle.dds_instances.specs.Known.{writes_in_life}
use Rattle.dds_instances.specs.declared.known.KnownInstance.{KnownInstance}

-- the sample of i at a position
abbrev pub sample_at : Key → ℕ → SamplePosition
sample_at i j = record { key = i; position = j }

-- what is kept of a sample by what had happened when its entry was the newest; its value, unless it is gone
pub record IsOf (q : ReaderQos) (past : List Happening) (k : Kept) : Type 0 where
  pub valid_is : k.valid_data ≡ ends_with_write q k.sample.key past
  pub disposed_is : k.disposed_generation_count ≡ disposed_generations q k.sample.key past
  pub no_writers_is : k.no_writers_generation_count ≡ no_writers_generations q k.sample.key past
  pub timestamp_is : k.source_timestamp ≡ timestamp_of past
  pub publication_is : k.publication_handle ≡ publication_of past
  pub value_is : k.is_out ≡ false → k.value ≡ newest_value q k.sample.key past

-- a sample of a known instance, with what is kept of it: one that is gone is not present, and no take returned another
-- one; as many writes were accepted since it as its number says
pub record IsKept (q : ReaderQos) (h : List Happening) (k : Kept) : Type 0 where
  pub in_past : k.sample.position ≤ length h
  pub is_known : IsTrue (list_any (λ i. same_key i k.sample.key) (known_instances q h))
  pub read_is : k.is_read ≡ is_read k.sample h
  pub out_is : k.is_out ≡ true → is_present q h k.sample.key k.sample.position ≡ false
  pub in_is : k.is_out ≡ false → is_taken k.sample h ≡ false
  pub numbered : accepted_writes q k.sample.key h + k.number
      ≡ writes_in_life q k.sample.key h + accepted_writes q k.sample.key (as_of k.sample.position h)
  pub is_of : IsOf q (as_of k.sample.position h) k

-- a kept sample is of instance i and present
abbrev pub is_here : ReaderQos → List Happening → Key → Kept → Bool
is_here q h i k = same_key k.sample.key i && is_present q h i k.sample.position

-- some sample of i is among those kept, and present
abbrev pub is_any_here : ReaderQos → List Happening → Key → List Kept → Bool
is_any_here q h i ks = list_any (is_here q h i) ks

-- the position of a kept sample
abbrev pub position_of : Kept → ℕ
position_of k = k.sample.position

-- the positions of the present samples of i, as they are kept
abbrev pub positions_in : ReaderQos → List Happening → Key → List Kept → List ℕ
positions_in q h i ks = map position_of (filter (is_here q h i) ks)

-- by how many writes of its instance were accepted in its life, and its last marker, a kept sample is not gone, and is a
-- write that the history keeps, or that marker
abbrev pub is_live_by : ReaderQos → ℕ → Option ℕ → Kept → Bool
is_live_by q accepted marker k =
    not k.is_out && ((k.valid_data && keeps q.history (accepted - k.number)) || is_at marker k.sample.position)

-- the same by what is known of its instance
abbrev pub is_live : ReaderQos → KnownInstance → Kept → Bool
is_live q known k = is_live_by q known.accepted_writes known.last_marker k

-- no access returned what i has next
pub record IsFresh (h : List Happening) (i : Key) : Type 0 where
  pub unread : is_read (sample_at i (length h + 1)) h ≡ false
  pub untaken : is_taken (sample_at i (length h + 1)) h ≡ false

-- the sample of i at position n is kept, and is present
pub record IsKeptAt (q : ReaderQos) (h : List Happening) (i : Key) (n : ℕ) (k : Kept) : Type 0 where
  pub sample_is : k.sample ≡ sample_at i n
  pub kept : IsKept q h k
  pub present : is_present q h i n ≡ true

-- the newest entry left this of instance i: what is kept of its sample, if that is present
abbrev pub IsLeftBy : ReaderQos → Happening → List Happening → Key → Option Kept → Type 0
IsLeftBy q e h i left = MatchOption left (is_present q (e ∷ h) i (length h + 1) ≡ false)
    (IsKeptAt q (e ∷ h) i (length h + 1))

-- the value, if it counts
abbrev pub value_if : Bool → List ℕ → List ℕ
value_if is_write value = if is_write then value else []

-- a kept sample is at position n, and present
abbrev pub IsNewAt : ReaderQos → List Happening → ℕ → Kept → Type 0
IsNewAt q h n k = (k.sample.position ≡ n) × (is_present q h k.sample.key n ≡ true)

-- the present samples that an entry left of each instance are added to those kept
pub record Adds (q : ReaderQos) (e : Happening) (h : List Happening) (old new : List Kept) : Type 0 where
  pub added : List Kept
  pub are : new ≡ old ++ added
  pub each : All (IsKept q (e ∷ h)) added
  pub present : (i : Key) → filter (is_present q (e ∷ h) i) ((length h + 1) ∷ []) ≡ positions_in q (e ∷ h) i added
  pub new_are : All (IsNewAt q (e ∷ h) (length h + 1)) added

-- the sample is among those that were returned
abbrev pub is_among : List SamplePosition → Kept → Bool
is_among ss k = list_any (same_sample k.sample) ss

-- a kept sample, marked as read if so
abbrev pub read_if : Bool → Kept → Kept
read_if read k = record k { is_read = read || k.is_read }

-- a kept sample, marked as one that is gone if so, and without its value then
abbrev pub out_if : Bool → Kept → Kept
out_if out k = record k { is_out = out || k.is_out; value = if out then [] else k.value }

-- of the kept samples the one at a place is marked as gone, and this was its value
pub record IsOutAt (place : ℕ) (old : List Kept) (value : List ℕ) (new : List Kept) : Type 0 where
  pub before : Kept
  pub before_is : before ≡ get_or old place before
  pub new_is : new ≡ set old place (out_if true before)
  pub value_is : value ≡ before.value

-- a kept sample after a read that returned these
abbrev pub marked : List SamplePosition → Kept → Kept
marked ss k = read_if (is_among ss k) k

-- a kept sample after a take that returned these
abbrev pub taken : List SamplePosition → Kept → Kept
taken ss k = out_if (is_among ss k) k

-- a kept sample is not gone
abbrev pub is_in : Kept → Bool
is_in k = not k.is_out

-- a kept sample is gone
abbrev pub is_gone : Kept → Bool
is_gone k = k.is_out

-- a kept sample is not gone, and a read returned it
abbrev pub was_read : Kept → Bool
was_read k = not k.is_out && k.is_read

-- a kept sample is not gone, and has data
abbrev pub has_data : Kept → Bool
has_data k = not k.is_out && k.valid_data

-- what is known of the kept samples together is right: so many are gone; of the others so many were read, and so many have
-- data; and where those of each instance are
pub record IsSummary (ks : List Kept) (summary : Summary) : Type 0 where
  pub outs : summary.outs ≡ count_by is_gone ks
  pub reads : summary.reads ≡ count_by was_read ks
  pub writes : summary.writes ≡ count_by has_data ks
  pub chains : AreChainsOf ks summary.chains

-- the sample state of a kept sample
abbrev pub sample_state_in : Kept → SampleState
sample_state_in k = if k.is_read then HasBeenRead else NotRead

-- a mask does not ask for the sample state of a kept sample, or that is gone
abbrev pub IsUnasked : SampleStateMask → Kept → Type 0
IsUnasked mask k = k.is_out ≡ false → asks_for_sample_state mask (sample_state_in k) ≡ false

-- a kept sample that has data and is not gone is present
abbrev pub IsUpToDate : ReaderQos → List Happening → Kept → Type 0
IsUpToDate q h k = has_data k ≡ true → is_present q h k.sample.key k.sample.position ≡ true
