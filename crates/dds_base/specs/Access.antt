-- What a read or a take returns: which samples, and what it says of each.
--
-- DDS 1.4, 2.2.2.5 (read, take and their instance forms; SampleInfo).
use Rattle.std.specs.Prelude.{ℕ, zero, suc, ◌+◌, ◌-◌, List, [], ◌∷◌, length, take, find, Bool, true, false, ◌&&◌, ◌==◌, not, nat_lt, Option, None, Some, if◌then◌else◌, filter, map, count_by}
use Rattle.std.specs.Int.RustNames.{bit_and}
use Rattle.std.specs.List.{list_any}
use Rattle.dds_base.specs.declared.key.Key.{Key}
use Rattle.dds_base.specs.declared.happening.SamplePosition.{SamplePosition}
use Rattle.dds_base.specs.declared.happening.Happening.{Happening}
use Rattle.dds_base.specs.declared.happening.Happening.TheVariants.{Came, Died}
use Rattle.dds_base.specs.declared.mask.Masks.{Masks}
use Rattle.dds_base.specs.declared.mask.SampleStateMask.{SampleStateMask}
use Rattle.dds_base.specs.declared.mask.ViewStateMask.{ViewStateMask}
use Rattle.dds_base.specs.declared.mask.InstanceStateMask.{InstanceStateMask}
use Rattle.dds_base.specs.declared.sample.SampleState.{SampleState}
use Rattle.dds_base.specs.declared.sample.SampleState.TheVariants.{Read as HasBeenRead, NotRead}
use Rattle.dds_base.specs.declared.sample.ViewState.{ViewState}
use Rattle.dds_base.specs.declared.sample.ViewState.TheVariants.{New, NotNew}
use Rattle.dds_base.specs.declared.sample.InstanceState.{InstanceState}
use Rattle.dds_base.specs.declared.sample.InstanceState.TheVariants.{Alive, NotAliveDisposed, NotAliveNoWriters}
use Rattle.dds_base.specs.declared.sample.Picked.{Picked}
use Rattle.dds_base.specs.declared.sample.SampleInfo.{SampleInfo}
use Rattle.dds_base.specs.declared.sample.Sample.{Sample}
use Rattle.dds_base.specs.declared.qos.ReaderQos.{ReaderQos}
use Rattle.dds_base.specs.Happening.{as_of, is_read}
use Rattle.dds_base.specs.Ownership.{accepted_kind}
use Rattle.dds_base.specs.Instance.{instance_state_of, view_state_of, disposed_generations, no_writers_generations, generations_of, is_known, introduces, introduced_by, known_instances}
use Rattle.dds_base.specs.Life.{ends_with_write, is_write}
use Rattle.dds_base.specs.Presence.{present_samples}

-- READ if some read holds the sample (2.2.2.5, sample_state)
abbrev pub sample_state_of : List Happening → SamplePosition → SampleState
sample_state_of h s = if is_read s h then HasBeenRead else NotRead

-- the bit of a sample state in a mask: READ 1, NOT_READ 2 (2.3.3)
abbrev pub sample_state_bit : SampleState → ℕ
sample_state_bit HasBeenRead = 1
sample_state_bit NotRead = 2

-- the bit of a view state in a mask: NEW 1, NOT_NEW 2 (2.3.3)
abbrev pub view_state_bit : ViewState → ℕ
view_state_bit New = 1
view_state_bit NotNew = 2

-- the bit of an instance state in a mask: ALIVE 1, NOT_ALIVE_DISPOSED 2, NOT_ALIVE_NO_WRITERS 4 (2.3.3)
abbrev pub instance_state_bit : InstanceState → ℕ
instance_state_bit Alive = 1
instance_state_bit NotAliveDisposed = 2
instance_state_bit NotAliveNoWriters = 4

-- the mask has the bit
abbrev pub has_bit : ℕ → ℕ → Bool
has_bit mask bit = bit_and mask bit == bit

-- the mask asks for this sample state
abbrev pub asks_for_sample_state : SampleStateMask → SampleState → Bool
asks_for_sample_state mask state = has_bit mask.0 (sample_state_bit state)

-- the mask asks for this view state
abbrev pub asks_for_view_state : ViewStateMask → ViewState → Bool
asks_for_view_state mask state = has_bit mask.0 (view_state_bit state)

-- the mask asks for this instance state; an instance that is not known has none, and no mask asks for it
abbrev pub asks_for_instance_state : InstanceStateMask → Option InstanceState → Bool
asks_for_instance_state mask None = false
asks_for_instance_state mask (Some state) = has_bit mask.0 (instance_state_bit state)

-- the sample meets the three masks, by the states as they stand
abbrev pub meets : ReaderQos → List Happening → Masks → SamplePosition → Bool
meets q h masks s =
    asks_for_sample_state masks.samples (sample_state_of h s)
    && (asks_for_view_state masks.views (view_state_of q s.key h)
    && asks_for_instance_state masks.instances (instance_state_of q s.key h))

-- the value of the newest entry, if it is an accepted write of i, else the empty one
abbrev pub newest_value : ReaderQos → Key → List Happening → List ℕ
newest_value q i (Came a ∷ h) = if is_write (accepted_kind q i h (Came a)) then a.change.value else []
newest_value q i _ = []

-- the value of a sample; a marker has the empty one
abbrev pub value_of : ReaderQos → List Happening → SamplePosition → List ℕ
value_of q h s = newest_value q s.key (as_of s.position h)

-- the present samples that meet the masks and pass the filter, by handle and then by position
abbrev pub matching_samples : ReaderQos → List Happening → Masks → (Key → List ℕ → Bool) → List SamplePosition
matching_samples q h masks passes =
    filter (λ s. meets q h masks s && passes s.key (value_of q h s)) (present_samples q h)

-- the first of them, so many at most
abbrev pub at_most : {X : Type 0} → Option ℕ → List X → List X
at_most None xs = xs
at_most (Some max) xs = take max xs

-- what a read or a take returns: the matching samples, max at most (2.2.2.5, read and take)
abbrev pub picked_samples : ReaderQos → List Happening → Option ℕ → Masks → (Key → List ℕ → Bool) → List SamplePosition
picked_samples q h max masks passes = at_most max (matching_samples q h masks passes)

-- some present sample meets the masks and passes the filter (2.2.2.5, get_trigger_value of a read condition)
abbrev pub has_match : ReaderQos → List Happening → Masks → (Key → List ℕ → Bool) → Bool
has_match q h masks passes =
    list_any (λ (s : SamplePosition). meets q h masks s && passes s.key (value_of q h s)) (present_samples q h)

-- no filter: each key and value passes
abbrev pub no_filter : Key → List ℕ → Bool
no_filter key value = true

-- not read before, of any instance
abbrev pub not_read : Masks
not_read = record { samples = record { 0 = 2 }; views = record { 0 = 65535 }; instances = record { 0 = 65535 } }

-- the next sample that was not read (2.2.2.5, read_next_sample and take_next_sample)
abbrev pub picked_next_sample : ReaderQos → List Happening → List SamplePosition
picked_next_sample q h = picked_samples q h (Some 1) not_read no_filter

-- how many lives of instances have begun
abbrev pub lives_begun : ReaderQos → List Happening → ℕ
lives_begun q [] = 0
lives_begun q (e ∷ h) = lives_begun q h + length (introduced_by q h e)

-- the handle of an instance: how many lives had begun with its own, HANDLE_NIL for an unknown one (2.2.2.5,
-- instance_handle)
abbrev pub handle_of : ReaderQos → List Happening → Key → ℕ
handle_of q [] i = 0
handle_of q (e ∷ h) i =
    if not (is_known q (e ∷ h) i) then 0
    else (if introduces q i h e then lives_begun q (e ∷ h) else handle_of q h i)

-- the instance of a handle, none for an unknown one (2.2.2.5, get_key_value)
abbrev pub instance_of : ReaderQos → List Happening → ℕ → Option Key
instance_of q h zero = None
instance_of q h (suc n) = find (λ i. handle_of q h i == suc n) (known_instances q h)

-- the same of one instance (2.2.2.5, read_instance)
abbrev pub picked_of_instance : ReaderQos → List Happening → Option ℕ → Masks → (Key → List ℕ → Bool) → ℕ
    → List SamplePosition
picked_of_instance q h max masks passes handle =
    at_most max (filter (λ (s : SamplePosition). handle_of q h s.key == handle) (matching_samples q h masks passes))

-- the handle of the first sample whose handle is above n, 0 for none: samples stand by handle, so it is the least
abbrev pub next_handle : ReaderQos → List Happening → ℕ → List SamplePosition → ℕ
next_handle q h n [] = 0
next_handle q h n (s ∷ ss) = if nat_lt n (handle_of q h s.key) then handle_of q h s.key else next_handle q h n ss

-- the same of the next instance that has a match (2.2.2.5, read_next_instance)
abbrev pub picked_of_next_instance : ReaderQos → List Happening → Option ℕ → Masks → (Key → List ℕ → Bool) → ℕ
    → List SamplePosition
picked_of_next_instance q h max masks passes handle =
    picked_of_instance q h max masks passes (next_handle q h handle (matching_samples q h masks passes))

-- the source timestamp of the newest entry: the change's, or the moment of the death (2.2.2.5, source_timestamp); no
-- other entry leaves a sample
abbrev pub timestamp_of : List Happening → ℕ
timestamp_of (Came a ∷ h) = a.change.source_timestamp
timestamp_of (Died w now ∷ h) = now
timestamp_of _ = 0

-- the publication handle of the newest entry's writer (2.2.2.5, publication_handle); no other entry leaves a sample
abbrev pub publication_of : List Happening → ℕ
publication_of (Came a ∷ h) = a.writer
publication_of (Died w now ∷ h) = w
publication_of _ = 0

-- the state of an instance that is known, as that of each picked sample is: no mask asks for an unknown one
abbrev pub state_of_known : Option InstanceState → InstanceState
state_of_known (Some state) = state
state_of_known None = Alive

-- what is known of a sample before its ranks: the states before the call, the counts at the sample's position
abbrev pub picked_of : ReaderQos → List Happening → SamplePosition → Picked
picked_of q h s = record {
  sample_state = sample_state_of h s;
  view_state = view_state_of q s.key h;
  instance_state = state_of_known (instance_state_of q s.key h);
  disposed_generation_count = disposed_generations q s.key (as_of s.position h);
  no_writers_generation_count = no_writers_generations q s.key (as_of s.position h);
  instance_generations = generations_of q s.key h;
  source_timestamp = timestamp_of (as_of s.position h);
  instance_handle = handle_of q h s.key;
  publication_handle = publication_of (as_of s.position h);
  valid_data = ends_with_write q s.key (as_of s.position h);
}

-- the sum of a sample's own generation counts
abbrev pub own_generations : Picked → ℕ
own_generations p = p.disposed_generation_count + p.no_writers_generation_count

-- the sample is of this instance
abbrev pub is_of : ℕ → Picked → Bool
is_of handle p = p.instance_handle == handle

-- the last of a list, or the one given
abbrev pub last_or : {X : Type 0} → X → List X → X
last_or x [] = x
last_or x (y ∷ ys) = last_or y ys

-- the most recent sample in the collection of p's instance, from those that follow p (2.2.2.5, MRSIC)
abbrev pub most_recent : Picked → List Picked → Picked
most_recent p later = last_or p (filter (is_of p.instance_handle) later)

-- a sample's ranks: how many of its instance follow, and its distance in generations to the most recent of them and to
-- the present (2.2.2.5)
abbrev pub with_ranks : Picked → List Picked → SampleInfo
with_ranks p later = record {
  sample_state = p.sample_state;
  view_state = p.view_state;
  instance_state = p.instance_state;
  disposed_generation_count = p.disposed_generation_count;
  no_writers_generation_count = p.no_writers_generation_count;
  sample_rank = count_by (is_of p.instance_handle) later;
  generation_rank = own_generations (most_recent p later) - own_generations p;
  absolute_generation_rank = p.instance_generations - own_generations p;
  source_timestamp = p.source_timestamp;
  instance_handle = p.instance_handle;
  publication_handle = p.publication_handle;
  valid_data = p.valid_data;
}

-- the infos of a collection
abbrev pub infos_of : List Picked → List SampleInfo
infos_of [] = []
infos_of (p ∷ ps) = with_ranks p ps ∷ infos_of ps

-- the collection of picked samples, each with its key, its value and its info
abbrev pub collection_of : ReaderQos → List Happening → List SamplePosition → List Sample
collection_of q h [] = []
collection_of q h (s ∷ ss) =
    record {
      key = s.key;
      value = value_of q h s;
      info = with_ranks (picked_of q h s) (map (picked_of q h) ss);
    } ∷ collection_of q h ss
