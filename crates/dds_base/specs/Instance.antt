-- The state, the generation counts and the view of an instance, from what happened.
--
-- DDS 1.4, 2.2.2.5 (SampleInfo: instance_state, view_state, the two generation counts, instance_handle).
use Rattle.std.specs.Prelude.{ℕ, ◌+◌, List, [], ◌∷◌, ◌++◌, length, Bool, true, false, ◌&&◌, ◌||◌, nat_le, not, Option, Some, is_some, if◌then◌else◌, filter}
use Rattle.std.specs.List.{list_any}
use Rattle.dds_base.specs.declared.key.Key.{Key}
use Rattle.dds_base.specs.declared.happening.SamplePosition.{SamplePosition}
use Rattle.dds_base.specs.declared.happening.Happening.{Happening}
use Rattle.dds_base.specs.declared.happening.Happening.TheVariants.{Came}
use Rattle.dds_base.specs.declared.sample.InstanceState.{InstanceState}
use Rattle.dds_base.specs.declared.sample.InstanceState.TheVariants.{NotAliveDisposed, NotAliveNoWriters}
use Rattle.dds_base.specs.declared.sample.ViewState.{ViewState}
use Rattle.dds_base.specs.declared.sample.ViewState.TheVariants.{New, NotNew}
use Rattle.dds_base.specs.declared.qos.ReaderQos.{ReaderQos}
use Rattle.dds_base.specs.Happening.{same_key, read_by, taken_by}
use Rattle.dds_base.specs.Life.{is_nobody, is_write, state_after, last_accepted, ends_life}
use Rattle.dds_base.specs.Ownership.{accepted_kind, registered_writers}

-- the state of i; none while it is unknown, as nothing of it was accepted (2.2.2.5, instance_state)
abbrev pub instance_state_of : ReaderQos → Key → List Happening → Option InstanceState
instance_state_of q i h = state_after (last_accepted q i h) (is_nobody (registered_writers q i h))

-- the state is NOT_ALIVE_DISPOSED
abbrev pub is_disposed : Option InstanceState → Bool
is_disposed (Some NotAliveDisposed) = true
is_disposed _ = false

-- the state is NOT_ALIVE_NO_WRITERS
abbrev pub is_without_writers : Option InstanceState → Bool
is_without_writers (Some NotAliveNoWriters) = true
is_without_writers _ = false

-- the entry is an accepted write of i that comes upon a DISPOSED instance
abbrev pub revives_disposed : ReaderQos → Key → List Happening → Happening → Bool
revives_disposed q i h e = is_write (accepted_kind q i h e) && is_disposed (instance_state_of q i h)

-- the entry is an accepted write of i that comes upon a NO_WRITERS instance
abbrev pub revives_without_writers : ReaderQos → Key → List Happening → Happening → Bool
revives_without_writers q i h e = is_write (accepted_kind q i h e) && is_without_writers (instance_state_of q i h)

-- how often i became alive again after a dispose, in its life (2.2.2.5, disposed_generation_count)
abbrev pub disposed_generations : ReaderQos → Key → List Happening → ℕ
disposed_generations q i [] = 0
disposed_generations q i (e ∷ h) =
    if ends_life q i h e then 0 else disposed_generations q i h + (if revives_disposed q i h e then 1 else 0)

-- how often i became alive again after it had no writers, in its life (2.2.2.5, no_writers_generation_count)
abbrev pub no_writers_generations : ReaderQos → Key → List Happening → ℕ
no_writers_generations q i [] = 0
no_writers_generations q i (e ∷ h) =
    if ends_life q i h e then 0 else no_writers_generations q i h + (if revives_without_writers q i h e then 1 else 0)

-- both counts together
abbrev pub generations_of : ReaderQos → Key → List Happening → ℕ
generations_of q i h = disposed_generations q i h + no_writers_generations q i h

-- the entry is a rebirth of i
abbrev pub is_rebirth : ReaderQos → Key → List Happening → Happening → Bool
is_rebirth q i h e = revives_disposed q i h e || revives_without_writers q i h e

-- i is known: something of it was accepted in its life
abbrev pub is_known : ReaderQos → List Happening → Key → Bool
is_known q h i = is_some (last_accepted q i h)

-- the entry makes i known: the first accepted write or dispose of its life
abbrev pub introduces : ReaderQos → Key → List Happening → Happening → Bool
introduces q i h e = not (is_known q h i) && is_some (accepted_kind q i h e)

-- the position of i's latest rebirth, or else that where its life began, or its last one ended
abbrev pub latest_rebirth : ReaderQos → Key → List Happening → ℕ
latest_rebirth q i [] = 0
latest_rebirth q i (e ∷ h) =
    if ends_life q i h e || (introduces q i h e || is_rebirth q i h e) then length h + 1 else latest_rebirth q i h

-- a sample of i at this position or a later one
abbrev pub is_since : Key → ℕ → SamplePosition → Bool
is_since i j s = same_key s.key i && nat_le j s.position

-- the entry is a read or take that returned a sample of i since position j
abbrev pub accesses : Key → ℕ → Happening → Bool
accesses i j e = list_any (is_since i j) (read_by e) || list_any (is_since i j) (taken_by e)

-- NOT_NEW if a read or take returned a sample of i that is no older than its latest rebirth (2.2.2.5, view_state)
abbrev pub view_state_of : ReaderQos → Key → List Happening → ViewState
view_state_of q i h = if list_any (accesses i (latest_rebirth q i h)) h then NotNew else New

-- the key that the entry makes known, if there is one
abbrev pub introduced_by : ReaderQos → List Happening → Happening → List Key
introduced_by q h (Came a) = if introduces q a.change.key h (Came a) then a.change.key ∷ [] else []
introduced_by q h _ = []

-- the known instances in the order of their handles: that in which their lives began (2.2.2.5, instance_handle)
abbrev pub known_instances : ReaderQos → List Happening → List Key
known_instances q [] = []
known_instances q (e ∷ h) = filter (is_known q (e ∷ h)) (known_instances q h ++ introduced_by q h e)
