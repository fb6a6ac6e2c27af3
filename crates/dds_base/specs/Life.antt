-- How long the life of an instance lasts: until nobody is registered for it and nothing of it is present.
--
-- DDS 1.4, 2.2.2.5 (instance_state, valid_data), 2.2.3 (HISTORY). When an instance's resources are given up, the standard
-- leaves to the product; here it is at once.
use Rattle.std.specs.Prelude.{ℕ, zero, suc, ◌+◌, ◌-◌, List, [], ◌∷◌, ◌++◌, length, Bool, true, false, ◌&&◌, ◌||◌, ◌==◌, nat_lt, not, Option, None, Some, if◌then◌else◌}
use Rattle.std.specs.List.{list_any}
use Rattle.dds_base.specs.declared.key.Key.{Key}
use Rattle.dds_base.specs.declared.change.ChangeKind.{ChangeKind}
use Rattle.dds_base.specs.declared.change.ChangeKind.TheVariants.{Write}
use Rattle.dds_base.specs.declared.happening.Happening.{Happening}
use Rattle.dds_base.specs.declared.sample.InstanceState.{InstanceState}
use Rattle.dds_base.specs.declared.sample.InstanceState.TheVariants.{Alive, NotAliveDisposed, NotAliveNoWriters}
use Rattle.dds_base.specs.declared.qos.ReaderQos.{ReaderQos}
use Rattle.dds_base.specs.declared.qos.HistoryQos.{HistoryQos}
use Rattle.dds_base.specs.declared.qos.HistoryQos.TheVariants.{KeepAll, KeepLast}
use Rattle.dds_base.specs.Happening.{as_of, is_taken}
use Rattle.dds_base.specs.Ownership.{accepted_kind, registered_writers}

-- the first, or else the second
abbrev pub or_else : {X : Type 0} → Option X → Option X → Option X
or_else None b = b
or_else (Some x) b = Some x

-- nobody is in the list
abbrev pub is_nobody : List ℕ → Bool
is_nobody [] = true
is_nobody (w ∷ ws) = false

-- a write makes it ALIVE, or NO_WRITERS once nobody is registered; a dispose makes it DISPOSED
abbrev pub state_after : Option ChangeKind → Bool → Option InstanceState
state_after None nobody = None
state_after (Some Write) nobody = Some (if nobody then NotAliveNoWriters else Alive)
state_after (Some _) nobody = Some NotAliveDisposed

-- not alive, and not as it was before
abbrev pub becomes_not_alive : Option InstanceState → Option InstanceState → Bool
becomes_not_alive (Some NotAliveDisposed) (Some NotAliveDisposed) = false
becomes_not_alive (Some NotAliveNoWriters) (Some NotAliveNoWriters) = false
becomes_not_alive _ (Some NotAliveDisposed) = true
becomes_not_alive _ (Some NotAliveNoWriters) = true
becomes_not_alive _ _ = false

-- an accepted write
abbrev pub is_write : Option ChangeKind → Bool
is_write (Some Write) = true
is_write _ = false

-- how many writes of i were accepted, in all its lives: only differences are looked at
abbrev pub accepted_writes : ReaderQos → Key → List Happening → ℕ
accepted_writes q i [] = 0
accepted_writes q i (e ∷ h) = accepted_writes q i h + (if is_write (accepted_kind q i h e) then 1 else 0)

-- the newest entry is an accepted write of i
abbrev pub ends_with_write : ReaderQos → Key → List Happening → Bool
ends_with_write q i [] = false
ends_with_write q i (e ∷ h) = is_write (accepted_kind q i h e)

-- KEEP_ALL keeps every write; KEEP_LAST keeps one that fewer than depth accepted writes of its instance have followed
-- (2.2.3, HISTORY)
abbrev pub keeps : HistoryQos → ℕ → Bool
keeps KeepAll later = true
keeps (KeepLast depth) later = nat_lt later depth

-- how many writes of i were accepted after position j
abbrev pub later_writes : ReaderQos → List Happening → Key → ℕ → ℕ
later_writes q h i j = accepted_writes q i h - accepted_writes q i (as_of j h)

-- an accepted write of i at position j, which the history keeps
abbrev pub is_kept_write : ReaderQos → List Happening → Key → ℕ → Bool
is_kept_write q h i j = ends_with_write q i (as_of j h) && keeps q.history (later_writes q h i j)

-- the position is this one
abbrev pub is_at : Option ℕ → ℕ → Bool
is_at None j = false
is_at (Some at) j = at == j

-- the positions 1 to n, in order
abbrev pub up_to : ℕ → List ℕ
up_to zero = []
up_to (suc n) = up_to n ++ suc n ∷ []

-- the sample of i at position j is present, where its last marker is this one: not taken, and a write that the history
-- keeps or that marker (2.2.2.5; 2.2.3, HISTORY)
abbrev pub is_there : ReaderQos → List Happening → Key → Option ℕ → ℕ → Bool
is_there q h i marker j =
    not (is_taken (record { key = i; position = j }) h) && (is_kept_write q h i j || is_at marker j)

-- something of i is present, where its last marker is this one
abbrev pub has_there : ReaderQos → List Happening → Key → Option ℕ → Bool
has_there q h i marker = list_any (is_there q h i marker) (up_to (length h))

-- the life of i is over: nobody is registered for it, and nothing of it is present
abbrev pub is_life_over : ReaderQos → List Happening → Key → Option ℕ → Bool
is_life_over q h i marker = is_nobody (registered_writers q i h) && not (has_there q h i marker)

-- the state that the entry brings i to, by the kind of its last accepted write or dispose before: its life may be over
-- then
abbrev pub state_reached : ReaderQos → Key → List Happening → Happening → Option ChangeKind → Option InstanceState
state_reached q i h e before =
    state_after (or_else (accepted_kind q i h e) before) (is_nobody (registered_writers q i (e ∷ h)))

-- the entry turns i to a not-alive state, from another one or from unknown: it leaves a marker, a sample without data
-- (2.2.2.5, valid_data)
abbrev pub marks_from : ReaderQos → Key → List Happening → Happening → Option ChangeKind → Bool
marks_from q i h e before =
    becomes_not_alive (state_after before (is_nobody (registered_writers q i h))) (state_reached q i h e before)

-- the position of i's last marker, once the entry has happened
abbrev pub marker_reached : ReaderQos → Key → List Happening → Happening → Option ChangeKind → Option ℕ → Option ℕ
marker_reached q i h e before marker = if marks_from q i h e before then Some (length h + 1) else marker

-- what the life of an instance has so far: the kind of its last accepted write or dispose, and the position of its last
-- marker; none of both where it is unknown
pub record LifeSoFar : Type 0 where
  pub accepted : Option ChangeKind
  pub marker : Option ℕ

-- the same once the entry has happened: none where the life is over with it
abbrev pub life_after : ReaderQos → Key → List Happening → Happening → LifeSoFar → LifeSoFar
life_after q i h e life = record {
  accepted = if is_life_over q (e ∷ h) i (marker_reached q i h e life.accepted life.marker) then None
      else or_else (accepted_kind q i h e) life.accepted;
  marker = if is_life_over q (e ∷ h) i (marker_reached q i h e life.accepted life.marker) then None
      else marker_reached q i h e life.accepted life.marker;
}

-- what the life of i has after what happened
abbrev pub life_of : ReaderQos → Key → List Happening → LifeSoFar
life_of q i [] = record { accepted = None; marker = None }
life_of q i (e ∷ h) = life_after q i h e (life_of q i h)

-- the kind of the last accepted write or dispose of i in its life
abbrev pub last_accepted : ReaderQos → Key → List Happening → Option ChangeKind
last_accepted q i h = (life_of q i h).accepted

-- the position of i's last marker in its life
abbrev pub last_marker : ReaderQos → Key → List Happening → Option ℕ
last_marker q i h = (life_of q i h).marker

-- with the entry the life of i is over: what came of i up to it counts no more, and i is unknown
abbrev pub ends_life : ReaderQos → Key → List Happening → Happening → Bool
ends_life q i h e = is_life_over q (e ∷ h) i (marker_reached q i h e (last_accepted q i h) (last_marker q i h))
