-- What happened at a reader: a list with the newest entry first. An entry's position is its number in the order in
-- which things happened, counted from 1: the length of the list that begins with it. Entries name writers alone that were
-- matched before (`Ownership.AreOfMatched`): who enters one sees to it.
--
-- DDS 1.4, 2.2.2.5 (read, take; SampleInfo); RTPS 2.5, 8.2 (HistoryCache of a reader).
use Rattle.std.specs.Prelude.{nat_eq, ℕ, ◌+◌, List, [], ◌∷◌, length, Bool, true, false, ◌&&◌, ◌==◌, nat_le, if◌then◌else◌}
use Rattle.std.specs.Cmp.Lexicographic.{pointwise}
use Rattle.std.specs.List.{list_any}
use Rattle.dds_base.specs.declared.key.Key.{Key}
use Rattle.dds_base.specs.declared.change.ChangeKind.{ChangeKind}
use Rattle.dds_base.specs.declared.change.ChangeKind.TheVariants.{Write, Dispose, Unregister, DisposeUnregister}
use Rattle.dds_base.specs.declared.happening.SamplePosition.{SamplePosition}
use Rattle.dds_base.specs.declared.happening.Happening.{Happening}
use Rattle.dds_base.specs.declared.happening.Happening.TheVariants.{Came, Read, Took}

-- two keys are one: they name the same instance (RTPS 2.5, 9.6)
abbrev pub same_key : Key → Key → Bool
same_key a b = pointwise nat_eq a.0 b.0

-- what had happened when the entry at position j was the newest
abbrev pub as_of : ℕ → List Happening → List Happening
as_of j [] = []
as_of j (e ∷ h) = if nat_le j (length h) then as_of j h else e ∷ h

-- a write or a dispose: a change that may be accepted, and that registers its writer (2.2.2.4, register_instance)
abbrev pub is_write_or_dispose : ChangeKind → Bool
is_write_or_dispose Write = true
is_write_or_dispose Dispose = true
is_write_or_dispose Unregister = false
is_write_or_dispose DisposeUnregister = true

-- the change ends its writer's registration (2.2.2.4, unregister_instance)
abbrev pub is_unregister : ChangeKind → Bool
is_unregister Write = false
is_unregister Dispose = false
is_unregister Unregister = true
is_unregister DisposeUnregister = true

-- the samples that a read returned
abbrev pub read_by : Happening → List SamplePosition
read_by (Read samples) = samples
read_by _ = []

-- the samples that a take returned
abbrev pub taken_by : Happening → List SamplePosition
taken_by (Took samples) = samples
taken_by _ = []

-- two samples are one
abbrev pub same_sample : SamplePosition → SamplePosition → Bool
same_sample a b = same_key a.key b.key && (a.position == b.position)

-- some read holds the sample (2.2.2.5, sample_state)
abbrev pub is_read : SamplePosition → List Happening → Bool
is_read s h = list_any (λ e. list_any (same_sample s) (read_by e)) h

-- some take holds the sample: it is gone from the reader (2.2.2.5, take)
abbrev pub is_taken : SamplePosition → List Happening → Bool
is_taken s h = list_any (λ e. list_any (same_sample s) (taken_by e)) h

-- how many changes came
abbrev pub arrivals : List Happening → ℕ
arrivals [] = 0
arrivals (Came a ∷ h) = arrivals h + 1
arrivals (_ ∷ h) = arrivals h
