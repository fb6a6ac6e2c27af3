-- What the history of a writer has dropped, what it keeps, and when it refuses a change
-- (DDS 1.4, 2.2.3: HISTORY, RESOURCE_LIMITS; RTPS 2.5, 8.2: HistoryCache).
use Rattle.std.specs.Prelude.{ℕ, zero, suc, ◌+◌, ◌-◌, max, List, [], ◌∷◌, ◌++◌, length, drop, count_by, find, slice_get, slice_index, slice_set, Bool, false, ◌&&◌, not, Option, Some, None, is_some, nat_lt, nat_le, if◌then◌else◌}
use Rattle.std.specs.List.{list_any}
use Rattle.std.specs.Option.{option_map_or, unwrap_or}
use Rattle.dds_base.specs.declared.key.Key.{Key}
use Rattle.dds_base.specs.declared.change.Change.{Change}
use Rattle.dds_base.specs.declared.code.Code.{Code}
use Rattle.dds_base.specs.declared.code.Code.TheVariants.{OutOfResources, Timeout}
use Rattle.dds_base.specs.declared.qos.HistoryQos.{HistoryQos}
use Rattle.dds_base.specs.declared.qos.HistoryQos.TheVariants.{KeepAll, KeepLast}
use Rattle.dds_base.specs.Bounds.{max_changes}
use Rattle.dds_base.specs.Happening.{same_key}

-- the history of a writer: its policy and limit, its changes in the order of their numbers, and for each matched
-- reliable reader the number below which that reader has acknowledged all
pub record WriterHistory : Type 0 where
  pub policy : HistoryQos
  pub max_samples : Option ℕ
  pub changes : List Change
  pub acknowledged : List ℕ

-- the change of this number, counted from 1
abbrev pub change_at : List Change → ℕ → Option Change
change_at changes number = if nat_lt 0 number then slice_get changes (number - 1) else None

-- how many changes of the key have a greater number
abbrev pub later_changes : List Change → ℕ → Key → ℕ
later_changes changes number key = count_by (λ (c : Change). same_key c.key key) (drop number changes)

-- KEEP_LAST n has dropped a change once n later changes of its key exist, of any kind; KEEP_ALL drops none
abbrev pub is_dropped_by : HistoryQos → List Change → ℕ → Bool
is_dropped_by KeepAll changes number = false
is_dropped_by (KeepLast n) changes number =
    option_map_or (λ (c : Change). nat_le n (later_changes changes number c.key)) (change_at changes number) false

-- the writer's history has dropped the change of this number (2.2.3, HISTORY)
abbrev pub is_dropped : WriterHistory → ℕ → Bool
is_dropped w number = is_dropped_by w.policy w.changes number

-- some matched reliable reader has not acknowledged the number
abbrev pub is_awaited : WriterHistory → ℕ → Bool
is_awaited w number = list_any (λ a. nat_le a number) w.acknowledged

-- the number of a change is kept while the change is not dropped and some matched reliable reader has not acknowledged
-- it
abbrev pub is_kept : WriterHistory → ℕ → Bool
is_kept w number = is_some (change_at w.changes number) && not (is_dropped w number) && is_awaited w number

-- the change of a kept number
abbrev pub kept_change : WriterHistory → ℕ → Option Change
kept_change w number = if is_kept w number then change_at w.changes number else None

-- so many numbers, in order, from this one on
abbrev pub numbers_from : ℕ → ℕ → List ℕ
numbers_from number zero = []
numbers_from number (suc count) = number ∷ numbers_from (number + 1) count

-- how many numbers are kept
abbrev pub kept_count : WriterHistory → ℕ
kept_count w = count_by (λ number. is_kept w number) (numbers_from 1 (length w.changes))

-- the first number that is kept, or the one past the last (RTPS 2.5, 8.3.8: Heartbeat, firstSN)
abbrev pub first_kept : WriterHistory → ℕ
first_kept w = unwrap_or (find (λ number. is_kept w number) (numbers_from 1 (length w.changes))) (length w.changes + 1)

-- the history with one more change, which has the next number
abbrev pub appended : WriterHistory → Change → WriterHistory
appended w change = record {
  policy = w.policy;
  max_samples = w.max_samples;
  changes = w.changes ++ change ∷ [];
  acknowledged = w.acknowledged;
}

-- a count is above the limit, where there is one
abbrev pub exceeds : Option ℕ → ℕ → Bool
exceeds limit count = option_map_or (λ most. nat_lt most count) limit false

-- why a change is refused: the writer has made all its changes, or more than max_samples numbers would be kept
-- (max_blocking_time is 0)
abbrev pub append_refusal : WriterHistory → Change → Option Code
append_refusal w change =
    if nat_le max_changes (length w.changes) then Some OutOfResources
    else (if exceeds w.max_samples (kept_count (appended w change)) then Some Timeout else None)

-- the history once this reader, counted from 0, has acknowledged all numbers below this one; an acknowledgement doesn't
-- go back (RTPS 2.5, 8.4.7: ReaderProxy, acked_changes_set)
abbrev pub acknowledge : WriterHistory → ℕ → ℕ → WriterHistory
acknowledge w reader to =
    record w { acknowledged = slice_set w.acknowledged reader (max (slice_index w.acknowledged reader) to) }
