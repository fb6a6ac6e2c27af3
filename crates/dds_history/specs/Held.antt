-- The changes that a history holds, with how many more of their keys each of them outlives, and those that it holds of a
-- writer's history. Inner functions alone cite this: nothing here has to be believed.
--
-- DDS 1.4, 2.2.3 (HISTORY, RESOURCE_LIMITS); RTPS 2.5, 8.2 (HistoryCache).
use Rattle.std.specs.Prelude.{◌≡◌, ℕ, ◌+◌, ◌-◌, ◌==◌, ◌&&◌, Bool, false, List, [], ◌∷◌, ◌++◌, map, length, filter, count_by, nat_lt, nat_le, if◌then◌else◌}
use Rattle.std.specs.List.{list_any}
use Rattle.dds_base.specs.declared.key.Key.{Key}
use Rattle.dds_base.specs.declared.change.Change.{Change}
use Rattle.dds_base.specs.declared.qos.HistoryQos.{HistoryQos}
use Rattle.dds_base.specs.declared.qos.HistoryQos.TheVariants.{KeepAll, KeepLast}
use Rattle.dds_base.specs.Happening.{same_key}
use Rattle.dds_base.specs.Kept.{WriterHistory}

-- a change that a history holds: so many more changes of its key drop it
pub record HeldChange : Type 0 where
  pub number : ℕ
  pub change : Change
  pub remaining : ℕ

-- some reader has not acknowledged the number
abbrev pub awaits : List ℕ → ℕ → Bool
awaits acknowledged number = list_any (λ a. nat_le a number) acknowledged

-- the change is not dropped, and some reader has not acknowledged it
abbrev pub is_held : List ℕ → HeldChange → Bool
is_held acknowledged e = nat_lt 0 e.remaining && awaits acknowledged e.number

-- the change, once one more of this key was made
abbrev pub aged : Key → HeldChange → HeldChange
aged key e = record {
  number = e.number;
  change = e.change;
  remaining = (if same_key key e.change.key then e.remaining - 1 else e.remaining);
}

-- those of the changes that one more of this key leaves
abbrev pub aged_by : HistoryQos → Key → List HeldChange → List HeldChange
aged_by KeepAll key entries = entries
aged_by (KeepLast depth) key entries = filter (λ e. nat_lt 0 e.remaining) (map (λ e. aged key e) entries)

-- so many more changes of its key drop a new change; 1 where nothing is dropped
abbrev pub granted : HistoryQos → ℕ
granted KeepAll = 1
granted (KeepLast depth) = depth

-- the changes, with one more of this number, which some reader awaits or not
abbrev pub with_change : HistoryQos → List HeldChange → ℕ → Change → Bool → List HeldChange
with_change policy entries number change is_awaited =
    aged_by policy change.key entries
    ++ (if nat_lt 0 (granted policy) && is_awaited
    then record { number = number; change = change; remaining = granted policy } ∷ [] else [])

-- how many changes stay kept once one more of this key was made
abbrev pub older_after : HistoryQos → List HeldChange → Key → ℕ
older_after KeepAll entries key = length entries
older_after (KeepLast depth) entries key = count_by (λ e. nat_lt 0 (aged key e).remaining) entries

-- how many changes are kept once one more of this key was made, which some reader awaits or not
abbrev pub kept_after : HistoryQos → List HeldChange → Key → Bool → ℕ
kept_after policy entries key is_awaited =
    older_after policy entries key + (if nat_lt 0 (granted policy) && is_awaited then 1 else 0)

-- how many of the changes have the key
abbrev pub lives : Key → List HeldChange → ℕ
lives key entries = count_by (λ (e : HeldChange). same_key e.change.key key) entries

-- how many of the changes one more of the key drops
abbrev pub drops : Key → List HeldChange → ℕ
drops key entries = count_by (λ (e : HeldChange). same_key e.change.key key && nat_le e.remaining 1) entries

-- one more change of a key drops one exactly if as many of it are held as can be
abbrev pub AreRuns : HistoryQos → List HeldChange → Type 0
AreRuns KeepAll entries = Unit {0}
AreRuns (KeepLast depth) entries =
    (key : Key) → drops key entries ≡ (if nat_lt 0 depth && lives key entries == depth then 1 else 0)

-- one more change may come, which some reader awaits or not; where none would be kept, nothing is
pub record IsNext (policy : HistoryQos) (entries : List HeldChange) (is_awaited : Bool) : Type 0 where
  pub runs : AreRuns policy entries
  pub none : (nat_lt 0 (granted policy) && is_awaited) ≡ false → entries ≡ []

-- so many more changes of the key drop a change that these follow; 1 where nothing is dropped
abbrev pub remaining_before : HistoryQos → List Change → Key → ℕ
remaining_before KeepAll later key = 1
remaining_before (KeepLast depth) later key = depth - count_by (λ (c : Change). same_key c.key key) later

-- all changes, numbered from this number on, each with what the later ones leave it
abbrev pub all_from : HistoryQos → ℕ → List Change → List HeldChange
all_from policy number [] = []
all_from policy number (c ∷ cs) =
    record { number = number; change = c; remaining = remaining_before policy cs c.key } ∷ all_from policy
    (number + 1) cs

-- those that are neither dropped nor acknowledged by all
abbrev pub held_of : WriterHistory → List HeldChange
held_of w = filter (is_held w.acknowledged) (all_from w.policy 1 w.changes)
