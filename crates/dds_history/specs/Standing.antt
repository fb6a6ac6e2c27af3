-- What a history is: the lists of changes and acknowledgements of a writer that it stands for.
--
-- DDS 1.4, 2.2.3 (HISTORY, RESOURCE_LIMITS); RTPS 2.5, 8.2 (HistoryCache).
use Rattle.std.specs.Prelude.{◌≡◌, ◌≤◌, ℕ, List, length, Option}
use Rattle.dds_base.specs.declared.key.Key.{Key}
use Rattle.dds_base.specs.declared.qos.HistoryQos.{HistoryQos}
use Rattle.dds_base.specs.Bounds.{max_changes}
use Rattle.dds_base.specs.Kept.{WriterHistory}
use Rattle.dds_history.specs.declared.held.Entry.{Entry}
use Rattle.dds_history.specs.declared.held.KeyCount.{KeyCount}
use Rattle.dds_history.specs.Entries.{Holds, KeptState, shown}
use Rattle.dds_history.specs.Held.{held_of}

-- what a history holds; callers see it through reader_count and StandsFor
pub record Held : Type 0 where
  pub policy : HistoryQos
  pub max_samples : Option ℕ
  pub last : ℕ
  pub acknowledged : List ℕ
  pub kept : List Entry × List (Key × KeyCount) × ℕ

-- how many matched reliable readers there are
abbrev pub reader_count : Held → ℕ
reader_count held = length held.acknowledged

-- its entries, with the counts of their keys
abbrev pub kept_in : Held → KeptState
kept_in held =
    record { policy = held.policy; entries = held.kept.0; counted = held.kept.1; live = held.kept.2 }

-- a writer's history that this one stands for
pub record StandsFor (held : Held) (w : WriterHistory) : Type 0 where
  pub policy : held.policy ≡ w.policy
  pub max_samples : held.max_samples ≡ w.max_samples
  pub last : held.last ≡ length w.changes
  pub few : held.last ≤ max_changes
  pub acknowledged : held.acknowledged ≡ w.acknowledged
  pub shown : shown (kept_in held) ≡ held_of w
  pub holds : Holds held.last (kept_in held)
