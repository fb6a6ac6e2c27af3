-- What a writer keeps, and the state that it stands for.
--
-- RTPS 2.5, 8.4.7 (StatefulWriter, ReaderProxy); DDS 1.4, 2.2.3 (HISTORY, LIVELINESS, OWNERSHIP_STRENGTH).
use Rattle.std.specs.Prelude.{◌≡◌, ℕ, Bool, List, length, min, Option, ℤ}
use Rattle.dds_base.specs.declared.key.Key.{Key}
use Rattle.dds_base.specs.Bounds.{max_count}
use Rattle.dds_base.specs.Written.{is_key_registered, strength_now}
use Rattle.dds_history.specs.Standing.{Held, StandsFor as HistoryStandsFor}
use Rattle.rtps_writer.specs.declared.liveliness.Liveliness.{Liveliness}
use Rattle.rtps_writer.specs.LivelinessKept.{IsLiveliness}
use Rattle.rtps_writer.specs.Registered.{is_among}
use Rattle.rtps_writer.specs.WriterState.{WriterState, counts_due, history_of}

-- what a writer keeps; callers see it through reader_count and StandsFor
pub record Kept : Type 0 where
  pub history : Held
  pub registered : List Key
  pub firsts : List ℕ
  pub counts : List (Option ℤ)
  pub asks : List Bool
  pub silents : List Bool
  pub counts_used : ℕ
  pub liveliness : Liveliness
  pub strength : Option ℤ

-- how many matched reliable readers there are
abbrev pub reader_count : Kept → ℕ
reader_count kept = length kept.counts

-- a writer's state that this one stands for
pub record StandsFor (kept : Kept) (s : WriterState) : Type 0 where
  pub history : HistoryStandsFor kept.history (history_of s)
  pub registered : (key : Key) → is_among kept.registered key ≡ is_key_registered key s.written
  pub firsts : kept.firsts ≡ s.firsts
  pub counts : kept.counts ≡ s.counts
  pub asks : kept.asks ≡ s.asks
  pub silents : kept.silents ≡ s.silents
  pub counts_used : kept.counts_used ≡ min (counts_due s) max_count
  pub liveliness : IsLiveliness kept.liveliness s.lease s.written
  pub strength : kept.strength ≡ strength_now s.strength s.written
