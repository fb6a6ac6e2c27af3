-- The changes of one writer that wait for those before them, each at the place of its number.
--
-- RTPS 2.5, 8.4.10 (ChangeFromWriter).
use Rattle.std.specs.Prelude.{◌≡◌, ◌⊎◌, ℕ, ◌%◌, List, [], length, Option, None, is_some, count_by, slice_index_or}
use Rattle.dds_base.specs.declared.change.Change.{Change}
use Rattle.dds_base.specs.Bounds.{window_width}

-- what is held at the place of a number: the numbers of a window have one place each
abbrev pub held_at : List (Option Change) → ℕ → Option Change
held_at places n = slice_index_or places (n % window_width) None

-- how many changes are held
abbrev pub count_held : List (Option Change) → ℕ
count_held places = count_by is_some places

-- there is a place for each number of a window
abbrev pub HasPlaces : List (Option Change) → Type 0
HasPlaces places = length places ≡ window_width

-- there are all places, or none, where none was wanted yet, and so many changes are held
pub record ArePlaces (places : List (Option Change)) (count : ℕ) : Type 0 where
  pub width : (places ≡ []) ⊎ HasPlaces places
  pub counted : count ≡ count_held places
