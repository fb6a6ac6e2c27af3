-- The place of a reader in the numbers of one writer, and what is known of the 256 numbers from it on
-- (RTPS 2.5, 8.4.12: reliable StatefulReader).
use Rattle.std.specs.Prelude.{◌≡◌, ℕ, ◌+◌, ◌%◌, ◌^◌, Bool, false, ◌&&◌, nat_lt, nat_le, List, Option, None, Some, is_none, if◌then◌else◌, slice_index_or}
use Rattle.dds_base.specs.Bounds.{window_width}
use Rattle.rtps_sets.specs.declared.window.Mark.{Mark}
use Rattle.rtps_sets.specs.declared.window.Mark.TheVariants.{Held, Irrelevant}

-- what a window keeps; callers see it through window_place, mark_of and room_of
pub record Marks : Type 0 where
  pub place : ℕ
  pub held : List Bool
  pub irrelevant : List Bool

-- the next number
abbrev pub window_place : Marks → ℕ
window_place w = w.place

-- the number is one of the 256 from the place on
abbrev pub is_in_window : ℕ → ℕ → Bool
is_in_window place n = nat_le place n && nat_lt n (place + window_width)

-- whether a ring of 256 bits has that of a number
abbrev pub in_ring : List Bool → ℕ → Bool
in_ring ring n = slice_index_or ring (n % window_width) false

-- what two rings say of a number
abbrev pub ring_mark : List Bool → List Bool → ℕ → Option Mark
ring_mark held irrelevant n =
    if in_ring held n then Some Held else (if in_ring irrelevant n then Some Irrelevant else None)

-- what is known of a number: its change is held, it is irrelevant, or nothing
unfoldable pub mark_of : Marks → ℕ → Option Mark
mark_of w n = if is_in_window w.place n then ring_mark w.held w.irrelevant n else None

-- so many marks can't fail: no window takes memory
abbrev pub room_of : Marks → ℕ
room_of w = 2 ^ 64

-- the number can be marked: it is in the window, and nothing is known of it
abbrev pub can_mark : Marks → ℕ → Bool
can_mark w n = is_in_window (window_place w) n && is_none (mark_of w n)

-- the place and the marks are the same; room may differ
pub record SameMarks (old new : Marks) : Type 0 where
  pub place : window_place new ≡ window_place old
  pub marks : (n : ℕ) → mark_of new n ≡ mark_of old n
