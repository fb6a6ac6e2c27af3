-- What a listener keeps of the notices that it is told.
--
-- DDS 1.4, 2.2.4.3 (access through listeners).
use Rattle.std.specs.Prelude.{ℕ, ◌-◌, List, [], ◌∷◌, ◌++◌, length, drop, ◌||◌, ◌==◌, nat_lt, Option, None, Some, if◌then◌else◌}
use Rattle.dds_base.specs.declared.code.Code.{Code}
use Rattle.dds_base.specs.declared.code.Code.TheVariants.{BadParameter}
use Rattle.dds_notices.specs.declared.notice.Notice.{Notice}

-- the last n of a list, or all of a shorter one
abbrev pub keep_last : {X : Type 0} → ℕ → List X → List X
keep_last n xs = drop (length xs - n) xs

-- what is kept in such a room once this came after those
abbrev pub told : ℕ → List Notice → Notice → List Notice
told room kept notice = keep_last room (kept ++ notice ∷ [])

-- what a recorder keeps, the oldest first, and how many it can keep
pub record Recording : Type 0 where
  pub notices : List Notice
  pub room : ℕ

-- a recorder that was told of nothing yet
abbrev pub opened : ℕ → Recording
opened room = record { notices = []; room = room }

-- a recorder has room for 1 to 65,536 notices
abbrev pub room_refusal : ℕ → Option Code
room_refusal room = if room == 0 || nat_lt 65536 room then Some BadParameter else None
