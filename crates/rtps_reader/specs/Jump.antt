-- What a change does at a best-effort reader: it comes, over all numbers before it, unless it is of a number that the
-- reader has passed, or has no room.
--
-- DDS 1.4, 2.2.3 (RELIABILITY: BEST_EFFORT); RTPS 2.5, 8.4.12 (best-effort StatefulReader).
use Rattle.std.specs.Prelude.{◌≡◌, ℕ, ◌+◌, ◌-◌, ◌&&◌, Bool, true, false, nat_le, nat_lt, if◌then◌else◌, List, [], ◌∷◌}
use Rattle.dds_base.specs.declared.change.Change.{Change}
use Rattle.dds_base.specs.declared.happening.Happening.{Happening}
use Rattle.dds_base.specs.declared.happening.Happening.TheVariants.{Passed}
use Rattle.dds_base.specs.declared.happening.PassedRun.{PassedRun}
use Rattle.dds_base.specs.Presence.{has_room}
use Rattle.dds_base.specs.Places.{Match, PlaceWith, coming}
use Rattle.rtps_reader.specs.Tracked.{Tracked, SameTracked}
use Rattle.rtps_reader.specs.Advance.{Stays}

-- the run from one number to below another, if there is one
abbrev pub run_of : ℕ → ℕ → List PassedRun
run_of from to = if nat_lt from to then record { first = from; last = to - 1 } ∷ [] else []

-- what happened once the numbers from one to below another were passed over
abbrev pub passed_from : ℕ → ℕ → ℕ → List Happening → List Happening
passed_from publication from to h = if nat_lt from to then Passed publication from (to - 1) ∷ h else h

-- where the reader stands once it has passed over all numbers below this one
abbrev pub jumped_to : Match → ℕ → List Happening → ℕ → PlaceWith
jumped_to match place h number =
    record { place = number; happened = passed_from match.publication place number h }

-- the change of this number comes: the number is not below the place, and there is room for the change
abbrev pub comes : Match → ℕ → List Happening → ℕ → Change → Bool
comes match place h number change =
    nat_le place number
    && has_room match.qos (jumped_to match place h number).happened (coming match (jumped_to match place h number) change)

-- the change came, over all numbers before it
pub record HasJumped (match : Match) (t : Tracked) (h : List Happening) (number : ℕ) (change : Change) (to : ℕ)
    (passed : List PassedRun) (new : Tracked) (after : List Happening) : Type 0 where
  pub beyond : to ≡ number + 1
  pub over : passed ≡ run_of t.place number
  pub entered : after
      ≡ coming match (jumped_to match t.place h number) change ∷ (jumped_to match t.place h number).happened
  pub place : new.place ≡ to
  pub stays : Stays t new

-- nothing was done
pub record HasStayed (t : Tracked) (h : List Happening) (to : ℕ) (passed : List PassedRun) (new : Tracked)
    (after : List Happening) : Type 0 where
  pub there : to ≡ t.place
  pub none : passed ≡ []
  pub same : SameTracked t new
  pub idle : after ≡ h

-- the one or the other
abbrev pub JumpsIf : Bool → Match → Tracked → List Happening → ℕ → Change → ℕ → List PassedRun → Tracked
    → List Happening → Type 0
JumpsIf true match t h number change to passed new after = HasJumped match t h number change to passed new after
JumpsIf false match t h number change to passed new after = HasStayed t h to passed new after

-- what a change of this number did
abbrev pub Jumps : Match → Tracked → List Happening → ℕ → Change → ℕ → List PassedRun → Tracked → List Happening
    → Type 0
Jumps match t h number change to passed new after =
    JumpsIf (comes match t.place h number change) match t h number change to passed new after
