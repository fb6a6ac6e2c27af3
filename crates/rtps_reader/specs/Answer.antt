-- What a HEARTBEAT does, and the ACKNACK due to it once the place went on.
--
-- RTPS 2.5, 8.4.12 (reliable StatefulReader: when to send an ACKNACK), 8.3.8 (AckNack).
use Rattle.std.specs.Prelude.{◌≡◌, ℕ, ◌+◌, ◌<◌, ◌≤◌, ◌⊎◌, List, [], ◌∷◌, length, Bool, true, false, ◌&&◌, nat_le}
use Rattle.std.specs.Prelude.{Option, None, Some, pos, if◌then◌else◌}
use Rattle.rtps_sets.specs.NumberSet.{has_number}
use Rattle.dds_base.specs.declared.happening.Happening.{Happening}
use Rattle.dds_base.specs.declared.happening.Happening.TheVariants.{Heard}
use Rattle.dds_base.specs.Bounds.{max_count, max_sn, window_width}
use Rattle.dds_base.specs.Places.{Match}
use Rattle.rtps_reader.specs.declared.step.AckNackDue.{AckNackDue}
use Rattle.rtps_reader.specs.declared.step.HeartbeatSeen.{HeartbeatSeen}
use Rattle.rtps_reader.specs.declared.step.Step.{Step}
use Rattle.rtps_reader.specs.Tracked.{Tracked, is_open, with_heartbeat}
use Rattle.rtps_reader.specs.Advance.{Advances}

-- the number is asked for: it is one of the window up to lastSN, and nothing is known of it
abbrev pub is_asked : Tracked → ℕ → ℕ → Bool
is_asked t last n = is_open t n && nat_le n last

-- nothing is asked for
abbrev pub IsComplete : Tracked → ℕ → Type 0
IsComplete t last = (n : ℕ) → is_asked t last n ≡ false

-- none can be sent: the place is no number that a set may begin with, or all counts are used up
abbrev pub CanNotAnswer : Tracked → Type 0
CanNotAnswer t = (max_sn < t.place) ⊎ (max_count ≤ t.acknacks)

-- an ACKNACK tells what is known: it has the next count, and is final where it asks for nothing
pub record Tells (t : Tracked) (last : ℕ) (due : AckNackDue) : Type 0 where
  pub base : due.base ≡ t.place
  pub set_base : due.missing.base ≡ t.place
  pub members : (n : ℕ) → has_number due.missing n ≡ is_asked t last n
  pub count : due.count ≡ pos (t.acknacks + 1)
  pub complete : due.is_final ≡ true → IsComplete t last
  pub lacking : due.is_final ≡ false → (n : ℕ) × (is_asked t last n ≡ true)

-- the answer: none where none can be sent, or where the HEARTBEAT is final and nothing is asked for; else one
abbrev pub AnswersHeartbeat : Tracked → ℕ → Bool → Option AckNackDue → Type 0
AnswersHeartbeat t last is_final None = CanNotAnswer t ⊎ ((is_final ≡ true) × IsComplete t last)
AnswersHeartbeat t last is_final (Some due) = (t.place ≤ max_sn) × (t.acknacks < max_count)
    × (is_final ≡ true → due.is_final ≡ false) × Tells t last due

-- it has a written form: its set begins with a number from 1 to 2^62, and has its 256 places (RTPS 2.5, 9.4.5: AckNack)
pub record IsSayable (due : AckNackDue) : Type 0 where
  pub first : 1 ≤ due.missing.base
  pub small : due.missing.base ≤ max_sn
  pub places : length due.missing.members ≡ window_width

-- what is known once the answer was made: its count is used
abbrev pub answered : Option AckNackDue → Tracked → Tracked
answered None t = t
answered (Some due) t = record t { acknacks = t.acknacks + 1 }

-- what happened once the writer's liveliness was asserted, if it was
abbrev pub heard_after : Match → Bool → List Happening → List Happening
heard_after match liveliness h = if liveliness then Heard match.publication match.moment ∷ h else h

-- an accepted HEARTBEAT: the writer is heard, then the place goes on, then the answer is made
pub record Accepts (match : Match) (t : Tracked) (h : List Happening) (heartbeat : HeartbeatSeen) (step : Step)
    (new : Tracked) (after : List Happening) : Type 0 where
  pub mid : Tracked
  pub heard : step.heard ≡ heartbeat.liveliness
  pub advances : Advances match (with_heartbeat heartbeat.first heartbeat.count t)
      (heard_after match heartbeat.liveliness h) step.to step.passed mid after
  pub answers : AnswersHeartbeat mid heartbeat.last heartbeat.is_final step.acknack
  pub counted : new ≡ answered step.acknack mid

-- nothing happened, at this place
pub record IsIdle (place : ℕ) (step : Step) : Type 0 where
  pub begun : step.begun ≡ None
  pub to : step.to ≡ place
  pub passed : step.passed ≡ []
  pub heard : step.heard ≡ false
  pub acknack : step.acknack ≡ None
