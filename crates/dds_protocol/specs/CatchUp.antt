-- How a reader catches up with a writer by one round of repair: it takes a HEARTBEAT, tells in an ACKNACK what it
-- lacks, and takes the answers to that.
--
-- RTPS 2.5, 8.4.9 (reliable StatefulWriter), 8.4.12 (reliable StatefulReader).
use Rattle.std.specs.Prelude.{◌≡◌, ◌⊎◌, ℕ, ◌+◌, ◌≤◌, min, true, false, List, [], ◌∷◌, Some, ℤ}
use Rattle.std.specs.List.{list_any}
use Rattle.dds_base.specs.declared.change.Change.{Change}
use Rattle.dds_base.specs.declared.happening.Happening.{Happening}
use Rattle.dds_base.specs.declared.happening.PassedRun.{PassedRun}
use Rattle.dds_base.specs.Bounds.{window_width}
use Rattle.dds_base.specs.Places.{Match, coming}
use Rattle.dds_base.specs.Presence.{has_room}
use Rattle.rtps_sets.specs.NumberSet.{empty_from, has_number}
use Rattle.rtps_reader.specs.declared.step.AckNackDue.{AckNackDue}
use Rattle.rtps_reader.specs.Tracked.{Tracked, Held, with_data, with_gap, with_heartbeat}
use Rattle.rtps_reader.specs.Advance.{Advances}
use Rattle.rtps_reader.specs.Answer.{Tells, answered}
use Rattle.rtps_writer.specs.declared.answer.Answer.{Answer}
use Rattle.rtps_writer.specs.declared.answer.Answer.TheVariants.{Data, Gap}
use Rattle.rtps_writer.specs.Answers.{is_answer_to}

-- what a reader knows of a writer, and what happened at the reader
pub record Standing : Type 0 where
  pub tracked : Tracked
  pub happened : List Happening

-- the place goes on as far as it can, with what the reader knows by now
abbrev pub GoesOn : Match → Tracked → List Happening → Standing → Type 0
GoesOn match t h new = (to : ℕ) × (passed : List PassedRun) × Advances match t h to passed new.tracked new.happened

-- an answer is taken: a change, or a GAP over its numbers
abbrev pub TakesAnswer : Match → Answer → Standing → Standing → Type 0
TakesAnswer match (Data n) old new = (change : Change) × GoesOn match (with_data n change old.tracked) old.happened new
TakesAnswer match (Gap first last) old new =
    GoesOn match (with_gap first (empty_from (last + 1)) old.tracked) old.happened new

-- answers are taken in turn
abbrev pub TakesAnswers : Match → List Answer → Standing → Standing → Type 0
TakesAnswers match [] old new = new ≡ old
TakesAnswers match (a ∷ rest) old new = (mid : Standing) × TakesAnswer match a old mid × TakesAnswers match rest mid new

-- A HEARTBEAT up to this last number is taken, the reader tells what it lacks, and the answers are taken: one to each
-- number that it asks for, but for those that are acknowledged or past the last.
pub record IsRepaired (match : Match) (last acknowledged : ℕ) (old new : Standing) : Type 0 where
  pub first : ℕ
  pub count : ℤ
  pub heard : Standing
  pub hears : GoesOn match (with_heartbeat first count old.tracked) old.happened heard
  pub due : AckNackDue
  pub tells : Tells heard.tracked last due
  pub answers : List Answer
  pub complete : (n : ℕ) → has_number due.missing n ≡ true → acknowledged ≤ n → n ≤ last
      → list_any (is_answer_to n) answers ≡ true
  pub takes : TakesAnswers match answers (record heard { tracked = answered (Some due) heard.tracked }) new

-- the change at the place is held, and has no room
pub record IsFull (match : Match) (s : Standing) : Type 0 where
  pub change : Change
  pub held : s.tracked.slot s.tracked.place ≡ Held change
  pub no_room : has_room match.qos s.happened
      (coming match (record { place = s.tracked.place; happened = s.happened }) change) ≡ false

-- the place went on by 256 numbers, or to the end of the list, or to a change that has no room
abbrev pub HasGoneOn : Match → ℕ → ℕ → Standing → Type 0
HasGoneOn match last place new = (min (place + window_width) (last + 1) ≤ new.tracked.place) ⊎ IsFull match new

-- So it is with each reader that is repaired, where the writer takes for acknowledged no more than the reader tells.
abbrev pub WindowCatchesUp : Type 0
WindowCatchesUp = (match : Match) (last acknowledged : ℕ) (old new : Standing)
    → (r : IsRepaired match last acknowledged old new) → acknowledged ≤ r.due.base
    → HasGoneOn match last old.tracked.place new × (old.tracked.place ≤ r.due.base)
