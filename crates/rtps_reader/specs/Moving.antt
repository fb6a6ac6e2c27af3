-- How a proxy moves its place, one change or run at a time, and what that leaves at a sink. Inner functions alone cite
-- this: nothing here has to be believed.
--
-- RTPS 2.5, 8.4.12 (reliable StatefulReader), 8.4.10 (WriterProxy).
use Rattle.std.specs.Prelude.{◌≡◌, ℕ, ◌+◌, ◌<◌, ◌≤◌, List, ◌∷◌, ◌++◌, true, false, nat_lt, if◌then◌else◌, ◌&&◌, nat_le, Option, Some, ◌*◌, min, is_none}
use Rattle.dds_base.specs.declared.change.Change.{Change}
use Rattle.dds_base.specs.declared.happening.Happening.{Happening}
use Rattle.dds_base.specs.declared.happening.PassedRun.{PassedRun}
use Rattle.dds_base.specs.Bounds.{window_width}
use Rattle.dds_base.specs.Presence.{has_room}
use Rattle.dds_base.specs.Counts.{is_later}
use Rattle.dds_base.specs.Places.{Match, coming}
use Rattle.rtps_reader.specs.Tracked.{Tracked, Held, is_missing, is_named, is_passable}
use Rattle.rtps_sets.specs.NumberSet.{NumberSet}
use Rattle.rtps_reader.specs.declared.step.HeartbeatSeen.{HeartbeatSeen}
use Rattle.rtps_reader.specs.declared.step.Step.{Step}
use Rattle.rtps_reader.specs.Advance.{Advances, Stays}
use Rattle.rtps_reader.specs.Jump.{HasJumped, Jumps, run_of, passed_from}
use Rattle.dds_base.specs.declared.qos.ReaderQos.{ReaderQos}
use Rattle.rtps_sets.specs.Window.{Marks, mark_of, window_place}
use Rattle.rtps_sets.specs.declared.window.Mark.{Mark}
use Rattle.rtps_sets.specs.declared.window.Mark.TheVariants as mark
use Rattle.rtps_reader.specs.declared.writer_proxy.Source.{Source}
use Rattle.rtps_reader.specs.Answer.{Accepts}

-- a reader's match with the writer that is heard
abbrev pub match_of : ReaderQos → Source → Match
match_of qos source = record { qos = qos; publication = source.publication; moment = source.moment }

-- the place may move without want of memory: it passes a run before each change that comes, and one after them
pub record CanMove (held run_capacity sink_spare : ℕ) : Type 0 where
  pub runs : min held window_width < run_capacity
  pub sink : 2 * min held window_width + 2 ≤ sink_spare

-- the mark of a number once those from the place to below another that a GAP names are irrelevant
abbrev pub mark_named : ℕ → NumberSet → ℕ → Marks → ℕ → Option Mark
mark_named start list to w n = if is_named start list n &&
    ((nat_le (window_place w) n && nat_lt n to) && is_none (mark_of w n)) then Some mark.Irrelevant else mark_of w n

-- the place may go from one number to another
abbrev pub ArePassable : Tracked → ℕ → ℕ → Type 0
ArePassable t from to = (n : ℕ) → from ≤ n → n < to → is_passable t n ≡ true

-- the place goes over all that can be passed over, which is entered as one run
pub record PassesOver (publication : ℕ) (before after : List Happening → Type 0) (old new : Tracked)
    (runs longer : List PassedRun) : Type 0 where
  pub forward : old.place ≤ new.place
  pub passable : ArePassable old old.place new.place
  pub not_passable : is_passable old new.place ≡ false
  pub runs_is : longer ≡ runs ++ run_of old.place new.place
  pub entered : (h : List Happening) → before h → after (passed_from publication old.place new.place h)
  pub stays : Stays old new

-- the change that is held at the place comes, for which there is room
pub record HandsOn (match : Match) (before after : List Happening → Type 0) (old new : Tracked) : Type 0 where
  pub change : Change
  pub is_held : old.slot old.place ≡ Held change
  pub room : (h : List Happening) → before h
      → has_room match.qos h (coming match (record { place = old.place; happened = h }) change) ≡ true
  pub entered : (h : List Happening) → before h
      → after (coming match (record { place = old.place; happened = h }) change ∷ h)
  pub place : new.place ≡ old.place + 1
  pub stays : Stays old new

-- a change that is held at the place finds no room, whatever happened that the sink stands for
abbrev pub FindsNoRoom : Match → (List Happening → Type 0) → Tracked → Type 0
FindsNoRoom match before t = (change : Change) (h : List Happening) → t.slot t.place ≡ Held change → before h
    → has_room match.qos h (coming match (record { place = t.place; happened = h }) change) ≡ false

-- the number is the next one, and nothing is known of it, nor of the one behind it
pub record IsNext (t : Tracked) (number : ℕ) : Type 0 where
  pub here : number ≡ t.place
  pub first : t.first ≤ number
  pub missing : is_missing (t.slot number) ≡ true
  pub behind : is_missing (t.slot (number + 1)) ≡ true

-- what moving the place did: for all that the sink stood for, it stands for what the way entered
abbrev pub Moves : Match → (List Happening → Type 0) → (List Happening → Type 0) → Tracked → ℕ → List PassedRun
    → Tracked → Type 0
Moves match before after t to passed new = (h : List Happening) → before h
    → (happened : List Happening) × Advances match t h to passed new happened × after happened

-- what a change did at a best-effort reader: for all that the sink stood for, it stands for what was entered
abbrev pub JumpMoves : Match → (List Happening → Type 0) → (List Happening → Type 0) → Tracked → ℕ → Change → ℕ
    → List PassedRun → Tracked → Type 0
JumpMoves match before after t number change to passed new = (h : List Happening) → before h
    → (happened : List Happening) × Jumps match t h number change to passed new happened × after happened

-- the same of one that came
abbrev pub HasMoved : Match → (List Happening → Type 0) → (List Happening → Type 0) → Tracked → ℕ → Change → ℕ
    → List PassedRun → Tracked → Type 0
HasMoved match before after t number change to passed new = (h : List Happening) → before h
    → (happened : List Happening) × HasJumped match t h number change to passed new happened × after happened

-- what a HEARTBEAT did that is later than those before: for all that the sink stood for, it stands for what was entered
abbrev pub HeartbeatMoves : Match → (List Happening → Type 0) → (List Happening → Type 0) → Tracked → HeartbeatSeen
    → Step → Tracked → Type 0
HeartbeatMoves match before after t heartbeat step new =
    is_later t.count heartbeat.count ≡ true → (h : List Happening) → before h
    → (happened : List Happening) × Accepts match t h heartbeat step new happened × after happened
