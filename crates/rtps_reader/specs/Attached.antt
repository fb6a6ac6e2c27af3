-- How a reader stands to the writers that it knows, and what a submessage does by that: to one that it is not matched
-- with, nothing. Where its place waits, a HEARTBEAT begins it at a reliable reader, and a DATA at a best-effort one.
--
-- RTPS 2.5, 8.4.10 (StatefulReader: matched_writers), 8.4.12.
use Rattle.std.specs.Prelude.{◌≡◌, ◌≢◌, ℕ, ◌+◌, ◌&&◌, Bool, true, false, not, nat_le, max, List, []}
use Rattle.std.specs.Prelude.{◌-◌, None, Some, length, take}
use Rattle.dds_base.specs.declared.change.Change.{Change}
use Rattle.dds_base.specs.declared.happening.Happening.{Happening}
use Rattle.dds_base.specs.Places.{Match}
use Rattle.rtps_reader.specs.declared.attachment.Attachment.{Attachment}
use Rattle.rtps_reader.specs.declared.attachment.Attachment.TheVariants.{Away, Waiting, Begun}
use Rattle.rtps_reader.specs.declared.step.HeartbeatSeen.{HeartbeatSeen}
use Rattle.rtps_reader.specs.declared.step.Step.{Step}
use Rattle.rtps_reader.specs.Tracked.{Tracked, fresh, is_waiting}
use Rattle.rtps_reader.specs.Jump.{comes}
use Rattle.rtps_reader.specs.Answer.{IsIdle, heard_after}
use Rattle.rtps_reader.specs.Reader.{Proxies, Tracks, count_of, AllStay, OthersReady, how_at, MovesOn, JumpsOn, TakesHeartbeat}

-- nothing was done
abbrev pub Rests : Tracked → List Happening → Step → (Tracked → Type 0) → (List Happening → Type 0) → Type 0
Rests t h step Knows Stands = IsIdle t.place step × Knows t × Stands h

-- a place that waited has begun at this number, or where it was, if that is further; what was known of each number stays
abbrev pub begun_at : ℕ → Tracked → Tracked
begun_at number t = record t { place = max t.place number }

-- what a DATA or a GAP, by which this becomes known, did at a reliable reader that stands so to the writer
abbrev pub MeetsNews : Attachment → Match → (Tracked → Tracked) → Tracked → List Happening → Step → (Tracked → Type 0)
    → (List Happening → Type 0) → Type 0
MeetsNews Begun match with_it t h step Knows Stands = (step.begun ≡ None) × MovesOn match (with_it t) h step Knows Stands
MeetsNews how match with_it t h step Knows Stands = Rests t h step Knows Stands

-- nothing more becomes known
abbrev pub no_news : Tracked → Tracked
no_news t = t

-- at a place at which the reader stands so to the writer something may go on by what is known already: it has begun, and
-- does not wait for what is not known
abbrev pub goes_on : Attachment → Tracked → Bool
goes_on Begun t = not (is_waiting t)
goes_on how t = false

-- a change of this number came at a best-effort reader whose place waited: it began there, over all before it
abbrev pub BeginsWith : Match → Tracked → List Happening → ℕ → Change → Step → (Tracked → Type 0)
    → (List Happening → Type 0) → Type 0
BeginsWith match t h number change step Knows Stands =
    (step.begun ≡ Some number) × JumpsOn match (begun_at number t) h number change step Knows Stands

-- it did so, or nothing was done
abbrev pub BeginsIf : Bool → Match → Tracked → List Happening → ℕ → Change → Step → (Tracked → Type 0)
    → (List Happening → Type 0) → Type 0
BeginsIf true match t h number change step Knows Stands = BeginsWith match t h number change step Knows Stands
BeginsIf false match t h number change step Knows Stands = Rests t h step Knows Stands

-- what a DATA did at a best-effort reader that stands so to the writer: a place that waits begins at one that is not
-- below it, and has room
abbrev pub MeetsChange : Attachment → Match → Tracked → List Happening → ℕ → Change → Step → (Tracked → Type 0)
    → (List Happening → Type 0) → Type 0
MeetsChange Begun match t h number change step Knows Stands =
    (step.begun ≡ None) × JumpsOn match t h number change step Knows Stands
MeetsChange Waiting match t h number change step Knows Stands =
    BeginsIf (nat_le t.place number && comes match number h number change) match t h number change step Knows Stands
MeetsChange Away match t h number change step Knows Stands = Rests t h step Knows Stands

-- what a HEARTBEAT of a greater count did at a reliable reader that stands so to the writer
abbrev pub MeetsHeartbeat : Attachment → Match → Tracked → List Happening → HeartbeatSeen → Step → (Tracked → Type 0)
    → (List Happening → Type 0) → Type 0
MeetsHeartbeat Begun match t h heartbeat step Knows Stands =
    (step.begun ≡ None) × TakesHeartbeat match t h heartbeat step Knows Stands
MeetsHeartbeat Waiting match t h heartbeat step Knows Stands =
    (step.begun ≡ Some (max t.place heartbeat.first))
    × TakesHeartbeat match (begun_at heartbeat.first t) h heartbeat step Knows Stands
MeetsHeartbeat Away match t h heartbeat step Knows Stands = Rests t h step Knows Stands

-- the writer was heard, if it asserted its liveliness, and the count is known; nothing else was done
pub record HearsAlone (match : Match) (t : Tracked) (h : List Happening) (heartbeat : HeartbeatSeen) (step : Step)
    (Knows : Tracked → Type 0) (Stands : List Happening → Type 0) : Type 0 where
  pub begun : step.begun ≡ None
  pub to : step.to ≡ t.place
  pub passed : step.passed ≡ []
  pub heard : step.heard ≡ heartbeat.liveliness
  pub acknack : step.acknack ≡ None
  pub known : Knows (record t { count = Some heartbeat.count })
  pub stands : Stands (heard_after match heartbeat.liveliness h)

-- what a HEARTBEAT of a greater count did at a best-effort reader that stands so to the writer: a place that waits goes on
-- waiting
abbrev pub MeetsBeat : Attachment → Match → Tracked → List Happening → HeartbeatSeen → Step → (Tracked → Type 0)
    → (List Happening → Type 0) → Type 0
MeetsBeat Begun match t h heartbeat step Knows Stands =
    (step.begun ≡ None) × TakesHeartbeat match t h heartbeat step Knows Stands
MeetsBeat Waiting match t h heartbeat step Knows Stands = HearsAlone match t h heartbeat step Knows Stands
MeetsBeat Away match t h heartbeat step Knows Stands = Rests t h step Knows Stands

-- the reader stands so to the writer of this index, and to all others as before; what is known of each, and what it has
-- memory for at the others, is the same
pub record StandsNow (old : Proxies) (writer : ℕ) (how : Attachment) (new : Proxies) : Type 0 where
  pub count : count_of new ≡ count_of old
  pub here : how_at new writer ≡ how
  pub others : (index : ℕ) → index ≢ writer → how_at new index ≡ how_at old index
  pub known : AllStay old new
  pub ready : OthersReady writer old new

-- a writer more, of which nothing was heard, after all that were known, of which the same is known
pub record HasOneMore (old new : Proxies) : Type 0 where
  pub count : count_of new ≡ count_of old + 1
  pub here : how_at new (count_of old) ≡ Waiting
  pub fresh_here : Tracks new (count_of old) fresh
  pub others : (index : ℕ) → index ≢ count_of old → how_at new index ≡ how_at old index
  pub known : AllStay old new

-- a reader without its last writer
abbrev pub without_last : Proxies → Proxies
without_last reader = record { writers = take (length reader.writers - 1) reader.writers }
