-- What a reader knows of each of its writers, which are named by index from 0, how it stands to them, and what a
-- submessage did.
--
-- RTPS 2.5, 8.4.10 (StatefulReader: matched_writers), 8.4.12.
use Rattle.std.specs.Prelude.{◌≡◌, ◌≢◌, ℕ, ◌+◌, List, length, false, None, Some, slice_get}
use Rattle.std.specs.Prelude.{Result, OnErr, IsOk, IfOk, IfErr, IfSome, is_some, if◌then◌else◌}
use Rattle.std.specs.Option.{option_map_or}
use Rattle.dds_base.specs.declared.change.Change.{Change}
use Rattle.dds_base.specs.declared.code.Code.{Code}
use Rattle.dds_base.specs.declared.code.Code.TheVariants.{Memory}
use Rattle.dds_base.specs.declared.happening.Happening.{Happening}
use Rattle.dds_base.specs.declared.qos.ReaderQos.{ReaderQos}
use Rattle.dds_base.specs.Places.{Match}
use Rattle.rtps_reader.specs.declared.attachment.Attachment.{Attachment}
use Rattle.rtps_reader.specs.declared.attachment.Attachment.TheVariants.{Away, Begun}
use Rattle.rtps_reader.specs.declared.known_writer.KnownWriter.{KnownWriter}
use Rattle.rtps_reader.specs.declared.step.HeartbeatSeen.{HeartbeatSeen}
use Rattle.rtps_reader.specs.declared.step.Step.{Step}
use Rattle.rtps_reader.specs.Tracked.{Tracked, SameTracked}
use Rattle.rtps_reader.specs.Advance.{Advances}
use Rattle.rtps_reader.specs.Jump.{Jumps}
use Rattle.rtps_reader.specs.Answer.{Accepts, IsSayable}
use Rattle.rtps_reader.specs.Proxy.{tracked, IsWriterReady}

-- what a reader keeps; callers see it through Tracks, how_at, count_of, IsReady and IsReadyAt
pub record Proxies : Type 0 where
  pub writers : List KnownWriter

-- this is what the reader knows of its writer of this index
abbrev pub Tracks : Proxies → ℕ → Tracked → Type 0
Tracks reader index t = (w : KnownWriter) × (slice_get reader.writers index ≡ Some w) × SameTracked (tracked w.proxy) t

-- how many writers it knows
abbrev pub count_of : Proxies → ℕ
count_of reader = length reader.writers

-- how the reader stands to its writer of this index; to one that it does not know it is away
abbrev pub how_at : Proxies → ℕ → Attachment
how_at reader index = option_map_or (λ (w : KnownWriter). w.how) (slice_get reader.writers index) Away

-- with a sink of so much spare memory the next submessage of this writer can't fail
abbrev pub IsReadyAt : Proxies → ℕ → ℕ → Type 0
IsReadyAt reader writer spare =
    (w : KnownWriter) → slice_get reader.writers writer ≡ Some w → IsWriterReady w spare

-- with a sink of so much spare memory the next submessage, of any of the writers, can't fail
abbrev pub IsReady : Proxies → ℕ → Type 0
IsReady reader spare = (index : ℕ) → IsReadyAt reader index spare

-- what could not fail for want of memory, at all other writers, still can't
abbrev pub OthersReady : ℕ → Proxies → Proxies → Type 0
OthersReady writer old new = (index spare : ℕ) → index ≢ writer → IsReadyAt old index spare → IsReadyAt new index spare

-- it stands to all writers as before
abbrev pub AllStand : Proxies → Proxies → Type 0
AllStand old new = (index : ℕ) → how_at new index ≡ how_at old index

-- it stands to all other writers as before
abbrev pub OthersStand : ℕ → Proxies → Proxies → Type 0
OthersStand writer old new = (index : ℕ) → index ≢ writer → how_at new index ≡ how_at old index

-- how it stands to a writer of which a submessage did this: where the place began, it has begun
abbrev pub how_after : Attachment → Step → Attachment
how_after how step = if is_some step.begun then Begun else how

-- of all writers the same is known
abbrev pub AllStay : Proxies → Proxies → Type 0
AllStay old new = (index : ℕ) (t : Tracked) → Tracks old index t → Tracks new index t

-- of all other writers the same is known
abbrev pub OthersStay : ℕ → Proxies → Proxies → Type 0
OthersStay writer old new = (index : ℕ) (t : Tracked) → index ≢ writer → Tracks old index t → Tracks new index t

-- the match of the reader with the writer of an index
abbrev pub match_at : ReaderQos → ℕ → ℕ → Match
match_at qos writer moment = record { qos = qos; publication = writer + 1; moment = moment }

-- what a DATA or a GAP did: from what was then known the place went on, and nothing else happened
pub record MovesOn (match : Match) (t : Tracked) (h : List Happening) (step : Step) (Knows : Tracked → Type 0)
    (Stands : List Happening → Type 0) : Type 0 where
  pub new : Tracked
  pub after : List Happening
  pub advances : Advances match t h step.to step.passed new after
  pub known : Knows new
  pub stands : Stands after
  pub heard : step.heard ≡ false
  pub acknack : step.acknack ≡ None

-- what a DATA did at a best-effort reader
pub record JumpsOn (match : Match) (t : Tracked) (h : List Happening) (number : ℕ) (change : Change) (step : Step)
    (Knows : Tracked → Type 0) (Stands : List Happening → Type 0) : Type 0 where
  pub new : Tracked
  pub after : List Happening
  pub jumps : Jumps match t h number change step.to step.passed new after
  pub known : Knows new
  pub stands : Stands after
  pub heard : step.heard ≡ false
  pub acknack : step.acknack ≡ None

-- what an accepted HEARTBEAT did
pub record TakesHeartbeat (match : Match) (t : Tracked) (h : List Happening) (heartbeat : HeartbeatSeen) (step : Step)
    (Knows : Tracked → Type 0) (Stands : List Happening → Type 0) : Type 0 where
  pub new : Tracked
  pub after : List Happening
  pub accepts : Accepts match t h heartbeat step new after
  pub known : Knows new
  pub stands : Stands after

-- what any submessage of a writer leaves alone, and how it may be refused: of the reader, and of its sink, which is
-- seen by what it stands for, its policies, how many writers are matched, and how many more entries can't fail
pub record KeepsRest {S : Type 0} (Stands : S → List Happening → Type 0) (policies : S → ReaderQos)
    (matched spare : S → ℕ) (writer : ℕ) (old new : Proxies) (before after : S) (answer : Result Step Code) : Type 0 where
  -- an ACKNACK that is due can be written
  pub sayable : IfOk answer (λ step. IfSome step.acknack IsSayable)
  -- nothing becomes known of other writers
  pub others : OthersStay writer old new
  -- the place has begun, where the step says so
  pub how : IfOk answer (λ step. how_at new writer ≡ how_after (how_at old writer) step)
  -- it stands to all other writers as before
  pub others_how : OthersStand writer old new
  -- the writers stay
  pub count : count_of new ≡ count_of old
  -- the policies stay
  pub qos : policies after ≡ policies before
  -- as many are matched
  pub writers : matched after ≡ matched before
  -- a refusal leaves all that is known as it was
  pub err : OnErr answer (AllStay old new)
  -- and so how it stands to each
  pub err_how : OnErr answer (AllStand old new)
  -- a refusal leaves what happened as it was
  pub err_sink : OnErr answer ((h : List Happening) → Stands before h → Stands after h)
  -- it is refused for want of memory alone
  pub memory : IfErr answer (λ code. code ≡ Memory)
  -- where memory was made for it, it succeeds
  pub succeeds : IsReadyAt old writer (spare before) → IsOk answer
