-- What a reader is told, as its proxies and its store answer it.
use Rattle.std.proofs.Common.{◌≡◌, ◌⊎◌, ℕ, Bool, true, false, List, None, Result, Ok, refl, ap, sym, subst, inl, inr}
use Rattle.std.specs.Prelude.{IsOk, IfOk, is_some, if◌then◌else◌, Option}
use Rattle.dds_base.specs.declared.code.Code.{Code}
use Rattle.dds_base.specs.declared.happening.Happening.{Happening}
use Rattle.dds_base.specs.Counts.{is_later}
use Rattle.dds_cache.specs.Standing.{qos_of}
use Rattle.rtps_reader.specs.declared.attachment.Attachment.TheVariants as standing
use Rattle.rtps_reader.specs.declared.step.HeartbeatSeen.{HeartbeatSeen}
use Rattle.rtps_reader.specs.declared.step.Step.{Step}
use Rattle.rtps_reader.specs.Tracked.{Tracked}
use Rattle.rtps_reader.specs.Answer.{IsIdle}
use Rattle.rtps_reader.specs.Attached.{MeetsBeat, MeetsHeartbeat, Rests}
use Rattle.rtps_reader.specs.Reader.{Tracks, OthersStay, OthersStand, how_after, how_at, match_at}
use Rattle.dds_ends.specs.declared.reader_told.Ready.{Ready}
use Rattle.dds_ends.specs.declared.reader_told.Told.{Told}
use Rattle.dds_ends.specs.declared.reader_told.Told.TheVariants as told
use Rattle.dds_ends.specs.Kept.{ReaderKept}
use Rattle.dds_ends.specs.Readiness.{HasMemory, TakesTold, TellsSo}
use Rattle.dds_ends.specs.Storing.{Holds}

-- what was answered was done
done_as : {X E : Type 0} (r : Result X E) (x : X) (P : X → Type 0) → r ≡ Ok x → IfOk r P → P x
done_as r x P is h = subst (λ o. IfOk o P) is h

-- what each call answers
abbrev Answer : ReaderKept → ReaderKept → Ready → Told → ℕ → Step → Type 0
Answer old new ready said moment step =
    (t : Tracked) (h : List Happening) → Tracks old.reader ready.row t → Holds old.store h
    → TellsSo (how_at old.reader ready.row) (match_at (qos_of old.store.cache) ready.row moment) said t h step
    (Tracks new.reader ready.row) (λ xs. Holds new.store xs)

-- how the reader stands to the writer then
abbrev StandsSo : ReaderKept → ReaderKept → Ready → Step → Type 0
StandsSo old new ready step = how_at new.reader ready.row ≡ how_after (how_at old.reader ready.row) step

told_as : (old new : ReaderKept) (ready : Ready) (said : Told) (moment : ℕ) (step : Step) → ready.told ≡ said
    → Answer old new ready said moment step → OthersStay ready.row old.reader new.reader → StandsSo old new ready step
    → OthersStand ready.row old.reader new.reader → TakesTold old ready moment step new
told_as old new ready said moment step is answer others how others_how =
    record {
      told = λ t h knows holds. subst
          (λ x. TellsSo (how_at old.reader ready.row) (match_at (qos_of old.store.cache) ready.row moment) x t h step
          (Tracks new.reader ready.row) (λ xs. Holds new.store xs)) (sym is) (answer t h knows holds);
      others = others;
      how = how;
      others_how = others_how;
    }

-- what the reader that is open was told is what the reader was told
told_of : {inside old new : ReaderKept} {ready : Ready} {moment : ℕ} {step : Step} → inside ≡ old
    → TakesTold inside ready moment step new → TakesTold old ready moment step new
told_of {new = new} {ready} {moment} {step} is h = subst (λ (k : ReaderKept). TakesTold k ready moment step new) is h

-- a change or a GAP
pub answer_told : {inside old new : ReaderKept} → inside ≡ old → (ready : Ready) (moment : ℕ) (result : Result Step Code)
    (step : Step) (said : Told) → ready.told ≡ said → result ≡ Ok step
    → IfOk result (λ s. Answer inside new ready said moment s) → OthersStay ready.row inside.reader new.reader
    → IfOk result (λ s. StandsSo inside new ready s) → OthersStand ready.row inside.reader new.reader
    → TakesTold old ready moment step new
answer_told {inside} {new = new} view ready moment result step said is ok answer others how others_how =
    told_of view
    (told_as inside new ready said moment step is
    (done_as result step (λ s. Answer inside new ready said moment s) ok answer) others
    (done_as result step (λ s. StandsSo inside new ready s) ok how) others_how)

-- nothing
pub nothing_told : (kept : ReaderKept) (ready : Ready) (moment : ℕ) (step : Step) → ready.told ≡ told.Nothing
    → ((t : Tracked) → Tracks kept.reader ready.row t → IsIdle t.place step) → step.begun ≡ None
    → TakesTold kept ready moment step kept
nothing_told kept ready moment step is idle begun =
    told_as kept kept ready told.Nothing moment step is (λ t h knows holds. (idle t knows, knows, holds))
    (λ index t other knows. knows)
    (sym (ap (λ (o : Option ℕ). if is_some o then standing.Begun else how_at kept.reader ready.row) begun))
    (λ index other. refl)

-- one of a greater count, or any other
by_count : (later : Bool) (Taken Rest : Type 0) → (later ≡ true → Taken) → (later ≡ false → Rest)
    → ((later ≡ true) × Taken) ⊎ ((later ≡ false) × Rest)
by_count true Taken Rest f g = inl (refl, f refl)
by_count false Taken Rest f g = inr (refl, g refl)

-- any other HEARTBEAT does nothing
abbrev Repeated : ReaderKept → ReaderKept → Ready → HeartbeatSeen → Result Step Code → Type 0
Repeated old new ready seen result =
    (t : Tracked) (h : List Happening) → Tracks old.reader ready.row t → Holds old.store h
    → is_later t.count seen.count ≡ false
    → IsOk result × IfOk result (λ s. IsIdle t.place s × Tracks new.reader ready.row t × Holds new.store h)

rests : (old new : ReaderKept) (ready : Ready) (seen : HeartbeatSeen) (result : Result Step Code) (step : Step)
    → result ≡ Ok step → Repeated old new ready seen result → (t : Tracked) (h : List Happening)
    → Tracks old.reader ready.row t → Holds old.store h → is_later t.count seen.count ≡ false
    → Rests t h step (Tracks new.reader ready.row) (λ xs. Holds new.store xs)
rests old new ready seen result step ok repeated t h knows holds other =
    done_as result step (λ s. IsIdle t.place s × Tracks new.reader ready.row t × Holds new.store h) ok
    (repeated t h knows holds other).1

-- an accepted HEARTBEAT, at a reliable reader
abbrev Accepted : ReaderKept → ReaderKept → Ready → HeartbeatSeen → ℕ → Step → Type 0
Accepted old new ready seen moment step =
    (t : Tracked) (h : List Happening) → Tracks old.reader ready.row t → Holds old.store h
    → is_later t.count seen.count ≡ true
    → MeetsHeartbeat (how_at old.reader ready.row) (match_at (qos_of old.store.cache) ready.row moment) t h seen step
    (Tracks new.reader ready.row) (λ xs. Holds new.store xs)

pub heartbeat_told : {inside old new : ReaderKept} → inside ≡ old → (ready : Ready) (moment : ℕ)
    (result : Result Step Code) (step : Step) (seen : HeartbeatSeen) → ready.told ≡ told.Heartbeat seen
    → result ≡ Ok step → IfOk result (λ s. Accepted inside new ready seen moment s)
    → Repeated inside new ready seen result → OthersStay ready.row inside.reader new.reader
    → IfOk result (λ s. StandsSo inside new ready s) → OthersStand ready.row inside.reader new.reader
    → TakesTold old ready moment step new
heartbeat_told {inside} {new = new} view ready moment result step seen is ok accepted repeated others how others_how =
    told_of view
    (told_as inside new ready (told.Heartbeat seen) moment step is
    (λ t h knows holds. by_count (is_later t.count seen.count)
    (MeetsHeartbeat (how_at inside.reader ready.row) (match_at (qos_of inside.store.cache) ready.row moment) t h seen
    step (Tracks new.reader ready.row) (λ xs. Holds new.store xs))
    (Rests t h step (Tracks new.reader ready.row) (λ xs. Holds new.store xs))
    (λ e. done_as result step (λ s. Accepted inside new ready seen moment s) ok accepted t h knows holds e)
    (λ e. rests inside new ready seen result step ok repeated t h knows holds e)) others
    (done_as result step (λ s. StandsSo inside new ready s) ok how) others_how)

-- at a best-effort one
abbrev AcceptedAlone : ReaderKept → ReaderKept → Ready → HeartbeatSeen → ℕ → Step → Type 0
AcceptedAlone old new ready seen moment step =
    (t : Tracked) (h : List Happening) → Tracks old.reader ready.row t → Holds old.store h
    → is_later t.count seen.count ≡ true
    → MeetsBeat (how_at old.reader ready.row) (match_at (qos_of old.store.cache) ready.row moment) t h seen step
    (Tracks new.reader ready.row) (λ xs. Holds new.store xs)

pub beat_told : {inside old new : ReaderKept} → inside ≡ old → (ready : Ready) (moment : ℕ)
    (result : Result Step Code) (step : Step) (seen : HeartbeatSeen) → ready.told ≡ told.Beat seen
    → result ≡ Ok step → IfOk result (λ s. AcceptedAlone inside new ready seen moment s)
    → Repeated inside new ready seen result → OthersStay ready.row inside.reader new.reader
    → IfOk result (λ s. StandsSo inside new ready s) → OthersStand ready.row inside.reader new.reader
    → TakesTold old ready moment step new
beat_told {inside} {new = new} view ready moment result step seen is ok accepted repeated others how others_how =
    told_of view
    (told_as inside new ready (told.Beat seen) moment step is
    (λ t h knows holds. by_count (is_later t.count seen.count)
    (MeetsBeat (how_at inside.reader ready.row) (match_at (qos_of inside.store.cache) ready.row moment) t h seen step
    (Tracks new.reader ready.row) (λ xs. Holds new.store xs))
    (Rests t h step (Tracks new.reader ready.row) (λ xs. Holds new.store xs))
    (λ e. done_as result step (λ s. AcceptedAlone inside new ready seen moment s) ok accepted t h knows holds e)
    (λ e. rests inside new ready seen result step ok repeated t h knows holds e)) others
    (done_as result step (λ s. StandsSo inside new ready s) ok how) others_how)

-- memory that was made for a writer is there, as the reader is seen
pub room_here : {inside view : ReaderKept} (row : ℕ) → inside ≡ view → HasMemory view row → HasMemory inside row
room_here row is room = subst (λ (k : ReaderKept). HasMemory k row) (sym is) room
