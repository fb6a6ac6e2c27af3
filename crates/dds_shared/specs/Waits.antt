-- What a wait enters in the list of its pass.
--
-- DDS 1.4, 2.2.2.1 (WaitSet, wait). That a wait is its looks is this project's own.
use Rattle.std.specs.Prelude.{◌≡◌, ◌≢◌, ◌⊎◌, ℕ, Bool, ◌<◌, List, [], ◌∷◌, ◌++◌, MatchBool, Some}
use Rattle.dds_base.specs.declared.code.Code.TheVariants.{Memory}
use Rattle.dds_machine.specs.declared.call.Call.TheVariants.{WaitBegin, WaitEnd, WaitLook}
use Rattle.dds_machine.specs.declared.reply.Reply.{Reply}
use Rattle.dds_machine.specs.declared.reply.Reply.TheVariants.{Done, Refused, Waiting}
use Rattle.dds_protocol.specs.declared.event.Event.TheVariants.{Call}
use Rattle.dds_protocol.specs.declared.event.Output.{Output}
use Rattle.dds_trace.specs.declared.trace.Entry.{Entry}
use Rattle.dds_trace.specs.History.{entry_of}
use Rattle.dds_shared.specs.Passes.{Carried, IsAsBefore, Lists}

-- a look of this seat at a WaitSet, with its output
abbrev pub look_of : ℕ → ℕ → Output → Entry
look_of seat wait_set output = entry_of seat (Call (WaitLook wait_set)) output

-- looks at a WaitSet of which each found nothing true
abbrev pub AllWaiting : ℕ → ℕ → List Entry → Type 0
AllWaiting seat wait_set [] = Unit {0}
AllWaiting seat wait_set (e ∷ es) =
    ((o : Output) × (e ≡ look_of seat wait_set o) × (o.reply ≡ Waiting)) × AllWaiting seat wait_set es

-- a wait that began: its begin, looks that found nothing true, and what came last
pub record Waits (was after : Carried) (wait_set deadline : ℕ) (begun : Output) (looks last : List Entry) : Type 0 where
  pub list : after ≡ record was {
    list = (was.list ++ entry_of was.seat (Call (WaitBegin wait_set deadline)) begun ∷ looks) ++ last;
    spare = after.spare;
    front = after.front;
  }
  pub done : begun.reply ≡ Done
  pub waiting : AllWaiting was.seat wait_set looks

-- a look answers a wait: it found what is true, or ended the wait otherwise
abbrev pub IsLast : Reply → Type 0
IsLast reply = (reply ≢ Waiting) × (reply ≢ Refused Memory)

-- the wait began where this says so, and else its begin was refused
abbrev pub Begins : Bool → Reply → Type 0
Begins begun reply = MatchBool begun (reply ≡ Done) (reply ≢ Done)

-- the look answers its wait where this says so, and else found nothing true
abbrev pub Ends : Bool → Reply → Type 0
Ends over reply = MatchBool over (IsLast reply) (reply ≡ Waiting)

-- a wait that was answered with this: its begin was refused, or its last look answered it
abbrev pub AnsweredWith : Carried → Carried → ℕ → ℕ → Output → Type 0
AnsweredWith was after wait_set deadline o =
    (Lists was after (Call (WaitBegin wait_set deadline)) o × (o.reply ≢ Done))
    ⊎ ((b : Output) × (looks : List Entry)
    × Waits was after wait_set deadline b looks (look_of was.seat wait_set o ∷ []) × IsLast o.reply)

-- a wait that was answered: its begin was refused, or its last look answered it
abbrev pub Answered : Carried → Carried → ℕ → ℕ → Type 0
Answered was after wait_set deadline =
    ((b : Output) × Lists was after (Call (WaitBegin wait_set deadline)) b × (b.reply ≢ Done))
    ⊎ ((b : Output) × (looks : List Entry) × (o : Output)
    × Waits was after wait_set deadline b looks (look_of was.seat wait_set o ∷ []) × IsLast o.reply)

-- a look that found no memory, if there was one
abbrev pub IsMissedLook : ℕ → ℕ → List Entry → Type 0
IsMissedLook seat wait_set es =
    (es ≡ []) ⊎ ((o : Output) × (es ≡ look_of seat wait_set o ∷ []) × (o.reply ≡ Refused Memory))

-- an end of the wait, if there was one
abbrev pub IsEndOfWait : ℕ → ℕ → List Entry → Type 0
IsEndOfWait seat wait_set es = (es ≡ []) ⊎ ((o : Output) × (es ≡ entry_of seat (Call (WaitEnd wait_set)) o ∷ []))

-- a look that found no memory, and an end of the wait
abbrev pub GivesUp : ℕ → ℕ → List Entry → Type 0
GivesUp seat wait_set es =
    (looked ended : List Entry) × (es ≡ looked ++ ended) × IsMissedLook seat wait_set looked
    × IsEndOfWait seat wait_set ended

-- a pass that gave a wait up: nobody waits in its WaitSet any more, now that the pass has seen what there is
abbrev pub given_up : ℕ → Carried → Carried
given_up wait_set last = record last { gave_up = Some (record { wait_set = wait_set; at = last.front }) }

-- a wait that found no memory: nothing happened, or it was given up, at a moment that the pass had not seen before
abbrev pub Failed : Carried → Carried → ℕ → ℕ → Type 0
Failed was after wait_set deadline =
    IsAsBefore was after
    ⊎ ((b : Output) × (looks ends : List Entry) × (last : Carried) × Waits was last wait_set deadline b looks ends
    × GivesUp was.seat wait_set ends × (after ≡ given_up wait_set last) × (was.front < after.front))
