-- What a peer tells of its statuses and its conditions, by what it keeps. Inner functions alone cite this, so nothing
-- here has to be believed.
--
-- DDS 1.4, 2.2.2.1 (get_status_changes, get_trigger_value, WaitSet), 2.2.2.5 (ReadCondition, QueryCondition).
use Rattle.std.specs.Prelude.{◌≡◌, ◌+◌, ◌<◌, ℕ, length, Bool, List, Option, Some, None, Result, Ok, Err, ◌==◌, if◌then◌else◌}
use Rattle.dds_base.specs.declared.code.Code.{Code}
use Rattle.dds_base.specs.declared.code.Code.TheVariants.{BadParameter, PreconditionNotMet}
use Rattle.dds_protocol.specs.Roster.{Roster}
use Rattle.dds_base.specs.declared.entity.Entity.{Entity}
use Rattle.dds_base.specs.declared.selection.Scope.{Scope}
use Rattle.dds_base.specs.Selection.{selection_in}
use Rattle.dds_base.specs.Number.{at_number}
use Rattle.dds_notices.specs.declared.mask.StatusMask.{StatusMask}
use Rattle.dds_conditions.specs.declared.condition.Cond.{Cond}
use Rattle.dds_conditions.specs.declared.condition.Condition.{Condition}
use Rattle.dds_conditions.specs.declared.condition.Condition.TheVariants.{Guard, Samples}
use Rattle.std.specs.List.{list_any}
use Rattle.dds_conditions.specs.Attached.{active_of}
use Rattle.dds_conditions.specs.Watched.{conditions_of}
use Rattle.dds_machine.specs.declared.reply.Reply.{Reply}
use Rattle.dds_machine.specs.declared.reply.Reply.TheVariants.{Done, Created, Conditions, Active, Refused}
use Rattle.dds_protocol.specs.Peer.{Peer}
use Rattle.dds_machine.specs.Watching.{Tests, condition_refusal, condition_selection, filter_of, status_changes, trigger_value, condition_value}
use Rattle.dds_core.specs.declared.watching.Asked.{Asked}
use Rattle.dds_core.specs.Kept.{PeerKept}
use Rattle.dds_core.specs.Standing.{StandsFor}
use Rattle.dds_machine.specs.Part.{Part}

-- the reply to a call that is done or refused
abbrev pub done_reply : Result (Unit {0}) Code → Reply
done_reply (Ok done) = Done
done_reply (Err code) = Refused code

-- the reply to a call that makes something, and gives its number
abbrev pub made_reply : Result ℕ Code → Reply
made_reply (Ok number) = Created number
made_reply (Err code) = Refused code

-- the reply to a call that gives conditions
abbrev pub conditions_reply : Result (List Cond) Code → Reply
conditions_reply (Ok conditions) = Conditions conditions
conditions_reply (Err code) = Refused code

-- the reply to a look at a WaitSet that gives those that are true
abbrev pub active_reply : Result (List Cond) Code → Reply
active_reply (Ok active) = Active active
active_reply (Err code) = Refused code

-- so it is of the part of each state that stands for what is kept
abbrev pub Tells : PeerKept → (Part → Type 0) → Type 0
Tells kept Is = (roster : Roster) (peer : Peer) → StandsFor kept roster peer → Is peer.part

-- the flagged statuses of an entity
abbrev pub TellsStatuses : PeerKept → Entity → StatusMask → Type 0
TellsStatuses kept entity mask = Tells kept (λ part. mask ≡ status_changes part entity)

-- the trigger value of a condition that may have been made
abbrev pub TellsValue : Tests → PeerKept → Option Condition → Bool → Type 0
TellsValue tests kept condition answer = Tells kept (λ part. answer ≡ condition_value tests part condition)

-- the trigger value of a condition
abbrev pub TellsTrigger : Tests → PeerKept → Cond → Bool → Type 0
TellsTrigger tests kept condition answer = Tells kept (λ part. answer ≡ trigger_value tests part condition)

-- whether a condition of a WaitSet is true
abbrev pub TellsActive : Tests → PeerKept → ℕ → Bool → Type 0
TellsActive tests kept wait_set answer =
    Tells kept (λ part. answer ≡ list_any (trigger_value tests part) (conditions_of part.dds.watch wait_set))

-- the conditions of a WaitSet that are true
abbrev pub AreActive : Tests → PeerKept → ℕ → List Cond → Type 0
AreActive tests kept wait_set active =
    Tells kept (λ part. active ≡ active_of (trigger_value tests part) (conditions_of part.dds.watch wait_set))

-- what an access by a condition asks for, or why it is refused
abbrev pub AsksBy : PeerKept → ℕ → Scope → ℕ → Result Asked Code → Type 0
AsksBy kept reader scope condition (Ok asked) =
    (reader ≡ asked.index + 1) × (asked.index < length kept.readers)
    × Tells kept (λ part. (condition_refusal part reader scope condition ≡ None)
    × (asked.selection ≡ condition_selection part scope condition)
    × (asked.filter ≡ filter_of (at_number part.dds.watch.conditions condition)))
AsksBy kept reader scope condition (Err code) =
    Tells kept (λ part. condition_refusal part reader scope condition ≡ Some code)

-- what an access of a reader, which has this index, by this condition asks for, or why it is refused
abbrev pub asked_of : ℕ → ℕ → Scope → Option Condition → Result Asked Code
asked_of index reader scope None = Err BadParameter
asked_of index reader scope (Some (Guard value)) = Err PreconditionNotMet
asked_of index reader scope (Some (Samples other masks filter)) =
    if other == reader then Ok (record { index = index; selection = selection_in scope masks; filter = filter })
    else Err PreconditionNotMet
