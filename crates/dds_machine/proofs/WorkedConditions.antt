-- The trigger values of conditions, what an access by one picks, and what a wait answers, computed at a small peer.
use Rattle.std.proofs.Common.{◌≡◌, ℕ, ◌==◌, true, false, List, [], ◌∷◌, Option, Some, None, Bool, refl, inl}
use Rattle.std.specs.Prelude.{◌&&◌, pos}
use Rattle.dds_base.specs.declared.code.Code.TheVariants.{BadParameter, PreconditionNotMet, Timeout}
use Rattle.dds_base.specs.declared.entity.Entity.TheVariants as entity
use Rattle.dds_base.specs.declared.happening.Happening.{Happening}
use Rattle.dds_base.specs.declared.happening.Happening.TheVariants.{Read as HasRead, Took}
use Rattle.dds_base.specs.declared.happening.SamplePosition.{SamplePosition}
use Rattle.dds_base.specs.declared.mask.Masks.{Masks}
use Rattle.dds_base.specs.declared.selection.Scope.TheVariants as scope
use Rattle.dds_conditions.specs.declared.condition.Cond.{Cond}
use Rattle.dds_conditions.specs.declared.condition.Cond.TheVariants.{Status, Made}
use Rattle.dds_conditions.specs.declared.condition.Condition.{Condition}
use Rattle.dds_conditions.specs.declared.condition.Condition.TheVariants.{Guard, Samples}
use Rattle.dds_conditions.specs.declared.waiting.Waiting.{Waiting as WaitingFor}
use Rattle.dds_conditions.specs.Watched.{Watched}
use Rattle.dds_notices.specs.Listeners.{nobody}
use Rattle.dds_machine.specs.declared.call.Call.{Call}
use Rattle.dds_machine.specs.declared.call.Call.TheVariants as call
use Rattle.dds_machine.specs.declared.reply.Reply.{Reply}
use Rattle.dds_machine.specs.declared.reply.Reply.TheVariants.{Active, Created, Done, Refused, TriggerValue, Waiting}
use Rattle.dds_machine.specs.Calls.{CallStep, picked_at}
use Rattle.dds_machine.specs.Part.{Part, nothing_seen}
use Rattle.dds_machine.specs.Watching.{Tests, condition_refusal, condition_selection, condition_test, query_condition_refusal, status_changes, trigger_value}
use Rattle.dds_machine.proofs.WorkedNotices.{mask, part as noticing, written}

-- ---- the peer

-- every state of a sample is asked for
abbrev any : Masks
any = record { samples = record { 0 = 65535 }; views = record { 0 = 65535 }; instances = record { 0 = 65535 } }

-- a sample that was not read yet is
abbrev not_read : Masks
not_read = record { samples = record { 0 = 2 }; views = record { 0 = 65535 }; instances = record { 0 = 65535 } }

-- these conditions were made, and these WaitSets; there is one filter
abbrev watch : List (Option Condition) → List (Option WaitingFor) → Watched
watch conditions wait_sets = record {
  conditions = conditions;
  wait_sets = wait_sets;
  enabled = record { participant = mask 65535; writers = mask 65535 ∷ []; readers = mask 65535 ∷ [] };
  filters = 1;
}

-- a peer at this moment that watches so, and at whose reader r1 this happened
abbrev peer : ℕ → Watched → List Happening → Part
peer moment watched happened = record {
  rtps = (noticing [] nothing_seen happened (nobody 1 1)).rtps;
  dds =
      record (noticing [] nothing_seen happened (nobody 1 1)).dds { moment = moment; watch = watched };
}

-- a value passes that begins with 1
abbrev begins : List ℕ → Bool
begins [] = false
begins (octet ∷ octets) = octet == 1

-- the filter of number 1 is that one, and no sample passes another one
abbrev tests : Tests
tests filter key value = (filter == 1) && begins value

-- a call is answered so, and this is watched afterwards
abbrev Watches : ℕ → List Happening → Watched → Call → Reply → Watched → Type 0
Watches moment happened old call reply new =
    CallStep tests (peer moment old happened) call reply (peer moment new happened)

-- a WaitSet with these conditions, and the moment up to which somebody waits in it
abbrev waiting : List Cond → Option ℕ → Option WaitingFor
waiting conditions deadline = Some (record { conditions = conditions; deadline = deadline })

-- a sample of the first instance, by its position
abbrev at : ℕ → SamplePosition
at position = record { key = record { 0 = 1 ∷ [] }; position = position }

-- ---- a query condition in a WaitSet

-- of the only reader, all masks, and the only filter
abbrev query : Option Condition
query = Some (Samples 1 any (Some 1))

query-is_made : Watches 0 [] (watch [] []) (call.CreateQueryCondition 1 any 1) (Created 1) (watch (query ∷ []) [])
query-is_made = record { answers = inl (refl, refl); rtps = refl }

-- not by a filter that is not there, nor of a reader that is not
query-not_by_another_filter : query_condition_refusal (peer 0 (watch [] []) []) 1 2 ≡ Some BadParameter
query-not_by_another_filter = refl

query-not_of_another_reader : query_condition_refusal (peer 0 (watch [] []) []) 2 1 ≡ Some BadParameter
query-not_of_another_reader = refl

set-is_made : Watches 0 [] (watch (query ∷ []) []) call.CreateWaitSet (Created 1)
    (watch (query ∷ []) (waiting [] None ∷ []))
set-is_made = record { answers = inl (refl, refl); rtps = refl }

-- a condition is attached once, however often that is asked
query-is_attached : Watches 0 [] (watch (query ∷ []) (waiting [] None ∷ [])) (call.AttachCondition 1 (Made 1)) Done
    (watch (query ∷ []) (waiting (Made 1 ∷ []) None ∷ []))
query-is_attached = record { answers = inl (refl, refl); rtps = refl }

query-is_attached_once : Watches 0 [] (watch (query ∷ []) (waiting (Made 1 ∷ []) None ∷ []))
    (call.AttachCondition 1 (Made 1)) Done (watch (query ∷ []) (waiting (Made 1 ∷ []) None ∷ []))
query-is_attached_once = record { answers = inl (refl, refl); rtps = refl }

-- a value that does not pass, then one that does
abbrev first : List Happening
first = written 1 1 (2 ∷ 255 ∷ []) ∷ []

abbrev second : List Happening
second = written 2 1 (1 ∷ 170 ∷ []) ∷ first

-- both are taken
abbrev both_taken : List Happening
both_taken = Took (at 1 ∷ at 2 ∷ []) ∷ second

-- the WaitSet with the condition, and somebody waits in it, or nobody
abbrev attached : Option ℕ → Watched
attached deadline = watch (query ∷ []) (waiting (Made 1 ∷ []) deadline ∷ [])

query-not_by_the_first : trigger_value tests (peer 0 (attached None) first) (Made 1) ≡ false
query-not_by_the_first = refl

query-by_the_second : trigger_value tests (peer 0 (attached None) second) (Made 1) ≡ true
query-by_the_second = refl

query-not_once_taken : trigger_value tests (peer 0 (attached None) both_taken) (Made 1) ≡ false
query-not_once_taken = refl

-- an access by it takes those alone that pass
query-takes_the_second : picked_at (condition_test tests (peer 0 (attached None) second) 1)
    (peer 0 (attached None) second) 1 (condition_selection (peer 0 (attached None) second) (scope.Any (pos 5)) 1)
    ≡ at 2 ∷ []
query-takes_the_second = refl

-- somebody waits from the begin on, is told of the active condition, and waits no longer
wait-begins : Watches 0 second (attached None) (call.WaitBegin 1 5) Done (attached (Some 5))
wait-begins = record { answers = (refl, refl); rtps = refl }

wait-is_active : Watches 0 second (attached (Some 5)) (call.WaitLook 1) (Active (Made 1 ∷ [])) (attached None)
wait-is_active = record { answers = inl (refl, refl); rtps = refl }

-- a condition that is deleted is attached nowhere, and its number is gone
query-is_deleted : Watches 0 both_taken (attached None) (call.DeleteCondition 1) Done
    (watch (None ∷ []) (waiting [] None ∷ []))
query-is_deleted = record { answers = (refl, refl); rtps = refl }

deleted-not_detached : Watches 0 both_taken (watch (None ∷ []) (waiting [] None ∷ []))
    (call.DetachCondition 1 (Made 1)) (Refused BadParameter) (watch (None ∷ []) (waiting [] None ∷ []))
deleted-not_detached = record { answers = (refl, refl); rtps = refl }

deleted-number_is_gone : Watches 0 both_taken (watch (None ∷ []) []) call.CreateGuardCondition (Created 2)
    (watch (None ∷ Some (Guard false) ∷ []) [])
deleted-number_is_gone = record { answers = inl (refl, refl); rtps = refl }

-- a wait without conditions goes on until its deadline, or until it is ended
wait-goes_on : Watches 0 both_taken (watch (None ∷ []) (waiting [] (Some 5) ∷ [])) (call.WaitLook 1) Waiting
    (watch (None ∷ []) (waiting [] (Some 5) ∷ []))
wait-goes_on = record { answers = (refl, refl); rtps = refl }

wait-is_ended : Watches 0 both_taken (watch (None ∷ []) (waiting [] (Some 5) ∷ [])) (call.WaitEnd 1) Done
    (watch (None ∷ []) (waiting [] None ∷ []))
wait-is_ended = record { answers = (refl, refl); rtps = refl }

-- ---- a guard in a WaitSet

abbrev guarded : Bool → Option ℕ → Watched
guarded value deadline = watch (Some (Guard value) ∷ []) (waiting (Made 1 ∷ []) deadline ∷ [])

-- nobody waits twice, nor is a WaitSet deleted in which somebody waits
guard-not_begun_again : Watches 0 [] (guarded false (Some 100)) (call.WaitBegin 1 100) (Refused PreconditionNotMet)
    (guarded false (Some 100))
guard-not_begun_again = record { answers = (refl, refl); rtps = refl }

guard-set_is_in_use : Watches 0 [] (guarded false (Some 100)) (call.DeleteWaitSet 1) (Refused PreconditionNotMet)
    (guarded false (Some 100))
guard-set_is_in_use = record { answers = (refl, refl); rtps = refl }

-- before the deadline the wait goes on; at it TIMEOUT ends the wait; and then there is none
guard-goes_on : Watches 99 [] (guarded false (Some 100)) (call.WaitLook 1) Waiting (guarded false (Some 100))
guard-goes_on = record { answers = (refl, refl); rtps = refl }

guard-times_out : Watches 100 [] (guarded false (Some 100)) (call.WaitLook 1) (Refused Timeout) (guarded false None)
guard-times_out = record { answers = (refl, refl); rtps = refl }

guard-not_looked_at : Watches 100 [] (guarded false None) (call.WaitLook 1) (Refused PreconditionNotMet)
    (guarded false None)
guard-not_looked_at = record { answers = (refl, refl); rtps = refl }

-- a guard is what it was set to; a condition that is active comes before the deadline
guard-is_set : Watches 100 [] (guarded false None) (call.SetTriggerValue 1 true) Done (guarded true None)
guard-is_set = record { answers = (refl, refl); rtps = refl }

guard-is_active : Watches 100 [] (guarded true (Some 0)) (call.WaitLook 1) (Active (Made 1 ∷ [])) (guarded true None)
guard-is_active = record { answers = inl (refl, refl); rtps = refl }

guard-is_detached : Watches 100 [] (guarded true None) (call.DetachCondition 1 (Made 1)) Done
    (watch (Some (Guard true) ∷ []) (waiting [] None ∷ []))
guard-is_detached = record { answers = (refl, refl); rtps = refl }

guard-not_detached_again : Watches 100 [] (watch (Some (Guard true) ∷ []) (waiting [] None ∷ []))
    (call.DetachCondition 1 (Made 1)) (Refused PreconditionNotMet)
    (watch (Some (Guard true) ∷ []) (waiting [] None ∷ []))
guard-not_detached_again = record { answers = (refl, refl); rtps = refl }

-- no samples are read by it, nor by one that is not there, nor none at most
guard-reads_nothing : condition_refusal (peer 0 (guarded true None) second) 1 (scope.Any (pos 5)) 1
    ≡ Some PreconditionNotMet
guard-reads_nothing = refl

condition-not_there : condition_refusal (peer 0 (guarded true None) second) 1 (scope.Any (pos 5)) 2 ≡ Some BadParameter
condition-not_there = refl

condition-not_for_none : condition_refusal (peer 0 (attached None) second) 1 (scope.Any (pos 0)) 1 ≡ Some BadParameter
condition-not_for_none = refl

condition-reads : condition_refusal (peer 0 (attached None) second) 1 (scope.Any (pos 1)) 1 ≡ None
condition-reads = refl

-- ---- a read condition

-- it is true while a sample that was not read is there
abbrev unread : Watched
unread = watch (Some (Samples 1 not_read None) ∷ []) []

unread-is_made : Watches 0 [] (watch [] []) (call.CreateReadCondition 1 not_read) (Created 1) unread
unread-is_made = record { answers = inl (refl, refl); rtps = refl }

unread-not_at_first : trigger_value tests (peer 0 unread []) (Made 1) ≡ false
unread-not_at_first = refl

unread-by_the_first : trigger_value tests (peer 0 unread first) (Made 1) ≡ true
unread-by_the_first = refl

unread-not_once_read : trigger_value tests (peer 0 unread (HasRead (at 1 ∷ []) ∷ first)) (Made 1) ≡ false
unread-not_once_read = refl

-- ---- the status condition of a reader

-- DATA_AVAILABLE alone is enabled at r1
abbrev only_data : Watched
only_data = record (watch [] []) { enabled = record (watch [] []).enabled { readers = mask 1024 ∷ [] } }

status-is_enabled : Watches 0 [] (watch [] []) (call.SetEnabledStatuses (entity.Reader 1) (mask 1024)) Done only_data
status-is_enabled = record { answers = (refl, refl); rtps = refl }

status-not_at_first : trigger_value tests (peer 0 only_data []) (Status (entity.Reader 1)) ≡ false
status-not_at_first = refl

-- a sample flags it, and that its writer became alive
status-by_a_sample : trigger_value tests (peer 0 only_data first) (Status (entity.Reader 1)) ≡ true
status-by_a_sample = refl

status-flags : status_changes (peer 0 only_data first) (entity.Reader 1) ≡ mask 5120
status-flags = refl

-- a take leaves LIVELINESS_CHANGED, which is not enabled
status-flags_once_taken : status_changes (peer 0 only_data (Took (at 1 ∷ []) ∷ first)) (entity.Reader 1) ≡ mask 4096
status-flags_once_taken = refl

status-not_once_taken : trigger_value tests (peer 0 only_data (Took (at 1 ∷ []) ∷ first)) (Status (entity.Reader 1))
    ≡ false
status-not_once_taken = refl

status-all_are_enabled : trigger_value tests (peer 0 (watch [] []) (Took (at 1 ∷ []) ∷ first))
    (Status (entity.Reader 1)) ≡ true
status-all_are_enabled = refl

-- the participant has none, and there is no second reader
status-participant : Watches 0 first only_data (call.GetTriggerValue (Status entity.Participant)) (TriggerValue false)
    only_data
status-participant = record { answers = (refl, refl); rtps = refl }

status-not_there : Watches 0 first only_data (call.GetTriggerValue (Status (entity.Reader 2))) (Refused BadParameter)
    only_data
status-not_there = record { answers = (refl, refl); rtps = refl }
