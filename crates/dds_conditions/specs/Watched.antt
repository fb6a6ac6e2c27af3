-- What the application of a peer watches: the conditions that it made, its WaitSets, and the statuses that are enabled.
--
-- DDS 1.4, 2.2.2.1 (Condition, GuardCondition, StatusCondition, WaitSet), 2.2.2.5 (ReadCondition).
use Rattle.std.specs.Prelude.{ℕ, ◌+◌, ◌-◌, ◌^◌, List, [], ◌∷◌, ◌++◌, set, map, length, nat_le, ◌&&◌, Bool, true, false, Option, None, Some, is_some, if◌then◌else◌}
use Rattle.std.specs.List.{filter}
use Rattle.std.specs.Option.{option_map}
use Rattle.dds_base.specs.declared.code.Code.{Code}
use Rattle.dds_base.specs.declared.code.Code.TheVariants.{BadParameter, OutOfResources, PreconditionNotMet}
use Rattle.dds_base.specs.declared.entity.Entity.{Entity}
use Rattle.dds_base.specs.EachEntity.{EachEntity, entity_or, everywhere, has_entity, with_entity}
use Rattle.dds_base.specs.Number.{at_number, is_number}
use Rattle.dds_notices.specs.declared.mask.StatusMask.{StatusMask}
use Rattle.dds_conditions.specs.declared.condition.Cond.{Cond}
use Rattle.dds_conditions.specs.declared.condition.Cond.TheVariants.{Status, Made}
use Rattle.dds_conditions.specs.declared.condition.Condition.{Condition}
use Rattle.dds_conditions.specs.declared.condition.Condition.TheVariants.{Samples, Guard}
use Rattle.dds_conditions.specs.declared.waiting.Waiting.{Waiting}
use Rattle.dds_conditions.specs.Attached.{attached, detached, detach_refusal}

-- the conditions and the WaitSets by their numbers, none where one was deleted; and which statuses of each entity are
-- enabled; and how many filters there are
pub record Watched : Type 0 where
  pub conditions : List (Option Condition)
  pub wait_sets : List (Option Waiting)
  pub enabled : EachEntity StatusMask
  pub filters : ℕ

-- every status (2.3.3, STATUS_MASK_ALL)
abbrev pub every_status : StatusMask
every_status = record { 0 = 65535 }

-- at first nothing was made, there is no filter, and all statuses of the participant, of so many writers and of so many
-- readers are enabled
abbrev pub opened : ℕ → ℕ → Watched
opened writers readers = record {
  conditions = [];
  wait_sets = [];
  enabled = everywhere every_status writers readers;
  filters = 0;
}

-- ---- by number, from 1

-- another one in the place of that of this number
abbrev pub with_made : {X : Type 0} → List (Option X) → ℕ → Option X → List (Option X)
with_made xs n x = set xs (n - 1) x

-- numbers are given from 1 to 2^32 - 1, each once
abbrev pub number_refusal : {X : Type 0} → List X → Option Code
number_refusal xs = if nat_le (2 ^ 32 - 1) (length xs) then Some OutOfResources else None

-- BAD_PARAMETER where there is none
abbrev pub unless_there : Bool → Option Code
unless_there there = if there then None else Some BadParameter

-- ---- conditions

-- a condition more, the last one
abbrev pub with_condition : Watched → Condition → Watched
with_condition w c = record w { conditions = w.conditions ++ Some c ∷ [] }

-- another condition, or none, in the place of that of this number
abbrev pub with_condition_at : Watched → ℕ → Option Condition → Watched
with_condition_at w n c = record w { conditions = with_made w.conditions n c }

-- why a guard can't be set: no such condition, or no guard (GuardCondition, set_trigger_value)
abbrev pub guard_refusal : Option Condition → Option Code
guard_refusal None = Some BadParameter
guard_refusal (Some (Guard value)) = None
guard_refusal (Some (Samples reader masks filter)) = Some PreconditionNotMet

-- a WaitSet without this condition
abbrev pub without : Cond → Option Waiting → Option Waiting
without c waiting = option_map (λ (s : Waiting). record s { conditions = detached c s.conditions }) waiting

-- a condition is deleted, and so detached
abbrev pub without_condition : Watched → ℕ → Watched
without_condition w n = record w
    { conditions = with_made w.conditions n None; wait_sets = map (without (Made n)) w.wait_sets }

-- ---- filters

-- filters are numbered from 1 to 2^32 - 1, in the order in which they were added
abbrev pub filter_refusal : Watched → Option Code
filter_refusal w = if nat_le (2 ^ 32 - 1) w.filters then Some OutOfResources else None

-- a filter more, the last one
abbrev pub with_filter : Watched → Watched
with_filter w = record w { filters = w.filters + 1 }

-- there is a filter of this number
abbrev pub has_filter : Watched → ℕ → Bool
has_filter w n = is_number n w.filters

-- ---- entities

-- there is such an entity
abbrev pub knows_entity : Watched → Entity → Bool
knows_entity w entity = has_entity w.enabled entity

-- which of its statuses are enabled (StatusCondition, get_enabled_statuses)
abbrev pub enabled_of : Watched → Entity → StatusMask → StatusMask
enabled_of w entity none = entity_or w.enabled entity none

-- other ones are enabled (StatusCondition, set_enabled_statuses)
abbrev pub with_enabled : Watched → Entity → StatusMask → Watched
with_enabled w entity mask = record w { enabled = with_entity w.enabled entity mask }

-- there is such a condition; each entity has a status condition
abbrev pub knows : Watched → Cond → Bool
knows w (Status entity) = knows_entity w entity
knows w (Made n) = is_some (at_number w.conditions n)

-- ---- WaitSets

-- a WaitSet with no conditions, in which nobody waits
abbrev pub fresh : Waiting
fresh = record { conditions = []; deadline = None }

-- a WaitSet more, the last one
abbrev pub with_wait_set : Watched → Watched
with_wait_set w = record w { wait_sets = w.wait_sets ++ Some fresh ∷ [] }

-- another WaitSet, or none, in the place of that of this number
abbrev pub with_wait_set_at : Watched → ℕ → Option Waiting → Watched
with_wait_set_at w n waiting = record w { wait_sets = with_made w.wait_sets n waiting }

-- why one that has to be free is refused: no such WaitSet, or somebody waits in it
abbrev pub free_refusal : Option Waiting → Option Code
free_refusal None = Some BadParameter
free_refusal (Some s) = if is_some s.deadline then Some PreconditionNotMet else None

-- there is a WaitSet, and somebody waits in it
abbrev pub is_used : Option Waiting → Bool
is_used None = false
is_used (Some s) = is_some s.deadline

-- in how many of these somebody waits
abbrev pub uses_in : List (Option Waiting) → ℕ
uses_in wait_sets = length (filter is_used wait_sets)

-- why one in which somebody has to wait is refused: no such WaitSet, or nobody waits in it
abbrev pub use_refusal : Option Waiting → Option Code
use_refusal None = Some BadParameter
use_refusal (Some s) = if is_some s.deadline then None else Some PreconditionNotMet

-- the conditions of a WaitSet that may be there
abbrev pub conditions_in : Option Waiting → List Cond
conditions_in None = []
conditions_in (Some s) = s.conditions

-- the conditions of the WaitSet of this number
abbrev pub conditions_of : Watched → ℕ → List Cond
conditions_of w n = conditions_in (at_number w.wait_sets n)

-- why a condition can't be attached: no such WaitSet, or no such condition
abbrev pub attach_refusal : Watched → ℕ → Cond → Option Code
attach_refusal w n c = unless_there (is_some (at_number w.wait_sets n) && knows w c)

-- a WaitSet to which a condition was attached (attach_condition)
abbrev pub with_attached : Watched → ℕ → Cond → Watched
with_attached w n c = with_wait_set_at w n
    (option_map (λ (s : Waiting). record s { conditions = attached c s.conditions }) (at_number w.wait_sets n))

-- why a condition can't be detached: no such WaitSet, no such condition, or it is not attached
abbrev pub detaching_refusal : Watched → ℕ → Cond → Option Code
detaching_refusal w n c =
    if is_some (at_number w.wait_sets n) && knows w c then detach_refusal c (conditions_of w n) else Some BadParameter

-- a WaitSet from which a condition was detached (detach_condition)
abbrev pub with_detached : Watched → ℕ → Cond → Watched
with_detached w n c = with_wait_set_at w n (without c (at_number w.wait_sets n))

-- a WaitSet in which somebody waits up to this moment, or nobody
abbrev pub with_deadline : Watched → ℕ → Option ℕ → Watched
with_deadline w n deadline =
    with_wait_set_at w n (option_map (λ (s : Waiting). record s { deadline = deadline }) (at_number w.wait_sets n))

-- the moment has come, or there is none
abbrev pub has_come : Option ℕ → ℕ → Bool
has_come None now = true
has_come (Some moment) now = nat_le moment now

-- the deadline of a WaitSet in which somebody waits has come
abbrev pub is_timed_out : Option Waiting → ℕ → Bool
is_timed_out None now = true
is_timed_out (Some s) now = has_come s.deadline now
