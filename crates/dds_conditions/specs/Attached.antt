-- Which conditions a WaitSet has, and which of them are active.
--
-- DDS 1.4, 2.2.2.1 (WaitSet: attach_condition, detach_condition, wait).
use Rattle.std.specs.Prelude.{List, [], ◌∷◌, ◌++◌, Bool, true, false, ◌==◌, not, Option, None, Some, if◌then◌else◌, filter}
use Rattle.std.specs.List.{list_any}
use Rattle.dds_base.specs.declared.code.Code.{Code}
use Rattle.dds_base.specs.declared.code.Code.TheVariants.{PreconditionNotMet}
use Rattle.dds_base.specs.declared.entity.Entity.{Entity}
use Rattle.dds_base.specs.declared.entity.Entity.TheVariants.{Participant, Writer, Reader}
use Rattle.dds_conditions.specs.declared.condition.Cond.{Cond}
use Rattle.dds_conditions.specs.declared.condition.Cond.TheVariants.{Status, Made}

-- two entities are one
abbrev pub are_one_entity : Entity → Entity → Bool
are_one_entity Participant Participant = true
are_one_entity (Writer w) (Writer v) = w == v
are_one_entity (Reader r) (Reader s) = r == s
are_one_entity _ _ = false

-- two conditions are one
abbrev pub same_condition : Cond → Cond → Bool
same_condition (Status a) (Status b) = are_one_entity a b
same_condition (Made n) (Made m) = n == m
same_condition _ _ = false

-- a condition is attached
abbrev pub is_attached : Cond → List Cond → Bool
is_attached c conditions = list_any (same_condition c) conditions

-- what is attached once it was: it stands last, unless it was attached already (attach_condition)
abbrev pub attached : Cond → List Cond → List Cond
attached c conditions = if is_attached c conditions then conditions else conditions ++ c ∷ []

-- what is attached once it was detached (detach_condition)
abbrev pub detached : Cond → List Cond → List Cond
detached c conditions = filter (λ d. not (same_condition c d)) conditions

-- one that is not attached can't be detached (detach_condition)
abbrev pub detach_refusal : Cond → List Cond → Option Code
detach_refusal c conditions = if is_attached c conditions then None else Some PreconditionNotMet

-- those whose trigger value is true, in the order in which they were attached (wait)
abbrev pub active_of : (Cond → Bool) → List Cond → List Cond
active_of trigger conditions = filter trigger conditions
