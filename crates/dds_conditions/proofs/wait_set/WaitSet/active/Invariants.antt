use Rattle.std.proofs.Common.{◌≡◌, Bool, take}
use denote.Param.Always.{always_mut}
use Rattle.std.specs.Fn.{CalledAt}
use Rattle.dds_conditions.specs.declared.condition.Cond.{Cond}
use Rattle.dds_conditions.specs.Attached.{active_of}
use Rattle.dds_conditions.proofs.wait_set.WaitSet.active.Given as goal

-- those that were asked so far, by the trigger values that the test tells, are found, and the test is as it was
abbrev pub invariant-loop-condition : goal.invariant-loop-condition
invariant-loop-condition g l =
    always_mut g.T.FnMut l.is_true
    × ((trigger : Cond → Bool)
    → ((c : Cond) (answer : Bool) (after : _) → CalledAt g.T.FnMut l.fn.is_true c answer after
    → (answer ≡ trigger c) × (after ≡ l.fn.is_true))
    → (l.active.items ≡ active_of trigger (take l.condition-index l.condition-items)) × (l.is_true ≡ l.fn.is_true))
