use Rattle.std.proofs.Common.{◌≤◌, ◌-◌, vec_len}
use Rattle.dds_core.proofs.moves.fill.Given as goal

abbrev pub invariant-loop-alloc : goal.invariant-loop-alloc
invariant-loop-alloc l = vec_len l.initial.spare ≤ vec_len l.spare

abbrev pub decreases-loop-alloc : goal.decreases-loop-alloc
decreases-loop-alloc l = l.fn.count - vec_len l.spare
