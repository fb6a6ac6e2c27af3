use Rattle.std.proofs.Common.{ℕ, ◌<◌}
use Rattle.dds_trace.specs.Knowing.{HasNoPlace}
use Rattle.dds_trace.proofs.weaving.find_next.Given as goal

abbrev pub invariant-loop-at : goal.invariant-loop-at
invariant-loop-at l = (t : ℕ) → t < l.at → HasNoPlace l.traces l.placed t
