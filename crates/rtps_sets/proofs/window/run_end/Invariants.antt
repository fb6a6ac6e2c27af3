use Rattle.std.proofs.Common.{◌≤◌, ◌<◌, ℕ}
use Rattle.std.specs.Prelude.{IsSome}
use Rattle.rtps_sets.specs.Window.{ring_mark}
use Rattle.rtps_sets.proofs.window.run_end.Given as goal

abbrev pub invariant-loop-number : goal.invariant-loop-number
invariant-loop-number l = (n : ℕ) → l.place ≤ n → n < l.number → IsSome (ring_mark l.held l.irrelevant n)
