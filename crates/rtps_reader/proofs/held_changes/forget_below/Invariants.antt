use Rattle.std.proofs.Common.{◌≡◌, ◌≤◌, ◌<◌, ◌+◌, ℕ, cond}
use Rattle.std.specs.Prelude.{None, nat_lt}
use Rattle.rtps_reader.specs.HeldChanges.{HasPlaces, count_held, held_at}
use Rattle.rtps_reader.proofs.held_changes.forget_below.Given as goal

abbrev pub invariant-loop-number : goal.invariant-loop-number
invariant-loop-number l = record {
  each : (n : ℕ) → l.from ≤ n → n < l.from + 256
      → held_at l.held n ≡ cond (nat_lt n l.number) None (held_at l.fn.held n);
  count : count_held l.held ≤ count_held l.fn.held;
  places : HasPlaces l.fn.held → HasPlaces l.held;
}
