use Rattle.std.proofs.Common.{◌≡◌, ◌≤◌, take, vec_len}
use Rattle.std.specs.Prelude.{vec_capacity}
use Rattle.dds_core.proofs.moves.Runs.filled.Given as goal

abbrev pub invariant-loop-run : goal.invariant-loop-run
invariant-loop-run l = record {
  items : l.runs.items ≡ take l.run-index l.fn.passed;
  len : vec_len l.runs ≡ l.run-index;
  room : 257 ≤ vec_capacity l.runs;
}
