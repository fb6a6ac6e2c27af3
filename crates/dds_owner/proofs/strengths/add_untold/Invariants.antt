-- so many writers were added as the loop went round
use Rattle.std.proofs.Common.{◌≡◌, ◌+◌, ◌≤◌, ◌++◌, replicate, None}
use Rattle.std.specs.Prelude.{vec_len, vec_capacity}
use Rattle.dds_owner.proofs.strengths.add_untold.Given as goal

abbrev pub invariant-loop : goal.invariant-loop
invariant-loop l = record {
  items : l.told.items ≡ l.fn.told.items ++ replicate l.counter None;
  len : vec_len l.told ≡ vec_len l.fn.told + l.counter;
  capacity : vec_capacity l.fn.told ≤ vec_capacity l.told;
}
