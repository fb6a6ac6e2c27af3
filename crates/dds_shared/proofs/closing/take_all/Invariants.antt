use Rattle.std.proofs.Common.{◌≡◌, ◌+◌, ◌≤◌, ◌++◌, length}
use Rattle.std.specs.Prelude.{All, sum_by}
use Rattle.dds_shared.specs.Passes.{Carried, lists_of}
use Rattle.dds_shared.proofs.closing.take_all.Given as goal

abbrev pub invariant-loop-pass : goal.invariant-loop-pass
invariant-loop-pass g l =
    (l.all.parts ≡ l.fn.all.parts + sum_by (λ p. p.parts) l.yielded)
    × (l.all.amount ≡ l.fn.all.amount + length (lists_of l.yielded))
    × (l.keeper.log ≡ l.fn.keeper.log)
    × (l.keeper.list ≡ l.fn.keeper.list ++ lists_of l.yielded)
    × All (λ (p : Carried). p.front ≤ length l.fn.keeper.log) l.yielded
