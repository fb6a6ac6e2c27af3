use Rattle.std.proofs.Common.{◌≡◌, ℕ, ◌<◌, ◌≤◌, Some, length}
use Rattle.std.specs.Prelude.{slice_get, slice_index}
use Rattle.dds_trace.specs.Entries.{Traced}
use Rattle.dds_trace.proofs.weaving.has_more.Given as goal

abbrev pub invariant-loop-at : goal.invariant-loop-at
invariant-loop-at l = (t : ℕ) → t < l.at → (tr : Traced) → slice_get l.traces t ≡ Some tr → length tr.entries ≤ slice_index l.placed t
