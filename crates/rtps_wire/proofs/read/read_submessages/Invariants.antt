use Rattle.std.proofs.Common.{◌≡◌, ◌⊎◌, List, ℕ, ◌+◌, ◌++◌, ◌≤◌, length}
use Rattle.rtps_wire.specs.declared.submessage.Submessage.{Submessage}
use Rattle.rtps_wire.specs.Messages.{ReadsAll, HasFrame}
use Rattle.rtps_wire.proofs.read.read_submessages.Given as goal

-- what is left may be read on
abbrev pub invariant-loop-frame : goal.invariant-loop-frame
invariant-loop-frame l = record {
  on : (ss : List Submessage) (end : List ℕ) → ReadsAll l.left ss end
      → ReadsAll l.bytes (l.submessages ++ ss) end;
  fewer : length l.submessages + length l.left ≤ length l.bytes;
  first : (l.left ≡ l.bytes) ⊎ HasFrame l.bytes;
}

abbrev pub decreases-loop-frame : goal.decreases-loop-frame
decreases-loop-frame l = length l.left
