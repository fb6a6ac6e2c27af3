use Rattle.std.proofs.Common.{◌+◌, ◌*◌, ◌≤◌, length}
use Rattle.dds_ends.specs.Readiness.{receiver_at}
use Rattle.dds_core.proofs.Counted.{ObservesTo}
use Rattle.dds_core.proofs.peer.Peer.observe_body.Given as goal

-- so much was seen of what stands before what is left, and each octet of that brought one at most
abbrev pub invariant-loop-frame : goal.invariant-loop-frame
invariant-loop-frame l = record {
  so_far : ObservesTo l.self l.fn.of l.fn.source l.body l.left (receiver_at l.receiver) l.seen;
  few_data : l.seen.old_data + 16 * length l.left ≤ 16 * length l.body;
  few_heartbeats : l.seen.old_heartbeats + 16 * length l.left ≤ 16 * length l.body;
  few_to_nobody : l.seen.to_nobody + 16 * length l.left ≤ 16 * length l.body;
}

abbrev pub decreases-loop-frame : goal.decreases-loop-frame
decreases-loop-frame l = length l.left
