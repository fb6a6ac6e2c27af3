use Rattle.std.proofs.Common.{◌≡◌, ◌+◌, drop}
use Rattle.dds_base.specs.FaultAt.{first_at, peer_fault, pass_fault}
use Rattle.dds_base.proofs.config_check.pass_fault.Given as goal

abbrev pub invariant-loop-at : goal.invariant-loop-at
invariant-loop-at l = first_at (peer_fault l.pass l.peers) (l.at + 1) (drop l.at l.peers) ≡ pass_fault l.pass l.peers
