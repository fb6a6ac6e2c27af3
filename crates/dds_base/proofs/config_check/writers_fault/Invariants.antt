use Rattle.std.proofs.Common.{◌≡◌, ◌+◌, drop}
use Rattle.dds_base.specs.FaultAt.{first_at, writer_fault, writers_fault}
use Rattle.dds_base.proofs.config_check.writers_fault.Given as goal

abbrev pub invariant-loop-at : goal.invariant-loop-at
invariant-loop-at l =
    first_at (writer_fault l.pass l.number l.peer) (l.at + 1) (drop l.at l.peer.writers)
    ≡ writers_fault l.pass l.number l.peer
