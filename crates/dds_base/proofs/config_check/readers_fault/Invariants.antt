use Rattle.std.proofs.Common.{◌≡◌, ◌+◌, drop}
use Rattle.dds_base.specs.FaultAt.{first_at, reader_fault, readers_fault}
use Rattle.dds_base.proofs.config_check.readers_fault.Given as goal

abbrev pub invariant-loop-at : goal.invariant-loop-at
invariant-loop-at l = first_at (reader_fault l.pass l.peers l.number l.peer) (l.at + 1) (drop l.at l.peer.readers)
    ≡ readers_fault l.pass l.peers l.number l.peer
