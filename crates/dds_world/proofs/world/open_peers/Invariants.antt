use Rattle.dds_world.specs.Acting.{OpensFirst}
use Rattle.dds_world.proofs.world.open_peers.Given as goal

abbrev pub invariant-loop-index : goal.invariant-loop-index
invariant-loop-index g l = OpensFirst g.L.Listener.notices g.L.Listener.capacity g.L.Listener.becomes l.fn.config l.index l.peers.items
