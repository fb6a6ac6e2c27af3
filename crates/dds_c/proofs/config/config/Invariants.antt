use Rattle.std.proofs.Common.{◌≡◌, ◌+◌, ◌++◌, drop}
use Rattle.dds_c.specs.Opening.{peers_of}
use Rattle.dds_c.proofs.config.config.Given as goal

abbrev pub invariant-loop-at : goal.invariant-loop-at
invariant-loop-at l =
    l.configs.items ++ peers_of l.writers l.readers (l.at + 1) (drop l.at l.peers)
    ≡ peers_of l.writers l.readers 1 l.peers
