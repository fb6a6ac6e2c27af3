use Rattle.std.proofs.Common.{◌≡◌, ◌++◌, drop}
use Rattle.dds_c.specs.Opening.{writers_of}
use Rattle.dds_c.proofs.config.writer_configs.Given as goal

abbrev pub invariant-loop-writer : goal.invariant-loop-writer
invariant-loop-writer l =
    l.found.items ++ writers_of (drop l.writer-index l.writers) l.peer ≡ writers_of l.writers l.peer
