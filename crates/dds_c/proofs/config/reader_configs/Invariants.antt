use Rattle.std.proofs.Common.{◌≡◌, ◌++◌, drop}
use Rattle.dds_c.specs.Opening.{readers_of}
use Rattle.dds_c.proofs.config.reader_configs.Given as goal

abbrev pub invariant-loop-reader : goal.invariant-loop-reader
invariant-loop-reader l =
    l.found.items ++ readers_of (drop l.reader-index l.readers) l.peer ≡ readers_of l.readers l.peer
