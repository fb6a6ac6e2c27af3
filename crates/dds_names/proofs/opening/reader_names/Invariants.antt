use Rattle.std.proofs.Common.{◌≡◌, ◌+◌, ◌++◌, drop, map}
use Rattle.dds_machine.specs.Opening.{reader_names}
use Rattle.dds_names.specs.Known.{name_of}
use Rattle.dds_names.proofs.opening.reader_names.Given as goal

abbrev pub invariant-loop-index : goal.invariant-loop-index
invariant-loop-index l =
    map name_of l.all.items ++ reader_names (l.index + l.fn.first) (drop l.index l.fn.peers)
    ≡ reader_names l.fn.first l.fn.peers
