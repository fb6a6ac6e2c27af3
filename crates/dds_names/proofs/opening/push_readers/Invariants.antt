use Rattle.std.proofs.Common.{◌≡◌, ◌+◌, ◌++◌, drop, map}
use Rattle.dds_base.specs.Matched.{is_reliable_reader}
use Rattle.dds_base.specs.declared.config.ReaderConfig.{ReaderConfig}
use Rattle.dds_machine.specs.Opening.{names_in}
use Rattle.dds_names.specs.Known.{name_of}
use Rattle.dds_names.proofs.opening.push_readers.Given as goal

abbrev pub invariant-loop-index : goal.invariant-loop-index
invariant-loop-index l =
    map name_of l.all.items
    ++ names_in (λ (r : ReaderConfig). r.entity) is_reliable_reader l.fn.prefix l.fn.number (l.index + 1)
    (drop l.index l.fn.readers)
    ≡ map name_of l.initial.all.items
    ++ names_in (λ (r : ReaderConfig). r.entity) is_reliable_reader l.fn.prefix l.fn.number 1 l.fn.readers
