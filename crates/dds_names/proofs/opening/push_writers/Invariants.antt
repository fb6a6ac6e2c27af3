use Rattle.std.proofs.Common.{◌≡◌, ◌+◌, ◌++◌, true, drop, map}
use Rattle.dds_base.specs.declared.config.WriterConfig.{WriterConfig}
use Rattle.dds_machine.specs.Opening.{names_in}
use Rattle.dds_names.specs.Known.{name_of}
use Rattle.dds_names.proofs.opening.push_writers.Given as goal

abbrev pub invariant-loop-index : goal.invariant-loop-index
invariant-loop-index l =
    map name_of l.all.items
    ++ names_in (λ (w : WriterConfig). w.entity) (λ w. true) l.fn.prefix l.fn.number (l.index + 1)
    (drop l.index l.fn.writers)
    ≡ map name_of l.initial.all.items
    ++ names_in (λ (w : WriterConfig). w.entity) (λ w. true) l.fn.prefix l.fn.number 1 l.fn.writers
