-- those so far that were none are printed
use Rattle.std.proofs.Common.{◌≡◌, ◌++◌, take}
use Rattle.std.specs.List.{flat_map}
use Rattle.discovery_script.specs.Told.{misfit_line}
use Rattle.dds_participant.specs.Sight.{new_misfits}
use Rattle.dds_participant.proofs.watcher.print_misfits.Given as goal

abbrev pub invariant-loop-one : goal.invariant-loop-one
invariant-loop-one l =
    l.lines.items ≡ l.initial.lines.items ++ flat_map misfit_line (new_misfits l.before (take l.one-index l.misfits))
