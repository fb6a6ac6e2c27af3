-- what was told so far is printed
use Rattle.std.proofs.Common.{◌≡◌, ◌++◌, take}
use Rattle.std.specs.List.{flat_map}
use Rattle.discovery_script.specs.Told.{told_line}
use Rattle.dds_participant.proofs.watcher.print_all_told.Given as goal

abbrev pub invariant-loop-one : goal.invariant-loop-one
invariant-loop-one l = l.lines.items ≡ l.initial.lines.items ++ flat_map told_line (take l.one-index l.told)
