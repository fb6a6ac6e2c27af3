-- those so far are printed
use Rattle.std.proofs.Common.{take}
use Rattle.dds_participant.specs.Watching.{PresentsAll}
use Rattle.dds_participant.proofs.watcher.print_presences.Given as goal

abbrev pub invariant-loop-one : goal.invariant-loop-one
invariant-loop-one l = PresentsAll (take l.one-index l.told) l.rows l.initial.lines.items l.lines.items
