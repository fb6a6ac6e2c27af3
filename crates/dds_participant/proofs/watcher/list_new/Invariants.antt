-- those so far that are new are listed
use Rattle.std.proofs.Common.{take}
use Rattle.dds_participant.specs.Sight.{has_new}
use Rattle.dds_participant.specs.Watching.{Lists}
use Rattle.dds_participant.proofs.watcher.list_new.Given as goal

abbrev pub invariant-loop-one : goal.invariant-loop-one
invariant-loop-one l = Lists (has_new l.seen (take l.one-index l.far)) l.initial.lines.items l.lines.items
