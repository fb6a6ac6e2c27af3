-- what was printed stays in front
use Rattle.std.proofs.Common.{true}
use Rattle.dds_participant.specs.Watching.{Lists}
use Rattle.dds_participant.proofs.watcher.list_all.Given as goal

abbrev pub invariant-loop-end : goal.invariant-loop-end
invariant-loop-end l = Lists true l.initial.lines.items l.lines.items
