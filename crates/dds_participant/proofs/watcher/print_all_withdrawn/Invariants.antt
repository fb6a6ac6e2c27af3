-- those so far that are withdrawn are printed
use Rattle.std.proofs.Common.{◌≡◌, ◌++◌, take}
use Rattle.dds_participant.specs.Sight.{withdrawn_lines}
use Rattle.dds_participant.proofs.watcher.print_all_withdrawn.Given as goal

abbrev pub invariant-loop-before : goal.invariant-loop-before
invariant-loop-before l =
    l.lines.items ≡ l.initial.lines.items ++ withdrawn_lines l.participant.discovery (take l.before-index l.seen)
