-- those so far that are there
use Rattle.std.proofs.Common.{◌≡◌, take}
use Rattle.dds_participant.specs.Sight.{seen_of}
use Rattle.dds_participant.proofs.watcher.seen_of.Given as goal

abbrev pub invariant-loop-one : goal.invariant-loop-one
invariant-loop-one l = l.all.items ≡ seen_of (take l.one-index l.far)
