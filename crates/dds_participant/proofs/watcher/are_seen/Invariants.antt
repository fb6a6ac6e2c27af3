-- what is left decides
use Rattle.std.proofs.Common.{◌≡◌, ◌≤◌, length, drop}
use Rattle.dds_participant.specs.Sight.{are_seen}
use Rattle.dds_participant.proofs.watcher.are_seen.Given as goal

abbrev pub invariant-loop-one : goal.invariant-loop-one
invariant-loop-one l =
    (l.count ≤ length l.seen) × (are_seen l.seen l.far ≡ are_seen (drop l.count l.seen) (drop l.one-index l.far))
