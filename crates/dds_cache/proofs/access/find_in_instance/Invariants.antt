-- the candidates of the instance among those so far
use Rattle.std.proofs.Common.{List, None, take, length, ◌-◌}
use Rattle.std.specs.List.{All}
use Rattle.dds_base.specs.declared.happening.Happening.{Happening}
use Rattle.dds_instances.specs.Known.{IsKnown}
use Rattle.dds_cache.specs.Kept.{IsKept}
use Rattle.dds_cache.specs.Finding.{IsPlaced}
use Rattle.dds_cache.specs.First.{AreFirstOf, IsOf}
use Rattle.dds_cache.proofs.access.find_in_instance.Given as goal

abbrev pub invariant-loop-at : goal.invariant-loop-at
invariant-loop-at g l = record {
  placed : All (IsPlaced (length l.content.samples.now)) l.found.items;
  handles : All (IsOf l.known.handle) l.found.items;
  found : (h : List Happening) → IsKnown l.content.qos.now h l.known → All (IsKept l.content.qos.now h) l.content.samples.now
      → AreFirstOf l.content.qos.now h l.masks (g.T.Test.meaning l.test) l.known.key None l.content.samples.now (take l.at l.content.samples.now)
      l.found.items;
}

abbrev pub decreases-loop-at : goal.decreases-loop-at
decreases-loop-at g l = length l.content.samples.now - l.at
