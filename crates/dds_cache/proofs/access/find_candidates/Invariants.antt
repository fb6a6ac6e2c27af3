-- the candidates among those so far
use Rattle.std.proofs.Common.{List, take, length}
use Rattle.std.specs.List.{All}
use Rattle.dds_base.specs.declared.happening.Happening.{Happening}
use Rattle.dds_instances.specs.Table.{Stands}
use Rattle.dds_cache.specs.Kept.{IsKept}
use Rattle.dds_cache.specs.Finding.{AreCandidates, IsPlaced}
use Rattle.dds_cache.proofs.access.find_candidates.Given as goal

abbrev pub invariant-loop-at : goal.invariant-loop-at
invariant-loop-at g l = record {
  placed : All (IsPlaced (length l.samples)) l.found.items;
  found : (h : List Happening) → Stands l.qos l.instances h → All (IsKept l.qos h) l.samples
      → AreCandidates l.qos h l.masks (g.T.Test.meaning l.test) l.samples (take l.at l.samples) l.found.items;
}
