-- what was found of the instances so far
use Rattle.std.proofs.Common.{◌≤◌, List, length}
use Rattle.std.specs.List.{All}
use Rattle.std.specs.List.Sorted.{IsNonDecreasingBy}
use Rattle.dds_base.specs.declared.happening.Happening.{Happening}
use Rattle.dds_cache.specs.declared.access.Candidate.{Candidate}
use Rattle.dds_cache.specs.Finding.{Holds, IsPlaced, handle_in}
use Rattle.dds_cache.specs.First.{AreFirstUpTo}
use Rattle.dds_cache.proofs.by_instance.find_by_instance.Given as goal

abbrev pub invariant-loop-place : goal.invariant-loop-place
invariant-loop-place g l = record {
  placed : All (IsPlaced (length l.content.samples.now)) l.found.items;
  sorted : IsNonDecreasingBy handle_in l.found.items;
  below : All (λ (c : Candidate). handle_in c ≤ l.newest) l.found.items;
  found : (h : List Happening) → Holds l.content.qos.now l.content.instances.now l.content.samples.now h
      → AreFirstUpTo l.content.qos.now h l.masks (g.T.Test.meaning l.test) l.max l.content.samples.now l.place l.found.items;
}
