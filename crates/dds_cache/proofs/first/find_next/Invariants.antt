-- of the instances so far nothing is asked for that matches
use Rattle.std.proofs.Common.{List, take}
use Rattle.std.specs.List.{All}
use Rattle.dds_base.specs.declared.happening.Happening.{Happening}
use Rattle.dds_base.specs.Instance.{known_instances}
use Rattle.dds_cache.specs.Finding.{Holds}
use Rattle.dds_cache.specs.First.{IsBarren}
use Rattle.dds_cache.proofs.first.find_next.Given as goal

abbrev pub invariant-loop-place : goal.invariant-loop-place
invariant-loop-place g l = record {
  barren : (h : List Happening) → Holds l.content.qos.now l.content.instances.now l.content.samples.now h
      → All (IsBarren l.content.qos.now h l.selection l.masks (g.T.Test.meaning l.test)) (take l.place (known_instances l.content.qos.now h));
}
