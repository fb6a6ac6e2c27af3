-- the masks ask for none of those so far
use Rattle.std.proofs.Common.{◌≡◌, List, false, take}
use Rattle.std.specs.List.{All}
use Rattle.dds_base.specs.declared.happening.Happening.{Happening}
use Rattle.dds_base.specs.declared.qos.ReaderQos.{ReaderQos}
use Rattle.dds_base.specs.Instance.{known_instances}
use Rattle.dds_instances.specs.Table.{Stands}
use Rattle.dds_cache.specs.Finding.{asks_for_states}
use Rattle.dds_cache.proofs.asking.asks_for_any.Given as goal

abbrev pub invariant-loop-place : goal.invariant-loop-place
invariant-loop-place l =
    (q : ReaderQos) (h : List Happening) → Stands q l.instances h
    → All (λ i. asks_for_states q h l.masks i ≡ false) (take l.place (known_instances q h))
