use Rattle.std.proofs.Common.{◌≡◌, false, take}
use Rattle.std.specs.List.{list_any}
use Rattle.std.specs.Str.{bytes_eq}
use Rattle.rtps_discovery.specs.Fits.{partitions_of}
use Rattle.rtps_discovery.proofs.matching.has_any.Given as goal

abbrev pub invariant-loop-name : goal.invariant-loop-name
invariant-loop-name l =
    list_any (λ name. list_any (bytes_eq name) (partitions_of l.partitions)) (take l.name-index l.names) ≡ false
