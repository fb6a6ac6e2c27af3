-- at the links so far time went on, the others are as they were
use Rattle.std.proofs.Common.{◌≡◌, ◌++◌, map, take, drop}
use Rattle.dds_discovery.specs.Events.{link_gone_on}
use Rattle.dds_discovery.proofs.discovery.go_on.Given as goal

abbrev pub invariant-loop-link : goal.invariant-loop-link
invariant-loop-link l =
    l.links ≡ map (link_gone_on l.time l.speaks) (take l.link-index l.fn.links) ++ drop l.link-index l.fn.links
