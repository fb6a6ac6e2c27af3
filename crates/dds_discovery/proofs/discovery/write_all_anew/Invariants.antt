-- at the links so far all is to be written again, the others are as they were
use Rattle.std.proofs.Common.{◌≡◌, ◌++◌, map, take, drop}
use Rattle.dds_discovery.specs.Events.{link_anew}
use Rattle.dds_discovery.proofs.discovery.write_all_anew.Given as goal

abbrev pub invariant-loop-link : goal.invariant-loop-link
invariant-loop-link l = l.links ≡ map link_anew (take l.link-index l.fn.links) ++ drop l.link-index l.fn.links
