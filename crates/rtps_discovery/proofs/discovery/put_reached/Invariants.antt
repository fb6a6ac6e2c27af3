-- the addresses of those so far stand behind the others
use Rattle.std.proofs.Common.{◌≡◌, ◌++◌, filter_map, take}
use Rattle.rtps_discovery.specs.Rows.{reach}
use Rattle.rtps_discovery.proofs.discovery.put_reached.Given as goal

abbrev pub invariant-loop-row : goal.invariant-loop-row
invariant-loop-row l = l.addresses.items ≡ l.initial.addresses.items ++ filter_map reach (take l.row-index l.rows)
