-- our announcements for those so far stand behind the others
use Rattle.std.proofs.Common.{◌≡◌, ◌++◌, filter_map, take}
use Rattle.rtps_discovery.specs.Steps.{packet_for}
use Rattle.rtps_discovery.proofs.discovery.put_for_each.Given as goal

abbrev pub invariant-loop-row : goal.invariant-loop-row
invariant-loop-row l =
    l.packets.items ≡ l.initial.packets.items ++ filter_map (packet_for l.own l.for_one) (take l.row-index l.rows)
