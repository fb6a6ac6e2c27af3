use Rattle.std.proofs.Common.{◌≡◌, ◌≤◌, length, take}
use Rattle.dds_ends.specs.Beating.{first_peers}
use Rattle.dds_ends.proofs.coming.set_peers.Given as goal

abbrev pub invariant-loop-row : goal.invariant-loop-row
invariant-loop-row l = record {
  written : take l.count l.peers.items ≡ first_peers (take l.row l.fn.names);
  room : length l.peers.items ≡ length l.initial.peers.items;
  within : l.count ≤ length l.peers.items;
}
