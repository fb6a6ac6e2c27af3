use Rattle.std.proofs.Common.{◌≤◌, length, take}
use Rattle.dds_ends.specs.Announcing.{AreAnnouncements}
use Rattle.dds_ends.proofs.sending.announce.Given as goal

abbrev pub invariant-loop-destination : goal.invariant-loop-destination
invariant-loop-destination l = record {
  sent : AreAnnouncements l.fn.sender l.fn.number l.fn.content
      (take l.destination-index l.fn.destinations) l.packets.items;
  few : length l.packets.items ≤ l.destination-index;
}
