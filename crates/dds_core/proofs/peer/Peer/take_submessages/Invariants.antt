use Rattle.std.proofs.Common.{◌≡◌, ◌+◌, ◌≤◌, ◌*◌, ◌^◌, length}
use Rattle.dds_base.proofs.FieldLaws.{AreOctets}
use Rattle.dds_ends.specs.Readiness.{receiver_at}
use Rattle.dds_core.proofs.TakenSoFar.{TakesTo}
use Rattle.dds_ends.specs.Sending.{AreMessages}
use Rattle.dds_ends.specs.Twins.{wants_two}
use Rattle.dds_core.proofs.peer.Peer.take_submessages.Given as goal

abbrev pub invariant-loop-frame : goal.invariant-loop-frame
invariant-loop-frame l = record {
  taken : TakesTo l.initial.self l.fn.source l.body l.left l.index (receiver_at l.receiver) l.effects.moves.items l.self l.effects.sent;
  within : l.index + length l.left ≤ length l.body;
  octets : AreOctets l.left;
  few : l.effects.sent.unsent ≤ 2 ^ 40 * l.index;
  messages : AreMessages l.effects.sent.packets.items;
  same : l.self.prefix ≡ l.initial.self.prefix;
  twice : l.effects.moves.twice ≡ wants_two l.twin;
  still : l.twin ≡ l.initial.twin;
}

abbrev pub decreases-loop-frame : goal.decreases-loop-frame
decreases-loop-frame l = length l.left
