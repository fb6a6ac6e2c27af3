use Rattle.std.proofs.Common.{◌≤◌, map, take}
use Rattle.dds_protocol.specs.DueMessages.{AreSent}
use Rattle.dds_ends.specs.Beating.{ForEach, beats_message}
use Rattle.dds_ends.specs.Sending.{AreMessages}
use Rattle.dds_ends.proofs.heartbeat.send_to_all.Given as goal

abbrev pub invariant-loop-to : goal.invariant-loop-to
invariant-loop-to l = record {
  few : l.sent.unsent ≤ l.to-index;
  sent : ForEach l.fn.beat.due.first l.fn.writer l.fn.readers (λ w answered.
      AreSent (map (beats_message l.fn.beat w answered l.fn.matched) (take l.to-index l.fn.destinations))
      l.sent.packets.items l.sent.unsent);
  messages : AreMessages l.sent.packets.items;
}
