use Rattle.std.proofs.Common.{◌≤◌, ◌*◌}
use Rattle.dds_ends.specs.Sending.{AreMessages}
use Rattle.dds_ends.proofs.Beating.{BeatsTo}
use Rattle.dds_ends.proofs.Ticking.{TickedTo}
use Rattle.dds_ends.proofs.writer_end.tick_all.Given as goal

abbrev pub invariant-loop-writer : goal.invariant-loop-writer
invariant-loop-writer l = record {
  ticks : TickedTo l.now l.writer-index l.initial.writers l.writers;
  few : l.sent.unsent ≤ 2147483647 * l.writer-index;
  beats : BeatsTo l.prefix l.writer-index l.initial.writers l.sent.packets.items l.sent.unsent;
  messages : AreMessages l.sent.packets.items;
}
