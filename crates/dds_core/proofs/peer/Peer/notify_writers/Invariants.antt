use Rattle.std.proofs.Common.{◌≡◌, length}
use Rattle.dds_machine.specs.Noticing.{each_told, writer_told}
use Rattle.dds_machine.specs.Part.{Part}
use Rattle.dds_core.specs.Noticing.{AreMarksOf, Tells}
use Rattle.dds_core.proofs.peer.Peer.notify_writers.Given as goal

abbrev pub invariant-loop-index : goal.invariant-loop-index
invariant-loop-index g l = record {
  told : (before : Part) → AreMarksOf l.marks before
      → Tells g.L.Listener.notices g.L.Listener.capacity g.L.Listener.becomes
      (each_told (writer_told before) l.index) l.fn.self l.fn.slots l.self l.slots;
  count : length l.self.writers ≡ length l.fn.self.writers;
  readers : length l.self.readers ≡ length l.fn.self.readers;
}
