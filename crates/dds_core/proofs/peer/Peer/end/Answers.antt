use Rattle.dds_core.proofs.Ended.{tells_end}
use Rattle.dds_core.proofs.peer.Peer.end.Goals as goal

pub returns : goal.returns
returns g c = record {
  told = λ before marks.
      tells_end g.L.Listener.notices g.L.Listener.capacity g.L.Listener.becomes before c.args.self.now c.args.slots.now
      c.notify_writers.new.self c.notify_writers.new.slots
      c.notify_readers.new.self c.notify_readers.new.slots c.notify_writers.ensures.readers
      (c.notify_writers.ensures.told before marks) (c.notify_readers.ensures.told before marks);
}
