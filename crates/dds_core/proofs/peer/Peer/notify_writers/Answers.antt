use Rattle.std.proofs.Common.{length, arith, rules, refl, ap, ◌∙◌}
use Rattle.dds_machine.specs.Noticing.{writer_told}
use Rattle.dds_machine.specs.Part.{own_writer}
use Rattle.dds_core.specs.Kept.{PeerKept}
use Rattle.dds_ends.specs.Noticing.{IsWriterMarkOf}
use Rattle.dds_core.proofs.Notified.{tells_all, tells_first, tells_marked}
use Rattle.dds_core.proofs.peer.Peer.notify_writers.Goals as goal

pub loop-index-init : goal.loop-index-init
loop-index-init g c = record {
  told = λ before marks.
      tells_first g.L.Listener.notices g.L.Listener.capacity g.L.Listener.becomes (writer_told before) c.args.self.now c.args.slots.now;
  count = refl;
  readers = refl;
}

pub notify_writer-requires : goal.notify_writer-requires
notify_writer-requires g c =
    let same = ap (λ (k : PeerKept). length k.writers) c.self.view_is in
    let count = c.loop-index.invariant.count in
    record { within = (omega arith, omega (arith, c.loop-index-test.true, c.len-index-end.ensures, same, count)) }

pub loop-index-preserved : goal.loop-index-preserved
loop-index-preserved g c = record {
  told = λ before marks.
      tells_marked g.L.Listener.notices g.L.Listener.capacity g.L.Listener.becomes c.args.marks.now.writers
      (record { losses = 0; matched = 0 })
      (λ mark i. IsWriterMarkOf mark (own_writer before i)) (writer_told before)
      c.args.self.now c.args.slots.now c.loop-index.self c.loop-index.slots c.notify_writer.new.self
      c.notify_writer.new.slots c.loop-index.index _ _ 16 c.loop-index-test.true c.len-index-end.ensures
      (omega (arith, c.self.invariant.0)) (search rules) marks.writers (c.loop-index.invariant.told before marks)
      (c.notify_writer.ensures.told before);
  count = c.notify_writer.ensures.writers ∙ c.loop-index.invariant.count;
  readers = c.notify_writer.ensures.readers ∙ c.loop-index.invariant.readers;
}

pub returns-clause-told : goal.returns-clause-told
returns-clause-told g c = λ before marks.
    tells_all g.L.Listener.notices g.L.Listener.capacity g.L.Listener.becomes (writer_told before) c.args.self.now c.args.slots.now
    c.loop-index.self c.loop-index.slots c.loop-index.index _ _ (length c.args.self.now.writers)
    c.loop-index.auto.index-end c.loop-index-test.false c.len-index-end.ensures
    (omega (arith, ap (λ (k : PeerKept). length k.writers) c.self.view_is)) (c.loop-index.invariant.told before marks)

pub returns-clause-readers : goal.returns-clause-readers
returns-clause-readers g c = c.loop-index.invariant.readers
