use Rattle.std.proofs.Common.{length, arith, rules, refl, ap, ◌∙◌}
use Rattle.dds_machine.specs.Noticing.{reader_told}
use Rattle.dds_machine.specs.Part.{own_proxies, own_reader}
use Rattle.dds_core.specs.Kept.{PeerKept}
use Rattle.dds_ends.specs.Noticing.{IsMarkOf}
use Rattle.dds_core.proofs.Notified.{tells_all, tells_first, tells_marked}
use Rattle.dds_core.proofs.peer.Peer.notify_readers.Goals as goal

pub loop-index-init : goal.loop-index-init
loop-index-init g c = record {
  told = λ before marks.
      tells_first g.L.Listener.notices g.L.Listener.capacity g.L.Listener.becomes (reader_told before) c.args.self.now c.args.slots.now;
  count = refl;
}

pub notify_reader-requires : goal.notify_reader-requires
notify_reader-requires g c =
    let same = ap (λ (k : PeerKept). length k.readers) c.self.view_is in
    let count = c.loop-index.invariant.count in
    record { within = (omega arith, omega (arith, c.loop-index-test.true, c.len-index-end.ensures, same, count)) }

pub loop-index-preserved : goal.loop-index-preserved
loop-index-preserved g c = record {
  told = λ before marks.
      tells_marked g.L.Listener.notices g.L.Listener.capacity g.L.Listener.becomes c.args.marks.now.readers
      (record { happened = 0; here = 0 })
      (λ mark i. IsMarkOf mark (own_proxies before i) (own_reader before i)) (reader_told before)
      c.args.self.now c.args.slots.now c.loop-index.self c.loop-index.slots c.notify_reader.new.self
      c.notify_reader.new.slots c.loop-index.index _ _ 16 c.loop-index-test.true c.len-index-end.ensures
      (omega (arith, c.self.invariant.1)) (search rules) marks.readers (c.loop-index.invariant.told before marks)
      (c.notify_reader.ensures.told before);
  count = c.notify_reader.ensures.readers ∙ c.loop-index.invariant.count;
}

pub returns : goal.returns
returns g c = record {
  told = λ before marks.
      tells_all g.L.Listener.notices g.L.Listener.capacity g.L.Listener.becomes (reader_told before) c.args.self.now c.args.slots.now
      c.loop-index.self c.loop-index.slots c.loop-index.index _ _ (length c.args.self.now.readers)
      c.loop-index.auto.index-end c.loop-index-test.false c.len-index-end.ensures
      (omega (arith, ap (λ (k : PeerKept). length k.readers) c.self.view_is))
      (c.loop-index.invariant.told before marks);
}
