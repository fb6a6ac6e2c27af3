use Rattle.dds_ends.proofs.Announcing.{announces_more, few_more}
use Rattle.dds_ends.proofs.sending.announce.Goals as goal

pub loop-destination-preserved : goal.loop-destination-preserved
loop-destination-preserved c =
    let i = c.loop-destination.destination-index in
    let h = c.loop-destination.invariant in
    record {
      sent =
          announces_more c.args.sender.now c.args.number c.args.content _ c.loop-destination.packets.items
          c.announce_to.new.packets.items c.args.destinations.now i c.loop-destination-test.true
          c.announce_to.ensures.writable c.announce_to.ensures.adds h.sent;
      few =
          few_more c.loop-destination.packets.items c.announce_to.new.packets.items _ _ i
          c.announce_to.ensures.adds h.few;
    }
