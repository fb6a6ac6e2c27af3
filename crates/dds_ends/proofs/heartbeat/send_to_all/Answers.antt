use Rattle.std.proofs.Common.{arith}
use Rattle.dds_ends.specs.Beating.{beats_message}
use Rattle.dds_ends.proofs.Asserting.{told_more}
use Rattle.dds_ends.proofs.heartbeat.send_to_all.Goals as goal

pub loop-to-preserved : goal.loop-to-preserved
loop-to-preserved c =
    let beat = c.args.beat.now in
    let before = c.loop-to.invariant in
    let few = before.few in
    let more = c.send_made.ensures.few in
    record {
      few = omega (arith, few, more);
      sent = λ w answered b.
          told_more (beats_message beat w answered c.args.matched.now) c.args.destinations.now c.loop-to.to-index _
          c.loop-to.sent.packets.items c.send_made.new.sent.packets.items c.loop-to.sent.unsent
          c.send_made.new.sent.unsent c.loop-to-test.true (before.sent w answered b)
          (c.send_made.ensures.adds _ (c.message_to_matched-message.ensures.says w answered b));
      messages = c.send_made.ensures.messages before.messages;
    }
