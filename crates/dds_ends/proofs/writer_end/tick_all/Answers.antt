use Rattle.std.proofs.Common.{◌<◌, length, rules, arith}
use Rattle.dds_ends.proofs.Beating.{beats_to_more, beats_to_all}
use Rattle.dds_ends.proofs.Ticking.{ticked_more, ticked_all}
use Rattle.dds_ends.proofs.writer_end.tick_all.Goals as goal

pub loop-writer-preserved : goal.loop-writer-preserved
loop-writer-preserved c =
    let before = c.loop-writer.invariant in
    let n = c.loop-writer.writer-index in
    let lt : n < length c.args.writers.now = search rules in
    let few = before.few in
    let more = c.tick.ensures.few in
    record {
      ticks =
          ticked_more c.args.now n c.args.writers.now c.loop-writer.writers c.writer-item.result c.tick.new.self lt
          before.ticks c.tick.ensures.ticks;
      few = omega (arith, few, more);
      beats =
          beats_to_more c.args.prefix c.args.now n c.args.writers.now c.loop-writer.writers c.writer-item.result
          c.loop-writer.sent.packets.items c.tick.new.sent.packets.items c.loop-writer.sent.unsent
          c.tick.new.sent.unsent lt before.ticks
          before.beats c.tick.ensures.beats;
      messages = c.tick.ensures.messages before.messages;
    }

pub returns-clause-ticks : goal.returns-clause-ticks
returns-clause-ticks c =
    ticked_all c.args.now c.loop-writer.writer-index c.args.writers.now c.loop-writer.writers (search rules)
    (search rules) c.loop-writer.invariant.ticks

pub returns-clause-beats : goal.returns-clause-beats
returns-clause-beats c =
    beats_to_all c.args.prefix c.loop-writer.writer-index c.args.writers.now c.loop-writer.sent.packets.items
    c.loop-writer.sent.unsent (search rules) c.loop-writer.invariant.beats
