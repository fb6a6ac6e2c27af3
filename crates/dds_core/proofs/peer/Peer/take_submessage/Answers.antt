use Rattle.std.proofs.Common.{◌^◌, arith}
use Rattle.dds_ends.specs.Readiness.{receiver_at}
use Rattle.dds_core.proofs.EffectsLaws.{at_most}
use Rattle.dds_core.proofs.Taking.{readers_take_if}
use Rattle.dds_core.proofs.peer.Peer.take_submessage.Goals as goal

pub returns-in_default : goal.returns-in_default
returns-in_default c = record {
  takes =
      readers_take_if c.tell_readers.result c.args.self.now c.tell_readers.new.self
      (receiver_at c.args.receiver.now) c.args.submessage.now c.args.effects.now c.tell_readers.new.effects
      (λ a is. c.in_default.not-AckNack a is) c.tell_readers.ensures.takes;
  keeps =
      let k = c.tell_readers.ensures.keeps in
      record {
        prefix = k.prefix;
        on = at_most 16 (2 ^ 40) c.args.effects.now c.tell_readers.new.effects (omega arith) k.on;
        err = k.err;
        memory = k.memory;
      };
  needs = c.tell_readers.ensures.needs;
}
