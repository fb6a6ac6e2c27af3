use Rattle.std.proofs.Common.{arith}
use Rattle.dds_ends.specs.Readiness.{receiver_at}
use Rattle.dds_core.proofs.Counted.{observed_data, observed_heartbeat, observed_other}
use Rattle.dds_core.proofs.peer.Peer.observe_submessage.Goals as goal

pub returns-in-Data-clause-observes : goal.returns-in-Data-clause-observes
returns-in-Data-clause-observes c =
    observed_data c.args.self.now c.args.of (receiver_at c.args.receiver.now) c.args.submessage.now c.in-Data.field-0
    c.count_old.result c.count_to_nobody-to_nobody.result c.in-Data.is c.count_old.ensures.old
    c.count_to_nobody-to_nobody.ensures.nobody

pub returns-in-Heartbeat-clause-observes : goal.returns-in-Heartbeat-clause-observes
returns-in-Heartbeat-clause-observes c =
    observed_heartbeat c.args.self.now c.args.of (receiver_at c.args.receiver.now) c.args.submessage.now c.in-Heartbeat.field-0
    c.count_old-in-Heartbeat.result c.count_to_nobody-to_nobody.result c.in-Heartbeat.is c.count_old-in-Heartbeat.ensures.old
    c.count_to_nobody-to_nobody.ensures.nobody

pub returns-in_default : goal.returns-in_default
returns-in_default c =
    let few = c.count_to_nobody-to_nobody.ensures.few in
    record {
      observes =
          observed_other c.args.self.now c.args.of (receiver_at c.args.receiver.now) c.args.submessage.now
          c.count_to_nobody-to_nobody.result c.in_default.not-Data c.in_default.not-Heartbeat
          c.count_to_nobody-to_nobody.ensures.nobody;
      few = record { old_data = omega arith; old_heartbeats = omega arith; to_nobody = omega (arith, few) };
    }
