use Rattle.std.proofs.Common.{arith}
use Rattle.rtps_wire.specs.Messages.{ReadsFirst}
use Rattle.dds_ends.specs.Readiness.{receiver_at}
use Rattle.dds_core.proofs.Counted.{observed_all, observed_more}
use Rattle.dds_core.proofs.peer.Peer.observe_body.Goals as goal

pub loop-frame-preserved : goal.loop-frame-preserved
loop-frame-preserved c =
    let f = c.observe_frame-more.ensures.observes in
    let first : ReadsFirst c.loop-frame.left.now f.submessage c.in-Some.rest.now =
    (c.in-Some.frame.id, c.in-Some.frame.flags, c.in-Some.frame.body.now, c.in-Some.ensures.found, f.is_read) in
    let low_data = c.loop-frame.invariant.few_data in
    let low_heartbeats = c.loop-frame.invariant.few_heartbeats in
    let low_to_nobody = c.loop-frame.invariant.few_to_nobody in
    let more = c.observe_frame-more.ensures.few in
    record {
      so_far =
          observed_more c.args.self.now c.args.of c.args.source c.args.body.now c.loop-frame.left.now c.in-Some.rest.now
          (receiver_at c.loop-frame.receiver) (receiver_at c.observe_frame-more.new.receiver) c.in-Some.frame.id
          c.in-Some.frame.flags c.in-Some.frame.body.now c.loop-frame.seen c.observe_frame-more.result c.and-seen.result
          c.loop-frame.invariant.so_far f first
          (record { old_data = c.and-seen.ensures.old_data; old_heartbeats = c.and-seen.ensures.old_heartbeats; to_nobody = c.and-seen.ensures.to_nobody });
      few_data = omega (arith, low_data, more.old_data, c.and-seen.ensures.old_data, c.in-Some.ensures.fewer);
      few_heartbeats = omega (arith, low_heartbeats, more.old_heartbeats, c.and-seen.ensures.old_heartbeats, c.in-Some.ensures.fewer);
      few_to_nobody = omega (arith, low_to_nobody, more.to_nobody, c.and-seen.ensures.to_nobody, c.in-Some.ensures.fewer);
    }

pub returns : goal.returns
returns c =
    observed_all c.args.self.now c.args.of c.args.source c.args.body.now c.loop-frame.left.now (receiver_at c.loop-frame.receiver)
    c.loop-frame.seen c.loop-frame.invariant.so_far c.in_default.ensures.end
