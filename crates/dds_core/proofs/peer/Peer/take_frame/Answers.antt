use Rattle.std.proofs.Common.{◌∙◌, ap}
use Rattle.dds_base.specs.declared.guid.GuidPrefix.{GuidPrefix}
use Rattle.rtps_wire.specs.declared.submessage.Submessage.TheVariants.{InfoDst, InfoTs}
use Rattle.dds_protocol.specs.Claims.{after_submessage}
use Rattle.dds_core.specs.Kept.{PeerKept}
use Rattle.dds_ends.specs.Readiness.{receiver_at}
use Rattle.dds_core.proofs.Framed.{needs_if_other, takes_for_receiver, takes_other_if}
use Rattle.dds_core.proofs.Taking.{bounded}
use Rattle.dds_core.proofs.peer.Peer.take_frame.Goals as goal

pub returns-in-Some-clause-takes : goal.returns-in-Some-clause-takes
returns-in-Some-clause-takes c =
    takes_for_receiver c.args.self.now (receiver_at c.args.receiver.now) c.args.frame.now.id c.args.frame.now.flags
    c.args.frame.now.body.now (InfoDst c.in-Some.prefix) c.args.effects.now
    (receiver_at c.note_destination.new.self) (λ a is. absurd cc) (λ reader_id writer_id by. by)
    c.in-Some.ensures.found (c.note_destination.ensures c.args.self.now.prefix)

pub returns-in-Some-info_ts-clause-takes : goal.returns-in-Some-info_ts-clause-takes
returns-in-Some-info_ts-clause-takes c =
    let own = ap (λ (k : PeerKept). k.prefix) c.self.view_is in
    takes_for_receiver c.args.self.now (receiver_at c.args.receiver.now) c.args.frame.now.id c.args.frame.now.flags
    c.args.frame.now.body.now (InfoTs c.in-Some-info_ts.stamp) c.args.effects.now
    (receiver_at c.note_timestamp.new.self) (λ a is. absurd cc) (λ reader_id writer_id by. by)
    c.in-Some-info_ts.ensures.found
    (c.note_timestamp.ensures
    ∙ ap (λ (p : GuidPrefix). after_submessage p (receiver_at c.args.receiver.now) (InfoTs c.in-Some-info_ts.stamp)) own)

pub take_submessage-requires-clause-bounded : goal.take_submessage-requires-clause-bounded
take_submessage-requires-clause-bounded c =
    bounded c.args.frame.now.id c.args.frame.now.flags c.args.frame.now.body.now c.submessage.result
    c.submessage.ensures.read

pub returns-clause-takes : goal.returns-clause-takes
returns-clause-takes c =
    takes_other_if c.take_submessage.result c.args.self.now c.take_submessage.new.self
    (receiver_at c.args.receiver.now) c.args.frame.now.id c.args.frame.now.flags c.args.frame.now.body.now
    c.submessage.result c.args.effects.now c.take_submessage.new.effects c.submessage.ensures.read
    c.in_default.ensures.none c.in_default-info_ts.ensures.none c.take_submessage.ensures.takes

pub returns-clause-needs : goal.returns-clause-needs
returns-clause-needs c =
    needs_if_other c.take_submessage.result c.args.self.now (receiver_at c.args.receiver.now) c.args.frame.now.id
    c.args.frame.now.flags c.args.frame.now.body.now c.submessage.result c.submessage.ensures.read
    c.take_submessage.ensures.needs
