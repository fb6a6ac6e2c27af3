use Rattle.std.proofs.Common.{◌∙◌, ap, inl, inr, refl}
use Rattle.dds_base.specs.declared.guid.GuidPrefix.{GuidPrefix}
use Rattle.rtps_wire.specs.declared.submessage.Submessage.TheVariants.{InfoDst, InfoTs}
use Rattle.dds_protocol.specs.Claims.{after_submessage}
use Rattle.dds_core.specs.Kept.{PeerKept}
use Rattle.dds_ends.specs.Readiness.{receiver_at}
use Rattle.dds_core.proofs.Framed.{stays}
use Rattle.dds_core.proofs.peer.Peer.observe_frame.Goals as goal

pub returns-in-Some-clause-observes : goal.returns-in-Some-clause-observes
returns-in-Some-clause-observes c = record {
  submessage = InfoDst c.in-Some.prefix;
  is_read = c.in-Some.ensures.found;
  observes = λ roster peer s. record { old_data = refl; old_heartbeats = refl; to_nobody = inr (refl, inl refl) };
  leaves = c.note_destination.ensures c.args.self.now.prefix;
}

pub returns-in-Some-info_ts-clause-observes : goal.returns-in-Some-info_ts-clause-observes
returns-in-Some-info_ts-clause-observes c =
    let own = ap (λ (k : PeerKept). k.prefix) c.self.view_is in
    record {
      submessage = InfoTs c.in-Some-info_ts.stamp;
      is_read = c.in-Some-info_ts.ensures.found;
      observes = λ roster peer s. record { old_data = refl; old_heartbeats = refl; to_nobody = inr (refl, inl refl) };
      leaves =
          c.note_timestamp.ensures
          ∙ ap (λ (p : GuidPrefix). after_submessage p (receiver_at c.args.receiver.now) (InfoTs c.in-Some-info_ts.stamp)) own;
    }

pub returns-clause-observes : goal.returns-clause-observes
returns-clause-observes c = record {
  submessage = c.submessage.result;
  is_read = c.submessage.ensures.read;
  observes = c.observe_submessage.ensures.observes;
  leaves =
      stays c.args.self.now.prefix (receiver_at c.args.receiver.now) c.args.frame.now.id c.args.frame.now.flags
      c.args.frame.now.body.now c.submessage.result c.submessage.ensures.read c.in_default.ensures.none
      c.in_default-info_ts.ensures.none;
}
