use Rattle.std.proofs.Common.{[], ◌∷◌, arith}
use Rattle.dds_base.proofs.FieldLaws.{AreOctets}
use Rattle.rtps_wire.specs.Messages.{ReadsFirst}
use Rattle.rtps_wire.specs.declared.submessage.Submessage.TheVariants.{InfoDst}
use Rattle.rtps_wire.proofs.AnnouncementLaws.{destination_first, octets_after, prefix_if}
use Rattle.rtps_wire.proofs.announced.take_destination.Goals as goal

pub returns : goal.returns
returns c =
    let octets : AreOctets c.in_ok-body.body.now =
    octets_after (14 ∷ 1 ∷ 12 ∷ 0 ∷ []) c.in_ok-body.body.now c.args.bytes.now c.in_ok-body.ensures
    (λ i. omega (arith, c.type_inv.bytes i)) in
    prefix_if c.take_prefix.result (λ x. (x.0, x.1.now)) c.in_ok-body.body.now
    (λ p rest. ReadsFirst c.args.bytes.now (InfoDst p) rest) octets c.take_prefix.ensures.value
    (λ p rest is len. destination_first c.args.bytes.now c.in_ok-body.body.now rest p c.in_ok-body.ensures is len)
