use Rattle.std.proofs.Common.{[], ◌∷◌, arith}
use Rattle.dds_base.proofs.FieldLaws.{AreOctets}
use Rattle.rtps_wire.proofs.AnnouncementLaws.{octets_after, prefix_if, source_first}
use Rattle.rtps_wire.specs.Messages.{HasHeader}
use Rattle.rtps_wire.proofs.announced.take_source.Goals as goal

pub returns : goal.returns
returns c =
    let first : AreOctets c.in_ok-rest.rest.now =
    octets_after (82 ∷ 84 ∷ 80 ∷ 83 ∷ []) c.in_ok-rest.rest.now c.args.bytes.now c.in_ok-rest.ensures
    (λ i. omega (arith, c.type_inv.bytes i)) in
    let second : AreOctets c.in_ok-rest-2.rest.now =
    octets_after (2 ∷ 5 ∷ 0 ∷ 0 ∷ []) c.in_ok-rest-2.rest.now c.in_ok-rest.rest.now c.in_ok-rest-2.ensures first in
    prefix_if c.take_prefix.result (λ x. (x.0, x.1.now)) c.in_ok-rest-2.rest.now (λ p body. HasHeader c.args.bytes.now p body)
    second c.take_prefix.ensures.value
    (λ p body is len. source_first c.args.bytes.now c.in_ok-rest.rest.now c.in_ok-rest-2.rest.now body p
    c.in_ok-rest.ensures c.in_ok-rest-2.ensures is len (omega arith))
