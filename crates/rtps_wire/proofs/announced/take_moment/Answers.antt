use Rattle.std.proofs.Common.{[], ◌∷◌, arith, sym}
use Rattle.dds_base.specs.declared.endianness.Endianness.TheVariants.{Little}
use Rattle.dds_base.proofs.FieldLaws.{AreOctets, field_u32}
use Rattle.rtps_wire.proofs.AnnouncementLaws.{moment_first, octets_after}
use Rattle.rtps_wire.proofs.announced.take_moment.Goals as goal

pub returns : goal.returns
returns c =
    let octets : AreOctets c.in_ok-body.body.now =
    octets_after (9 ∷ 1 ∷ 8 ∷ 0 ∷ []) c.in_ok-body.body.now c.args.bytes.now c.in_ok-body.ensures
    (λ i. omega (arith, c.type_inv.bytes i)) in
    let high = (field_u32 Little).takes c.in_ok-body.body.now c.in_ok-seconds.seconds c.in_ok-seconds.rest.now octets
    (sym c.in_ok-seconds.ensures.number) in
    let low = (field_u32 Little).takes c.in_ok-seconds.rest.now c.in_ok-fraction.fraction c.in_ok-fraction.rest.now
    high.0.octets (sym c.in_ok-fraction.ensures.number) in
    rw (c.from.ensures, c.from-2.ensures) (moment_first c.args.bytes.now c.in_ok-body.body.now c.in_ok-seconds.rest.now
    c.in_ok-fraction.rest.now c.in_ok-seconds.seconds c.in_ok-fraction.fraction c.in_ok-body.ensures high.0.parts
    low.0.parts high.1 low.1)
