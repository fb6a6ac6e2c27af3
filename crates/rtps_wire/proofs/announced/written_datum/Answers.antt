use Rattle.std.proofs.Common.{[], ◌∷◌, arith, sym}
use Rattle.dds_base.specs.declared.endianness.Endianness.TheVariants.{Little}
use Rattle.dds_base.proofs.DatumLaws.{field_key}
use Rattle.dds_base.proofs.FieldLaws.{AreOctets, field_octets, field_u32}
use Rattle.rtps_wire.proofs.AnnouncementLaws.{datum_reads, octets_after}
use Rattle.rtps_wire.proofs.announced.written_datum.Goals as goal

pub returns : goal.returns
returns c =
    let octets : AreOctets c.in_ok-rest.rest.now =
    octets_after (0 ∷ 1 ∷ 0 ∷ 0 ∷ []) c.in_ok-rest.rest.now c.args.payload.now c.in_ok-rest.ensures
    (λ i. omega (arith, c.type_inv.payload i)) in
    let key = field_key.takes c.in_ok-rest.rest.now c.in_ok-key.key c.in_ok-key.rest.now octets
    (sym c.in_ok-key.ensures.key) in
    let count = (field_u32 Little).takes c.in_ok-key.rest.now c.in_ok-count.count c.in_ok-count.rest.now
    key.0.octets (sym c.in_ok-count.ensures.number) in
    let value = (field_octets c.in_ok-count.count).takes c.in_ok-count.rest.now c.in_ok-value.value.now
    c.in_ok-value.field-0-1.now count.0.octets (sym c.in_ok-value.ensures.value) in
    rw c.new.ensures.datum (datum_reads c.args.payload.now c.in_ok-rest.rest.now c.in_ok-key.rest.now
    c.in_ok-count.rest.now c.in_ok-value.field-0-1.now c.in_ok-key.key c.in_ok-count.count c.in_ok-value.value.now
    c.in_ok-rest.ensures key.0.parts count.0.parts value.0.parts key.1 value.1 (omega arith))
