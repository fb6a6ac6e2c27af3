use Rattle.std.proofs.Common.{[], ◌∷◌, arith, sym}
use Rattle.dds_base.specs.declared.endianness.Endianness.TheVariants.{Little}
use Rattle.dds_base.proofs.FieldLaws.{AreOctets, field_both}
use Rattle.rtps_wire.proofs.AnnouncementLaws.{octets_after, write_reads}
use Rattle.rtps_wire.proofs.WireFields.{field_entity_id, field_sn}
use Rattle.rtps_wire.proofs.announced.written_data.Goals as goal

pub returns-clause-reads : goal.returns-clause-reads
returns-clause-reads c =
    let octets : AreOctets c.in_ok-rest.rest.now =
    octets_after (0 ∷ 0 ∷ 16 ∷ 0 ∷ []) c.in_ok-rest.rest.now c.args.body.now c.in_ok-rest.ensures
    (λ i. omega (arith, c.type_inv.body i)) in
    let ids = (field_both field_entity_id field_entity_id).takes c.in_ok-rest.rest.now
    (c.in_ok-ids.ids.reader, c.in_ok-ids.ids.writer) c.in_ok-ids.rest.now octets (sym c.in_ok-ids.ensures) in
    let sn = (field_sn Little).takes c.in_ok-ids.rest.now c.in_ok-number.number c.in_ok-number.payload.now
    ids.0.octets (sym c.in_ok-number.ensures.value) in
    rw c.new.ensures.number (write_reads c.args.body.now c.in_ok-rest.rest.now c.in_ok-ids.rest.now
    c.in_ok-number.payload.now c.in_ok-ids.ids.reader c.in_ok-ids.ids.writer c.in_ok-number.number
    c.in_ok-datum.datum c.in_ok-rest.ensures ids.0.parts sn.0.parts c.in_ok-datum.ensures)
