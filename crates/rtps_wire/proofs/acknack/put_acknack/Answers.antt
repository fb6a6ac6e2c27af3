use Rattle.std.proofs.Common.{ℤ, ◌∙◌, ap, ◌++◌}
use Rattle.std.specs.Int.{w32}
use Rattle.std.proofs.lemmas.Int.{to_z-of_z}
use Rattle.dds_base.specs.declared.endianness.Endianness.TheVariants.{Little}
use Rattle.rtps_wire.specs.Fields.{count_text}
use Rattle.rtps_wire.specs.Sets.{set_text, set_field_of}
use Rattle.rtps_wire.proofs.SetSpelling.{acknack_parts}
use Rattle.rtps_wire.proofs.acknack.put_acknack.Goals as goal

pub returns-clause-ok : goal.returns-clause-ok
returns-clause-ok c =
    let ids = c.args.a.now.reader_id.0 ++ c.args.a.now.writer_id.0 in
    let set = set_text Little (set_field_of c.args.a.now.reader_sn_state) in
    acknack_parts c.args.out.now.items ids set (count_text Little c.args.a.now.count)
    c.put_ids.new.out.items c.put_set.new.out.items c.put_count.new.out.items
    c.in_ok-put_ids.ensures.ok c.in_ok-put_set.ensures.ok
    (c.in_ok-put_count.ensures.ok
    ∙ ap (λ (z : ℤ). c.put_set.new.out.items ++ count_text Little z)
    (to_z-of_z w32 c.args.a.now.count c.requires.valid.count))
