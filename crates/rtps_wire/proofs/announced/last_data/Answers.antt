use Rattle.std.proofs.Common.{◌≡◌, ◌+◌, ◌*◌, ◌/◌, ◌%◌, ◌++◌, List, ℕ, length, get_or, arith, sym, ap, ◌∙◌}
use Rattle.std.specs.Int.{w16}
use Rattle.dds_base.specs.declared.endianness.Endianness.TheVariants.{Little}
use Rattle.dds_base.specs.Fields.{number}
use Rattle.dds_base.proofs.FieldLaws.{field_u32}
use Rattle.rtps_wire.proofs.AnnouncementLaws.{data_word, last_if}
use Rattle.rtps_wire.proofs.announced.last_data.Goals as goal

pub returns : goal.returns
returns c =
    let body : List ℕ = c.in_ok-head.body.now in
    let len : ℕ = length c.in_ok-head.body.now in
    let small = c.in-Ok.ensures.0 in
    let head = (field_u32 Little).takes c.args.bytes.now c.in_ok-head.head c.in_ok-head.body.now
    (λ i. omega (arith, c.type_inv.bytes i)) (sym c.in_ok-head.ensures.number) in
    let octets : c.to_le_bytes.result ≡ number Little w16 (length c.in_ok-head.body.now) =
    c.to_le_bytes.ensures ∙ ap (λ (n : ℕ). number Little w16 n) c.in-Ok.ensures.1 in
    let word : c.in_ok-head.head ≡ 1301 + length c.in_ok-head.body.now % 256 * 65536
    + length c.in_ok-head.body.now / 256 % 256 * 16777216 =
    c.if-head-from_le_bytes.false ∙ c.from_le_bytes.ensures
    ∙ ap (λ (xs : List ℕ). 1301 + get_or xs 0 0 * 65536 + get_or xs 1 0 * 16777216) octets in
    last_if c.written_data.result c.args.bytes.now c.in_ok-head.body.now
    (head.0.parts ∙ ap (λ (xs : List ℕ). xs ++ c.in_ok-head.body.now)
    (data_word c.in_ok-head.head (length c.in_ok-head.body.now) word))
    c.in-Ok.ensures.0 c.written_data.ensures.reads c.written_data.ensures.valid
