use Rattle.std.proofs.Common.{rules, List, ℕ, ◌++◌, arith, sym, ap, ◌∙◌}
use Rattle.std.proofs.lemmas.Nat.{le_bytes_4}
use Rattle.dds_base.specs.declared.endianness.Endianness.TheVariants.{Little}
use Rattle.dds_base.proofs.FieldLaws.{field_u32}
use Rattle.rtps_wire.proofs.announced.after_word.Goals as goal

pub returns : goal.returns
returns c =
    let taken = (field_u32 Little).takes c.args.bytes.now c.in_ok-word.word c.in_ok-word.rest.now
    (λ i. omega (arith, c.type_inv.bytes i)) (sym c.in_ok-word.ensures.number) in
    taken.0.parts
    ∙ ap (λ (octets : List ℕ). octets ++ c.in_ok-word.rest.now)
    (le_bytes_4 c.args.octets c.in_ok-word.word (search rules) (search rules)
    (c.if-word-from_le_bytes.false ∙ c.from_le_bytes.ensures))
