use Rattle.std.proofs.Common.{ℕ, List, ◌≤◌, ◌++◌, ◌∙◌, ap, arith}
use Rattle.dds_base.specs.declared.endianness.Endianness.TheVariants.{Little}
use Rattle.rtps_wire.specs.Sets.{set_text, words_for, words_of}
use Rattle.rtps_wire.proofs.set_field.put_set.Goals as goal

pub returns-clause-ok : goal.returns-clause-ok
returns-clause-ok c =
    let set = c.args.set.now in
    let few : c.words_for.result ≤ 8 = omega (arith, c.words_for.ensures, c.bits-bits.ensures.within) in
    c.in_ok-extend_from_slice.ensures.items
    ∙ ap (λ (z : List ℕ). c.args.out.now.items ++ z)
    (rw c.as_flattened.ensures.value
    (c.octets_of-octets.ensures c.words_for.result few
    ∙ (ap (λ (n : ℕ). set_text Little (record {
      base = set.base;
      num_bits = c.bits-bits.result;
      words = words_of n set.members;
    })) c.words_for.ensures
    ∙ ap (λ (b : ℕ). set_text Little (record {
      base = set.base;
      num_bits = b;
      words = words_of (words_for b) set.members;
    })) c.bits-bits.ensures.bits)))
