use Rattle.std.proofs.Common.{◌≡◌, ℕ, ◌+◌, ◌*◌, ◌<◌, ◌^◌, Bool, ◌&&◌, eqb, ltb, ap, ◌∙◌, arith, bit_and}
use Rattle.std.specs.Int.{bit_at}
use Rattle.std.proofs.lemmas.Nat.{and_le_l}
use Rattle.rtps_sets.specs.BitLaws.{bit_in, length-bits}
use Rattle.rtps_sets.specs.Mirror.{mirror, wire_flag}
use Rattle.rtps_sets.proofs.MirrorLaws.{mirror_lt, pair_flag}
use Rattle.rtps_sets.proofs.RingLaws.{both_bit, below_in_word, bits_more}
use Rattle.rtps_sets.proofs.WordLaws.{words_with}
use Rattle.rtps_sets.proofs.bits.Bits.from_words.Goals as goal

-- the bits of the word that is made
made_bits : (c : goal.After-low_bits) (i : ℕ) → i < 64
    → eqb (bit_at (bit_and c.mirrored.result c.low_bits.result) i) 1
    ≡ (ltb (64 * c.loop-at.at + i) c.args.count && wire_flag c.args.words.now (64 * c.loop-at.at + i))
made_bits c i less =
    let at = c.loop-at.at in
    both_bit c.mirrored.result c.low_bits.result i
    ∙ (ap (λ (b : Bool). b && eqb (bit_at c.mirrored.result i) 1)
    (c.low_bits.ensures i less
    ∙ below_in_word at i c.args.count c.saturating_sub-left.result c.saturating_sub-left.ensures)
    ∙ ap (λ (b : Bool). ltb (64 * at + i) c.args.count && b)
    (ap (λ (n : ℕ). eqb n 1) (c.mirrored.ensures i less ∙ c.pair_at.ensures (mirror i) (mirror_lt i less))
    ∙ pair_flag c.args.words.now at i less))

pub loop-at-preserved : goal.loop-at-preserved
loop-at-preserved c =
    let it = c.loop-at.invariant in
    let word = bit_and c.mirrored.result c.low_bits.result in
    let small : bit_and c.mirrored.result c.low_bits.result < 2 ^ 64 =
    omega (arith, and_le_l c.mirrored.result c.low_bits.result, c.mirrored.type_inv) in
    record {
      words = words_with c.loop-at.made c.loop-at.at word it.words small;
      bits = bits_more c.loop-at.made c.loop-at.at word
          (λ k. ltb k c.args.count && wire_flag c.args.words.now k) it.words
          c.loop-at-test.true it.bits (λ i less. made_bits c i less);
    }

pub returns-clause-each : goal.returns-clause-each
returns-clause-each c = λ k lt.
    bit_in c.loop-at.made k lt ∙ c.loop-at.invariant.bits k (omega (arith, lt, c.loop-at-test.false))

pub returns-clause-count : goal.returns-clause-count
returns-clause-count c = length-bits c.loop-at.made
