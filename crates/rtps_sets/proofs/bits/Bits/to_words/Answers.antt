use Rattle.std.proofs.Common.{ℕ, ◌+◌, ◌*◌, ◌-◌, ◌/◌, ◌<◌, ◌^◌, Bool, List, false, get_or, set, length-set, eqb, sym, ap, ◌∙◌, ◌≡◌, arith, bit_and}
use Rattle.std.specs.Int.{bit_at}
use Rattle.rtps_sets.specs.BitLaws.{bit_in}
use Rattle.rtps_sets.proofs.MirrorLaws.{flags_more, lower_half, upper_half}
use Rattle.rtps_sets.proofs.RingLaws.{bit_in_word}
use Rattle.rtps_sets.proofs.bits.Bits.to_words.Goals as goal

-- a bit of the word that is written is a flag
bit_is : (c : goal.After-mirrored-pair) (i : ℕ) → i < 64
    → eqb (bit_at (get_or c.self.inside.words c.loop-at.at 0) i) 1
    ≡ get_or c.args.self.now (64 * c.loop-at.at + i) false
bit_is c i less =
    bit_in_word c.self.inside.words c.loop-at.at i less
    ∙ (sym (bit_in c.self.inside.words (64 * c.loop-at.at + i) (omega (arith, c.loop-at-test.true, less)))
    ∙ ap (λ (bits : List Bool). get_or bits (64 * c.loop-at.at + i) false) c.self.view_is)

pub loop-at-preserved : goal.loop-at-preserved
loop-at-preserved c =
    let it = c.loop-at.invariant in
    let at = c.loop-at.at in
    let pair = c.mirrored-pair.result in
    let word = get_or c.self.inside.words c.loop-at.at 0 in
    record {
      count = length-set (set c.loop-at.words (2 * at) (bit_and pair (2 ^ 32 - 1))) (2 * at + 1) (pair / 2 ^ 32)
          ∙ (length-set c.loop-at.words (2 * at) (bit_and pair (2 ^ 32 - 1)) ∙ it.count);
      bits = flags_more c.loop-at.words at (bit_and pair (2 ^ 32 - 1)) (pair / 2 ^ 32)
          (λ k. get_or c.args.self.now k false) it.count c.loop-at-test.true it.bits
          (λ i lt. ap (λ (n : ℕ). eqb n 1) (lower_half pair word i lt c.mirrored-pair.ensures)
          ∙ bit_is c i (omega (arith, lt)))
          (λ i lt. ap (λ (n : ℕ). eqb n 1) (upper_half pair word i lt c.mirrored-pair.ensures)
          ∙ bit_is c (32 + i) (omega (arith, lt)));
    }
