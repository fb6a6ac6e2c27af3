use Rattle.std.proofs.Common.{◌≡◌, ℕ, ◌<◌, ◌-◌, ◌+◌, min, List, ◌++◌, length, take, replicate, ap, ◌∙◌, arith}
use borrow.Rule.Slice.PartMut.{put_mid}
use Rattle.rtps_adapter.proofs.KeyLaws.{kept_full, kept_more}
use Rattle.rtps_adapter.proofs.key.put_first.Goals as goal

pub returns-then-len-ge16 : goal.returns-then-len-ge16
returns-then-len-ge16 c s len first = first ∙ kept_full 16 s c.args.octets.now (omega (arith, len, c.if-len-ge16.true))

-- what was copied, where it was copied to
copied : (s o first new : List ℕ) (n k : ℕ) → n ≡ length s → n < 16 → k ≡ min (length o) (16 - n)
    → first ≡ take 16 (s ++ replicate 16 0) → new ≡ take k o
    → put_mid n (n + k - n) first new ≡ take 16 ((s ++ o) ++ replicate 16 0)
copied s o first new n k len few is first_is new_is =
    let many : n + k - n ≡ k = omega arith in
    rw (many, first_is, new_is, len)
    (kept_more 16 s o k (omega (arith, len, few)) (is ∙ ap (λ (z : ℕ). min (length o) (16 - z)) len))

pub returns : goal.returns
returns c s len first = copied s c.args.octets.now c.args.first.now c.copy_from_slice.new.self c.args.len c.min-count.result len c.if-len-ge16.false c.min-count.ensures first c.copy_from_slice.ensures.after
