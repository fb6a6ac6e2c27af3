use Rattle.std.proofs.Common.{ℕ, List, ap, ◌∙◌, arith}
use Rattle.rtps_adapter.proofs.KeyLaws.{key_short, key_long}
use Rattle.rtps_adapter.proofs.key.KeyOctets.key.Goals as goal

pub returns-then-len-gt-MOST_AS_THEY_STAND : goal.returns-then-len-gt-MOST_AS_THEY_STAND
returns-then-len-gt-MOST_AS_THEY_STAND c octets so_far =
    ap (λ (z : List ℕ). record { 0 = z }) (c.finalize.ensures octets so_far.hashed)
    ∙ key_long octets (omega (arith, so_far.len, c.if-len-gt-MOST_AS_THEY_STAND.true))

pub returns : goal.returns
returns c octets so_far =
    ap (λ (z : List ℕ). record { 0 = z }) so_far.first
    ∙ key_short octets (omega (arith, so_far.len, c.if-len-gt-MOST_AS_THEY_STAND.false))
