use Rattle.std.proofs.Common.{◌≡◌, ℕ, ◌++◌, List, ap, ◌∙◌, arith}
use Rattle.std.proofs.lemmas.List.{take_all}
use Rattle.dds_base.specs.declared.key.Key.{Key}
use Rattle.dds_builtin.proofs.Octets.{reads, reads_take}
use Rattle.dds_builtin.proofs.announced.key_of.Goals as goal

pub returns : goal.returns
unfolding reads
returns c =
    let p = c.args.guid.now.prefix.0 in
    let e = c.args.guid.now.entity.0 in
    let first : reads 12 0 p ≡ p =
    reads_take 12 0 p (omega (arith, c.as_slice-prefix.ensures.len)) ∙ take_all 12 p (omega (arith, c.as_slice-prefix.ensures.len)) in
    let second : reads 4 0 e ≡ e =
    reads_take 4 0 e (omega (arith, c.as_slice-entity.ensures.len)) ∙ take_all 4 e (omega (arith, c.as_slice-entity.ensures.len)) in
    let make : List ℕ → Key = λ z. record { 0 = z } in
    record { key = ap make (ap (λ (z : List ℕ). z ++ reads 4 0 e) first ∙ ap (λ (z : List ℕ). p ++ z) second) }
