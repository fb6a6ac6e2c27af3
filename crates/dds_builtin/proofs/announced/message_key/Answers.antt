use Rattle.std.proofs.Common.{◌≡◌, ℕ, ◌++◌, ◌∷◌, [], List, ap, ◌∙◌, arith}
use Rattle.std.proofs.lemmas.List.{take_all}
use Rattle.dds_base.specs.declared.key.Key.{Key}
use Rattle.dds_builtin.proofs.Octets.{reads, reads_take}
use Rattle.dds_builtin.proofs.announced.message_key.Goals as goal

pub returns : goal.returns
unfolding reads
returns c =
    let p = c.args.prefix.now.0 in
    let all : reads 12 0 p ≡ p =
    reads_take 12 0 p (omega (arith, c.as_slice-octets.ensures.len)) ∙ take_all 12 p (omega (arith, c.as_slice-octets.ensures.len)) in
    let make : List ℕ → Key = λ z. record { 0 = z ++ 0 ∷ 0 ∷ 0 ∷ 1 ∷ [] } in
    record { key = ap make all }
