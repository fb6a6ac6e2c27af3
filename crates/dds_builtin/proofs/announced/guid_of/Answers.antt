use Rattle.std.proofs.Common.{◌≡◌, ℕ, List, take, drop, ap, ◌∙◌, arith}
use Rattle.dds_base.specs.declared.guid.Guid.{Guid}
use Rattle.dds_builtin.proofs.Octets.{reads, reads_take}
use Rattle.dds_builtin.proofs.announced.guid_of.Goals as goal

pub returns : goal.returns
unfolding reads
returns c =
    let k = c.args.key.now.0 in
    let first : reads 12 0 k ≡ take 12 k = reads_take 12 0 k (omega (arith, c.as_slice-octets.ensures.len)) in
    let second : reads 4 12 k ≡ take 4 (drop 12 k) = reads_take 4 12 k (omega (arith, c.as_slice-octets.ensures.len)) in
    let make : List ℕ → List ℕ → Guid = λ z w. record { prefix = record { 0 = z }; entity = record { 0 = w } } in
    record { guid = ap (λ (z : List ℕ). make z (reads 4 12 k)) first ∙ ap (make (take 12 k)) second }
