use Rattle.std.proofs.Common.{◌≡◌, ℕ, ◌%◌, ◌-◌, ◌≤◌, List, ◌++◌, length, take, replicate, ap, subst, ◌∙◌, arith}
use Rattle.std.proofs.lemmas.List.{take-replicate}
use Rattle.std.proofs.lemmas.Nat.{mod_below}
use Rattle.rtps_adapter.specs.KeyOctets.{AreSoFar}
use Rattle.rtps_adapter.specs.Keys.{aligned_to}
use Rattle.rtps_adapter.proofs.key.KeyOctets.align.Goals as goal

-- the zeros that were put
zeros_put : (octets : List ℕ) (len alignment : ℕ) → len ≡ length octets → (alignment - len % alignment) % alignment ≤ 8
    → octets ++ take ((alignment - len % alignment) % alignment) (replicate 8 0) ≡ aligned_to alignment octets
zeros_put octets len alignment is few =
    ap (λ (z : List ℕ). octets ++ z) (take-replicate ((alignment - len % alignment) % alignment) 8 0 few)
    ∙ ap (λ (n : ℕ). octets ++ replicate ((alignment - n % alignment) % alignment) 0) is

pub returns-clause-put : goal.returns-clause-put
returns-clause-put c octets so_far =
    subst (λ (z : List ℕ). AreSoFar c.put.new.self z)
    (zeros_put octets c.args.self.now.len c.args.alignment so_far.len
    (omega (arith, mod_below (c.args.alignment - c.args.self.now.len % c.args.alignment) c.args.alignment c.requires.positive, c.requires.few)))
    (c.put.ensures.put octets so_far)
