-- How the effects of a delivery go on.
use Rattle.std.proofs.Common.{◌+◌, ◌≤◌, ℕ, refl, ◌∙◌, arith}
use Rattle.dds_core.specs.declared.effects.Effects.{Effects}
use Rattle.dds_core.specs.Receiving.{GoOn}

-- nothing more was done
pub nothing_more : (more : ℕ) (effects : Effects) → GoOn more effects effects
nothing_more more effects = record { twice = refl; few = omega arith; messages = λ h. h }

-- one thing was done after another
pub go_on : (first second more : ℕ) (effects mid after : Effects) → first + second ≤ more → GoOn first effects mid
    → GoOn second mid after → GoOn more effects after
go_on first second more effects mid after bound a b =
    let few = a.few in
    let further = b.few in
    record {
      twice = b.twice ∙ a.twice;
      few = omega (arith, bound, few, further);
      messages = λ h. b.messages (a.messages h);
    }

-- where so many packets found no memory at most, a greater number is a bound too
pub at_most : (few more : ℕ) (effects after : Effects) → few ≤ more → GoOn few effects after → GoOn more effects after
at_most few more effects after bound a =
    let found = a.few in record { twice = a.twice; few = omega (arith, bound, found); messages = a.messages }
