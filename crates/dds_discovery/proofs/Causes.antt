-- Why no network is opened.
use Rattle.std.proofs.Common.{◌≡◌, ◌⊎◌, true, Option, Some, None, refl, inl, inr}
use Rattle.std.specs.Prelude.{is_some}
use Rattle.dds_base.specs.declared.code.Code.{Code}
use Rattle.dds_base.specs.declared.code.Code.TheVariants.{Memory}
use Rattle.dds_base.specs.Refusal.{Refuses}

-- what is refused, and not for want of memory, has a cause
pub has_cause : (o : Option Code) (e : Code) → (e ≡ Memory → ⊥) → (e ≡ Memory) ⊎ Refuses o e → is_some o ≡ true
has_cause o e other (inl m) = absurd (other m)
has_cause (Some cause) e other (inr r) = refl
has_cause None e other (inr r) = absurd (other r)
