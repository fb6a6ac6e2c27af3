-- Why the entries of several traces have no honest order.
--
-- Such orders are this project's own.
use Rattle.std.specs.Prelude.{ℕ, List}
use Rattle.dds_trace.specs.Entries.{Traced}
use Rattle.dds_trace.specs.Weaving.{IsHonest, IsStuck}
use Rattle.dds_trace.specs.declared.weaving.WeaveFault.{WeaveFault}
use Rattle.dds_trace.specs.declared.weaving.WeaveFault.TheVariants.{Stuck, Memory}

-- they are stuck where it says, and no order of all of them is honest; or a growth was refused
abbrev pub IsCause : List Traced → WeaveFault → Type 0
IsCause ts (Stuck placed) = IsStuck ts placed × ((order : List ℕ) → IsHonest ts order → ⊥)
IsCause ts Memory = Unit {0}
