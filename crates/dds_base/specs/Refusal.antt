-- How a call is refused (DDS 1.4, 2.2.1.1: return codes): with the first cause that holds, or where a growth was
-- refused.
use Rattle.std.specs.Prelude.{◌≡◌, Option, Some, None}
use Rattle.dds_base.specs.declared.code.Code.{Code}
use Rattle.dds_base.specs.declared.code.Code.TheVariants.{Memory}

-- the code of a call that was refused: its first cause, or memory where there is none
abbrev pub Refuses : Option Code → Code → Type 0
Refuses (Some cause) code = code ≡ cause
Refuses None code = code ≡ Memory
