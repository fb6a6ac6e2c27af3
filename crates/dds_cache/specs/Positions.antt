-- Which samples an access returns. Inner functions alone cite this: nothing here has to be believed.
--
-- DDS 1.4, 2.2.2.5 (read, take).
use Rattle.std.specs.Prelude.{List, [], ◌∷◌, Option, None, Some}
use Rattle.dds_base.specs.declared.happening.SamplePosition.{SamplePosition}

-- the samples that an access returns
pub record PositionList : Type 0 where
  pub items : List SamplePosition

-- the only one, or those of a list
abbrev pub listed : Option SamplePosition → List SamplePosition → PositionList
listed None list = record { items = list }
listed (Some one) list = record { items = one ∷ [] }
