-- The keys of the instances that are kept. Inner functions alone cite this: nothing here has to be believed.
--
-- The index and its room are this project's own.
use Rattle.std.specs.Prelude.{ℕ, List}
use Rattle.dds_base.specs.declared.key.Key.{Key}

-- the keys in the order of their places, and for how many more there is memory
pub record Keys : Type 0 where
  pub keys : List Key
  pub room : ℕ
