-- What a death adds to the kept samples. Inner functions alone cite this: nothing here has to be believed.
--
-- DDS 1.4, 2.2.2.5 (instance_state, valid_data), 2.2.3 (LIVELINESS).
use Rattle.std.specs.Prelude.{◌≡◌, ℕ, List, [], ◌∷◌, ◌++◌, All, ◌&&◌, if◌then◌else◌, slice_get, Some}
use Rattle.std.specs.List.{list_any}
use Rattle.dds_base.specs.declared.key.Key.{Key}
use Rattle.dds_base.specs.declared.happening.Happening.{Happening}
use Rattle.dds_base.specs.declared.qos.ReaderQos.{ReaderQos}
use Rattle.dds_base.specs.declared.happening.Happening.TheVariants.{Died}
use Rattle.dds_base.specs.Happening.{same_key}
use Rattle.dds_base.specs.Instance.{known_instances}
use Rattle.dds_base.specs.Presence.{is_present}
use Rattle.dds_cache.specs.declared.kept.Kept.{Kept}
use Rattle.dds_cache.specs.Kept.{IsFresh, IsKept, IsNewAt, positions_in}
use Rattle.dds_instances.specs.Table.{Table, Stands}

-- of each instance of a list the sample at position n is added to those kept, if it is present
pub record AddsOf (q : ReaderQos) (h : List Happening) (n : ℕ) (instances : List Key)
    (old new : List Kept) : Type 0 where
  pub added : List Kept
  pub are : new ≡ old ++ added
  pub each : All (IsKept q h) added
  pub present : (i : Key) →
      (if list_any (λ k. same_key k i) instances && is_present q h i n then n ∷ [] else []) ≡ positions_in q h i added
  pub new_are : All (IsNewAt q h n) added

-- the instances have taken up that a writer died, the newest entry, and i stands at a place among them
pub record TakesDeath (q : ReaderQos) (table : Table) (writer moment place : ℕ) (h : List Happening) (i : Key)
    : Type 0 where
  pub stands : Stands q table (Died writer moment ∷ h)
  pub placed : slice_get (known_instances q (Died writer moment ∷ h)) place ≡ Some i
  pub fresh : IsFresh h i
