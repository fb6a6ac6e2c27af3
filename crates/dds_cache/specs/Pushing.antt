-- Samples that a change pushed out of the history of its instance. Inner functions alone cite this: nothing here has to be
-- believed.
--
-- DDS 1.4, 2.2.3 (HISTORY).
use Rattle.std.specs.Prelude.{◌≡◌, ◌⊎◌, ◌∷◌, ◌&&◌, ℕ, List, Bool, true, false, not, get_or}
use Rattle.dds_base.specs.declared.happening.Arrival.{Arrival}
use Rattle.dds_base.specs.declared.happening.Happening.{Happening}
use Rattle.dds_base.specs.declared.happening.Happening.TheVariants.{Came}
use Rattle.dds_base.specs.declared.qos.ReaderQos.{ReaderQos}
use Rattle.dds_base.specs.Happening.{same_key}
use Rattle.dds_base.specs.Life.{ends_with_write}
use Rattle.dds_base.specs.Presence.{is_present, marks}
use Rattle.dds_instances.specs.Known.{IsKnown}
use Rattle.dds_instances.specs.declared.known.KnownInstance.{KnownInstance}
use Rattle.dds_cache.specs.declared.kept.Kept.{Kept}
use Rattle.dds_cache.specs.Kept.{IsKept, IsOutAt, has_data}
use Rattle.dds_cache.specs.Room.{is_present_write}

-- the kept sample at a place is marked as gone, where it is of an instance and not present; else nothing changes, and it
-- is told whether it is of the instance, is not gone, and has data
abbrev pub IsLetAt : ReaderQos → KnownInstance → ℕ → List Kept → Bool → List Kept → Type 0
IsLetAt q known place old stays new =
    ((value : List ℕ) × IsOutAt place old value new × (stays ≡ false)
    × ((h : List Happening) (d : Kept) → IsKnown q h known → IsKept q h (get_or old place d)
    → is_present q h (get_or old place d).sample.key (get_or old place d).sample.position ≡ false))
    ⊎ ((new ≡ old)
    × ((d : Kept) → stays ≡ (same_key (get_or old place d).sample.key known.key && has_data (get_or old place d)))
    × ((h : List Happening) (d : Kept) → IsKnown q h known → IsKept q h (get_or old place d)
    → same_key (get_or old place d).sample.key known.key ≡ true
    → is_present q h (get_or old place d).sample.key (get_or old place d).sample.position ≡ true))

-- what is known of an instance before a change of it, whether the change is an accepted write, and whether it leaves a
-- marker
pub record AwaitsOwn (q : ReaderQos) (known : KnownInstance) (a : Arrival) (is_write is_marked : Bool)
    (h : List Happening) : Type 0 where
  pub is_known : IsKnown q h known
  pub key : known.key ≡ a.change.key
  pub written : is_write ≡ ends_with_write q a.change.key (Came a ∷ h)
  pub marked : is_marked ≡ marks q a.change.key h (Came a)

-- a kept sample has data and is not gone, and is no present write after a change
abbrev pub is_pushed : ReaderQos → Arrival → List Happening → Kept → Bool
is_pushed q a h k = has_data k && not (is_present_write q (Came a ∷ h) k)
