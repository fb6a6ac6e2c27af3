-- Which kept samples a sweep leaves. Inner functions alone cite this: nothing here has to be believed.
--
-- DDS 1.4, 2.2.3 (HISTORY).
use Rattle.std.specs.Prelude.{◌≡◌, ◌⊎◌, ℕ, List, length, filter, Bool, ◌&&◌, nat_lt, if◌then◌else◌}
use Rattle.dds_base.specs.declared.happening.Happening.{Happening}
use Rattle.dds_base.specs.declared.qos.ReaderQos.{ReaderQos}
use Rattle.dds_base.specs.declared.key.Key.{Key}
use Rattle.dds_base.specs.Happening.{same_key}
use Rattle.dds_base.specs.Instance.{is_known, known_instances}
use Rattle.dds_base.specs.Life.{last_marker}
use Rattle.dds_instances.specs.Known.{writes_in_life}
use Rattle.dds_cache.specs.declared.kept.Kept.{Kept}
use Rattle.dds_cache.specs.Kept.{is_in, is_live_by}

-- a sweep leaves a kept sample: it is of a known instance, and live
abbrev pub stays : ReaderQos → List Happening → Kept → Bool
stays q h k =
    is_known q h k.sample.key && is_live_by q (writes_in_life q k.sample.key h) (last_marker q k.sample.key h) k

-- a kept sample is of instance i, and a sweep leaves it
abbrev pub stays_of : ReaderQos → List Happening → Key → Kept → Bool
stays_of q h i k = same_key k.sample.key i && stays q h k

-- of the kept samples all are left, or those that are not gone
abbrev pub AreIn : List Kept → List Kept → Type 0
AreIn old new = (new ≡ old) ⊎ (new ≡ filter is_in old)

-- what is left of the kept samples, where so many instances were known before: all, or where fewer are known, those that
-- a sweep leaves
abbrev pub left_since : ReaderQos → List Happening → ℕ → List Kept → List Kept
left_since q h before ks = if nat_lt (length (known_instances q h)) before then filter (stays q h) ks else ks
