-- The present writes of a reader, as they are counted among the kept samples. Inner functions alone cite this: nothing
-- here has to be believed.
--
-- DDS 1.4, 2.2.3 (RESOURCE_LIMITS, HISTORY).
use Rattle.std.specs.List.{count_by}
use Rattle.std.specs.Prelude.{ℕ, ◌+◌, ◌-◌, ◌∷◌, List, Bool, ◌&&◌, ◌||◌, not}
use Rattle.dds_base.specs.declared.happening.Arrival.{Arrival}
use Rattle.dds_base.specs.declared.happening.Happening.{Happening}
use Rattle.dds_base.specs.declared.happening.Happening.TheVariants.{Came}
use Rattle.dds_base.specs.declared.qos.ReaderQos.{ReaderQos}
use Rattle.dds_base.specs.Happening.{as_of}
use Rattle.dds_base.specs.Presence.{is_present}
use Rattle.dds_base.specs.Life.{ends_with_write, is_at, keeps}
use Rattle.dds_instances.specs.declared.known.KnownInstance.{KnownInstance}
use Rattle.dds_instances.specs.Track.{one_if}
use Rattle.dds_cache.specs.declared.kept.Kept.{Kept}

-- a kept sample is present, and a write
abbrev pub is_present_write : ReaderQos → List Happening → Kept → Bool
is_present_write q h k =
    is_present q h k.sample.key k.sample.position && ends_with_write q k.sample.key (as_of k.sample.position h)

-- how many of the kept samples are so once a change has come
abbrev pub present_writes_after : ReaderQos → Arrival → List Happening → List Kept → ℕ
present_writes_after q a h ks = count_by (is_present_write q (Came a ∷ h)) ks

-- a kept sample is so after a change: by the counts of its instance before it, whether one more write of the instance
-- is accepted, and whether the change leaves a marker of it
abbrev pub is_write_after : ReaderQos → KnownInstance → Bool → Bool → Kept → Bool
is_write_after q known one_more is_marked k =
    not k.is_out && (k.valid_data && (keeps q.history ((known.accepted_writes - k.number) + one_if one_more)
    || (not is_marked && is_at known.last_marker k.sample.position)))
