-- What an access leaves of the kept samples, by its kind. Inner functions alone cite this: nothing here has to be
-- believed.
--
-- DDS 1.4, 2.2.2.5 (read, take).
use Rattle.std.specs.Prelude.{List, map}
use Rattle.dds_base.specs.declared.happening.SamplePosition.{SamplePosition}
use Rattle.dds_cache.specs.declared.access_kind.AccessKind.{AccessKind}
use Rattle.dds_cache.specs.declared.access_kind.AccessKind.TheVariants.{Read, Take}
use Rattle.dds_cache.specs.declared.kept.Kept.{Kept}
use Rattle.dds_cache.specs.Kept.{marked, taken}

-- the kept samples after an access that returned these: it marks them
abbrev pub settled : AccessKind → List SamplePosition → List Kept → List Kept
settled Read returned kept = map (marked returned) kept
settled Take returned kept = map (taken returned) kept
