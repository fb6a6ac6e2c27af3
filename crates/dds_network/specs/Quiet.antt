-- The filters and the listeners of a network of builtin endpoints: there are none.
--
-- DDS 1.4, 2.2.2.5 (QueryCondition), 2.2.4.3 (access through listeners).
use Rattle.std.specs.Prelude.{◌≡◌, ℕ, Bool, false, List, []}
use Rattle.dds_base.specs.declared.key.Key.{Key}
use Rattle.dds_notices.specs.declared.notice.Notice.{Notice}
use Rattle.dds_network.specs.declared.quiet.NoFilter.{NoFilter}
use Rattle.dds_network.specs.declared.quiet.NoListener.{NoListener}

-- nothing passes the filter
abbrev pub nothing_passes : NoFilter → Key → List ℕ → Bool
nothing_passes f key value = false

-- the listener keeps no notices,
abbrev pub keeps_nothing : NoListener → List Notice
keeps_nothing l = []

-- has room for none,
abbrev pub has_no_room : NoListener → ℕ
has_no_room l = 0

-- and stays as it is
abbrev pub stays_as_it_is : NoListener → Notice → NoListener → Type 0
stays_as_it_is l notice after = after ≡ l
