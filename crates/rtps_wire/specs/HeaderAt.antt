-- Reading the header of a message from left to right: what the code does, on lists. Nothing here has to be
-- believed, since `read_message` says what it reads by `Messages`.
--
-- RTPS 2.5, 9.4.4.
use Rattle.std.specs.Prelude.{ℕ, ◌==◌, ◌&&◌, Bool, List, ◌∷◌, Option, None, if◌then◌else◌}
use Rattle.dds_base.specs.declared.guid.GuidPrefix.{GuidPrefix}
use Rattle.rtps_wire.specs.FieldAt.{prefix_at}
use Rattle.rtps_wire.specs.Names.{major_version}

-- the octets are 'R', 'T', 'P', 'S'
abbrev pub is_rtps : ℕ → ℕ → ℕ → ℕ → Bool
is_rtps r t p s = r == 82 && t == 84 && p == 80 && s == 83

-- the prefix, and what follows 'R', 'T', 'P', 'S', the major version and it
unfoldable pub header_at : List ℕ → Option (GuidPrefix × List ℕ)
header_at (r ∷ t ∷ p ∷ s ∷ major ∷ minor ∷ v ∷ w ∷ rest) =
    if is_rtps r t p s && major == major_version then prefix_at rest else None
header_at _ = None
