-- INFO_DST: whom what follows is for (RTPS 2.5, 9.4.5: InfoDestination).
--
-- 0...............8...............16..............24.............31
-- |                                                               |
-- |                    GUID prefix, 12 octets                     |
-- |                                                               |
use Rattle.std.specs.Prelude.{ℕ, List}
use Rattle.dds_base.specs.declared.guid.GuidPrefix.{GuidPrefix}
use Rattle.rtps_wire.specs.Fields.{BeginsWith}

-- The body begins with the prefix, whatever follows.
abbrev pub ReadsInfoDst : ℕ → List ℕ → GuidPrefix → Type 0
ReadsInfoDst flags body prefix = BeginsWith body prefix.0

-- the body as written
abbrev pub text_of_info_dst : GuidPrefix → List ℕ
text_of_info_dst prefix = prefix.0
