-- INFO_TS: the source timestamp of what follows, or that it has none (RTPS 2.5, 9.4.5: InfoTimestamp).
--
-- 0...............8...............16..............24.............31
-- |                            seconds                            |
-- |             fraction, in units of 2^-32 second                |
use Rattle.std.specs.Prelude.{ℕ, ◌/◌, ◌%◌, List, [], ◌++◌, Option, Some, None}
use Rattle.std.specs.Int.{w32}
use Rattle.dds_base.specs.declared.endianness.Endianness.{Endianness}
use Rattle.dds_base.specs.declared.endianness.Endianness.TheVariants.{Little}
use Rattle.dds_base.specs.Fields.{number}
use Rattle.rtps_wire.specs.Fields.{order_of, BeginsWith}
use Rattle.rtps_wire.specs.Names.{half_range}

-- seconds, then the fraction
abbrev pub moment_text : Endianness → ℕ → List ℕ
moment_text order moment = number order w32 (moment / half_range) ++ number order w32 (moment % half_range)

-- The body begins with the moment, whatever follows. Where there is none, the body is not looked at.
abbrev pub ReadsInfoTs : ℕ → List ℕ → Option ℕ → Type 0
ReadsInfoTs flags body None = Unit {0}
ReadsInfoTs flags body (Some moment) = BeginsWith body (moment_text (order_of flags) moment)

-- the body as written
abbrev pub text_of_info_ts : Option ℕ → List ℕ
text_of_info_ts None = []
text_of_info_ts (Some moment) = moment_text Little moment
