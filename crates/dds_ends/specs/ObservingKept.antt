-- Which submessage would be nothing to a reader, by what the reader keeps. Inner functions alone cite this: nothing
-- here has to be believed.
--
-- RTPS 2.5, 8.4.10 (StatefulReader, WriterProxy).
use Rattle.std.specs.Prelude.{◌≡◌, ◌⊎◌, ℕ, Bool, false, ◌&&◌, slice_get, Option, Some}
use Rattle.dds_base.specs.declared.guid.GuidPrefix.{GuidPrefix}
use Rattle.rtps_reader.specs.Reader.{Tracks}
use Rattle.rtps_reader.specs.Tracked.{Tracked}
use Rattle.rtps_wire.specs.declared.submessage.Submessage.{Submessage}
use Rattle.dds_base.specs.declared.endpoint.Endpoint.{Endpoint}
use Rattle.dds_protocol.specs.Claims.{Receiver}
use Rattle.dds_ends.specs.declared.matching.WriterName.{WriterName}
use Rattle.dds_ends.specs.Kept.{ReaderKept}
use Rattle.dds_ends.specs.Observing.{is_counted, is_old}
use Rattle.dds_ends.specs.Readiness.{IsNamedAt, IsUnnamed}

-- the submessage names the reader, which has this of its writer of the row: that is counted and it is old there, or not
pub record IsOldAtRow (own : GuidPrefix) (of : Option Endpoint) (at : Receiver) (submessage : Submessage)
    (kept : ReaderKept) (old : Bool) : Type 0 where
  pub row : ℕ
  pub named : IsNamedAt own at submessage kept row
  pub is : (name : WriterName) → slice_get kept.writers row ≡ Some name → (t : Tracked) → Tracks kept.reader row t
      → old ≡ (is_counted of name.writer && is_old t submessage)

-- it is old at the reader, or not; where it does not name the reader it is not
abbrev pub IsOldIn : GuidPrefix → Option Endpoint → Receiver → Submessage → ReaderKept → Bool → Type 0
IsOldIn own of at submessage kept old =
    IsOldAtRow own of at submessage kept old ⊎ (IsUnnamed own at submessage kept × (old ≡ false))
