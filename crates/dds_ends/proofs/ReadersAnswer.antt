-- The ACKNACK of a reader can be written.
use Rattle.std.proofs.Common.{◌≡◌, length, arith}
use Rattle.dds_base.specs.declared.guid.EntityId.{EntityId}
use Rattle.dds_base.specs.declared.guid.GuidPrefix.{GuidPrefix}
use Rattle.rtps_reader.specs.declared.step.AckNackDue.{AckNackDue}
use Rattle.rtps_reader.specs.Answer.{IsSayable}
use Rattle.rtps_wire.specs.Messages.{IsWritable}
use Rattle.rtps_wire.proofs.LengthLaws.{short_writable}
use Rattle.std.specs.Prelude.{FitsSigned}
use Rattle.std.specs.Int.{w32}
use Rattle.dds_protocol.specs.DueMessages.{acknack_message}

pub acknack_writable : (own to : GuidPrefix) (reader writer : EntityId) (due : AckNackDue) → length own.0 ≡ 12
    → length to.0 ≡ 12 → length reader.0 ≡ 4 → length writer.0 ≡ 4 → FitsSigned w32 due.count → IsSayable due
    → IsWritable (acknack_message own to reader writer due)
acknack_writable own to reader writer due of_own of_to of_reader of_writer count says =
    short_writable (acknack_message own to reader writer due) of_own (
      of_to,
      (
        (
          record { reader = of_reader; writer = of_writer; count = count },
          record { first = says.first; small = says.small; places = says.places },
        ),
        tt,
      ),
    ) (omega arith)
