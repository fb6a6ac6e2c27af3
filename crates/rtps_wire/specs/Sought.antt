-- Which messages have a submessage that is looked for (RTPS 2.5, 8.3.8).
use Rattle.std.specs.Prelude.{◌≡◌, ℕ, List, Contains}
use Rattle.rtps_wire.specs.declared.message.Message.{Message}
use Rattle.rtps_wire.specs.declared.seek.Sought.{Sought}
use Rattle.rtps_wire.specs.declared.seek.Sought.TheVariants as sought
use Rattle.rtps_wire.specs.declared.submessage.Submessage.{Submessage}
use Rattle.rtps_wire.specs.declared.submessage.Submessage.TheVariants.{Heartbeat, AckNack}
use Rattle.rtps_wire.specs.Messages.{ReadsMessage}

-- a HEARTBEAT of the writer, or an ACKNACK of the reader to the writer
abbrev pub IsSought : Sought → Submessage → Type 0
IsSought (sought.Heartbeat writer) (Heartbeat h) = h.writer_id ≡ writer
IsSought (sought.AckNack reader writer) (AckNack a) = (a.reader_id ≡ reader) × (a.writer_id ≡ writer)
IsSought wanted submessage = ⊥

-- one of these submessages is such a one
abbrev pub HasSought : Sought → List Submessage → Type 0
HasSought wanted submessages = (s : Submessage) × Contains submessages s × IsSought wanted s

-- the bytes are a message with such a submessage
pub record Has (bytes : List ℕ) (wanted : Sought) : Type 0 where
  pub message : Message
  pub offset : ℕ
  pub is_read : ReadsMessage bytes message offset
  pub has : HasSought wanted message.submessages
