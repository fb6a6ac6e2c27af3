use Rattle.std.proofs.Common.{◌≡◌, false, take}
use Rattle.rtps_writer.specs.Standing.{StandsFor as RtpsStandsFor}
use Rattle.dds_base.specs.declared.endpoint.Endpoint.{Endpoint}
use Rattle.dds_machine.specs.Part.{Writer}
use Rattle.dds_protocol.specs.Contact.{Contact}
use Rattle.dds_protocol.specs.DueMessages.{is_told}
use Rattle.dds_ends.specs.Beating.{AreReadersOf, is_peer_told}
use Rattle.dds_ends.specs.Standing.{state_of}
use Rattle.dds_ends.proofs.heartbeat.is_peer_told.Given as goal

abbrev pub invariant-loop-row : goal.invariant-loop-row
invariant-loop-row l = (w : Writer) (answered : Endpoint → Contact) → AreReadersOf w l.fn.readers
    → RtpsStandsFor l.fn.writer (state_of w answered)
    → is_peer_told (is_told answered w) l.fn.peer (take l.row w.readers) ≡ false
