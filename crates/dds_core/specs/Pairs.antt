-- A writer of a peer and a reader that it is matched with, by their entity ids (RTPS 2.5, 8.2.4, 8.4.7).
use Rattle.std.specs.Prelude.{◌≡◌, ℕ, length, IsSome, Option, Some, None}
use Rattle.dds_protocol.specs.Roster.{Roster}
use Rattle.dds_base.specs.declared.endpoint.Endpoint.{Endpoint}
use Rattle.dds_machine.specs.Part.{own_writer, acknowledged_of, is_reader_behind, writer_changes}
use Rattle.dds_protocol.specs.Peer.{Peer}
use Rattle.dds_protocol.specs.DueMessages.{reader_entity, writer_entity}
use Rattle.dds_core.specs.declared.pairing.Pair.{Pair}

-- the peer's writer is matched with the reader, these are their entity ids, the reader is behind exactly so, and the
-- writer has made so many changes; or they are not matched
abbrev pub IsPair : Roster → Peer → ℕ → Endpoint → Option Pair → Type 0
IsPair roster peer writer reader None = acknowledged_of (own_writer peer.part writer).readers reader ≡ None
IsPair roster peer writer reader (Some pair) =
    IsSome (acknowledged_of (own_writer peer.part writer).readers reader)
    × (pair.writer ≡ writer_entity roster peer.number writer)
    × (pair.reader ≡ reader_entity roster reader.peer reader.number)
    × (pair.is_behind ≡ is_reader_behind (own_writer peer.part writer) reader)
    × (pair.last ≡ length (writer_changes (own_writer peer.part writer)))
