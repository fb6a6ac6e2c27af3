-- The messages of the reliable protocol that a peer has to send, and when each is due; of an announced change, an
-- assertion and a HEARTBEAT also to whom.
--
-- RTPS 2.5, 8.4.9 (reliable StatefulWriter), 8.4.12 (reliable StatefulReader), 8.3.8 (AckNack, Data, Gap, Heartbeat).
use Rattle.std.specs.Prelude.{◌≡◌, ◌⊎◌, ℕ, ◌+◌, ◌-◌, ◌==◌, ◌&&◌, ◌||◌, Bool, true, false, not, if◌then◌else◌, nat_lt, nat_le, max, min, List, [], ◌∷◌, ◌++◌, length, map, filter, Option, Some, None, pos}
use Rattle.std.specs.List.{flat_map, list_all, list_any}
use Rattle.std.specs.Option.{option_map_or}
use Rattle.dds_base.specs.declared.change.Change.{Change}
use Rattle.dds_protocol.specs.Roster.{Roster}
use Rattle.dds_base.specs.declared.guid.EntityId.{EntityId}
use Rattle.dds_base.specs.declared.guid.GuidPrefix.{GuidPrefix}
use Rattle.dds_base.specs.Bounds.{max_count}
use Rattle.dds_base.specs.Kept.{change_at, first_kept}
use Rattle.rtps_wire.specs.declared.message.Message.{Message}
use Rattle.rtps_wire.specs.declared.submessage.Submessage.{Submessage}
use Rattle.rtps_wire.specs.declared.submessage.Submessage.TheVariants.{InfoDst, InfoTs, Data, Heartbeat, AckNack, Gap}
use Rattle.rtps_wire.specs.Content.{content_of}
use Rattle.rtps_wire.specs.Messages.{IsWritable, spelling_of}
use Rattle.rtps_reader.specs.declared.step.AckNackDue.{AckNackDue}
use Rattle.rtps_sets.specs.NumberSet.{empty_from}
use Rattle.rtps_writer.specs.declared.answer.Answer.{Answer}
use Rattle.rtps_writer.specs.declared.answer.Answer.TheVariants.{Data as AnswersData, Gap as AnswersGap}
use Rattle.dds_base.specs.declared.endpoint.Endpoint.{Endpoint}
use Rattle.dds_protocol.specs.declared.event.Packet.{Packet}
use Rattle.dds_machine.specs.Part.{Part, ReaderProxy, Writer, own_writer, peers_of, writer_changes, heartbeats_used, history_of, row_of}
use Rattle.dds_protocol.specs.Claims.{every_reader, participant_entity}
use Rattle.dds_protocol.specs.Contact.{Contact, awaits_heartbeat}

-- a message that is due to the peer of this number
pub record Due : Type 0 where
  pub to : ℕ
  pub message : Message

-- a message with one ACKNACK
abbrev pub acknack_message : (own to : GuidPrefix) (reader writer : EntityId) → AckNackDue → Message
acknack_message own to reader writer due = record {
  prefix = own;
  submessages = InfoDst to ∷ AckNack
      (record {
        reader_id = reader;
        writer_id = writer;
        reader_sn_state = due.missing;
        count = due.count;
        final_flag = due.is_final;
      }) ∷ [];
}

-- an ACKNACK to a peer, if one is due
abbrev pub acknacks_due : (own to : GuidPrefix) (peer : ℕ) (reader writer : EntityId) → Option AckNackDue → List Due
acknacks_due own to peer reader writer None = []
acknacks_due own to peer reader writer (Some due) =
    record { to = peer; message = acknack_message own to reader writer due } ∷ []

-- what stands in a message for the change of a number: its moment in an INFO_TS, then the DATA; nothing where there is
-- no such change (RTPS 2.5, 8.3.8)
abbrev pub data_of : EntityId → EntityId → ℕ → Option Change → List Submessage
data_of reader writer number None = []
data_of reader writer number (Some change) =
    InfoTs (Some change.source_timestamp) ∷ Data
    (record { reader_id = reader; writer_id = writer; writer_sn = number; content = content_of change }) ∷ []

-- what an answer to an ACKNACK puts into a message: the change of its number, or the GAP from its first number to its
-- last
abbrev pub submessages_of : List Change → EntityId → EntityId → Answer → List Submessage
submessages_of changes reader writer (AnswersData number) = data_of reader writer number (change_at changes number)
submessages_of changes reader writer (AnswersGap first last) =
    Gap (record { reader_id = reader; writer_id = writer; gap_start = first; gap_list = empty_from (last + 1) }) ∷ []

-- a message with these answers
abbrev pub answer_message : (own to : GuidPrefix) (reader writer : EntityId) → List Change → List Answer → Message
answer_message own to reader writer changes answers =
    record { prefix = own; submessages = InfoDst to ∷ flat_map (submessages_of changes reader writer) answers }

-- the entity id of a writer that the roster has
abbrev pub writer_entity : Roster → ℕ → ℕ → EntityId
writer_entity roster peer number =
    option_map_or (λ entity. entity) (roster.writers (record { peer = peer; number = number })) every_reader

-- the entity id of a reader; where there is none, one that no reader has
abbrev pub reader_entity : Roster → ℕ → ℕ → EntityId
reader_entity roster peer number =
    option_map_or (λ entity. entity) (roster.readers (record { peer = peer; number = number })) participant_entity

-- a change is announced at once to each peer with a matched reader, for all of its readers
abbrev pub change_message : (own to : GuidPrefix) (writer : EntityId) → ℕ → Change → Message
change_message own to writer number change =
    record { prefix = own; submessages = InfoDst to ∷ data_of every_reader writer number (Some change) }

-- what is due once a writer has made the change of this number: a message to each peer with one of these readers
abbrev pub changes_due : Roster → Endpoint → List Endpoint → ℕ → Change → List Due
changes_due roster writer readers number change =
    map (λ to. record {
      to = to;
      message = change_message (roster.prefix writer.peer) (roster.prefix to)
          (writer_entity roster writer.peer writer.number) number change;
    }) (peers_of readers)

-- the reader of this row is sent a HEARTBEAT at a tick: it has not acknowledged all of the writer's changes, asks for
-- one, or is silent
abbrev pub is_told : (Endpoint → Contact) → Writer → ReaderProxy → Bool
is_told contacts w p = nat_le p.acknowledged (length (writer_changes w)) || awaits_heartbeat (contacts p.reader)

-- the matched reliable readers that are
abbrev pub readers_told : (Endpoint → Contact) → Writer → List Endpoint
readers_told contacts w = map (λ (p : ReaderProxy). p.reader) (filter (is_told contacts w) w.readers)

-- some matched reliable reader asks the peer's writer of this number for a HEARTBEAT, or is silent
abbrev pub was_asked : (ℕ → Endpoint → Contact) → Part → ℕ → Bool
was_asked contacts part n =
    list_any (λ (p : ReaderProxy). awaits_heartbeat (contacts n p.reader)) (own_writer part n).readers

-- the reader of this row is owed the changes from this number on
abbrev pub owed_to : Writer → ReaderProxy → ℕ
owed_to w p = min p.first (length (writer_changes w) + 1)

-- where a HEARTBEAT to a reader begins: at the first number that is kept, or at the first that the reader is owed, if
-- that is greater; a best-effort one has no row, and is owed none
abbrev pub begins_at : Writer → Endpoint → ℕ
begins_at w reader =
    max (first_kept (history_of w))
    (option_map_or (owed_to w) (row_of (λ (p : ReaderProxy). p.reader) w.readers reader) 0)

-- where it ends: at the writer's last number; but to a silent one it names no number
abbrev pub ends_at : (Endpoint → Contact) → Writer → Endpoint → ℕ
ends_at contacts w reader =
    if (contacts reader).silent then begins_at w reader - 1 else length (writer_changes w)

-- one HEARTBEAT is for all readers at this peer: each reliable one there is owed all that is kept, and none is silent
abbrev pub is_one_for_all : (Endpoint → Contact) → Writer → ℕ → Bool
is_one_for_all contacts w to = list_all (λ (p : ReaderProxy). not (p.reader.peer == to)
    || (nat_le (owed_to w p) (first_kept (history_of w)) && not (contacts p.reader).silent)) w.readers

-- a HEARTBEAT of a writer with these flags, to readers of this entity id: from this number to that, with the next count
abbrev pub heartbeat_from : (final liveliness : Bool) (reader writer : EntityId) → ℕ → ℕ → Writer → Submessage
heartbeat_from final liveliness reader writer first last w =
    Heartbeat (record {
      reader_id = reader;
      writer_id = writer;
      first_sn = first;
      last_sn = last;
      count = pos (heartbeats_used w + 1);
      final_flag = final;
      liveliness_flag = liveliness;
    })

-- The HEARTBEATs of a writer to those of these readers that are at this peer: one for all of them, from the first kept
-- number to the last; or, where some reader there is owed no more than what comes later, or is silent, one by name to
-- each, from where that one begins to where it ends (RTPS 2.5, 8.3.8: a HEARTBEAT's readerId).
abbrev pub heartbeats_to : Roster → (final liveliness : Bool) → (peer number : ℕ) → (Endpoint → Contact) → Writer
    → List Endpoint → ℕ → List Submessage
heartbeats_to roster final liveliness peer number contacts w readers to =
    if is_one_for_all contacts w to
    then heartbeat_from final liveliness every_reader (writer_entity roster peer number) (first_kept (history_of w))
    (length (writer_changes w)) w ∷ []
    else map (λ (r : Endpoint). heartbeat_from final liveliness (reader_entity roster r.peer r.number)
    (writer_entity roster peer number) (begins_at w r) (ends_at contacts w r) w)
    (filter (λ (r : Endpoint). r.peer == to) readers)

-- the message to this peer with these
abbrev pub heartbeats_due_to : Roster → (final liveliness : Bool) → (peer number : ℕ) → (Endpoint → Contact) → Writer
    → List Endpoint → ℕ → Due
heartbeats_due_to roster final liveliness peer number contacts w readers to = record {
  to = to;
  message = record {
    prefix = roster.prefix peer;
    submessages =
        InfoDst (roster.prefix to) ∷ heartbeats_to roster final liveliness peer number contacts w readers to;
  };
}

-- what is due to these readers of a writer: a message to each of their peers
abbrev pub heartbeats_for : Roster → (final liveliness : Bool) → (peer number : ℕ) → (Endpoint → Contact) → Writer
    → List Endpoint → List Due
heartbeats_for roster final liveliness peer number contacts w readers =
    map (heartbeats_due_to roster final liveliness peer number contacts w readers) (peers_of readers)

-- at a tick, those that are behind are asked for an answer, as are those that ask, and the silent ones, while there are
-- counts left
abbrev pub heartbeats_of : Roster → (ℕ → Endpoint → Contact) → ℕ → ℕ → Writer → List Due
heartbeats_of roster contacts peer number w =
    if nat_lt (heartbeats_used w) max_count
    then heartbeats_for roster false false peer number (contacts number) w (readers_told (contacts number) w)
    else []

-- the HEARTBEATs that are due at a tick from these writers, the first of which has this number
abbrev pub heartbeats_from : Roster → (ℕ → Endpoint → Contact) → ℕ → ℕ → List Writer → List Due
heartbeats_from roster contacts peer number [] = []
heartbeats_from roster contacts peer number (w ∷ ws) =
    heartbeats_of roster contacts peer number w ++ heartbeats_from roster contacts peer (number + 1) ws

-- what is due at a tick of a peer, whose writers know this of their readers: the HEARTBEATs of its writers, in their
-- order
abbrev pub heartbeats_due : Roster → (ℕ → Endpoint → Contact) → ℕ → Part → List Due
heartbeats_due roster contacts peer part = heartbeats_from roster contacts peer 1 part.rtps.writers

-- a writer's assertion is told at once to all its matched readers, and asks for no answer (RTPS 2.5, 8.3.8: FinalFlag,
-- LivelinessFlag)
abbrev pub assertions_due : Roster → (Endpoint → Contact) → Endpoint → Writer → List Due
assertions_due roster contacts writer w =
    heartbeats_for roster true true writer.peer writer.number contacts w w.matched

-- the packet of a message that is due, in the one written form that it has
abbrev pub packet_of : Due → Packet
packet_of due = record { to = due.to; bytes = spelling_of due.message }

-- of the messages that are due these packets are sent, in their order, each in the one written form that it has; so
-- many more found no memory
abbrev pub AreSent : List Due → List Packet → ℕ → Type 0
AreSent [] packets unsent = (packets ≡ []) × (unsent ≡ 0)
AreSent (due ∷ dues) packets unsent =
    ((rest : List Packet) × (packets ≡ packet_of due ∷ rest)
    × IsWritable due.message × AreSent dues rest unsent)
    ⊎ ((fewer : ℕ) × (unsent ≡ fewer + 1) × AreSent dues packets fewer)
