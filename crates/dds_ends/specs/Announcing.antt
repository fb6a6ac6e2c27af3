-- The messages that announce a change. Inner functions alone cite this: nothing here has to be believed.
--
-- RTPS 2.5, 8.4.9 (the behaviour of a reliable StatefulWriter), 8.3.7 (what stands in a message).
use Rattle.std.specs.Prelude.{◌≡◌, ◌⊎◌, ℕ, ◌++◌, List, [], ◌∷◌, Some}
use Rattle.rtps_wire.specs.declared.data.Data.{Data}
use Rattle.rtps_wire.specs.declared.data.DataContent.{DataContent}
use Rattle.rtps_wire.specs.declared.message.Message.{Message}
use Rattle.rtps_wire.specs.declared.submessage.Submessage.TheVariants as submessage
use Rattle.rtps_wire.specs.Messages.{IsWritable, spelling_of}
use Rattle.dds_protocol.specs.declared.event.Packet.{Packet}
use Rattle.dds_protocol.specs.Claims.{every_reader}
use Rattle.dds_ends.specs.declared.matching.Destination.{Destination}
use Rattle.dds_ends.specs.declared.sending.Sender.{Sender}

-- the DATA of a change, for all readers
abbrev pub data_of : Sender → ℕ → DataContent → Data
data_of sender number content = record {
  reader_id = every_reader;
  writer_id = sender.entity;
  writer_sn = number;
  content = content;
}

-- the message to a peer with this DATA
abbrev pub message_of : Sender → Destination → Data → Message
message_of sender to change = record {
  prefix = sender.prefix;
  submessages = submessage.InfoDst to.prefix ∷ submessage.InfoTs (Some sender.moment) ∷ submessage.Data change ∷ [];
}

-- the message that announces a change to a peer
abbrev pub announcement : Sender → Destination → ℕ → DataContent → Message
announcement sender to number content = message_of sender to (data_of sender number content)

-- the packet is that message
pub record IsAnnouncement (sender : Sender) (to : Destination) (number : ℕ) (content : DataContent)
    (packet : Packet) : Type 0 where
  pub to_is : packet.to ≡ to.peer
  pub writable : IsWritable (announcement sender to number content)
  pub bytes : packet.bytes ≡ spelling_of (announcement sender to number content)

-- the packets announce it to some of these destinations, each once and in their order
abbrev pub AreAnnouncements : Sender → ℕ → DataContent → List Destination → List Packet → Type 0
AreAnnouncements sender number content to [] = Unit {0}
AreAnnouncements sender number content [] (packet ∷ packets) = ⊥
AreAnnouncements sender number content (d ∷ ds) (packet ∷ packets) =
    (IsAnnouncement sender d number content packet × AreAnnouncements sender number content ds packets)
    ⊎ AreAnnouncements sender number content ds (packet ∷ packets)

-- the packet of these octets was added, or found no memory
abbrev pub AddsOctets : List Packet → List ℕ → ℕ → List Packet → Type 0
AddsOctets old octets to new = (new ≡ old) ⊎ (new ≡ old ++ record { to = to; bytes = octets } ∷ [])

-- the packet of a message was added, or found no memory
abbrev pub AddsPacket : List Packet → Message → ℕ → List Packet → Type 0
AddsPacket old message to new = AddsOctets old (spelling_of message) to new
