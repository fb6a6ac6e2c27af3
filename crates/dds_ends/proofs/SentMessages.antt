-- Each packet to the destinations of a writer is a message.
use Rattle.std.proofs.Common.{◌≡◌, ◌⊎◌, ℕ, zero, suc, List, [], ◌∷◌, Some, length, slice_get, refl, sym, subst, arith, inl, inr, ⊎_elim, Contains}
use Rattle.rtps_wire.specs.declared.data.DataContent.{DataContent}
use Rattle.rtps_wire.specs.declared.message.Message.{Message}
use Rattle.rtps_wire.specs.Messages.{ReadsMessage, HasSubmessage, spelling_of}
use Rattle.rtps_wire.proofs.SpellingLaws.{message_again}
use Rattle.dds_protocol.specs.declared.event.Packet.{Packet}
use Rattle.dds_ends.specs.declared.matching.Destination.{Destination}
use Rattle.dds_ends.specs.declared.sending.Sender.{Sender}
use Rattle.dds_ends.specs.Sending.{AreMessages}
use Rattle.dds_ends.specs.Announcing.{announcement, IsAnnouncement, AreAnnouncements}

-- ---- what is claimed

-- the announcement is a message with a submessage
is_message : (sender : Sender) (to : Destination) (number : ℕ) (content : DataContent) (packet : Packet)
    → IsAnnouncement sender to number content packet → HasSubmessage packet.bytes
is_message sender to number content packet is =
    let m : Message = announcement sender to number content in
    let r : ReadsMessage (spelling_of m) m (length (spelling_of m)) = message_again m is.writable in
    let f = r.submessages in
    subst (λ (b : List ℕ). HasSubmessage b) (sym is.bytes)
    (record {
      source = m.prefix;
      body = r.body;
      header = r.header;
      first = (f.1.0, f.1.1, f.1.2, f.0, f.1.3);
    })

-- ---- the packets to all destinations

-- a destination that the packet announces the change to
pub record Target (sender : Sender) (number : ℕ) (content : DataContent) (ds : List Destination)
    (packet : Packet) : Type 0 where
  pub index : ℕ
  pub to : Destination
  pub at : slice_get ds index ≡ Some to
  pub is : IsAnnouncement sender to number content packet

pub contains_cases : {X : Type 0} (x : X) (xs : List X) (y : X) → Contains (x ∷ xs) y → (x ≡ y) ⊎ Contains xs y
contains_cases x xs y (zero, lt, is) = inl is
contains_cases x xs y (suc k, lt, is) = inr (k, omega (arith, lt), is)

later : {sender : Sender} {number : ℕ} {content : DataContent} {packet : Packet} (d : Destination)
    (ds : List Destination) → Target sender number content ds packet → Target sender number content (d ∷ ds) packet
later d ds t = record { index = suc t.index; to = t.to; at = t.at; is = t.is }

pub target : (sender : Sender) (number : ℕ) (content : DataContent) (ds : List Destination) (ps : List Packet)
    → AreAnnouncements sender number content ds ps → (packet : Packet) → Contains ps packet
    → Target sender number content ds packet
target sender number content ds [] h packet among = let lt = among.1 in absurd (omega (arith, lt))
target sender number content [] (p ∷ ps) h packet among = absurd h
target sender number content (d ∷ ds) (p ∷ ps) (inl f) packet among =
    ⊎_elim (λ same. record {
      index = zero;
      to = d;
      at = refl;
      is = subst
          (λ (x : Packet). IsAnnouncement sender d number content x) same f.0;
    })
    (λ rest. later d ds (target sender number content ds ps f.1 packet rest)) (contains_cases p ps packet among)
target sender number content (d ∷ ds) (p ∷ ps) (inr g) packet among =
    later d ds (target sender number content ds (p ∷ ps) g packet among)

-- and is a message
pub sent_messages : (sender : Sender) (number : ℕ) (c : DataContent) (ds : List Destination) (packets : List Packet)
    → AreAnnouncements sender number c ds packets → AreMessages packets
sent_messages sender number c ds packets are packet among =
    let t = target sender number c ds packets are packet among in is_message sender t.to number c packet t.is
