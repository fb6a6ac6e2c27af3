-- All that a peer sends by the reliable protocol is true: what is due once a packet was taken up, and at a tick.
use Rattle.std.proofs.Common.{◌≡◌, ℕ, ◌+◌, List, [], ◌∷◌, Option, Some, Contains, refl, subst, ap, sym, inl, inr, ⊎_elim, arith, length}
use Rattle.std.specs.List.{All, AllByRecursion}
use Rattle.std.proofs.lemmas.List.Elements.{All-append, All-contains, All-nil}
use Rattle.dds_protocol.specs.Roster.{IsRoster, Roster}
use Rattle.dds_base.specs.declared.endpoint.Endpoint.{Endpoint}
use Rattle.rtps_wire.specs.declared.message.Message.{Message}
use Rattle.rtps_wire.specs.declared.submessage.Submessage.{Submessage}
use Rattle.rtps_wire.specs.declared.submessage.Submessage.TheVariants.{Pad, InfoDst, InfoTs, Data, Heartbeat, AckNack, Gap, Other}
use Rattle.rtps_wire.specs.Messages.{ReadsAll, ReadsMessage, IsWritable, spelling_of}
use Rattle.rtps_wire.specs.Sets.{acknack_field, set_of}
use Rattle.rtps_wire.specs.Submessages.{Reads}
use Rattle.dds_protocol.specs.declared.event.Packet.{Packet}
use Rattle.dds_machine.specs.declared.reply.Move.{Move}
use Rattle.dds_machine.specs.declared.reply.Report.{Report}
use Rattle.dds_machine.specs.declared.reply.Reply.{Reply}
use Rattle.dds_machine.specs.Part.{Part, ReaderProxy, WriterProxy, own_writer, acknowledged_of, NoLess}
use Rattle.dds_machine.specs.Ticks.{TickStep}
use Rattle.dds_protocol.specs.Claims.{Receiver, receiver_of, after_submessage, Claim, Claims}
use Rattle.dds_protocol.specs.Peer.{Delivery, packets_of, IsTrueAt}
use Rattle.dds_protocol.specs.Contact.{Contact}
use Rattle.dds_protocol.specs.DueMessages.{Due, AreSent, heartbeats_due}
use Rattle.dds_protocol.specs.Protocol.{State, FollowsMessage, TakesMessage, TakesPacket}
use Rattle.dds_protocol.specs.Backed.{IsBacked}
use Rattle.dds_protocol.specs.Dues.{AreTellable, IsPartOf, IsTruthful, AreTruthful, IsSized, HasSmallChanges, HasPlaces, CanBeWritten}
use Rattle.dds_protocol.proofs.Attached.{SameMet}
use Rattle.dds_protocol.proofs.Composed.{front_or_rest, later_in}
use Rattle.dds_protocol.proofs.DuesGrowth.{Gains, gains_same, gains_on, small_gained, truthful_gained, truthful_on}
use Rattle.dds_protocol.proofs.DuesHeartbeats.{heartbeats_truthful}
use Rattle.dds_protocol.proofs.DuesTurns.{Keeps, HasBase, takes_kept}
use Rattle.dds_protocol.proofs.DuesWritten.{none_written}
use Rattle.dds_protocol.proofs.Growth.{TickStep-grows, TickStep-acknowledged}
use Rattle.dds_protocol.proofs.RuledPackets.{Packet as Arrival, own, Stands, IsRest, rest_next, Backed, coming_at, Taken, taken, next_backed, begun}
use Rattle.dds_machine.proofs.Tables.{no_less_same}

-- ---- a packet

-- an ACKNACK that is read has a base from 1 on
base_read : (id flags : ℕ) (body : List ℕ) (s : Submessage) → Reads id flags body s → HasBase s
unfolding set_of
base_read id flags body (AckNack a) h =
    let set = h.body_is.set in
    let first = set.valid.first in
    let base : a.reader_sn_state.base ≡ (acknack_field set.field).base = ap (λ s. s.base) set.set in
    omega (arith, first, base)
base_read id flags body (Data d) h = tt
base_read id flags body (Gap g) h = tt
base_read id flags body (Heartbeat b) h = tt
base_read id flags body Pad h = tt
base_read id flags body (InfoDst x) h = tt
base_read id flags body (InfoTs x) h = tt
base_read id flags body (Other x) h = tt

bases_read : (bytes : List ℕ) (ss : List Submessage) (left : List ℕ) → ReadsAll bytes ss left
    → AllByRecursion HasBase ss
bases_read bytes [] left h = tt
bases_read bytes (s ∷ ss) left h = (base_read h.1.0 h.1.1 h.1.2 s h.1.4, bases_read h.0 ss left h.2)

-- a message that comes to a peer
abbrev arrival : (roster : Roster) (peer : ℕ) (before : List Delivery) (bytes : List ℕ) (rows : List (List WriterProxy))
    → IsRoster roster
    → (message : Message) (offset : ℕ) → ReadsMessage bytes message offset → Arrival
arrival roster peer before bytes rows checked message offset is_read = record {
  roster = roster;
  checked = checked;
  peer = peer;
  before = before;
  bytes = bytes;
  rows = rows;
  message = message;
  offset = offset;
  is_read = is_read;
}

-- the submessages from one on were taken up: what is due is true, and can be written
record Followed (p : Arrival) (old : State) (dues : List Due) (new : State) : Type 0 where
  gains : Gains old.part new.part
  truthful : AreTruthful p.roster p.peer new.part dues
  writable : IsSized p.roster → HasSmallChanges old.part → All CanBeWritten dues

followed_none : (p : Arrival) (old : State) (dues : List Due) (new : State) → dues ≡ [] → new ≡ old
    → Followed p old dues new
followed_none p old dues new none same = record {
  gains = subst (λ (s : State). Gains old.part s.part) (sym same) (gains_same old.part);
  truthful = subst (λ (ds : List Due). AreTruthful p.roster p.peer new.part ds) (sym none)
      (All-nil (IsTruthful p.roster p.peer new.part));
  writable = λ sized small. none_written dues none;
}

followed : (p : Arrival) (index : ℕ) (at : Receiver) (ss : List Submessage) → IsRest p index at ss
    → AllByRecursion HasBase ss → (old : State) (moves : List Move) (refused : Option ℕ) (dues : List Due) (new : State)
    → Backed p (Some index) old → SameMet p.rows old.part.rtps.readers → AreTellable old.part
    → FollowsMessage p.roster (own p) p.peer index at ss old moves refused dues new → Followed p old dues new
followed p index at [] rest bases old moves refused dues new b met t h = followed_none p old dues new h.1.1 h.1.2
followed p index at (s ∷ ss) rest bases old moves refused dues new b met t (inl h) =
    followed_none p old dues new h.1.1 h.1.2
followed p index at (s ∷ ss) rest bases old moves refused dues new b met t (inr h) =
    let mid : State = h.4 in
    let stands : Stands p index at s =
    subst (λ (n : ℕ). Stands p n at s) (omega arith) (rest.stand 0 at s (refl, refl)) in
    let one : Taken (coming_at p index at s stands) old h.0 mid =
    taken (coming_at p index at s stands) s refl old h.0 h.2 mid b met h.7 in
    let kept : Keeps (coming_at p index at s stands) old h.2 mid =
    takes_kept (coming_at p index at s stands) s refl bases.0 old h.0 h.2 mid
    (record { backed = b; met = met; tellable = t }) h.7 in
    let next : Backed p (Some (index + 1)) mid = next_backed p index at s ss rest stands mid one.backed one.past in
    let later : Followed p mid h.3 new =
    followed p (index + 1) (after_submessage (own p) at s) ss
    (rest_next p index at s ss rest) bases.1 mid h.1 refused h.3 new next kept.rests.met kept.rests.tellable
    h.8 in
    record {
      gains = gains_on old.part mid.part new.part kept.gains later.gains;
      truthful = subst (λ (ds : List Due). AreTruthful p.roster p.peer new.part ds) (sym h.6)
          (All-append (IsTruthful p.roster p.peer new.part) h.2 h.3
          (truthful_gained p.roster p.peer mid.part new.part later.gains h.2 kept.truthful) later.truthful);
      writable = λ sized small. subst (λ (ds : List Due). All CanBeWritten ds) (sym h.6)
          (All-append CanBeWritten h.2 h.3 (kept.writable sized small)
          (later.writable sized (small_gained old.part mid.part kept.gains small)));
    }

-- a message that was taken up
message_followed : (roster : Roster) (peer : ℕ) (before : List Delivery) (bytes : List ℕ) (old : State)
    (report : Report) (dues : List Due) (new : State) (checked : IsRoster roster)
    → IsBacked roster peer (packets_of before) before old → AreTellable old.part
    → (h : TakesMessage roster peer bytes old report dues new)
    → Followed (arrival roster peer before bytes old.part.rtps.readers checked h.message h.offset h.is_read) old dues new
message_followed roster peer before bytes old report dues new checked b t h =
    let p : Arrival = arrival roster peer before bytes old.part.rtps.readers checked h.message h.offset h.is_read in
    let all : IsRest p 0 (receiver_of h.message.prefix) h.message.submessages = record {
      stand = λ k later s e. subst (λ (n : ℕ). Stands p n later s) (omega arith) e;
      only = λ k later s e. subst (λ (n : ℕ). Stands p n later s) (omega arith) e;
    } in
    let bases : AllByRecursion HasBase h.message.submessages =
    bases_read h.is_read.body h.message.submessages h.is_read.left h.is_read.submessages in
    followed p 0 (receiver_of h.message.prefix) h.message.submessages all bases old report.moves report.refused dues new
    (begun p old refl b) (λ r w. refl) t h.follows

-- What is due once a peer took a packet up is true: each message, once written, claims only what is so of the peer's
-- own lists and places.
pub packet_truthful : (roster : Roster) (peer : ℕ) (before : List Delivery) (bytes : List ℕ) (old : State)
    (report : Report) (dues : List Due) (new : State) → IsRoster roster
    → IsBacked roster peer (packets_of before) before old → AreTellable old.part
    → TakesPacket roster peer bytes old report dues new → AreTruthful roster peer new.part dues
packet_truthful roster peer before bytes old report dues new checked b t (inl h) =
    (message_followed roster peer before bytes old report dues new checked b t h).truthful
packet_truthful roster peer before bytes old report dues new checked b t (inr h) =
    subst (λ (ds : List Due). AreTruthful roster peer new.part ds) (sym h.2) (All-nil (IsTruthful roster peer new.part))

-- It can be written.
pub packet_writable : (roster : Roster) (peer : ℕ) (before : List Delivery) (bytes : List ℕ) (old : State)
    (report : Report) (dues : List Due) (new : State) → IsRoster roster
    → IsBacked roster peer (packets_of before) before old → AreTellable old.part
    → TakesPacket roster peer bytes old report dues new → IsSized roster → HasSmallChanges old.part
    → All CanBeWritten dues
packet_writable roster peer before bytes old report dues new checked b t (inl h) sized small =
    (message_followed roster peer before bytes old report dues new checked b t h).writable sized small
packet_writable roster peer before bytes old report dues new checked b t (inr h) sized small = none_written dues h.2

-- A packet moves places and acknowledgements on, and writes nothing: so what its dues rest on is so after it.
pub packet_gains : (roster : Roster) (peer : ℕ) (before : List Delivery) (bytes : List ℕ) (old : State)
    (report : Report) (dues : List Due) (new : State) → IsRoster roster
    → IsBacked roster peer (packets_of before) before old → AreTellable old.part
    → TakesPacket roster peer bytes old report dues new → Gains old.part new.part
packet_gains roster peer before bytes old report dues new checked b t (inl h) =
    (message_followed roster peer before bytes old report dues new checked b t h).gains
packet_gains roster peer before bytes old report dues new checked b t (inr h) =
    subst (λ (p : Part). Gains old.part p) (sym h.0.after) (gains_same old.part)

-- ---- a tick

-- What is due at a tick is true after it too.
pub tick_truthful : (roster : Roster) (contacts : ℕ → Endpoint → Contact) (peer : ℕ) (old : Part) (now : ℕ)
    (reply : Reply) (new : Part) → IsRoster roster → IsPartOf roster peer old
    → TickStep old now reply new → AreTruthful roster peer new (heartbeats_due roster contacts peer old)
tick_truthful roster contacts peer old now reply new checked of step =
    truthful_on roster peer old new (TickStep-grows old now reply new step)
    (λ w r.
    subst (λ (rows : List ReaderProxy). NoLess (acknowledged_of (own_writer old w).readers r) (acknowledged_of rows r))
    (sym (TickStep-acknowledged old now reply new step w))
    (no_less_same (acknowledged_of (own_writer old w).readers r)))
    (heartbeats_due roster contacts peer old) (heartbeats_truthful roster contacts peer old checked of)

-- ---- what is sent

-- the packet is the written form of a message that was due, which has one
pub record IsOfDue (dues : List Due) (packet : Packet) : Type 0 where
  pub due : Due
  pub among : Contains dues due
  pub writable : IsWritable due.message
  pub is : packet ≡ record { to = due.to; bytes = spelling_of due.message }

later_due : (d : Due) (ds : List Due) (packet : Packet) → IsOfDue ds packet → IsOfDue (d ∷ ds) packet
later_due d ds packet h = record { due = h.due; among = later_in d ds h.due h.among; writable = h.writable; is = h.is }

-- each packet that is sent is that of a message that was due
pub sent_is_due : (dues : List Due) (packets : List Packet) (unsent : ℕ) → AreSent dues packets unsent
    → (packet : Packet) → Contains packets packet → IsOfDue dues packet
sent_is_due [] packets unsent h packet among =
    let none = ap (λ (ps : List Packet). length ps) h.0 in let lt = among.1 in absurd (omega (arith, none, lt))
sent_is_due (d ∷ ds) packets unsent (inl h) packet among =
    let first : Packet = record { to = d.to; bytes = spelling_of d.message } in
    let there : Contains (first ∷ h.0) packet = subst (λ (ps : List Packet). Contains ps packet) h.1 among in
    ⊎_elim (λ e. record { due = d; among = (0, omega arith, refl); writable = h.2; is = sym e })
    (λ rest. later_due d ds packet (sent_is_due ds h.0 unsent h.3 packet rest))
    (front_or_rest first h.0 packet there.0 there.1 there.2)
sent_is_due (d ∷ ds) packets unsent (inr h) packet among =
    later_due d ds packet (sent_is_due ds packets h.0 h.2 packet among)

-- What is sent of true messages claims the truth.
pub sent_truthful : (roster : Roster) (peer : ℕ) (part : Part) (dues : List Due) (packets : List Packet) (unsent : ℕ)
    → AreTruthful roster peer part dues → All (λ (due : Due). IsWritable due.message) dues
    → AreSent dues packets unsent → (packet : Packet) (claim : Claim) → Contains packets packet
    → Claims roster packet.bytes claim → IsTrueAt peer part claim
sent_truthful roster peer part dues packets unsent truthful writable sent packet claim among says =
    let d : IsOfDue dues packet = sent_is_due dues packets unsent sent packet among in
    All-contains (IsTruthful roster peer part) dues d.due truthful d.among claim
    (All-contains (λ (due : Due). IsWritable due.message) dues d.due writable d.among)
    (subst (λ (x : Packet). Claims roster x.bytes claim) d.is says)

-- messages can be written where the sets of their ACKNACKs have their places
pub all_writable : (dues : List Due) → All CanBeWritten dues
    → All (λ (due : Due). AllByRecursion HasPlaces due.message.submessages) dues
    → All (λ (due : Due). IsWritable due.message) dues
all_writable dues can places = λ i d lt. can i d lt (places i d lt)
