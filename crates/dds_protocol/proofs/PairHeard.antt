-- The HEARTBEATs of a round at the reader's peer, and the ACKNACK that the reader sends.
use Rattle.std.proofs.Common.{◌≡◌, ◌⊎◌, ℕ, ℤ, pos, ◌+◌, ◌-◌, ◌<◌, ◌||◌, Bool, true, false, List, [], ◌∷◌, Option, Some, None, Contains, length, refl, subst, ap, sym, ◌∙◌, inl, inr, ⊎_elim, arith}
use Rattle.std.specs.Prelude.{if◌then◌else◌}
use Rattle.std.proofs.lemmas.Option.{same_Some}
use Rattle.dds_protocol.specs.Roster.{IsRoster, Roster}
use Rattle.dds_base.specs.declared.guid.EntityId.{EntityId}
use Rattle.dds_base.specs.declared.guid.GuidPrefix.{GuidPrefix}
use Rattle.dds_base.specs.Checked.{same_prefix}
use Rattle.dds_base.specs.Places.{Match}
use Rattle.dds_base.specs.Counts.{is_later}
use Rattle.rtps_reader.specs.declared.step.AckNackDue.{AckNackDue}
use Rattle.rtps_wire.specs.declared.heartbeat.Heartbeat.{Heartbeat as HeartbeatBody}
use Rattle.rtps_wire.specs.declared.message.Message.{Message}
use Rattle.rtps_wire.specs.declared.submessage.Submessage.TheVariants.{AckNack}
use Rattle.rtps_wire.specs.declared.submessage.Submessage.{Submessage}
use Rattle.dds_machine.specs.declared.reply.Move.{Move}
use Rattle.std.proofs.lemmas.Bool.{cases_lt}
use Rattle.rtps_wire.specs.Messages.{IsWritable, spelling_of}
use Rattle.dds_base.specs.declared.endpoint.Endpoint.{Endpoint}
use Rattle.dds_protocol.specs.declared.event.Event.TheVariants as event
use Rattle.dds_protocol.specs.declared.event.Packet.{Packet}
use Rattle.dds_machine.specs.declared.event.WorldEvent.{WorldEvent}
use Rattle.dds_machine.specs.declared.event.WorldEvent.TheVariants as world
use Rattle.dds_machine.specs.declared.reply.Reply.{Reply}
use Rattle.dds_machine.specs.declared.reply.Reply.TheVariants.{Reported}
use Rattle.dds_machine.specs.Part.{Attachment, is_attached, Part, Writer, acknowledged_of, heartbeats_used, own_writer, writer_changes}
use Rattle.dds_protocol.specs.Claims.{Receiver, is_for, every_peer, Names, IsWriter, IsToReliable}
use Rattle.dds_machine.specs.Machine.{AllTests}
use Rattle.dds_protocol.specs.Peer.{state_of}
use Rattle.dds_protocol.specs.Contact.{Contact}
use Rattle.dds_protocol.specs.DueMessages.{Due, writer_entity, acknacks_due, begins_at, ends_at}
use Rattle.dds_protocol.specs.Protocol.{State, FollowsMessage, TakesPacket}
use Rattle.dds_protocol.specs.World.{WorldState, WorldStep, peer_at, machine_of, Sound}
use Rattle.dds_protocol.specs.Bounds.{IsBounded}
use Rattle.dds_protocol.specs.Fresh.{HasAckNack}
use Rattle.dds_protocol.specs.Repair.{Delivers, IsPair}
use Rattle.dds_protocol.specs.Rules.{RuledStep}
use Rattle.dds_protocol.proofs.Bounded.{steps_bounded}
use Rattle.dds_protocol.proofs.Composed.{composes, is_alone}
use Rattle.dds_protocol.proofs.Dues.{addressed, message_to}
use Rattle.dds_protocol.proofs.DuesAcknacks.{ask_body}
use Rattle.dds_protocol.proofs.DuesHeartbeats.{named_one}
use Rattle.dds_protocol.proofs.DuesMatched.{reader_entity_is}
use Rattle.dds_protocol.proofs.FreshCounts.{IsWrittenOf, steps_stays}
use Rattle.dds_protocol.proofs.OwnGuids.{prefix-Decides}
use Rattle.dds_protocol.proofs.PairPackets.{FollowsOn, read_addressed}
use Rattle.dds_protocol.proofs.PairReader.{SeatAs}
use Rattle.dds_protocol.proofs.PairTold.{HeardPacket, IsFirstTo, IsPassed, IsUnnamed, NamesFirst, IsBeside, beats_passed, first_or_none, hears_first, not_named}
use Rattle.dds_protocol.proofs.PairTurns.{Host, OfOther, Spares}
use Rattle.dds_protocol.proofs.BeatsTo.{AreBeats, IsBeatOf, IsToSome, beat_among, beat_message, beat_of, beats_are, beats_to, beats_weaker, named_beat}

-- ---- a packet that is delivered

-- it is taken up by the rules
pub delivered_takes : (roster : Roster) (tests : AllTests) (old : WorldState) (peer : ℕ) (packet : Packet) (lost : ℕ)
    (new : WorldState) → (h : Delivers roster tests old peer packet lost new)
    → TakesPacket roster peer packet.bytes (state_of (peer_at old peer)) h.report h.step.dues
    (state_of (peer_at new peer))
delivered_takes roster tests old peer packet lost new h =
    let due = h.step.due in
    subst (λ (p : Packet). TakesPacket roster peer p.bytes (state_of (peer_at old peer)) h.report h.step.dues
    (state_of (peer_at new peer))) (same_Some due.0 packet (sym due.1 ∙ h.at)) due.2

-- other peers are as they were
pub delivered_others : (roster : Roster) (tests : AllTests) (old : WorldState) (peer : ℕ) (packet : Packet) (lost : ℕ)
    (new : WorldState) → Delivers roster tests old peer packet lost new
    → (p : ℕ) → (p ≡ peer → ⊥) → peer_at new p ≡ peer_at old p
delivered_others roster tests old peer packet lost new h p apart = by h.step.step
  where
    by : WorldStep roster tests old (world.Deliver peer h.number) (Reported h.report) new
        → peer_at new p ≡ peer_at old p
    by (inl s) =
        (steps_stays roster (tests peer) old peer (event.Deliver s.0.bytes) (Reported h.report) new s.3).others p apart
    by (inr s) = let r = s.1.is_refused in absurd cc

-- claims stay true, and places within the lists
pub stays_sound : (roster : Roster) (tests : AllTests) (old : WorldState) (ev : WorldEvent) (reply : Reply) (lost : ℕ)
    (new : WorldState) → RuledStep roster tests old ev reply lost new → Sound roster old → IsBounded (machine_of old)
    → Sound roster new × IsBounded (machine_of new)
stays_sound roster tests old ev reply lost new h sound bounded =
    let c = composes roster tests old new ev reply sound h.step in
    (c.2, steps_bounded tests (length old.sent) (machine_of old) ev reply (machine_of new) bounded c.0)

-- ---- a writer and a reader

pub record Pairing : Type 0 where
  pub roster : Roster
  pub checked : IsRoster roster
  pub writer : Endpoint
  pub reader : Endpoint
  pub pair : IsPair roster writer reader
  pub name : IsWriter roster (roster.prefix writer.peer) (writer_entity roster writer.peer writer.number) writer

abbrev pub writer_prefix : Pairing → GuidPrefix
writer_prefix p = p.roster.prefix p.writer.peer

abbrev pub reader_prefix : Pairing → GuidPrefix
reader_prefix p = p.roster.prefix p.reader.peer

abbrev pub writer_id : Pairing → EntityId
writer_id p = writer_entity p.roster p.writer.peer p.writer.number

-- the reader's peer, and the writer's
abbrev pub reader_host : Pairing → Host
reader_host p = record { roster = p.roster; checked = p.checked; peer = p.reader.peer; own = reader_prefix p }

abbrev pub writer_host : Pairing → Host
writer_host p = record { roster = p.roster; checked = p.checked; peer = p.writer.peer; own = writer_prefix p }

-- a message from the writer's peer to the reader's, and one back
abbrev pub there : Pairing → Receiver
there p = addressed (writer_prefix p) (reader_prefix p)

abbrev pub back : Pairing → Receiver
back p = addressed (reader_prefix p) (writer_prefix p)

pub for_itself : (own from : GuidPrefix) → is_for (addressed from own) own ≡ true
for_itself own from = ap (λ (b : Bool). b || same_prefix own every_peer) ((prefix-Decides own own).1 refl)

-- a submessage of the writer to this reader
pub to_reader : (p : Pairing) (id : EntityId) → Names id p.pair.reader_entity
    → IsToReliable p.roster (reader_prefix p) (there p) id (writer_id p) p.writer p.reader
to_reader p id named = record {
  is_to = record {
    from = p.name;
    is_for = for_itself (reader_prefix p) (writer_prefix p);
    entity = p.pair.reader_entity;
    to = p.pair.is_reader;
    named = named;
    matched = p.pair.matched;
  };
  reliable = p.pair.reliable;
}

-- ---- the HEARTBEAT is heard

abbrev pub ask_message : Pairing → EntityId → AckNackDue → Message
ask_message p entity x = message_to (reader_prefix p) (writer_prefix p) (AckNack (ask_body entity (writer_id p) x) ∷ [])

-- what the reader and others did with the HEARTBEAT, of whose answers this is the reader's ACKNACK
abbrev pub Heard : Pairing → HeartbeatBody → Match → State → List Due → State → Type 0
Heard p h m old dues new = HeardPacket (reader_host p) (there p) h m p.writer p.reader.number old dues new

pub record HasAsked (p : Pairing) (h : HeartbeatBody) (m : Match) (old new : State) (dues : List Due)
    (hp : Heard p h m old dues new) (ask : Packet) : Type 0 where
  pub x : AckNackDue
  pub answer : hp.hears.answer ≡ Some x
  pub writable : IsWritable (ask_message p hp.hears.is.entity x)
  pub bytes : ask.bytes ≡ spelling_of (ask_message p hp.hears.is.entity x)

-- a packet with an ACKNACK of the reader is of no other one
pub not_other : (p : Pairing) (dues : List Due) (ask : Packet) (count : ℤ)
    → HasAckNack p.roster ask.bytes p.writer p.reader count → (d : IsWrittenOf dues ask)
    → OfOther (reader_host p) p.reader.number d.due → ⊥
not_other p dues ask count of d o =
    o.other (sym (ap (λ (e : Endpoint). e.number)
    (o.asks.is p.writer p.reader count d.writable
    (subst (λ (q : Packet). HasAckNack p.roster q.bytes p.writer p.reader count) d.is of))))

-- of the messages that are due, one with an ACKNACK of the reader is its own
pub ask_found : (p : Pairing) (h : HeartbeatBody) → h.writer_id ≡ writer_id p
    → (m : Match) (old new : State) (dues : List Due) (hp : Heard p h m old dues new)
    → (ask : Packet) (count : ℤ) → HasAckNack p.roster ask.bytes p.writer p.reader count → (d : IsWrittenOf dues ask)
    → HasAsked p h m old new dues hp ask
ask_found p h id m old new dues hp ask count of d =
    ⊎_elim (λ o. own o) (λ o. absurd (not_other p dues ask count of d o)) (hp.each d.due d.among)
  where
    by : (a : Option AckNackDue) → hp.hears.answer ≡ a
        → Contains (acknacks_due (reader_prefix p) (writer_prefix p) p.writer.peer hp.hears.is.entity h.writer_id a)
        d.due → HasAsked p h m old new dues hp ask
    by None e among = let lt = among.1 in absurd (omega (arith, lt))
    by (Some x) e among =
        let the : Due =
        record {
          to = p.writer.peer;
          message = message_to (reader_prefix p) (writer_prefix p)
              (AckNack (ask_body hp.hears.is.entity h.writer_id x) ∷ []);
        } in
        let one : the ≡ d.due = is_alone the d.due among in
        let message : d.due.message ≡ ask_message p hp.hears.is.entity x =
        ap (λ (y : Due). y.message) (sym one)
        ∙ ap (λ (i : EntityId). message_to (reader_prefix p) (writer_prefix p)
        (AckNack (ask_body hp.hears.is.entity i x) ∷ [])) id in
        record {
          x = x;
          answer = e;
          writable = subst (λ (y : Message). IsWritable y) message d.writable;
          bytes = ap (λ (q : Packet). q.bytes) d.is ∙ ap (λ (y : Message). spelling_of y) message;
        }

    own : Contains hp.due d.due → HasAsked p h m old new dues hp ask
    own among = by hp.hears.answer refl (subst (λ (ds : List Due). Contains ds d.due) hp.hears.dues_are among)

-- ---- the HEARTBEATs of a tick

-- one of them tells the reader, which took it
pub record ToldPacket (p : Pairing) (contacts : ℕ → Endpoint → Contact) (part : Part) (m : Match) (old : State)
    (dues : List Due) (new : State) : Type 0 where
  pub reader_id : EntityId
  pub first : ℕ
  pub last : ℕ
  pub heard : Heard p (beat_of p.roster p.writer.peer part p.writer.number reader_id first last) m old dues new
  -- where the reader is not silent, of all changes
  pub whole : (contacts p.writer.number p.reader).silent ≡ false
      → last ≡ length (writer_changes (own_writer part p.writer.number))

-- none of them does: then the reader was not behind, and is as it was
pub record MissedPacket (p : Pairing) (part : Part) (old : State) (dues : List Due) (new : State) : Type 0 where
  pub spares : Spares (reader_host p) p.reader.number old dues new
  pub past : (a : ℕ) → acknowledged_of (own_writer part p.writer.number).readers p.reader ≡ Some a
      → length (writer_changes (own_writer part p.writer.number)) < a

module _ (how : Attachment) (met : is_attached how ≡ true) (p : Pairing) (contacts : ℕ → Endpoint → Contact)
    (part : Part) (m : Match) (old new : State) (moves : List Move) (dues : List Due)
    (seat : SeatAs how m p.writer p.reader.number old)
    (follows : FollowsMessage p.roster (reader_prefix p) p.reader.peer 1 (there p)
    (beats_to p.roster contacts p.writer.peer part p.writer.number p.reader.peer) old moves None dues new) where
  -- they are these
  abbrev beats : List Submessage
  beats = beats_to p.roster contacts p.writer.peer part p.writer.number p.reader.peer

  abbrev IsOne : HeartbeatBody → Type 0
  IsOne h = IsBeatOf p.roster contacts p.writer.peer part p.writer.number p.reader.peer h

  -- one that names a reader which is not silent is of all changes
  last_told : (id : EntityId) (first last : ℕ) → (contacts p.writer.number p.reader).silent ≡ false
      → Names id p.pair.reader_entity
      → IsToSome p.roster (contacts p.writer.number) (own_writer part p.writer.number) p.reader.peer id first last
      → last ≡ length (writer_changes (own_writer part p.writer.number))
  last_told id first last answered named (inl all) = all.2
  last_told id first last answered named (inr one) =
      let w : Writer = own_writer part p.writer.number in
      let same : p.reader ≡ one.0 =
      named_one p.roster p.reader.peer (reader_prefix p) (writer_prefix p) id (writer_id p) p.writer p.reader one.0
      p.checked one.1 one.2 (to_reader p id named).is_to in
      one.4
      ∙ (ap (λ (e : Endpoint). ends_at (contacts p.writer.number) w e) (sym same)
      ∙ ap (λ (b : Bool). if b then begins_at w p.reader - 1 else length (writer_changes w)) answered)

  told_packet : is_later (old.known.tracked p.writer p.reader.number).count
      (pos (heartbeats_used (own_writer part p.writer.number) + 1)) ≡ true
      → NamesFirst (reader_host p) (there p) p.reader.number p.pair.reader_entity IsOne beats
      → ToldPacket p contacts part m old dues new
  told_packet later f =
      let body : HeartbeatBody =
      beat_of p.roster p.writer.peer part p.writer.number f.body.reader_id f.body.first_sn f.body.last_sn in
      record {
        reader_id = f.body.reader_id;
        first = f.body.first_sn;
        last = f.body.last_sn;
        heard =
            hears_first how met (reader_host p) (there p) body m p.writer p.reader.number refl
            (to_reader p f.body.reader_id f.named) beats
            (beats_weaker IsOne (IsBeside body)
            (λ k is. (ap (λ (b : HeartbeatBody). b.writer_id) is.is, ap (λ (b : HeartbeatBody). b.count) is.is)) beats
            (beats_are p.roster contacts p.writer.peer part p.writer.number p.reader.peer))
            (subst (λ (b : HeartbeatBody). IsFirstTo (reader_host p) (there p) p.reader.number b beats) f.is.is f.first)
            1 old moves dues new seat later follows;
        whole = λ answered. last_told f.body.reader_id f.body.first_sn f.body.last_sn answered f.named f.is.whom;
      }

  missed_packet : AreBeats (IsUnnamed p.pair.reader_entity) beats → MissedPacket p part old dues new
  missed_packet none = record {
    spares =
        beats_passed (reader_host p) (there p) p.reader.number 1 beats old moves dues new seat.rows
        (beats_weaker (IsUnnamed p.pair.reader_entity) (IsPassed (reader_host p) (there p) p.reader.number old)
        (λ k other w to. absurd (not_named (reader_host p) (there p) p.reader.number p.pair.reader_entity
        p.pair.is_reader k other w to)) beats none)
        follows;
    past = λ a row.
        ⊎_elim (λ past. past)
        (λ behind.
        let beat = named_beat p.roster contacts p.writer.peer part p.writer.number p.reader a row behind in
        let entity =
        reader_entity_is p.roster (reader_prefix p) p.pair.reader_entity p.reader p.pair.is_reader in
        absurd (beat_among (IsUnnamed p.pair.reader_entity) beats beat.body none beat.among
        (subst (λ (e : EntityId). Names beat.body.reader_id e) entity beat.named)))
        (cases_lt (length (writer_changes (own_writer part p.writer.number))) a);
  }

  -- HEARTBEATs that are new tell the reader, or it was not behind
  pub told_or_missed : is_later (old.known.tracked p.writer p.reader.number).count
      (pos (heartbeats_used (own_writer part p.writer.number) + 1)) ≡ true
      → ToldPacket p contacts part m old dues new ⊎ MissedPacket p part old dues new
  told_or_missed later =
      ⊎_elim (λ f. inl (told_packet later f)) (λ none. inr (missed_packet none))
      (first_or_none (reader_host p) (there p) p.reader.number p.pair.reader_entity p.pair.is_reader IsOne beats
      (beats_are p.roster contacts p.writer.peer part p.writer.number p.reader.peer))

-- so it is where they are delivered in a packet
pub hears_beats : (how : Attachment) → is_attached how ≡ true → (p : Pairing) (contacts : ℕ → Endpoint → Contact)
    (tests : AllTests) (part : Part) (m : Match) (old : WorldState) (beat : Packet) (lost : ℕ) (new : WorldState)
    → IsWritable (beat_message p.roster contacts p.writer.peer part p.writer.number p.reader.peer)
    → beat.bytes ≡ spelling_of (beat_message p.roster contacts p.writer.peer part p.writer.number p.reader.peer)
    → (h : Delivers p.roster tests old p.reader.peer beat lost new)
    → SeatAs how m p.writer p.reader.number (state_of (peer_at old p.reader.peer))
    → is_later ((peer_at old p.reader.peer).known.tracked p.writer p.reader.number).count
    (pos (heartbeats_used (own_writer part p.writer.number) + 1)) ≡ true
    → ToldPacket p contacts part m (state_of (peer_at old p.reader.peer)) h.step.dues
    (state_of (peer_at new p.reader.peer))
    ⊎ MissedPacket p part (state_of (peer_at old p.reader.peer)) h.step.dues (state_of (peer_at new p.reader.peer))
hears_beats how met p contacts tests part m old beat lost new writable bytes h seat later =
    told_or_missed how met p contacts part m (state_of (peer_at old p.reader.peer))
    (state_of (peer_at new p.reader.peer)) on.moves h.step.dues seat on.follows later
  where
    on : FollowsOn p.roster (reader_prefix p) p.reader.peer 1 (there p)
        (beats_to p.roster contacts p.writer.peer part p.writer.number p.reader.peer)
        (state_of (peer_at old p.reader.peer)) h.step.dues (state_of (peer_at new p.reader.peer))
    on =
        read_addressed p.roster (reader_prefix p) p.reader.peer refl (writer_prefix p) (reader_prefix p)
        (beats_to p.roster contacts p.writer.peer part p.writer.number p.reader.peer)
        (state_of (peer_at old p.reader.peer)) h.report h.step.dues (state_of (peer_at new p.reader.peer)) writable
        h.whole
        (subst (λ (b : List ℕ). TakesPacket p.roster p.reader.peer b
        (state_of (peer_at old p.reader.peer)) h.report h.step.dues (state_of (peer_at new p.reader.peer))) bytes
        (delivered_takes p.roster tests old p.reader.peer beat lost new h))
