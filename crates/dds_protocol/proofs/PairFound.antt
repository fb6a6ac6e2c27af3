-- The HEARTBEAT and the ACKNACK of a round, as they are looked for among the packets that were sent.
use Rattle.std.proofs.Common.{◌≡◌, ℕ, zero, suc, ℤ, List, [], ◌∷◌, Option, Some, None, Contains, refl, subst, ap, sym, ◌∙◌, ⊎_elim, arith}
use Rattle.std.specs.List.{All}
use Rattle.std.proofs.lemmas.List.Elements.{All-contains}
use Rattle.dds_protocol.specs.Roster.{Roster}
use Rattle.dds_base.specs.declared.guid.EntityId.{EntityId}
use Rattle.dds_base.specs.declared.guid.GuidPrefix.{GuidPrefix}
use Rattle.rtps_reader.specs.declared.step.AckNackDue.{AckNackDue}
use Rattle.rtps_wire.specs.declared.heartbeat.Heartbeat.{Heartbeat as HeartbeatBody}
use Rattle.rtps_wire.specs.declared.message.Message.{Message}
use Rattle.rtps_wire.specs.declared.seek.Sought.{Sought}
use Rattle.rtps_wire.specs.declared.seek.Sought.TheVariants as sought
use Rattle.rtps_wire.specs.declared.submessage.Submessage.{Submessage}
use Rattle.rtps_wire.specs.declared.submessage.Submessage.TheVariants.{InfoDst, Heartbeat}
use Rattle.rtps_wire.specs.Messages.{IsWritable, spelling_of}
use Rattle.rtps_wire.specs.Sought.{IsSought, HasSought, Has}
use Rattle.dds_base.specs.declared.endpoint.Endpoint.{Endpoint}
use Rattle.dds_protocol.specs.declared.event.Packet.{Packet}
use Rattle.dds_machine.specs.declared.event.WorldEvent.TheVariants as world
use Rattle.dds_machine.specs.declared.reply.Reply.TheVariants.{Done, Reported}
use Rattle.dds_machine.specs.Part.{Part}
use Rattle.dds_protocol.specs.Claims.{Receiver, receiver_of, after_submessage, StandsAt, IsWriter}
use Rattle.dds_protocol.specs.Dues.{IsPartOf}
use Rattle.dds_machine.specs.Machine.{AllTests}
use Rattle.dds_machine.specs.Numbered.{HasNumber}
use Rattle.dds_protocol.specs.Contact.{Contact}
use Rattle.dds_protocol.specs.DueMessages.{Due, writer_entity, heartbeats_due, acknacks_due}
use Rattle.dds_protocol.specs.World.{WorldState, peer_at}
use Rattle.dds_protocol.specs.Backed.{reader_at}
use Rattle.dds_protocol.specs.Fresh.{HasHeartbeat, HasAckNack}
use Rattle.dds_protocol.specs.Rules.{RuledStep}
use Rattle.dds_protocol.proofs.BeatsTo.{IsBeatOf, beat_message, beat_stands, beats_are, beats_to}
use Rattle.dds_protocol.proofs.Composed.{front_or_rest, is_alone, later_in}
use Rattle.dds_protocol.proofs.Dues.{addressed, read_again, stands_in}
use Rattle.dds_protocol.proofs.DuesHeartbeats.{of_all}
use Rattle.dds_protocol.proofs.DuesMatched.{own_name}
use Rattle.dds_protocol.proofs.FreshCounts.{IsWrittenOf, sent_written}
use Rattle.dds_protocol.proofs.OneName.{one_reader}
use Rattle.dds_protocol.proofs.PairAsks.{ask_due, is_ask}
use Rattle.dds_protocol.proofs.PairBegun.{noted_tick, Begun, Told, Missed, met, pairing, body, hears, packet}
use Rattle.dds_protocol.proofs.PairHeard.{writer_prefix, reader_prefix, reader_host}
use Rattle.dds_protocol.proofs.PairTurns.{OfOther}
use Rattle.std.proofs.lemmas.Option.{same_Some}

-- what is looked for in a written message is among its submessages
sought_again : (wanted : Sought) (message : Message) → IsWritable message → Has (spelling_of message) wanted
    → HasSought wanted message.submessages
sought_again wanted message writable h =
    subst (λ (m : Message). HasSought wanted m.submessages)
    (read_again message h.message h.offset writable h.is_read) h.has

-- ---- the HEARTBEAT

-- a message in which a HEARTBEAT of this writer is looked for has one of it
record IsFoundBeat (roster : Roster) (writer : Endpoint) (due : Due) : Type 0 where
  found : IsWritable due.message
      → HasSought (sought.Heartbeat (writer_entity roster writer.peer writer.number)) due.message.submessages
      → (count : ℤ) × HasHeartbeat roster (spelling_of due.message) writer count

beats_found : (roster : Roster) (contacts : ℕ → Endpoint → Contact) (part : Part) (writer : Endpoint)
    → IsPartOf roster writer.peer part → HasNumber part.rtps.writers writer.number
    → All (IsFoundBeat roster writer) (heartbeats_due roster contacts writer.peer part)
beats_found roster contacts part writer of here =
    of_all roster contacts writer.peer part (IsFoundBeat roster writer)
    (λ number to there left behind. record {
      found = λ writable has. from_sought number to writable has.0 has.1 has.2;
    })
  where
    from_beat : (number to : ℕ) → IsWritable (beat_message roster contacts writer.peer part number to)
        → (h : HeartbeatBody) → Contains (beats_to roster contacts writer.peer part number to) (Heartbeat h)
        → h.writer_id ≡ writer_entity roster writer.peer writer.number
        → (count : ℤ)
        × HasHeartbeat roster (spelling_of (beat_message roster contacts writer.peer part number to)) writer count
    from_beat number to writable h among is =
        let stands =
        beat_stands (IsBeatOf roster contacts writer.peer part number to) (roster.prefix writer.peer)
        (roster.prefix to) (roster.prefix to) (beats_to roster contacts writer.peer part number to) (Heartbeat h)
        (beats_are roster contacts writer.peer part number to) among in (
          h.count,
          record {
            own = roster.prefix to;
            at = addressed (roster.prefix writer.peer) (roster.prefix to);
            heartbeat = h;
            there =
                stands_in (beat_message roster contacts writer.peer part number to) (roster.prefix to) stands.0
                (addressed (roster.prefix writer.peer) (roster.prefix to)) (Heartbeat h) writable stands.1;
            from =
                subst (λ (i : EntityId). IsWriter roster (roster.prefix writer.peer) i writer) (sym is)
                (own_name roster writer.peer part of writer.number here).name;
            same_count = refl;
          },
        )

    from_sought : (number to : ℕ) → IsWritable (beat_message roster contacts writer.peer part number to)
        → (s : Submessage)
        → Contains (InfoDst (roster.prefix to) ∷ beats_to roster contacts writer.peer part number to) s
        → IsSought (sought.Heartbeat (writer_entity roster writer.peer writer.number)) s
        → (count : ℤ)
        × HasHeartbeat roster (spelling_of (beat_message roster contacts writer.peer part number to)) writer count
    from_sought number to writable (Heartbeat h) among is =
        ⊎_elim (λ first. absurd cc) (λ later. from_beat number to writable h later is)
        (front_or_rest (InfoDst (roster.prefix to)) (beats_to roster contacts writer.peer part number to)
        (Heartbeat h) among.0 among.1 among.2)
    from_sought number to writable other among is = absurd is

-- one that a tick sent is that of the writer
pub beat_found : (roster : Roster) (tests : AllTests) (old : WorldState) (now lost : ℕ) (new : WorldState)
    (writer : Endpoint) (packet : Packet)
    → IsPartOf roster writer.peer (peer_at old writer.peer).part
    → HasNumber (peer_at old writer.peer).part.rtps.writers writer.number
    → (h : RuledStep roster tests old (world.Tick writer.peer now) Done lost new) → Contains h.packets packet
    → Has packet.bytes (sought.Heartbeat (writer_entity roster writer.peer writer.number))
    → (count : ℤ) × HasHeartbeat roster packet.bytes writer count
beat_found roster tests old now lost new writer packet of here h among has =
    let r =
    each.found d.writable
    (sought_again (sought.Heartbeat (writer_entity roster writer.peer writer.number)) d.due.message d.writable
    (subst (λ (p : Packet). Has p.bytes (sought.Heartbeat (writer_entity roster writer.peer writer.number))) d.is
    has)) in
    (r.0, subst (λ (p : Packet). HasHeartbeat roster p.bytes writer r.0) (sym d.is) r.1)
  where
    d : IsWrittenOf h.dues packet
    d = sent_written roster tests old (world.Tick writer.peer now) Done lost new h packet among

    contacts : ℕ → Endpoint → Contact
    contacts = (peer_at old writer.peer).known.answered

    each : IsFoundBeat roster writer d.due
    each =
        All-contains (IsFoundBeat roster writer)
        (heartbeats_due roster contacts writer.peer (peer_at old writer.peer).part) d.due
        (beats_found roster contacts (peer_at old writer.peer).part writer of here)
        (subst (λ (ds : List Due). Contains ds d.due) h.due d.among)

-- a packet with a HEARTBEAT of the writer is found where it is looked for by the entity id
pub beat_sought : (roster : Roster) (writer : Endpoint) (bytes : List ℕ) (count : ℤ) (prefix : GuidPrefix)
    (entity : EntityId) → IsWriter roster prefix entity writer → HasHeartbeat roster bytes writer count
    → Has bytes (sought.Heartbeat entity)
beat_sought roster writer bytes count prefix entity name h = record {
  message = h.there.message;
  offset = h.there.offset;
  is_read = h.there.is_read;
  has = (
    Heartbeat h.heartbeat,
    stands_among h.own (receiver_of h.there.message.prefix) h.there.message.submessages h.there.index h.at
        (Heartbeat h.heartbeat) h.there.stands,
    same_Some h.heartbeat.writer_id entity (sym h.from.at_writer ∙ name.at_writer),
  );
}
  where
    stands_among : (own : GuidPrefix) (from : Receiver) (ss : List Submessage) (index : ℕ) (at : Receiver)
        (x : Submessage) → StandsAt own from ss index at x → Contains ss x
    stands_among own from [] index at x k = absurd k
    stands_among own from (y ∷ ys) zero at x k = (0, omega arith, sym k.1)
    stands_among own from (y ∷ ys) (suc index) at x k =
        later_in y ys x (stands_among own (after_submessage own from y) ys index at x k)

-- ---- the ACKNACK

-- One in which an ACKNACK of the reader is looked for, of those that are sent when the HEARTBEAT is taken, has one of
-- it to the writer.
pub ask_found_among : (c : Begun) (ask : Packet) → Contains c.begins.hears.step.packets ask
    → Has ask.bytes (sought.AckNack c.pair.reader_entity (writer_entity c.roster c.writer.peer c.writer.number))
    → (count : ℤ) × HasAckNack c.roster ask.bytes c.writer c.reader count
ask_found_among c ask among has =
    ⊎_elim
    (λ (t : Told c). ⊎_elim (λ o. own t o) (λ o. absurd (not_other o)) ((packet t).each d.due d.among))
    (λ (m : Missed c). absurd (not_other (m.of.spares.others d.due d.among))) (met c)
  where
    wanted : Sought
    wanted = sought.AckNack c.pair.reader_entity (writer_entity c.roster c.writer.peer c.writer.number)

    d : IsWrittenOf c.begins.hears.step.dues ask
    d = sent_written c.roster c.tests (noted_tick c) (world.Deliver c.reader.peer c.begins.hears.number)
        (Reported c.begins.hears.report) c.begins.lost_asks c.heard c.begins.hears.step ask among

    there : HasSought wanted d.due.message.submessages
    there = sought_again wanted d.due.message d.writable (subst (λ (p : Packet). Has p.bytes wanted) d.is has)

    not_other : OfOther (reader_host (pairing c)) c.reader.number d.due → ⊥
    not_other o =
        let one =
        one_reader c.roster (reader_prefix (pairing c)) c.pair.reader_entity
        (reader_at c.reader.peer o.reader) c.reader c.checked
        (o.asks.named c.pair.reader_entity (writer_entity c.roster c.writer.peer c.writer.number) there)
        c.pair.is_reader in
        o.other (ap (λ (e : Endpoint). e.number) one)

    by : (t : Told c) (a : Option AckNackDue)
        → Contains (acknacks_due (reader_prefix (pairing c)) (writer_prefix (pairing c)) c.writer.peer
        (hears t).is.entity (body t).writer_id a) d.due
        → (count : ℤ) × HasAckNack c.roster ask.bytes c.writer c.reader count
    by t None among = let lt = among.1 in absurd (omega (arith, lt))
    by t (Some x) among =
        let due : Due = ask_due t x in
        let message : due.message ≡ d.due.message = ap (λ (y : Due). y.message) (is_alone due d.due among) in
        let bytes : ask.bytes ≡ spelling_of due.message =
        ap (λ (q : Packet). q.bytes) d.is ∙ ap (λ (m : Message). spelling_of m) (sym message) in (
          x.count,
          subst (λ (b : List ℕ). HasAckNack c.roster b c.writer c.reader x.count) (sym bytes)
              (is_ask t x (subst (λ (m : Message). IsWritable m) (sym message) d.writable)),
        )

    own : (t : Told c) → Contains (packet t).due d.due
        → (count : ℤ) × HasAckNack c.roster ask.bytes c.writer c.reader count
    own t o = by t (hears t).answer (subst (λ (ds : List Due). Contains ds d.due) (hears t).dues_are o)
