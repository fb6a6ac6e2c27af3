-- A HEARTBEAT that begins a round is answered by an ACKNACK.
use Rattle.std.proofs.Common.{◌≡◌, ℕ, ◌^◌, ◌-◌, ◌<◌, ◌≤◌, false, List, [], ◌∷◌, Option, Some, None, Contains, length, refl, subst, ap, sym, inl, inr, arith}
use Rattle.dds_protocol.specs.Roster.{IsRoster, Roster}
use Rattle.rtps_reader.specs.declared.step.AckNackDue.{AckNackDue}
use Rattle.rtps_reader.specs.Answer.{AnswersHeartbeat}
use Rattle.rtps_wire.specs.declared.submessage.Submessage.TheVariants.{AckNack}
use Rattle.rtps_wire.specs.declared.seek.Sought.TheVariants as sought
use Rattle.rtps_wire.specs.Messages.{IsWritable, spelling_of}
use Rattle.rtps_wire.specs.Sought.{Has}
use Rattle.dds_base.specs.declared.endpoint.Endpoint.{Endpoint}
use Rattle.dds_protocol.specs.declared.event.Packet.{Packet}
use Rattle.dds_machine.specs.Part.{Writer, writer_changes}
use Rattle.dds_machine.specs.Machine.{AllTests, writer_at}
use Rattle.dds_protocol.specs.DueMessages.{Due, acknacks_due, writer_entity}
use Rattle.dds_protocol.specs.World.{WorldState, machine_of, Sound}
use Rattle.dds_protocol.specs.Bounds.{IsBounded}
use Rattle.dds_protocol.specs.Fresh.{HasAckNack, HasUsedCounts, acknacks_used_at}
use Rattle.dds_protocol.specs.Repair.{BeginsRound, IsPair, StandsAt, HasAskOf}
use Rattle.dds_protocol.proofs.CountsWritten.{contains_map}
use Rattle.dds_protocol.proofs.Dues.{message_to, stands_in}
use Rattle.dds_protocol.proofs.DuesAcknacks.{ask_body}
use Rattle.dds_protocol.proofs.PairAnswered.{asking, post, all_sent, due_writable}
use Rattle.dds_protocol.proofs.PairBegun.{Begun, the_begun, writer_is, pairing, Told, told_of, body, hears, heard_of, the_last, acknacks, packet, place_heard}
use Rattle.dds_protocol.proofs.PairHeard.{writer_prefix, reader_prefix, back}
use Rattle.dds_protocol.proofs.PairReader.{reader_entities}

-- that of the reader
abbrev pub ask_due : {c : Begun} → Told c → AckNackDue → Due
ask_due {c} t x = record {
  to = c.writer.peer;
  message =
      message_to (reader_prefix (pairing c)) (writer_prefix (pairing c))
      (AckNack (ask_body (hears t).is.entity (body t).writer_id x) ∷ []);
}

-- where that can be written, it has the ACKNACK of the reader to the writer
pub is_ask : {c : Begun} → (t : Told c) (x : AckNackDue) → IsWritable (ask_due t x).message
    → HasAckNack c.roster (spelling_of (ask_due t x).message) c.writer c.reader x.count
is_ask {c} t x writable = record {
  own = writer_prefix (pairing c);
  at = back (pairing c);
  acknack = ask_body (hears t).is.entity (body t).writer_id x;
  there =
      stands_in (ask_due t x).message (writer_prefix (pairing c)) 1 (back (pairing c))
      (AckNack (ask_body (hears t).is.entity (body t).writer_id x)) writable (refl, refl);
  is_to = (asking (pairing c) (body t).reader_id (hears t).is x).is_to;
  same_count = refl;
}

-- it is among the packets that are sent, where none is lost
ask_is_sent : {c : Begun} → (t : Told c) → c.begins.lost_asks ≡ 0 → (x : AckNackDue) → (hears t).answer ≡ Some x
    → HasAskOf c.roster c.writer c.reader c.begins.hears.step.packets
ask_is_sent {c} t none x is = record {
  packet = post (ask_due t x);
  among = posted;
  to = refl;
  count = x.count;
  has = is_ask t x writable;
}
  where
    own : Contains (packet t).due (ask_due t x)
    own =
        subst (λ (ds : List Due). Contains ds (ask_due t x)) (sym (hears t).dues_are)
        (subst (λ (o : Option AckNackDue). Contains
        (acknacks_due (reader_prefix (pairing c)) (writer_prefix (pairing c)) c.writer.peer (hears t).is.entity
        (body t).writer_id o) (ask_due t x)) (sym is) (0, omega arith, refl))

    due : Contains c.begins.hears.step.dues (ask_due t x)
    due = (packet t).among (ask_due t x) own

    posted : Contains c.begins.hears.step.packets (post (ask_due t x))
    posted =
        subst (λ (ps : List Packet). Contains ps (post (ask_due t x)))
        (sym (all_sent c.begins.hears.step.dues c.begins.hears.step.packets c.begins.lost_asks none
        c.begins.hears.step.are_sent))
        (contains_map post c.begins.hears.step.dues (ask_due t x) due)

    writable : IsWritable (ask_due t x).message
    writable =
        due_writable c.begins.hears.step.dues c.begins.hears.step.packets c.begins.lost_asks (ask_due t x) none
        c.begins.hears.step.are_sent due

answered_by : {c : Begun} → (t : Told c) → the_last c < 2 ^ 62 → acknacks_used_at c.old c.writer c.reader < 2 ^ 31 - 1
    → (a : Option AckNackDue) → (hears t).answer ≡ a → AnswersHeartbeat (heard_of t) (body t).last_sn false a
    → (x : AckNackDue) × ((hears t).answer ≡ Some x)
answered_by t few left None is (inl (inl far)) = let le = place_heard t in absurd (omega (arith, few, le, far))
answered_by t few left None is (inl (inr used)) = let same = acknacks t in absurd (omega (arith, left, used, same))
answered_by t few left None is (inr h) = let no = h.0 in absurd cc
answered_by t few left (Some x) is h = (x, is)

-- So it is also found where it is looked for by the entity ids of the two.
pub asks_found : {c : Begun} → Told c → the_last c < 2 ^ 62 → acknacks_used_at c.old c.writer c.reader < 2 ^ 31 - 1
    → c.begins.lost_asks ≡ 0
    → (p : Packet) × Contains c.begins.hears.step.packets p × (p.to ≡ c.writer.peer)
    × Has p.bytes (sought.AckNack c.pair.reader_entity (writer_entity c.roster c.writer.peer c.writer.number))
unfolding ask_is_sent is_ask stands_in
asks_found {c} t few left none =
    let found = answered_by t few left (hears t).answer refl (hears t).answers in
    let sent = ask_is_sent t none found.0 found.1 in
    let entity : (hears t).is.entity ≡ c.pair.reader_entity =
    reader_entities c.roster (reader_prefix (pairing c)) (reader_prefix (pairing c))
    (hears t).is.entity c.pair.reader_entity c.reader (hears t).is.to c.pair.is_reader in
    let has : Has sent.packet.bytes
    (sought.AckNack c.pair.reader_entity (writer_entity c.roster c.writer.peer c.writer.number)) = record {
      message = sent.has.there.message;
      offset = sent.has.there.offset;
      is_read = sent.has.there.is_read;
      has = (AckNack (ask_body (hears t).is.entity (body t).writer_id found.0), (1, omega arith, refl), (entity, refl));
    } in
    (sent.packet, sent.among, sent.to, has)

pub asks_are_sent : (roster : Roster) (tests : AllTests) (writer reader : Endpoint) (place acknowledged : ℕ)
    (old heard : WorldState) → IsRoster roster → Sound roster old → HasUsedCounts roster old
    → IsBounded (machine_of old) → IsPair roster writer reader → StandsAt old writer reader place acknowledged
    → acknowledged ≤ length (writer_changes (writer_at (machine_of old) writer))
    → length (writer_changes (writer_at (machine_of old) writer)) < 2 ^ 62
    → acknacks_used_at old writer reader < 2 ^ 31 - 1
    → (begins : BeginsRound roster tests writer reader old heard) → begins.lost_asks ≡ 0
    → HasAskOf roster writer reader begins.hears.step.packets
asks_are_sent roster tests writer reader place acknowledged old heard checked sound used bounded pair stands behind few
    left begins none =
    let c : Begun =
    the_begun roster tests writer reader place acknowledged old heard checked sound used bounded pair stands begins in
    let last : length (writer_changes (writer_at (machine_of old) writer)) ≡ the_last c =
    ap (λ (w : Writer). length (writer_changes w)) (writer_is old writer) in
    let t : Told c = told_of c (omega (arith, behind, last)) in
    let found = answered_by t (omega (arith, few, last)) left (hears t).answer refl (hears t).answers in
    ask_is_sent t none found.0 found.1
