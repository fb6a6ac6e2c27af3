-- A tick sends each HEARTBEAT of a writer as one message, and leaves what its readers have and know.
use Rattle.std.proofs.Common.{◌≡◌, ◌⊎◌, ℕ, ℤ, pos, ◌+◌, ◌≤ℤ◌, Bool, true, false, List, Option, Some, None, Contains, length, refl, subst, ap, sym, ◌∙◌, inl, inr, ⊎_elim, arith, int_lt}
use Rattle.std.specs.List.{All}
use Rattle.std.proofs.lemmas.Int.{ints}
use Rattle.std.proofs.lemmas.List.Elements.{All-contains}
use Rattle.dds_protocol.specs.Roster.{IsRoster, Roster}
use Rattle.dds_base.specs.Counts.{is_later}
use Rattle.rtps_wire.specs.declared.heartbeat.Heartbeat.{Heartbeat as HeartbeatBody}
use Rattle.rtps_wire.specs.declared.message.Message.{Message}
use Rattle.rtps_wire.specs.Messages.{IsWritable, spelling_of}
use Rattle.dds_base.specs.declared.endpoint.Endpoint.{Endpoint}
use Rattle.dds_protocol.specs.declared.event.Event.TheVariants as event
use Rattle.dds_protocol.specs.declared.event.Packet.{Packet}
use Rattle.dds_machine.specs.declared.event.WorldEvent.TheVariants as world
use Rattle.dds_machine.specs.declared.reply.Reply.{Reply}
use Rattle.dds_machine.specs.declared.reply.Reply.TheVariants.{Done}
use Rattle.dds_machine.specs.Part.{Part, own_writer, writer_changes}
use Rattle.dds_machine.specs.Ticks.{TickStep}
use Rattle.dds_protocol.specs.Claims.{IsWriter, Receiver}
use Rattle.dds_protocol.specs.Dues.{IsPartOf}
use Rattle.dds_machine.specs.Machine.{AllTests}
use Rattle.dds_protocol.specs.Peer.{Peer, no_peer}
use Rattle.dds_protocol.specs.Contact.{Contact}
use Rattle.dds_protocol.specs.DueMessages.{Due, writer_entity, heartbeats_due, was_asked}
use Rattle.dds_machine.specs.Numbered.{HasNumber}
use Rattle.dds_protocol.specs.World.{WorldState, WorldStep, PeerSteps, peer_at}
use Rattle.dds_protocol.specs.Fresh.{HasHeartbeat}
use Rattle.dds_protocol.specs.Rules.{RuledStep}
use Rattle.dds_protocol.proofs.BeatsTo.{IsBeatOf, beat_message, beat_read, beats_are, beats_to}
use Rattle.dds_protocol.proofs.Contacts.{KnowsAlike, knows_same, tick_knows}
use Rattle.dds_protocol.proofs.DuesHeartbeats.{of_all}
use Rattle.dds_protocol.proofs.DuesMatched.{own_name}
use Rattle.dds_protocol.proofs.DuesParts.{tick_changes}
use Rattle.dds_protocol.proofs.FreshCounts.{IsWrittenOf, sent_written, known_of}
use Rattle.dds_protocol.proofs.Growth.{TickStep-grows, TickStep-rows, TickStep-readers, TickStep-acknowledged}
use Rattle.dds_protocol.proofs.OneName.{one_writer}
use Rattle.dds_machine.proofs.Tables.{numbered-cases}

-- a count that is above all that were taken is new
pub new_count : (o : Option ℤ) (n : ℕ) → ((count : ℤ) → o ≡ Some count → count ≤ℤ pos n)
    → is_later o (pos (n + 1)) ≡ true
new_count None n used = refl
new_count (Some last) n used = by (int_lt last (pos (n + 1))) refl
  where
    by : (b : Bool) → int_lt last (pos (n + 1)) ≡ b → int_lt last (pos (n + 1)) ≡ true
    by true e = e
    by false e = let low = used last refl in absurd (omega (arith, ints, low))

-- a message with a HEARTBEAT of a writer is that of the peer's writer
record HasBeatOf (roster : Roster) (contacts : ℕ → Endpoint → Contact) (peer : ℕ) (part : Part)
    (due : Due) : Type 0 where
  is : (w : Endpoint) (count : ℤ) → IsWritable due.message → HasHeartbeat roster (spelling_of due.message) w count
      → due.message ≡ beat_message roster contacts peer part w.number due.to

beats_of : (roster : Roster) (contacts : ℕ → Endpoint → Contact) (peer : ℕ) (part : Part)
    → IsRoster roster → IsPartOf roster peer part
    → All (HasBeatOf roster contacts peer part) (heartbeats_due roster contacts peer part)
beats_of roster contacts peer part checked of =
    of_all roster contacts peer part (HasBeatOf roster contacts peer part)
    (λ number to there left behind. record {
      is = λ w count writable has.
          let me : Endpoint = record { peer = peer; number = number } in
          let found =
          beat_read (IsBeatOf roster contacts peer part number to) (roster.prefix peer) (roster.prefix to) has.own
          has.at (beats_to roster contacts peer part number to) has.heartbeat
          (beats_are roster contacts peer part number to) writable has.there in
          let from : IsWriter roster (roster.prefix peer) (writer_entity roster peer number) w =
          subst (λ (r : Receiver). IsWriter roster r.source_guid_prefix (writer_entity roster peer number) w) found.0
          (subst (λ (h : HeartbeatBody). IsWriter roster has.at.source_guid_prefix h.writer_id w) found.1.is
          has.from) in
          let same : w ≡ me =
          one_writer roster (roster.prefix peer) (writer_entity roster peer number) w me checked from
          (own_name roster peer part of number there).name in
          ap (λ (e : Endpoint). beat_message roster contacts peer part e.number to) (sym same);
    })

-- a packet with a HEARTBEAT of the writer, as it is written
pub record BeatPacket (roster : Roster) (contacts : ℕ → Endpoint → Contact) (part : Part) (writer : Endpoint)
    (packet : Packet) : Type 0 where
  pub writable : IsWritable (beat_message roster contacts writer.peer part writer.number packet.to)
  pub bytes : packet.bytes ≡ spelling_of (beat_message roster contacts writer.peer part writer.number packet.to)

pub beat_packet : (roster : Roster) (tests : AllTests) (old : WorldState) (now lost : ℕ) (new : WorldState)
    (writer : Endpoint) (packet : Packet) (count : ℤ) → IsRoster roster
    → IsPartOf roster writer.peer (peer_at old writer.peer).part
    → (h : RuledStep roster tests old (world.Tick writer.peer now) Done lost new)
    → Contains h.packets packet → HasHeartbeat roster packet.bytes writer count
    → BeatPacket roster (peer_at old writer.peer).known.answered (peer_at old writer.peer).part writer packet
beat_packet roster tests old now lost new writer packet count checked of h among has =
    record {
      writable = subst (λ (m : Message). IsWritable m) message d.writable;
      bytes = ap (λ (p : Packet). p.bytes) d.is ∙ ap (λ (m : Message). spelling_of m) message;
    }
  where
    part : Part
    part = (peer_at old writer.peer).part

    contacts : ℕ → Endpoint → Contact
    contacts = (peer_at old writer.peer).known.answered

    d : IsWrittenOf h.dues packet
    d = sent_written roster tests old (world.Tick writer.peer now) Done lost new h packet among

    is_beat : HasBeatOf roster contacts writer.peer part d.due
    is_beat =
        All-contains (HasBeatOf roster contacts writer.peer part) (heartbeats_due roster contacts writer.peer part)
        d.due (beats_of roster contacts writer.peer part checked of)
        (subst (λ (ds : List Due). Contains ds d.due) h.due d.among)

    message : d.due.message ≡ beat_message roster contacts writer.peer part writer.number packet.to
    message =
        is_beat.is writer count d.writable (subst (λ (p : Packet). HasHeartbeat roster p.bytes writer count) d.is has)
        ∙ ap (λ (p : Packet). beat_message roster contacts writer.peer part writer.number p.to) (sym d.is)

-- what a tick leaves at each peer
pub record TickLeaves (old new : WorldState) (p : ℕ) : Type 0 where
  pub known : KnowsAlike (peer_at old p).known (peer_at new p).known
  pub rows : (peer_at new p).part.rtps.readers ≡ (peer_at old p).part.rtps.readers
  pub readers : length (peer_at new p).part.dds.readers ≡ length (peer_at old p).part.dds.readers
  pub changes : (k : ℕ) → writer_changes (own_writer (peer_at new p).part k)
      ≡ writer_changes (own_writer (peer_at old p).part k)
  pub acknowledged : (k : ℕ) → (own_writer (peer_at new p).part k).readers ≡ (own_writer (peer_at old p).part k).readers
  pub values : (k : ℕ) → (own_writer (peer_at new p).part k).max_value ≡ (own_writer (peer_at old p).part k).max_value

leaves_all : (old new : WorldState) (p : ℕ) → peer_at new p ≡ peer_at old p → TickLeaves old new p
leaves_all old new p same = record {
  known = knows_same (peer_at old p).known (peer_at new p).known (ap (λ (x : Peer). x.known) same);
  rows = ap (λ (x : Peer). x.part.rtps.readers) same;
  readers = ap (λ (x : Peer). length x.part.dds.readers) same;
  changes = λ k. ap (λ (x : Peer). writer_changes (own_writer x.part k)) same;
  acknowledged = λ k. ap (λ (x : Peer). (own_writer x.part k).readers) same;
  values = λ k. ap (λ (x : Peer). (own_writer x.part k).max_value) same;
}

steps_leave : (roster : Roster) (tests : AllTests) (old : WorldState) (peer now : ℕ) (new : WorldState)
    → (h : PeerSteps roster (tests peer) old peer (event.Tick now) Done new) → (p : ℕ)
    → (peer_at new p ≡ peer_at old p) ⊎ ((p ≡ peer) × (peer_at new p ≡ h.after)) → TickLeaves old new p
steps_leave roster tests old peer now new h p (inl e) = leaves_all old new p e
steps_leave roster tests old peer now new h p (inr s) =
    let step : TickStep (peer_at old p).part now Done h.after.part =
    subst (λ (n : ℕ). TickStep (peer_at old n).part now Done h.after.part) (sym s.0)
    (subst (λ (r : Reply). TickStep (peer_at old peer).part now r h.after.part) h.replies
    (was_asked (peer_at old peer).known.answered (peer_at old peer).part, h.step.step.0)) in
    record {
      known =
          known_of roster (tests peer) old peer (event.Tick now) Done new h
          (tick_knows (peer_at old peer) now h.output.reply h.after h.step.knows) p;
      rows = ap (λ (x : Peer). x.part.rtps.readers) s.1 ∙ TickStep-rows (peer_at old p).part now Done h.after.part step;
      readers =
          ap (λ (x : Peer). length x.part.dds.readers) s.1
          ∙ TickStep-readers (peer_at old p).part now Done h.after.part step;
      changes =
          λ k. ap (λ (x : Peer). writer_changes (own_writer x.part k)) s.1
          ∙ tick_changes (peer_at old p).part now Done h.after.part step k;
      acknowledged =
          λ k. ap (λ (x : Peer). (own_writer x.part k).readers) s.1
          ∙ TickStep-acknowledged (peer_at old p).part now Done h.after.part step k;
      values =
          λ k. ap (λ (x : Peer). (own_writer x.part k).max_value) s.1
          ∙ ((TickStep-grows (peer_at old p).part now Done h.after.part step).writers k).values;
    }

pub tick_leaves : (roster : Roster) (tests : AllTests) (old : WorldState) (peer now : ℕ) (new : WorldState)
    → WorldStep roster tests old (world.Tick peer now) Done new → (p : ℕ) → TickLeaves old new p
tick_leaves roster tests old peer now new (inl h) p =
    steps_leave roster tests old peer now new h p
    (⊎_elim (λ e. inl (ap (λ (x : WorldState). peer_at x p) h.changed ∙ e))
    (λ s. inr (s.0, ap (λ (x : WorldState). peer_at x p) h.changed ∙ s.1))
    (numbered-cases old.peers peer h.after p no_peer))
tick_leaves roster tests old peer now new (inr h) p = let r = h.1.is_refused in absurd cc

-- the peer that ticks is there
pub ticks_there : (roster : Roster) (tests : AllTests) (old : WorldState) (peer now : ℕ) (new : WorldState)
    → WorldStep roster tests old (world.Tick peer now) Done new → HasNumber old.peers peer
ticks_there roster tests old peer now new (inl h) = h.within
ticks_there roster tests old peer now new (inr h) = let r = h.1.is_refused in absurd cc
