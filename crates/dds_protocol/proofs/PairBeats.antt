-- A tick sends a HEARTBEAT to the peer of each reader that is behind.
use Rattle.std.proofs.Common.{◌≡◌, ℕ, zero, suc, ◌+◌, ◌-◌, ◌^◌, ◌<◌, ◌≤◌, Bool, true, false, nat_lt, List, [], ◌∷◌, Some, Contains, length, map, get_or, refl, subst, ap, sym, arith}
use Rattle.std.specs.Prelude.{if◌then◌else◌}
use Rattle.std.proofs.lemmas.Bool.Decides.{nat_tests}
use Rattle.std.proofs.lemmas.List.Elements.{Contains-append_left, Contains-append_right}
use Rattle.dds_protocol.specs.Roster.{IsRoster, Roster}
use Rattle.rtps_wire.specs.declared.heartbeat.Heartbeat.{Heartbeat as HeartbeatBody}
use Rattle.rtps_wire.specs.declared.submessage.Submessage.TheVariants.{Heartbeat}
use Rattle.rtps_wire.specs.Messages.{IsWritable}
use Rattle.dds_base.specs.declared.endpoint.Endpoint.{Endpoint}
use Rattle.dds_protocol.specs.declared.event.Packet.{Packet}
use Rattle.dds_machine.specs.declared.event.WorldEvent.TheVariants as world
use Rattle.dds_machine.specs.declared.reply.Reply.TheVariants.{Done}
use Rattle.dds_machine.specs.Numbered.{HasNumber}
use Rattle.dds_machine.specs.Part.{Part, Writer, no_writer, own_writer, acknowledged_of, peers_of, writer_changes, heartbeats_used}
use Rattle.dds_protocol.specs.Claims.{IsWriter, StandsAt, receiver_of}
use Rattle.dds_protocol.specs.Dues.{IsPartOf}
use Rattle.dds_machine.specs.Machine.{AllTests, writer_at}
use Rattle.dds_protocol.specs.Contact.{Contact}
use Rattle.dds_protocol.specs.DueMessages.{Due, readers_told, heartbeats_of, heartbeats_from, heartbeats_due}
use Rattle.dds_protocol.specs.World.{WorldState, peer_at, machine_of}
use Rattle.dds_protocol.specs.Fresh.{HasUsedCounts, heartbeats_used_at}
use Rattle.dds_protocol.specs.Repair.{HasBeatTo}
use Rattle.dds_protocol.specs.Rules.{RuledStep}
use Rattle.dds_protocol.proofs.BeatsTo.{AreBeats, IsBeatOf, NamedBeat, beat_among, beat_stands, beats_are, beats_to, named_beat, reader_told}
use Rattle.dds_protocol.proofs.Composed.{parts_at}
use Rattle.dds_protocol.proofs.CountsWritten.{contains_map}
use Rattle.dds_protocol.proofs.Dues.{addressed, stands_in}
use Rattle.dds_protocol.proofs.DuesHeartbeats.{heartbeat_due}
use Rattle.dds_protocol.proofs.DuesMatched.{own_name}
use Rattle.dds_protocol.proofs.PairAnswered.{post, all_sent, due_writable}
use Rattle.dds_protocol.proofs.PairAsked.{has_writer}
use Rattle.dds_protocol.proofs.PeersOf.{peer_among}
use Rattle.dds_protocol.proofs.PairTicked.{ticks_there}

-- ---- what is due

due_of : (roster : Roster) (contacts : ℕ → Endpoint → Contact) (peer : ℕ) (part : Part) (number to : ℕ)
    → heartbeats_used (own_writer part number) < 2 ^ 31 - 1
    → Contains (peers_of (readers_told (contacts number) (own_writer part number))) to
    → Contains (heartbeats_of roster contacts peer number (own_writer part number))
    (heartbeat_due roster contacts peer part number to)
due_of roster contacts peer part number to low among =
    by (nat_lt (heartbeats_used (own_writer part number)) (2 ^ 31 - 1)) left
  where
    left : nat_lt (heartbeats_used (own_writer part number)) (2 ^ 31 - 1) ≡ true
    left = grind (arith, nat_tests)

    by : (b : Bool) → b ≡ true
        → Contains (if b then map (heartbeat_due roster contacts peer part number)
        (peers_of (readers_told (contacts number) (own_writer part number))) else [])
        (heartbeat_due roster contacts peer part number to)
    by true e =
        contains_map (heartbeat_due roster contacts peer part number)
        (peers_of (readers_told (contacts number) (own_writer part number))) to among
    by false e = cc

among_all : (roster : Roster) (contacts : ℕ → Endpoint → Contact) (peer number : ℕ) (ws : List Writer) (k : ℕ) (d : Due)
    → k < length ws
    → Contains (heartbeats_of roster contacts peer (number + k) (get_or ws k no_writer)) d
    → Contains (heartbeats_from roster contacts peer number ws) d
among_all roster contacts peer number [] k d lt h = absurd (omega (arith, lt))
among_all roster contacts peer number (w ∷ ws) zero d lt h =
    let here : number + 0 ≡ number = omega arith in
    Contains-append_left (heartbeats_of roster contacts peer number w)
    (heartbeats_from roster contacts peer (number + 1) ws) d
    (subst (λ (n : ℕ). Contains (heartbeats_of roster contacts peer n w) d) here h)
among_all roster contacts peer number (w ∷ ws) (suc k) d lt h =
    let over : number + suc k ≡ number + 1 + k = omega arith in
    Contains-append_right (heartbeats_of roster contacts peer number w)
    (heartbeats_from roster contacts peer (number + 1) ws) d
    (among_all roster contacts peer (number + 1) ws k d (omega (arith, lt))
    (subst (λ (n : ℕ). Contains (heartbeats_of roster contacts peer n (get_or ws k no_writer)) d) over h))

among_dues : (roster : Roster) (contacts : ℕ → Endpoint → Contact) (peer : ℕ) (part : Part) (number : ℕ) (d : Due)
    → HasNumber part.rtps.writers number
    → Contains (heartbeats_of roster contacts peer number (own_writer part number)) d
    → Contains (heartbeats_due roster contacts peer part) d
among_dues roster contacts peer part zero d has h = let low = has.0 in absurd (omega (arith, low))
among_dues roster contacts peer part (suc i) d has h =
    let high = has.1 in
    let number : suc i ≡ 1 + i = omega arith in
    among_all roster contacts peer 1 part.rtps.writers i d (omega (arith, high))
    (subst (λ (n : ℕ). Contains (heartbeats_of roster contacts peer n (get_or part.rtps.writers i no_writer)) d) number
    h)

-- ---- what is sent

pub beats_are_sent : (roster : Roster) (tests : AllTests) (writer reader : Endpoint) (acknowledged now : ℕ)
    (old new : WorldState) → IsRoster roster → HasUsedCounts roster old
    → acknowledged_of (writer_at (machine_of old) writer).readers reader ≡ Some acknowledged
    → acknowledged ≤ length (writer_changes (writer_at (machine_of old) writer))
    → heartbeats_used_at old writer < 2 ^ 31 - 1
    → (step : RuledStep roster tests old (world.Tick writer.peer now) Done 0 new)
    → HasBeatTo roster writer reader.peer step.packets
beats_are_sent roster tests writer reader acknowledged now old new checked used row behind left step = record {
  packet = post due;
  among =
      subst (λ (ps : List Packet). Contains ps (post due)) (sym (all_sent step.dues step.packets 0 refl step.are_sent))
      (contains_map post step.dues due is_due);
  to = refl;
  count = beat.body.count;
  has = record {
    own = roster.prefix reader.peer;
    at = addressed (roster.prefix writer.peer) (roster.prefix reader.peer);
    heartbeat = beat.body;
    there =
        stands_in due.message (roster.prefix reader.peer) stands.0
        (addressed (roster.prefix writer.peer) (roster.prefix reader.peer)) (Heartbeat beat.body) writable
        stands.1;
    from =
        subst (λ (h : HeartbeatBody). IsWriter roster (roster.prefix writer.peer) h.writer_id writer)
        (sym is_beat.is)
        (own_name roster writer.peer part of writer.number here).name;
    same_count = refl;
  };
}
  where
    part : Part
    part = (peer_at old writer.peer).part

    contacts : ℕ → Endpoint → Contact
    contacts = (peer_at old writer.peer).known.answered

    same : writer_at (machine_of old) writer ≡ own_writer part writer.number
    same = ap (λ (p : Part). own_writer p writer.number) (parts_at old writer.peer)

    row' : acknowledged_of (own_writer part writer.number).readers reader ≡ Some acknowledged
    row' = subst (λ (w : Writer). acknowledged_of w.readers reader ≡ Some acknowledged) same row

    behind' : acknowledged ≤ length (writer_changes (own_writer part writer.number))
    behind' = subst (λ (w : Writer). acknowledged ≤ length (writer_changes w)) same behind

    left' : heartbeats_used (own_writer part writer.number) < 2 ^ 31 - 1
    left' = subst (λ (w : Writer). heartbeats_used w < 2 ^ 31 - 1) same left

    of : IsPartOf roster writer.peer part
    of = used.of_roster writer.peer (ticks_there roster tests old writer.peer now new step.step)

    here : HasNumber part.rtps.writers writer.number
    here = has_writer part writer.number reader (acknowledged, row')

    due : Due
    due = heartbeat_due roster contacts writer.peer part writer.number reader.peer

    is_due : Contains step.dues due
    is_due =
        subst (λ (ds : List Due). Contains ds due) (sym step.due)
        (among_dues roster contacts writer.peer part writer.number due here
        (due_of roster contacts writer.peer part writer.number reader.peer left'
        (peer_among (readers_told (contacts writer.number) (own_writer part writer.number)) reader
        (reader_told (contacts writer.number) (own_writer part writer.number) reader acknowledged row' behind'))))

    writable : IsWritable due.message
    writable = due_writable step.dues step.packets 0 due refl step.are_sent is_due

    beats : AreBeats (IsBeatOf roster contacts writer.peer part writer.number reader.peer)
        (beats_to roster contacts writer.peer part writer.number reader.peer)
    beats = beats_are roster contacts writer.peer part writer.number reader.peer

    beat : NamedBeat roster contacts writer.peer part writer.number reader
    beat = named_beat roster contacts writer.peer part writer.number reader acknowledged row' behind'

    is_beat : IsBeatOf roster contacts writer.peer part writer.number reader.peer beat.body
    is_beat =
        beat_among (IsBeatOf roster contacts writer.peer part writer.number reader.peer)
        (beats_to roster contacts writer.peer part writer.number reader.peer) beat.body beats beat.among

    stands : (index : ℕ)
        × StandsAt (roster.prefix reader.peer) (receiver_of (roster.prefix writer.peer)) due.message.submessages
        index (addressed (roster.prefix writer.peer) (roster.prefix reader.peer)) (Heartbeat beat.body)
    stands =
        beat_stands (IsBeatOf roster contacts writer.peer part writer.number reader.peer) (roster.prefix writer.peer)
        (roster.prefix reader.peer) (roster.prefix reader.peer)
        (beats_to roster contacts writer.peer part writer.number reader.peer) (Heartbeat beat.body) beats beat.among
