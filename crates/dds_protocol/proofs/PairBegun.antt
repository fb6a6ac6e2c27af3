-- How a round of repair of a writer and a reader begins: the HEARTBEAT is taken, and the reader's place goes on.
use Rattle.std.proofs.Common.{◌≡◌, ℕ, pos, ◌+◌, ◌≤◌, ◌≤ℤ◌, true, List, [], Some, length, refl, subst, ap, sym, ◌∙◌, ◌⊎◌, inl, inr, ⊎_elim, arith}
use Rattle.dds_base.specs.declared.change.Change.{Change}
use Rattle.dds_protocol.specs.Roster.{IsRoster, Roster}
use Rattle.dds_base.specs.Places.{Match}
use Rattle.dds_base.specs.Counts.{is_later}
use Rattle.rtps_reader.specs.Tracked.{Tracked, with_heartbeat}
use Rattle.rtps_wire.specs.declared.heartbeat.Heartbeat.{Heartbeat as HeartbeatBody}
use Rattle.rtps_wire.specs.Messages.{IsWritable, spelling_of}
use Rattle.dds_base.specs.declared.endpoint.Endpoint.{Endpoint}
use Rattle.dds_machine.specs.declared.event.WorldEvent.TheVariants as world
use Rattle.dds_machine.specs.declared.reply.Reply.TheVariants.{Done, Reported}
use Rattle.dds_machine.specs.Numbered.{numbered}
use Rattle.dds_machine.specs.Part.{Attachment, how_of, Part, WriterProxy, ReaderProxy, Writer, no_writer, own_writer, own_proxies, acknowledged_of, place_of, publication_among, writer_changes, heartbeats_used}
use Rattle.dds_machine.specs.Moves.{match_of}
use Rattle.dds_protocol.specs.Dues.{IsPartOf}
use Rattle.dds_machine.specs.Machine.{AllTests, writer_at, place_at}
use Rattle.dds_protocol.specs.Peer.{Peer, state_of}
use Rattle.dds_protocol.specs.Contact.{Contact}
use Rattle.dds_protocol.specs.Protocol.{Known, State}
use Rattle.dds_protocol.specs.World.{WorldState, peer_at, machine_of, Sound}
use Rattle.dds_protocol.specs.Bounds.{IsBounded}
use Rattle.dds_protocol.specs.CatchUp.{Standing, GoesOn}
use Rattle.dds_protocol.specs.Fresh.{HasUsedCounts, tracked_at}
use Rattle.dds_protocol.specs.Repair.{beat_in, ticked_in, BeginsRound, IsPair, StandsAt}
use Rattle.dds_protocol.proofs.CaughtUp.{on_forward}
use Rattle.dds_protocol.proofs.Composed.{parts_at}
use Rattle.dds_protocol.proofs.DuesMatched.{own_name}
use Rattle.dds_protocol.proofs.Framing.{has_reader, number_or_not}
use Rattle.dds_protocol.proofs.InOrder.{publication_there}
use Rattle.dds_protocol.proofs.Knowing.{answered_same}
use Rattle.dds_protocol.proofs.PairAsked.{has_writer}
use Rattle.dds_protocol.proofs.PairHeard.{Pairing, reader_host, there, Heard, ToldPacket, MissedPacket, hears_beats, delivered_others, stays_sound}
use Rattle.dds_protocol.proofs.PairReader.{standing_of, Seat, SeatAs, HearsBy}
use Rattle.dds_protocol.proofs.EndsBeside.{ended_sound, world_bounded}
use Rattle.dds_protocol.proofs.PairEnded.{changes_ended, values_ended, known_ended, leaves_ended, rows_ended, seat_ended, standing_ended}
use Rattle.dds_protocol.proofs.PairTicked.{ticks_there, new_count, BeatPacket, beat_packet, TickLeaves, tick_leaves}
use Rattle.dds_protocol.proofs.PairTurns.{Keeps}
use Rattle.dds_protocol.proofs.BeatsTo.{beat_of, beat_message}

-- the beginning of a round, and what it rests on
pub record Begun : Type 0 where
  pub roster : Roster
  pub tests : AllTests
  pub writer : Endpoint
  pub reader : Endpoint
  pub place : ℕ
  pub acknowledged : ℕ
  pub old : WorldState
  pub heard : WorldState
  pub checked : IsRoster roster
  pub sound : Sound roster old
  pub used : HasUsedCounts roster old
  pub bounded : IsBounded (machine_of old)
  pub pair : IsPair roster writer reader
  pub stands : StandsAt old writer reader place acknowledged
  pub begins : BeginsRound roster tests writer reader old heard

-- the beginning of a round, and what it rests on
abbrev pub the_begun : (roster : Roster) (tests : AllTests) (writer reader : Endpoint) (place acknowledged : ℕ)
    (old heard : WorldState) → IsRoster roster → Sound roster old → HasUsedCounts roster old
    → IsBounded (machine_of old) → IsPair roster writer reader → StandsAt old writer reader place acknowledged
    → BeginsRound roster tests writer reader old heard → Begun
the_begun roster tests writer reader place acknowledged old heard checked sound used bounded pair stands begins =
    record {
      roster = roster;
      tests = tests;
      writer = writer;
      reader = reader;
      place = place;
      acknowledged = acknowledged;
      old = old;
      heard = heard;
      checked = checked;
      sound = sound;
      used = used;
      bounded = bounded;
      pair = pair;
      stands = stands;
      begins = begins;
    }

-- the parts of the two peers before the round
abbrev pub writer_part : Begun → Part
writer_part c = (peer_at c.old c.writer.peer).part

abbrev pub the_writer : Begun → Writer
the_writer c = own_writer (writer_part c) c.writer.number

-- the writer as the machine has it
pub writer_is : (w : WorldState) (e : Endpoint) → writer_at (machine_of w) e
    ≡ own_writer (peer_at w e.peer).part e.number
writer_is w e = ap (λ (p : Part). own_writer p e.number) (parts_at w e.peer)

pub place_is : (w : WorldState) (r e : Endpoint) → place_at (machine_of w) r e
    ≡ place_of (own_proxies (peer_at w r.peer).part r.number) e
place_is w r e = ap (λ (p : Part). place_of (own_proxies p r.number) e) (parts_at w r.peer)

abbrev pub HasRow : Writer → Endpoint → ℕ → Type 0
HasRow w r a = acknowledged_of w.readers r ≡ Some a

pub row_old : (c : Begun) → HasRow (the_writer c) c.reader c.acknowledged
row_old c = subst (λ (w : Writer). HasRow w c.reader c.acknowledged) (writer_is c.old c.writer) c.stands.acknowledged_is

pub part_of : (c : Begun) → IsPartOf c.roster c.writer.peer (writer_part c)
part_of c =
    c.used.of_roster c.writer.peer
    (ticks_there c.roster c.tests c.old c.writer.peer c.begins.now c.begins.ticked c.begins.ticks.step)

abbrev pub pairing : Begun → Pairing
pairing c = record {
  roster = c.roster;
  checked = c.checked;
  writer = c.writer;
  reader = c.reader;
  pair = c.pair;
  name =
      (own_name c.roster c.writer.peer (writer_part c) (part_of c) c.writer.number
      (has_writer (writer_part c) c.writer.number c.reader (c.acknowledged, row_old c))).name;
}

-- ---- the tick

-- the network at its end
abbrev pub noted_tick : Begun → WorldState
noted_tick c = ticked_in c.begins

pub left : (c : Begun) (p : ℕ) → TickLeaves c.old (noted_tick c) p
left c p =
    leaves_ended c.old (world.Tick c.writer.peer c.begins.now) c.begins.ticked p c.old
    (tick_leaves c.roster c.tests c.old c.writer.peer c.begins.now c.begins.ticked c.begins.ticks.step p)

-- what the writer's peer knew of readers
abbrev pub contacts_of : Begun → ℕ → Endpoint → Contact
contacts_of c = (peer_at c.old c.writer.peer).known.answered

pub beaten : (c : Begun) → BeatPacket c.roster (contacts_of c) (writer_part c) c.writer c.begins.beat
beaten c =
    beat_packet c.roster c.tests c.old c.begins.now c.begins.lost_beats c.begins.ticked c.writer c.begins.beat
    c.begins.beat_count c.checked (part_of c) c.begins.ticks c.begins.beat_sent c.begins.beat_of

-- the reader's peer after the tick
abbrev pub ticked_reader : Begun → State
ticked_reader c = state_of (peer_at (noted_tick c) c.reader.peer)

pub place_ticked : (c : Begun) → place_of (own_proxies (ticked_reader c).part c.reader.number) c.writer ≡ Some c.place
place_ticked c =
    ap (λ (rows : List (List WriterProxy)). place_of (numbered rows c.reader.number []) c.writer)
    (left c c.reader.peer).rows
    ∙ (sym (place_is c.old c.reader c.writer) ∙ c.stands.place_is)

abbrev pub handle_of : (c : Begun) → (k : ℕ)
    × (publication_among (own_proxies (ticked_reader c).part c.reader.number) c.writer ≡ Some k)
handle_of c = publication_there 1 c.place (own_proxies (ticked_reader c).part c.reader.number) c.writer (place_ticked c)

pub match : Begun → Match
match c = match_of (ticked_reader c).part c.reader.number (handle_of c).0

pub knows_place : (c : Begun) → ((ticked_reader c).known.tracked c.writer c.reader.number).place ≡ c.place
knows_place c =
    ap (λ (t : Tracked). t.place) ((left c c.reader.peer).known.tracked c.writer c.reader.number) ∙ c.stands.known

-- how the reader stands to the writer before the round
abbrev pub stood : Begun → Attachment
stood c = how_of (own_proxies (peer_at c.old c.reader.peer).part c.reader.number) c.writer

pub seat_ticked : (c : Begun) → SeatAs (stood c) (match c) c.writer c.reader.number (ticked_reader c)
unfolding match
seat_ticked c = record {
  rows = has_reader (ticked_reader c).part c.reader.number c.place c.writer (place_ticked c);
  there =
      subst (λ (n : ℕ). (1 ≤ c.reader.number) × (c.reader.number ≤ n))
      (sym (left c c.reader.peer).readers) c.stands.here;
  handle = (handle_of c).1;
  qos = refl;
  moment = refl;
  place = place_ticked c ∙ ap (λ (n : ℕ). Some n) (sym (knows_place c));
  stands = ap (λ (rows : List (List WriterProxy)). how_of (numbered rows c.reader.number []) c.writer)
      (left c c.reader.peer).rows;
}

beat_later : (c : Begun) → is_later ((ticked_reader c).known.tracked c.writer c.reader.number).count
    (pos (heartbeats_used (the_writer c) + 1))
    ≡ true
beat_later c =
    new_count ((ticked_reader c).known.tracked c.writer c.reader.number).count (heartbeats_used (the_writer c))
    (λ count e.
    subst (λ (w : Writer). count ≤ℤ pos (heartbeats_used w)) (writer_is c.old c.writer)
    (c.used.heartbeat_taken c.writer c.reader count
    (sym (ap (λ (t : Tracked). t.count) ((left c c.reader.peer).known.tracked c.writer c.reader.number)) ∙ e)))

-- ---- the HEARTBEATs

abbrev pub heard_reader : Begun → State
heard_reader c = state_of (peer_at c.heard c.reader.peer)

-- one told the reader, and was heard
pub record Told (c : Begun) : Type 0 where
  pub of : ToldPacket (pairing c) (contacts_of c) (writer_part c) (match c) (ticked_reader c) c.begins.hears.step.dues
      (heard_reader c)

-- none did, and the reader was not behind
pub record Missed (c : Begun) : Type 0 where
  pub of : MissedPacket (pairing c) (writer_part c) (ticked_reader c) c.begins.hears.step.dues (heard_reader c)

pub met : (c : Begun) → Told c ⊎ Missed c
met c =
    ⊎_elim (λ t. inl (record { of = t })) (λ m. inr (record { of = m }))
    (hears_beats (stood c) c.stands.attached (pairing c) (contacts_of c) c.tests (writer_part c) (match c)
    (noted_tick c) c.begins.beat c.begins.lost_asks c.heard
    (subst
    (λ (n : ℕ). IsWritable (beat_message c.roster (contacts_of c) c.writer.peer (writer_part c) c.writer.number n))
    c.begins.beat_to (beaten c).writable)
    ((beaten c).bytes
    ∙ ap
    (λ (n : ℕ). spelling_of (beat_message c.roster (contacts_of c) c.writer.peer (writer_part c) c.writer.number n))
    c.begins.beat_to)
    c.begins.hears (seat_ticked c) (beat_later c))

-- where the reader was behind, it was told
pub told_of : (c : Begun) → c.acknowledged ≤ length (writer_changes (the_writer c)) → Told c
told_of c behind =
    ⊎_elim (λ t. t)
    (λ (m : Missed c). let past = m.of.past c.acknowledged (row_old c) in absurd (omega (arith, behind, past))) (met c)

-- what the delivery leaves at the reader's peer
keeps : (c : Begun) → Keeps (ticked_reader c) (heard_reader c)
keeps c = ⊎_elim (λ (t : Told c). t.of.heard.keeps) (λ (m : Missed c). m.of.spares.keeps) (met c)

-- ---- the HEARTBEAT that was heard

abbrev pub body : {c : Begun} → Told c → HeartbeatBody
body {c} t = beat_of c.roster c.writer.peer (writer_part c) c.writer.number t.of.reader_id t.of.first t.of.last

abbrev pub packet : {c : Begun} → (t : Told c)
    → Heard (pairing c) (body t) (match c) (ticked_reader c) c.begins.hears.step.dues (heard_reader c)
packet t = t.of.heard

-- what the reader knows once it heard the HEARTBEAT
abbrev pub hears : {c : Begun} → (t : Told c) → HearsBy (reader_host (pairing c)) (there (pairing c)) (body t) (match c)
    (pairing c).writer (pairing c).reader.number (ticked_reader c) (packet t).due (heard_reader c)
hears t = (packet t).hears

abbrev pub heard_of : {c : Begun} → Told c → Tracked
heard_of {c} t = (hears t).heard.known.tracked (pairing c).writer (pairing c).reader.number

abbrev pub the_last : Begun → ℕ
the_last c = length (writer_changes (the_writer c))

-- where the reader's place began, or had
abbrev pub started_at : {c : Begun} → Told c → Standing
started_at t = (hears t).started

pub goes : {c : Begun} → (t : Told c) → GoesOn (match c)
    (with_heartbeat (body t).first_sn (body t).count (started_at t).tracked) (started_at t).happened
    (standing_of (hears t).heard c.writer c.reader.number)
goes t = (hears t).goes

pub started_on : {c : Begun} → (t : Told c) → c.place ≤ (started_at t).tracked.place
started_on {c} t = let le = (hears t).further in let same = knows_place c in omega (arith, le, same)

pub forward : {c : Begun} → (t : Told c) → c.place ≤ (heard_of t).place
forward {c} t =
    let le =
    on_forward (match c) (with_heartbeat (body t).first_sn (body t).count (started_at t).tracked)
    (started_at t).happened (standing_of (hears t).heard c.writer c.reader.number) (goes t) in
    let on = started_on t in omega (arith, le, on)

-- the reader's ACKNACKs so far
pub acknacks : {c : Begun} → (t : Told c) → (heard_of t).acknacks ≡ (tracked_at c.old c.writer c.reader).acknacks
acknacks {c} t =
    (goes t).2.stays.acknacks
    ∙ ((hears t).acknacks
    ∙ ap (λ (t : Tracked). t.acknacks) ((left c c.reader.peer).known.tracked c.writer c.reader.number))

-- ---- the writer's peer, once the HEARTBEAT was heard

abbrev pub ticked_writer : Begun → State
ticked_writer c = state_of (peer_at (noted_tick c) c.writer.peer)

-- the network at the end of that
abbrev pub noted_beat : Begun → WorldState
noted_beat c = beat_in c.begins

abbrev pub heard_writer : Begun → State
heard_writer c = state_of (peer_at (noted_beat c) c.writer.peer)

same_writers : (c : Begun) → (peer_at c.heard c.writer.peer).part.rtps.writers ≡ (ticked_writer c).part.rtps.writers
same_writers c =
    ⊎_elim (λ e. subst (λ (n : ℕ). (peer_at c.heard n).part.rtps.writers ≡ (peer_at (noted_tick c) n).part.rtps.writers)
    (sym e) (keeps c).writers)
    (λ apart. ap (λ (x : Peer). x.part.rtps.writers)
    (delivered_others c.roster c.tests
    (noted_tick c) c.reader.peer c.begins.beat c.begins.lost_asks c.heard c.begins.hears c.writer.peer apart))
    (number_or_not c.writer.peer c.reader.peer)

pub same_answered : (c : Begun) → ((heard_writer c).known.answered c.writer.number c.reader).count
    ≡ ((peer_at c.old c.writer.peer).known.answered c.writer.number c.reader).count
same_answered c =
    ap (λ (k : Known). (k.answered c.writer.number c.reader).count)
    (known_ended (noted_tick c) (world.Deliver c.reader.peer c.begins.hears.number) c.heard c.writer.peer)
    ∙ (⊎_elim
    (λ e. subst (λ (n : ℕ). ((peer_at c.heard n).known.answered c.writer.number c.reader).count
    ≡ ((peer_at (noted_tick c) n).known.answered c.writer.number c.reader).count) (sym e)
    (ap (λ (x : Contact). x.count) ((keeps c).answered c.writer.number c.reader)))
    (λ apart. ap (λ (x : Peer). (x.known.answered c.writer.number c.reader).count)
    (delivered_others c.roster c.tests
    (noted_tick c) c.reader.peer c.begins.beat c.begins.lost_asks c.heard c.begins.hears c.writer.peer apart))
    (number_or_not c.writer.peer c.reader.peer)
    ∙ (left c c.writer.peer).known.counts c.writer.number c.reader)

abbrev pub writer_heard : Begun → Writer
writer_heard c = own_writer (heard_writer c).part c.writer.number

pub rows_heard : (c : Begun) → (writer_heard c).readers ≡ (the_writer c).readers
rows_heard c =
    rows_ended (noted_tick c) (world.Deliver c.reader.peer c.begins.hears.number) c.heard c.writer.peer
    c.writer.number
    ∙ (ap (λ (ws : List Writer). (numbered ws c.writer.number no_writer).readers) (same_writers c)
    ∙ (left c c.writer.peer).acknowledged c.writer.number)

pub row_heard : (c : Begun) → HasRow (writer_heard c) c.reader c.acknowledged
row_heard c = ap (λ (rows : List ReaderProxy). acknowledged_of rows c.reader) (rows_heard c) ∙ row_old c

pub changes_heard : (c : Begun) → writer_changes (writer_heard c) ≡ writer_changes (the_writer c)
changes_heard c =
    changes_ended (noted_tick c) (world.Deliver c.reader.peer c.begins.hears.number) c.heard c.writer.peer
    c.writer.number
    ∙ (ap (λ (ws : List Writer). writer_changes (numbered ws c.writer.number no_writer)) (same_writers c)
    ∙ (left c c.writer.peer).changes c.writer.number)

pub values_heard : (c : Begun) → (writer_heard c).max_value ≡ (the_writer c).max_value
values_heard c =
    values_ended (noted_tick c) (world.Deliver c.reader.peer c.begins.hears.number) c.heard c.writer.peer
    c.writer.number
    ∙ (ap (λ (ws : List Writer). (numbered ws c.writer.number no_writer).max_value) (same_writers c)
    ∙ (left c c.writer.peer).values c.writer.number)

-- the reader at the end of it
pub seat_noted : {c : Begun} → Told c
    → Seat (match c) c.writer c.reader.number (state_of (peer_at (noted_beat c) c.reader.peer))
seat_noted {c} t =
    seat_ended (noted_tick c) (world.Deliver c.reader.peer c.begins.hears.number) c.heard c.reader.peer
    (match c) c.writer c.reader.number (hears t).seat

pub standing_noted : (c : Begun)
    → standing_of (state_of (peer_at (noted_beat c) c.reader.peer)) c.writer c.reader.number
    ≡ standing_of (heard_reader c) c.writer c.reader.number
standing_noted c =
    standing_ended (noted_tick c) (world.Deliver c.reader.peer c.begins.hears.number) c.heard c.reader.peer c.writer
    c.reader.number

-- the network then
pub sound_heard : (c : Begun) → Sound c.roster c.heard × IsBounded (machine_of c.heard)
sound_heard c =
    let first =
    stays_sound c.roster c.tests c.old
    (world.Tick c.writer.peer c.begins.now) Done c.begins.lost_beats c.begins.ticked c.begins.ticks c.sound
    c.bounded in
    stays_sound c.roster c.tests (noted_tick c) (world.Deliver c.reader.peer c.begins.hears.number)
    (Reported c.begins.hears.report) c.begins.lost_asks c.heard c.begins.hears.step
    (ended_sound c.roster c.old (world.Tick c.writer.peer c.begins.now) c.begins.ticked first.0)
    (world_bounded c.old (world.Tick c.writer.peer c.begins.now) c.begins.ticked first.1)

-- the place of the ACKNACK is not past the next number
pub place_heard : {c : Begun} → (t : Told c) → (heard_of t).place ≤ the_last c + 1
place_heard {c} t =
    let place : ((heard_reader c).known.tracked c.writer c.reader.number).place ≡ (heard_of t).place =
    ap (λ (s : Standing). s.tracked.place) (hears t).after ∙ (answered_same (hears t).answer (heard_of t)).0 in
    let at : place_at (machine_of c.heard) c.reader c.writer ≡ Some (heard_of t).place =
    place_is c.heard c.reader c.writer ∙ ((hears t).seat.place ∙ ap (λ (n : ℕ). Some n) place) in
    let le = (sound_heard c).1 c.reader c.writer (heard_of t).place at in
    let last : length (writer_changes (writer_at (machine_of c.heard) c.writer))
    ≡ length (writer_changes (the_writer c)) =
    ap (λ (w : Writer). length (writer_changes w)) (writer_is c.heard c.writer)
    ∙ ap (λ (cs : List Change). length cs)
    (ap (λ (ws : List Writer). writer_changes (numbered ws c.writer.number no_writer)) (same_writers c)
    ∙ (left c c.writer.peer).changes c.writer.number) in
    omega (arith, le, last)
