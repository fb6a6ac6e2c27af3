-- What a peer sends at a tick is what is due, and it is true.
use Rattle.std.proofs.Common.{◌≡◌, ℕ, zero, suc, ◌+◌, ◌-◌, ◌^◌, ◌==◌, Bool, true, false, List, [], ◌∷◌, ◌++◌, Option, Some, None, map, length, get_or, slice_get, refl, ap, sym, ◌∙◌, subst, arith, inl, inr, ⊎_elim, Contains}
use Rattle.std.specs.Prelude.{IsSome, nat_lt, if◌then◌else◌}
use Rattle.std.specs.Option.{option_map_or}
use Rattle.dds_protocol.specs.Roster.{Roster}
use Rattle.dds_base.specs.declared.guid.EntityId.{EntityId}
use Rattle.dds_base.specs.declared.guid.GuidPrefix.{GuidPrefix}
use Rattle.dds_base.specs.Kept.{first_kept}
use Rattle.dds_base.specs.Written.{counts_of}
use Rattle.rtps_wire.specs.declared.message.Message.{Message}
use Rattle.rtps_wire.specs.declared.submessage.Submessage.{Submessage}
use Rattle.rtps_wire.specs.declared.submessage.Submessage.TheVariants.{InfoDst}
use Rattle.rtps_wire.specs.Messages.{spelling_of}
use Rattle.dds_base.specs.declared.endpoint.Endpoint.{Endpoint}
use Rattle.dds_protocol.specs.declared.event.Packet.{Packet}
use Rattle.dds_machine.specs.declared.reply.Reply.TheVariants.{Done}
use Rattle.dds_machine.specs.Ticks.{TickStep, tick_refusal, after_tick}
use Rattle.dds_protocol.specs.Claims.{Claim, Claims, every_reader}
use Rattle.dds_protocol.specs.Dues.{IsPartOf, AreTruthful}
use Rattle.dds_machine.specs.Part.{Part, ReaderProxy, Writer, no_writer, own_writer, acknowledged_of, history_of, peers_of, writer_changes, NoLess}
use Rattle.dds_protocol.specs.Peer.{Peer, IsTrueAt}
use Rattle.dds_protocol.specs.DueMessages.{Due, AreSent, writer_entity, begins_at, ends_at, heartbeat_from, heartbeats_due, heartbeats_for, heartbeats_from, heartbeats_of, heartbeats_to, is_one_for_all, is_told, reader_entity, was_asked}
use Rattle.dds_protocol.specs.Contact.{Contact}
use Rattle.dds_protocol.proofs.DuesGrowth.{true_on}
use Rattle.dds_protocol.proofs.DuesHeartbeats.{heartbeats_truthful}
use Rattle.dds_protocol.proofs.DuesMatched.{reader_entity_is}
use Rattle.dds_protocol.proofs.Growth.{TickStep-acknowledged, TickStep-grows}
use Rattle.dds_machine.proofs.Tables.{no_less_same}
use Rattle.dds_ends.specs.declared.heartbeat.Beat.{Beat}
use Rattle.dds_ends.specs.declared.matching.Destination.{Destination}
use Rattle.dds_ends.specs.declared.matching.ReaderName.{ReaderName}
use Rattle.dds_ends.specs.Beating.{BeatsOfAll, beat_of, beats_at, beats_message, beats_of, beats_of_all, due_to, ends_for, names_told, peers_told}
use Rattle.dds_ends.specs.Kept.{WriterKept}
use Rattle.dds_core.specs.Kept.{PeerKept}
use Rattle.dds_ends.specs.Identity.{IsWriterOf, WriterIdentity, writer_identity}
use Rattle.dds_ends.specs.MatchedEnds.{AreMatchedNow, IsNameOf, IsReliableName, is_named, readers_of}
use Rattle.dds_core.specs.Standing.{StandsFor}
use Rattle.dds_core.proofs.Names.{own_end, own_writer_is}
use Rattle.dds_ends.proofs.Begins.{EndsAlike, ends_alike}
use Rattle.dds_ends.proofs.FirstPeers.{first_peers_are, map-filter_by, peer_from}
use Rattle.dds_ends.proofs.Lists.{element}
use Rattle.dds_ends.proofs.MatchedAt.{named_there}
use Rattle.dds_ends.proofs.PeersTold.{names_are}
use Rattle.dds_ends.proofs.SentMessages.{contains_cases}

-- ---- what is sent of true messages is true

pub sent_true : (roster : Roster) (peer : ℕ) (part : Part) (dues : List Due) (packets : List Packet) (unsent : ℕ)
    → AreTruthful roster peer part dues → AreSent dues packets unsent
    → (packet : Packet) (claim : Claim) → Contains packets packet → Claims roster packet.bytes claim
    → IsTrueAt peer part claim
sent_true roster peer part [] packets unsent all h packet claim among says =
    let none : Contains {X = Packet} [] packet =
    subst (λ (ps : List Packet). Contains ps packet) h.0 among in let lt = none.1 in absurd (omega (arith, lt))
sent_true roster peer part (due ∷ dues) packets unsent all (inl f) packet claim among says =
    ⊎_elim
    (λ same. (all 0 due (omega arith)) claim f.2 (subst (λ (p : Packet). Claims roster p.bytes claim) (sym same) says))
    (λ later. sent_true roster peer part dues f.0 unsent
    (λ k d lt. all (suc k) d (omega (arith, lt))) f.3 packet claim later says)
    (contains_cases (record { to = due.to; bytes = spelling_of due.message }) f.0 packet
    (subst (λ (ps : List Packet). Contains ps packet) f.1 among))
sent_true roster peer part (due ∷ dues) packets unsent all (inr g) packet claim among says =
    sent_true roster peer part dues packets g.0
    (λ k d lt. all (suc k) d (omega (arith, lt))) g.2 packet claim among says

-- ---- what is due of one writer

-- destinations with the prefixes of the roster
pub AreNamed : Roster → List Destination → Type 0
AreNamed roster [] = Unit {0}
AreNamed roster (d ∷ ds) = (roster.prefix d.peer ≡ d.prefix) × AreNamed roster ds

pub named_each : (roster : Roster) (ds : List Destination)
    → ((k : ℕ) (d : Destination) → slice_get ds k ≡ Some d → roster.prefix d.peer ≡ d.prefix) → AreNamed roster ds
unfolding AreNamed
named_each roster [] each = tt
named_each roster (d ∷ ds) each = (each zero d refl, named_each roster ds (λ k e at. each (suc k) e at))

-- those of a writer's readers that are told are so
name_told : (told : ReaderProxy → Bool) (rows : List ReaderProxy) (names : List ReaderName) (k : ℕ) (n : ReaderName)
    → slice_get (names_told told rows names) k ≡ Some n → (j : ℕ) × (slice_get names j ≡ Some n)
name_told told [] names k n at = absurd cc
name_told told (p ∷ ps) [] k n at = absurd cc
name_told told (p ∷ ps) (m ∷ ms) k n at = by (told p) k at (λ i h. name_told told ps ms i n h)
  where
    more : (j : ℕ) × (slice_get ms j ≡ Some n) → (j : ℕ) × (slice_get (m ∷ ms) j ≡ Some n)
    more f = (suc f.0, f.1)

    by : (b : Bool) (i : ℕ) → slice_get (if b then m ∷ names_told told ps ms else names_told told ps ms) i ≡ Some n
        → ((i : ℕ) → slice_get (names_told told ps ms) i ≡ Some n → (j : ℕ) × (slice_get ms j ≡ Some n))
        → (j : ℕ) × (slice_get (m ∷ ms) j ≡ Some n)
    by true zero h later = (zero, h)
    by true (suc i) h later = more (later i h)
    by false i h later = more (later i h)

named_told : (roster : Roster) (told : ReaderProxy → Bool) (rows : List ReaderProxy) (names : List ReaderName)
    → ((k : ℕ) (n : ReaderName) → slice_get names k ≡ Some n → roster.prefix n.reader.peer ≡ n.guid.prefix)
    → AreNamed roster (peers_told told rows names)
named_told roster told rows names each =
    named_each roster (peers_told told rows names)
    (λ k d at.
    let f = peer_from (names_told told rows names) k d at in
    let g = name_told told rows names f.0 f.1 f.2 in
    subst (λ (x : Destination). roster.prefix x.peer ≡ x.prefix) f.3 (each g.0 f.1 g.1))

pub by_number : (roster : Roster) (message : ℕ → GuidPrefix → Message) (ds : List Destination) → AreNamed roster ds
    → map (λ (to : ℕ). due_to to (message to (roster.prefix to))) (map (λ (d : Destination). d.peer) ds)
    ≡ map (λ (d : Destination). due_to d.peer (message d.peer d.prefix)) ds
unfolding AreNamed
by_number roster message [] h = refl
by_number roster message (d ∷ ds) h =
    ap (λ (p : GuidPrefix). due_to d.peer (message d.peer p)
    ∷ map (λ (to : ℕ). due_to to (message to (roster.prefix to))) (map (λ (e : Destination). e.peer) ds)) h.0
    ∙ ap (λ (dues : List Due). due_to d.peer (message d.peer d.prefix) ∷ dues) (by_number roster message ds h.1)

-- names of readers with the entity ids of the roster
abbrev pub AreReaders : Roster → List ReaderName → Type 0
AreReaders roster names = (k : ℕ) (n : ReaderName) → slice_get names k ≡ Some n
    → n.guid.entity ≡ reader_entity roster n.reader.peer n.reader.number

-- where the HEARTBEATs to these readers end
abbrev pub HaveEnds : Writer → (Endpoint → Contact) → List ReaderName → Type 0
HaveEnds w answered names = (k : ℕ) (n : ReaderName) → slice_get names k ≡ Some n
    → ends_for answered w n.reader ≡ ends_at answered w n.reader

pub named_reader : (roster : Roster) (writer : Endpoint) (n : ReaderName) → IsNameOf roster writer n
    → n.guid.entity ≡ reader_entity roster n.reader.peer n.reader.number
named_reader roster writer n name = sym (reader_entity_is roster n.guid.prefix n.guid.entity n.reader name.is)

-- those of a writer are so
pub all_named : (roster : Roster) (writer : Endpoint) (es : List ReaderName) (ds : List Destination)
    (names : List ReaderName) → AreMatchedNow roster writer es ds names → AreNamed roster ds
all_named roster writer es ds names ends = named_each roster ds ends.prefixes

-- the writer of this number, by the roster, with those that it is matched with now
pub record IsNamed (roster : Roster) (peer : ℕ) (prefix : GuidPrefix) (number : ℕ) (k : WriterKept)
    (w : Writer) : Type 0 where
  pub own : roster.prefix peer ≡ prefix
  pub entity : writer_entity roster peer number ≡ k.entity
  pub ends : AreMatchedNow roster (record { peer = peer; number = number }) k.matched k.destinations k.readers
  pub readers : map (λ (p : ReaderProxy). p.reader) w.readers ≡ map (λ (n : ReaderName). n.reader) k.readers
  pub matched : w.matched ≡ readers_of k.matched

-- the same of another value of that identity
pub named_again : (roster : Roster) (peer : ℕ) (prefix : GuidPrefix) (number : ℕ) (k k' : WriterKept) (w : Writer)
    → writer_identity k' ≡ writer_identity k → IsNamed roster peer prefix number k w
    → IsNamed roster peer prefix number k' w
named_again roster peer prefix number k k' w same is = record {
  own = is.own;
  entity = is.entity ∙ ap (λ (x : WriterIdentity). x.entity) (sym same);
  ends =
      subst (λ (x : WriterIdentity). AreMatchedNow roster (record { peer = peer; number = number }) x.matched
      x.destinations x.readers) (sym same) is.ends;
  readers = is.readers ∙ ap (λ (x : WriterIdentity). map (λ (n : ReaderName). n.reader) x.readers) (sym same);
  matched = is.matched ∙ ap (λ (x : WriterIdentity). readers_of x.matched) (sym same);
}

-- the peers of its matched readers are those that it sends to
pub sends_to : (roster : Roster) (peer : ℕ) (prefix : GuidPrefix) (number : ℕ) (k : WriterKept) (w : Writer)
    → IsNamed roster peer prefix number k w → peers_of w.matched ≡ map (λ (d : Destination). d.peer) k.destinations
sends_to roster peer prefix number k w is =
    ap (λ (es : List Endpoint). peers_of es) is.matched ∙ is.ends.sent_to

-- a writer's HEARTBEATs to those of the readers of these names that are at a peer are those by the roster
heartbeats_are : (roster : Roster) (asserts : Bool) (peer number : ℕ) (w : Writer) (answered : Endpoint → Contact)
    (names : List ReaderName) (to : ℕ) → AreReaders roster names → HaveEnds w answered names
    → beats_at (beat_of (roster.prefix peer) (writer_entity roster peer number) asserts w) w answered names to
    ≡ heartbeats_to roster asserts asserts peer number answered w (readers_of names) to
heartbeats_are roster asserts peer number w answered names to readers ends =
    let writer : EntityId = writer_entity roster peer number in
    let beat : EntityId → Endpoint → ℕ → Submessage =
    λ e r last. heartbeat_from asserts asserts e writer (begins_at w r) last w in
    ap (λ (ss : List Submessage). if is_one_for_all answered w to
    then heartbeat_from asserts asserts every_reader writer (first_kept (history_of w)) (length (writer_changes w)) w
    ∷ []
    else ss)
    (map-filter_by (λ (n : ReaderName). n.reader) (λ (r : Endpoint). r.peer == to)
    (λ (n : ReaderName). beat n.guid.entity n.reader (ends_for answered w n.reader))
    (λ (r : Endpoint). beat (reader_entity roster r.peer r.number) r (ends_at answered w r)) names
    (λ k n at. ap (λ (e : EntityId). beat e n.reader (ends_for answered w n.reader)) (readers k n at)
    ∙ ap (λ (last : ℕ). beat (reader_entity roster n.reader.peer n.reader.number) n.reader last) (ends k n at)))

-- so are the messages with them
messages_are : (roster : Roster) (asserts : Bool) (peer number : ℕ) (w : Writer) (answered : Endpoint → Contact)
    (names : List ReaderName) (ds : List Destination) → AreReaders roster names → HaveEnds w answered names
    → map (beats_message (beat_of (roster.prefix peer) (writer_entity roster peer number) asserts w) w answered
    names) ds
    ≡ map (λ (d : Destination). due_to d.peer (record {
      prefix = roster.prefix peer;
      submessages = InfoDst d.prefix
          ∷ heartbeats_to roster asserts asserts peer number answered w (readers_of names) d.peer;
    })) ds
messages_are roster asserts peer number w answered names [] readers ends = refl
messages_are roster asserts peer number w answered names (d ∷ ds) readers ends =
    let beat : Beat = beat_of (roster.prefix peer) (writer_entity roster peer number) asserts w in
    ap (λ (ss : List Submessage). due_to d.peer
    (record { prefix = roster.prefix peer; submessages = InfoDst d.prefix ∷ ss })
    ∷ map (beats_message beat w answered names) ds)
    (heartbeats_are roster asserts peer number w answered names d.peer readers ends)
    ∙ ap (λ (dues : List Due). due_to d.peer (record {
      prefix = roster.prefix peer;
      submessages =
          InfoDst d.prefix ∷ heartbeats_to roster asserts asserts peer number answered w (readers_of names) d.peer;
    }) ∷ dues)
    (messages_are roster asserts peer number w answered names ds readers ends)

-- what is sent to readers of these names, of a writer of that entity id, is what is due to these readers
pub sent_are_due : (roster : Roster) (asserts : Bool) (peer : ℕ) (prefix : GuidPrefix) (number : ℕ) (entity : EntityId)
    (w : Writer) (answered : Endpoint → Contact) (names : List ReaderName) (ds : List Destination)
    → roster.prefix peer ≡ prefix → writer_entity roster peer number ≡ entity → AreReaders roster names
    → HaveEnds w answered names → peers_of (readers_of names) ≡ map (λ (d : Destination). d.peer) ds
    → AreNamed roster ds
    → map (beats_message (beat_of prefix entity asserts w) w answered names) ds
    ≡ heartbeats_for roster asserts asserts peer number answered w (readers_of names)
sent_are_due roster asserts peer prefix number entity w answered names ds own writer readers ends peers named =
    let message : ℕ → GuidPrefix → Message = λ to p. record {
      prefix = roster.prefix peer;
      submessages = InfoDst p ∷ heartbeats_to roster asserts asserts peer number answered w (readers_of names) to;
    } in
    sym (ap (λ (p : GuidPrefix). map
    (beats_message (beat_of p (writer_entity roster peer number) asserts w) w answered names) ds) own
    ∙ ap (λ (e : EntityId). map (beats_message (beat_of prefix e asserts w) w answered names) ds) writer)
    ∙ (messages_are roster asserts peer number w answered names ds readers ends
    ∙ sym (ap (λ (ns : List ℕ). map (λ (to : ℕ). due_to to (message to (roster.prefix to))) ns) peers
    ∙ by_number roster message ds named))

beats_due_of : (roster : Roster) (contacts : ℕ → Endpoint → Contact) (peer : ℕ) (prefix : GuidPrefix) (number : ℕ)
    (k : WriterKept) (w : Writer) → IsNamed roster peer prefix number k w → EndsAlike k w (contacts number)
    → beats_of prefix k w (contacts number) ≡ heartbeats_of roster contacts peer number w
beats_due_of roster contacts peer prefix number k w is alike =
    let told : ReaderProxy → Bool = is_told (contacts number) w in
    let names : List ReaderName = names_told told w.readers k.readers in
    let readers : AreReaders roster names = λ j n at.
    let f = name_told told w.readers k.readers j n at in
    named_reader roster (record { peer = peer; number = number }) n (is.ends.named f.0 n f.1).name_is in
    let ends : HaveEnds w (contacts number) names = λ j n at.
    let f = name_told told w.readers k.readers j n at in
    alike n.reader (λ none. absurd (both (is_named k.readers n.reader) none
    (named_there k.readers f.0 n n.reader f.1 refl))) in
    let named : AreNamed roster (peers_told told w.readers k.readers) =
    named_told roster told w.readers k.readers
    (λ j n at. (is.ends.named j n at).name_is.is.same_prefix) in
    ap (λ (dues : List Due). if nat_lt (length (counts_of w.written)) (2 ^ 31 - 1) then dues else [])
    (sent_are_due roster false peer prefix number k.entity w (contacts number) names
    (peers_told told w.readers k.readers) is.own is.entity readers ends (first_peers_are names) named
    ∙ ap (λ (rs : List Endpoint). heartbeats_for roster false false peer number (contacts number) w rs)
    (names_are told w.readers k.readers is.readers))
  where
    both : (b : Bool) → b ≡ false → b ≡ true → ⊥
    both true f g = absurd cc
    both false f g = absurd cc

-- the writer of this number, and where its HEARTBEATs end
abbrev IsBeating : Roster → ℕ → GuidPrefix → (ℕ → Endpoint → Contact) → ℕ → WriterKept → Writer → Type 0
IsBeating roster peer prefix contacts number k w =
    IsNamed roster peer prefix number k w × EndsAlike k w (contacts number)

beats_due_from : (roster : Roster) (contacts : ℕ → Endpoint → Contact) (peer : ℕ) (prefix : GuidPrefix) (n : ℕ)
    (ks : List WriterKept) (ws : List Writer) → length ws ≡ length ks
    → ((j : ℕ) (k : WriterKept) → slice_get ks j ≡ Some k
    → IsBeating roster peer prefix contacts (n + j) k (get_or ws j no_writer))
    → beats_of_all prefix contacts n ks ws ≡ heartbeats_from roster contacts peer n ws
beats_due_from roster contacts peer prefix n [] [] count each = refl
beats_due_from roster contacts peer prefix n [] (w ∷ ws) count each = absurd (omega (arith, count))
beats_due_from roster contacts peer prefix n (k ∷ ks) [] count each = absurd (omega (arith, count))
beats_due_from roster contacts peer prefix n (k ∷ ks) (w ∷ ws) count each =
    let first : n + 0 ≡ n = omega arith in
    let is = subst (λ (m : ℕ). IsBeating roster peer prefix contacts m k w) first (each zero k refl) in
    ap (λ (dues : List Due). dues ++ beats_of_all prefix contacts (n + 1) ks ws)
    (beats_due_of roster contacts peer prefix n k w is.0 is.1)
    ∙ ap (λ (dues : List Due). heartbeats_of roster contacts peer n w ++ dues)
    (beats_due_from roster contacts peer prefix (n + 1) ks ws (omega (arith, count))
    (λ j x at. let next : n + suc j ≡ n + 1 + j = omega arith in subst
    (λ (m : ℕ). IsBeating roster peer prefix contacts m x (get_or ws j no_writer)) next (each (suc j) x at)))

-- ---- what is due of a peer

pub named : (roster : Roster) (peer : Peer) (kept : PeerKept) (s : StandsFor kept roster peer) (j : ℕ) (k : WriterKept)
    → slice_get kept.writers j ≡ Some k
    → IsNamed roster peer.number kept.prefix (1 + j) k (get_or peer.part.rtps.writers j no_writer)
named roster peer kept s j k at =
    let number : suc j ≡ 1 + j = omega arith in
    let own : IsWriterOf roster (record { peer = peer.number; number = 1 + j }) (writer_identity k) =
    subst (λ (n : ℕ). IsWriterOf roster (record { peer = peer.number; number = n }) (writer_identity k)) number
    (own_writer_is roster peer.number kept s.is_peer j k at) in
    let stands = s.writers.each j k at in
    record {
      own = s.is_peer.prefix;
      entity = ap (λ (o : Option EntityId). option_map_or (λ (e : EntityId). e) o every_reader) own.entity;
      ends = own.ends;
      readers = stands.readers;
      matched = stands.matched;
    }

-- the name of a writer, and of those that it is matched with
pub writer_named : (roster : Roster) (peer : Peer) (kept : PeerKept) → StandsFor kept roster peer
    → (j : ℕ) (k : WriterKept) → slice_get kept.writers j ≡ Some k → writer_entity roster peer.number (1 + j) ≡ k.entity
writer_named roster peer kept s j k at = (named roster peer kept s j k at).entity

pub readers_named : (roster : Roster) (peer : Peer) (kept : PeerKept) → StandsFor kept roster peer
    → (j : ℕ) (k : WriterKept) → slice_get kept.writers j ≡ Some k → (row : ℕ) (n : ReaderName)
    → slice_get k.readers row ≡ Some n → IsReliableName roster (own_end peer.number j) n
readers_named roster peer kept s j k at = (own_writer_is roster peer.number kept s.is_peer j k at).ends.named

-- where the HEARTBEATs of a writer end
pub ends_of : (roster : Roster) (peer : Peer) (kept : PeerKept) → StandsFor kept roster peer → (j : ℕ) (k : WriterKept)
    → slice_get kept.writers j ≡ Some k
    → EndsAlike k (get_or peer.part.rtps.writers j no_writer) (peer.known.answered (1 + j))
ends_of roster peer kept s j k at =
    let number : suc j ≡ 1 + j = omega arith in
    subst (λ (n : ℕ). EndsAlike k (get_or peer.part.rtps.writers j no_writer) (peer.known.answered n)) number
    (ends_alike k (get_or peer.part.rtps.writers j no_writer) (peer.known.answered (suc j)) (s.writers.each j k at))

beats_due : (roster : Roster) (peer : Peer) (kept : PeerKept) → StandsFor kept roster peer
    → beats_of_all kept.prefix peer.known.answered 1 kept.writers peer.part.rtps.writers
    ≡ heartbeats_due roster peer.known.answered peer.number peer.part
beats_due roster peer kept s =
    beats_due_from roster peer.known.answered peer.number kept.prefix 1 kept.writers peer.part.rtps.writers
    s.writers.count (λ j k at. (
      named roster peer kept s j k at,
      ends_of roster peer kept s j k at,
    ))

-- what a peer sends at a tick is what is due
pub due_sent : (roster : Roster) (peer : Peer) (kept : PeerKept) (packets : List Packet) (unsent : ℕ)
    → StandsFor kept roster peer → BeatsOfAll kept.prefix kept.writers packets unsent
    → AreSent (heartbeats_due roster peer.known.answered peer.number peer.part) packets unsent
due_sent roster peer kept packets unsent s beats =
    subst (λ (dues : List Due). AreSent dues packets unsent) (beats_due roster peer kept s)
    (beats peer.part.rtps.writers peer.known.answered s.writers)

-- ---- it is true

pub part_of : (roster : Roster) (peer : Peer) (kept : PeerKept) → StandsFor kept roster peer
    → IsPartOf roster peer.number peer.part
part_of roster peer kept s zero there = let low = there.0 in absurd (omega (arith, low))
part_of roster peer kept s (suc j) there =
    let high = there.1 in
    let count = s.writers.count in
    let f = element kept.writers j (omega (arith, high, count)) in
    subst (λ (o : Option EntityId). IsSome o) (sym (own_writer_is roster peer.number kept s.is_peer j f.0 f.1).entity)
    refl

-- what a peer sends at a tick is true afterwards
pub due_true : (roster : Roster) (peer : Peer) (kept : PeerKept) (now : ℕ) (packets : List Packet) (unsent : ℕ)
    → StandsFor kept roster peer → tick_refusal peer.part now ≡ None
    → BeatsOfAll kept.prefix kept.writers packets unsent
    → (packet : Packet) (claim : Claim) → Contains packets packet → Claims roster packet.bytes claim
    → IsTrueAt peer.number (after_tick (was_asked peer.known.answered peer.part) peer.part now) claim
due_true roster peer kept now packets unsent s accepted beats packet claim among says =
    let old = peer.part in
    let contacts : ℕ → Endpoint → Contact = peer.known.answered in
    let new = after_tick (was_asked contacts old) old now in
    let step : TickStep old now Done new = (was_asked contacts old, (accepted, refl)) in
    let truthful = heartbeats_truthful roster contacts peer.number old s.is_peer.is_roster
    (part_of roster peer kept s) in
    let before =
    sent_true roster peer.number old (heartbeats_due roster contacts peer.number old) packets unsent truthful
    (due_sent roster peer kept packets unsent s beats) packet claim among says in
    true_on peer.number old new (TickStep-grows old now Done new step)
    (λ w r. subst (λ (rows : List ReaderProxy). NoLess (acknowledged_of (own_writer old w).readers r)
    (acknowledged_of rows r)) (sym (TickStep-acknowledged old now Done new step w))
    (no_less_same (acknowledged_of (own_writer old w).readers r)))
    claim before
