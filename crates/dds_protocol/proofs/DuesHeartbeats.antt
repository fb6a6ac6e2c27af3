-- A HEARTBEAT that is due at a tick claims only what its writer has dropped, or does not owe the reader, or the reader has
-- acknowledged.
use Rattle.std.proofs.Common.{◌≡◌, ℕ, suc, ◌+◌, ◌-◌, ◌^◌, ◌<◌, ◌≤◌, Bool, true, false, ◌||◌, cond, List, [], ◌∷◌, length, Contains, get_or, map, filter, refl, subst, ap, sym, ◌∙◌, inl, inr, ⊎_elim, arith, nat_le, nat_lt}
use Rattle.std.specs.Prelude.{if◌then◌else◌}
use Rattle.std.proofs.lemmas.Bool.Decides.{nat_tests}
use Rattle.std.specs.List.{All, list_any}
use Rattle.std.proofs.lemmas.List.Elements.{All-append, All-contains_itself, All-map, All-nil, All-weaker}
use Rattle.dds_protocol.specs.Roster.{IsRoster, Roster}
use Rattle.dds_base.specs.declared.guid.EntityId.{EntityId}
use Rattle.dds_base.specs.declared.guid.GuidPrefix.{GuidPrefix}
use Rattle.rtps_wire.specs.declared.heartbeat.Heartbeat.{Heartbeat as HeartbeatBody}
use Rattle.rtps_wire.specs.declared.submessage.Submessage.TheVariants.{Heartbeat}
use Rattle.rtps_wire.specs.Fields.{IsEntityId}
use Rattle.rtps_wire.specs.Messages.{IsWritable, spelling_of}
use Rattle.dds_base.specs.declared.endpoint.Endpoint.{Endpoint}
use Rattle.dds_machine.specs.Numbered.{HasNumber}
use Rattle.dds_machine.specs.Part.{Part, ReaderProxy, Writer, is_behind, no_writer, own_writer, writer_changes, heartbeats_used, peers_of}
use Rattle.dds_protocol.specs.Claims.{Receiver, IsWriter, IsToReader, Claim, ChangeIs, MayPass, PlaceReached, Asserts, Says, Claims}
use Rattle.dds_protocol.specs.Peer.{IsTrueAt}
use Rattle.dds_protocol.specs.Contact.{Contact, awaits_heartbeat}
use Rattle.dds_protocol.specs.DueMessages.{Due, reader_entity, writer_entity, readers_told, begins_at, heartbeats_to, heartbeats_due_to, heartbeats_of, heartbeats_from, heartbeats_due}
use Rattle.dds_protocol.specs.Dues.{IsPartOf, IsTruthful, AreTruthful, IsSized, HasSmallChanges, AreFew, HasFewMatches, CanBeWritten}
use Rattle.dds_protocol.proofs.BeatsTo.{BeatSays, IsBeatTo, IsToSome, are_beats, beat_says}
use Rattle.dds_protocol.proofs.Dues.{addressed}
use Rattle.dds_protocol.proofs.DuesFew.{told_few}
use Rattle.dds_protocol.proofs.DuesMatched.{OwnName, own_name, reader_named}
use Rattle.dds_protocol.proofs.DuesUnkept.{Passes, below_begin_passes, below_first_passes}
use Rattle.dds_protocol.proofs.DuesWritable.{heartbeats_writable}
use Rattle.dds_protocol.proofs.DuesWritten.{reader_octets, writer_octets}
use Rattle.dds_protocol.proofs.OneName.{none_named, one_named, one_writer}

-- a writer of the peer, which the configuration has, and what it knows of its readers
pub record Beating : Type 0 where
  pub roster : Roster
  pub checked : IsRoster roster
  pub peer : ℕ
  pub part : Part
  pub number : ℕ
  pub contacts : Endpoint → Contact
  pub own : OwnName roster peer part number

-- the HEARTBEAT is one of those that are due of it to this peer, with these flags
abbrev pub IsBeatOf : Beating → (final liveliness : Bool) → ℕ → HeartbeatBody → Type 0
IsBeatOf b final liveliness to h =
    IsBeatTo b.roster final liveliness b.peer b.number b.contacts (own_writer b.part b.number) to h

-- one of these submessages says it there
abbrev pub SaysAt : Beating → GuidPrefix → ℕ → HeartbeatBody → Claim → Type 0
SaysAt b far to h claim =
    Says b.roster far (addressed (b.roster.prefix b.peer) (b.roster.prefix to)) (Heartbeat h) claim

-- it names the writer
pub names_writer : (b : Beating) (final liveliness : Bool) (to : ℕ) (h : HeartbeatBody) → IsBeatOf b final liveliness to h
    → (v : Endpoint) → IsWriter b.roster (b.roster.prefix b.peer) h.writer_id v
    → v ≡ record { peer = b.peer; number = b.number }
names_writer b final liveliness to h is v from =
    one_writer b.roster (b.roster.prefix b.peer) (writer_entity b.roster b.peer b.number) v
    (record { peer = b.peer; number = b.number }) b.checked
    (subst (λ (e : EntityId). IsWriter b.roster (b.roster.prefix b.peer) e v)
    (ap (λ (x : HeartbeatBody). x.writer_id) is.is) from) b.own.name

-- whoever is named by the entity id of a reader at a peer is that reader
pub named_one : (roster : Roster) (to : ℕ) (far from : GuidPrefix) (named writer_id : EntityId) (v r one : Endpoint)
    → IsRoster roster → one.peer ≡ to → named ≡ reader_entity roster one.peer one.number
    → IsToReader roster far (addressed from (roster.prefix to)) named writer_id v r → r ≡ one
named_one roster to far from named writer_id v r one checked there is is_to =
    ⊎_elim
    (λ reader. one_named roster (roster.prefix one.peer) entity writer_id far at v r one checked
    (ap (λ (k : ℕ). roster.prefix k) (sym there)) reader is_named)
    (λ none. absurd (none_named roster writer_id far at v r checked
    (subst (λ (e : EntityId). IsToReader roster far at e writer_id v r) none is_named)))
    (reader_named roster one)
  where
    at : Receiver
    at = addressed from (roster.prefix to)

    entity : EntityId
    entity = reader_entity roster one.peer one.number

    is_named : IsToReader roster far at entity writer_id v r
    is_named = subst (λ (e : EntityId). IsToReader roster far at e writer_id v r) is is_to

-- a reader may pass over the numbers below the first of a HEARTBEAT that is to it
passes : (b : Beating) (to : ℕ) (h : HeartbeatBody) (far : GuidPrefix) (v r : Endpoint) (n : ℕ)
    → IsToReader b.roster far (addressed (b.roster.prefix b.peer) (b.roster.prefix to)) h.reader_id h.writer_id v r
    → 1 ≤ n → n < h.first_sn
    → IsToSome b.roster b.contacts (own_writer b.part b.number) to h.reader_id h.first_sn h.last_sn
    → Passes (own_writer b.part b.number) r n
passes b to h far v r n is_to low less (inl all) =
    let first = all.1 in below_first_passes (own_writer b.part b.number) r n low (omega (arith, less, first))
passes b to h far v r n is_to low less (inr one) = below_begin_passes w r n low (omega (arith, less, begins))
  where
    w : Writer
    w = own_writer b.part b.number

    same : r ≡ one.0
    same =
        named_one b.roster to far (b.roster.prefix b.peer) h.reader_id h.writer_id v r one.0 b.checked one.1 one.2
        is_to

    begins : h.first_sn ≡ begins_at w r
    begins = one.3 ∙ ap (λ (e : Endpoint). begins_at w e) (sym same)

-- it claims what the writer does not keep, or does not owe
pub first_says : (b : Beating) (final liveliness : Bool) (to : ℕ) (h : HeartbeatBody) → IsBeatOf b final liveliness to h
    → (far : GuidPrefix) (v r : Endpoint) (n : ℕ) → SaysAt b far to h (MayPass v r n)
    → IsTrueAt b.peer b.part (MayPass v r n)
first_says b final liveliness to h is far v r n says =
    let same = names_writer b final liveliness to h is v says.0.is_to.from in (
      ap (λ (e : Endpoint). e.peer) same,
      subst (λ (e : Endpoint). Passes (own_writer b.part e.number) r n) (sym same)
          (passes b to h far v r n says.0.is_to says.1 says.2 is.whom),
    )

-- that of a tick claims nothing besides
tick_says : (b : Beating) (to : ℕ) (h : HeartbeatBody) → IsBeatOf b false false to h → (far : GuidPrefix) (claim : Claim)
    → SaysAt b far to h claim → IsTrueAt b.peer b.part claim
tick_says b to h is far (ChangeIs v r n c) says = absurd says
tick_says b to h is far (PlaceReached v r base) says = absurd says
tick_says b to h is far (Asserts v r k) says =
    let flag = sym says.1 ∙ ap (λ (x : HeartbeatBody). x.liveliness_flag) is.is in absurd cc
tick_says b to h is far (MayPass v r n) says = first_says b false false to h is far v r n says

-- the message with the HEARTBEATs of a tick, to the peer of this number
abbrev pub heartbeat_due : Roster → (ℕ → Endpoint → Contact) → ℕ → Part → ℕ → ℕ → Due
heartbeat_due roster contacts peer part number to =
    heartbeats_due_to roster false false peer number (contacts number) (own_writer part number)
    (readers_told (contacts number) (own_writer part number)) to

-- what a message with such HEARTBEATs claims, one of them says
pub due_says : (b : Beating) (final liveliness : Bool) (readers : List Endpoint) (to : ℕ) (claim : Claim)
    → IsWritable (heartbeats_due_to b.roster final liveliness b.peer b.number b.contacts (own_writer b.part b.number)
    readers to).message
    → Claims b.roster (spelling_of (heartbeats_due_to b.roster final liveliness b.peer b.number b.contacts
    (own_writer b.part b.number) readers to).message) claim
    → BeatSays b.roster (b.roster.prefix b.peer) (b.roster.prefix to) (IsBeatOf b final liveliness to) claim
due_says b final liveliness readers to claim writable says =
    beat_says b.roster (b.roster.prefix b.peer) (b.roster.prefix to) (IsBeatOf b final liveliness to)
    (heartbeats_to b.roster final liveliness b.peer b.number b.contacts (own_writer b.part b.number) readers to) claim
    (are_beats b.roster final liveliness b.peer b.number b.contacts (own_writer b.part b.number) readers to) writable
    says

-- That of a tick is true.
beat_truthful : (b : Beating) (to : ℕ) → IsTruthful b.roster b.peer b.part
    (heartbeats_due_to b.roster false false b.peer b.number b.contacts (own_writer b.part b.number)
    (readers_told b.contacts (own_writer b.part b.number)) to)
beat_truthful b to claim writable says =
    let t = due_says b false false (readers_told b.contacts (own_writer b.part b.number)) to claim writable says in
    tick_says b to t.body t.is t.far claim t.says

-- ---- all that is due at a tick

-- it is so of each message with HEARTBEATs of the peer's writers, to the peers of those that are told, while there are
-- counts left
abbrev pub OfEach : Roster → (ℕ → Endpoint → Contact) → ℕ → Part → (Due → Type 0) → Type 0
OfEach roster contacts peer part P =
    (number to : ℕ) → HasNumber part.rtps.writers number → heartbeats_used (own_writer part number) < 2 ^ 31 - 1
    → Contains (peers_of (readers_told (contacts number) (own_writer part number))) to
    → P (heartbeat_due roster contacts peer part number to)

-- where none passes the one test or the other, nothing is left
none_left : {X : Type 0} (test other : X → Bool) (xs : List X) → (list_any test xs || list_any other xs) ≡ false
    → filter (λ x. test x || other x) xs ≡ []
none_left test other [] none = refl
none_left {X = X} test other (x ∷ xs) none =
    by (test x) (list_any test xs) (other x) (list_any other xs) none (λ e. none_left test other xs e)
  where
    left : List X
    left = filter (λ y. test y || other y) xs

    by : (a b c d : Bool) → ((a || b) || (c || d)) ≡ false → ((b || d) ≡ false → left ≡ [])
        → cond (a || c) (x ∷ left) left ≡ []
    by true b c d h later = cc
    by false true c d h later = cc
    by false false true d h later = cc
    by false false false d h later = later h

-- some reader is behind, asks, or is silent, where there is a peer of one that is told
pub some_told : (contacts : Endpoint → Contact) (w : Writer) (to : ℕ) → Contains (peers_of (readers_told contacts w)) to
    → (is_behind w || list_any (λ (p : ReaderProxy). awaits_heartbeat (contacts p.reader)) w.readers) ≡ true
some_told contacts w to among =
    by (is_behind w || list_any (λ (p : ReaderProxy). awaits_heartbeat (contacts p.reader)) w.readers) refl
  where
    by : (b : Bool)
        → (is_behind w || list_any (λ (p : ReaderProxy). awaits_heartbeat (contacts p.reader)) w.readers) ≡ b
        → (is_behind w || list_any (λ (p : ReaderProxy). awaits_heartbeat (contacts p.reader)) w.readers) ≡ true
    by true is = is
    by false is =
        let empty : peers_of (readers_told contacts w) ≡ [] =
        ap (λ (ps : List ReaderProxy). peers_of (map (λ (p : ReaderProxy). p.reader) ps))
        (none_left (λ (p : ReaderProxy). nat_le p.acknowledged (length (writer_changes w)))
        (λ (p : ReaderProxy). awaits_heartbeat (contacts p.reader)) w.readers is) in
        let none = ap (λ (ns : List ℕ). length ns) empty in let lt = among.1 in absurd (omega (arith, none, lt))

-- what is so of each element of a list is so of all
pub all_of : {X : Type 0} (P : X → Type 0) (xs : List X) → ((x : X) → Contains xs x → P x) → All P xs
all_of P xs f = All-weaker (Contains xs) P f xs (All-contains_itself xs)

-- the HEARTBEATs of one writer
of_writer : (roster : Roster) (contacts : ℕ → Endpoint → Contact) (peer : ℕ) (part : Part) (P : Due → Type 0)
    → OfEach roster contacts peer part P → (number : ℕ) → HasNumber part.rtps.writers number
    → All P (heartbeats_of roster contacts peer number (own_writer part number))
of_writer roster contacts peer part P each number there = by (nat_lt (heartbeats_used w) (2 ^ 31 - 1)) refl
  where
    w : Writer
    w = own_writer part number

    ends : List ℕ
    ends = peers_of (readers_told (contacts number) w)

    by : (left : Bool) → nat_lt (heartbeats_used w) (2 ^ 31 - 1) ≡ left
        → All P (if left then map (heartbeat_due roster contacts peer part number) ends else [])
    by true e =
        let left : heartbeats_used w < 2 ^ 31 - 1 = grind (arith, nat_tests) in
        All-map P (heartbeat_due roster contacts peer part number) ends
        (all_of (λ to. P (heartbeat_due roster contacts peer part number to)) ends
        (λ to among. each number to there left among))
    by false e = All-nil P

-- these are the peer's writers from this number on
abbrev AreFrom : Part → ℕ → List Writer → Type 0
AreFrom part number ws =
    (k : ℕ) → k < length ws
    → HasNumber part.rtps.writers (number + k) × (own_writer part (number + k) ≡ get_or ws k no_writer)

of_writers : (roster : Roster) (contacts : ℕ → Endpoint → Contact) (peer : ℕ) (part : Part) (P : Due → Type 0)
    → OfEach roster contacts peer part P
    → (number : ℕ) (ws : List Writer) → AreFrom part number ws → All P (heartbeats_from roster contacts peer number ws)
of_writers roster contacts peer part P each number [] rest = All-nil P
of_writers roster contacts peer part P each number (w ∷ ws) rest =
    let here : number + 0 ≡ number = omega arith in
    let first = rest 0 (omega arith) in
    let there : HasNumber part.rtps.writers number = subst (λ (n : ℕ). HasNumber part.rtps.writers n) here first.0 in
    let is : own_writer part number ≡ w = subst (λ (n : ℕ). own_writer part n ≡ w) here first.1 in
    All-append P (heartbeats_of roster contacts peer number w) (heartbeats_from roster contacts peer (number + 1) ws)
    (subst (λ (x : Writer). All P (heartbeats_of roster contacts peer number x)) is
    (of_writer roster contacts peer part P each number there))
    (of_writers roster contacts peer part P each (number + 1) ws
    (λ k lt.
    let over : number + suc k ≡ number + 1 + k = omega arith in
    subst (λ (n : ℕ). HasNumber part.rtps.writers n × (own_writer part n ≡ get_or ws k no_writer)) over
    (rest (suc k) (omega (arith, lt)))))

pub of_all : (roster : Roster) (contacts : ℕ → Endpoint → Contact) (peer : ℕ) (part : Part) (P : Due → Type 0)
    → OfEach roster contacts peer part P → All P (heartbeats_due roster contacts peer part)
of_all roster contacts peer part P each =
    of_writers roster contacts peer part P each 1 part.rtps.writers
    (λ k lt.
    let over : suc k ≡ 1 + k = omega arith in
    subst (λ (n : ℕ). HasNumber part.rtps.writers n × (own_writer part n ≡ get_or part.rtps.writers k no_writer)) over
    ((omega arith, omega (arith, lt)), refl))

-- All that is due at a tick is true of the part that it finds.
pub heartbeats_truthful : (roster : Roster) (contacts : ℕ → Endpoint → Contact) (peer : ℕ) (part : Part)
    → IsRoster roster → IsPartOf roster peer part
    → AreTruthful roster peer part (heartbeats_due roster contacts peer part)
heartbeats_truthful roster contacts peer part checked of =
    of_all roster contacts peer part (IsTruthful roster peer part)
    (λ number to there left among.
    let own : OwnName roster peer part number = own_name roster peer part of number there in
    beat_truthful (record {
      roster = roster;
      checked = checked;
      peer = peer;
      part = part;
      number = number;
      contacts = contacts number;
      own = own;
    }) to)

-- the names of the writer and of each reader have their octets
pub reader_sized : (roster : Roster) → IsSized roster → (r : Endpoint)
    → IsEntityId (reader_entity roster r.peer r.number)
reader_sized roster sized r =
    ⊎_elim (λ is. (reader_octets roster sized (roster.prefix r.peer) (reader_entity roster r.peer r.number) r is).1)
    (λ none. subst (λ (e : EntityId). IsEntityId e) (sym none) refl) (reader_named roster r)

pub due_writable : (roster : Roster) (final liveliness : Bool) (peer : ℕ) (part : Part) (number to : ℕ)
    (contacts : Endpoint → Contact) (readers : List Endpoint) → IsPartOf roster peer part → IsSized roster
    → HasSmallChanges part → HasNumber part.rtps.writers number → AreFew readers
    → heartbeats_used (own_writer part number) < 2 ^ 31 - 1
    → IsWritable (heartbeats_due_to roster final liveliness peer number contacts (own_writer part number) readers
    to).message
due_writable roster final liveliness peer part number to contacts readers of sized small there few left =
    let me : Endpoint = record { peer = peer; number = number } in
    let entity : EntityId = writer_entity roster peer number in
    let name = (own_name roster peer part of number there).name in
    heartbeats_writable roster final liveliness peer number to contacts (own_writer part number) readers
    (sized.prefix peer) (sized.prefix to)
    (writer_octets roster sized (roster.prefix peer) entity me name).1 (reader_sized roster sized) (few to)
    (small number).few left

-- All that is due at a tick can be written.
pub ticks_writable : (roster : Roster) (contacts : ℕ → Endpoint → Contact) (peer : ℕ) (part : Part)
    → IsPartOf roster peer part → IsSized roster → HasSmallChanges part → HasFewMatches part
    → All CanBeWritten (heartbeats_due roster contacts peer part)
ticks_writable roster contacts peer part of sized small few =
    of_all roster contacts peer part CanBeWritten
    (λ number to there left among places. due_writable roster false false peer part number to (contacts number)
    (readers_told (contacts number) (own_writer part number)) of sized small there
    (told_few (contacts number) (own_writer part number) (few number)) left)
