-- The HEARTBEATs of a writer to one peer: what each of them is, how they stand in their message; and, of those of a tick,
-- that one of them names each reader there that is behind.
use Rattle.std.proofs.Common.{◌≡◌, ℕ, zero, suc, ◌+◌, ◌≤◌, Bool, true, false, cond, nat_le, pos, List, [], ◌∷◌, Some, Contains, length, map, filter, refl, subst, ap, sym, ◌∙◌, ◌⊎◌, inl, inr, ⊎_elim, eqb-true, arith}
use Rattle.std.specs.Prelude.{if◌then◌else◌, ◌==◌, ◌||◌}
use Rattle.std.specs.List.{AllByRecursion}
use Rattle.std.specs.Option.{option_map}
use Rattle.std.proofs.lemmas.Bool.Decides.{nat_tests}
use Rattle.std.proofs.lemmas.Option.{same_Some}
use Rattle.dds_protocol.specs.Roster.{Roster}
use Rattle.dds_base.specs.declared.endpoint.Endpoint.{Endpoint}
use Rattle.dds_base.specs.declared.guid.EntityId.{EntityId}
use Rattle.dds_base.specs.declared.guid.GuidPrefix.{GuidPrefix}
use Rattle.dds_base.specs.Kept.{first_kept}
use Rattle.dds_base.proofs.OwnerLaws.{eqb-refl}
use Rattle.rtps_wire.specs.declared.acknack.AckNack.{AckNack as AckNackBody}
use Rattle.rtps_wire.specs.declared.heartbeat.Heartbeat.{Heartbeat as HeartbeatBody}
use Rattle.rtps_wire.specs.declared.message.Message.{Message}
use Rattle.rtps_wire.specs.declared.submessage.Submessage.{Submessage}
use Rattle.rtps_wire.specs.declared.submessage.Submessage.TheVariants.{InfoDst, Heartbeat, AckNack}
use Rattle.rtps_wire.specs.Messages.{IsWritable, spelling_of}
use Rattle.dds_machine.specs.Part.{Part, ReaderProxy, Writer, same_endpoint, row_of, own_writer, acknowledged_of, writer_changes, heartbeats_used, history_of}
use Rattle.dds_machine.proofs.Tables.{same_is}
use Rattle.dds_protocol.specs.Claims.{Receiver, receiver_of, every_reader, Names, StandsAt, StandsIn, Claim, Claims, Says}
use Rattle.dds_protocol.specs.Contact.{Contact, awaits_heartbeat}
use Rattle.dds_protocol.specs.DueMessages.{reader_entity, writer_entity, is_told, readers_told, begins_at, ends_at, is_one_for_all, heartbeats_to}
use Rattle.dds_protocol.proofs.Composed.{front_or_rest, later_in}
use Rattle.dds_protocol.proofs.CountsWritten.{contains_map}
use Rattle.dds_protocol.proofs.Dues.{addressed, message_to, stands_again, told_to}

-- ---- HEARTBEATs alone

-- each of these submessages is a HEARTBEAT of which this is so
abbrev pub IsBeat : (HeartbeatBody → Type 0) → Submessage → Type 0
IsBeat P (Heartbeat h) = P h
IsBeat P other = ⊥

abbrev pub AreBeats : (HeartbeatBody → Type 0) → List Submessage → Type 0
AreBeats P ss = AllByRecursion (IsBeat P) ss

pub beats_weaker : (P Q : HeartbeatBody → Type 0) → ((h : HeartbeatBody) → P h → Q h) → (ss : List Submessage)
    → AreBeats P ss → AreBeats Q ss
beats_weaker P Q weaker [] all = tt
beats_weaker P Q weaker (Heartbeat h ∷ ss) all = (weaker h all.0, beats_weaker P Q weaker ss all.1)
beats_weaker P Q weaker (other ∷ ss) all = absurd all.0

beats_filter : {X : Type 0} (P : HeartbeatBody → Type 0) (f : X → HeartbeatBody) (test : X → Bool)
    → ((x : X) → test x ≡ true → P (f x)) → (xs : List X) → AreBeats P (map (λ x. Heartbeat (f x)) (filter test xs))
beats_filter P f test all [] = tt
beats_filter {X} P f test all (x ∷ xs) = by (test x) refl (beats_filter P f test all xs)
  where
    by : (b : Bool) → test x ≡ b → AreBeats P (map (λ y. Heartbeat (f y)) (filter test xs))
        → AreBeats P (map (λ y. Heartbeat (f y)) (cond b (x ∷ filter test xs) (filter test xs)))
    by true is rest = (all x is, rest)
    by false is rest = rest

pub beat_among : (P : HeartbeatBody → Type 0) (ss : List Submessage) (h : HeartbeatBody) → AreBeats P ss
    → Contains ss (Heartbeat h) → P h
beat_among P [] h all among = let lt = among.1 in absurd (omega (arith, lt))
beat_among P (s ∷ ss) h all among =
    ⊎_elim (λ e. subst (λ (x : Submessage). IsBeat P x) e all.0)
    (λ (later : Contains ss (Heartbeat h)). beat_among P ss h all.1 later)
    (front_or_rest s ss (Heartbeat h) among.0 among.1 among.2)

-- ---- in a message

-- such a one stands there where it is among them
stands_where : (P : HeartbeatBody → Type 0) (far : GuidPrefix) (at : Receiver) (ss : List Submessage)
    (s : Submessage) → AreBeats P ss → Contains ss s → (index : ℕ) × StandsAt far at ss index at s
stands_where P far at [] s all among = let lt = among.1 in absurd (omega (arith, lt))
stands_where P far at (Heartbeat k ∷ ss) s all among =
    ⊎_elim (λ e. (0, (refl, sym e)))
    (λ (later : Contains ss s). let there = stands_where P far at ss s all.1 later in (suc there.0, there.1))
    (front_or_rest (Heartbeat k) ss s among.0 among.1 among.2)
stands_where P far at (other ∷ ss) s all among = absurd all.0

pub beat_stands : (P : HeartbeatBody → Type 0) (own to far : GuidPrefix) (ss : List Submessage) (s : Submessage)
    → AreBeats P ss → Contains ss s
    → (index : ℕ) × StandsAt far (receiver_of own) (InfoDst to ∷ ss) index (addressed own to) s
beat_stands P own to far ss s all among =
    let there = stands_where P far (addressed own to) ss s all among in (suc there.0, there.1)

-- of these none but they stand there
stands_beat : (P : HeartbeatBody → Type 0) (far : GuidPrefix) (from : Receiver) (ss : List Submessage) (index : ℕ)
    (at : Receiver) (s : Submessage) → AreBeats P ss → StandsAt far from ss index at s → (at ≡ from) × IsBeat P s
stands_beat P far from [] index at s all stands = absurd stands
stands_beat P far from (Heartbeat k ∷ ss) zero at s all stands =
    (stands.0, subst (λ (x : Submessage). IsBeat P x) (sym stands.1) all.0)
stands_beat P far from (Heartbeat k ∷ ss) (suc index) at s all stands =
    stands_beat P far from ss index at s all.1 stands
stands_beat P far from (other ∷ ss) index at s all stands = absurd all.0

-- a message with them, which was written, has no other submessage besides its INFO_DST
read_beat : (P : HeartbeatBody → Type 0) (own to far : GuidPrefix) (at : Receiver) (ss : List Submessage)
    (s : Submessage) → AreBeats P ss → IsWritable (message_to own to ss)
    → StandsIn (spelling_of (message_to own to ss)) far at s → (s ≡ InfoDst to)
    ⊎ ((at ≡ addressed own to) × IsBeat P s)
read_beat P own to far at ss s all writable there =
    by there.index (stands_again (message_to own to ss) far at s writable there)
  where
    by : (index : ℕ) → StandsAt far (receiver_of own) (InfoDst to ∷ ss) index at s
        → (s ≡ InfoDst to) ⊎ ((at ≡ addressed own to) × IsBeat P s)
    by zero stands = inl stands.1
    by (suc index) stands = inr (stands_beat P far (addressed own to) ss index at s all stands)

pub beat_read : (P : HeartbeatBody → Type 0) (own to far : GuidPrefix) (at : Receiver) (ss : List Submessage)
    (h : HeartbeatBody) → AreBeats P ss → IsWritable (message_to own to ss)
    → StandsIn (spelling_of (message_to own to ss)) far at (Heartbeat h) → (at ≡ addressed own to) × P h
beat_read P own to far at ss h all writable there =
    ⊎_elim (λ e. absurd cc) (λ is. is) (read_beat P own to far at ss (Heartbeat h) all writable there)

-- it has no ACKNACK
pub no_ask_read : (P : HeartbeatBody → Type 0) (own to far : GuidPrefix) (at : Receiver) (ss : List Submessage)
    (a : AckNackBody) → AreBeats P ss → IsWritable (message_to own to ss)
    → StandsIn (spelling_of (message_to own to ss)) far at (AckNack a) → ⊥
no_ask_read P own to far at ss a all writable there =
    ⊎_elim (λ e. absurd cc) (λ is. is.1) (read_beat P own to far at ss (AckNack a) all writable there)

-- what the message claims, one of them says
pub record BeatSays (roster : Roster) (own to : GuidPrefix) (P : HeartbeatBody → Type 0) (claim : Claim) : Type 0 where
  pub far : GuidPrefix
  pub body : HeartbeatBody
  pub is : P body
  pub says : Says roster far (addressed own to) (Heartbeat body) claim

pub beat_says : (roster : Roster) (own to : GuidPrefix) (P : HeartbeatBody → Type 0) (ss : List Submessage)
    (claim : Claim) → AreBeats P ss → IsWritable (message_to own to ss)
    → Claims roster (spelling_of (message_to own to ss)) claim → BeatSays roster own to P claim
beat_says roster own to P ss claim all writable h =
    let t = told_to roster own to ss claim writable h in
    let is = stands_beat P t.far (addressed own to) ss t.index t.at t.submessage all t.stands in
    by t.far t.submessage is.1 (subst (λ (r : Receiver). Says roster t.far r t.submessage claim) is.0 t.says)
  where
    by : (far : GuidPrefix) (s : Submessage) → IsBeat P s → Says roster far (addressed own to) s claim
        → BeatSays roster own to P claim
    by far (Heartbeat body) is says = record { far = far; body = body; is = is; says = says }
    by far other is says = absurd is

-- ---- those of a writer

-- the next HEARTBEAT of a writer, with these flags, to readers of this entity id, from this number to that
abbrev pub beat_body : (final liveliness : Bool) (reader writer : EntityId) → ℕ → ℕ → Writer → HeartbeatBody
beat_body final liveliness reader writer first last w = record {
  reader_id = reader;
  writer_id = writer;
  first_sn = first;
  last_sn = last;
  count = pos (heartbeats_used w + 1);
  final_flag = final;
  liveliness_flag = liveliness;
}

-- to all readers, from the first kept number to the last; or by name to one at this peer, from where that one begins to
-- where it ends
abbrev pub IsToSome : Roster → (Endpoint → Contact) → Writer → ℕ → EntityId → ℕ → ℕ → Type 0
IsToSome roster contacts w to reader first last =
    ((reader ≡ every_reader) × (first ≡ first_kept (history_of w)) × (last ≡ length (writer_changes w)))
    ⊎ ((r : Endpoint) × (r.peer ≡ to) × (reader ≡ reader_entity roster r.peer r.number) × (first ≡ begins_at w r)
    × (last ≡ ends_at contacts w r))

-- the HEARTBEAT is such a one of the peer's writer of this number
pub record IsBeatTo (roster : Roster) (final liveliness : Bool) (peer number : ℕ) (contacts : Endpoint → Contact)
    (w : Writer) (to : ℕ) (h : HeartbeatBody) : Type 0 where
  pub is : h ≡ beat_body final liveliness h.reader_id (writer_entity roster peer number) h.first_sn h.last_sn w
  pub whom : IsToSome roster contacts w to h.reader_id h.first_sn h.last_sn

-- so is each of those to this peer's readers
pub are_beats : (roster : Roster) (final liveliness : Bool) (peer number : ℕ) (contacts : Endpoint → Contact)
    (w : Writer) (readers : List Endpoint) (to : ℕ)
    → AreBeats (IsBeatTo roster final liveliness peer number contacts w to)
    (heartbeats_to roster final liveliness peer number contacts w readers to)
are_beats roster final liveliness peer number contacts w readers to = by (is_one_for_all contacts w to)
  where
    entity : EntityId
    entity = writer_entity roster peer number

    body : Endpoint → HeartbeatBody
    body r =
        beat_body final liveliness (reader_entity roster r.peer r.number) entity (begins_at w r) (ends_at contacts w r)
        w

    at_peer : (r : Endpoint) → (r.peer == to) ≡ true
        → IsBeatTo roster final liveliness peer number contacts w to (body r)
    at_peer r is = record { is = refl; whom = inr (r, eqb-true r.peer to is, refl, refl, refl) }

    by : (b : Bool) → AreBeats (IsBeatTo roster final liveliness peer number contacts w to)
        (if b then Heartbeat (beat_body final liveliness every_reader entity (first_kept (history_of w))
        (length (writer_changes w)) w) ∷ []
        else map (λ (r : Endpoint). Heartbeat (body r)) (filter (λ (r : Endpoint). r.peer == to) readers))
    by true = (record { is = refl; whom = inl (refl, refl, refl) }, tt)
    by false =
        beats_filter (IsBeatTo roster final liveliness peer number contacts w to) body (λ (r : Endpoint). r.peer == to)
        at_peer readers

-- ---- those of a tick

-- the next HEARTBEAT of the peer's writer of this number, to readers of this entity id, from this number to that
abbrev pub beat_of : Roster → ℕ → Part → ℕ → EntityId → ℕ → ℕ → HeartbeatBody
beat_of roster peer part number reader_id first last =
    beat_body false false reader_id (writer_entity roster peer number) first last (own_writer part number)

-- those to this peer's readers that are behind, ask for one, or are silent
abbrev pub beats_to : Roster → (ℕ → Endpoint → Contact) → ℕ → Part → ℕ → ℕ → List Submessage
beats_to roster contacts peer part number to =
    heartbeats_to roster false false peer number (contacts number) (own_writer part number)
    (readers_told (contacts number) (own_writer part number)) to

abbrev pub beat_message : Roster → (ℕ → Endpoint → Contact) → ℕ → Part → ℕ → ℕ → Message
beat_message roster contacts peer part number to =
    message_to (roster.prefix peer) (roster.prefix to) (beats_to roster contacts peer part number to)

-- each of them is such a one
abbrev pub IsBeatOf : Roster → (ℕ → Endpoint → Contact) → ℕ → Part → ℕ → ℕ → HeartbeatBody → Type 0
IsBeatOf roster contacts peer part number to h =
    IsBeatTo roster false false peer number (contacts number) (own_writer part number) to h

pub beats_are : (roster : Roster) (contacts : ℕ → Endpoint → Contact) (peer : ℕ) (part : Part) (number to : ℕ)
    → AreBeats (IsBeatOf roster contacts peer part number to) (beats_to roster contacts peer part number to)
beats_are roster contacts peer part number to =
    are_beats roster false false peer number (contacts number) (own_writer part number)
    (readers_told (contacts number) (own_writer part number)) to

-- ---- who is told

contains_filter : {X : Type 0} (test : X → Bool) (xs : List X) (x : X) → Contains xs x → test x ≡ true
    → Contains (filter test xs) x
contains_filter test [] x among is = let lt = among.1 in absurd (omega (arith, lt))
contains_filter {X} test (y ∷ ys) x among is =
    ⊎_elim (λ e. here (test y) (ap test e ∙ is) e)
    (λ (later : Contains ys x). there (test y) (contains_filter test ys x later is))
    (front_or_rest y ys x among.0 among.1 among.2)
  where
    here : (b : Bool) → b ≡ true → y ≡ x → Contains (cond b (y ∷ filter test ys) (filter test ys)) x
    here true passes e = (0, omega arith, e)
    here false passes e = cc

    there : (b : Bool) → Contains (filter test ys) x → Contains (cond b (y ∷ filter test ys) (filter test ys)) x
    there true h = later_in y (filter test ys) x h
    there false h = h

-- the row of a matched reader
record RowOf (rows : List ReaderProxy) (r : Endpoint) (a : ℕ) : Type 0 where
  row : ReaderProxy
  among : Contains rows row
  is : row.reader ≡ r
  acknowledged : row.acknowledged ≡ a

row_there : (rows : List ReaderProxy) (r : Endpoint) (a : ℕ) → acknowledged_of rows r ≡ Some a → RowOf rows r a
row_there [] r a h = cc
row_there (p ∷ ps) r a h = by (same_endpoint p.reader r) refl h (λ k. row_there ps r a k)
  where
    by : (b : Bool) → same_endpoint p.reader r ≡ b
        → option_map (λ (q : ReaderProxy). q.acknowledged)
        (cond b (Some p) (row_of (λ (q : ReaderProxy). q.reader) ps r)) ≡ Some a
        → (acknowledged_of ps r ≡ Some a → RowOf ps r a) → RowOf (p ∷ ps) r a
    by true e k later = record {
      row = p;
      among = (0, omega arith, refl);
      is = same_is p.reader r e;
      acknowledged = same_Some p.acknowledged a k;
    }
    by false e k later =
        let f = later k in record {
          row = f.row;
          among = later_in p ps f.row f.among;
          is = f.is;
          acknowledged = f.acknowledged;
        }

-- a reader that has not acknowledged all is among those that are told
pub reader_told : (contacts : Endpoint → Contact) (w : Writer) (r : Endpoint) (a : ℕ)
    → acknowledged_of w.readers r ≡ Some a → a ≤ length (writer_changes w) → Contains (readers_told contacts w) r
reader_told contacts w r a h low =
    subst (λ (x : Endpoint). Contains (readers_told contacts w) x) f.is
    (contains_map (λ (p : ReaderProxy). p.reader) (filter (is_told contacts w) w.readers) f.row
    (contains_filter (is_told contacts w) w.readers f.row f.among
    (ap (λ (b : Bool). b || awaits_heartbeat (contacts f.row.reader)) small)))
  where
    f : RowOf w.readers r a
    f = row_there w.readers r a h

    small : nat_le f.row.acknowledged (length (writer_changes w)) ≡ true
    small = let same = f.acknowledged in grind (arith, nat_tests, same, low)

-- one of the HEARTBEATs to its peer names it
pub record NamedBeat (roster : Roster) (contacts : ℕ → Endpoint → Contact) (peer : ℕ) (part : Part) (number : ℕ)
    (reader : Endpoint) : Type 0 where
  pub body : HeartbeatBody
  pub among : Contains (beats_to roster contacts peer part number reader.peer) (Heartbeat body)
  pub named : Names body.reader_id (reader_entity roster reader.peer reader.number)

pub named_beat : (roster : Roster) (contacts : ℕ → Endpoint → Contact) (peer : ℕ) (part : Part) (number : ℕ)
    (reader : Endpoint) (a : ℕ)
    → acknowledged_of (own_writer part number).readers reader ≡ Some a
    → a ≤ length (writer_changes (own_writer part number)) → NamedBeat roster contacts peer part number reader
named_beat roster contacts peer part number reader a row low =
    by (is_one_for_all (contacts number) w reader.peer) (λ b among named. record {
      body = b;
      among = among;
      named = named;
    })
  where
    w : Writer
    w = own_writer part number

    ends : List Endpoint
    ends = filter (λ (r : Endpoint). r.peer == reader.peer) (readers_told (contacts number) w)

    body : Endpoint → HeartbeatBody
    body r =
        beat_of roster peer part number (reader_entity roster r.peer r.number) (begins_at w r)
        (ends_at (contacts number) w r)

    all : HeartbeatBody
    all = beat_of roster peer part number every_reader (first_kept (history_of w)) (length (writer_changes w))

    beats : Bool → List Submessage
    beats b =
        if b then Heartbeat all ∷ [] else map (λ (r : Endpoint). Heartbeat (body r)) ends

    by : (b : Bool)
        → ((x : HeartbeatBody) → Contains (beats b) (Heartbeat x)
        → Names x.reader_id (reader_entity roster reader.peer reader.number)
        → NamedBeat roster contacts peer part number reader)
        → NamedBeat roster contacts peer part number reader
    by true make =
        make all (0, omega arith, refl) (inr refl)
    by false make =
        make (body reader)
        (contains_map (λ (r : Endpoint). Heartbeat (body r)) ends reader
        (contains_filter (λ (r : Endpoint). r.peer == reader.peer) (readers_told (contacts number) w) reader
        (reader_told (contacts number) w reader a row low) (eqb-refl reader.peer)))
        (inl refl)
