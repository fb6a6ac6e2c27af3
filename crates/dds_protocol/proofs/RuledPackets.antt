-- A packet that a peer takes up by the rules of the protocol makes moves that rest on what packets claim.
use Rattle.std.proofs.Common.{◌≡◌, ◌⊎◌, ℕ, ℤ, zero, suc, ◌+◌, ◌<◌, true, false, List, [], ◌∷◌, ◌++◌, Option, Some, None, Contains, refl, subst, ap, sym, ◌∙◌, inl, inr, ⊎_elim, arith, length}
use Rattle.dds_base.specs.declared.change.Change.{Change}
use Rattle.dds_protocol.specs.Roster.{IsRoster, Roster}
use Rattle.dds_base.specs.declared.guid.EntityId.{EntityId}
use Rattle.dds_base.specs.declared.guid.GuidPrefix.{GuidPrefix}
use Rattle.dds_base.specs.Kept.{numbers_from}
use Rattle.dds_base.specs.Counts.{is_later}
use Rattle.rtps_wire.specs.declared.acknack.AckNack.{AckNack as AckNackBody}
use Rattle.rtps_wire.specs.declared.heartbeat.Heartbeat.{Heartbeat as HeartbeatBody}
use Rattle.rtps_wire.specs.declared.message.Message.{Message}
use Rattle.rtps_wire.specs.declared.submessage.Submessage.{Submessage}
use Rattle.rtps_wire.specs.declared.submessage.Submessage.TheVariants.{Data, Gap, Heartbeat, AckNack}
use Rattle.rtps_wire.specs.Messages.{ReadsMessage}
use Rattle.dds_base.specs.declared.endpoint.Endpoint.{Endpoint}
use Rattle.dds_machine.specs.declared.reply.Move.{Move}
use Rattle.dds_machine.specs.declared.reply.Report.{Report}
use Rattle.dds_machine.specs.Matching.{is_known}
use Rattle.dds_machine.specs.Numbered.{HasNumber, numbered}
use Rattle.dds_machine.specs.Part.{WriterProxy, Part, own_proxies, place_of, heard_of}
use Rattle.dds_machine.specs.Moves.{IsMatchedAt, AreMoves}
use Rattle.dds_protocol.specs.Claims.{Receiver, receiver_of, after_submessage, StandsAt, StandsIn, IsReader, IsToReader, ChangeIs, Concerns, Says}
use Rattle.dds_protocol.specs.Receipt.{MovesOver, TakesUp, IsNotTaken, Receives}
use Rattle.dds_protocol.specs.Peer.{Delivery, IsApplied, IsBefore, claimed, packets_of}
use Rattle.dds_protocol.specs.DueMessages.{Due}
use Rattle.dds_protocol.specs.Protocol.{Known, State, InTurn, ReaderTakes, Takes, MayNeedMemory, FollowsMessage, TakesPacket}
use Rattle.dds_protocol.specs.Backed.{reader_at, IsClaimed, IsBacked}
use Rattle.dds_protocol.proofs.Attached.{SameMet, is_met}
use Rattle.dds_protocol.proofs.Knowing.{claimed_on}
use Rattle.dds_protocol.proofs.Composed.{front_or_rest, later_in}
use Rattle.dds_protocol.proofs.Framing.{has_reader}
use Rattle.dds_protocol.proofs.RuledReaders.{Coming, grounds, Backs, Met, IsPast}
use Rattle.dds_protocol.proofs.RuledTurns.{IsTelling, Turn, met_on, readers_taken}
use Rattle.dds_protocol.proofs.RuledWriters.{IsTaken, writers_taken}
use Rattle.rtps_wire.proofs.MessageLaws.{message_one}

-- ---- one submessage

-- it was taken up: the moves are legal, what is known is backed, and a DATA moves what it can
pub record Taken (c : Coming) (old : State) (made : List Move) (new : State) : Type 0 where
  pub moves : AreMoves (grounds c) old.part made new.part
  pub backed : Backs c new
  pub readers : length new.part.rtps.readers ≡ length old.part.rtps.readers
  pub past : (r : ℕ) → HasNumber new.part.rtps.readers r → IsPast c c.submessage r new
  pub over : MovesOver c.roster (grounds c) c.peer c.own c.at c.submessage old.part made

pub by_readers : (c : Coming) (s : Submessage) → c.submessage ≡ s → IsTelling s
    → (old : State) (made : List Move) (dues : List Due) (new : State)
    → ((w : Endpoint) (r p n : ℕ) → IsMatchedAt old.part w r p n → HasNumber old.part.rtps.readers r) → Backs c old
    → Turn c s 1 (length old.part.rtps.readers) old made new → Taken c old made new
by_readers c s is telling old made dues new there b t = record {
  moves = t.moves;
  backed = t.backed;
  readers = t.readers;
  past = λ r has.
      let least = has.0 in
      let most = has.1 in
      let same = t.readers in
      subst (λ (x : Submessage). IsPast c x r new) (sym is) (t.past r least (omega (arith, most, same)));
  over = λ w r p n change told here matched least most.
      let has = there w r.number p n matched in
      let low = has.0 in
      let high = has.1 in
      let at : r ≡ reader_at c.peer r.number = endpoint_at r here in
      t.over r.number low (omega (arith, high)) w p n change
      (subst (λ (e : Endpoint). Says c.roster c.own c.at s (ChangeIs w e n change)) at
      (subst (λ (x : Submessage). Says c.roster c.own c.at x (ChangeIs w r n change)) is told)) matched;
}
  where
    endpoint_at : (r : Endpoint) → r.peer ≡ c.peer → r ≡ reader_at c.peer r.number
    endpoint_at r e = ap (λ (p : ℕ). reader_at p r.number) e

pub by_writers : (c : Coming) (s : Submessage) → c.submessage ≡ s → ((r : ℕ) (x : State) → IsPast c s r x)
    → ((w r : Endpoint) (n : ℕ) (change : Change) → Says c.roster c.own c.at s (ChangeIs w r n change) → ⊥)
    → (old : State) (made : List Move) (new : State)
    → IsTaken c old made new → Taken c old made new
by_writers c s is past says old made new t = record {
  moves = t.moves;
  backed = t.backed;
  readers = t.readers;
  past = λ r has. subst (λ (x : Submessage). IsPast c x r new) (sym is) (past r new);
  over =
      λ w r p n change told here matched least most. absurd (says w r n change
      (subst (λ (x : Submessage). Says c.roster c.own c.at x (ChangeIs w r n change)) is told));
}

pub taken : (c : Coming) (s : Submessage) → c.submessage ≡ s
    → (old : State) (made : List Move) (dues : List Due) (new : State) → Backs c old → Met c old
    → Takes c.roster c.own c.peer c.at s old made dues new → Taken c old made new
taken c (AckNack a) is old made dues new b met h =
    by_writers c (AckNack a) is (λ r x. tt) (λ w r n change told. told) old made new
    (writers_taken c a is old (numbers_from 1 (length old.part.rtps.writers)) old made dues new b h)
taken c s is old made dues new b met h =
    by_readers c s is tt old made dues new (λ w r p n m. has_reader old.part r n w m.at) b
    (readers_taken c s is tt 1 (length old.part.rtps.readers) old made dues new b met h)

-- ---- the submessages of a packet

-- a packet that is a message, comes to a peer after these deliveries, and found these rows
pub record Packet : Type 0 where
  pub roster : Roster
  pub checked : IsRoster roster
  pub peer : ℕ
  pub before : List Delivery
  pub bytes : List ℕ
  pub rows : List (List WriterProxy)
  pub message : Message
  pub offset : ℕ
  pub is_read : ReadsMessage bytes message offset

abbrev pub own : Packet → GuidPrefix
own p = p.roster.prefix p.peer

abbrev pub Stands : Packet → ℕ → Receiver → Submessage → Type 0
Stands p index at s = StandsAt (own p) (receiver_of p.message.prefix) p.message.submessages index at s

-- what stands in the message stands in its bytes
abbrev pub stands_here : (p : Packet) (index : ℕ) (at : Receiver) (s : Submessage) → Stands p index at s
    → StandsIn p.bytes (own p) at s
stands_here p index at s stands =
    record { message = p.message; offset = p.offset; is_read = p.is_read; index = index; stands = stands }

-- these are the submessages from this index on
pub record IsRest (p : Packet) (index : ℕ) (at : Receiver) (ss : List Submessage) : Type 0 where
  pub stand : (k : ℕ) (later : Receiver) (s : Submessage) → StandsAt (own p) at ss k later s
      → Stands p (index + k) later s
  pub only : (k : ℕ) (later : Receiver) (s : Submessage) → Stands p (index + k) later s
      → StandsAt (own p) at ss k later s

pub rest_next : (p : Packet) (index : ℕ) (at : Receiver) (s : Submessage) (ss : List Submessage)
    → IsRest p index at (s ∷ ss) → IsRest p (index + 1) (after_submessage (own p) at s) ss
rest_next p index at s ss h = record {
  stand = λ k later x e. subst (λ (n : ℕ). Stands p n later x) (omega arith) (h.stand (suc k) later x e);
  only = λ k later x e. h.only (suc k) later x (subst (λ (n : ℕ). Stands p n later x) (omega arith) e);
}

abbrev pub Backed : Packet → Option ℕ → State → Type 0
Backed p refused s =
    IsBacked p.roster p.peer (p.bytes ∷ packets_of p.before)
    (record { packet = p.bytes; rows = p.rows; report = record { moves = []; refused = refused } } ∷ p.before) s

-- the prefix of the reader's peer is the one by which the message is received
own_is : (p : Packet) (prefix : GuidPrefix) (entity : EntityId) (r : ℕ)
    → IsReader p.roster prefix entity (reader_at p.peer r) → prefix ≡ own p
own_is p prefix entity r h = sym h.same_prefix

-- a HEARTBEAT of this packet that was applied stands in it as the peer reads it
pub record IsAppliedAt (p : Packet) (refused : Option ℕ) (w : Endpoint) (r : ℕ) (count : ℤ) : Type 0 where
  pub index : ℕ
  pub before : IsBefore index refused
  pub at : Receiver
  pub heartbeat : HeartbeatBody
  pub stands : Stands p index at (Heartbeat heartbeat)
  pub is_to : IsToReader p.roster (own p) at heartbeat.reader_id heartbeat.writer_id w (reader_at p.peer r)
  pub same_count : heartbeat.count ≡ count
  pub met : is_met p.rows r w ≡ true

applied_at : (p : Packet) (report : Report) (w : Endpoint) (r : ℕ) (count : ℤ)
    → IsApplied p.roster (record { packet = p.bytes; rows = p.rows; report = report }) w (reader_at p.peer r) count
    → IsAppliedAt p report.refused w r count
applied_at p report w r count h =
    let prefix : h.own ≡ own p = own_is p h.own h.is_to.entity r h.is_to.to in
    let message : h.there.message ≡ p.message =
    (message_one p.bytes h.there.message p.message h.there.offset p.offset h.there.is_read p.is_read).0 in
    record {
      index = h.there.index;
      before = h.before;
      at = h.at;
      heartbeat = h.heartbeat;
      stands =
          subst (λ (x : GuidPrefix). StandsAt x (receiver_of p.message.prefix) p.message.submessages h.there.index h.at
          (Heartbeat h.heartbeat)) prefix
          (subst (λ (m : Message). StandsAt h.own (receiver_of m.prefix) m.submessages h.there.index h.at
          (Heartbeat h.heartbeat)) message h.there.stands);
      is_to =
          subst (λ (x : GuidPrefix). IsToReader p.roster x h.at h.heartbeat.reader_id h.heartbeat.writer_id w
          (reader_at p.peer r)) prefix h.is_to;
      same_count = h.same_count;
      met = h.met;
    }

applied_as : (p : Packet) (report : Report) (w : Endpoint) (r : ℕ) (count : ℤ) → IsAppliedAt p report.refused w r count
    → IsApplied p.roster (record { packet = p.bytes; rows = p.rows; report = report }) w (reader_at p.peer r) count
applied_as p report w r count h = record {
  own = own p;
  at = h.at;
  heartbeat = h.heartbeat;
  there = stands_here p h.index h.at (Heartbeat h.heartbeat) h.stands;
  before = h.before;
  is_to = h.is_to;
  same_count = h.same_count;
  met = h.met;
}

-- it is the packet's delivery, or an earlier one
newer : (x : Delivery) (xs : List Delivery) (y : Delivery) → Contains (x ∷ xs) y → (x ≡ y) ⊎ Contains xs y
newer x xs y h = front_or_rest x xs y h.0 h.1 h.2

-- where this packet told the reader nothing newer up to here, no delivery did
newest_by : (p : Packet) (report : Report) (w : Endpoint) (r : ℕ) (o : Option ℤ)
    → ((count : ℤ) → IsAppliedAt p report.refused w r count → is_later o count ≡ false)
    → ((d : Delivery) (count : ℤ) → Contains p.before d → IsApplied p.roster d w (reader_at p.peer r) count
    → is_later o count ≡ false)
    → (d : Delivery) (count : ℤ) → Contains (record { packet = p.bytes; rows = p.rows; report = report } ∷ p.before) d
    → IsApplied p.roster d w (reader_at p.peer r) count → is_later o count ≡ false
newest_by p report w r o here earlier d count among h =
    ⊎_elim (λ e. here count
    (applied_at p report w r count
    (subst (λ (x : Delivery). IsApplied p.roster x w (reader_at p.peer r) count) (sym e) h)))
    (λ a. earlier d count a h)
    (newer (record { packet = p.bytes; rows = p.rows; report = report }) p.before d among)

abbrev refused_at : Option ℕ → Report
refused_at refused = record { moves = []; refused = refused }

-- whom the readers knew when the delivery came, they know
abbrev Knows : Part → Delivery → Type 0
Knows part d =
    (r : ℕ) (w : Endpoint) → is_known (numbered d.rows r []) w ≡ true → is_known (own_proxies part r) w ≡ true

-- where they know whom they knew at this delivery, and at earlier ones
knows_by : (here : Delivery) (before : List Delivery) (part : Part) → Knows part here
    → ((d : Delivery) → Contains before d → Knows part d) → (d : Delivery) → Contains (here ∷ before) d → Knows part d
knows_by here before part now earlier d among =
    ⊎_elim (λ e. subst (λ (x : Delivery). Knows part x) e now) (λ a. earlier d a) (newer here before d among)

-- whatever is reported of it
knows_still : (p : Packet) (old new : Report) (part : Part)
    → ((d : Delivery) → Contains (record { packet = p.bytes; rows = p.rows; report = old } ∷ p.before) d → Knows part d)
    → (d : Delivery) → Contains (record { packet = p.bytes; rows = p.rows; report = new } ∷ p.before) d → Knows part d
knows_still p old new part knows d among =
    let here : Delivery = record { packet = p.bytes; rows = p.rows; report = old } in
    knows_by (record { packet = p.bytes; rows = p.rows; report = new }) p.before part
    (knows here (0, omega arith, refl)) (λ e a. knows e (later_in here p.before e a)) d among

-- another bound for what was applied of this packet
rebacked : (p : Packet) (old new : Option ℕ) (s : State)
    → ((w : Endpoint) (r : ℕ) (count : ℤ) → HasNumber s.part.rtps.readers r → (a : IsAppliedAt p new w r count)
    → IsBefore a.index old ⊎ (is_later (s.known.tracked w r).count count ≡ false))
    → Backed p old s → Backed p new s
rebacked p old new s f b = record {
  place = b.place;
  unknown = b.unknown;
  claimed = b.claimed;
  newest = λ w r has d count among h.
      newest_by p (refused_at new) w r (s.known.tracked w r).count
      (λ n a. ⊎_elim (λ o. b.newest w r has (record { packet = p.bytes; rows = p.rows; report = refused_at old }) n
      (first_in (record { packet = p.bytes; rows = p.rows; report = refused_at old }) p.before)
      (applied_as p (refused_at old) w r n (bounded w r n a o))) (λ e. e) (f w r n has a))
      (λ e n a k. b.newest w r has e n (later_in (record { packet = p.bytes; rows = p.rows; report = refused_at old }) p.before e a) k)
      d count among h;
  heard = b.heard;
  then = λ d r w among.
      knows_still p (refused_at old) (refused_at new) s.part (λ e a k v. b.then e k v a) d among r w;
}
  where
    bounded : (w : Endpoint) (r : ℕ) (count : ℤ) (a : IsAppliedAt p new w r count) → IsBefore a.index old
        → IsAppliedAt p old w r count
    bounded w r count a before = record {
      index = a.index;
      before = before;
      at = a.at;
      heartbeat = a.heartbeat;
      stands = a.stands;
      is_to = a.is_to;
      same_count = a.same_count;
      met = a.met;
    }

    first_in : (x : Delivery) (xs : List Delivery) → Contains (x ∷ xs) x
    first_in x xs = (0, omega arith, refl)

-- the next submessage
to_next : (k index : ℕ) → k < index + 1 → (k < index) ⊎ (k ≡ index)
to_next zero zero h = inr refl
to_next zero (suc i) h = inl (omega arith)
to_next (suc k) zero h = absurd (omega (arith, h))
to_next (suc k) (suc i) h = ⊎_elim (λ l. inl (omega (arith, l))) (λ e. inr (ap suc e)) (to_next k i (omega (arith, h)))

-- the submessage that a HEARTBEAT is
past_it : (c : Coming) (h : HeartbeatBody) (w : Endpoint) (r : ℕ) (s : State) → Heartbeat h ≡ c.submessage
    → IsToReader c.roster c.own c.at h.reader_id h.writer_id w (reader_at c.peer r) → is_met c.rows r w ≡ true
    → IsPast c c.submessage r s → is_later (s.known.tracked w r).count h.count ≡ false
past_it c h w r s is to met past = (subst (λ (x : Submessage). IsPast c x r s) (sym is) past) w to met

abbrev pub coming_at : (p : Packet) (index : ℕ) (at : Receiver) (s : Submessage) → Stands p index at s → Coming
coming_at p index at s stands = record {
  roster = p.roster;
  checked = p.checked;
  peer = p.peer;
  before = p.before;
  packet = p.bytes;
  rows = p.rows;
  index = index;
  own = own p;
  at = at;
  submessage = s;
  says = λ claim says. record {
    packet = p.bytes;
    among = (0, omega arith, refl);
    claims =
        record { own = own p; at = at; submessage = s; there = stands_here p index at s stands; says = says };
  };
}

-- what was applied before the next submessage
pub next_backed : (p : Packet) (index : ℕ) (at : Receiver) (s : Submessage) (ss : List Submessage)
    (rest : IsRest p index at (s ∷ ss)) (stands : Stands p index at s) (new : State) → Backed p (Some index) new
    → ((r : ℕ) → HasNumber new.part.rtps.readers r → IsPast (coming_at p index at s stands) s r new)
    → Backed p (Some (index + 1)) new
next_backed p index at s ss rest stands new b past =
    rebacked p (Some index) (Some (index + 1)) new
    (λ w r count has a. ⊎_elim
    (λ l. inl l)
    (λ e.
    let here : (a.at ≡ at) × (Heartbeat a.heartbeat ≡ s) =
    rest.only 0 a.at (Heartbeat a.heartbeat)
    (subst (λ (n : ℕ). Stands p n a.at (Heartbeat a.heartbeat)) (e ∙ zero_on index) a.stands) in
    let to : IsToReader p.roster (own p) at a.heartbeat.reader_id a.heartbeat.writer_id w (reader_at p.peer r) =
    subst (λ (x : Receiver). IsToReader p.roster (own p) x a.heartbeat.reader_id a.heartbeat.writer_id w
    (reader_at p.peer r)) here.0 a.is_to in
    inr (subst (λ (n : ℤ). is_later (new.known.tracked w r).count n ≡ false) a.same_count
    (past_it (coming_at p index at s stands) a.heartbeat w r new here.1 to a.met (past r has))))
    (to_next a.index index a.before)) b
  where
    zero_on : (n : ℕ) → n ≡ n + 0
    zero_on n = omega arith

-- the submessages from this index on were taken up
pub record Up (p : Packet) (index : ℕ) (at : Receiver) (ss : List Submessage) (old : State) (moves : List Move)
    (refused : Option ℕ) (new : State) : Type 0 where
  pub takes : TakesUp p.roster (claimed p.roster p.before p.bytes p.rows p.peer) p.peer
      (own p) index at ss old.part moves refused new.part
  pub backed : Backed p refused new

-- none is left: all that stand in the packet were
pub all_of : (p : Packet) (index : ℕ) (at : Receiver) → IsRest p index at [] → (s : State) → Backed p (Some index) s
    → Backed p None s
all_of p index at rest s b =
    rebacked p (Some index) None s
    (λ w r count has a. ⊎_elim
    (λ l. inl l)
    (λ g. absurd (rest.only g.0 a.at (Heartbeat a.heartbeat)
    (subst (λ (n : ℕ). Stands p n a.at (Heartbeat a.heartbeat)) g.1 a.stands))) (before_or_from a.index index)) b
  where
    before_or_from : (k n : ℕ) → (k < n) ⊎ ((d : ℕ) × (k ≡ n + d))
    before_or_from k zero = inr (k, omega arith)
    before_or_from zero (suc n) = inl (omega arith)
    before_or_from (suc k) (suc n) =
        ⊎_elim (λ l. inl (omega (arith, l))) (λ g. inr (g.0, let e = g.1 in omega (arith, e))) (before_or_from k n)

-- what may need memory concerns the peer
concerned : (p : Packet) (own : GuidPrefix) (at : Receiver) (s : Submessage) (old : State)
    → MayNeedMemory p.roster own p.peer at s old → Concerns p.roster own p.peer at s
concerned p own at (AckNack a) old h = (record { peer = p.peer; number = h.0 }, h.1, h.2, refl)
concerned p own at (Data d) old h = (h.0, record { peer = p.peer; number = h.1 }, h.2, refl)
concerned p own at (Gap g) old h = (h.0, record { peer = p.peer; number = h.1 }, h.2, refl)
concerned p own at (Heartbeat b) old h = (h.0, record { peer = p.peer; number = h.1 }, h.2, refl)
concerned p own at s old h = absurd h

follows_up : (p : Packet) (index : ℕ) (at : Receiver) (ss : List Submessage) → IsRest p index at ss
    → (old : State) (moves : List Move) (refused : Option ℕ) (dues : List Due) (new : State) → Backed p (Some index) old
    → SameMet p.rows old.part.rtps.readers
    → FollowsMessage p.roster (own p) p.peer index at ss old moves refused dues new
    → Up p index at ss old moves refused new
follows_up p index at [] rest old moves refused dues new b met h = record {
  takes = (h.1.0, h.0, ap (λ (s : State). s.part) h.1.2);
  backed =
      subst (λ (o : Option ℕ). Backed p o new) (sym h.0)
      (subst (λ (s : State). Backed p None s) (sym h.1.2) (all_of p index at rest old b));
}
follows_up p index at (s ∷ ss) rest old moves refused dues new b met (inl h) = record {
  takes = inl (h.1.0, h.0, ap (λ (s : State). s.part) h.1.2, concerned p (own p) at s old h.2);
  backed =
      subst (λ (o : Option ℕ). Backed p o new) (sym h.0) (subst (λ (s : State). Backed p (Some index) s) (sym h.1.2) b);
}
follows_up p index at (s ∷ ss) rest old moves refused dues new b met (inr h) =
    let stands : Stands p index at s =
    subst (λ (n : ℕ). Stands p n at s) (omega arith) (rest.stand 0 at s (refl, refl)) in
    let one : Taken (coming_at p index at s stands) old h.0 h.4 =
    taken (coming_at p index at s stands) s refl old h.0 h.2 h.4 b met h.7 in
    let next : Backed p (Some (index + 1)) h.4 = next_backed p index at s ss rest stands h.4 one.backed one.past in
    let later : Up p (index + 1) (after_submessage (own p) at s) ss h.4 h.1 refused new =
    follows_up p (index + 1) (after_submessage (own p) at s) ss
    (rest_next p index at s ss rest) h.4 h.1 refused h.3 new next
    (met_on (coming_at p index at s stands) old h.0 h.4 met one.moves) h.8 in
    record { takes = inr (h.0, h.1, h.4.part, h.5, one.moves, one.over, later.takes); backed = later.backed }

-- ---- the packet

-- what is known is backed, before the packet is looked at
pub begun : (p : Packet) (s : State) → s.part.rtps.readers ≡ p.rows
    → IsBacked p.roster p.peer (packets_of p.before) p.before s → Backed p (Some 0) s
begun p s found b = record {
  place = b.place;
  unknown = b.unknown;
  claimed = λ w r.
      claimed_on p.roster p.peer (packets_of p.before) (p.bytes ∷ packets_of p.before) w r (s.known.tracked w r)
      (b.claimed w r)
      (λ n c h. record {
        packet = h.packet;
        among = later_in p.bytes
            (packets_of p.before) h.packet h.among;
        claims = h.claims;
      })
      (λ n h. record {
        packet = h.packet;
        among = later_in p.bytes
            (packets_of p.before) h.packet h.among;
        claims = h.claims;
      });
  newest = λ w r has d count among h.
      newest_by p (refused_at (Some 0)) w r (s.known.tracked w r).count
      (λ n a. let none = a.before in absurd (omega (arith, none)))
      (λ e n a k. b.newest w r has e n a k) d count among h;
  heard = b.heard;
  then = λ d r w among.
      knows_by (record { packet = p.bytes; rows = p.rows; report = refused_at (Some 0) }) p.before s.part
      (λ k v known. ap (λ (rows : List (List WriterProxy)). is_known (numbered rows k []) v) found ∙ known)
      (λ e a k v. b.then e k v a) d among r w;
}

-- the delivery is so reported
pub reported : (p : Packet) (report : Report) (s : State) → Backed p report.refused s
    → IsBacked p.roster p.peer (p.bytes ∷ packets_of p.before)
    (record { packet = p.bytes; rows = p.rows; report = report } ∷ p.before) s
reported p report s b = record {
  place = b.place;
  unknown = b.unknown;
  claimed = b.claimed;
  newest = λ w r has d count among h.
      newest_by p report w r (s.known.tracked w r).count
      (λ n a. b.newest w r has (record { packet = p.bytes; rows = p.rows; report = refused_at report.refused }) n
      (0, omega arith, refl) (applied_as p (refused_at report.refused) w r n a))
      (λ e n a k. b.newest w r has e n
      (later_in (record { packet = p.bytes; rows = p.rows; report = refused_at report.refused }) p.before e a) k) d count among h;
  heard = b.heard;
  then = λ d r w among.
      knows_still p (refused_at report.refused) report s.part (λ e a k v. b.then e k v a) d among r w;
}

-- a packet that is no message tells nothing
pub tells_nothing : (roster : Roster) (peer : ℕ) (before : List Delivery) (bytes : List ℕ) (old new : Part)
    (report : Report) → IsNotTaken bytes old report new → (w : Endpoint) (r : ℕ) (count : ℤ)
    → IsApplied roster (record { packet = bytes; rows = old.rtps.readers; report = report }) w (reader_at peer r) count
    → ⊥
tells_nothing roster peer before bytes old new report n w r count h =
    n.unread h.there.message h.there.offset h.there.is_read

-- what is known is backed, as it was
pub unread_backed : (roster : Roster) (peer : ℕ) (before : List Delivery) (bytes : List ℕ) (old new : State)
    (report : Report) → IsNotTaken bytes old.part report new.part → new.known ≡ old.known
    → IsBacked roster peer (packets_of before) before old
    → IsBacked roster peer (bytes ∷ packets_of before)
    (record { packet = bytes; rows = old.part.rtps.readers; report = report } ∷ before) new
unread_backed roster peer before bytes old new report taken same b = record {
  place =
      λ w r p e. ap (λ (k : Known). (k.tracked w r).place) same
      ∙ b.place w r p (ap (λ (q : Part). place_of (own_proxies q r) w) (sym taken.after) ∙ e);
  unknown =
      λ w r e. ap (λ (k : Known). (k.tracked w r).place) same
      ∙ b.unknown w r (ap (λ (q : Part). place_of (own_proxies q r) w) (sym taken.after) ∙ e);
  claimed = λ w r.
      subst (λ (k : Known). IsClaimed roster peer (bytes ∷ packets_of before) w r (k.tracked w r)) (sym same)
      (claimed_on roster peer (packets_of before) (bytes ∷ packets_of before) w r (old.known.tracked w r)
      (b.claimed w r)
      (λ n c k. record {
        packet = k.packet;
        among = later_in bytes
            (packets_of before) k.packet k.among;
        claims = k.claims;
      })
      (λ n k. record {
        packet = k.packet;
        among = later_in bytes
            (packets_of before) k.packet k.among;
        claims = k.claims;
      }));
  newest = λ w r has d count among k.
      ap (λ (x : Known). is_later (x.tracked w r).count count) same
      ∙ ⊎_elim (λ e. absurd (tells_nothing roster peer before bytes old.part new.part report taken w r count
      (subst (λ (x : Delivery). IsApplied roster x w (reader_at peer r) count) (sym e) k)))
      (λ a. b.newest w r (subst (λ (q : Part). HasNumber q.rtps.readers r) taken.after has) d count a k)
      (newer (record { packet = bytes; rows = old.part.rtps.readers; report = report }) before d among);
  heard =
      λ w r count e. ap (λ (x : Known). is_later (x.tracked w r).count count) same
      ∙ b.heard w r count (ap (λ (q : Part). heard_of (own_proxies q r) w) (sym taken.after) ∙ e);
  then = λ d r w among.
      let part : new.part ≡ old.part = taken.after in
      knows_by (record { packet = bytes; rows = old.part.rtps.readers; report = report }) before new.part
      (λ k v known. ap (λ (q : Part). is_known (own_proxies q k) v) part ∙ known)
      (λ e a k v known. ap (λ (q : Part). is_known (own_proxies q k) v) part ∙ b.then e k v a known) d among r w;
}

pub record IsTakenUp (roster : Roster) (peer : ℕ) (before : List Delivery) (bytes : List ℕ) (old : State)
    (report : Report) (new : State) : Type 0 where
  pub receives : Receives roster (claimed roster before bytes old.part.rtps.readers peer) peer bytes old.part report new.part
  pub backed : IsBacked roster peer (bytes ∷ packets_of before)
      (record { packet = bytes; rows = old.part.rtps.readers; report = report } ∷ before) new

-- What a peer does with a packet by the rules rests on what this packet and earlier ones claim, and what it knows then
-- is what they claim.
pub takes_packet : (roster : Roster) (peer : ℕ) (before : List Delivery) (bytes : List ℕ) (old : State)
    (report : Report) (dues : List Due) (new : State) → IsRoster roster
    → IsBacked roster peer (packets_of before) before old → TakesPacket roster peer bytes old report dues new
    → IsTakenUp roster peer before bytes old report new
takes_packet roster peer before bytes old report dues new checked b (inl h) =
    let p : Packet =
    record {
      roster = roster;
      checked = checked;
      peer = peer;
      before = before;
      bytes = bytes;
      rows = old.part.rtps.readers;
      message = h.message;
      offset = h.offset;
      is_read = h.is_read;
    } in
    let all : IsRest p 0 (receiver_of h.message.prefix) h.message.submessages = record {
      stand = λ k later s e. subst (λ (n : ℕ). Stands p n later s) (omega arith) e;
      only = λ k later s e. subst (λ (n : ℕ). Stands p n later s) (omega arith) e;
    } in
    let up : Up p 0 (receiver_of h.message.prefix) h.message.submessages old report.moves report.refused new =
    follows_up p 0 (receiver_of h.message.prefix) h.message.submessages all old report.moves report.refused dues new
    (begun p old refl b) (λ r w. refl) h.follows in
    record {
      receives = inl (record { message = h.message; offset = h.offset; is_read = h.is_read; taken = up.takes });
      backed = reported p report new up.backed;
    }
takes_packet roster peer before bytes old report dues new checked b (inr h) =
    record { receives = inr h.0; backed = unread_backed roster peer before bytes old new report h.0 h.1 b }

-- to the peer's readers an ACKNACK is nothing
pub nothing_told : (c : Coming) (a : AckNackBody) (readers : List ℕ) (old : State) (made : List Move) (dues : List Due)
    (new : State)
    → InTurn (ReaderTakes c.roster c.own c.peer c.at (AckNack a)) readers old made dues new → (made ≡ []) × (new ≡ old)
nothing_told c a [] old made dues new h = (h.0, h.2)
nothing_told c a (r ∷ rs) old made dues new h =
    let rest = nothing_told c a rs h.4 h.1 h.3 new h.8 in
    (h.5 ∙ (ap (λ (ms : List Move). ms ++ h.1) h.7.0 ∙ rest.0), rest.1 ∙ h.7.2)
