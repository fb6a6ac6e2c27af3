-- The HEARTBEATs of one packet at a reader of the peer: it hears the first that names it, and those to others leave it
-- as it was.
use Rattle.std.proofs.Common.{◌≡◌, ◌⊎◌, ℕ, ℤ, ◌+◌, Bool, true, false, List, [], ◌∷◌, ◌++◌, Option, Some, None, Contains, length, refl, subst, ap, sym, ◌∙◌, inl, inr, ⊎_elim, arith}
use Rattle.std.proofs.lemmas.List.Elements.{Contains-append_cases, Contains-append_left, Contains-append_right}
use Rattle.dds_base.specs.declared.endpoint.Endpoint.{Endpoint}
use Rattle.dds_base.specs.declared.guid.EntityId.{EntityId}
use Rattle.dds_base.specs.Counts.{is_later}
use Rattle.dds_base.specs.Places.{Match}
use Rattle.rtps_wire.specs.declared.heartbeat.Heartbeat.{Heartbeat as HeartbeatBody}
use Rattle.rtps_wire.specs.declared.submessage.Submessage.{Submessage}
use Rattle.rtps_wire.specs.declared.submessage.Submessage.TheVariants.{Heartbeat}
use Rattle.dds_machine.specs.declared.reply.Move.{Move}
use Rattle.dds_machine.specs.Numbered.{HasNumber}
use Rattle.dds_machine.specs.Part.{Attachment, is_attached}
use Rattle.dds_protocol.specs.Backed.{reader_at}
use Rattle.dds_protocol.specs.CatchUp.{Standing}
use Rattle.dds_protocol.specs.Claims.{Receiver, Names, IsReader, IsToReader, IsToReliable, IsWriter}
use Rattle.dds_protocol.specs.DueMessages.{Due}
use Rattle.dds_protocol.specs.Protocol.{State, Idles, TakesHeartbeat, HearsAlone, ReaderTakes, Takes, FollowsMessage, heard_as, stands_to}
use Rattle.dds_protocol.proofs.BeatsTo.{AreBeats, beats_weaker}
use Rattle.dds_protocol.proofs.Knowing.{answered_same}
use Rattle.dds_protocol.proofs.OneName.{one_writer, names_or_not}
use Rattle.dds_protocol.proofs.PairPackets.{TakesFirst, first_head}
use Rattle.dds_protocol.proofs.PairReader.{has_as, SeatAs, seat_kept, HearsBy, heartbeat_moves, hears_between, reader_entities}
use Rattle.dds_protocol.proofs.PairTurns.{Host, Keeps, keeps_same, keeps_on, at_same, OfOther, Spares, spares_idle, spares_on, TurnOf, turns_keep, turn_of}
use Rattle.dds_protocol.proofs.Ruled.{not_later_than_itself}
use Rattle.dds_protocol.proofs.RuledTurns.{SameAt, same_on}
use Rattle.dds_protocol.proofs.Ways.{met_heartbeat}

-- ---- whom they name

-- it is to no reader of this number, whatever writer it is of
abbrev pub IsToOthers : Host → Receiver → ℕ → HeartbeatBody → Type 0
IsToOthers c at r h = (w : Endpoint) → IsToReader c.roster c.own at h.reader_id h.writer_id w (reader_at c.peer r) → ⊥

-- of these this is the first that names the reader of this number
abbrev pub IsFirstTo : Host → Receiver → ℕ → HeartbeatBody → List Submessage → Type 0
IsFirstTo c at r h [] = ⊥
IsFirstTo c at r h (Heartbeat k ∷ ss) = (k ≡ h) ⊎ (IsToOthers c at r k × IsFirstTo c at r h ss)
IsFirstTo c at r h (other ∷ ss) = ⊥

-- one that names the reader, and is the first of these
pub record NamesFirst (c : Host) (at : Receiver) (r : ℕ) (entity : EntityId) (P : HeartbeatBody → Type 0)
    (ss : List Submessage) : Type 0 where
  pub body : HeartbeatBody
  pub is : P body
  pub named : Names body.reader_id entity
  pub first : IsFirstTo c at r body ss

-- it does not name the reader
abbrev pub IsUnnamed : EntityId → HeartbeatBody → Type 0
IsUnnamed entity h = Names h.reader_id entity → ⊥

-- a reader is named by one entity id
pub not_named : (c : Host) (at : Receiver) (r : ℕ) (entity : EntityId) → IsReader c.roster c.own entity (reader_at c.peer r)
    → (h : HeartbeatBody) → IsUnnamed entity h → IsToOthers c at r h
not_named c at r entity is h other w to =
    other (subst (λ (e : EntityId). Names h.reader_id e)
    (reader_entities c.roster c.own c.own to.entity entity (reader_at c.peer r) to.to is) to.named)

-- one of them is the first that names it, or none does
pub first_or_none : (c : Host) (at : Receiver) (r : ℕ) (entity : EntityId)
    → IsReader c.roster c.own entity (reader_at c.peer r) → (P : HeartbeatBody → Type 0) (ss : List Submessage)
    → AreBeats P ss
    → NamesFirst c at r entity P ss ⊎ AreBeats (IsUnnamed entity) ss
first_or_none c at r entity is P [] all = inr tt
first_or_none c at r entity is P (Heartbeat h ∷ ss) all =
    ⊎_elim (λ n. inl (record { body = h; is = all.0; named = n; first = inl refl }))
    (λ other. ⊎_elim
    (λ (f : NamesFirst c at r entity P ss). inl (record {
      body = f.body;
      is = f.is;
      named = f.named;
      first = inr (not_named c at r entity is h other, f.first);
    }))
    (λ none. inr (other, none)) (first_or_none c at r entity is P ss all.1))
    (names_or_not h.reader_id entity)
first_or_none c at r entity is P (other ∷ ss) all = absurd all.0

-- ---- HEARTBEATs that are nothing to the reader

still_there : (old new : State) (r : ℕ) → Keeps old new → HasNumber old.part.rtps.readers r
    → HasNumber new.part.rtps.readers r
still_there old new r k there = has_as old.part.rtps.readers new.part.rtps.readers r k.rows there

-- the reader took one with as great a count, of whatever writer it is to it
abbrev pub IsPassed : Host → Receiver → ℕ → State → HeartbeatBody → Type 0
IsPassed c at r s h =
    (w : Endpoint) → IsToReader c.roster c.own at h.reader_id h.writer_id w (reader_at c.peer r)
    → is_later (s.known.tracked w r).count h.count ≡ false

still_passed : (c : Host) (at : Receiver) (r : ℕ) (old new : State) → SameAt old new r → (h : HeartbeatBody)
    → IsPassed c at r old h → IsPassed c at r new h
still_passed c at r old new same h passed w to = ap (λ t. is_later t.count h.count) (same.tracked w) ∙ passed w to

reader_idles : (c : Host) (at : Receiver) (h : HeartbeatBody) (r : ℕ) (old : State) (moves : List Move)
    (dues : List Due) (new : State) → IsPassed c at r old h
    → ReaderTakes c.roster c.own c.peer at (Heartbeat h) r old moves dues new → Idles old moves dues new
reader_idles c at h r old moves dues new passed (inr k) = k.1
reader_idles c at h r old moves dues new passed (inl k) =
    by (c.roster.is_reliable (reader_at c.peer r))
    (met_heartbeat (stands_to old k.0 r) (c.roster.is_reliable (reader_at c.peer r)) c.own at old k.0 r k.1.entity h moves dues new
    k.3)
  where
    not_later : is_later (old.known.tracked k.0 r).count h.count ≡ true → Idles old moves dues new
    not_later later = let no = passed k.0 k.1 in absurd cc

    by : (reliable : Bool)
        → TakesHeartbeat c.own at old k.0 r k.1.entity (heard_as reliable h) moves dues new
        ⊎ (HearsAlone old k.0 r h moves new × (dues ≡ [])) ⊎ Idles old moves dues new
        → Idles old moves dues new
    by true (inl t) = not_later t.later
    by false (inl t) = not_later t.later
    by reliable (inr (inl x)) = not_later x.0.later
    by reliable (inr (inr i)) = i

-- one is taken up by the peer
one_passed : (c : Host) (at : Receiver) (h : HeartbeatBody) (r : ℕ) (old : State) (moves : List Move) (dues : List Due)
    (new : State) → HasNumber old.part.rtps.readers r → IsPassed c at r old h
    → Takes c.roster c.own c.peer at (Heartbeat h) old moves dues new → Spares c r old dues new
one_passed c at h r old moves dues new there passed takes = record {
  same =
      same_on old t.before new r t.same_before
      (subst (λ (s : State). SameAt s new r) idles.2 t.same_after);
  keeps = turns_keep c at (Heartbeat h) 1 (length old.part.rtps.readers) old moves dues new takes;
  others = λ d among.
      ⊎_elim
      (λ own.
      let none = ap (λ (ds : List Due). length ds) idles.1 in let lt = own.1 in absurd (omega (arith, none, lt)))
      (λ o. o) (t.each d among);
}
  where
    t : TurnOf c at (Heartbeat h) r old dues new
    t =
        let low = there.0 in let high = there.1 in turn_of c at (Heartbeat h) r 1
        (length old.part.rtps.readers) old moves dues new low (omega (arith, high)) takes

    idles : Idles t.before t.made t.due t.after
    idles =
        reader_idles c at h r t.before t.made t.due t.after
        (still_passed c at r old t.before t.same_before h passed) t.takes

-- they all are
pub beats_passed : (c : Host) (at : Receiver) (r index : ℕ) (ss : List Submessage) (old : State) (moves : List Move)
    (dues : List Due) (new : State) → HasNumber old.part.rtps.readers r → AreBeats (IsPassed c at r old) ss
    → FollowsMessage c.roster c.own c.peer index at ss old moves None dues new → Spares c r old dues new
beats_passed c at r index [] old moves dues new there all h = spares_idle c r old moves dues new h.1
beats_passed c at r index (Heartbeat k ∷ ss) old moves dues new there all h =
    let f : TakesFirst c.roster c.own c.peer index at (Heartbeat k) ss old dues new =
    first_head c.roster c.own c.peer index at (Heartbeat k) ss old moves dues new h in
    let one : Spares c r old f.first f.mid = one_passed c at k r old f.made f.first f.mid there all.0 f.takes in
    spares_on c r old f.mid new f.first f.rest dues f.all one
    (beats_passed c at r (index + 1) ss f.mid f.later f.rest new (still_there old f.mid r one.keeps there)
    (beats_weaker (IsPassed c at r old) (IsPassed c at r f.mid) (still_passed c at r old f.mid one.same) ss all.1)
    f.follows)
beats_passed c at r index (other ∷ ss) old moves dues new there all h = absurd all.0

-- ---- the one that is heard

-- the reader took it, and what is due is its ACKNACK, or of other readers of its peer
pub record HeardPacket (c : Host) (at : Receiver) (h : HeartbeatBody) (m : Match) (w : Endpoint) (r : ℕ) (old : State)
    (dues : List Due) (new : State) : Type 0 where
  pub due : List Due
  pub hears : HearsBy c at h m w r old due new
  pub keeps : Keeps old new
  pub each : (d : Due) → Contains dues d → Contains due d ⊎ OfOther c r d
  pub among : (d : Due) → Contains due d → Contains dues d

-- what it is to hear one, to a reader that stands so to its writer
abbrev Hears : Attachment → Host → Receiver → HeartbeatBody → Match → Endpoint → ℕ → List Submessage → Type 0
Hears how c at h m w r ss =
    (index : ℕ) (old : State) (moves : List Move) (dues : List Due) (new : State) → SeatAs how m w r old
    → is_later (old.known.tracked w r).count h.count ≡ true
    → FollowsMessage c.roster c.own c.peer index at ss old moves None dues new → HeardPacket c at h m w r old dues new

-- the count of a HEARTBEAT that was heard is taken
count_heard : (c : Host) (at : Receiver) (h : HeartbeatBody) (m : Match) (w : Endpoint) (r : ℕ) (old : State)
    (dues : List Due) (new : State) → HearsBy c at h m w r old dues new → (new.known.tracked w r).count ≡ Some h.count
count_heard c at h m w r old dues new x =
    ap (λ (s : Standing). s.tracked.count) x.after
    ∙ ((answered_same x.answer (x.heard.known.tracked w r)).1 ∙ x.goes.2.stays.count)

heard_one : (how : Attachment) → is_attached how ≡ true
    → (c : Host) (at : Receiver) (h : HeartbeatBody) (m : Match) (w : Endpoint) (r : ℕ) → h.liveliness_flag ≡ false
    → IsToReliable c.roster c.own at h.reader_id h.writer_id w (reader_at c.peer r)
    → (old : State) (moves : List Move) (dues : List Due) (new : State) → SeatAs how m w r old
    → is_later (old.known.tracked w r).count h.count ≡ true
    → Takes c.roster c.own c.peer at (Heartbeat h) old moves dues new → HeardPacket c at h m w r old dues new
heard_one how met c at h m w r quiet is old moves dues new s later takes = record {
  due = turn.due;
  hears =
      hears_between c at h m w r old turn.before turn.after new turn.due turn.same_before turn.same_after
      turn.keeps_before keeps s
      (heartbeat_moves how met c at h m w r quiet is turn.before turn.made turn.due turn.after
      (seat_kept m w r old turn.before turn.same_before turn.keeps_before s)
      (ap (λ t. is_later t.count h.count) (turn.same_before.tracked w) ∙ later) turn.takes);
  keeps = keeps;
  each = turn.each;
  among = turn.among;
}
  where
    turn : TurnOf c at (Heartbeat h) r old dues new
    turn =
        let low = s.rows.0 in let high = s.rows.1 in turn_of c at (Heartbeat h) r 1
        (length old.part.rtps.readers) old moves dues new low (omega (arith, high)) takes

    keeps : Keeps old new
    keeps = turns_keep c at (Heartbeat h) 1 (length old.part.rtps.readers) old moves dues new takes

-- it is heard, whatever those to others did before
after_others : {how : Attachment} (c : Host) (at : Receiver) (h : HeartbeatBody) (m : Match) (w : Endpoint) (r : ℕ)
    (old mid new : State) (first rest dues : List Due) → dues ≡ first ++ rest → SeatAs how m w r old
    → Spares c r old first mid → HeardPacket c at h m w r mid rest new → HeardPacket c at h m w r old dues new
after_others c at h m w r old mid new first rest dues all s f g = record {
  due = g.due;
  hears =
      hears_between c at h m w r old mid new new g.due f.same (at_same new r) f.keeps
      (keeps_on old mid new f.keeps g.keeps) s g.hears;
  keeps = keeps_on old mid new f.keeps g.keeps;
  each = λ d among.
      ⊎_elim (λ o. inr (f.others d o)) (λ o. g.each d o)
      (Contains-append_cases first rest d (subst (λ (ds : List Due). Contains ds d) all among));
  among = λ d own. subst (λ (ds : List Due). Contains ds d) (sym all)
      (Contains-append_right first rest d (g.among d own));
}

-- and after it
before_others : {how : Attachment} (c : Host) (at : Receiver) (h : HeartbeatBody) (m : Match) (w : Endpoint) (r : ℕ)
    (old mid new : State) (first rest dues : List Due) → dues ≡ first ++ rest → SeatAs how m w r old
    → HeardPacket c at h m w r old first mid → Spares c r mid rest new → HeardPacket c at h m w r old dues new
before_others c at h m w r old mid new first rest dues all s f g = record {
  due = f.due;
  hears =
      hears_between c at h m w r old old mid new f.due (at_same old r) g.same (keeps_same old)
      (keeps_on old mid new f.keeps g.keeps) s f.hears;
  keeps = keeps_on old mid new f.keeps g.keeps;
  each = λ d among.
      ⊎_elim (λ o. f.each d o) (λ o. inr (g.others d o))
      (Contains-append_cases first rest d (subst (λ (ds : List Due). Contains ds d) all among));
  among = λ d own. subst (λ (ds : List Due). Contains ds d) (sym all)
      (Contains-append_left first rest d (f.among d own));
}

-- of the same writer, and of the same count
abbrev pub IsBeside : HeartbeatBody → HeartbeatBody → Type 0
IsBeside h k = (k.writer_id ≡ h.writer_id) × (k.count ≡ h.count)

-- such a one is no longer new
beside_passed : (c : Host) (at : Receiver) (h : HeartbeatBody) (w : Endpoint) (r : ℕ) (new : State)
    → IsToReliable c.roster c.own at h.reader_id h.writer_id w (reader_at c.peer r)
    → (new.known.tracked w r).count ≡ Some h.count → (k : HeartbeatBody) → IsBeside h k → IsPassed c at r new k
beside_passed c at h w r new is counted k beside v to =
    let same : v ≡ w =
    one_writer c.roster at.source_guid_prefix h.writer_id v w c.checked
    (subst (λ (i : EntityId). IsWriter c.roster at.source_guid_prefix i v) beside.0 to.from) is.is_to.from in
    ap (λ (x : Endpoint). is_later (new.known.tracked x r).count k.count) same
    ∙ (ap (λ (n : ℤ). is_later (new.known.tracked w r).count n) beside.1
    ∙ (ap (λ (o : Option ℤ). is_later o h.count) counted ∙ not_later_than_itself h.count))

-- Of HEARTBEATs of one writer and one count the reader hears the first that names it.
pub hears_first : (how : Attachment) → is_attached how ≡ true
    → (c : Host) (at : Receiver) (h : HeartbeatBody) (m : Match) (w : Endpoint) (r : ℕ) → h.liveliness_flag ≡ false
    → IsToReliable c.roster c.own at h.reader_id h.writer_id w (reader_at c.peer r)
    → (ss : List Submessage) → AreBeats (IsBeside h) ss → IsFirstTo c at r h ss → Hears how c at h m w r ss
hears_first how met c at h m w r quiet is [] all first index old moves dues new s later f = absurd first
hears_first how met c at h m w r quiet is (Heartbeat k ∷ ss) all (inl same) index old moves dues new s later follows =
    let f : TakesFirst c.roster c.own c.peer index at (Heartbeat k) ss old dues new =
    first_head c.roster c.own c.peer index at (Heartbeat k) ss old moves dues new follows in
    let one : HeardPacket c at h m w r old f.first f.mid =
    heard_one how met c at h m w r quiet is old f.made f.first f.mid s later
    (subst (λ (b : HeartbeatBody). Takes c.roster c.own c.peer at (Heartbeat b) old f.made f.first f.mid) same
    f.takes) in
    before_others c at h m w r old f.mid new f.first f.rest dues f.all s one
    (beats_passed c at r (index + 1) ss f.mid f.later f.rest new (still_there old f.mid r one.keeps s.rows)
    (beats_weaker (IsBeside h) (IsPassed c at r f.mid)
    (beside_passed c at h w r f.mid is (count_heard c at h m w r old one.due f.mid one.hears)) ss all.1)
    f.follows)
hears_first how met c at h m w r quiet is (Heartbeat k ∷ ss) all (inr first) index old moves dues new s later
    follows =
    let f : TakesFirst c.roster c.own c.peer index at (Heartbeat k) ss old dues new =
    first_head c.roster c.own c.peer index at (Heartbeat k) ss old moves dues new follows in
    let one : Spares c r old f.first f.mid =
    one_passed c at k r old f.made f.first f.mid s.rows (λ v to. absurd (first.0 v to)) f.takes in
    after_others c at h m w r old f.mid new f.first f.rest dues f.all s one
    (hears_first how met c at h m w r quiet is ss all.1 first.1 (index + 1) f.mid f.later f.rest new
    (seat_kept m w r old f.mid one.same one.keeps s)
    (ap (λ t. is_later t.count h.count) (one.same.tracked w) ∙ later) f.follows)
hears_first how met c at h m w r quiet is (other ∷ ss) all first index old moves dues new s later f = absurd first
