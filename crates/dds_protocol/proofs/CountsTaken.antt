-- While a packet is taken up, no count is taken that its sender has not used, and each ACKNACK that is due has a count
-- that its reader uses with it.
use Rattle.std.proofs.Common.{◌≡◌, ◌⊎◌, ℕ, ℤ, pos, suc, ◌+◌, ◌≤◌, ◌≤ℤ◌, Bool, true, false, List, [], ◌∷◌, ◌++◌, Option, Some, None, Contains, length, refl, subst, ap, sym, ◌∙◌, inl, inr, ⊎_elim, arith, max}
use Rattle.std.proofs.lemmas.Int.{ints}
use Rattle.std.proofs.lemmas.List.Elements.{Contains-append_cases}
use Rattle.std.proofs.lemmas.Option.{same_Some}
use Rattle.dds_base.specs.declared.change.Change.{Change}
use Rattle.dds_protocol.specs.Roster.{IsRoster, Roster}
use Rattle.dds_base.specs.declared.guid.EntityId.{EntityId}
use Rattle.dds_base.specs.declared.guid.GuidPrefix.{GuidPrefix}
use Rattle.dds_base.specs.Kept.{numbers_from}
use Rattle.rtps_reader.specs.declared.step.AckNackDue.{AckNackDue}
use Rattle.rtps_reader.specs.Tracked.{Tracked, with_gap}
use Rattle.rtps_reader.specs.Answer.{AnswersHeartbeat, answered}
use Rattle.rtps_wire.specs.declared.acknack.AckNack.{AckNack as AckNackBody}
use Rattle.rtps_wire.specs.declared.heartbeat.Heartbeat.{Heartbeat as HeartbeatBody}
use Rattle.rtps_wire.specs.declared.submessage.Submessage.{Submessage}
use Rattle.rtps_wire.specs.declared.submessage.Submessage.TheVariants.{Pad, InfoDst, InfoTs, Data, Heartbeat, AckNack, Gap, Other}
use Rattle.rtps_wire.specs.Content.{change_in}
use Rattle.rtps_wire.specs.Messages.{IsWritable, spelling_of}
use Rattle.rtps_writer.specs.declared.answer.Answer.{Answer}
use Rattle.dds_base.specs.declared.endpoint.Endpoint.{Endpoint}
use Rattle.dds_machine.specs.declared.reply.Move.{Move}
use Rattle.dds_machine.specs.declared.reply.Report.{Report}
use Rattle.dds_machine.specs.Part.{Attachment, Away, Waiting, Begun, ReaderProxy, WriterProxy, own_writer, writer_changes}
use Rattle.dds_protocol.specs.Claims.{Receiver, receiver_of, after_submessage, StandsAt, StandsIn, IsWriter, IsToReader, IsToWriter}
use Rattle.dds_protocol.specs.DueMessages.{Due, acknack_message, acknacks_due, answer_message}
use Rattle.dds_protocol.specs.Contact.{Contact}
use Rattle.dds_protocol.specs.Protocol.{BeginsWith, HearsAlone, Known, State, stands_to, InTurn, TakesChange, heard_as, Idles, TakesHeartbeat, TakesAckNack, ReaderTakes, WriterTakes, Takes, FollowsMessage, TakesPacket, contact_after, with_answered}
use Rattle.dds_protocol.specs.Resuming.{GoesAgain, GoAgain}
use Rattle.dds_protocol.specs.Backed.{reader_at}
use Rattle.dds_protocol.specs.Fresh.{HasHeartbeat, HasAckNack}
use Rattle.dds_protocol.proofs.Composed.{is_alone}
use Rattle.dds_protocol.proofs.Contacts.{with_one}
use Rattle.dds_protocol.proofs.CountsWritten.{plain_beats, plain_asks, plain_answers, one_ask, one_ask_beats, each_of}
use Rattle.dds_protocol.proofs.DuesAcknacks.{ask_body, answer_names}
use Rattle.dds_protocol.proofs.Framing.{pair_or_not}
use Rattle.dds_protocol.proofs.Ways.{Went, goes_went, after_change, after_change-same, change_went, gap_went, met_change, met_gap, met_heartbeat}
use Rattle.dds_protocol.proofs.Learning.{Learns, alone_learns, asserting_known, starts_known, starts_learns, way_learns, heartbeat_learns}
use Rattle.dds_protocol.proofs.Turns.{in_turn}

-- a peer of a configuration, and how many counts each writer has used, and each reader for each writer
pub record Counting : Type 0 where
  pub roster : Roster
  pub checked : IsRoster roster
  pub peer : ℕ
  pub own : GuidPrefix
  pub beats : Endpoint → ℕ
  pub asks : Endpoint → Endpoint → ℕ

-- the submessage has a count that its sender has used
abbrev pub IsUsed : Counting → Receiver → Submessage → Type 0
IsUsed c at (Heartbeat h) =
    (w : Endpoint) → IsWriter c.roster at.source_guid_prefix h.writer_id w → h.count ≤ℤ pos (c.beats w)
IsUsed c at (AckNack a) =
    (w r : Endpoint) → IsToWriter c.roster c.own at a.reader_id a.writer_id w r → a.count ≤ℤ pos (c.asks w r)
IsUsed c at other = Unit {0}

-- a message that is due has no HEARTBEAT, and each ACKNACK there has a count that its reader, one of the peer, has used
pub record IsCounted (c : Counting) (s : State) (due : Due) : Type 0 where
  pub beat : (w : Endpoint) (count : ℤ) → IsWritable due.message
      → HasHeartbeat c.roster (spelling_of due.message) w count → ⊥
  pub ask : (w r : Endpoint) (count : ℤ) → IsWritable due.message
      → HasAckNack c.roster (spelling_of due.message) w r count
      → (r.peer ≡ c.peer) × (count ≤ℤ pos (s.known.tracked w r.number).acknacks)

-- what a step of the peer does to counts
pub record Counts (c : Counting) (old : State) (dues : List Due) (new : State) : Type 0 where
  pub asked : (w : Endpoint) (r : ℕ) → (old.known.tracked w r).acknacks ≤ (new.known.tracked w r).acknacks
  pub taken : (w : Endpoint) (r : ℕ) (count : ℤ) → (new.known.tracked w r).count ≡ Some count
      → ((old.known.tracked w r).count ≡ Some count) ⊎ (count ≤ℤ pos (c.beats w))
  pub answered : (w : ℕ) (r : Endpoint) (count : ℤ) → (new.known.answered w r).count ≡ Some count
      → ((old.known.answered w r).count ≡ Some count) ⊎ (count ≤ℤ pos (c.asks (reader_at c.peer w) r))
  pub counted : (due : Due) → Contains dues due → IsCounted c new due

counts_none : (c : Counting) (s : State) → Counts c s [] s
counts_none c s = record {
  asked = λ w r. omega arith;
  taken = λ w r count e. inl e;
  answered = λ w r count e. inl e;
  counted = λ due among. let lt = among.1 in absurd (omega (arith, lt));
}

counted_on : (c : Counting) (a b : State) (due : Due)
    → ((w : Endpoint) (r : ℕ) → (a.known.tracked w r).acknacks ≤ (b.known.tracked w r).acknacks)
    → IsCounted c a due → IsCounted c b due
counted_on c a b due more h = record {
  beat = h.beat;
  ask = λ w r count writable has.
      let one = h.ask w r count writable has in
      let le = more w r.number in
      let small = one.1 in (one.0, omega (arith, ints, le, small));
}

counts_on : (c : Counting) (a b d : State) (first rest : List Due) → Counts c a first b → Counts c b rest d
    → Counts c a (first ++ rest) d
counts_on c a b d first rest f g = record {
  asked = λ w r. let x = f.asked w r in let y = g.asked w r in omega (arith, x, y);
  taken = λ w r count e. ⊎_elim (λ o. f.taken w r count o) (λ n. inr n) (g.taken w r count e);
  answered = λ w r count e. ⊎_elim (λ o. f.answered w r count o) (λ n. inr n) (g.answered w r count e);
  counted = λ due among.
      ⊎_elim (λ o. counted_on c b d due g.asked (f.counted due o)) (λ n. g.counted due n)
      (Contains-append_cases first rest due among);
}

counts_idle : (c : Counting) (old : State) (moves : List Move) (dues : List Due) (new : State)
    → Idles old moves dues new → Counts c old dues new
counts_idle c old moves dues new h =
    subst (λ (s : State). Counts c old dues s) (sym h.2)
    (subst (λ (ds : List Due). Counts c old ds old) (sym h.1) (counts_none c old))

-- ---- a reader

-- of one writer it knows this now: no fewer ACKNACKs, and a count that it knew or that the writer used
learned_counts : (c : Counting) (old : State) (w : Endpoint) (r : ℕ) (t : Tracked) (dues : List Due) (new : State)
    → Learns old w r t new
    → (old.known.tracked w r).acknacks ≤ t.acknacks
    → ((count : ℤ) → t.count ≡ Some count → ((old.known.tracked w r).count ≡ Some count) ⊎ (count ≤ℤ pos (c.beats w)))
    → ((due : Due) → Contains dues due → IsCounted c new due) → Counts c old dues new
learned_counts c old w r t dues new l more counted all = record {
  asked = λ v k. asked_of v k (pair_or_not v k w r);
  taken = λ v k count e. taken_of v k count e (pair_or_not v k w r);
  answered = λ v x count e. inl (sym (ap (λ (k : Contact). k.count) (l.answered v x)) ∙ e);
  counted = all;
}
  where
    asked_of : (v : Endpoint) (k : ℕ) → ((v ≡ w) × (k ≡ r)) ⊎ ((v ≡ w) × (k ≡ r) → ⊥)
        → (old.known.tracked v k).acknacks ≤ (new.known.tracked v k).acknacks
    asked_of v k (inl same) =
        let here = ap (λ (x : Tracked). x.acknacks) l.here in
        subst (λ (x : Endpoint). (old.known.tracked x k).acknacks ≤ (new.known.tracked x k).acknacks) (sym same.0)
        (subst (λ (n : ℕ). (old.known.tracked w n).acknacks ≤ (new.known.tracked w n).acknacks) (sym same.1)
        (omega (arith, here, more)))
    asked_of v k (inr apart) =
        let same = ap (λ (x : Tracked). x.acknacks) (l.elsewhere v k apart) in omega (arith, same)

    taken_of : (v : Endpoint) (k : ℕ) (count : ℤ) → (new.known.tracked v k).count ≡ Some count
        → ((v ≡ w) × (k ≡ r)) ⊎ ((v ≡ w) × (k ≡ r) → ⊥)
        → ((old.known.tracked v k).count ≡ Some count) ⊎ (count ≤ℤ pos (c.beats v))
    taken_of v k count e (inl same) =
        let at_w : (new.known.tracked w k).count ≡ Some count =
        subst (λ (x : Endpoint). (new.known.tracked x k).count ≡ Some count) same.0 e in
        let at_r : (new.known.tracked w r).count ≡ Some count =
        subst (λ (n : ℕ). (new.known.tracked w n).count ≡ Some count) same.1 at_w in
        let found = counted count (sym (ap (λ (x : Tracked). x.count) l.here) ∙ at_r) in
        subst (λ (x : Endpoint). ((old.known.tracked x k).count ≡ Some count) ⊎ (count ≤ℤ pos (c.beats x))) (sym same.0)
        (subst (λ (n : ℕ). ((old.known.tracked w n).count ≡ Some count) ⊎ (count ≤ℤ pos (c.beats w)))
        (sym same.1) found)
    taken_of v k count e (inr apart) = inl (sym (ap (λ (x : Tracked). x.count) (l.elsewhere v k apart)) ∙ e)

no_dues : (c : Counting) (s : State) (dues : List Due) → dues ≡ [] → (due : Due) → Contains dues due → IsCounted c s due
no_dues c s dues none due among =
    let empty = ap (λ (ds : List Due). length ds) none in let lt = among.1 in absurd (omega (arith, empty, lt))

-- a DATA or a GAP
goes_counts : (c : Counting) (old : State) (w : Endpoint) (r : ℕ) (t : Tracked) (moves : List Move) (dues : List Due)
    (new : State)
    → Went old w r t moves new → dues ≡ [] → t.count ≡ (old.known.tracked w r).count
    → t.acknacks ≡ (old.known.tracked w r).acknacks → Counts c old dues new
goes_counts c old w r t moves dues new g none count acknacks =
    let stays = g.advances.stays.acknacks in
    learned_counts c old w r g.known dues new (way_learns old w r moves new g) (omega (arith, stays, acknacks))
    (λ n e. inl (sym count ∙ (sym g.advances.stays.count ∙ e))) (no_dues c new dues none)

-- places of a reader that are tried again
pub again_counts : (c : Counting) (r index : ℕ) (rows : List WriterProxy) (old : State) (moves : List Move)
    (refused : Option ℕ) (new : State) → GoAgain r index rows old moves refused new → Counts c old [] new
again_counts c r index [] old moves refused new h = counts_idle c old moves [] new (h.0, refl, h.2)
again_counts c r index (row ∷ rows) old moves refused new (inl h) = counts_idle c old moves [] new (h.0, refl, h.2)
again_counts c r index (row ∷ rows) old moves refused new (inr h) =
    counts_on c old h.2 new [] [] (by (stands_to old row.writer r) h.4)
    (again_counts c r (index + 1) rows h.2 h.1 refused new h.5)
  where
    by : (how : Attachment) → GoesAgain how old row.writer r h.0 h.2 → Counts c old [] h.2
    by Begun goes =
        goes_counts c old row.writer r (old.known.tracked row.writer r) h.0 [] h.2
        (goes_went old row.writer r (old.known.tracked row.writer r) h.0 h.2 goes) refl refl refl
    by Waiting idle = counts_idle c old h.0 [] h.2 (idle.0, refl, idle.1)
    by Away idle = counts_idle c old h.0 [] h.2 (idle.0, refl, idle.1)

answered_count : (answer : Option AckNackDue) (t : Tracked) → (answered answer t).count ≡ t.count
answered_count None t = refl
answered_count (Some due) t = refl

answered_more : (answer : Option AckNackDue) (t : Tracked) → t.acknacks ≤ (answered answer t).acknacks
answered_more None t = omega arith
answered_more (Some due) t = omega arith

-- the ACKNACK that is due to a HEARTBEAT
ask_counted : (c : Counting) (at : Receiver) (reader_id writer_id : EntityId) (w : Endpoint) (r : ℕ)
    (is : IsToReader c.roster c.own at reader_id writer_id w (reader_at c.peer r)) (t : Tracked) (last : ℕ)
    (final : Bool)
    (answer : Option AckNackDue) → AnswersHeartbeat t last final answer → (new : State)
    → new.known.tracked w r ≡ answered answer t
    → (due : Due) → Contains (acknacks_due c.own at.source_guid_prefix w.peer is.entity writer_id answer) due
    → IsCounted c new due
ask_counted c at reader_id writer_id w r is t last final None a new here due among =
    let lt = among.1 in absurd (omega (arith, lt))
ask_counted c at reader_id writer_id w r is t last final (Some x) a new here due among =
    subst (λ (d : Due). IsCounted c new d) (is_alone the due among) (record {
      beat = λ v count writable has. one_ask_beats c.roster c.own at.source_guid_prefix body v count writable has;
      ask = λ v k count writable has.
          let found = one_ask c.roster c.own at.source_guid_prefix body v k count writable has in
          let names =
          answer_names c.roster c.checked c.own at reader_id writer_id w (reader_at c.peer r) is found.0 v k found.1
          in
          let used = ap (λ (y : Tracked). y.acknacks) here in
          let number : count ≡ pos (t.acknacks + 1) = found.2 ∙ a.3.count in (
            ap (λ (e : Endpoint). e.peer) names.1,
            subst (λ (e : Endpoint). count ≤ℤ pos (new.known.tracked e k.number).acknacks) (sym names.0)
                (subst (λ (e : Endpoint). count ≤ℤ pos (new.known.tracked w e.number).acknacks) (sym names.1)
                (subst (λ (z : ℤ). z ≤ℤ pos (new.known.tracked w r).acknacks) (sym number)
                (omega (arith, ints, used)))),
          );
    })
  where
    body : AckNackBody
    body = ask_body is.entity writer_id x

    the : Due
    the = record { to = w.peer; message = acknack_message c.own at.source_guid_prefix is.entity writer_id x }

heartbeat_counts : (c : Counting) (at : Receiver) (h : HeartbeatBody) → IsUsed c at (Heartbeat h)
    → (old : State) (w : Endpoint) (r : ℕ)
    (is : IsToReader c.roster c.own at h.reader_id h.writer_id w (reader_at c.peer r)) (moves : List Move)
    (dues : List Due) (new : State)
    → TakesHeartbeat c.own at old w r is.entity h moves dues new → Counts c old dues new
heartbeat_counts c at h used old w r is moves dues new k =
    let learned = heartbeat_learns c.own at old w r is.entity h moves dues new k in
    let known : k.there.known.tracked w r ≡ k.goes.known = (way_learns k.started w r k.going k.there k.goes).here in
    let stays = k.goes.advances.stays.acknacks in
    let begun =
    (starts_known (stands_to old w r) k.heard w r h.first_sn k.starting k.started k.starts).acknacks in
    let heard =
    ap (λ (x : Known). (x.tracked w r).acknacks)
    (asserting_known h.liveliness_flag old w r h.count k.hearing k.heard k.asserts) in
    let more = answered_more k.answer k.goes.known in
    learned_counts c old w r (answered k.answer k.goes.known) dues new learned
    (omega (arith, stays, more, begun, heard))
    (λ n e.
    let is_count : h.count ≡ n =
    same_Some h.count n (sym k.goes.advances.stays.count ∙ (sym (answered_count k.answer k.goes.known) ∙ e)) in
    inr (subst (λ (z : ℤ). z ≤ℤ pos (c.beats w)) is_count (used w is.from)))
    (λ due among.
    ask_counted c at h.reader_id h.writer_id w r is k.goes.known h.last_sn h.final_flag k.answer
    (subst (λ (t : Tracked). AnswersHeartbeat t h.last_sn h.final_flag k.answer) known k.answers) new learned.here due
    (subst (λ (ds : List Due). Contains ds due) k.dues_are among))

reader_counts : (c : Counting) (at : Receiver) (s : Submessage) → IsUsed c at s
    → (r : ℕ) (old : State) (moves : List Move) (dues : List Due) (new : State)
    → ReaderTakes c.roster c.own c.peer at s r old moves dues new → Counts c old dues new
reader_counts c at (Data d) used r old moves dues new (inl h) =
    ⊎_elim (λ takes. by (c.roster.is_reliable (reader_at c.peer r)) takes)
    (λ o.
    ⊎_elim (λ k. begins k) (λ n. counts_idle c old moves dues new (n.0, h.3.1, n.1)) o)
    (met_change (stands_to old h.0 r) (c.roster.is_reliable (reader_at c.peer r)) old h.0 r d.writer_sn change moves new h.3.0)
  where
    change : Change
    change = change_in d.content at.timestamp

    by : (reliable : Bool) → TakesChange reliable old h.0 r d.writer_sn change moves new → Counts c old dues new
    by reliable takes =
        let same = after_change-same reliable d.writer_sn change (old.known.tracked h.0 r) in
        goes_counts c old h.0 r (after_change reliable d.writer_sn change (old.known.tracked h.0 r)) moves dues new
        (change_went reliable old h.0 r d.writer_sn change moves new takes) h.3.1 same.1 same.2

    begins : BeginsWith old h.0 r d.writer_sn change moves new → Counts c old dues new
    begins k =
        counts_on c old k.started new [] dues
        (learned_counts c old h.0 r (record (old.known.tracked h.0 r) { place = max k.starts.place d.writer_sn }) []
        k.started (starts_learns old h.0 r d.writer_sn k.starting k.started k.starts) (omega arith) (λ n e. inl e)
        (no_dues c k.started [] refl))
        (goes_counts c k.started h.0 r (k.started.known.tracked h.0 r) k.going dues new
        (change_went false k.started h.0 r d.writer_sn change k.going new k.takes) h.3.1 refl refl)
reader_counts c at (Data d) used r old moves dues new (inr h) = counts_idle c old moves dues new h.1
reader_counts c at (Gap g) used r old moves dues new (inl h) =
    ⊎_elim
    (λ takes. ⊎_elim (λ t. goes_counts c old h.0 r (with_gap g.gap_start g.gap_list (old.known.tracked h.0 r)) moves
    dues new (goes_went old h.0 r _ moves new t.1) h.3.1 refl refl)
    (λ n. counts_idle c old moves dues new (n.0, h.3.1, n.1))
    (gap_went (c.roster.is_reliable (reader_at c.peer r)) old h.0 r g moves new takes))
    (λ n. counts_idle c old moves dues new (n.0, h.3.1, n.1))
    (met_gap (stands_to old h.0 r) (c.roster.is_reliable (reader_at c.peer r)) old h.0 r g moves new h.3.0)
reader_counts c at (Gap g) used r old moves dues new (inr h) = counts_idle c old moves dues new h.1
reader_counts c at (Heartbeat b) used r old moves dues new (inl h) =
    by (c.roster.is_reliable (reader_at c.peer r))
    (met_heartbeat (stands_to old h.0 r) (c.roster.is_reliable (reader_at c.peer r)) c.own at old h.0 r h.1.entity b moves dues new
    h.3)
  where
    by : (reliable : Bool)
        → TakesHeartbeat c.own at old h.0 r h.1.entity (heard_as reliable b) moves dues new
        ⊎ (HearsAlone old h.0 r b moves new × (dues ≡ [])) ⊎ Idles old moves dues new → Counts c old dues new
    by true (inl k) = heartbeat_counts c at b used old h.0 r h.1 moves dues new k
    by false (inl k) = heartbeat_counts c at (heard_as false b) used old h.0 r h.1 moves dues new k
    by reliable (inr (inl k)) =
        learned_counts c old h.0 r (record (old.known.tracked h.0 r) { count = Some b.count }) dues new
        (alone_learns old h.0 r b moves new k.0) (omega arith)
        (λ n e. inr (subst (λ (z : ℤ). z ≤ℤ pos (c.beats h.0)) (same_Some b.count n e) (used h.0 h.1.from)))
        (no_dues c new dues k.1)
    by reliable (inr (inr n)) = counts_idle c old moves dues new n
reader_counts c at (Heartbeat b) used r old moves dues new (inr h) = counts_idle c old moves dues new h.1
reader_counts c at (AckNack a) used r old moves dues new h = counts_idle c old moves dues new h
reader_counts c at Pad used r old moves dues new h = counts_idle c old moves dues new h
reader_counts c at (InfoDst x) used r old moves dues new h = counts_idle c old moves dues new h
reader_counts c at (InfoTs x) used r old moves dues new h = counts_idle c old moves dues new h
reader_counts c at (Other x) used r old moves dues new h = counts_idle c old moves dues new h

-- ---- a writer

answered_now : (known : Known) (w : ℕ) (r : Endpoint) (contact : Contact) (v : ℕ) (x : Endpoint) (count : ℤ)
    → ((with_answered known w r contact).answered v x).count ≡ Some count
    → ((known.answered v x).count ≡ Some count) ⊎ ((v ≡ w) × (x ≡ r) × (contact.count ≡ Some count))
answered_now known w r contact v x count h =
    with_one
    (λ y z (c : Contact). c.count ≡ Some count
    → ((known.answered y z).count ≡ Some count) ⊎ ((y ≡ w) × (z ≡ r) × (contact.count ≡ Some count)))
    known w r contact (λ is. inr (refl, refl, is)) v x (λ is. inl is) h

answer_counted : (c : Counting) (s : State) (own to : GuidPrefix) (reader writer : EntityId) (changes : List Change)
    (n : ℕ) (group : List Answer)
    → IsCounted c s (record { to = n; message = answer_message own to reader writer changes group })
answer_counted c s own to reader writer changes n group = record {
  beat =
      λ v count writable has. plain_beats c.roster (answer_message own to reader writer changes group) v count writable
      (tt, plain_answers changes reader writer group) has;
  ask =
      λ v k count writable has. absurd (plain_asks c.roster
      (answer_message own to reader writer changes group) v k count writable
      (tt, plain_answers changes reader writer group) has);
}

acknack_counts : (c : Counting) (at : Receiver) (a : AckNackBody) → IsUsed c at (AckNack a)
    → (writer : ℕ) (reader : Endpoint) (old : State)
    (is : IsToWriter c.roster c.own at a.reader_id a.writer_id (reader_at c.peer writer) reader) (moves : List Move)
    (dues : List Due) (new : State)
    → TakesAckNack c.own at old writer reader is.entity a moves dues new → Counts c old dues new
acknack_counts c at a used writer reader old is moves dues new k = record {
  asked = λ w r. let same = ap (λ (s : State). (s.known.tracked w r).acknacks) k.after in omega (arith, same);
  taken = λ w r count e. inl (sym (ap (λ (s : State). (s.known.tracked w r).count) k.after) ∙ e);
  answered = λ v x count e.
      ⊎_elim (λ o. inl o)
      (λ (n : (v ≡ writer) × (x ≡ reader) × (◌≡◌ {A = Option ℤ} (Some a.count) (Some count))).
      inr (subst (λ (z : ℤ). z ≤ℤ pos (c.asks (reader_at c.peer v) x)) (same_Some a.count count n.2)
      (subst (λ (y : Endpoint). a.count ≤ℤ pos (c.asks (reader_at c.peer v) y)) (sym n.1)
      (subst (λ (m : ℕ). a.count ≤ℤ pos (c.asks (reader_at c.peer m) reader)) (sym n.0)
      (used (reader_at c.peer writer) reader is)))))
      (answered_now old.known writer reader (contact_after (old.known.answered writer reader) a) v x count
      (sym (ap (λ (s : State). (s.known.answered v x).count) k.after) ∙ e));
  counted = λ due among.
      each_of (IsCounted c new)
      (λ group. record {
        to = reader.peer;
        message = answer_message c.own at.source_guid_prefix is.entity
            a.writer_id (writer_changes k.there) group;
      })
      (λ group. answer_counted c new c.own at.source_guid_prefix is.entity a.writer_id
      (writer_changes k.there) reader.peer group) k.groups due
      (subst (λ (ds : List Due). Contains ds due) k.dues_are among);
}

writer_counts : (c : Counting) (at : Receiver) (a : AckNackBody) → IsUsed c at (AckNack a)
    → (writer : ℕ) (reader : Endpoint) (old : State) (moves : List Move) (dues : List Due) (new : State)
    → WriterTakes c.roster c.own c.peer at a writer reader old moves dues new → Counts c old dues new
writer_counts c at a used writer reader old moves dues new (inl h) =
    acknack_counts c at a used writer reader old h.0 moves dues new h.2
writer_counts c at a used writer reader old moves dues new (inr h) =
    counts_idle c old [] dues new (refl, h.1.1, h.1.2)

-- ---- a submessage, and those of a message

takes_by_readers : (c : Counting) (at : Receiver) (s : Submessage) → IsUsed c at s
    → (readers : List ℕ) (old : State) (moves : List Move) (dues : List Due) (new : State)
    → InTurn (ReaderTakes c.roster c.own c.peer at s) readers old moves dues new → Counts c old dues new
takes_by_readers c at s used readers old moves dues new h =
    in_turn (Counts c) (counts_none c) (counts_on c) (ReaderTakes c.roster c.own c.peer at s)
    (reader_counts c at s used) readers old moves dues new h

takes_counts : (c : Counting) (at : Receiver) (s : Submessage) → IsUsed c at s
    → (old : State) (moves : List Move) (dues : List Due) (new : State)
    → Takes c.roster c.own c.peer at s old moves dues new → Counts c old dues new
takes_counts c at (AckNack a) used old moves dues new h =
    in_turn (Counts c) (counts_none c) (counts_on c)
    (λ (writer : ℕ). InTurn (λ (p : ReaderProxy). WriterTakes c.roster c.own c.peer at a writer p.reader)
    (own_writer old.part writer).readers)
    (λ writer from made due to k.
    in_turn (Counts c) (counts_none c) (counts_on c)
    (λ (p : ReaderProxy). WriterTakes c.roster c.own c.peer at a writer p.reader)
    (λ p. writer_counts c at a used writer p.reader) (own_writer old.part writer).readers from made due to k)
    (numbers_from 1 (length old.part.rtps.writers)) old moves dues new h
takes_counts c at (Data d) used old moves dues new h =
    takes_by_readers c at (Data d) used (numbers_from 1 (length old.part.rtps.readers)) old moves dues new h
takes_counts c at (Gap g) used old moves dues new h =
    takes_by_readers c at (Gap g) used (numbers_from 1 (length old.part.rtps.readers)) old moves dues new h
takes_counts c at (Heartbeat b) used old moves dues new h =
    takes_by_readers c at (Heartbeat b) used (numbers_from 1 (length old.part.rtps.readers)) old moves dues new h
takes_counts c at Pad used old moves dues new h =
    takes_by_readers c at Pad used (numbers_from 1 (length old.part.rtps.readers)) old moves dues new h
takes_counts c at (InfoDst x) used old moves dues new h =
    takes_by_readers c at (InfoDst x) used (numbers_from 1 (length old.part.rtps.readers)) old moves dues new h
takes_counts c at (InfoTs x) used old moves dues new h =
    takes_by_readers c at (InfoTs x) used (numbers_from 1 (length old.part.rtps.readers)) old moves dues new h
takes_counts c at (Other x) used old moves dues new h =
    takes_by_readers c at (Other x) used (numbers_from 1 (length old.part.rtps.readers)) old moves dues new h

-- each of the submessages has a count that its sender has used
abbrev pub AreUsed : Counting → Receiver → List Submessage → Type 0
AreUsed c from ss = (index : ℕ) (at : Receiver) (s : Submessage) → StandsAt c.own from ss index at s → IsUsed c at s

follows_counts : (c : Counting) (index : ℕ) (at : Receiver) (ss : List Submessage) → AreUsed c at ss
    → (old : State) (moves : List Move) (refused : Option ℕ) (dues : List Due) (new : State)
    → FollowsMessage c.roster c.own c.peer index at ss old moves refused dues new → Counts c old dues new
follows_counts c index at [] used old moves refused dues new h = counts_idle c old moves dues new h.1
follows_counts c index at (s ∷ ss) used old moves refused dues new (inl h) = counts_idle c old moves dues new h.1
follows_counts c index at (s ∷ ss) used old moves refused dues new (inr h) =
    subst (λ (ds : List Due). Counts c old ds new) (sym h.6)
    (counts_on c old h.4 new h.2 h.3 (takes_counts c at s (used 0 at s (refl, refl)) old h.0 h.2 h.4 h.7)
    (follows_counts c (index + 1) (after_submessage c.own at s) ss
    (λ i x y stands. used (suc i) x y stands) h.4 h.1 refused h.3 new h.8))

-- a packet whose counts their senders have used
pub packet_counts : (c : Counting) (bytes : List ℕ) → c.own ≡ c.roster.prefix c.peer
    → ((w : Endpoint) (count : ℤ) → HasHeartbeat c.roster bytes w count → count ≤ℤ pos (c.beats w))
    → ((w r : Endpoint) (count : ℤ) → HasAckNack c.roster bytes w r count → count ≤ℤ pos (c.asks w r))
    → (old : State) (report : Report) (dues : List Due) (new : State)
    → TakesPacket c.roster c.peer bytes old report dues new → Counts c old dues new
packet_counts c bytes name beats asks old report dues new (inl h) =
    follows_counts c 0 (receiver_of h.message.prefix) h.message.submessages used old report.moves report.refused dues
    new
    (subst (λ (p : GuidPrefix). FollowsMessage c.roster p c.peer 0
    (receiver_of h.message.prefix) h.message.submessages old report.moves report.refused dues new)
    (sym name) h.follows)
  where
    there : (index : ℕ) (at : Receiver) (s : Submessage)
        → StandsAt c.own (receiver_of h.message.prefix) h.message.submessages index at s → StandsIn bytes c.own at s
    there index at s stands =
        record { message = h.message; offset = h.offset; is_read = h.is_read; index = index; stands = stands }

    used_at : (index : ℕ) (at : Receiver) (s : Submessage)
        → StandsAt c.own (receiver_of h.message.prefix) h.message.submessages index at s → IsUsed c at s
    used_at index at (Heartbeat b) stands = λ w from. beats w b.count (record {
      own = c.own;
      at = at;
      heartbeat = b;
      there = there index at (Heartbeat b) stands;
      from = from;
      same_count = refl;
    })
    used_at index at (AckNack a) stands = λ w r to. asks w r a.count (record {
      own = c.own;
      at = at;
      acknack = a;
      there = there index at (AckNack a) stands;
      is_to = to;
      same_count = refl;
    })
    used_at index at (Data d) stands = tt
    used_at index at (Gap g) stands = tt
    used_at index at Pad stands = tt
    used_at index at (InfoDst x) stands = tt
    used_at index at (InfoTs x) stands = tt
    used_at index at (Other x) stands = tt

    used : AreUsed c (receiver_of h.message.prefix) h.message.submessages
    used = used_at
packet_counts c bytes name beats asks old report dues new (inr h) = record {
  asked = λ w r. let same = ap (λ (k : Known). (k.tracked w r).acknacks) h.1 in omega (arith, same);
  taken = λ w r count e. inl (sym (ap (λ (k : Known). (k.tracked w r).count) h.1) ∙ e);
  answered = λ w r count e. inl (sym (ap (λ (k : Known). (k.answered w r).count) h.1) ∙ e);
  counted = λ due among. no_dues c new dues h.2 due among;
}
