-- What is due once a submessage was taken up can be written.
use Rattle.std.proofs.Common.{◌≡◌, ◌⊎◌, ℕ, ◌^◌, ◌<◌, ◌≤◌, Bool, true, false, List, [], ◌∷◌, Option, Some, None, length, subst, ap, sym, ◌∙◌, inl, inr, ⊎_elim, arith}
use Rattle.std.specs.List.{All}
use Rattle.std.proofs.lemmas.List.Elements.{All-cons, All-map, All-nil, All-weaker}
use Rattle.dds_base.specs.declared.change.Change.{Change}
use Rattle.dds_protocol.specs.Roster.{Roster}
use Rattle.dds_base.specs.declared.guid.EntityId.{EntityId}
use Rattle.dds_base.specs.declared.guid.GuidPrefix.{GuidPrefix}
use Rattle.dds_base.specs.Kept.{change_at}
use Rattle.rtps_reader.specs.declared.step.AckNackDue.{AckNackDue}
use Rattle.rtps_reader.specs.Answer.{AnswersHeartbeat, answered}
use Rattle.rtps_reader.specs.Tracked.{Tracked}
use Rattle.rtps_sets.specs.NumberSet.{NumberSet}
use Rattle.rtps_wire.specs.declared.acknack.AckNack.{AckNack as AckNackBody}
use Rattle.rtps_wire.specs.declared.heartbeat.Heartbeat.{Heartbeat as HeartbeatBody}
use Rattle.rtps_wire.specs.declared.message.Message.{Message}
use Rattle.rtps_wire.specs.declared.submessage.Submessage.{Submessage}
use Rattle.rtps_wire.specs.declared.submessage.Submessage.TheVariants.{Pad, InfoDst, InfoTs, Data, Heartbeat, AckNack, Gap, Other}
use Rattle.rtps_wire.specs.Fields.{IsEntityId}
use Rattle.rtps_wire.proofs.ContentLaws.{content_valid}
use Rattle.rtps_writer.specs.declared.answer.Answer.{Answer}
use Rattle.rtps_writer.specs.declared.answer.Answer.TheVariants.{Data as AnswersData, Gap as AnswersGap}
use Rattle.rtps_writer.specs.Answers.{IsRight}
use Rattle.dds_base.specs.declared.endpoint.Endpoint.{Endpoint}
use Rattle.dds_machine.specs.declared.reply.Move.{Move}
use Rattle.dds_machine.specs.Part.{Writer, own_writer, owed_from, writer_changes}
use Rattle.dds_protocol.specs.Claims.{IsReader, IsWriter, IsToReader, IsToWriter}
use Rattle.dds_protocol.specs.DueMessages.{Due, answer_message, acknack_message, acknacks_due}
use Rattle.dds_protocol.proofs.Ways.{met_heartbeat}
use Rattle.dds_protocol.specs.Protocol.{State, heard_as, TakesHeartbeat, TakesAckNack, ReaderTakes, WriterTakes, AreGrouped, answers_per, answered_from, has_for, HearsAlone, Idles, stands_to}
use Rattle.dds_protocol.specs.Backed.{reader_at}
use Rattle.dds_protocol.specs.Dues.{IsTellable, AreTellable, IsSized, AreSmall, HasSmallChanges, CanBeWritten}
use Rattle.dds_protocol.proofs.DuesAnswers.{IsAskedOf, answers_of, answers_of-right, all_grouped}
use Rattle.dds_protocol.proofs.DuesWritable.{Ends, IsDatable, HasSmallGap, acknack_writable, answers_writable}
use Rattle.dds_protocol.proofs.Framing.{tracked_here}
use Rattle.dds_protocol.proofs.Knowing.{answered_same}
use Rattle.dds_protocol.proofs.RuledReaders.{Coming, Backs}

-- nothing is due
pub none_written : (dues : List Due) → dues ≡ [] → All CanBeWritten dues
none_written dues none = subst (λ (ds : List Due). All CanBeWritten ds) (sym none) (All-nil CanBeWritten)

-- ---- names of a roster

-- a reader's peer has a prefix of 12 octets, and the reader an entity id of 4
pub reader_octets : (roster : Roster) → IsSized roster → (prefix : GuidPrefix) (entity : EntityId) (r : Endpoint)
    → IsReader roster prefix entity r → (length prefix.0 ≡ 12) × IsEntityId entity
reader_octets roster sized prefix entity r is = (
  subst (λ (p : GuidPrefix). length p.0 ≡ 12) is.same_prefix (sized.prefix r.peer),
  sized.reader r entity is.at_reader,
)

-- so have a writer's peer and the writer
pub writer_octets : (roster : Roster) → IsSized roster → (prefix : GuidPrefix) (entity : EntityId) (w : Endpoint)
    → IsWriter roster prefix entity w → (length prefix.0 ≡ 12) × IsEntityId entity
writer_octets roster sized prefix entity w is = (
  subst (λ (p : GuidPrefix). length p.0 ≡ 12) is.same_prefix (sized.prefix w.peer),
  sized.writer w entity is.at_writer,
)

-- ---- an ACKNACK

acknack_written : (c : Coming) (h : HeartbeatBody) (w : Endpoint) (r : ℕ)
    (is : IsToReader c.roster c.own c.at h.reader_id h.writer_id w (reader_at c.peer r)) → IsSized c.roster
    → (t : Tracked) → 1 ≤ t.place → (answer : Option AckNackDue) → AnswersHeartbeat t h.last_sn h.final_flag answer
    → All CanBeWritten (acknacks_due c.own c.at.source_guid_prefix w.peer is.entity h.writer_id answer)
acknack_written c h w r is sized t low None a = All-nil CanBeWritten
acknack_written c h w r is sized t low (Some due) a =
    let of_reader = reader_octets c.roster sized c.own is.entity (reader_at c.peer r) is.to in
    let of_writer = writer_octets c.roster sized c.at.source_guid_prefix h.writer_id w is.from in
    let ends : Ends c.own c.at.source_guid_prefix is.entity h.writer_id =
    record {
      own_octets = of_reader.0;
      to_octets = of_writer.0;
      reader_octets = of_reader.1;
      writer_octets = of_writer.1;
    } in
    let message : Message = acknack_message c.own c.at.source_guid_prefix is.entity h.writer_id due in
    All-cons CanBeWritten (record { to = w.peer; message = message }) []
    (λ places. acknack_writable c.own c.at.source_guid_prefix is.entity h.writer_id ends t h.last_sn h.final_flag due a
    low places.1.0)
    (All-nil CanBeWritten)

heartbeat_written : (c : Coming) (h : HeartbeatBody) (w : Endpoint) (r : ℕ)
    (is : IsToReader c.roster c.own c.at h.reader_id h.writer_id w (reader_at c.peer r)) → IsSized c.roster
    → (old : State) (made : List Move) (dues : List Due) (new : State) → Backs c new
    → TakesHeartbeat c.own c.at old w r is.entity h made dues new → All CanBeWritten dues
heartbeat_written c h w r is sized old made dues new b k =
    let from = (b.claimed w r).from in
    let known : new.known.tracked w r ≡ answered k.answer (k.there.known.tracked w r) =
    ap (λ (s : State). s.known.tracked w r) k.after
    ∙ tracked_here k.there.known w r (answered k.answer (k.there.known.tracked w r)) in
    let same =
    ap (λ (t : Tracked). t.place) known ∙ (answered_same k.answer (k.there.known.tracked w r)).0 in
    let low : 1 ≤ (k.there.known.tracked w r).place = omega (arith, from, same) in
    subst (λ (ds : List Due). All CanBeWritten ds) (sym k.dues_are)
    (acknack_written c h w r is sized (k.there.known.tracked w r) low k.answer k.answers)

-- what is due once a reader took a submessage up can be written
pub reader_written : (c : Coming) (s : Submessage) (r : ℕ) (old : State) (made : List Move) (dues : List Due)
    (new : State) → IsSized c.roster → Backs c new → ReaderTakes c.roster c.own c.peer c.at s r old made dues new
    → All CanBeWritten dues
reader_written c (Data d) r old made dues new sized b h = none_written dues (⊎_elim (λ t. t.3.1) (λ n. n.1.1) h)
reader_written c (Gap g) r old made dues new sized b h = none_written dues (⊎_elim (λ t. t.3.1) (λ n. n.1.1) h)
reader_written c (Heartbeat x) r old made dues new sized b h =
    ⊎_elim (λ t. by t.0 t.1 (c.roster.is_reliable (reader_at c.peer r))
    (met_heartbeat (stands_to old t.0 r) (c.roster.is_reliable (reader_at c.peer r)) c.own c.at old t.0 r t.1.entity x made dues new
    t.3)) (λ n. none_written dues n.1.1) h
  where
    by : (w : Endpoint) (is : IsToReader c.roster c.own c.at x.reader_id x.writer_id w (reader_at c.peer r))
        (reliable : Bool)
        → TakesHeartbeat c.own c.at old w r is.entity (heard_as reliable x) made dues new
        ⊎ (HearsAlone old w r x made new × (dues ≡ [])) ⊎ Idles old made dues new → All CanBeWritten dues
    by w is true (inl k) = heartbeat_written c x w r is sized old made dues new b k
    by w is false (inl k) = heartbeat_written c (heard_as false x) w r is sized old made dues new b k
    by w is reliable (inr (inl k)) = none_written dues k.1
    by w is reliable (inr (inr n)) = none_written dues n.1
reader_written c (AckNack a) r old made dues new sized b h = none_written dues h.1
reader_written c Pad r old made dues new sized b h = none_written dues h.1
reader_written c (InfoDst x) r old made dues new sized b h = none_written dues h.1
reader_written c (InfoTs x) r old made dues new sized b h = none_written dues h.1
reader_written c (Other x) r old made dues new sized b h = none_written dues h.1

-- ---- answers

-- the numbers of a GAP are those of changes
gap_small : (w : Writer) (r : Endpoint) (set : NumberSet) (from : ℕ) → 1 ≤ set.base → length (writer_changes w) < 2 ^ 62
    → (a : Answer) → IsRight (λ n. has_for w r n) (IsAskedOf w set from) a → HasSmallGap a
gap_small w r set from low few (AnswersData n) right = tt
gap_small w r set from low few (AnswersGap first last) right =
    let order = right.0 in
    let least = (right.1 first (omega arith) order).1.0 in
    let most = (right.1 last order (omega arith)).1.2 in
    (omega (arith, low, least), order, omega (arith, most, few))

gaps_small : (w : Writer) (r : Endpoint) (set : NumberSet) (from : ℕ) → 1 ≤ set.base → length (writer_changes w) < 2 ^ 62
    → All HasSmallGap (answers_of w r set from)
gaps_small w r set from low few =
    All-weaker (IsRight (λ n. has_for w r n) (IsAskedOf w set from)) HasSmallGap
    (λ a right. gap_small w r set from low few a right) (answers_of w r set from) (answers_of-right w r set from)

-- no group has more than so many answers
few_grouped : (per : ℕ) (answers : List Answer) (groups : List (List Answer)) → AreGrouped per answers groups
    → All (λ (group : List Answer). length group ≤ per) groups
few_grouped per answers [] g = All-nil (λ (group : List Answer). length group ≤ per)
few_grouped per answers (group ∷ groups) g =
    All-cons (λ (x : List Answer). length x ≤ per) group groups g.3 (few_grouped per g.0 groups g.5)

both_all : {X : Type 0} (P Q : X → Type 0) (xs : List X) → All P xs → All Q xs → All (λ x. P x × Q x) xs
both_all P Q xs p q = λ i d lt. (p i d lt, q i d lt)

-- a change that can be told, and is small
datable : (w : Writer) → AreSmall w.max_value (writer_changes w)
    → ((n : ℕ) (c : Change) → change_at (writer_changes w) n ≡ Some c → IsTellable c) → (n : ℕ) (c : Change)
    → change_at (writer_changes w) n ≡ Some c → IsDatable c
datable w small tellable n c at =
    let early = (tellable n c at).early in
    let value = small.value n c at in
    let most = small.limited in
    record {
      content = content_valid c.kind c.key c.value c.strength (small.key n c at) (omega (arith, value, most))
          (small.strength n c at);
      moment = omega
          (arith, early);
    }

acknack_answers_written : (c : Coming) (a : AckNackBody) (w : ℕ) (r : Endpoint)
    (is : IsToWriter c.roster c.own c.at a.reader_id a.writer_id (record { peer = c.peer; number = w }) r)
    → 1 ≤ a.reader_sn_state.base
    → (old : State) (made : List Move) (dues : List Due) (new : State) → IsSized c.roster → AreTellable old.part
    → HasSmallChanges old.part → TakesAckNack c.own c.at old w r is.entity a made dues new → All CanBeWritten dues
acknack_answers_written c a w r is low old made dues new sized tellable small k =
    let from : ℕ = answered_from (owed_from k.there r) k.acknowledged a.reader_sn_state.base in
    let of_reader = reader_octets c.roster sized c.at.source_guid_prefix is.entity r is.from in
    let of_writer = writer_octets c.roster sized c.own a.writer_id (record { peer = c.peer; number = w }) is.to in
    let ends : Ends c.own c.at.source_guid_prefix is.entity a.writer_id =
    record {
      own_octets = of_writer.0;
      to_octets = of_reader.0;
      reader_octets = of_reader.1;
      writer_octets = of_writer.1;
    } in
    let same : writer_changes k.there ≡ writer_changes (own_writer old.part w) =
    ap (λ (y : Writer). writer_changes y) k.there_is in
    let values : k.there.max_value ≡ (own_writer old.part w).max_value = ap (λ (y : Writer). y.max_value) k.there_is in
    let changes : AreSmall k.there.max_value (writer_changes k.there) =
    subst (λ (most : ℕ). AreSmall most (writer_changes k.there)) (sym values)
    (subst (λ (cs : List Change). AreSmall (own_writer old.part w).max_value cs) (sym same) (small w)) in
    let told : (n : ℕ) (x : Change) → change_at (writer_changes k.there) n ≡ Some x → IsDatable x =
    datable k.there changes (λ n x at. tellable w n x (ap (λ (cs : List Change). change_at cs n) (sym same) ∙ at)) in
    let gaps =
    all_grouped HasSmallGap _ _ k.groups k.grouped (gaps_small k.there r a.reader_sn_state from low changes.few) in
    let each =
    both_all (All HasSmallGap) (λ (group : List Answer). length group ≤ answers_per k.there.max_value) k.groups gaps
    (few_grouped _ _ k.groups k.grouped) in
    let message : List Answer → Due =
    λ group. record {
      to = r.peer;
      message = answer_message c.own c.at.source_guid_prefix is.entity a.writer_id
          (writer_changes k.there) group;
    } in
    subst (λ (ds : List Due). All CanBeWritten ds) (sym k.dues_are)
    (All-map CanBeWritten message k.groups
    (All-weaker (λ (group : List Answer). All HasSmallGap group × (length group ≤ answers_per k.there.max_value))
    (λ (group : List Answer). CanBeWritten (message group))
    (λ group h places. answers_writable c.own c.at.source_guid_prefix is.entity a.writer_id ends
    (writer_changes k.there) changes.few told k.there.max_value changes.limited (λ n x at. changes.value n x at) group h.0
    h.1) k.groups each))

-- what is due once a writer took an ACKNACK up can be written
pub writer_written : (c : Coming) (a : AckNackBody) → 1 ≤ a.reader_sn_state.base
    → (w : ℕ) (r : Endpoint) (old : State) (made : List Move) (dues : List Due) (new : State) → IsSized c.roster
    → AreTellable old.part → HasSmallChanges old.part
    → WriterTakes c.roster c.own c.peer c.at a w r old made dues new → All CanBeWritten dues
writer_written c a low w r old made dues new sized tellable small (inl h) =
    acknack_answers_written c a w r h.0 low old made dues new sized tellable small h.2
writer_written c a low w r old made dues new sized tellable small (inr h) = none_written dues h.1.1
