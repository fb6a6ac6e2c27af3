-- The peer's readers take a submessage up, one after the other, by the rules of the protocol.
use Rattle.std.proofs.Common.{◌≡◌, ℕ, zero, suc, ◌+◌, ◌<◌, ◌≤◌, Bool, true, false, List, [], ◌∷◌, ◌++◌, Option, Some, None, drop, length, slice_get, refl, ap, sym, ◌∙◌, subst, arith, inl, inr, append_assoc, nat_lt}
use Rattle.std.specs.Prelude.{IfSome, nat_le, ◌&&◌, if◌then◌else◌}
use Rattle.std.proofs.lemmas.Option.{same_Some}
use Rattle.std.proofs.lemmas.List.{append-nil}
use Rattle.dds_base.specs.declared.change.Change.{Change}
use Rattle.dds_protocol.specs.Roster.{Roster}
use Rattle.dds_base.specs.declared.guid.EntityId.{EntityId}
use Rattle.dds_base.specs.declared.guid.Guid.{Guid}
use Rattle.dds_base.specs.declared.guid.GuidPrefix.{GuidPrefix}
use Rattle.dds_base.specs.declared.qos.ReaderQos.{ReaderQos}
use Rattle.dds_base.specs.Kept.{numbers_from}
use Rattle.dds_base.specs.Matched.{is_reliable}
use Rattle.dds_cache.specs.Standing.{qos_of}
use Rattle.rtps_reader.specs.declared.attachment.Attachment.{Attachment as AttachmentOf}
use Rattle.rtps_reader.specs.declared.attachment.Attachment.TheVariants as standing
use Rattle.rtps_reader.specs.declared.step.AckNackDue.{AckNackDue}
use Rattle.rtps_reader.specs.declared.step.Step.{Step}
use Rattle.rtps_reader.specs.declared.step.HeartbeatSeen.{HeartbeatSeen}
use Rattle.rtps_reader.specs.declared.known_writer.KnownWriter.{KnownWriter}
use Rattle.rtps_reader.specs.Proxy.{tracked}
use Rattle.rtps_reader.specs.Tracked.{Tracked, may_take, with_data, with_gap}
use Rattle.rtps_reader.proofs.MoveLaws.{same_is}
use Rattle.rtps_reader.specs.Attached.{BeginsIf as BeginsIfTold, MeetsChange as ChangeTold, MeetsNews, Rests}
use Rattle.rtps_reader.specs.Jump.{comes}
use Rattle.rtps_reader.specs.Reader.{Proxies, Tracks, how_at, match_at}
use Rattle.rtps_wire.specs.declared.data.Data.{Data as DataBody}
use Rattle.rtps_wire.specs.declared.gap.Gap.{Gap as GapBody}
use Rattle.rtps_wire.specs.declared.heartbeat.Heartbeat.{Heartbeat as HeartbeatBody}
use Rattle.rtps_wire.specs.declared.submessage.Submessage.{Submessage}
use Rattle.rtps_wire.specs.declared.submessage.Submessage.TheVariants.{Data, Heartbeat, Gap}
use Rattle.rtps_wire.specs.Content.{change_in}
use Rattle.dds_base.specs.declared.endpoint.Endpoint.{Endpoint}
use Rattle.dds_machine.specs.declared.reply.Move.{Move}
use Rattle.dds_machine.specs.declared.reply.Move.TheVariants.{Place}
use Rattle.dds_protocol.specs.Claims.{Receiver, IsToReader, Names}
use Rattle.dds_protocol.specs.Peer.{Peer, state_of}
use Rattle.dds_protocol.specs.DueMessages.{Due, acknacks_due}
use Rattle.dds_protocol.specs.Protocol.{State, InTurn, MayNeedMemory, heard_as, ReaderTakes, may_do, MeetsChange, MeetsGap, MeetsHeartbeat, stands_to}
use Rattle.dds_core.specs.declared.delivery.FirstNamed.{FirstNamed}
use Rattle.dds_ends.specs.declared.matching.WriterName.{WriterName}
use Rattle.dds_core.specs.declared.effects.Effects.{Effects}
use Rattle.dds_ends.specs.declared.sending.Announced.{Announced}
use Rattle.dds_ends.specs.declared.reader_told.Ready.{Ready}
use Rattle.dds_ends.specs.declared.reader_told.Told.{Told}
use Rattle.dds_ends.specs.declared.reader_told.Told.TheVariants as told
use Rattle.dds_ends.specs.Identity.{reliable_in}
use Rattle.dds_ends.specs.Kept.{ReaderKept}
use Rattle.dds_core.specs.Kept.{PeerKept}
use Rattle.dds_core.proofs.Names.{own_end, own_reader_is}
use Rattle.dds_ends.specs.Readiness.{IsReadyWith, IsReadyFor, IsNamedAt, IsUnnamed, NamedBy, IsToldBy, TellsSo, seen_in, writer_guid}
use Rattle.dds_core.specs.Readiness.{AreReady, IsFirstNamed, NamesNone, moves_of}
use Rattle.dds_ends.proofs.Idle.{idle_step, jumps_nowhere, stays_with}
use Rattle.dds_base.specs.Places.{Match}
use Rattle.dds_base.specs.declared.happening.Happening.{Happening}
use Rattle.dds_core.specs.Moved.{MovesKept}
use Rattle.dds_core.specs.Receiving.{TakesAt, TookAt, with_state, NeedsMemory, ReadersTook, TakesAll, TellsReaders, StandsAsWell}
use Rattle.dds_core.proofs.TakenSoFar.{TakesSome}
use Rattle.dds_ends.specs.Beating.{AddsTo}
use Rattle.dds_ends.specs.Standing.{IsFirstRow, stood_as}
use Rattle.dds_core.specs.Standing.{StandsFor}
use Rattle.dds_ends.proofs.Beating.{adds_none, adds_on}
use Rattle.dds_ends.specs.Storing.{Holds}
use Rattle.dds_core.proofs.Ends.{with_reader}
use Rattle.dds_ends.proofs.Lists.{element, left_at, left_more, drop_set, set_back}
use Rattle.dds_core.proofs.KnownWriters.{row_known, unknown_to}
use Rattle.dds_core.proofs.Named.{first_row, is_to}
use Rattle.std.proofs.lemmas.Bool.Decides.{nat_tests}
use Rattle.dds_machine.specs.Matching.{is_known}
use Rattle.dds_machine.specs.Part.{Attachment, own_proxies}
use Rattle.dds_core.proofs.Takes.{Telling, known_of, reader_of, stood, stands_here}
use Rattle.dds_core.proofs.Meeting.{Took, Met, NowKnows, NowHas, told_match, moves_at, due_to, change_met, gap_met, nothing_met, jump_met, heartbeat_met, beat_met, repeated_met}

-- what one reader did, by the rules, and what was then due
pub record ReaderTook (roster : Roster) (own : GuidPrefix) (at : Receiver) (s : Submessage) (reader : ℕ) (peer : Peer)
    (made : List Move) (dues : List Due) (new : PeerKept) : Type 0 where
  pub state : State
  pub takes : ReaderTakes roster own peer.number at s reader (state_of peer) made dues state
  pub stands : StandsFor new roster (with_state peer state)

-- where nothing was done, nothing moved
pub idle_moves : (writer : Endpoint) (reader : ℕ) (t : Tracked) → moves_of writer reader t.place (idle_step t) ≡ []
idle_moves writer reader t =
    ap (λ b. if b then Place writer reader t.place [] ∷ [] else []) (not_less t.place)
  where
    not_less : (n : ℕ) → nat_lt n n ≡ false
    not_less n = grind (arith, nat_tests)

-- the names that a submessage has
abbrev named_as : (c : Telling) (own : GuidPrefix) (at : Receiver) (a b d e : EntityId) → a ≡ d → b ≡ e
    → IsToReader c.roster own at a b c.writer (record { peer = c.peer.number; number = suc c.i })
    → IsToReader c.roster own at d e c.writer (record { peer = c.peer.number; number = suc c.i })
named_as c own at a b d e f g to = record {
  from =
      record {
        same_prefix = to.from.same_prefix;
        at_writer = to.from.at_writer ∙ ap (λ (x : EntityId). Some x) g;
      };
  is_for = to.is_for;
  entity = to.entity;
  to = to.to;
  named = subst (λ (x : EntityId). Names x to.entity) f to.named;
  matched = to.matched;
}

-- the reader is a reliable one, by the roster
abbrev policy_of : Telling → Bool
policy_of c = c.roster.is_reliable (own_end c.peer.number c.i)

-- it knows the writer
knows_it : (c : Telling) → is_known (own_proxies c.peer.part (suc c.i)) c.writer ≡ true
knows_it c =
    subst (λ (w : Endpoint). is_known (own_proxies c.peer.part (suc c.i)) w ≡ true) c.first.is
    (row_known c.roster c.peer c.kept c.stands c.i c.k c.at c.row c.first.name c.first.at)

no_answer : (c : Telling) (own : GuidPrefix) (at : Receiver) (entity writer_id : EntityId) (step : Step)
    → step.acknack ≡ None → due_to c own at entity writer_id step ≡ []
no_answer c own at entity writer_id step none =
    ap (λ (o : Option AckNackDue). acknacks_due own at.source_guid_prefix c.writer.peer entity writer_id o) none

-- how the rules have it that the reader stands to the writer, and what its reliability is
rules_so : (c : Telling) (Meets : Attachment → Bool → State → Type 0) (k' : ReaderKept) (a : AttachmentOf)
    (reliable policy : Bool) → how_at c.k.reader c.row ≡ a → policy ≡ reliable
    → Met c k' (λ s. Meets (stood_as a) reliable s)
    → Met c k' (λ s. Meets (stands_to (state_of c.peer) c.writer (suc c.i)) policy s)
rules_so c Meets k' a reliable policy is same m =
    let stands : stands_to (state_of c.peer) c.writer (suc c.i) ≡ stood_as a =
    stands_here c ∙ ap (λ (x : AttachmentOf). stood_as x) is in
    record {
      state = m.state;
      meets =
          subst (λ (b : Bool). Meets (stands_to (state_of c.peer) c.writer (suc c.i)) b m.state) (sym same)
          (subst (λ (x : Attachment). Meets x reliable m.state) (sym stands) m.meets);
      stands = m.stands;
    }

-- a DATA was told
data_told : (c : Telling) (own : GuidPrefix) (at : Receiver) (d : DataBody) (k' : ReaderKept) (from : ℕ)
    (step : Step) (reader_id writer_id : EntityId) → NamedBy (Data d) reader_id writer_id
    → (to : IsToReader c.roster own at reader_id writer_id c.writer (record { peer = c.peer.number; number = suc c.i }))
    → (a : AttachmentOf) (reliable : Bool) → how_at c.k.reader c.row ≡ a → policy_of c ≡ reliable
    → step.acknack ≡ None
    → Met c k' (λ s. MeetsChange (stood_as a) reliable (state_of c.peer) c.writer (suc c.i) d.writer_sn
    (change_in d.content at.timestamp) (moves_at c from step) s)
    → ReaderTook c.roster own at (Data d) (suc c.i) c.peer (moves_at c from step)
    (due_to c own at to.entity writer_id step) (with_reader c.kept c.i k')
data_told c own at d k' from step reader_id writer_id by to a reliable is policy silent met =
    let to_it = named_as c own at reader_id writer_id d.reader_id d.writer_id by.0 by.1 to in
    let m =
    rules_so c
    (λ x b s. MeetsChange x b (state_of c.peer) c.writer (suc c.i) d.writer_sn (change_in d.content at.timestamp)
    (moves_at c from step) s) k' a reliable (policy_of c) is policy met in
    record {
      state = m.state;
      takes = inl (c.writer, to_it, knows_it c, (m.meets, no_answer c own at to.entity writer_id step silent));
      stands = m.stands;
    }

-- a GAP was told
gap_told : (c : Telling) (own : GuidPrefix) (at : Receiver) (g : GapBody) (k' : ReaderKept) (from : ℕ)
    (step : Step) (reader_id writer_id : EntityId) → NamedBy (Gap g) reader_id writer_id
    → (to : IsToReader c.roster own at reader_id writer_id c.writer (record { peer = c.peer.number; number = suc c.i }))
    → (a : AttachmentOf) (reliable : Bool) → how_at c.k.reader c.row ≡ a → policy_of c ≡ reliable
    → step.acknack ≡ None
    → Met c k' (λ s. MeetsGap (stood_as a) reliable (state_of c.peer) c.writer (suc c.i) g (moves_at c from step) s)
    → ReaderTook c.roster own at (Gap g) (suc c.i) c.peer (moves_at c from step)
    (due_to c own at to.entity writer_id step) (with_reader c.kept c.i k')
gap_told c own at g k' from step reader_id writer_id by to a reliable is policy silent met =
    let to_it = named_as c own at reader_id writer_id g.reader_id g.writer_id by.0 by.1 to in
    let m =
    rules_so c (λ x b s. MeetsGap x b (state_of c.peer) c.writer (suc c.i) g (moves_at c from step) s) k' a reliable
    (policy_of c) is policy met in
    record {
      state = m.state;
      takes = inl (c.writer, to_it, knows_it c, (m.meets, no_answer c own at to.entity writer_id step silent));
      stands = m.stands;
    }

-- a HEARTBEAT was told
heartbeat_told : (c : Telling) (own : GuidPrefix) (at : Receiver) (h : HeartbeatBody) (k' : ReaderKept) (from : ℕ)
    (step : Step) (reader_id writer_id : EntityId) → NamedBy (Heartbeat h) reader_id writer_id
    → (to : IsToReader c.roster own at reader_id writer_id c.writer (record { peer = c.peer.number; number = suc c.i }))
    → (a : AttachmentOf) (reliable : Bool) → how_at c.k.reader c.row ≡ a → policy_of c ≡ reliable
    → Met c k' (λ s. MeetsHeartbeat (stood_as a) reliable own at (state_of c.peer) c.writer (suc c.i) to.entity h
    (moves_at c from step) (due_to c own at to.entity h.writer_id step) s)
    → ReaderTook c.roster own at (Heartbeat h) (suc c.i) c.peer (moves_at c from step)
    (due_to c own at to.entity writer_id step) (with_reader c.kept c.i k')
heartbeat_told c own at h k' from step reader_id writer_id by to a reliable is policy met =
    let to_it = named_as c own at reader_id writer_id h.reader_id h.writer_id by.0 by.1 to in
    let m =
    rules_so c
    (λ x b s. MeetsHeartbeat x b own at (state_of c.peer) c.writer (suc c.i) to.entity h (moves_at c from step)
    (due_to c own at to.entity h.writer_id step) s) k' a reliable (policy_of c) is policy met in
    record {
      state = m.state;
      takes = inl (
        c.writer,
        to_it,
        knows_it c,
        subst (λ (w : EntityId).
            MeetsHeartbeat (stands_to (state_of c.peer) c.writer (suc c.i)) (policy_of c) own at
            (state_of c.peer) c.writer (suc c.i) to.entity h (moves_at c from step)
            (due_to c own at to.entity w step) m.state) (sym by.1) m.meets,
      );
      stands = m.stands;
    }

-- where a DATA or a GAP was told, nothing is answered
news_silent : (a : AttachmentOf) (match : Match) (with_it : Tracked → Tracked) (t : Tracked) (h : List Happening)
    (step : Step) (Knows : Tracked → Type 0) (Has : List Happening → Type 0)
    → MeetsNews a match with_it t h step Knows Has → step.acknack ≡ None
news_silent standing.Begun match with_it t h step Knows Has m = m.1.acknack
news_silent standing.Waiting match with_it t h step Knows Has m = m.0.acknack
news_silent standing.Away match with_it t h step Knows Has m = m.0.acknack

begins_silent : (b : Bool) (match : Match) (t : Tracked) (h : List Happening) (number : ℕ) (change : Change)
    (step : Step) (Knows : Tracked → Type 0) (Has : List Happening → Type 0)
    → BeginsIfTold b match t h number change step Knows Has → step.acknack ≡ None
begins_silent true match t h number change step Knows Has m = m.1.acknack
begins_silent false match t h number change step Knows Has m = m.0.acknack

change_silent : (a : AttachmentOf) (match : Match) (t : Tracked) (h : List Happening) (number : ℕ) (change : Change)
    (step : Step) (Knows : Tracked → Type 0) (Has : List Happening → Type 0)
    → ChangeTold a match t h number change step Knows Has → step.acknack ≡ None
change_silent standing.Begun match t h number change step Knows Has m = m.1.acknack
change_silent standing.Waiting match t h number change step Knows Has m =
    begins_silent (nat_le t.place number && comes match number h number change) match t h number change step Knows Has m
change_silent standing.Away match t h number change step Knows Has m = m.0.acknack

-- what is ready for a reader is told, by the reader's reliability, which is that of the roster
told_so : (c : Telling) (own : GuidPrefix) (at : Receiver) (s : Submessage) (said : Told) (k' : ReaderKept) (from : ℕ)
    (step : Step) (reader_id writer_id : EntityId) → NamedBy s reader_id writer_id
    → IsToldBy (reliable_in c.k.store) at s said
    → (to : IsToReader c.roster own at reader_id writer_id c.writer (record { peer = c.peer.number; number = suc c.i }))
    → policy_of c ≡ reliable_in c.k.store → Took c k' from step
    → (a : AttachmentOf) → how_at c.k.reader c.row ≡ a
    → TellsSo a (told_match c) said (known_of c) (reader_of c).happened step (λ t. NowKnows c k' t) (λ h. NowHas k' h)
    → ReaderTook c.roster own at s (suc c.i) c.peer (moves_at c from step)
    (due_to c own at to.entity writer_id step) (with_reader c.kept c.i k')
told_so c own at (Data d) (told.Change number change) k' from step reader_id writer_id by is to policy took a stands m =
    let n : MeetsNews a (told_match c) (with_data d.writer_sn (change_in d.content at.timestamp)) (known_of c)
    (reader_of c).happened step (λ t. NowKnows c k' t) (λ h. NowHas k' h) =
    subst (λ x. MeetsNews a (told_match c) (with_data d.writer_sn x) (known_of c) (reader_of c).happened step
    (λ t. NowKnows c k' t) (λ h. NowHas k' h)) is.2
    (subst (λ x. MeetsNews a (told_match c) (with_data x change) (known_of c) (reader_of c).happened step
    (λ t. NowKnows c k' t) (λ h. NowHas k' h)) is.1 m) in
    data_told c own at d k' from step reader_id writer_id by to a true stands (policy ∙ is.0)
    (news_silent a (told_match c) (with_data d.writer_sn (change_in d.content at.timestamp)) (known_of c)
    (reader_of c).happened step (λ t. NowKnows c k' t) (λ h. NowHas k' h) n)
    (change_met c k' from step d.writer_sn (change_in d.content at.timestamp) a took stands n)
told_so c own at (Data d) (told.Jump number change) k' from step reader_id writer_id by is to policy took a stands m =
    let n : ChangeTold a (told_match c) (known_of c) (reader_of c).happened d.writer_sn
    (change_in d.content at.timestamp) step (λ t. NowKnows c k' t) (λ h. NowHas k' h) =
    subst (λ x. ChangeTold a (told_match c) (known_of c) (reader_of c).happened d.writer_sn x step (λ t. NowKnows c k' t)
    (λ h. NowHas k' h)) is.2
    (subst (λ x. ChangeTold a (told_match c) (known_of c) (reader_of c).happened x change step (λ t. NowKnows c k' t)
    (λ h. NowHas k' h)) is.1 m) in
    let other : is_reliable (reader_of c).qos.reliability ≡ false =
    ap (λ (q : ReaderQos). is_reliable q.reliability) (stood c).qos_is ∙ is.0 in
    data_told c own at d k' from step reader_id writer_id by to a false stands (policy ∙ is.0)
    (change_silent a (told_match c) (known_of c) (reader_of c).happened d.writer_sn (change_in d.content at.timestamp)
    step (λ t. NowKnows c k' t) (λ h. NowHas k' h) n)
    (jump_met c k' from step d.writer_sn (change_in d.content at.timestamp) a took stands other n)
told_so c own at (Gap g) (told.Gap start list) k' from step reader_id writer_id by is to policy took a stands m =
    let n : MeetsNews a (told_match c) (with_gap g.gap_start g.gap_list) (known_of c) (reader_of c).happened step
    (λ t. NowKnows c k' t) (λ h. NowHas k' h) =
    subst (λ x. MeetsNews a (told_match c) (with_gap g.gap_start x) (known_of c) (reader_of c).happened step
    (λ t. NowKnows c k' t) (λ h. NowHas k' h)) is.2
    (subst (λ x. MeetsNews a (told_match c) (with_gap x list) (known_of c) (reader_of c).happened step
    (λ t. NowKnows c k' t) (λ h. NowHas k' h)) is.1 m) in
    gap_told c own at g k' from step reader_id writer_id by to a true stands (policy ∙ is.0)
    (news_silent a (told_match c) (with_gap g.gap_start g.gap_list) (known_of c) (reader_of c).happened step
    (λ t. NowKnows c k' t) (λ h. NowHas k' h) n) (gap_met c k' from step g a took stands n)
told_so c own at (Gap g) told.Nothing k' from step reader_id writer_id by is to policy took a stands m =
    gap_told c own at g k' from step reader_id writer_id by to a false stands (policy ∙ is) m.0.acknack
    (nothing_met c k' from step g a took m)
told_so c own at (Heartbeat h) (told.Heartbeat seen) k' from step reader_id writer_id by is to policy took a stands m =
    heartbeat_told c own at h k' from step reader_id writer_id by to a true stands (policy ∙ is.0)
    (by_count (subst (λ (x : HeartbeatSeen). TellsSo a (told_match c) (told.Heartbeat x) (known_of c)
    (reader_of c).happened step (λ t. NowKnows c k' t) (λ h. NowHas k' h)) is.1 m))
  where
    by_count : TellsSo a (told_match c) (told.Heartbeat (seen_in h)) (known_of c) (reader_of c).happened step
        (λ t. NowKnows c k' t) (λ h. NowHas k' h)
        → Met c k' (λ s. MeetsHeartbeat (stood_as a) true own at (state_of c.peer) c.writer (suc c.i) to.entity h
        (moves_at c from step) (due_to c own at to.entity h.writer_id step) s)
    by_count (inl n) = heartbeat_met c own at to.entity k' h from step a took stands n.0 n.1
    by_count (inr n) =
        repeated_met c own at to.entity k' h from step a true took n.0 n.1
told_so c own at (Heartbeat h) (told.Beat seen) k' from step reader_id writer_id by is to policy took a stands m =
    heartbeat_told c own at h k' from step reader_id writer_id by to a false stands (policy ∙ is.0)
    (by_count (subst (λ (x : HeartbeatSeen). TellsSo a (told_match c) (told.Beat x) (known_of c) (reader_of c).happened
    step (λ t. NowKnows c k' t) (λ h. NowHas k' h)) is.1 m))
  where
    by_count : TellsSo a (told_match c) (told.Beat (seen_in (heard_as false h))) (known_of c) (reader_of c).happened
        step (λ t. NowKnows c k' t) (λ h. NowHas k' h)
        → Met c k' (λ s. MeetsHeartbeat (stood_as a) false own at (state_of c.peer) c.writer (suc c.i) to.entity h
        (moves_at c from step) (due_to c own at to.entity h.writer_id step) s)
    by_count (inl n) = beat_met c own at to.entity k' h from step a took stands n.0 n.1
    by_count (inr n) =
        repeated_met c own at to.entity k' h from step a false took n.0 n.1
told_so c own at s said k' from step reader_id writer_id by is to policy took a stands m = absurd is

-- what is due to a writer of this name, from a reader that keeps this
abbrev pub answer_due : GuidPrefix → ReaderKept → WriterName → Step → List Due
answer_due own k name step = acknacks_due own name.guid.prefix name.writer.peer k.entity name.guid.entity step.acknack

-- a reader that a submessage names
abbrev telling : (roster : Roster) (peer : Peer) (kept : PeerKept) (at : Receiver) (s : Submessage) (i : ℕ)
    (k : ReaderKept) (row : ℕ) → StandsFor kept roster peer → slice_get kept.readers i ≡ Some k → IsNamedAt kept.prefix at s k row → Telling
telling roster peer kept at s i k row stands at_k is = record {
  roster = roster;
  peer = peer;
  kept = kept;
  stands = stands;
  i = i;
  k = k;
  at = at_k;
  writer = is.named.first.name.writer;
  row = row;
  first = first_row roster peer kept stands i k at_k _ row is.named.first;
}

-- one thing alone is known of a writer
tracks_one : (reader : Proxies) (row : ℕ) (t u : Tracked) → Tracks reader row t → Tracks reader row u → t ≡ u
tracks_one reader row t u a b =
    same_is _ _ a.2
    ∙ (ap (λ (w : KnownWriter). tracked w.proxy) (same_Some a.0 b.0 (sym a.1 ∙ b.1)) ∙ sym (same_is _ _ b.2))

-- the reader of this index took up what was ready for it
took : (roster : Roster) (peer : Peer) (kept new : PeerKept) (at : Receiver) (s : Submessage) (i : ℕ) (k : ReaderKept)
    (ready : Ready) (moves : List Move) (sent : Announced) (after : List Move) (gone : Announced)
    → StandsFor kept roster peer
    → slice_get kept.readers i ≡ Some k → IsReadyWith kept.prefix at s k ready
    → (t : TookAt kept i ready k moves sent new after gone)
    → ReaderTook roster kept.prefix at s (suc i) peer (moves_of t.name.writer (i + 1) t.from t.step)
    (answer_due kept.prefix k t.name t.step) new
took roster peer kept new at s i k ready moves sent after gone stands at_k is t =
    let first : IsFirstRow k.writers own_name.writer ready.row =
    first_row roster peer kept stands i k at_k _ ready.row is.named.first in
    let c : Telling =
    record {
      roster = roster;
      peer = peer;
      kept = kept;
      stands = stands;
      i = i;
      k = k;
      at = at_k;
      writer = own_name.writer;
      row = ready.row;
      first = first;
    } in
    let to : IsToReader roster kept.prefix at is.reader_id is.writer_id own_name.writer
    (record { peer = peer.number; number = suc i }) = is_to roster peer kept stands i k at_k at is.reader_id
    is.writer_id ready.row is.named in
    let knows : Tracks k.reader ready.row (known_of c) = (stood c).knows own_name.writer ready.row first in
    let r =
    told_so c kept.prefix at s ready.told t.reader t.from t.step is.reader_id is.writer_id is.by is.told to
    (own_reader_is roster peer.number kept stands.is_peer i k at_k).reliable (record {
      same = t.same;
      others = t.told.others;
      how = t.told.how;
      others_how = t.told.others_how;
      from_is = t.place (known_of c) knows;
    }) (how_at k.reader ready.row) refl (t.told.told (known_of c) (reader_of c).happened knows (stood c).holds) in
    let guid : own_name.guid ≡ writer_guid at is.writer_id = is.named.first.named in
    let there : ReaderTook roster kept.prefix at s (suc i) peer (moves_of own_name.writer (i + 1) t.from t.step)
    (answer_due kept.prefix k own_name t.step) (with_reader kept i t.reader) =
    subst (λ (g : Guid). ReaderTook roster kept.prefix at s (suc i) peer
    (moves_of own_name.writer (i + 1) t.from t.step)
    (acknacks_due kept.prefix g.prefix own_name.writer.peer k.entity g.entity t.step.acknack)
    (with_reader kept i t.reader)) (sym guid) r in
    subst (λ (x : PeerKept). ReaderTook roster kept.prefix at s (suc i) peer
    (moves_of t.name.writer (i + 1) t.from t.step) (answer_due kept.prefix k t.name t.step) x) (sym t.new_is)
    (subst (λ (n : WriterName). ReaderTook roster kept.prefix at s (suc i) peer
    (moves_of n.writer (i + 1) t.from t.step) (answer_due kept.prefix k n t.step) (with_reader kept i t.reader))
    same_name there)
  where
    own_name : WriterName
    own_name = is.named.first.name

    same_name : own_name ≡ t.name
    same_name = same_Some own_name t.name (sym is.named.first.at ∙ t.at_name)

-- it is not named, and so it has nothing to do: it knows no writer that the submessage may be from
unnamed : (roster : Roster) (peer : Peer) (kept : PeerKept) (at : Receiver) (s : Submessage) (i : ℕ) (k : ReaderKept)
    → StandsFor kept roster peer → slice_get kept.readers i ≡ Some k → IsUnnamed kept.prefix at s k
    → ReaderTakes roster kept.prefix peer.number at s (suc i) (state_of peer) [] [] (state_of peer)
unnamed roster peer kept at (Data d) i k stands at_k none = inr (
  λ w to. unknown_to roster peer kept stands i k at_k at d.reader_id d.writer_id w to
      (none d.reader_id d.writer_id (refl, refl)),
  (refl, refl, refl),
)
unnamed roster peer kept at (Gap g) i k stands at_k none = inr (
  λ w to. unknown_to roster peer kept stands i k at_k at g.reader_id g.writer_id w to
      (none g.reader_id g.writer_id (refl, refl)),
  (refl, refl, refl),
)
unnamed roster peer kept at (Heartbeat h) i k stands at_k none = inr (
  λ w to. unknown_to roster peer kept stands i k at_k at h.reader_id h.writer_id w to
      (none h.reader_id h.writer_id (refl, refl)),
  (refl, refl, refl),
)
unnamed roster peer kept at s i k stands at_k none = (refl, refl, refl)

-- what a reader is told that does nothing at it
said_of : Bool → Receiver → Submessage → Told
said_of true at (Data d) = told.Change d.writer_sn (change_in d.content at.timestamp)
said_of false at (Data d) = told.Jump d.writer_sn (change_in d.content at.timestamp)
said_of true at (Heartbeat h) = told.Heartbeat (seen_in h)
said_of false at (Heartbeat h) = told.Beat (seen_in (heard_as false h))
said_of reliable at s = told.Nothing

-- nothing was done
pub rested : (t : Tracked) (h : List Happening) (Knows : Tracked → Type 0) (Has : List Happening → Type 0) → Knows t → Has h
    → Rests t h (idle_step t) Knows Has
rested t h Knows Has knows has =
    (record { begun = refl; to = refl; passed = refl; heard = refl; acknack = refl }, knows, has)

-- so it is at a reliable reader, however it stands to the writer, where a change can do nothing
news_idle : (a : AttachmentOf) (number : ℕ) (change : Change) (match : Match) (t : Tracked) (h : List Happening)
    (Knows : Tracked → Type 0) (Has : List Happening → Type 0) → may_take t number ≡ false → Knows t → Has h
    → MeetsNews a match (with_data number change) t h (idle_step t) Knows Has
news_idle standing.Begun number change match t h Knows Has is knows has =
    (refl, stays_with number change match t h Knows Has is knows has)
news_idle standing.Waiting number change match t h Knows Has is knows has = rested t h Knows Has knows has
news_idle standing.Away number change match t h Knows Has is knows has = rested t h Knows Has knows has

-- and at a best-effort one
change_idle : (a : AttachmentOf) (number : ℕ) (change : Change) (match : Match) (t : Tracked) (h : List Happening)
    (Knows : Tracked → Type 0) (Has : List Happening → Type 0) → nat_le t.place number ≡ false → Knows t → Has h
    → ChangeTold a match t h number change (idle_step t) Knows Has
change_idle standing.Begun number change match t h Knows Has is knows has =
    (refl, jumps_nowhere number change match t h Knows Has is knows has)
change_idle standing.Waiting number change match t h Knows Has is knows has =
    subst (λ (b : Bool). BeginsIfTold b match t h number change (idle_step t) Knows Has)
    (sym (ap (λ (b : Bool). b && comes match number h number change) is)) (rested t h Knows Has knows has)
change_idle standing.Away number change match t h Knows Has is knows has = rested t h Knows Has knows has

-- a submessage that can do nothing is told so, and nothing was done
says_idle : (a : AttachmentOf) (reliable : Bool) (at : Receiver) (s : Submessage) (reader_id writer_id : EntityId)
    (match : Match) (t : Tracked) (h : List Happening) (Knows : Tracked → Type 0) (Has : List Happening → Type 0)
    → NamedBy s reader_id writer_id → may_do reliable t s ≡ false → Knows t → Has h
    → IsToldBy reliable at s (said_of reliable at s)
    × TellsSo a match (said_of reliable at s) t h (idle_step t) Knows Has
unfolding said_of
says_idle a true at (Data d) reader_id writer_id match t h Knows Has by is knows has =
    ((refl, refl, refl), news_idle a d.writer_sn (change_in d.content at.timestamp) match t h Knows Has is knows has)
says_idle a false at (Data d) reader_id writer_id match t h Knows Has by is knows has =
    ((refl, refl, refl), change_idle a d.writer_sn (change_in d.content at.timestamp) match t h Knows Has is knows has)
says_idle a true at (Gap g) reader_id writer_id match t h Knows Has by is knows has =
    absurd (let clash : true ≡ false = is in cc)
says_idle a false at (Gap g) reader_id writer_id match t h Knows Has by is knows has =
    (refl, rested t h Knows Has knows has)
says_idle a true at (Heartbeat b) reader_id writer_id match t h Knows Has by is knows has =
    ((refl, refl), inr (is, rested t h Knows Has knows has))
says_idle a false at (Heartbeat b) reader_id writer_id match t h Knows Has by is knows has =
    ((refl, refl), inr (is, rested t h Knows Has knows has))
says_idle a reliable at s reader_id writer_id match t h Knows Has by is knows has = absurd by

-- nothing is ready for it, and so it does nothing
idles : (roster : Roster) (peer : Peer) (kept : PeerKept) (at : Receiver) (s : Submessage) (i : ℕ) (k : ReaderKept)
    → StandsFor kept roster peer → slice_get kept.readers i ≡ Some k → IsReadyFor kept.prefix at s k None
    → ReaderTook roster kept.prefix at s (suc i) peer [] [] kept
idles roster peer kept at s i k stands at_k (inl none) = record {
  state = state_of peer;
  takes = unnamed roster peer kept at s i k stands at_k none;
  stands = stands;
}
idles roster peer kept at s i k stands at_k (inr idle) =
    let is : IsNamedAt kept.prefix at s k idle.row = idle.named in
    let c : Telling = telling roster peer kept at s i k idle.row stands at_k is in
    let knows : Tracks k.reader idle.row (known_of c) = (stood c).knows c.writer idle.row c.first in
    let may : may_do (reliable_in k.store) (known_of c) s ≡ false =
    subst (λ (t : Tracked). may_do (reliable_in k.store) t s ≡ false)
    (tracks_one k.reader idle.row idle.idle.known (known_of c) idle.idle.tracks knows) idle.idle.does in
    let said =
    says_idle (how_at k.reader idle.row) (reliable_in k.store) at s is.reader_id is.writer_id
    (match_at (qos_of k.store.cache) idle.row kept.moment) (known_of c) (reader_of c).happened
    (Tracks k.reader idle.row) (λ h. Holds k.store h) is.by may knows (stood c).holds in
    let r =
    told_so c kept.prefix at s (said_of (reliable_in k.store) at s) k (known_of c).place (idle_step (known_of c))
    is.reader_id is.writer_id is.by said.0
    (is_to roster peer kept stands i k at_k at is.reader_id is.writer_id idle.row is.named)
    (own_reader_is roster peer.number kept stands.is_peer i k at_k).reliable (record {
      same = record { entity = refl; writers = refl; qos = refl; seen = refl; matches = refl; here = refl };
      others = λ j t apart h. h;
      how = refl;
      others_how = λ j apart. refl;
      from_is = refl;
    }) (how_at k.reader idle.row) refl said.1 in
    subst (λ (x : PeerKept). ReaderTook roster kept.prefix at s (suc i) peer [] [] x)
    (ap (λ (rs : List ReaderKept). record kept { readers = rs }) (set_back kept.readers i k k at_k refl))
    (subst (λ (ms : List Move). ReaderTook roster kept.prefix at s (suc i) peer ms [] (with_reader kept i k))
    (idle_moves c.writer (i + 1) (known_of c)) r)

-- ---- one reader after the other

numbers_more : (first count : ℕ) → numbers_from first (suc count) ≡ numbers_from first count ++ (first + count) ∷ []
numbers_more first zero = ap (λ n. n ∷ []) (sym (none first))
  where
    none : (n : ℕ) → n + 0 ≡ n
    none n = omega arith
numbers_more first (suc count) =
    ap (λ ns. first ∷ ns) (numbers_more (first + 1) count
    ∙ ap (λ n. numbers_from (first + 1) count ++ n ∷ []) (one_on first count))
  where
    one_on : (a b : ℕ) → a + 1 + b ≡ a + suc b
    one_on a b = omega arith

-- one more takes its turn
pub turn_more : {X : Type 0} (step : X → State → List Move → List Due → State → Type 0) (xs : List X) (x : X)
    (old mid new : State) (made one : List Move) (dues due : List Due)
    → InTurn step xs old made dues mid → step x mid one due new
    → InTurn step (xs ++ x ∷ []) old (made ++ one) (dues ++ due) new
turn_more step [] x old mid new made one dues due h k = (
  one,
  [],
  due,
  [],
  new,
  ap (λ ms. ms ++ one) h.0 ∙ sym (append-nil one),
  ap (λ ds. ds ++ due) h.1
      ∙ sym (append-nil due),
  subst (λ s. step x s one due new) h.2 k,
  (refl, refl, refl),
)
turn_more step (y ∷ ys) x old mid new made one dues due h k = (
  h.0,
  h.1 ++ one,
  h.2,
  h.3 ++ due,
  h.4,
  ap (λ ms. ms ++ one) h.5 ∙ append_assoc h.0 h.1 one,
  ap (λ ds. ds ++ due) h.6 ∙ append_assoc h.2 h.3 due,
  h.7,
  turn_more step ys x h.4 mid new h.1 one h.3 due h.8 k,
)

pub turn_idle : {X : Type 0} (step : X → State → List Move → List Due → State → Type 0) (xs : List X) (s : State)
    → ((k : ℕ) (x : X) → slice_get xs k ≡ Some x → step x s [] [] s) → InTurn step xs s [] [] s
turn_idle step [] s each = (refl, refl, refl)
turn_idle step (x ∷ xs) s each =
    ([], [], [], [], s, refl, refl, each zero x refl, turn_idle step xs s (λ k y at. each (suc k) y at))

-- a number among those from the first one on
pub number_at : (first count k x : ℕ) → slice_get (numbers_from first count) k ≡ Some x → (k < count) × (x ≡ k + first)
number_at first zero k x at = absurd cc
number_at first (suc count) zero x at = let is = same_Some first x at in (omega arith, omega (arith, is))
number_at first (suc count) (suc k) x at =
    let f = number_at (first + 1) count k x at in let lt = f.0 in let is = f.1 in (omega (arith, lt), omega (arith, is))

-- what may do something at a reader may need memory
needs : (c : Telling) (own : GuidPrefix) (at : Receiver) (s : Submessage) (reader_id writer_id : EntityId)
    → NamedBy s reader_id writer_id
    → (to : IsToReader c.roster own at reader_id writer_id c.writer (record { peer = c.peer.number; number = suc c.i }))
    → may_do (policy_of c) (known_of c) s ≡ true
    → MayNeedMemory c.roster own c.peer.number at s (state_of c.peer)
needs c own at (Data d) reader_id writer_id by to may =
    (c.writer, suc c.i, named_as c own at reader_id writer_id d.reader_id d.writer_id by.0 by.1 to, may)
needs c own at (Gap g) reader_id writer_id by to may =
    (c.writer, suc c.i, named_as c own at reader_id writer_id g.reader_id g.writer_id by.0 by.1 to, may)
needs c own at (Heartbeat h) reader_id writer_id by to may =
    (c.writer, suc c.i, named_as c own at reader_id writer_id h.reader_id h.writer_id by.0 by.1 to, may)
needs c own at s reader_id writer_id by to may = absurd by

-- so may one that names a reader, and may do something there
pub named_needs : (old : PeerKept) (at : Receiver) (s : Submessage) (first : FirstNamed)
    → IsFirstNamed old.prefix at s old.readers first → NeedsMemory old at s
named_needs old at s first is roster peer stands =
    let k : ReaderKept = is.reader in
    let c : Telling = telling roster peer old at s first.index k first.row stands is.there is.named in
    let knows : Tracks k.reader first.row (known_of c) = (stood c).knows c.writer first.row c.first in
    let may : may_do (reliable_in k.store) (known_of c) s ≡ true =
    subst (λ (t : Tracked). may_do (reliable_in k.store) t s ≡ true)
    (tracks_one k.reader first.row is.does.known (known_of c) is.does.tracks knows) is.does.does in
    needs c old.prefix at s is.named.reader_id is.named.writer_id is.named.by
    (is_to roster peer old stands first.index k is.there at is.named.reader_id is.named.writer_id first.row
    is.named.named)
    (ap (λ (b : Bool). may_do b (known_of c) s)
    (own_reader_is roster peer.number old stands.is_peer first.index k is.there).reliable ∙ may)

-- so does what was found among the readers of a peer
pub needs_if : (found : Option FirstNamed) (now : PeerKept) (at : Receiver) (s : Submessage)
    → IfSome found (IsFirstNamed now.prefix at s now.readers) → IfSome found (λ first. NeedsMemory now at s)
needs_if None now at s h = tt
needs_if (Some first) now at s h = named_needs now at s first h

-- none has taken it up yet
pub takes_none : (old : PeerKept) (ready : List (Option Ready)) (effects : Effects)
    → TakesSome old ready 0 effects old effects
takes_none old ready effects = record {
  made = [];
  after_is = sym (append-nil effects.moves.items);
  takes =
      λ at s are roster peer stands. record {
        state = state_of peer;
        dues = [];
        turn = (refl, refl, refl);
        stands = stands;
        adds = adds_none effects.sent.packets.items effects.sent.unsent;
      };
  left = refl;
  prefix = refl;
}

more_took : (roster : Roster) (own : GuidPrefix) (at : Receiver) (s : Submessage) (i : ℕ) (peer : Peer)
    (made one : List Move) (due : List Due) (sent mid gone : Announced) (now new : PeerKept)
    (before : ReadersTook roster own at s i peer made sent now mid) (after : State)
    → ReaderTakes roster own peer.number at s (suc i) before.state one due after
    → StandsFor new roster (with_state peer after) → AddsTo due mid gone
    → ReadersTook roster own at s (suc i) peer (made ++ one) sent new gone
more_took roster own at s i peer made one due sent mid gone now new before after takes stands adds = record {
  state = after;
  dues = before.dues ++ due;
  turn =
      subst (λ ns. InTurn (ReaderTakes roster own peer.number at s) ns (state_of peer) (made ++ one)
      (before.dues ++ due) after) (sym (numbers_more 1 i))
      (turn_more (ReaderTakes roster own peer.number at s) (numbers_from 1 i) (1 + i)
      (state_of peer) before.state after made one before.dues due before.turn
      (subst (λ n. ReaderTakes roster own peer.number at s n before.state one due after) (one_on i) takes));
  stands = stands;
  adds =
      adds_on before.dues due sent.packets.items mid.packets.items gone.packets.items sent.unsent mid.unsent gone.unsent
      before.adds adds;
}
  where
    one_on : (n : ℕ) → suc n ≡ 1 + n
    one_on n = omega arith

-- a submessage that can do nothing at the readers is taken up, and nothing is done
pub nobody_told : (old : PeerKept) (at : Receiver) (s : Submessage) (effects : Effects)
    → NamesNone old.prefix at s old.readers → TellsReaders old at s effects old effects
nobody_told old at s effects none = record {
  made = [];
  after_is = sym (append-nil effects.moves.items);
  takes = λ roster peer stands. so_far roster peer stands (length old.readers) (omega arith);
}
  where
    so_far : (roster : Roster) (peer : Peer) → StandsFor old roster peer → (count : ℕ) → count ≤ length old.readers
        → ReadersTook roster old.prefix at s count peer [] effects.sent old effects.sent
    so_far roster peer stands zero within = record {
      state = state_of peer;
      dues = [];
      turn = (refl, refl, refl);
      stands = stands;
      adds = adds_none effects.sent.packets.items effects.sent.unsent;
    }
    so_far roster peer stands (suc i) within =
        let before = so_far roster peer stands i (omega (arith, within)) in
        let k = element old.readers i (omega (arith, within)) in
        let r =
        idles roster (with_state peer before.state) old at s i k.0 before.stands k.1 (none i k.0 k.1) in
        more_took roster old.prefix at s i peer [] [] [] effects.sent effects.sent effects.sent old old before r.state
        r.takes r.stands (adds_none effects.sent.packets.items effects.sent.unsent)

next_index : (n : ℕ) → suc n ≡ n + 1
next_index n = omega arith

-- nothing was ready for this reader
pub takes_skip : (old now : PeerKept) (ready : List (Option Ready)) (i : ℕ) (effects after : Effects)
    → TakesSome old ready i effects now after → i < length old.readers → slice_get ready i ≡ Some None
    → TakesSome old ready (i + 1) effects now after
takes_skip old now ready i effects after h within none =
    subst (λ n. TakesSome old ready n effects now after) (next_index i) (record {
      made = h.made;
      after_is = h.after_is;
      takes = λ at s are roster peer stands.
          let sent = effects.sent in
          let gone = after.sent in
          let t : ReadersTook roster old.prefix at s i peer h.made sent now gone =
          h.takes at s are roster peer stands in
          let k = element old.readers i within in
          let at_now : slice_get now.readers i ≡ Some k.0 = left_at now.readers old.readers i k.0 h.left k.1 in
          let r =
          idles roster (with_state peer t.state) now at s i k.0 t.stands at_now
          (subst (λ p. IsReadyFor p at s k.0 None) (sym h.prefix) (are.each i k.0 None k.1 none)) in
          let same : ReaderTakes roster old.prefix peer.number at s (suc i) t.state [] [] r.state =
          subst (λ p. ReaderTakes roster p peer.number at s (suc i) t.state [] [] r.state) h.prefix r.takes in
          subst (λ ms. ReadersTook roster old.prefix at s (suc i) peer ms sent now gone) (append-nil h.made)
          (more_took roster old.prefix at s i peer h.made [] [] sent gone gone now now t r.state same r.stands
          (adds_none gone.packets.items gone.unsent));
      left = left_more now.readers old.readers i h.left;
      prefix = h.prefix;
    })

-- this reader took up what was ready for it
pub takes_more : (old now new : PeerKept) (ready : List (Option Ready)) (i : ℕ) (one : Ready)
    (effects mid after : Effects) → TakesSome old ready i effects now mid → i < length old.readers
    → slice_get ready i ≡ Some (Some one) → TakesAt now i one mid new after
    → TakesSome old ready (i + 1) effects new after
takes_more old now new ready i one effects mid after h within is took_at =
    let k = element old.readers i within in
    let at_now : slice_get now.readers i ≡ Some k.0 = left_at now.readers old.readers i k.0 h.left k.1 in
    let t : TookAt now i one k.0 mid.moves.items mid.sent new after.moves.items after.sent = took_at k.0 at_now in
    let made = moves_of t.name.writer (i + 1) t.from t.step in
    subst (λ n. TakesSome old ready n effects new after) (next_index i) (record {
      made = h.made ++ made;
      after_is = t.after_is ∙ (ap (λ ms. ms ++ made) h.after_is ∙ append_assoc effects.moves.items h.made made);
      takes = λ at s are roster peer stands.
          let sent = effects.sent in
          let went = mid.sent in
          let gone = after.sent in
          let before : ReadersTook roster old.prefix at s i peer h.made sent now went =
          h.takes at s are roster peer stands in
          let with_it : IsReadyWith now.prefix at s k.0 one =
          subst (λ p. IsReadyWith p at s k.0 one) (sym h.prefix) (are.each i k.0 (Some one) k.1 is) in
          let r =
          took roster (with_state peer before.state) now new at s i k.0 one mid.moves.items went after.moves.items gone
          before.stands at_now with_it t in
          let dues = answer_due now.prefix k.0 t.name t.step in
          more_took roster old.prefix at s i peer h.made made dues sent went gone now new before r.state
          (subst (λ p. ReaderTakes roster p peer.number at s (suc i) before.state made dues r.state) h.prefix r.takes)
          r.stands t.answer;
      left =
          ap (λ (c : PeerKept). drop (suc i) c.readers) t.new_is
          ∙ (drop_set now.readers i t.reader ∙ left_more now.readers old.readers i h.left);
      prefix = ap (λ (c : PeerKept). c.prefix) t.new_is ∙ h.prefix;
    })

-- the readers were told what a submessage says, once it was made ready, and room was made for the moves
pub tells_readers : (old now new : PeerKept) (at : Receiver) (s : Submessage) (ready : List (Option Ready))
    (effects : Effects) (moves : MovesKept) (after : Effects) → moves.items ≡ effects.moves.items
    → StandsAsWell old now → now.prefix ≡ old.prefix → AreReady old.prefix at s now.readers ready
    → TakesAll now ready (record effects { moves = moves }) new after → length now.readers ≡ length old.readers
    → TellsReaders old at s effects new after
tells_readers old now new at s ready effects moves after same well prefix are all count = record {
  made = all.made;
  after_is = all.after_is ∙ ap (λ (ms : List Move). ms ++ all.made) same;
  takes = λ roster peer stands.
      let sent = effects.sent in
      let gone = after.sent in
      let r : ReadersTook roster now.prefix at s (length now.readers) peer all.made sent new gone =
      all.takes at s (subst (λ p. AreReady p at s now.readers ready) (sym prefix) are) roster peer
      (well roster peer stands) in
      subst (λ n. ReadersTook roster old.prefix at s n peer all.made sent new gone) count
      (subst (λ p. ReadersTook roster p at s (length now.readers) peer all.made sent new gone) prefix r);
}
