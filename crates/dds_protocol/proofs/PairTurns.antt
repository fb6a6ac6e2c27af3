-- The readers of a peer take a submessage up in turn: what one of them does, the others leave as it is.
use Rattle.std.proofs.Common.{◌≡◌, ◌⊎◌, ℕ, ℤ, zero, suc, ◌+◌, ◌<◌, ◌≤◌, Bool, true, false, List, [], ◌++◌, Option, Some, None, Contains, length, refl, subst, ap, sym, ◌∙◌, inl, inr, ⊎_elim, arith, max}
use Rattle.std.proofs.lemmas.Bool.{cases_lt}
use Rattle.std.proofs.lemmas.List.Elements.{Contains-append_cases, Contains-append_left, Contains-append_right}
use Rattle.dds_protocol.specs.Roster.{IsRoster, Roster}
use Rattle.dds_base.specs.declared.guid.EntityId.{EntityId}
use Rattle.dds_base.specs.declared.guid.GuidPrefix.{GuidPrefix}
use Rattle.dds_base.specs.Kept.{numbers_from}
use Rattle.rtps_reader.specs.declared.step.AckNackDue.{AckNackDue}
use Rattle.dds_base.specs.declared.happening.Happening.{Happening}
use Rattle.dds_base.specs.declared.happening.PassedRun.{PassedRun}
use Rattle.dds_base.specs.Places.{Match}
use Rattle.rtps_reader.specs.Tracked.{Tracked}
use Rattle.rtps_reader.specs.Answer.{answered}
use Rattle.rtps_wire.specs.declared.acknack.AckNack.{AckNack as AckNackBody}
use Rattle.rtps_wire.specs.declared.heartbeat.Heartbeat.{Heartbeat as HeartbeatBody}
use Rattle.rtps_wire.specs.declared.submessage.Submessage.{Submessage}
use Rattle.rtps_wire.specs.declared.submessage.Submessage.TheVariants.{Pad, InfoDst, InfoTs, Data, Heartbeat, AckNack, Gap, Other}
use Rattle.rtps_wire.specs.Content.{change_in}
use Rattle.rtps_wire.specs.declared.seek.Sought.TheVariants as sought
use Rattle.rtps_wire.specs.Messages.{IsWritable, spelling_of}
use Rattle.rtps_wire.specs.Sought.{HasSought}
use Rattle.dds_base.specs.declared.endpoint.Endpoint.{Endpoint}
use Rattle.dds_machine.specs.declared.reply.Move.{Move}
use Rattle.dds_machine.specs.Part.{Attachment, Begun, WriterProxy, own_proxies, own_reader, with_begun, with_heard}
use Rattle.dds_protocol.specs.Claims.{Receiver, IsReader, IsToReader}
use Rattle.dds_protocol.specs.DueMessages.{Due, acknack_message, acknacks_due}
use Rattle.dds_protocol.specs.Protocol.{HearsAlone, Starts, StartsAt, State, stands_to, InTurn, GoesBy, heard_as, Asserting, TakesHeartbeat, Idles, ReaderTakes, with_tracked}
use Rattle.dds_protocol.specs.Backed.{reader_at}
use Rattle.dds_protocol.specs.Fresh.{HasAckNack}
use Rattle.dds_protocol.proofs.Composed.{is_alone}
use Rattle.dds_protocol.proofs.CountsWritten.{one_ask, one_sought}
use Rattle.dds_protocol.proofs.DuesAcknacks.{ask_body, answer_names}
use Rattle.dds_protocol.proofs.Framing.{Frames, frames_at, frames_known, has_handle, has_reader, number_or_not, tracked_elsewhere}
use Rattle.dds_protocol.proofs.Learning.{way_learns}
use Rattle.dds_protocol.proofs.Ruled.{way_frames}
use Rattle.dds_protocol.proofs.Ways.{change_went, gap_went, met_change, met_gap, met_heartbeat, started}
use Rattle.dds_protocol.proofs.RuledTurns.{SameAt, same_on, same_by}
use Rattle.dds_machine.proofs.Tables.{length-with_numbered}
use Rattle.dds_protocol.proofs.Turns.{in_turn}

-- a peer of a configuration
pub record Host : Type 0 where
  pub roster : Roster
  pub checked : IsRoster roster
  pub peer : ℕ
  pub own : GuidPrefix

-- what the peer's writers have is as it was, and no reader is gone
pub record Keeps (old new : State) : Type 0 where
  pub writers : new.part.rtps.writers ≡ old.part.rtps.writers
  pub answered : (v : ℕ) (x : Endpoint) → new.known.answered v x ≡ old.known.answered v x
  pub rows : length new.part.rtps.readers ≡ length old.part.rtps.readers
  pub readers : length new.part.dds.readers ≡ length old.part.dds.readers

pub keeps_same : (s : State) → Keeps s s
keeps_same s = record { writers = refl; answered = λ v x. refl; rows = refl; readers = refl }

pub keeps_on : (a b c : State) → Keeps a b → Keeps b c → Keeps a c
keeps_on a b c f g = record {
  writers = g.writers ∙ f.writers;
  answered = λ v x. g.answered v x ∙ f.answered v x;
  rows = g.rows ∙ f.rows;
  readers = g.readers ∙ f.readers;
}

pub at_same : (s : State) (r : ℕ) → SameAt s s r
at_same s r = record { moment = refl; proxies = refl; reader = refl; tracked = λ w. refl }

-- so is each reader but this one
pub record Leaves (old : State) (k : ℕ) (new : State) : Type 0 where
  pub same : (r : ℕ) → (r ≡ k → ⊥) → SameAt old new r
  pub keeps : Keeps old new

leaves_same : (s : State) (k : ℕ) → Leaves s k s
leaves_same s k = record { same = λ r n. at_same s r; keeps = keeps_same s }

leaves_on : (a b c : State) (k : ℕ) → Leaves a k b → Leaves b k c → Leaves a k c
leaves_on a b c k f g =
    record { same = λ r n. same_on a b c r (f.same r n) (g.same r n); keeps = keeps_on a b c f.keeps g.keeps }

leaves_idle : (old : State) (k : ℕ) (moves : List Move) (dues : List Due) (new : State) → Idles old moves dues new
    → Leaves old k new
leaves_idle old k moves dues new h = subst (λ (s : State). Leaves old k s) (sym h.2) (leaves_same old k)

leaves_by : (old new : State) (w : Endpoint) (k : ℕ) → Frames old w k new → Keeps old new → Leaves old k new
leaves_by old new w k f h = record { same = λ r n. same_by old new w k r f n; keeps = h }

way_leaves : {Way : Match → List Happening → ℕ → List PassedRun → Tracked → List Happening → Type 0}
    → (old : State) (w : Endpoint) (r : ℕ) (moves : List Move) (new : State)
    → GoesBy Way old w r moves new → Leaves old r new
way_leaves old w r moves new g = leaves_by old new w r frames (record {
  writers = frames.writers;
  answered = (way_learns old w r moves new g).answered;
  rows = frames.count;
  readers = ap (λ (s : State). length s.part.dds.readers) g.after
      ∙ length-with_numbered old.part.dds.readers r (record (own_reader old.part r) { happened = g.happened });
})
  where
    frames : Frames old w r new
    frames = way_frames old w r moves new g

asserting_leaves : (flag : Bool) (old : State) (w : Endpoint) (r : ℕ) (count : ℤ) (moves : List Move) (new : State)
    → Asserting flag old w r count moves new → Leaves old r new
asserting_leaves true old w r count moves new h =
    leaves_by old new w r
    (subst (λ (s : State). Frames old w r s) (sym h.0.after)
    (frames_at old w r (λ (p : WriterProxy). record p { heard = Some count }) (λ p. refl) _ old.known
    (has_handle old.part r h.0.publication w h.0.handle) (λ v k apart. refl)))
    (record {
      writers = ap (λ (s : State). s.part.rtps.writers) h.0.after;
      answered = λ v x. ap (λ (s : State). s.known.answered v x) h.0.after;
      rows = ap (λ (s : State). length s.part.rtps.readers) h.0.after
          ∙ length-with_numbered old.part.rtps.readers r (with_heard (own_proxies old.part r) w count);
      readers = ap (λ (s : State). length s.part.dds.readers) h.0.after ∙ length-with_numbered old.part.dds.readers r _;
    })
asserting_leaves false old w r count moves new h = subst (λ (s : State). Leaves old r s) (sym h.1) (leaves_same old r)

starts_leaves : (old : State) (w : Endpoint) (r number : ℕ) (moves : List Move) (new : State)
    → StartsAt old w r number moves new → Leaves old r new
starts_leaves old w r number moves new h =
    let to : ℕ = max h.place number in
    let t : Tracked = record (old.known.tracked w r) { place = to } in
    leaves_by old new w r
    (subst (λ (s : State). Frames old w r s) (sym h.after)
    (frames_at old w r (λ (p : WriterProxy). record p { place = to; how = Begun }) (λ p. refl)
    (own_reader old.part r).happened (with_tracked old.known w r t) (has_reader old.part r h.place w h.at)
    (λ v k apart. tracked_elsewhere old.known w r t v k apart)))
    (record {
      writers = ap (λ (s : State). s.part.rtps.writers) h.after;
      answered = λ v x. ap (λ (s : State). s.known.answered v x) h.after;
      rows = ap (λ (s : State). length s.part.rtps.readers) h.after
          ∙ length-with_numbered old.part.rtps.readers r (with_begun (own_proxies old.part r) w to);
      readers = ap (λ (s : State). length s.part.dds.readers) h.after ∙ length-with_numbered old.part.dds.readers r _;
    })

starting_leaves : (how : Attachment) (old : State) (w : Endpoint) (r number : ℕ) (moves : List Move) (new : State)
    → Starts how old w r number moves new → Leaves old r new
starting_leaves how old w r number moves new h =
    ⊎_elim (λ s. starts_leaves old w r number moves new s)
    (λ n. subst (λ (s : State). Leaves old r s) (sym n.1) (leaves_same old r))
    (started how old w r number moves new h)

-- what is known of one writer at one reader was changed alone
known_leaves : (old : State) (w : Endpoint) (r : ℕ) (t : Tracked)
    → Leaves old r (record old { known = with_tracked old.known w r t })
known_leaves old w r t =
    leaves_by old (record old { known = with_tracked old.known w r t }) w r (frames_known old w r t)
    (record { writers = refl; answered = λ v x. refl; rows = refl; readers = refl })

alone_leaves : (old : State) (w : Endpoint) (r : ℕ) (h : HeartbeatBody) (moves : List Move) (new : State)
    → HearsAlone old w r h moves new → Leaves old r new
alone_leaves old w r h moves new k =
    leaves_on old k.heard new r (asserting_leaves h.liveliness_flag old w r h.count moves k.heard k.asserts)
    (subst (λ (s : State). Leaves k.heard r s) (sym k.after)
    (known_leaves k.heard w r (record (k.heard.known.tracked w r) { count = Some h.count })))

heartbeat_leaves : (own : GuidPrefix) (at : Receiver) (old : State) (w : Endpoint) (r : ℕ) (entity : EntityId)
    (h : HeartbeatBody) (moves : List Move) (dues : List Due) (new : State)
    → TakesHeartbeat own at old w r entity h moves dues new → Leaves old r new
heartbeat_leaves own at old w r entity h moves dues new k =
    leaves_on old k.there new r
    (leaves_on old k.heard k.there r (asserting_leaves h.liveliness_flag old w r h.count k.hearing k.heard k.asserts)
    (leaves_on k.heard k.started k.there r
    (starting_leaves (stands_to old w r) k.heard w r h.first_sn k.starting k.started k.starts)
    (way_leaves k.started w r k.going k.there k.goes)))
    (subst (λ (s : State). Leaves k.there r s) (sym k.after)
    (known_leaves k.there w r (answered k.answer (k.there.known.tracked w r))))

-- what a reader does leaves all else at the peer
pub reader_leaves : (roster : Roster) (own : GuidPrefix) (peer : ℕ) (at : Receiver) (s : Submessage) (k : ℕ)
    (old : State) (moves : List Move) (dues : List Due) (new : State)
    → ReaderTakes roster own peer at s k old moves dues new → Leaves old k new
reader_leaves roster own peer at (Data d) k old moves dues new (inl h) =
    ⊎_elim
    (λ takes. way_leaves old h.0 k moves new
    (change_went (roster.is_reliable (reader_at peer k)) old h.0 k d.writer_sn (change_in d.content at.timestamp) moves new
    takes))
    (λ o. ⊎_elim
    (λ b. leaves_on old b.started new k (starts_leaves old h.0 k d.writer_sn b.starting b.started b.starts)
    (way_leaves b.started h.0 k b.going new b.takes.1))
    (λ n. subst (λ (s : State). Leaves old k s) (sym n.1) (leaves_same old k)) o)
    (met_change (stands_to old h.0 k) (roster.is_reliable (reader_at peer k)) old h.0 k d.writer_sn
    (change_in d.content at.timestamp) moves new h.3.0)
reader_leaves roster own peer at (Data d) k old moves dues new (inr h) = leaves_idle old k moves dues new h.1
reader_leaves roster own peer at (Gap g) k old moves dues new (inl h) =
    ⊎_elim
    (λ takes. ⊎_elim (λ t. way_leaves old h.0 k moves new t.1)
    (λ n. subst (λ (s : State). Leaves old k s) (sym n.1) (leaves_same old k))
    (gap_went (roster.is_reliable (reader_at peer k)) old h.0 k g moves new takes))
    (λ n. subst (λ (s : State). Leaves old k s) (sym n.1) (leaves_same old k))
    (met_gap (stands_to old h.0 k) (roster.is_reliable (reader_at peer k)) old h.0 k g moves new h.3.0)
reader_leaves roster own peer at (Gap g) k old moves dues new (inr h) = leaves_idle old k moves dues new h.1
reader_leaves roster own peer at (Heartbeat b) k old moves dues new (inl h) =
    ⊎_elim
    (λ t. heartbeat_leaves own at old h.0 k h.1.entity (heard_as (roster.is_reliable (reader_at peer k)) b) moves dues new t)
    (λ o. ⊎_elim (λ x. alone_leaves old h.0 k b moves new x.0) (λ n. leaves_idle old k moves dues new n) o)
    (met_heartbeat (stands_to old h.0 k) (roster.is_reliable (reader_at peer k)) own at old h.0 k h.1.entity b moves dues new
    h.3)
reader_leaves roster own peer at (Heartbeat b) k old moves dues new (inr h) = leaves_idle old k moves dues new h.1
reader_leaves roster own peer at (AckNack a) k old moves dues new h = leaves_idle old k moves dues new h
reader_leaves roster own peer at Pad k old moves dues new h = leaves_idle old k moves dues new h
reader_leaves roster own peer at (InfoDst x) k old moves dues new h = leaves_idle old k moves dues new h
reader_leaves roster own peer at (InfoTs x) k old moves dues new h = leaves_idle old k moves dues new h
reader_leaves roster own peer at (Other x) k old moves dues new h = leaves_idle old k moves dues new h

-- ---- whose ACKNACK is due

-- an ACKNACK there is that of this reader of the peer, and its readerId names that
pub record Asks (c : Host) (k : ℕ) (due : Due) : Type 0 where
  pub named : (reader writer : EntityId) → HasSought (sought.AckNack reader writer) due.message.submessages
      → IsReader c.roster c.own reader (reader_at c.peer k)
  pub is : (w x : Endpoint) (count : ℤ) → IsWritable due.message
      → HasAckNack c.roster (spelling_of due.message) w x count → x ≡ reader_at c.peer k

none_asks : (c : Host) (k : ℕ) (dues : List Due) → dues ≡ [] → (due : Due) → Contains dues due → Asks c k due
none_asks c k dues none due among =
    let empty = ap (λ (ds : List Due). length ds) none in let lt = among.1 in absurd (omega (arith, empty, lt))

due_asks : (c : Host) (at : Receiver) (reader_id writer_id : EntityId) (w : Endpoint) (k : ℕ)
    (is : IsToReader c.roster c.own at reader_id writer_id w (reader_at c.peer k))
    (answer : Option AckNackDue) (due : Due)
    → Contains (acknacks_due c.own at.source_guid_prefix w.peer is.entity writer_id answer) due → Asks c k due
due_asks c at reader_id writer_id w k is None due among = let lt = among.1 in absurd (omega (arith, lt))
due_asks c at reader_id writer_id w k is (Some x) due among =
    subst (λ (d : Due). Asks c k d) (is_alone the due among) (record {
      named = λ reader writer has.
          subst (λ (i : EntityId). IsReader c.roster c.own i (reader_at c.peer k))
          (one_sought (sought.AckNack reader writer) at.source_guid_prefix (AckNack body) (λ none. none) has).0
          is.to;
      is = λ v y count writable has.
          let found = one_ask c.roster c.own at.source_guid_prefix body v y count writable has in
          (answer_names c.roster c.checked c.own at reader_id writer_id w
          (reader_at c.peer k) is found.0 v y found.1).1;
    })
  where
    body : AckNackBody
    body = ask_body is.entity writer_id x

    the : Due
    the = record { to = w.peer; message = acknack_message c.own at.source_guid_prefix is.entity writer_id x }

pub reader_asks : (c : Host) (at : Receiver) (s : Submessage) (k : ℕ) (old : State) (moves : List Move)
    (dues : List Due) (new : State)
    → ReaderTakes c.roster c.own c.peer at s k old moves dues new → (due : Due) → Contains dues due → Asks c k due
reader_asks c at (Data d) k old moves dues new h = none_asks c k dues (⊎_elim (λ t. t.3.1) (λ n. n.1.1) h)
reader_asks c at (Gap g) k old moves dues new h = none_asks c k dues (⊎_elim (λ t. t.3.1) (λ n. n.1.1) h)
reader_asks c at (Heartbeat b) k old moves dues new (inl h) =
    by (c.roster.is_reliable (reader_at c.peer k))
    (met_heartbeat (stands_to old h.0 k) (c.roster.is_reliable (reader_at c.peer k)) c.own at old h.0 k h.1.entity b moves dues new
    h.3)
  where
    by : (reliable : Bool)
        → TakesHeartbeat c.own at old h.0 k h.1.entity (heard_as reliable b) moves dues new
        ⊎ (HearsAlone old h.0 k b moves new × (dues ≡ [])) ⊎ Idles old moves dues new
        → (due : Due) → Contains dues due → Asks c k due
    by true (inl t) due among =
        due_asks c at b.reader_id b.writer_id h.0 k h.1 t.answer due
        (subst (λ (ds : List Due). Contains ds due) t.dues_are among)
    by false (inl t) due among =
        due_asks c at b.reader_id b.writer_id h.0 k h.1 t.answer due
        (subst (λ (ds : List Due). Contains ds due) t.dues_are among)
    by reliable (inr (inl x)) due among = none_asks c k dues x.1 due among
    by reliable (inr (inr n)) due among = none_asks c k dues n.1 due among
reader_asks c at (Heartbeat b) k old moves dues new (inr h) = none_asks c k dues h.1.1
reader_asks c at (AckNack a) k old moves dues new h = none_asks c k dues h.1
reader_asks c at Pad k old moves dues new h = none_asks c k dues h.1
reader_asks c at (InfoDst x) k old moves dues new h = none_asks c k dues h.1
reader_asks c at (InfoTs x) k old moves dues new h = none_asks c k dues h.1
reader_asks c at (Other x) k old moves dues new h = none_asks c k dues h.1

-- ---- readers in turn

-- the due message is of another reader than this one
pub record OfOther (c : Host) (r : ℕ) (due : Due) : Type 0 where
  pub reader : ℕ
  pub other : reader ≡ r → ⊥
  pub asks : Asks c reader due

-- what one reader did, when its turn came
pub record TurnOf (c : Host) (at : Receiver) (s : Submessage) (r : ℕ) (old : State) (dues : List Due)
    (new : State) : Type 0 where
  pub before : State
  pub after : State
  pub made : List Move
  pub due : List Due
  pub same_before : SameAt old before r
  pub keeps_before : Keeps old before
  pub takes : ReaderTakes c.roster c.own c.peer at s r before made due after
  pub same_after : SameAt after new r
  pub each : (d : Due) → Contains dues d → Contains due d ⊎ OfOther c r d
  pub among : (d : Due) → Contains due d → Contains dues d

abbrev Turns : Host → Receiver → Submessage → ℕ → ℕ → State → List Move → List Due → State → Type 0
Turns c at s first count old moves dues new =
    InTurn (ReaderTakes c.roster c.own c.peer at s) (numbers_from first count) old moves dues new

pub turns_keep : (c : Host) (at : Receiver) (s : Submessage) (first count : ℕ) (old : State) (moves : List Move)
    (dues : List Due) (new : State) → Turns c at s first count old moves dues new → Keeps old new
turns_keep c at s first count old moves dues new h =
    in_turn (λ a ds b. Keeps a b) keeps_same (λ a b d ds es f g. keeps_on a b d f g)
    (ReaderTakes c.roster c.own c.peer at s)
    (λ k a ms ds b t. (reader_leaves c.roster c.own c.peer at s k a ms ds b t).keeps) (numbers_from first count) old
    moves dues new h

-- What others did leaves this reader as it was, and what is due is of them.
pub record Spares (c : Host) (r : ℕ) (old : State) (dues : List Due) (new : State) : Type 0 where
  pub same : SameAt old new r
  pub keeps : Keeps old new
  pub others : (d : Due) → Contains dues d → OfOther c r d

pub spares_idle : (c : Host) (r : ℕ) (old : State) (moves : List Move) (dues : List Due) (new : State)
    → Idles old moves dues new → Spares c r old dues new
spares_idle c r old moves dues new h = record {
  same = subst (λ (x : State). SameAt old x r) (sym h.2) (at_same old r);
  keeps = subst (λ (x : State). Keeps old x) (sym h.2) (keeps_same old);
  others =
      λ d among. let empty = ap (λ (ds : List Due). length ds) h.1 in let lt = among.1 in
      absurd (omega (arith, empty, lt));
}

pub spares_on : (c : Host) (r : ℕ) (old mid new : State) (first rest dues : List Due) → dues ≡ first ++ rest
    → Spares c r old first mid → Spares c r mid rest new → Spares c r old dues new
spares_on c r old mid new first rest dues all f g = record {
  same = same_on old mid new r f.same g.same;
  keeps = keeps_on old mid new f.keeps g.keeps;
  others = λ d among.
      ⊎_elim (λ o. f.others d o) (λ o. g.others d o)
      (Contains-append_cases first rest d (subst (λ (ds : List Due). Contains ds d) all among));
}

-- the turn of another reader
other_turn : (c : Host) (at : Receiver) (s : Submessage) (r k : ℕ) → (r ≡ k → ⊥)
    → (old : State) (moves : List Move) (dues : List Due) (new : State)
    → ReaderTakes c.roster c.own c.peer at s k old moves dues new → Spares c r old dues new
other_turn c at s r k apart old moves dues new h =
    let left : Leaves old k new = reader_leaves c.roster c.own c.peer at s k old moves dues new h in
    record {
      same = left.same r apart;
      keeps = left.keeps;
      others = λ d among.
          record { reader = k; other = λ e. apart (sym e); asks = reader_asks c at s k old moves dues new h d among };
    }

-- those after it
later_turns : (c : Host) (at : Receiver) (s : Submessage) (r first count : ℕ) (old : State) (moves : List Move)
    (dues : List Due) (new : State) → r < first → Turns c at s first count old moves dues new → Spares c r old dues new
later_turns c at s r first zero old moves dues new past h = spares_idle c r old moves dues new h
later_turns c at s r first (suc count) old moves dues new past h =
    spares_on c r old h.4 new h.2 h.3 dues h.6
    (other_turn c at s r first (λ e. omega (arith, past, e)) old h.0 h.2 h.4 h.7)
    (later_turns c at s r (first + 1) count h.4 h.1 h.3 new (omega (arith, past)) h.8)

turn_first : (c : Host) (at : Receiver) (s : Submessage) (r count : ℕ) (old : State) (moves : List Move)
    (dues : List Due) (new : State) → Turns c at s r (suc count) old moves dues new → TurnOf c at s r old dues new
turn_first c at s r count old moves dues new h =
    let rest : Spares c r h.4 h.3 new = later_turns c at s r (r + 1) count h.4 h.1 h.3 new (omega arith) h.8 in
    record {
      before = old;
      after = h.4;
      made = h.0;
      due = h.2;
      same_before = at_same old r;
      keeps_before = keeps_same old;
      takes = h.7;
      same_after = rest.same;
      each =
          λ d among. ⊎_elim (λ f. inl f) (λ l. inr (rest.others d l))
          (Contains-append_cases h.2 h.3 d (subst (λ (ds : List Due). Contains ds d) h.6 among));
      among = λ d own. subst (λ (ds : List Due). Contains ds d) (sym h.6) (Contains-append_left h.2 h.3 d own);
    }

turn_later : (c : Host) (at : Receiver) (s : Submessage) (r first count : ℕ) (old : State) (moves : List Move)
    (dues : List Due) (new : State) → (r ≡ first → ⊥)
    → (h : Turns c at s first (suc count) old moves dues new) → TurnOf c at s r h.4 h.3 new
    → TurnOf c at s r old dues new
turn_later c at s r first count old moves dues new not_r h t = record {
  before = t.before;
  after = t.after;
  made = t.made;
  due = t.due;
  same_before = same_on old h.4 t.before r one.same t.same_before;
  keeps_before = keeps_on old h.4 t.before one.keeps t.keeps_before;
  takes = t.takes;
  same_after = t.same_after;
  each = λ d among.
      ⊎_elim (λ f. inr (one.others d f)) (λ l. t.each d l)
      (Contains-append_cases h.2 h.3 d (subst (λ (ds : List Due). Contains ds d) h.6 among));
  among = λ d own. subst (λ (ds : List Due). Contains ds d) (sym h.6) (Contains-append_right h.2 h.3 d (t.among d own));
}
  where
    one : Spares c r old h.2 h.4
    one = other_turn c at s r first not_r old h.0 h.2 h.4 h.7

-- another number that is no less is greater
pub above : (r first : ℕ) → first ≤ r → (r ≡ first → ⊥) → first + 1 ≤ r
above r first low apart =
    ⊎_elim (λ lt. omega (arith, lt)) (λ ge. absurd (apart (omega (arith, low, ge)))) (cases_lt first r)

pub turn_of : (c : Host) (at : Receiver) (s : Submessage) (r first count : ℕ) (old : State) (moves : List Move)
    (dues : List Due) (new : State) → first ≤ r → r < first + count
    → Turns c at s first count old moves dues new → TurnOf c at s r old dues new
turn_of c at s r first zero old moves dues new low high h = absurd (omega (arith, low, high))
turn_of c at s r first (suc count) old moves dues new low high h =
    ⊎_elim (λ e. turn_first c at s r count old moves dues new
    (subst (λ (n : ℕ). Turns c at s n (suc count) old moves dues new) (sym e) h))
    (λ n. turn_later c at s r first count old moves dues new n h
    (turn_of c at s r (first + 1) count h.4 h.1 h.3 new (above r first low n) (omega (arith, high)) h.8))
    (number_or_not r first)
