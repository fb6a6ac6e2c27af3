-- What a reader does with the submessages of one of its matched writers: its place goes on as far as it can.
use Rattle.std.proofs.Common.{◌≡◌, ℕ, ℤ, ◌≤◌, max, Bool, true, false, List, [], Option, Some, length, refl, subst, ap, sym, ◌∙◌, inl, inr, ⊎_elim, arith}
use Rattle.std.proofs.lemmas.Option.{same_Some}
use Rattle.dds_base.specs.declared.happening.Happening.{Happening}
use Rattle.dds_base.specs.declared.qos.ReaderQos.{ReaderQos}
use Rattle.dds_protocol.specs.Roster.{Roster}
use Rattle.dds_base.specs.declared.guid.EntityId.{EntityId}
use Rattle.dds_base.specs.declared.guid.GuidPrefix.{GuidPrefix}
use Rattle.dds_base.specs.Places.{Match}
use Rattle.dds_base.specs.Counts.{is_later}
use Rattle.rtps_reader.specs.declared.step.AckNackDue.{AckNackDue}
use Rattle.rtps_reader.specs.Tracked.{Tracked, with_data, with_gap, with_heartbeat}
use Rattle.rtps_reader.specs.Advance.{Advances}
use Rattle.rtps_reader.specs.Answer.{AnswersHeartbeat, answered}
use Rattle.rtps_wire.specs.declared.data.Data.{Data as DataBody}
use Rattle.rtps_wire.specs.declared.gap.Gap.{Gap as GapBody}
use Rattle.rtps_wire.specs.declared.heartbeat.Heartbeat.{Heartbeat as HeartbeatBody}
use Rattle.rtps_wire.specs.declared.submessage.Submessage.TheVariants.{Data, Heartbeat, Gap}
use Rattle.rtps_wire.specs.Content.{change_in}
use Rattle.dds_base.specs.declared.endpoint.Endpoint.{Endpoint}
use Rattle.dds_machine.specs.declared.reply.Move.{Move}
use Rattle.dds_machine.specs.Numbered.{HasNumber}
use Rattle.dds_machine.specs.Part.{Attachment, Away, Waiting, Begun, how_of, is_attached, with_begun, with_place, Part, Reader, WriterProxy, no_reader, own_proxies, own_reader, place_of, publication_among}
use Rattle.dds_machine.specs.Moves.{match_of}
use Rattle.dds_protocol.specs.Claims.{Receiver, IsReader, IsToReader, IsToReliable}
use Rattle.dds_protocol.specs.DueMessages.{Due, acknacks_due}
use Rattle.dds_protocol.specs.Protocol.{MeetsChange, MeetsGap, MeetsHeartbeat, Starts, StartsAt, State, Goes, TakesChange, TakesGap, Asserting, TakesHeartbeat, TakesOrNot, ReaderTakes, stands_to}
use Rattle.dds_protocol.specs.Backed.{reader_at}
use Rattle.dds_protocol.specs.CatchUp.{Standing, GoesOn}
use Rattle.dds_protocol.proofs.Attached.{how_begun, how_kept}
use Rattle.dds_protocol.proofs.DuesAcknacks.{goes_there}
use Rattle.dds_protocol.proofs.Framing.{tracked_here}
use Rattle.dds_protocol.proofs.InOrder.{publication_kept}
use Rattle.dds_protocol.proofs.Knowing.{answered_same}
use Rattle.dds_protocol.proofs.Learning.{way_learns}
use Rattle.dds_protocol.proofs.OneName.{one_writer}
use Rattle.dds_protocol.proofs.PairTurns.{Host, Keeps}
use Rattle.dds_protocol.proofs.Ruled.{way_frames}
use Rattle.dds_protocol.proofs.Ways.{goes_went}
use Rattle.dds_protocol.proofs.RuledTurns.{SameAt}
use Rattle.dds_protocol.proofs.KnownRows.{unknown_apart}
use Rattle.dds_machine.proofs.Tables.{begun-hits, numbered-same, length-with_numbered}

-- what a reader of the peer knows of a writer, and what happened there
abbrev pub standing : Tracked → List Happening → Standing
standing t h = record { tracked = t; happened = h }

abbrev pub standing_of : State → Endpoint → ℕ → Standing
standing_of s w r = standing (s.known.tracked w r) (own_reader s.part r).happened

-- the reader is there, and stands so to the writer
pub record SeatAs (how : Attachment) (m : Match) (w : Endpoint) (r : ℕ) (s : State) : Type 0 where
  pub rows : HasNumber s.part.rtps.readers r
  pub there : HasNumber s.part.dds.readers r
  pub handle : publication_among (own_proxies s.part r) w ≡ Some m.publication
  pub qos : (own_reader s.part r).qos ≡ m.qos
  pub moment : s.part.dds.moment ≡ m.moment
  pub place : place_of (own_proxies s.part r) w ≡ Some (s.known.tracked w r).place
  pub stands : how_of (own_proxies s.part r) w ≡ how

-- its place has begun
abbrev pub Seat : Match → Endpoint → ℕ → State → Type 0
Seat m w r s = SeatAs Begun m w r s

pub has_as : {X : Type 0} (xs ys : List X) (n : ℕ) → length ys ≡ length xs → HasNumber xs n → HasNumber ys n
has_as xs ys n e h = let low = h.0 in let high = h.1 in (low, omega (arith, high, e))

pub seat_as : {how : Attachment} (m : Match) (w : Endpoint) (r : ℕ) (old new : State) → SameAt old new r
    → HasNumber new.part.rtps.readers r → HasNumber new.part.dds.readers r → SeatAs how m w r old
    → SeatAs how m w r new
seat_as m w r old new same rows there s = record {
  rows = rows;
  there = there;
  handle = ap (λ (xs : List WriterProxy). publication_among xs w) same.proxies ∙ s.handle;
  qos = ap (λ (x : Reader). x.qos) same.reader ∙ s.qos;
  moment = same.moment ∙ s.moment;
  place = ap (λ (xs : List WriterProxy). place_of xs w) same.proxies
      ∙ (s.place ∙ ap (λ (t : Tracked). Some t.place) (sym (same.tracked w)));
  stands = ap (λ (xs : List WriterProxy). how_of xs w) same.proxies ∙ s.stands;
}

-- the same, of a peer of which all readers are still there
pub seat_kept : {how : Attachment} (m : Match) (w : Endpoint) (r : ℕ) (old new : State) → SameAt old new r
    → Keeps old new → SeatAs how m w r old → SeatAs how m w r new
seat_kept m w r old new same k s =
    seat_as m w r old new same (has_as old.part.rtps.readers new.part.rtps.readers r k.rows s.rows)
    (has_as old.part.dds.readers new.part.dds.readers r k.readers s.there) s

pub standing_as : (w : Endpoint) (r : ℕ) (old new : State) → SameAt old new r
    → standing_of new w r ≡ standing_of old w r
standing_as w r old new same =
    ap (λ (t : Tracked). standing t (own_reader new.part r).happened) (same.tracked w)
    ∙ ap (λ (x : Reader). standing (old.known.tracked w r) x.happened) same.reader

-- the reader learned this of the writer, and its place went on as far as it can
pub record MovesBy (m : Match) (w : Endpoint) (r : ℕ) (mark : Tracked → Tracked) (old new : State) : Type 0 where
  pub seat : Seat m w r new
  pub goes : GoesOn m (mark (old.known.tracked w r)) (own_reader old.part r).happened (standing_of new w r)

abbrev match_with : ReaderQos → ℕ → ℕ → Match
match_with q p t = record { qos = q; publication = p; moment = t }

pub goes_by : (m : Match) (w : Endpoint) (r : ℕ) (mark : Tracked → Tracked) (old : State) (moves : List Move)
    (new : State) → Seat m w r old → Goes old w r (mark (old.known.tracked w r)) moves new → MovesBy m w r mark old new
goes_by m w r mark old moves new s g = record {
  seat = record {
    rows = has_as old.part.rtps.readers new.part.rtps.readers r (way_frames old w r moves new g).count s.rows;
    there = has_as old.part.dds.readers new.part.dds.readers r
        (ap (λ (x : State). length x.part.dds.readers) g.after
        ∙ length-with_numbered old.part.dds.readers r (record (own_reader old.part r) { happened = g.happened }))
        s.there;
    handle = (way_frames old w r moves new g).handles w ∙ s.handle;
    qos = ap (λ (x : Reader). x.qos) reader ∙ s.qos;
    moment = (way_frames old w r moves new g).moment ∙ s.moment;
    place = goes_there old w r t moves new (goes_went old w r t moves new g);
    stands = ap (λ (x : State). how_of (own_proxies x.part r) w) g.after
        ∙ (ap (λ (xs : List WriterProxy). how_of xs w)
        (numbered-same old.part.rtps.readers r (with_place (own_proxies old.part r) w g.to) [] s.rows)
        ∙ (how_kept (λ (p : WriterProxy). record p { place = g.to }) (λ p. refl) (λ p. refl) (own_proxies old.part r) w w
        ∙ s.stands));
  };
  goes = (
    g.to,
    g.passed,
    subst (λ (h : List Happening). Advances m t (own_reader old.part r).happened g.to g.passed
        (new.known.tracked w r) h) (sym (ap (λ (x : Reader). x.happened) reader))
        (subst (λ (x : Tracked). Advances m t (own_reader old.part r).happened g.to g.passed x g.happened)
        (sym (way_learns old w r moves new g).here)
        (subst (λ (x : Match). Advances x t (own_reader old.part r).happened g.to g.passed g.known g.happened) match
        g.advances)),
  );
}
  where
    t : Tracked
    t = mark (old.known.tracked w r)

    reader : own_reader new.part r ≡ record (own_reader old.part r) { happened = g.happened }
    reader =
        ap (λ (x : State). own_reader x.part r) g.after
        ∙ numbered-same old.part.dds.readers r
        (record (own_reader old.part r) { happened = g.happened }) no_reader s.there

    match : match_of old.part r g.publication ≡ m
    match =
        ap (λ (q : ReaderQos). match_with q g.publication old.part.dds.moment) s.qos
        ∙ (ap (λ (p : ℕ). match_with m.qos p old.part.dds.moment)
        (same_Some g.publication m.publication (sym g.matched.handle ∙ s.handle))
        ∙ ap (λ (n : ℕ). match_with m.qos m.publication n) s.moment)

-- it is so whatever other readers did before and after
pub moves_between : (m : Match) (w : Endpoint) (r : ℕ) (mark : Tracked → Tracked) (old before after new : State)
    → SameAt old before r → SameAt after new r → Keeps old new
    → Seat m w r old → MovesBy m w r mark before after → MovesBy m w r mark old new
moves_between m w r mark old before after new first last k s h = record {
  seat =
      seat_as m w r after new last (has_as old.part.rtps.readers new.part.rtps.readers r k.rows s.rows)
      (has_as old.part.dds.readers new.part.dds.readers r k.readers s.there) h.seat;
  goes =
      subst (λ (x : Standing). GoesOn m (mark (old.known.tracked w r)) (own_reader old.part r).happened x)
      (sym (standing_as w r after new last))
      (subst (λ (t : Tracked). GoesOn m (mark t) (own_reader old.part r).happened (standing_of after w r))
      (first.tracked w)
      (subst (λ (x : Reader). GoesOn m (mark (before.known.tracked w r)) x.happened (standing_of after w r))
      first.reader h.goes));
}

-- ---- a DATA, or a GAP

-- two names of one reader have one entity id
pub reader_entities : (roster : Roster) (p q : GuidPrefix) (d e : EntityId) (r : Endpoint) → IsReader roster p d r
    → IsReader roster q e r → d ≡ e
reader_entities roster p q d e r x y = same_Some d e (sym x.at_reader ∙ y.at_reader)

-- it stands so there, by any name of the writer
stands_at : {how : Attachment} (m : Match) (w v : Endpoint) (r : ℕ) (s : State) → v ≡ w → SeatAs how m w r s
    → stands_to s v r ≡ how
stands_at m w v r s e seat = ap (λ (x : Endpoint). stands_to s x r) e ∙ seat.stands

pub data_moves : (c : Host) (at : Receiver) (d : DataBody) (m : Match) (w : Endpoint) (r : ℕ)
    → IsToReliable c.roster c.own at d.reader_id d.writer_id w (reader_at c.peer r)
    → (old : State) (moves : List Move) (dues : List Due) (new : State) → Seat m w r old
    → ReaderTakes c.roster c.own c.peer at (Data d) r old moves dues new
    → MovesBy m w r (with_data d.writer_sn (change_in d.content at.timestamp)) old new
data_moves c at d m w r to old moves dues new s (inl h) =
    let same : h.0 ≡ w =
    one_writer c.roster at.source_guid_prefix d.writer_id h.0 w c.checked h.1.from to.is_to.from in
    goes_by m w r (with_data d.writer_sn (change_in d.content at.timestamp)) old moves new s
    (subst (λ (x : Endpoint). Goes old x r
    (with_data d.writer_sn (change_in d.content at.timestamp) (old.known.tracked x r)) moves new) same
    (subst (λ (b : Bool). TakesChange b old h.0 r d.writer_sn (change_in d.content at.timestamp) moves new) to.reliable
    (subst (λ (a : Attachment). MeetsChange a (c.roster.is_reliable (reader_at c.peer r)) old h.0 r d.writer_sn
    (change_in d.content at.timestamp) moves new) (stands_at m w h.0 r old same s) h.3.0)))
data_moves c at d m w r to old moves dues new s (inr h) =
    absurd (unknown_apart (own_proxies old.part r) w (h.0 w to.is_to) (ap (λ (a : Attachment). is_attached a) s.stands))

pub gap_moves : (c : Host) (at : Receiver) (g : GapBody) (m : Match) (w : Endpoint) (r : ℕ)
    → IsToReliable c.roster c.own at g.reader_id g.writer_id w (reader_at c.peer r)
    → (old : State) (moves : List Move) (dues : List Due) (new : State) → Seat m w r old
    → ReaderTakes c.roster c.own c.peer at (Gap g) r old moves dues new
    → MovesBy m w r (with_gap g.gap_start g.gap_list) old new
gap_moves c at g m w r to old moves dues new s (inl h) =
    let same : h.0 ≡ w =
    one_writer c.roster at.source_guid_prefix g.writer_id h.0 w c.checked h.1.from to.is_to.from in
    goes_by m w r (with_gap g.gap_start g.gap_list) old moves new s
    (subst (λ (x : Endpoint). Goes old x r (with_gap g.gap_start g.gap_list (old.known.tracked x r)) moves new) same
    (subst (λ (b : Bool). TakesGap b old h.0 r g moves new) to.reliable
    (subst (λ (a : Attachment). MeetsGap a (c.roster.is_reliable (reader_at c.peer r)) old h.0 r g moves new)
    (stands_at m w h.0 r old same s) h.3.0)))
gap_moves c at g m w r to old moves dues new s (inr h) =
    absurd (unknown_apart (own_proxies old.part r) w (h.0 w to.is_to) (ap (λ (a : Attachment). is_attached a) s.stands))

-- ---- a HEARTBEAT

-- the place has begun, where it was or further on
record IsStarted (m : Match) (w : Endpoint) (r : ℕ) (old new : State) : Type 0 where
  seat : Seat m w r new
  further : (old.known.tracked w r).place ≤ (new.known.tracked w r).place
  acknacks : (new.known.tracked w r).acknacks ≡ (old.known.tracked w r).acknacks

starts_here : (m : Match) (w : Endpoint) (r number : ℕ) (old : State) (moves : List Move) (new : State)
    → SeatAs Waiting m w r old → StartsAt old w r number moves new → IsStarted m w r old new
starts_here m w r number old moves new s h = record {
  seat = record {
    rows = has_as old.part.rtps.readers new.part.rtps.readers r
        (ap (λ (x : State). length x.part.rtps.readers) h.after
        ∙ length-with_numbered old.part.rtps.readers r (with_begun (own_proxies old.part r) w to)) s.rows;
    there = has_as old.part.dds.readers new.part.dds.readers r
        (ap (λ (x : State). length x.part.dds.readers) h.after
        ∙ length-with_numbered old.part.dds.readers r (own_reader old.part r)) s.there;
    handle = ap (λ (xs : List WriterProxy). publication_among xs w) rows
        ∙ (publication_kept (λ (p : WriterProxy). record p { place = to; how = Begun }) (λ p. refl)
        (own_proxies old.part r) w w ∙ s.handle);
    qos = ap (λ (x : Reader). x.qos) reader ∙ s.qos;
    moment = ap (λ (x : State). x.part.dds.moment) h.after ∙ s.moment;
    place = ap (λ (xs : List WriterProxy). place_of xs w) rows
        ∙ (begun-hits (own_proxies old.part r) w h.place to h.at ∙ ap (λ (t : Tracked). Some t.place) (sym tracked));
    stands = ap (λ (xs : List WriterProxy). how_of xs w) rows ∙ how_begun (own_proxies old.part r) w h.place to h.at;
  };
  further =
      let was = same_Some (old.known.tracked w r).place h.place (sym s.place ∙ h.at) in
      let is = ap (λ (t : Tracked). t.place) tracked in
      omega (arith, was, is);
  acknacks = ap (λ (t : Tracked). t.acknacks) tracked;
}
  where
    to : ℕ
    to = max h.place number

    rows : own_proxies new.part r ≡ with_begun (own_proxies old.part r) w to
    rows =
        ap (λ (x : State). own_proxies x.part r) h.after
        ∙ numbered-same old.part.rtps.readers r (with_begun (own_proxies old.part r) w to) [] s.rows

    reader : own_reader new.part r ≡ own_reader old.part r
    reader =
        ap (λ (x : State). own_reader x.part r) h.after
        ∙ numbered-same old.part.dds.readers r (own_reader old.part r) no_reader s.there

    tracked : new.known.tracked w r ≡ record (old.known.tracked w r) { place = to }
    tracked =
        ap (λ (x : State). x.known.tracked w r) h.after
        ∙ tracked_here old.known w r (record (old.known.tracked w r) { place = to })

started_as : (how : Attachment) (m : Match) (w : Endpoint) (r number : ℕ) (old : State) (moves : List Move)
    (new : State) → is_attached how ≡ true → SeatAs how m w r old → Starts how old w r number moves new
    → IsStarted m w r old new
started_as Away m w r number old moves new met s h = cc
started_as Waiting m w r number old moves new met s h = starts_here m w r number old moves new s h
started_as Begun m w r number old moves new met s h =
    subst (λ (x : State). IsStarted m w r old x) (sym h.1)
    (record { seat = s; further = omega arith; acknacks = refl })

-- the reader took it: its place began, if it waited, and went on, and this ACKNACK is due, if any is
pub record HearsBy (c : Host) (at : Receiver) (h : HeartbeatBody) (m : Match) (w : Endpoint) (r : ℕ) (old : State)
    (dues : List Due) (new : State) : Type 0 where
  pub is : IsToReader c.roster c.own at h.reader_id h.writer_id w (reader_at c.peer r)
  pub started : Standing
  pub further : (old.known.tracked w r).place ≤ started.tracked.place
  pub acknacks : started.tracked.acknacks ≡ (old.known.tracked w r).acknacks
  pub heard : State
  pub goes : GoesOn m (with_heartbeat h.first_sn h.count started.tracked) started.happened (standing_of heard w r)
  pub answer : Option AckNackDue
  pub answers : AnswersHeartbeat (heard.known.tracked w r) h.last_sn h.final_flag answer
  pub dues_are : dues ≡ acknacks_due c.own at.source_guid_prefix w.peer is.entity h.writer_id answer
  pub seat : Seat m w r new
  pub after : standing_of new w r ≡ standing (answered answer (heard.known.tracked w r))
      (own_reader heard.part r).happened

-- no assertion
not_asserting : (flag : Bool) → flag ≡ false
    → (old : State) (w : Endpoint) (r : ℕ) (count : ℤ) (moves : List Move) (new : State)
    → Asserting flag old w r count moves new → new ≡ old
not_asserting false none old w r count moves new h = h.1
not_asserting true none old w r count moves new h = cc

heartbeat_heard : (how : Attachment) → is_attached how ≡ true
    → (c : Host) (at : Receiver) (h : HeartbeatBody) (m : Match) (w : Endpoint) (r : ℕ)
    → h.liveliness_flag ≡ false → (is : IsToReader c.roster c.own at h.reader_id h.writer_id w (reader_at c.peer r))
    → (old : State) (moves : List Move) (dues : List Due) (new : State) → SeatAs how m w r old
    → TakesHeartbeat c.own at old w r is.entity h moves dues new → HearsBy c at h m w r old dues new
heartbeat_heard how met c at h m w r quiet is old moves dues new s k = record {
  is = is;
  started = standing_of k.started w r;
  further = began.further;
  acknacks = began.acknacks;
  heard = k.there;
  goes = moved.goes;
  answer = k.answer;
  answers = k.answers;
  dues_are = k.dues_are;
  seat = record {
    rows = subst (λ (p : Part). HasNumber p.rtps.readers r) (sym part) moved.seat.rows;
    there = subst (λ (p : Part). HasNumber p.dds.readers r) (sym part) moved.seat.there;
    handle = ap (λ (p : Part). publication_among (own_proxies p r) w) part ∙ moved.seat.handle;
    qos = ap (λ (p : Part). (own_reader p r).qos) part ∙ moved.seat.qos;
    moment = ap (λ (p : Part). p.dds.moment) part ∙ moved.seat.moment;
    place = ap (λ (p : Part). place_of (own_proxies p r) w) part
        ∙ (moved.seat.place ∙ ap (λ (n : ℕ). Some n)
        (sym (ap (λ (t : Tracked). t.place) known ∙ (answered_same k.answer (k.there.known.tracked w r)).0)));
    stands = ap (λ (p : Part). how_of (own_proxies p r) w) part ∙ moved.seat.stands;
  };
  after = ap (λ (t : Tracked). standing t (own_reader new.part r).happened) known
      ∙ ap (λ (p : Part). standing (answered k.answer (k.there.known.tracked w r)) (own_reader p r).happened) part;
}
  where
    heard : k.heard ≡ old
    heard = not_asserting h.liveliness_flag quiet old w r h.count k.hearing k.heard k.asserts

    began : IsStarted m w r old k.started
    began =
        started_as how m w r h.first_sn old k.starting k.started met s
        (subst (λ (a : Attachment). Starts a old w r h.first_sn k.starting k.started) s.stands
        (subst (λ (x : State). Starts (stands_to old w r) x w r h.first_sn k.starting k.started) heard k.starts))

    moved : MovesBy m w r (with_heartbeat h.first_sn h.count) k.started k.there
    moved = goes_by m w r (with_heartbeat h.first_sn h.count) k.started k.going k.there began.seat k.goes

    part : new.part ≡ k.there.part
    part = ap (λ (x : State). x.part) k.after

    known : new.known.tracked w r ≡ answered k.answer (k.there.known.tracked w r)
    known =
        ap (λ (x : State). x.known.tracked w r) k.after
        ∙ tracked_here k.there.known w r (answered k.answer (k.there.known.tracked w r))

-- a reliable reader that is matched may take it
may_take : (how : Attachment) → is_attached how ≡ true → (own : GuidPrefix) (at : Receiver) (old : State) (w : Endpoint)
    (r : ℕ) (entity : EntityId) (h : HeartbeatBody) (moves : List Move) (dues : List Due) (new : State)
    → MeetsHeartbeat how true own at old w r entity h moves dues new
    → TakesOrNot own at old w r entity h moves dues new
may_take Away met own at old w r entity h moves dues new k = cc
may_take Waiting met own at old w r entity h moves dues new k = k
may_take Begun met own at old w r entity h moves dues new k = k

-- one with a new count, and without flag L, is taken
pub heartbeat_moves : (how : Attachment) → is_attached how ≡ true
    → (c : Host) (at : Receiver) (h : HeartbeatBody) (m : Match) (w : Endpoint) (r : ℕ)
    → h.liveliness_flag ≡ false → IsToReliable c.roster c.own at h.reader_id h.writer_id w (reader_at c.peer r)
    → (old : State) (moves : List Move) (dues : List Due) (new : State) → SeatAs how m w r old
    → is_later (old.known.tracked w r).count h.count ≡ true
    → ReaderTakes c.roster c.own c.peer at (Heartbeat h) r old moves dues new → HearsBy c at h m w r old dues new
heartbeat_moves how met c at h m w r quiet to old moves dues new s later (inl k) =
    ⊎_elim (λ t. at_writer k.0 same k.1 t)
    (λ n. let no : is_later (old.known.tracked w r).count h.count
    ≡ false = subst (λ (x : Endpoint). is_later (old.known.tracked x r).count h.count
    ≡ false) same n.0 in absurd cc)
    (may_take how met c.own at old k.0 r k.1.entity h moves dues new
    (subst (λ (a : Attachment). MeetsHeartbeat a true c.own at old k.0 r k.1.entity h moves dues new)
    (stands_at m w k.0 r old same s)
    (subst (λ (b : Bool). MeetsHeartbeat (stands_to old k.0 r) b c.own at old k.0 r k.1.entity h moves dues new)
    to.reliable k.3)))
  where
    same : k.0 ≡ w
    same = one_writer c.roster at.source_guid_prefix h.writer_id k.0 w c.checked k.1.from to.is_to.from

    at_writer : (v : Endpoint) → v ≡ w
        → (is : IsToReader c.roster c.own at h.reader_id h.writer_id v (reader_at c.peer r))
        → TakesHeartbeat c.own at old v r is.entity h moves dues new → HearsBy c at h m w r old dues new
    at_writer v e is t =
        subst (λ (x : Endpoint). HearsBy c at h m x r old dues new) e
        (heartbeat_heard how met c at h m v r quiet is old moves dues new
        (subst (λ (x : Endpoint). SeatAs how m x r old) (sym e) s) t)
heartbeat_moves how met c at h m w r quiet to old moves dues new s later (inr k) =
    absurd (unknown_apart (own_proxies old.part r) w (k.0 w to.is_to)
    (ap (λ (a : Attachment). is_attached a) s.stands ∙ met))

-- the same, whatever other readers did before and after
pub hears_between : {how : Attachment} (c : Host) (at : Receiver) (h : HeartbeatBody) (m : Match) (w : Endpoint) (r : ℕ)
    (old before after new : State) (dues : List Due) → SameAt old before r → SameAt after new r → Keeps old before
    → Keeps old new
    → SeatAs how m w r old → HearsBy c at h m w r before dues after → HearsBy c at h m w r old dues new
hears_between c at h m w r old before after new dues first last kb k s x = record {
  is = x.is;
  started = x.started;
  further =
      let same = ap (λ (t : Tracked). t.place) (first.tracked w) in
      let le = x.further in
      omega (arith, same, le);
  acknacks = x.acknacks ∙ ap (λ (t : Tracked). t.acknacks) (first.tracked w);
  heard = x.heard;
  goes = x.goes;
  answer = x.answer;
  answers = x.answers;
  dues_are = x.dues_are;
  seat =
      seat_as m w r after new last (has_as old.part.rtps.readers new.part.rtps.readers r k.rows s.rows)
      (has_as old.part.dds.readers new.part.dds.readers r k.readers s.there) x.seat;
  after = standing_as w r after new last ∙ x.after;
}
