-- What one of the peer's readers does with a HEARTBEAT rests on what packets claim.
use Rattle.std.proofs.Common.{◌≡◌, ◌⊎◌, ℕ, ℤ, ◌<◌, ◌≤◌, Bool, true, false, List, [], ◌++◌, Option, Some, None, refl, subst, ap, sym, ◌∙◌, inl, inr, ⊎_elim, arith}
use Rattle.std.specs.Option.{option_map_or}
use Rattle.dds_base.specs.declared.guid.EntityId.{EntityId}
use Rattle.dds_base.specs.Counts.{is_later}
use Rattle.rtps_reader.specs.Tracked.{Tracked, with_heartbeat}
use Rattle.rtps_reader.specs.Answer.{answered}
use Rattle.rtps_wire.specs.declared.heartbeat.Heartbeat.{Heartbeat as HeartbeatBody}
use Rattle.rtps_wire.specs.declared.submessage.Submessage.{Submessage}
use Rattle.rtps_wire.specs.declared.submessage.Submessage.TheVariants.{Heartbeat}
use Rattle.dds_base.specs.declared.endpoint.Endpoint.{Endpoint}
use Rattle.dds_machine.specs.declared.reply.Move.{Move}
use Rattle.dds_machine.specs.Numbered.{HasNumber}
use Rattle.dds_machine.specs.Part.{Attachment, Away, Waiting, Begun, WriterProxy, Part, how_of, is_attached, own_proxies, place_of, row_of, with_heard, heard_of, at_reader}
use Rattle.dds_machine.specs.Moves.{AreMoves, IsLater}
use Rattle.dds_protocol.specs.Claims.{IsToReader, IsToReliable, MayPass, Asserts, Says, Claimed}
use Rattle.dds_protocol.specs.DueMessages.{Due}
use Rattle.dds_protocol.specs.Protocol.{HearsAlone, Known, MeetsHeartbeat, Starts, State, heard_as, Asserting, TakesHeartbeat, TakesOrNot, Idles, ReaderTakes, stands_to}
use Rattle.dds_protocol.specs.Backed.{reader_at, IsClaimed, TookNone}
use Rattle.dds_protocol.proofs.Composed.{moves_on}
use Rattle.dds_protocol.proofs.Framing.{Frames, has_found, frames_at, frames_none, frames_on, has_reader, has_handle, frames_known, tracked_here, heard_here, heard_there}
use Rattle.dds_protocol.proofs.Knowing.{heartbeat_claimed, answered_claimed, answered_same}
use Rattle.dds_protocol.proofs.Ways.{goes_went}
use Rattle.dds_protocol.proofs.Ruled.{BackedAt, backed_on, goes_moves, way_frames, goes_backed, later_on, not_later_than_itself, earlier}
use Rattle.dds_protocol.proofs.Growth.{AreMoves-grows, none_before}
use Rattle.dds_machine.proofs.Tables.{numbered-same, place-heard}
use Rattle.dds_protocol.proofs.RuledReaders.{Backs, Coming, IsStarted, IsTakenAt, Met, deliveries, grounds, not_started, nothing_taken, packets, starts_at, tracked_by, writer_is}
use Rattle.dds_protocol.proofs.KnownRows.{unknown_apart}

-- the reader hears the writer, if flag L is set
pub record IsHeard (c : Coming) (w : Endpoint) (r : ℕ) (count : ℤ) (old : State) (hearing : List Move)
    (heard : State) : Type 0 where
  pub moves : AreMoves (grounds c) old.part hearing heard.part
  pub frames : Frames old w r heard
  pub known : heard.known ≡ old.known
  pub place : (p : ℕ) → place_of (own_proxies heard.part r) w ≡ Some p → place_of (own_proxies old.part r) w ≡ Some p
  pub counts : (n : ℤ) → heard_of (own_proxies heard.part r) w ≡ Some (Some n)
      → (heard_of (own_proxies old.part r) w ≡ Some (Some n)) ⊎ (count ≡ n)

heard_later : (c : Coming) (w : Endpoint) (r : ℕ) (count : ℤ) (old : State) → Backs c old
    → is_later (tracked_by old w r).count count ≡ true → (o : Option ℤ) → heard_of (own_proxies old.part r) w ≡ Some o
    → IsLater o count
heard_later c w r count old b later None e = tt
heard_later c w r count old b later (Some n) e = earlier (tracked_by old w r).count count n later (b.heard w r n e)

hears : (c : Coming) (w : Endpoint) (r : ℕ) (count : ℤ) (flag : Bool) (old : State) (hearing : List Move)
    (heard : State) → Backs c old → HasNumber old.part.rtps.readers r → is_later (tracked_by old w r).count count ≡ true
    → (flag ≡ true → Claimed c.roster (packets c) (Asserts w (reader_at c.peer r) count))
    → Asserting flag old w r count hearing heard → IsHeard c w r count old hearing heard
hears c w r count true old hearing heard b there later says h =
    let last = heard_there 1 h.0.publication (own_proxies old.part r) w h.0.handle in
    let rows = numbered-same old.part.rtps.readers r (with_heard (own_proxies old.part r) w count) [] there in
    let part : heard.part ≡ at_reader old.part r (with_heard (own_proxies old.part r) w count) _ =
    ap (λ (s : State). s.part) h.0.after in
    let proxies : own_proxies heard.part r ≡ with_heard (own_proxies old.part r) w count =
    ap (λ (p : Part). own_proxies p r) part ∙ rows in
    record {
      moves = subst (λ (ms : List Move). AreMoves (grounds c) old.part ms heard.part) (sym h.1) (
        heard.part,
        record {
          publication = h.0.publication;
          matched = h.0.handle;
          here = h.0.here;
          heard = last.0;
          last = last.1;
          count = count;
          later = heard_later c w r count old b later last.0 last.1;
          may_hear = (
            says refl,
            λ d n among applied. earlier (tracked_by old w r).count count n later
                (b.newest w r there d n among applied),
          );
          after = part;
        },
        refl,
      );
      frames =
          subst (λ (s : State). Frames old w r s) (sym h.0.after)
          (frames_at old w r (λ p. record p { heard = Some count }) (λ p. refl) _ old.known there (λ v k apart. refl));
      known = ap (λ (s : State). s.known) h.0.after;
      place =
          λ p e. sym (place-heard (own_proxies old.part r) w count w) ∙ (ap (λ xs. place_of xs w) (sym proxies) ∙ e);
      counts = λ n e. inr (heard_here (own_proxies old.part r) w count n (ap (λ xs. heard_of xs w) (sym proxies) ∙ e));
    }
hears c w r count false old hearing heard b there later says h = record {
  moves =
      subst (λ (ms : List Move). AreMoves (grounds c) old.part ms heard.part) (sym h.0)
      (ap (λ (s : State). s.part) h.1);
  frames = subst (λ (s : State). Frames old w r s) (sym h.1) (frames_none old w r);
  known = ap (λ (s : State). s.known) h.1;
  place = λ p e. ap (λ (s : State). place_of (own_proxies s.part r) w) (sym h.1) ∙ e;
  counts = λ n e. inl (ap (λ (s : State). heard_of (own_proxies s.part r) w) (sym h.1) ∙ e);
}

asserting_there : (flag : Bool) (old : State) (w : Endpoint) (r p : ℕ) (count : ℤ) (hearing : List Move) (heard : State)
    → Asserting flag old w r count hearing heard → place_of (own_proxies heard.part r) w ≡ Some p
    → HasNumber old.part.rtps.readers r
asserting_there true old w r p count hearing heard h at = has_handle old.part r h.0.publication w h.0.handle
asserting_there false old w r p count hearing heard h at =
    has_reader old.part r p w (ap (λ (s : State). place_of (own_proxies s.part r) w) (sym h.1) ∙ at)

-- what a reader hears of a HEARTBEAT has its count and its flag L, and speaks of numbers to a reliable reader alone
record IsHeardAs (c : Coming) (h s : HeartbeatBody) (w : Endpoint) (r : ℕ) : Type 0 where
  count : s.count ≡ h.count
  flag : s.liveliness_flag ≡ h.liveliness_flag
  first : (n : ℕ) → n < s.first_sn
      → IsToReliable c.roster c.own c.at h.reader_id h.writer_id w (reader_at c.peer r) × (n < h.first_sn)

is_heard_as : (c : Coming) (h : HeartbeatBody) (w : Endpoint) (r : ℕ)
    → (to : IsToReader c.roster c.own c.at h.reader_id h.writer_id w (reader_at c.peer r)) (reliable : Bool)
    → c.roster.is_reliable (reader_at c.peer r) ≡ reliable → IsHeardAs c h (heard_as reliable h) w r
is_heard_as c h w r to true reliable =
    record { count = refl; flag = refl; first = λ n below. (record { is_to = to; reliable = reliable }, below) }
is_heard_as c h w r to false other =
    record { count = refl; flag = refl; first = λ n below. absurd (omega (arith, below)) }

-- whoever is somewhere once the place has begun was somewhere
start_place : (w : Endpoint) (r first : ℕ) (how : Attachment) (heard : State) (starting : List Move) (started : State)
    (p : ℕ) → Starts how heard w r first starting started → place_of (own_proxies started.part r) w ≡ Some p
    → (q : ℕ) × (place_of (own_proxies heard.part r) w ≡ Some q)
start_place w r first Waiting heard starting started p h e = (h.place, h.at)
start_place w r first Away heard starting started p h e =
    (p, ap (λ (s : State). place_of (own_proxies s.part r) w) (sym h.1) ∙ e)
start_place w r first Begun heard starting started p h e =
    (p, ap (λ (s : State). place_of (own_proxies s.part r) w) (sym h.1) ∙ e)

-- one that is taken
heartbeat_takes : (c : Coming) (h s : HeartbeatBody) → c.submessage ≡ Heartbeat h
    → (w : Endpoint) (r : ℕ) (entity : EntityId) (old : State) (made : List Move) (dues : List Due) (new : State)
    → Backs c old
    → IsToReader c.roster c.own c.at h.reader_id h.writer_id w (reader_at c.peer r) → IsHeardAs c h s w r
    → TakesHeartbeat c.own c.at old w r entity s made dues new → IsTakenAt c (Heartbeat h) r old made new
heartbeat_takes c h s is w r entity old made dues new b to heard_so k =
    record {
      moves = subst (λ (ms : List Move). AreMoves (grounds c) old.part ms new.part) (sym k.moves_are)
          (subst (λ (p : Part). AreMoves (grounds c) old.part (k.hearing ++ (k.starting ++ k.going)) p) (sym part)
          (moves_on (grounds c) old.part k.hearing k.heard.part (k.starting ++ k.going) k.there.part heard.moves
          (moves_on (grounds c) k.heard.part k.starting k.started.part k.going k.there.part start.moves
          (goes_moves c.roster c.before c.packet c.rows c.peer c.index k.started w r t k.going k.there claimed_by
          k.goes at))));
      backed = backed_on c.roster c.peer (packets c) (deliveries c) w r old new frames b here;
      writer = w;
      frames = frames;
      past = λ v v_to met.
          subst (λ (x : Endpoint). is_later (new.known.tracked x r).count h.count ≡ false)
          (writer_is c h.reader_id h.writer_id w v r to v_to)
          (subst (λ (n : ℤ). is_later (new.known.tracked w r).count n ≡ false) heard_so.count
          (ap (λ (o : Option ℤ). is_later o s.count) counts ∙ not_later_than_itself s.count));
      over = λ v publication number ch told matched. absurd told;
    }
  where
    t : Tracked
    t = with_heartbeat s.first_sn s.count (tracked_by k.started w r)

    placed : (q : ℕ) × (place_of (own_proxies k.heard.part r) w ≡ Some q)
    placed =
        start_place w r s.first_sn (stands_to old w r) k.heard k.starting k.started k.goes.place k.starts
        k.goes.matched.at

    there : HasNumber old.part.rtps.readers r
    there = asserting_there s.liveliness_flag old w r placed.0 s.count k.hearing k.heard k.asserts placed.1

    says_pass : (n : ℕ) → 1 ≤ n → n < s.first_sn → Claimed c.roster (packets c) (MayPass w (reader_at c.peer r) n)
    says_pass n least below =
        c.says (MayPass w (reader_at c.peer r) n)
        (subst (λ (x : Submessage). Says c.roster c.own c.at x (MayPass w (reader_at c.peer r) n)) (sym is)
        ((heard_so.first n below).0, least, (heard_so.first n below).1))

    heard : IsHeard c w r s.count old k.hearing k.heard
    heard =
        hears c w r s.count s.liveliness_flag old k.hearing k.heard b there k.later
        (λ flag. c.says (Asserts w (reader_at c.peer r) s.count)
        (subst (λ (x : Submessage). Says c.roster c.own c.at x (Asserts w (reader_at c.peer r) s.count)) (sym is)
        (to, sym heard_so.flag ∙ flag, heard_so.count))) k.asserts

    claimed_heard : IsClaimed c.roster c.peer (packets c) w r (tracked_by k.heard w r)
    claimed_heard =
        subst (λ (x : Known). IsClaimed c.roster c.peer (packets c) w r (x.tracked w r)) (sym heard.known)
        (b.claimed w r)

    place_heard : (p : ℕ) → place_of (own_proxies k.heard.part r) w ≡ Some p → (tracked_by k.heard w r).place ≡ p
    place_heard p e = ap (λ (x : Known). (x.tracked w r).place) heard.known ∙ b.place w r p (heard.place p e)

    begins : (how : Attachment) → Starts how k.heard w r s.first_sn k.starting k.started
        → IsStarted c w r k.heard k.starting k.started
    begins Waiting x =
        starts_at c w r s.first_sn k.heard k.starting k.started claimed_heard place_heard
        (λ n least below. inl (says_pass n least below)) x
    begins Away x = not_started c w r k.heard k.starting k.started claimed_heard place_heard x
    begins Begun x = not_started c w r k.heard k.starting k.started claimed_heard place_heard x

    start : IsStarted c w r k.heard k.starting k.started
    start = begins (stands_to old w r) k.starts

    claimed_by : IsClaimed c.roster c.peer (packets c) w r t
    claimed_by =
        heartbeat_claimed c.roster c.peer (packets c) w r s.first_sn s.count (tracked_by k.started w r) start.claimed
        says_pass

    at : t.place ≡ k.goes.place
    at = start.place k.goes.place k.goes.matched.at

    newest : TookNone c.roster c.peer (deliveries c) w r t
    newest d n among applied =
        later_on (tracked_by old w r).count s.count n k.later (b.newest w r there d n among applied)

    no_later : (n : ℤ) → heard_of (own_proxies k.started.part r) w ≡ Some (Some n) → is_later t.count n ≡ false
    no_later n e =
        ⊎_elim (λ o. later_on (tracked_by old w r).count s.count n k.later (b.heard w r n o))
        (λ same. subst (λ (x : ℤ). is_later (Some s.count) x ≡ false) same (not_later_than_itself s.count))
        (heard.counts n (start.counts n e))

    gone : BackedAt c.roster c.peer (packets c) (deliveries c) w r k.there
    gone =
        goes_backed c.roster c.peer (packets c)
        (deliveries c) k.started w r t k.going k.there claimed_by newest no_later
        (goes_went k.started w r t k.going k.there k.goes)

    part : new.part ≡ k.there.part
    part = ap (λ (s : State). s.part) k.after

    known_is : new.known.tracked w r ≡ answered k.answer (k.there.known.tracked w r)
    known_is =
        ap (λ (s : State). s.known.tracked w r) k.after
        ∙ tracked_here k.there.known w r (answered k.answer (k.there.known.tracked w r))

    same_count : (new.known.tracked w r).count ≡ (k.there.known.tracked w r).count
    same_count = ap (λ (x : Tracked). x.count) known_is ∙ (answered_same k.answer (k.there.known.tracked w r)).1

    counts : (new.known.tracked w r).count ≡ Some s.count
    counts =
        same_count
        ∙ (ap (λ (s : State). (s.known.tracked w r).count) k.goes.after
        ∙ (ap (λ (x : Tracked). x.count) (tracked_here k.started.known w r k.goes.known)
        ∙ k.goes.advances.stays.count))

    here : BackedAt c.roster c.peer (packets c) (deliveries c) w r new
    here = record {
      place = λ p e.
          ap (λ (x : Tracked). x.place) known_is
          ∙ ((answered_same k.answer (k.there.known.tracked w r)).0
          ∙ gone.place p (ap (λ (q : Part). place_of (own_proxies q r) w) (sym part) ∙ e));
      unknown = λ e.
          ap (λ (x : Tracked). x.place) known_is
          ∙ ((answered_same k.answer (k.there.known.tracked w r)).0
          ∙ gone.unknown (ap (λ (q : Part). place_of (own_proxies q r) w) (sym part) ∙ e));
      claimed =
          subst (λ (x : Tracked). IsClaimed c.roster c.peer (packets c) w r x) (sym known_is)
          (answered_claimed c.roster c.peer (packets c) w r k.answer (k.there.known.tracked w r) gone.claimed);
      newest = λ d n among applied. ap (λ (o : Option ℤ). is_later o n) same_count ∙ gone.newest d n among applied;
      heard =
          λ n e. ap (λ (o : Option ℤ). is_later o n) same_count
          ∙ gone.heard n (ap (λ (q : Part). heard_of (own_proxies q r) w) (sym part) ∙ e);
    }

    frames : Frames old w r new
    frames =
        frames_on old k.there new w r
        (frames_on old k.started k.there w r (frames_on old k.heard k.started w r heard.frames start.frames)
        (way_frames k.started w r k.going k.there k.goes))
        (subst (λ (s : State). Frames k.there w r s) (sym k.after)
        (frames_known k.there w r (answered k.answer (k.there.known.tracked w r))))

-- a reader that waits is there
waits_there : (part : Part) (r : ℕ) (w : Endpoint) → how_of (own_proxies part r) w ≡ Waiting
    → HasNumber part.rtps.readers r
waits_there part r w h = by (row_of (λ (p : WriterProxy). p.writer) (own_proxies part r) w) refl
  where
    by : (o : Option WriterProxy) → row_of (λ (p : WriterProxy). p.writer) (own_proxies part r) w ≡ o
        → HasNumber part.rtps.readers r
    by None e =
        absurd (let clash : Away ≡ Waiting =
        sym (ap (λ (o : Option WriterProxy). option_map_or (λ (p : WriterProxy). p.how) o Away) e) ∙ h in cc)
    by (Some p) e = has_found (λ rows. row_of (λ (q : WriterProxy). q.writer) rows w) refl part r p e

-- a best-effort reader that waits hears the writer alone
heard_alone : (c : Coming) (h : HeartbeatBody) → c.submessage ≡ Heartbeat h
    → (w : Endpoint) (r : ℕ) (old : State) (made : List Move) (new : State) → Backs c old
    → IsToReader c.roster c.own c.at h.reader_id h.writer_id w (reader_at c.peer r)
    → HasNumber old.part.rtps.readers r → HearsAlone old w r h made new → IsTakenAt c (Heartbeat h) r old made new
heard_alone c h is w r old made new b to there k = record {
  moves = subst (λ (p : Part). AreMoves (grounds c) old.part made p) (sym part) heard.moves;
  backed = backed_on c.roster c.peer (packets c) (deliveries c) w r old new frames b here;
  writer = w;
  frames = frames;
  past = λ v v_to met.
      subst (λ (x : Endpoint). is_later (new.known.tracked x r).count h.count ≡ false)
      (writer_is c h.reader_id h.writer_id w v r to v_to)
      (ap (λ (x : Tracked). is_later x.count h.count) known_is ∙ not_later_than_itself h.count);
  over = λ v publication number ch told matched. absurd told;
}
  where
    t : Tracked
    t = record (tracked_by k.heard w r) { count = Some h.count }

    heard : IsHeard c w r h.count old made k.heard
    heard =
        hears c w r h.count h.liveliness_flag old made k.heard b there k.later
        (λ flag. c.says (Asserts w (reader_at c.peer r) h.count)
        (subst (λ (x : Submessage). Says c.roster c.own c.at x (Asserts w (reader_at c.peer r) h.count)) (sym is)
        (to, flag, refl))) k.asserts

    part : new.part ≡ k.heard.part
    part = ap (λ (s : State). s.part) k.after

    known_is : tracked_by new w r ≡ t
    known_is = ap (λ (s : State). tracked_by s w r) k.after ∙ tracked_here k.heard.known w r t

    frames : Frames old w r new
    frames =
        frames_on old k.heard new w r heard.frames
        (subst (λ (s : State). Frames k.heard w r s) (sym k.after) (frames_known k.heard w r t))

    known : IsClaimed c.roster c.peer (packets c) w r (tracked_by k.heard w r)
    known =
        subst (λ (x : Known). IsClaimed c.roster c.peer (packets c) w r (x.tracked w r)) (sym heard.known)
        (b.claimed w r)

    here : BackedAt c.roster c.peer (packets c) (deliveries c) w r new
    here = record {
      place = λ p e.
          ap (λ (x : Tracked). x.place) known_is
          ∙ (ap (λ (x : Known). (x.tracked w r).place) heard.known
          ∙ b.place w r p (heard.place p (ap (λ (q : Part). place_of (own_proxies q r) w) (sym part) ∙ e)));
      unknown = λ e.
          ap (λ (x : Tracked). x.place) known_is
          ∙ (ap (λ (x : Known). (x.tracked w r).place) heard.known
          ∙ b.unknown w r
          (none_before old.part.rtps k.heard.part.rtps
          (AreMoves-grows (grounds c) old.part made k.heard.part heard.moves) r w
          (ap (λ (q : Part). place_of (own_proxies q r) w) (sym part) ∙ e)));
      claimed = subst (λ (x : Tracked). IsClaimed c.roster c.peer (packets c) w r x) (sym known_is)
          (record { from = known.from; change = known.change; pass = known.pass });
      newest = λ d n among applied.
          ap (λ (x : Tracked). is_later x.count n) known_is
          ∙ later_on (tracked_by old w r).count h.count n k.later (b.newest w r there d n among applied);
      heard = λ n e.
          ap (λ (x : Tracked). is_later x.count n) known_is
          ∙ ⊎_elim (λ o. later_on (tracked_by old w r).count h.count n k.later (b.heard w r n o))
          (λ same. subst (λ (x : ℤ). is_later (Some h.count) x ≡ false) same (not_later_than_itself h.count))
          (heard.counts n (ap (λ (q : Part). heard_of (own_proxies q r) w) (sym part) ∙ e));
    }

pub heartbeat_taken : (c : Coming) (h : HeartbeatBody) → c.submessage ≡ Heartbeat h
    → (r : ℕ) (old : State) (made : List Move) (dues : List Due) (new : State) → Backs c old → Met c old
    → ReaderTakes c.roster c.own c.peer c.at (Heartbeat h) r old made dues new
    → IsTakenAt c (Heartbeat h) r old made new
heartbeat_taken c h is r old made dues new b met (inl k) =
    so (stands_to old k.0 r) refl (c.roster.is_reliable (reader_at c.peer r)) refl k.3
  where
    -- a count that is no later does nothing
    idles : (is_later (tracked_by old k.0 r).count h.count ≡ false) × Idles old made dues new
        → IsTakenAt c (Heartbeat h) r old made new
    idles not =
        nothing_taken c (Heartbeat h) r old made dues new b not.1
        (λ v v_to m. subst (λ (x : Endpoint). is_later (old.known.tracked x r).count h.count ≡ false)
        (writer_is c h.reader_id h.writer_id k.0 v r k.1 v_to) not.0)
        (λ v publication number ch told matched. absurd told)

    takes : (reliable : Bool) → c.roster.is_reliable (reader_at c.peer r) ≡ reliable
        → TakesOrNot c.own c.at old k.0 r k.1.entity (heard_as reliable h) made dues new
        → IsTakenAt c (Heartbeat h) r old made new
    takes reliable e (inl x) =
        heartbeat_takes c h (heard_as reliable h) is k.0 r k.1.entity old made dues new b k.1
        (is_heard_as c h k.0 r k.1 reliable e) x
    takes reliable e (inr x) =
        idles (
          subst (λ (n : ℤ). is_later (tracked_by old k.0 r).count n ≡ false)
              (is_heard_as c h k.0 r k.1 reliable e).count x.0,
          x.1,
        )

    so : (how : Attachment) → stands_to old k.0 r ≡ how → (reliable : Bool)
        → c.roster.is_reliable (reader_at c.peer r) ≡ reliable
        → MeetsHeartbeat how reliable c.own c.at old k.0 r k.1.entity h made dues new
        → IsTakenAt c (Heartbeat h) r old made new
    so Away e reliable of idle =
        nothing_taken c (Heartbeat h) r old made dues new b idle
        (λ v v_to m.
        let one : v ≡ k.0 = writer_is c h.reader_id h.writer_id v k.0 r v_to k.1 in
        let here : is_attached (stands_to old k.0 r) ≡ true =
        ap (λ (x : Endpoint). is_attached (stands_to old x r)) (sym one) ∙ (met r v ∙ m) in
        let clash : false ≡ true = sym (ap (λ (a : Attachment). is_attached a) e) ∙ here in
        absurd (let no = clash in cc))
        (λ v publication number ch told matched. absurd told)
    so Waiting e false of (inl x) =
        heard_alone c h is k.0 r old made new b k.1 (waits_there old.part r k.0 e) x.0
    so Waiting e false of (inr x) = idles x
    so Waiting e true of x = takes true of x
    so Begun e reliable of x = takes reliable of x
heartbeat_taken c h is r old made dues new b met (inr k) =
    nothing_taken c (Heartbeat h) r old made dues new b k.1
    (λ w told m. absurd (unknown_apart (own_proxies old.part r) w (k.0 w told) (met r w ∙ m)))
    (λ w publication number change told matched. absurd told)
