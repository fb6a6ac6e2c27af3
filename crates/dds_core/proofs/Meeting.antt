-- What a reader does with what it is told is what the rules of the protocol say, however it stands to its writer.
use Rattle.std.proofs.Common.{◌≡◌, ℕ, suc, ◌+◌, Bool, true, false, ◌&&◌, List, [], ◌∷◌, ◌++◌, Option, Some, None, refl, ap, sym, ◌∙◌, subst, arith, inl, inr, nat_lt}
use Rattle.std.specs.Prelude.{max, nat_le, if◌then◌else◌, is_some}
use Rattle.std.proofs.lemmas.Bool.Decides.{nat_tests}
use Rattle.dds_base.specs.declared.change.Change.{Change}
use Rattle.dds_base.specs.declared.guid.EntityId.{EntityId}
use Rattle.dds_base.specs.declared.guid.GuidPrefix.{GuidPrefix}
use Rattle.dds_base.specs.declared.happening.Happening.{Happening}
use Rattle.dds_base.specs.declared.happening.PassedRun.{PassedRun}
use Rattle.dds_base.specs.Counts.{is_later}
use Rattle.dds_base.specs.Matched.{is_reliable}
use Rattle.dds_base.specs.Places.{Match}
use Rattle.dds_cache.specs.Standing.{qos_of}
use Rattle.rtps_reader.specs.declared.attachment.Attachment.{Attachment as AttachmentOf}
use Rattle.rtps_reader.specs.declared.attachment.Attachment.TheVariants as standing
use Rattle.rtps_reader.specs.declared.step.AckNackDue.{AckNackDue}
use Rattle.rtps_reader.specs.declared.step.Step.{Step}
use Rattle.rtps_reader.specs.Advance.{Advances}
use Rattle.rtps_reader.specs.Answer.{AnswersHeartbeat, answered}
use Rattle.rtps_reader.specs.Attached.{BeginsIf as BeginsIfTold, HearsAlone as HeardAlone, MeetsBeat as BeatTold, MeetsChange as ChangeTold, MeetsHeartbeat as HeartbeatTold, MeetsNews as NewsTold, Rests, begun_at, no_news}
use Rattle.rtps_reader.specs.Jump.{Jumps, comes}
use Rattle.rtps_reader.specs.Reader.{Tracks, OthersStay, OthersStand, how_after, how_at, match_at, MovesOn, JumpsOn, TakesHeartbeat as HeartbeatTaken}
use Rattle.rtps_reader.specs.Tracked.{Tracked, with_data, with_gap, with_heartbeat}
use Rattle.rtps_wire.specs.declared.gap.Gap.{Gap as GapBody}
use Rattle.rtps_wire.specs.declared.heartbeat.Heartbeat.{Heartbeat as HeartbeatBody}
use Rattle.dds_base.specs.declared.endpoint.Endpoint.{Endpoint}
use Rattle.dds_machine.specs.declared.reply.Move.{Move}
use Rattle.dds_machine.specs.declared.reply.Move.TheVariants.{Place, Heard, Begun as HasBegun}
use Rattle.dds_machine.specs.Part.{Attachment, Away, Waiting, Begun, Reader, WriterProxy, how_of, is_attached, with_begun, with_place}
use Rattle.dds_protocol.specs.Claims.{Receiver}
use Rattle.dds_protocol.specs.DueMessages.{Due, acknacks_due}
use Rattle.dds_protocol.specs.Peer.{state_of}
use Rattle.dds_protocol.specs.Protocol.{Asserting, BeginsIf, BeginsWith, Goes, GoesBy, HearsAlone, MeetsChange, MeetsGap, MeetsHeartbeat, Starts, State, TakesHeartbeat, heard_as, with_tracked}
use Rattle.dds_protocol.specs.Resuming.{GoesAgain}
use Rattle.dds_protocol.proofs.Ways.{jumps_gone}
use Rattle.dds_ends.specs.Kept.{ReaderKept}
use Rattle.dds_ends.specs.Readiness.{SameReader, seen_in}
use Rattle.dds_core.specs.Readiness.{begins_at, begun_moves, moves_of}
use Rattle.dds_core.specs.Receiving.{with_state}
use Rattle.dds_ends.specs.Standing.{stood_as}
use Rattle.dds_core.specs.Standing.{StandsFor}
use Rattle.dds_ends.specs.Storing.{Holds}
use Rattle.dds_core.proofs.Ends.{with_reader}
use Rattle.dds_ends.proofs.Rows.{handle_is}
use Rattle.dds_core.proofs.Takes.{Telling, Stage, known_of, proxies_of, reader_of, stood, stands_first, match_is, stage_ends, at_first, reader_is, heard_asserts, heard_after_is, heard_happened, heard_moves, heard_rows, heard_stage, heard_state, started_state, starts_at, started, gone_state, place_moves, goes_by, gone, noted}

-- the reader of a telling has done this step, and nothing of other writers has changed
pub record Took (c : Telling) (k' : ReaderKept) (from : ℕ) (step : Step) : Type 0 where
  pub same : SameReader c.k k'
  pub others : OthersStay c.row c.k.reader k'.reader
  pub how : how_at k'.reader c.row ≡ how_after (how_at c.k.reader c.row) step
  pub others_how : OthersStand c.row c.k.reader k'.reader
  pub from_is : from ≡ (known_of c).place

-- a state of the peer at which the rules lead there, and for which what is kept stands
pub record Met (c : Telling) (k' : ReaderKept) (Meets : State → Type 0) : Type 0 where
  pub state : State
  pub meets : Meets state
  pub stands : StandsFor (with_reader c.kept c.i k') c.roster (with_state c.peer state)

-- what the reader knows of the writer now, and what happened there now
abbrev pub NowKnows : Telling → ReaderKept → Tracked → Type 0
NowKnows c k' t = Tracks k'.reader c.row t

abbrev pub NowHas : ReaderKept → List Happening → Type 0
NowHas k' h = Holds k'.store h

abbrev pub told_match : Telling → Match
told_match c = match_at (qos_of c.k.store.cache) c.row c.kept.moment

abbrev pub moves_at : Telling → ℕ → Step → List Move
moves_at c from step = moves_of c.writer (c.i + 1) from step

-- ---- the moves

abbrev parts : Endpoint → ℕ → ℕ → Bool → Option ℕ → ℕ → List PassedRun → List Move
parts writer reader from heard begun to passed =
    (if heard then Heard writer reader ∷ [] else [])
    ++ (begun_moves writer reader from begun
    ++ (if nat_lt (begins_at from begun) to then Place writer reader to passed ∷ [] else []))

moves_as : (c : Telling) (from : ℕ) (step : Step) (heard : Bool) (begun : Option ℕ) → from ≡ (known_of c).place
    → step.heard ≡ heard → step.begun ≡ begun
    → moves_at c from step ≡ parts c.writer (suc c.i) (known_of c).place heard begun step.to step.passed
moves_as c from step heard begun from_is heard_is begun_is =
    ap (λ (n : ℕ). parts c.writer n from step.heard step.begun step.to step.passed) (next c.i)
    ∙ (ap (λ (n : ℕ). parts c.writer (suc c.i) n step.heard step.begun step.to step.passed) from_is
    ∙ (ap (λ (b : Bool). parts c.writer (suc c.i) (known_of c).place b step.begun step.to step.passed) heard_is
    ∙ ap (λ (o : Option ℕ). parts c.writer (suc c.i) (known_of c).place heard o step.to step.passed) begun_is))
  where
    next : (n : ℕ) → n + 1 ≡ suc n
    next n = omega arith

not_less : (n : ℕ) → nat_lt n n ≡ false
not_less n = grind (arith, nat_tests)

-- where the place stays, it makes no move
still_moves : (c : Telling) (from : ℕ) (step : Step) (heard : Bool) → from ≡ (known_of c).place → step.heard ≡ heard
    → step.begun ≡ None → step.to ≡ (known_of c).place → moves_at c from step ≡ heard_moves heard c
still_moves c from step heard from_is heard_is begun_is to_is =
    moves_as c from step heard None from_is heard_is begun_is
    ∙ (ap (λ (n : ℕ). (if heard then Heard c.writer (suc c.i) ∷ [] else [])
    ++ (if nat_lt (known_of c).place n then Place c.writer (suc c.i) step.to step.passed ∷ [] else [])) to_is
    ∙ (ap (λ (b : Bool). (if heard then Heard c.writer (suc c.i) ∷ [] else [])
    ++ (if b then Place c.writer (suc c.i) step.to step.passed ∷ [] else [])) (not_less (known_of c).place)
    ∙ alone heard))
  where
    alone : (b : Bool) → (if b then Heard c.writer (suc c.i) ∷ [] else []) ++ [] ≡ heard_moves b c
    alone true = refl
    alone false = refl

-- ---- how it stands then

stands_then : (c : Telling) (k' : ReaderKept) (from : ℕ) (step : Step) (a : AttachmentOf) (begun : Option ℕ)
    → Took c k' from step → how_at c.k.reader c.row ≡ a → step.begun ≡ begun
    → stood_as (if is_some begun then standing.Begun else a) ≡ stood_as (how_at k'.reader c.row)
stands_then c k' from step a begun took is begun_is =
    ap (λ (x : AttachmentOf). stood_as x)
    (sym (took.how
    ∙ (ap (λ (x : AttachmentOf). how_after x step) is
    ∙ ap (λ (o : Option ℕ). if is_some o then standing.Begun else a) begun_is)))

stood_here : (c : Telling) (a : AttachmentOf) → how_at c.k.reader c.row ≡ a
    → how_of (proxies_of c) c.writer ≡ stood_as a
stood_here c a is = (stood c).hows c.writer c.row c.first ∙ ap (λ (x : AttachmentOf). stood_as x) is

-- ---- nothing is done

idles : (c : Telling) (k' : ReaderKept) (from : ℕ) (step : Step) → Took c k' from step
    → Rests (known_of c) (reader_of c).happened step (λ t. NowKnows c k' t) (λ h. NowHas k' h)
    → Met c k' (λ new. (moves_at c from step ≡ []) × (new ≡ state_of c.peer))
idles c k' from step took m = record {
  state = state_of c.peer;
  meets = (still_moves c from step false took.from_is m.0.heard m.0.begun m.0.to, refl);
  stands =
      stage_ends c k' (stood_as (how_at c.k.reader c.row)) (known_of c) (proxies_of c)
      (reader_of c).happened (state_of c.peer)
      (at_first c (stood_as (how_at c.k.reader c.row)) (stood_here c (how_at c.k.reader c.row) refl)) (record {
        same = took.same;
        others = took.others;
        others_how = took.others_how;
        how_is = stands_then c k' from step (how_at c.k.reader c.row) None took refl m.0.begun;
        knows = m.1;
        holds = m.2;
      });
}

-- the same, where the rules say so in other words
met_as : (c : Telling) (k' : ReaderKept) (P Q : State → Type 0) → ((s : State) → P s → Q s) → Met c k' P → Met c k' Q
met_as c k' P Q f m = record { state = m.state; meets = f m.state m.meets; stands = m.stands }

-- ---- the place goes on, where it has begun

goes_on : {Way : Match → List Happening → ℕ → List PassedRun → Tracked → List Happening → Type 0}
    → (c : Telling) (k' : ReaderKept) (from : ℕ) (step : Step) → Took c k' from step
    → how_at c.k.reader c.row ≡ standing.Begun → step.begun ≡ None → (new : Tracked) (after : List Happening)
    → Way (told_match c) (reader_of c).happened step.to step.passed new after → new.place ≡ step.to → NowKnows c k' new
    → NowHas k' after → step.heard ≡ false
    → Met c k' (λ s. GoesBy Way (state_of c.peer) c.writer (suc c.i) (moves_at c from step) s)
goes_on {Way = Way} c k' from step took is begun new after way place knows holds quiet =
    let here = at_first c Begun (stood_here c standing.Begun is) in
    record {
      state = gone_state c (state_of c.peer) step.to new after;
      meets =
          subst (λ (ms : List Move). GoesBy Way (state_of c.peer) c.writer (suc c.i) ms
          (gone_state c (state_of c.peer) step.to new after))
          (sym (moves_as c from step false None took.from_is quiet begun))
          (goes_by c (known_of c) (proxies_of c) (reader_of c).happened (state_of c.peer) here step.to step.passed new
          after way);
      stands =
          stage_ends c k' Begun new (with_place (proxies_of c) c.writer step.to) after
          (gone_state c (state_of c.peer) step.to new after)
          (gone c Begun (known_of c) (proxies_of c) (reader_of c).happened (state_of c.peer) here step.to new after
          place) (record {
            same = took.same;
            others = took.others;
            others_how = took.others_how;
            how_is = stands_then c k' from step standing.Begun None took is begun;
            knows = knows;
            holds = holds;
          });
    }

-- as far as it can
news_goes : (c : Telling) (k' : ReaderKept) (from : ℕ) (step : Step) (with_it : Tracked → Tracked) → Took c k' from step
    → how_at c.k.reader c.row ≡ standing.Begun → step.begun ≡ None
    → MovesOn (told_match c) (with_it (known_of c)) (reader_of c).happened step (λ t. NowKnows c k' t) (λ h. NowHas k' h)
    → Met c k' (λ s. Goes (state_of c.peer) c.writer (suc c.i) (with_it (known_of c)) (moves_at c from step) s)
news_goes c k' from step with_it took is begun m =
    goes_on {Way = λ match h. Advances match (with_it (known_of c)) h} c k' from step took is begun m.new m.after
    m.advances m.advances.place m.known m.stands m.heard

-- ---- a change, or a GAP, at a reliable reader

pub change_met : (c : Telling) (k' : ReaderKept) (from : ℕ) (step : Step) (number : ℕ) (change : Change) (a : AttachmentOf)
    → Took c k' from step → how_at c.k.reader c.row ≡ a
    → NewsTold a (told_match c) (with_data number change) (known_of c) (reader_of c).happened step (λ t. NowKnows c k' t)
    (λ h. NowHas k' h)
    → Met c k' (λ s. MeetsChange (stood_as a) true (state_of c.peer) c.writer (suc c.i) number change
    (moves_at c from step) s)
change_met c k' from step number change standing.Begun took is m =
    news_goes c k' from step (with_data number change) took is m.0 m.1
change_met c k' from step number change standing.Waiting took is m = idles c k' from step took m
change_met c k' from step number change standing.Away took is m = idles c k' from step took m

pub gap_met : (c : Telling) (k' : ReaderKept) (from : ℕ) (step : Step) (g : GapBody) (a : AttachmentOf)
    → Took c k' from step → how_at c.k.reader c.row ≡ a
    → NewsTold a (told_match c) (with_gap g.gap_start g.gap_list) (known_of c) (reader_of c).happened step
    (λ t. NowKnows c k' t) (λ h. NowHas k' h)
    → Met c k' (λ s. MeetsGap (stood_as a) true (state_of c.peer) c.writer (suc c.i) g (moves_at c from step) s)
gap_met c k' from step g standing.Begun took is m =
    news_goes c k' from step (with_gap g.gap_start g.gap_list) took is m.0 m.1
gap_met c k' from step g standing.Waiting took is m = idles c k' from step took m
gap_met c k' from step g standing.Away took is m = idles c k' from step took m

-- a place that is tried again, at any reader
pub again_met : (c : Telling) (k' : ReaderKept) (from : ℕ) (step : Step) (a : AttachmentOf) → Took c k' from step
    → how_at c.k.reader c.row ≡ a
    → NewsTold a (told_match c) no_news (known_of c) (reader_of c).happened step (λ t. NowKnows c k' t)
    (λ h. NowHas k' h)
    → Met c k' (λ s. GoesAgain (stood_as a) (state_of c.peer) c.writer (suc c.i) (moves_at c from step) s)
again_met c k' from step standing.Begun took is m = news_goes c k' from step no_news took is m.0 m.1
again_met c k' from step standing.Waiting took is m = idles c k' from step took m
again_met c k' from step standing.Away took is m = idles c k' from step took m

-- a GAP, at a best-effort reader
pub nothing_met : (c : Telling) (k' : ReaderKept) (from : ℕ) (step : Step) (g : GapBody) (a : AttachmentOf)
    → Took c k' from step → Rests (known_of c) (reader_of c).happened step (λ t. NowKnows c k' t) (λ h. NowHas k' h)
    → Met c k' (λ s. MeetsGap (stood_as a) false (state_of c.peer) c.writer (suc c.i) g (moves_at c from step) s)
nothing_met c k' from step g standing.Begun took m = idles c k' from step took m
nothing_met c k' from step g standing.Waiting took m = idles c k' from step took m
nothing_met c k' from step g standing.Away took m = idles c k' from step took m

-- ---- a change, at a best-effort reader

both_true : (a b : Bool) → (a && b) ≡ true → a ≡ true
both_true true b h = refl
both_true false b h = h

greater : (p n : ℕ) → nat_le p n ≡ true → n ≡ max p n
greater p n h = grind (arith, nat_tests)

-- it begins the place that waits, and comes
begins_with : (c : Telling) (k' : ReaderKept) (from : ℕ) (step : Step) (number : ℕ) (change : Change)
    → Took c k' from step → how_at c.k.reader c.row ≡ standing.Waiting
    → is_reliable (reader_of c).qos.reliability ≡ false → nat_le (known_of c).place number ≡ true
    → step.begun ≡ Some number
    → JumpsOn (told_match c) (begun_at number (known_of c)) (reader_of c).happened number change step
    (λ t. NowKnows c k' t) (λ h. NowHas k' h)
    → Met c k' (λ s. BeginsWith (state_of c.peer) c.writer (suc c.i) number change (moves_at c from step) s)
begins_with c k' from step number change took is other low begun m =
    record { state = there; meets = begins; stands = ended }
  where
    to : ℕ
    to = max (known_of c).place number

    first : Stage c Waiting (known_of c) (proxies_of c) (reader_of c).happened (state_of c.peer)
    first = at_first c Waiting (stood_here c standing.Waiting is)

    rows : List WriterProxy
    rows = with_begun (proxies_of c) c.writer to

    mid : State
    mid = started_state c (state_of c.peer) to

    at_mid : Stage c Begun (begun_at number (known_of c)) rows (reader_of c).happened mid
    at_mid = started c to Waiting (known_of c) (proxies_of c) (reader_of c).happened (state_of c.peer) refl first

    there : State
    there = gone_state c mid step.to m.new m.after

    starting : List Move
    starting = HasBegun c.writer (suc c.i) (known_of c).place to ∷ []

    going : List Move
    going = place_moves c to step.to step.passed

    moves_are : moves_at c from step ≡ starting ++ going
    moves_are =
        moves_as c from step false (Some number) took.from_is m.heard begun
        ∙ ap (λ (n : ℕ). HasBegun c.writer (suc c.i) (known_of c).place n ∷ place_moves c n step.to step.passed)
        (greater (known_of c).place number low)

    goes : GoesBy (λ match h. Jumps match (begun_at number (known_of c)) h number change) mid c.writer (suc c.i) going
        there
    goes =
        goes_by {Way = λ match h. Jumps match (begun_at number (known_of c)) h number change} c
        (begun_at number (known_of c)) rows (reader_of c).happened mid at_mid step.to step.passed m.new m.after m.jumps

    begins : BeginsWith (state_of c.peer) c.writer (suc c.i) number change (moves_at c from step) there
    begins = record {
      starting = starting;
      started = mid;
      starts =
          starts_at c number (known_of c) (proxies_of c) (reader_of c).happened (state_of c.peer) first;
      going = going;
      takes = (
        ap (λ (r : Reader). is_reliable r.qos.reliability)
            (reader_is c Begun (begun_at number (known_of c)) rows (reader_of c).happened mid at_mid)
            ∙ other,
        subst (λ (t : Tracked). GoesBy (λ match h. Jumps match t h number change) mid c.writer (suc c.i) going there)
            (sym at_mid.here) goes,
      );
      moves_are = moves_are;
    }

    place : m.new.place ≡ step.to
    place =
        (jumps_gone (told_match c) (begun_at number (known_of c)) (reader_of c).happened number change step.to
        step.passed m.new m.after m.jumps).place

    ended : StandsFor (with_reader c.kept c.i k') c.roster (with_state c.peer there)
    ended =
        stage_ends c k' Begun m.new (with_place rows c.writer step.to) m.after there
        (gone c Begun (begun_at number (known_of c)) rows (reader_of c).happened mid at_mid step.to m.new m.after place)
        (record {
          same = took.same;
          others = took.others;
          others_how = took.others_how;
          how_is = stands_then c k' from step standing.Waiting (Some number) took is begun;
          knows = m.known;
          holds = m.stands;
        })

-- it does so, or nothing is done
begins_or_not : (c : Telling) (k' : ReaderKept) (from : ℕ) (step : Step) (number : ℕ) (change : Change) (b : Bool)
    → Took c k' from step → how_at c.k.reader c.row ≡ standing.Waiting
    → is_reliable (reader_of c).qos.reliability ≡ false
    → (nat_le (known_of c).place number && comes (told_match c) number (reader_of c).happened number change) ≡ b
    → BeginsIfTold b (told_match c) (known_of c) (reader_of c).happened number change step (λ t. NowKnows c k' t)
    (λ h. NowHas k' h)
    → Met c k' (λ s. BeginsIf b (state_of c.peer) c.writer (suc c.i) number change (moves_at c from step) s)
begins_or_not c k' from step number change true took is other test m =
    begins_with c k' from step number change took is other (both_true _ _ test) m.0 m.1
begins_or_not c k' from step number change false took is other test m = idles c k' from step took m

pub jump_met : (c : Telling) (k' : ReaderKept) (from : ℕ) (step : Step) (number : ℕ) (change : Change) (a : AttachmentOf)
    → Took c k' from step → how_at c.k.reader c.row ≡ a → is_reliable (reader_of c).qos.reliability ≡ false
    → ChangeTold a (told_match c) (known_of c) (reader_of c).happened number change step (λ t. NowKnows c k' t)
    (λ h. NowHas k' h)
    → Met c k' (λ s. MeetsChange (stood_as a) false (state_of c.peer) c.writer (suc c.i) number change
    (moves_at c from step) s)
jump_met c k' from step number change standing.Begun took is other m =
    met_as c k'
    (λ s. GoesBy (λ match h. Jumps match (known_of c) h number change) (state_of c.peer) c.writer (suc c.i)
    (moves_at c from step) s)
    (λ s. MeetsChange Begun false (state_of c.peer) c.writer (suc c.i) number change (moves_at c from step) s)
    (λ s goes. (other, goes))
    (goes_on {Way = λ match h. Jumps match (known_of c) h number change} c k' from step took is m.0 m.1.new m.1.after
    m.1.jumps
    (jumps_gone (told_match c) (known_of c) (reader_of c).happened number change step.to step.passed m.1.new m.1.after
    m.1.jumps).place m.1.known m.1.stands m.1.heard)
jump_met c k' from step number change standing.Waiting took is other m =
    met_as c k'
    (λ s. BeginsIf
    (nat_le (known_of c).place number && comes (told_match c) number (reader_of c).happened number change)
    (state_of c.peer) c.writer (suc c.i) number change (moves_at c from step) s)
    (λ s. MeetsChange Waiting false (state_of c.peer) c.writer (suc c.i) number change (moves_at c from step) s)
    (λ s begins. (
      c.row + 1,
      handle_is (proxies_of c) c.writer c.row (stands_first c (proxies_of c) (stood c).writers_are),
      subst (λ (match : Match). BeginsIf
          (nat_le (known_of c).place number && comes match number (reader_of c).happened number change)
          (state_of c.peer) c.writer (suc c.i) number change (moves_at c from step) s) (match_is c) begins,
    ))
    (begins_or_not c k' from step number change
    (nat_le (known_of c).place number && comes (told_match c) number (reader_of c).happened number change) took is other
    refl m)
jump_met c k' from step number change standing.Away took is other m = idles c k' from step took m

-- ---- a HEARTBEAT

-- what is due to the writer then
abbrev pub due_to : Telling → GuidPrefix → Receiver → EntityId → EntityId → Step → List Due
due_to c own at entity writer_id step =
    acknacks_due own at.source_guid_prefix c.writer.peer entity writer_id step.acknack

no_due : (c : Telling) (own : GuidPrefix) (at : Receiver) (entity writer_id : EntityId) (step : Step)
    → step.acknack ≡ None → due_to c own at entity writer_id step ≡ []
no_due c own at entity writer_id step none =
    ap (λ (o : Option AckNackDue). acknacks_due own at.source_guid_prefix c.writer.peer entity writer_id o) none

answered_place : (o : Option AckNackDue) (x : Tracked) → (answered o x).place ≡ x.place
answered_place None x = refl
answered_place (Some d) x = refl

-- one that is taken: the writer is heard, its place begins, or has begun, and goes on, and it is answered
heartbeat_on : (c : Telling) (own : GuidPrefix) (at : Receiver) (entity : EntityId) (k' : ReaderKept)
    (h : HeartbeatBody) (from : ℕ) (step : Step) (how : Attachment) → how_of (proxies_of c) c.writer ≡ how
    → is_attached how ≡ true → Took c k' from step → is_later (known_of c).count h.count ≡ true
    → (t : Tracked) (rows : List WriterProxy) (begun : State) (starting : List Move)
    → Starts how (heard_state h.liveliness_flag c h.count) c.writer (suc c.i) h.first_sn starting begun
    → Stage c Begun t rows (heard_happened h.liveliness_flag c) begun
    → (m : HeartbeatTaken (told_match c) t (reader_of c).happened (seen_in h) step (λ x. NowKnows c k' x) (λ x. NowHas k' x))
    → moves_at c from step
    ≡ heard_moves h.liveliness_flag c ++ (starting ++ place_moves c t.place step.to step.passed)
    → Begun ≡ stood_as (how_at k'.reader c.row)
    → Met c k' (λ s. TakesHeartbeat own at (state_of c.peer) c.writer (suc c.i) entity h (moves_at c from step)
    (due_to c own at entity h.writer_id step) s)
heartbeat_on c own at entity k' h from step how is here took later t rows begun starting starts g m moves_are how_then =
    record { state = new; meets = takes; stands = ended }
  where
    b : Bool
    b = h.liveliness_flag

    mid : Tracked
    mid = m.accepts.mid

    there : State
    there = gone_state c begun step.to mid m.after

    at_there : Stage c Begun mid (with_place rows c.writer step.to) m.after there
    at_there = gone c Begun t rows (heard_happened b c) begun g step.to mid m.after m.accepts.advances.place

    last : Tracked
    last = answered step.acknack (there.known.tracked c.writer (suc c.i))

    new : State
    new = record there { known = with_tracked there.known c.writer (suc c.i) last }

    last_is : last ≡ answered step.acknack mid
    last_is = ap (λ (x : Tracked). answered step.acknack x) at_there.here

    way : Advances (told_match c) (with_heartbeat h.first_sn h.count t) (heard_happened b c) step.to step.passed mid
        m.after
    way =
        subst (λ (xs : List Happening). Advances (told_match c) (with_heartbeat h.first_sn h.count t) xs step.to
        step.passed mid m.after) (heard_after_is b c) m.accepts.advances

    goes : Goes begun c.writer (suc c.i)
        (with_heartbeat h.first_sn h.count (begun.known.tracked c.writer (suc c.i)))
        (place_moves c t.place step.to step.passed) there
    goes =
        subst (λ (x : Tracked). Goes begun c.writer (suc c.i) (with_heartbeat h.first_sn h.count x)
        (place_moves c t.place step.to step.passed) there) (sym g.here)
        (goes_by {Way = λ match xs. Advances match (with_heartbeat h.first_sn h.count t) xs} c t rows
        (heard_happened b c) begun g step.to step.passed mid m.after way)

    takes : TakesHeartbeat own at (state_of c.peer) c.writer (suc c.i) entity h (moves_at c from step)
        (due_to c own at entity h.writer_id step) new
    takes = record {
      later = later;
      hearing = heard_moves b c;
      heard = heard_state b c h.count;
      asserts = heard_asserts b c h.count (ap (λ (x : Attachment). is_attached x) is ∙ here);
      starting = starting;
      started = begun;
      starts =
          subst (λ (x : Attachment). Starts x (heard_state b c h.count) c.writer (suc c.i) h.first_sn starting begun)
          (sym is) starts;
      going = place_moves c t.place step.to step.passed;
      there = there;
      goes = goes;
      moves_are = moves_are;
      answer = step.acknack;
      answers =
          subst (λ (x : Tracked). AnswersHeartbeat x h.last_sn h.final_flag step.acknack) (sym at_there.here)
          m.accepts.answers;
      dues_are = refl;
      after = refl;
    }

    ended : StandsFor (with_reader c.kept c.i k') c.roster (with_state c.peer new)
    ended =
        stage_ends c k' Begun last (with_place rows c.writer step.to) m.after new
        (noted c Begun mid (with_place rows c.writer step.to) m.after there at_there last
        (ap (λ (x : Tracked). x.place) last_is ∙ answered_place step.acknack mid)) (record {
          same = took.same;
          others = took.others;
          others_how = took.others_how;
          how_is = how_then;
          knows = subst (λ (x : Tracked). NowKnows c k' x) (m.accepts.counted ∙ sym last_is) m.known;
          holds = m.stands;
        })

-- at a place that has begun
heartbeat_begun : (c : Telling) (own : GuidPrefix) (at : Receiver) (entity : EntityId) (k' : ReaderKept)
    (h : HeartbeatBody) (from : ℕ) (step : Step) → Took c k' from step → how_at c.k.reader c.row ≡ standing.Begun
    → is_later (known_of c).count h.count ≡ true → step.begun ≡ None
    → HeartbeatTaken (told_match c) (known_of c) (reader_of c).happened (seen_in h) step (λ x. NowKnows c k' x)
    (λ x. NowHas k' x)
    → Met c k' (λ s. TakesHeartbeat own at (state_of c.peer) c.writer (suc c.i) entity h (moves_at c from step)
    (due_to c own at entity h.writer_id step) s)
heartbeat_begun c own at entity k' h from step took is later begun m =
    heartbeat_on c own at entity k' h from step Begun (stood_here c standing.Begun is) refl took later (known_of c)
    (heard_rows h.liveliness_flag c h.count) (heard_state h.liveliness_flag c h.count) [] (refl, refl)
    (heard_stage h.liveliness_flag c h.count Begun (stood_here c standing.Begun is)) m
    (moves_as c from step h.liveliness_flag None took.from_is m.accepts.heard begun)
    (stands_then c k' from step standing.Begun None took is begun)

-- at one that waits
heartbeat_begins : (c : Telling) (own : GuidPrefix) (at : Receiver) (entity : EntityId) (k' : ReaderKept)
    (h : HeartbeatBody) (from : ℕ) (step : Step) → Took c k' from step → how_at c.k.reader c.row ≡ standing.Waiting
    → is_later (known_of c).count h.count ≡ true → step.begun ≡ Some (max (known_of c).place h.first_sn)
    → HeartbeatTaken (told_match c) (begun_at h.first_sn (known_of c)) (reader_of c).happened (seen_in h) step
    (λ x. NowKnows c k' x) (λ x. NowHas k' x)
    → Met c k' (λ s. TakesHeartbeat own at (state_of c.peer) c.writer (suc c.i) entity h (moves_at c from step)
    (due_to c own at entity h.writer_id step) s)
heartbeat_begins c own at entity k' h from step took is later begun m =
    let b = h.liveliness_flag in
    let to = max (known_of c).place h.first_sn in
    let heard : Stage c Waiting (known_of c) (heard_rows b c h.count) (heard_happened b c) (heard_state b c h.count) =
    heard_stage b c h.count Waiting (stood_here c standing.Waiting is) in
    heartbeat_on c own at entity k' h from step Waiting (stood_here c standing.Waiting is) refl took later
    (begun_at h.first_sn (known_of c)) (with_begun (heard_rows b c h.count) c.writer to)
    (started_state c (heard_state b c h.count) to) (HasBegun c.writer (suc c.i) (known_of c).place to ∷ [])
    (starts_at c h.first_sn (known_of c) (heard_rows b c h.count) (heard_happened b c) (heard_state b c h.count) heard)
    (started c to Waiting (known_of c) (heard_rows b c h.count) (heard_happened b c) (heard_state b c h.count) refl heard) m
    (moves_as c from step b (Some to) took.from_is m.accepts.heard begun)
    (stands_then c k' from step standing.Waiting (Some to) took is begun)

-- what a reliable reader does with one
pub heartbeat_met : (c : Telling) (own : GuidPrefix) (at : Receiver) (entity : EntityId) (k' : ReaderKept)
    (h : HeartbeatBody) (from : ℕ) (step : Step) (a : AttachmentOf) → Took c k' from step
    → how_at c.k.reader c.row ≡ a → is_later (known_of c).count h.count ≡ true
    → HeartbeatTold a (told_match c) (known_of c) (reader_of c).happened (seen_in h) step (λ x. NowKnows c k' x)
    (λ x. NowHas k' x)
    → Met c k' (λ s. MeetsHeartbeat (stood_as a) true own at (state_of c.peer) c.writer (suc c.i) entity h
    (moves_at c from step) (due_to c own at entity h.writer_id step) s)
heartbeat_met c own at entity k' h from step standing.Begun took is later m =
    met_as c k'
    (λ s. TakesHeartbeat own at (state_of c.peer) c.writer (suc c.i) entity h (moves_at c from step)
    (due_to c own at entity h.writer_id step) s)
    (λ s. MeetsHeartbeat Begun true own at (state_of c.peer) c.writer (suc c.i) entity h (moves_at c from step)
    (due_to c own at entity h.writer_id step) s) (λ s takes. inl takes)
    (heartbeat_begun c own at entity k' h from step took is later m.0 m.1)
heartbeat_met c own at entity k' h from step standing.Waiting took is later m =
    met_as c k'
    (λ s. TakesHeartbeat own at (state_of c.peer) c.writer (suc c.i) entity h (moves_at c from step)
    (due_to c own at entity h.writer_id step) s)
    (λ s. MeetsHeartbeat Waiting true own at (state_of c.peer) c.writer (suc c.i) entity h (moves_at c from step)
    (due_to c own at entity h.writer_id step) s) (λ s takes. inl takes)
    (heartbeat_begins c own at entity k' h from step took is later m.0 m.1)
heartbeat_met c own at entity k' h from step standing.Away took is later m =
    met_as c k' (λ s. (moves_at c from step ≡ []) × (s ≡ state_of c.peer))
    (λ s. MeetsHeartbeat Away true own at (state_of c.peer) c.writer (suc c.i) entity h (moves_at c from step)
    (due_to c own at entity h.writer_id step) s)
    (λ s idle. (idle.0, no_due c own at entity h.writer_id step m.0.acknack, idle.1)) (idles c k' from step took m)

-- a best-effort reader whose place waits hears it, and no more
hears_alone : (c : Telling) (own : GuidPrefix) (at : Receiver) (entity : EntityId) (k' : ReaderKept)
    (h : HeartbeatBody) (from : ℕ) (step : Step) → Took c k' from step → how_at c.k.reader c.row ≡ standing.Waiting
    → is_later (known_of c).count h.count ≡ true
    → HeardAlone (told_match c) (known_of c) (reader_of c).happened (seen_in (heard_as false h)) step
    (λ x. NowKnows c k' x) (λ x. NowHas k' x)
    → Met c k' (λ s. HearsAlone (state_of c.peer) c.writer (suc c.i) h (moves_at c from step) s)
hears_alone c own at entity k' h from step took is later m = record {
  state = new;
  meets = record {
    later = later;
    heard = heard;
    asserts =
        subst (λ (ms : List Move). Asserts ms)
        (sym (still_moves c from step b took.from_is m.heard m.begun m.to))
        (heard_asserts b c h.count (ap (λ (x : Attachment). is_attached x) (stood_here c standing.Waiting is)));
    after = refl;
  };
  stands =
      stage_ends c k' Waiting last (heard_rows b c h.count) (heard_happened b c) new
      (noted c Waiting (known_of c) (heard_rows b c h.count) (heard_happened b c) heard at_heard last
      (ap (λ (x : Tracked). x.place) at_heard.here)) (record {
        same = took.same;
        others = took.others;
        others_how = took.others_how;
        how_is = stands_then c k' from step standing.Waiting None took is m.begun;
        knows =
            subst (λ (x : Tracked). NowKnows c k' (record x { count = Some h.count })) (sym at_heard.here) m.known;
        holds = subst (λ (xs : List Happening). NowHas k' xs) (heard_after_is b c) m.stands;
      });
}
  where
    b : Bool
    b = h.liveliness_flag

    heard : State
    heard = heard_state b c h.count

    Asserts : List Move → Type 0
    Asserts ms = Asserting b (state_of c.peer) c.writer (suc c.i) h.count ms heard

    at_heard : Stage c Waiting (known_of c) (heard_rows b c h.count) (heard_happened b c) heard
    at_heard = heard_stage b c h.count Waiting (stood_here c standing.Waiting is)

    last : Tracked
    last = record (heard.known.tracked c.writer (suc c.i)) { count = Some h.count }

    new : State
    new = record heard { known = with_tracked heard.known c.writer (suc c.i) last }

-- what a best-effort reader does with one
pub beat_met : (c : Telling) (own : GuidPrefix) (at : Receiver) (entity : EntityId) (k' : ReaderKept)
    (h : HeartbeatBody) (from : ℕ) (step : Step) (a : AttachmentOf) → Took c k' from step
    → how_at c.k.reader c.row ≡ a → is_later (known_of c).count h.count ≡ true
    → BeatTold a (told_match c) (known_of c) (reader_of c).happened (seen_in (heard_as false h)) step
    (λ x. NowKnows c k' x) (λ x. NowHas k' x)
    → Met c k' (λ s. MeetsHeartbeat (stood_as a) false own at (state_of c.peer) c.writer (suc c.i) entity h
    (moves_at c from step) (due_to c own at entity h.writer_id step) s)
beat_met c own at entity k' h from step standing.Begun took is later m =
    met_as c k'
    (λ s. TakesHeartbeat own at (state_of c.peer) c.writer (suc c.i) entity (heard_as false h) (moves_at c from step)
    (due_to c own at entity h.writer_id step) s)
    (λ s. MeetsHeartbeat Begun false own at (state_of c.peer) c.writer (suc c.i) entity h (moves_at c from step)
    (due_to c own at entity h.writer_id step) s) (λ s takes. inl takes)
    (heartbeat_begun c own at entity k' (heard_as false h) from step took is later m.0 m.1)
beat_met c own at entity k' h from step standing.Waiting took is later m =
    met_as c k' (λ s. HearsAlone (state_of c.peer) c.writer (suc c.i) h (moves_at c from step) s)
    (λ s. MeetsHeartbeat Waiting false own at (state_of c.peer) c.writer (suc c.i) entity h (moves_at c from step)
    (due_to c own at entity h.writer_id step) s)
    (λ s hears. inl (hears, no_due c own at entity h.writer_id step m.acknack))
    (hears_alone c own at entity k' h from step took is later m)
beat_met c own at entity k' h from step standing.Away took is later m =
    met_as c k' (λ s. (moves_at c from step ≡ []) × (s ≡ state_of c.peer))
    (λ s. MeetsHeartbeat Away false own at (state_of c.peer) c.writer (suc c.i) entity h (moves_at c from step)
    (due_to c own at entity h.writer_id step) s)
    (λ s idle. (idle.0, no_due c own at entity h.writer_id step m.0.acknack, idle.1)) (idles c k' from step took m)

-- one that is not taken does nothing
heard_count : (b : Bool) (h : HeartbeatBody) → (heard_as b h).count ≡ h.count
heard_count true h = refl
heard_count false h = refl

repeated_meets : (c : Telling) (own : GuidPrefix) (at : Receiver) (entity : EntityId) (h : HeartbeatBody)
    (from : ℕ) (step : Step) (a : AttachmentOf) (reliable : Bool) (s : State)
    → is_later (known_of c).count h.count ≡ false → (moves_at c from step ≡ []) × (s ≡ state_of c.peer)
    → due_to c own at entity h.writer_id step ≡ []
    → MeetsHeartbeat (stood_as a) reliable own at (state_of c.peer) c.writer (suc c.i) entity h
    (moves_at c from step) (due_to c own at entity h.writer_id step) s
repeated_meets c own at entity h from step standing.Away true s not_later idle none = (idle.0, none, idle.1)
repeated_meets c own at entity h from step standing.Away false s not_later idle none = (idle.0, none, idle.1)
repeated_meets c own at entity h from step standing.Waiting true s not_later idle none =
    inr (not_later, (idle.0, none, idle.1))
repeated_meets c own at entity h from step standing.Waiting false s not_later idle none =
    inr (not_later, (idle.0, none, idle.1))
repeated_meets c own at entity h from step standing.Begun true s not_later idle none =
    inr (not_later, (idle.0, none, idle.1))
repeated_meets c own at entity h from step standing.Begun false s not_later idle none =
    inr (not_later, (idle.0, none, idle.1))

pub repeated_met : (c : Telling) (own : GuidPrefix) (at : Receiver) (entity : EntityId) (k' : ReaderKept)
    (h : HeartbeatBody) (from : ℕ) (step : Step) (a : AttachmentOf) (reliable : Bool) → Took c k' from step
    → is_later (known_of c).count h.count ≡ false
    → Rests (known_of c) (reader_of c).happened step (λ x. NowKnows c k' x) (λ x. NowHas k' x)
    → Met c k' (λ s. MeetsHeartbeat (stood_as a) reliable own at (state_of c.peer) c.writer (suc c.i) entity h
    (moves_at c from step) (due_to c own at entity h.writer_id step) s)
repeated_met c own at entity k' h from step a reliable took not_later m =
    met_as c k' (λ s. (moves_at c from step ≡ []) × (s ≡ state_of c.peer))
    (λ s. MeetsHeartbeat (stood_as a) reliable own at (state_of c.peer) c.writer (suc c.i) entity h
    (moves_at c from step) (due_to c own at entity h.writer_id step) s)
    (λ s idle. repeated_meets c own at entity h from step a reliable s not_later idle
    (no_due c own at entity h.writer_id step m.0.acknack)) (idles c k' from step took m)
