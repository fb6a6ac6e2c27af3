-- What a call of one of the peer's writers does.
use Rattle.std.proofs.Common.{◌≡◌, ◌⊎◌, ℕ, suc, ◌+◌, ◌^◌, ◌<◌, ◌≤◌, Bool, true, false, not, ◌&&◌, ◌||◌, List, [], Option, Some, None, length, slice_get, map, refl, ap, sym, ◌∙◌, subst, arith, inl, inr, ⊎_elim}
use Rattle.std.specs.Prelude.{nat_lt, nat_le, if◌then◌else◌}
use Rattle.std.proofs.lemmas.Bool.Decides.{nat_tests}
use Rattle.dds_base.specs.declared.change.Change.{Change}
use Rattle.dds_base.specs.declared.change.ChangeKind.{ChangeKind}
use Rattle.dds_base.specs.declared.change.ChangeKind.TheVariants as kind
use Rattle.dds_base.specs.declared.code.Code.{Code}
use Rattle.dds_base.specs.declared.code.Code.TheVariants.{BadParameter, PreconditionNotMet, Memory}
use Rattle.dds_protocol.specs.Roster.{Roster}
use Rattle.dds_base.specs.declared.key.Key.{Key}
use Rattle.dds_base.specs.declared.status.LivelinessLostStatus.{LivelinessLostStatus}
use Rattle.dds_base.specs.Refusal.{Refuses}
use Rattle.dds_base.specs.Written.{Registered, Changed, LookedAt, is_key_registered, liveliness_lost_status}
use Rattle.dds_machine.specs.declared.call.Call.{Call}
use Rattle.dds_machine.specs.declared.call.Call.TheVariants as call
use Rattle.dds_protocol.specs.declared.event.Event.{Event}
use Rattle.dds_protocol.specs.declared.event.Event.TheVariants as event
use Rattle.dds_protocol.specs.declared.event.Output.{Output}
use Rattle.dds_machine.specs.declared.reply.Reply.{Reply}
use Rattle.dds_machine.specs.declared.reply.Reply.TheVariants.{Done, LivelinessLost, Refused}
use Rattle.dds_base.specs.declared.endpoint.Endpoint.{Endpoint}
use Rattle.dds_machine.specs.Ticks.{tick_refusal, after_tick, is_past_counting, RefusesTick, TicksAsked}
use Rattle.dds_machine.specs.Refusals.{writer_refusal, write_refusal, dispose_refusal, unregister_refusal, change_refusal, change_made, unregister_kind}
use Rattle.dds_machine.specs.Calls.{Effect, nothing, tells as tells_of, writes, effect, effect_of, liveliness_lost_at, IsAnswered, IsAnsweredWatching, IsDoneUnless, Answers, CallStep}
use Rattle.dds_machine.specs.Numbered.{has_element}
use Rattle.dds_conditions.specs.NoFilters.{no_filters}
use Rattle.dds_machine.specs.Part.{Part, Dds, Writer, own_writer}
use Rattle.dds_protocol.specs.DueMessages.{was_asked}
use Rattle.dds_protocol.specs.Peer.{Knows, Peer, PeerStep, known_after}
use Rattle.dds_protocol.specs.Contact.{Contact}
use Rattle.dds_protocol.specs.Protocol.{asked_no_more}
use Rattle.dds_machine.specs.Watching.{Tests}
use Rattle.dds_ends.specs.Kept.{WriterKept, ReaderKept}
use Rattle.dds_core.specs.Kept.{PeerKept}
use Rattle.dds_ends.specs.Identity.{WriterIdentity, ReaderIdentity, reader_identity, writer_identity}
use Rattle.dds_core.specs.Identity.{Identity, identity_of, IsPeerOf, KnowsNames}
use Rattle.dds_ends.specs.Expiring.{AllExpire, HasPastCounting}
use Rattle.dds_core.specs.Making.{IsMade, IsNotMade, entered}
use Rattle.dds_core.specs.Sending.{SendsFor, SendsNothing}
use Rattle.dds_ends.specs.Standing.{IsShort, WriterStands}
use Rattle.dds_core.specs.Standing.{StandsFor}
use Rattle.dds_ends.specs.Stepping.{Enters, AllTick}
use Rattle.dds_ends.specs.Beating.{BeatsOfAll}
use Rattle.dds_core.proofs.BeatsDue.{due_true}
use Rattle.dds_ends.proofs.Dying.{expired_names, peer_past_counting, readers_expired}
use Rattle.dds_ends.proofs.Lists.{get-within, map-get}
use Rattle.dds_core.proofs.Ends.{with_writer, entered_at, own_writer_stepped, unchanged_with}
use Rattle.dds_core.proofs.Taking.{silent}
use Rattle.dds_core.proofs.Tellable.{tellable_entered, tellable_ticked}
use Rattle.dds_ends.proofs.Ticking.{same_names, writers_ticked}

pub silent_sends : (reply : Reply) → SendsNothing (silent reply)
silent_sends reply = record { packets = refl; unsent = refl }

-- what follows an event, for a state that stands
abbrev pub FollowsBy : Tests → PeerKept → Roster → Peer → Event → Output → Type 0
FollowsBy tests kept roster peer ev output =
    (after : Peer) × PeerStep roster tests peer ev output after × StandsFor kept roster after

-- the same of an event in which no filter has a say
abbrev pub Follows : PeerKept → Roster → Peer → Event → Output → Type 0
Follows kept roster peer ev output = FollowsBy no_filters kept roster peer ev output

-- what a peer stands for, it stands for once it is open
pub still_stands : {inside now : PeerKept} {roster : Roster} {peer : Peer} → inside ≡ now → StandsFor now roster peer
    → StandsFor inside roster peer
still_stands {roster = roster} {peer} view s = subst (λ (k : PeerKept). StandsFor k roster peer) (sym view) s

-- the same of another name for the output
pub follows_as : {tests : Tests} (kept : PeerKept) (roster : Roster) (peer : Peer) (ev : Event) (o p : Output) → p ≡ o
    → FollowsBy tests kept roster peer ev o → FollowsBy tests kept roster peer ev p
follows_as {tests} kept roster peer ev o p same h =
    subst (λ (x : Output). FollowsBy tests kept roster peer ev x) (sym same) h

-- what is refused enters nothing; the first row is there so that the second is read call by call
pub refused_nothing : (part : Part) (c : Call) (x : Code) → effect_of part c (Refused x) ≡ nothing
refused_nothing part (call.Register w key) x = refl
refused_nothing part other x = refl

-- a call that needs no memory is answered where no cause refuses it ..
pub answered_as : (refusal : Option Code) (answer : Reply) (after : Dds) (part : Part) (reply : Reply)
    → refusal ≡ None → reply ≡ answer → IsAnswered refusal answer after part reply after
answered_as refusal answer after part reply none is =
    subst (λ (o : Option Code). IsAnswered o answer after part reply after) (sym none) (is, refl)

-- .. and refused by the first that does
pub refused_as : (refusal : Option Code) (answer : Reply) (after : Dds) (part : Part) (code : Code)
    → refusal ≡ Some code → IsAnswered refusal answer after part (Refused code) part.dds
refused_as refusal answer after part code some =
    subst (λ (o : Option Code). IsAnswered o answer after part (Refused code) part.dds) (sym some) (refl, refl)

-- an effect tells a writer or a reader of a match
abbrev is_telling : Effect → Bool
is_telling (tells_of telling) = true
is_telling other = false

-- what is known stays at a call that tells of nobody
pub knows_still : (peer : Peer) (c : Call) (reply : Reply) (e : Effect) → effect_of peer.part c reply ≡ e
    → is_telling e ≡ false → peer.known ≡ known_after peer c reply
knows_still peer (call.MatchReader w reader greeted) Done e is none =
    absurd (let bad = ap is_telling is ∙ none in cc)
knows_still peer (call.MatchReader w reader greeted) reply e is none = refl
knows_still peer (call.MeetReader w far greeted) Done e is none =
    absurd (let bad = ap is_telling is ∙ none in cc)
knows_still peer (call.MeetReader w far greeted) reply e is none = refl
knows_still peer other reply e is none = refl

-- a call that changes nothing
pub unchanging_call : {tests : Tests} (kept : PeerKept) (roster : Roster) (peer : Peer) → StandsFor kept roster peer
    → (c : Call) (reply : Reply)
    → effect_of peer.part c reply ≡ nothing → Answers tests peer.part c reply peer.part.dds
    → FollowsBy tests kept roster peer (event.Call c) (silent reply)
unchanging_call kept roster peer s c reply none is = (
  peer,
  record {
    same_number = refl;
    knows = knows_still peer c reply nothing none refl;
    step = (record { answers = is; rtps = ap (λ (e : Effect). effect peer.part.rtps e) (sym none) }, refl);
    sent = λ p x m h. absurd (omega (arith, m.1));
  },
  s,
)

-- so does one that is refused
pub refused_call : {tests : Tests} (kept : PeerKept) (roster : Roster) (peer : Peer) → StandsFor kept roster peer
    → (c : Call) (code : Code)
    → Answers tests peer.part c (Refused code) peer.part.dds
    → FollowsBy tests kept roster peer (event.Call c) (silent (Refused code))
refused_call kept roster peer s c code is =
    unchanging_call kept roster peer s c (Refused code) (refused_nothing peer.part c code) is

-- numbers of writers and readers

pub no_such : {X : Type 0} (xs : List X) (n count : ℕ) → length xs ≡ count → (nat_lt 0 n && nat_le n count) ≡ false
    → has_element xs n ≡ false
no_such xs n count same none = ap (λ (m : ℕ). nat_lt 0 n && nat_le n m) same ∙ none

pub there_is : {X : Type 0} (xs : List X) (i : ℕ) → i < length xs → has_element xs (suc i) ≡ true
there_is xs i lt = grind (arith, nat_tests)

bad_first : (b : Bool) (rest : Option Code) → b ≡ false
    → Refuses (if not b then Some BadParameter else rest) BadParameter
bad_first true rest h = absurd cc
bad_first false rest h = refl

bad_or : (a b : Bool) (rest : Option Code) → a ≡ false
    → Refuses (if not a || b then Some BadParameter else rest) BadParameter
bad_or true b rest h = absurd cc
bad_or false b rest h = refl

-- calls at a writer that the peer does not have

pub no_dispose : (part : Part) (w : ℕ) (key : Key) → has_element part.rtps.writers w ≡ false
    → Answers no_filters part (call.Dispose w key) (Refused BadParameter) part.dds
no_dispose part w key none = (bad_first (has_element part.rtps.writers w) _ none, refl)

pub no_unregister : (part : Part) (w : ℕ) (key : Key) → has_element part.rtps.writers w ≡ false
    → Answers no_filters part (call.Unregister w key) (Refused BadParameter) part.dds
no_unregister part w key none = (bad_first (has_element part.rtps.writers w) _ none, refl)

-- a value that is too long
long_write : (part : Part) (w : ℕ) (key : Key) (value : List ℕ) → (own_writer part w).max_value < length value
    → Answers no_filters part (call.Write w key value) (Refused BadParameter) part.dds
long_write part w key value long = (
  bad_second (not (has_element part.rtps.writers w)) (nat_lt (own_writer part w).max_value (length value)) _
      (grind (arith, nat_tests)),
  refl,
)
  where
    bad_second : (a b : Bool) (rest : Option Code) → b ≡ true
        → Refuses (if a || b then Some BadParameter else rest) BadParameter
    bad_second true b rest h = refl
    bad_second false true rest h = refl
    bad_second false false rest h = absurd cc

-- an instance that is not registered
pub unregistered : (part : Part) (w : ℕ) (key : Key) → has_element part.rtps.writers w ≡ true
    → is_key_registered key (own_writer part w).written ≡ false
    → Answers no_filters part (call.Unregister w key) (Refused PreconditionNotMet) part.dds
unregistered part w key known none = (
  unknown_there (has_element part.rtps.writers w)
      (is_key_registered key (own_writer part w).written) _ known none,
  refl,
)
  where
    unknown_there : (a b : Bool) (rest : Option Code) → a ≡ true → b ≡ false
        → Refuses (if not a then Some BadParameter else (if not b then Some PreconditionNotMet else rest))
        PreconditionNotMet
    unknown_there true false rest h k = refl
    unknown_there true true rest h k = absurd cc
    unknown_there false b rest h k = absurd cc

-- a register

pub good_register : (part : Part) (w : ℕ) → has_element part.rtps.writers w ≡ true → writer_refusal part w ≡ None
good_register part w known = ap (λ (b : Bool). if not b then Some BadParameter else None) known

register_memory : (part : Part) (w : ℕ) (key : Key) (code : Code) → has_element part.rtps.writers w ≡ true
    → code ≡ Memory → is_key_registered key (own_writer part w).written ≡ false
    → Answers no_filters part (call.Register w key) (Refused code) part.dds
register_memory part w key code known memory unregistered =
    inr (good_register part w known, ap not unregistered, ap (λ (x : Code). Refused x) memory, refl)

register_done : (part : Part) (w : ℕ) (key : Key) → has_element part.rtps.writers w ≡ true
    → Answers no_filters part (call.Register w key) Done part.dds
register_done part w key known =
    inl (subst (λ (o : Option Code). IsAnsweredWatching o Done part.dds.watch part Done part.dds)
    (sym (good_register part w known)) (refl, refl))

pub registers : (kept : PeerKept) (i : ℕ) (k k' : WriterKept) (key : Key) (roster : Roster) (peer : Peer)
    → StandsFor kept roster peer → slice_get kept.writers i ≡ Some k → i < length kept.writers
    → Enters k (Registered key) k'
    → Follows (with_writer kept i k') roster peer (event.Call (call.Register (suc i) key)) (silent Done)
registers kept i k k' key roster peer s at lt enters =
    let count = s.writers.count in
    let known : has_element peer.part.rtps.writers (suc i) ≡ true =
    there_is peer.part.rtps.writers i (omega (arith, lt, count)) in (
      entered_at peer (suc i) (Registered key),
      record {
        same_number = refl;
        knows = refl;
        step = (record { answers = register_done peer.part (suc i) key known; rtps = refl }, refl);
        sent = λ p x m h.
            absurd (omega (arith, m.1));
      },
      own_writer_stepped kept i k k' (Registered key) roster peer s at enters
          (tellable_entered peer (suc i) (Registered key) s.tellable tt),
    )

-- a look at LIVELINESS_LOST
looks : (kept : PeerKept) (i : ℕ) (k k' : WriterKept) (status : LivelinessLostStatus) (roster : Roster) (peer : Peer)
    → StandsFor kept roster peer → slice_get kept.writers i ≡ Some k → i < length kept.writers
    → ((w : Writer) (answered : Endpoint → Contact) → WriterStands k w answered
    → status ≡ liveliness_lost_status w.lease w.written) → Enters k LookedAt k'
    → Follows (with_writer kept i k') roster peer (event.Call (call.GetLivelinessLost (suc i)))
    (silent (LivelinessLost status))
looks kept i k k' status roster peer s at lt tells enters =
    let count = s.writers.count in
    let known : writer_refusal peer.part (suc i) ≡ None =
    ap (λ (b : Bool). if not b then Some BadParameter else None)
    (there_is peer.part.rtps.writers i (omega (arith, lt, count))) in
    let told : status ≡ liveliness_lost_status (own_writer peer.part (suc i)).lease
    (own_writer peer.part (suc i)).written =
    tells (own_writer peer.part (suc i)) (peer.known.answered (suc i)) (s.writers.each i k at) in (
      entered_at peer (suc i) LookedAt,
      record {
        same_number = refl;
        knows = refl;
        step = (
          record {
            answers =
                answered_as _ (LivelinessLost (liveliness_lost_at (own_writer peer.part (suc i)))) peer.part.dds
                peer.part _ known (ap LivelinessLost told);
            rtps = refl;
          },
          refl,
        );
        sent = λ p x m h.
            absurd (omega (arith, m.1));
      },
      own_writer_stepped kept i k k' LookedAt roster peer s at enters
          (tellable_entered peer (suc i) LookedAt s.tellable tt),
    )

-- the answer to a call is that to a change of the writer, which the call makes

pub record MakesChange (part : Part) (c : Call) (writer : ℕ) (change : Change) : Type 0 where
  pub answers : (reply : Reply) (dds : Dds)
      → IsDoneUnless (change_refusal part writer change) reply part.dds part.dds dds
      → Answers no_filters part c reply dds
  pub enters : effect_of part c Done ≡ writes writer (Changed change)

done_as : (a b : Option Code) (part : Part) (reply : Reply) (dds : Dds) → a ≡ b
    → IsDoneUnless b reply part.dds part.dds dds → IsDoneUnless a reply part.dds part.dds dds
done_as a b part reply dds e h = subst (λ (o : Option Code). IsDoneUnless o reply part.dds part.dds dds) (sym e) h

first_true : (b : Bool) (rest : Option Code) → b ≡ true → (if not b then Some BadParameter else rest) ≡ rest
first_true true rest h = refl
first_true false rest h = absurd cc

both_good : (a b : Bool) (rest : Option Code) → a ≡ true → b ≡ false
    → (if not a || b then Some BadParameter else rest) ≡ rest
both_good true true rest h k = absurd cc
both_good true false rest h k = refl
both_good false b rest h k = absurd cc

pub write_makes : (part : Part) (w : ℕ) (key : Key) (value : List ℕ) → has_element part.rtps.writers w ≡ true
    → length value ≤ (own_writer part w).max_value → MakesChange part (call.Write w key value) w (change_made part w kind.Write key value)
write_makes part w key value known short = record {
  answers =
      λ reply dds h. done_as (write_refusal part w key value)
      (change_refusal part w (change_made part w kind.Write key value)) part reply dds
      (both_good (has_element part.rtps.writers w) (nat_lt (own_writer part w).max_value (length value)) _ known
      (grind (arith, nat_tests))) h;
  enters = refl;
}

pub dispose_makes : (part : Part) (w : ℕ) (key : Key) → has_element part.rtps.writers w ≡ true
    → MakesChange part (call.Dispose w key) w (change_made part w kind.Dispose key [])
dispose_makes part w key known = record {
  answers =
      λ reply dds h. done_as (dispose_refusal part w key)
      (change_refusal part w (change_made part w kind.Dispose key [])) part reply dds
      (first_true (has_element part.rtps.writers w) _ known) h;
  enters = refl;
}

pub unregister_makes : (part : Part) (w : ℕ) (key : Key) → has_element part.rtps.writers w ≡ true
    → is_key_registered key (own_writer part w).written ≡ true
    → MakesChange part (call.Unregister w key) w
    (change_made part w (unregister_kind (own_writer part w).autodispose) key [])
unregister_makes part w key known there = record {
  answers =
      λ reply dds h. done_as (unregister_refusal part w key)
      (change_refusal part w (change_made part w (unregister_kind (own_writer part w).autodispose) key [])) part reply dds
      (first_true (has_element part.rtps.writers w) _ known
      ∙ first_there (is_key_registered key (own_writer part w).written) _ there) h;
  enters = refl;
}
  where
    first_there : (b : Bool) (rest : Option Code) → b ≡ true → (if not b then Some PreconditionNotMet else rest) ≡ rest
    first_there true rest h = refl
    first_there false rest h = absurd cc

-- a call that makes a change

pub made_steps : (kept new : PeerKept) (roster : Roster) (peer : Peer) → StandsFor kept roster peer
    → (c : Call) (w : ℕ) (change : Change) (output : Output) → MakesChange peer.part c w change
    → IsMade roster peer w change output new ⊎ IsNotMade roster peer w change output new
    → Follows new roster peer (event.Call c) output
made_steps kept new roster peer s c w change output makes (inr not_made) =
    subst (λ (o : Output). Follows new roster peer (event.Call c) o) (sym not_made.output_is)
    (refused_call new roster peer not_made.stands c not_made.code
    (makes.answers (Refused not_made.code) peer.part.dds (not_made.cause, refl)))
made_steps kept new roster peer s c w change output makes (inl made) =
    let after : Peer = record peer { part = entered peer.part w change } in
    let step : CallStep no_filters peer.part c Done after.part =
    record {
      answers = makes.answers Done peer.part.dds
          (made.accepted, refl);
      rtps = ap (λ (e : Effect). effect peer.part.rtps e) (sym makes.enters);
    } in (
      after,
      record {
        same_number = refl;
        knows =
            subst (λ (r : Reply). peer.known ≡ known_after peer c r) (sym made.reply)
            (knows_still peer c Done (writes w (Changed change)) makes.enters refl);
        step = (subst (λ (r : Reply). CallStep no_filters peer.part c r after.part) (sym made.reply) step, refl);
        sent = made.is_true;
      },
      made.stands,
    )

pub made_sends : (new : PeerKept) (roster : Roster) (peer : Peer) (c : Call) (w : ℕ) (change : Change) (output : Output)
    → MakesChange peer.part c w change → IsMade roster peer w change output new
    ⊎ IsNotMade roster peer w change output new
    → SendsFor roster peer (effect_of peer.part c output.reply) output
made_sends new roster peer c w change output makes (inr not_made) =
    subst (λ (o : Output). SendsFor roster peer (effect_of peer.part c o.reply) o) (sym not_made.output_is)
    (subst (λ (e : Effect). SendsFor roster peer e (silent (Refused not_made.code)))
    (sym (refused_nothing peer.part c not_made.code)) (silent_sends (Refused not_made.code)))
made_sends new roster peer c w change output makes (inl made) =
    subst (λ (r : Reply). SendsFor roster peer (effect_of peer.part c r) output) (sym made.reply)
    (subst (λ (e : Effect). SendsFor roster peer e output) (sym makes.enters) made.sends)

-- what is refused sends nothing
pub refused_sends : (roster : Roster) (peer : Peer) (c : Call) (code : Code)
    → SendsFor roster peer (effect_of peer.part c (Refused code)) (silent (Refused code))
refused_sends roster peer c code =
    subst (λ (e : Effect). SendsFor roster peer e (silent (Refused code))) (sym (refused_nothing peer.part c code))
    (silent_sends (Refused code))

-- a tick

-- a moment that is neither before the peer's nor too late
good_moment : (kept : PeerKept) (roster : Roster) (peer : Peer) → StandsFor kept roster peer → (now : ℕ)
    → kept.moment ≤ now → now < 2 ^ 63 → tick_refusal peer.part now ≡ None
good_moment kept roster peer s now on early =
    let moment = s.moment in
    ap (λ (b : Bool). if b then Some BadParameter else None)
    (neither (nat_lt now peer.part.dds.moment) (nat_le (2 ^ 63) now) (grind (arith, nat_tests))
    (grind (arith, nat_tests)))
  where
    neither : (a b : Bool) → a ≡ false → b ≡ false → (a || b) ≡ false
    neither false b h k = k
    neither true b h k = absurd cc

-- what is so of the names stays so, where those of writers and of readers do
same_peer : (kept : PeerKept) (writers : List WriterKept) (readers : List ReaderKept) (Is : Identity → Type 0)
    → map writer_identity writers ≡ map writer_identity kept.writers
    → map reader_identity readers ≡ map reader_identity kept.readers → Is (identity_of kept)
    → Is (record { prefix = kept.prefix; writers = map writer_identity writers; readers = map reader_identity readers })
same_peer kept writers readers Is ws rs h =
    subst (λ (is : List ReaderIdentity). Is
    (record { prefix = kept.prefix; writers = map writer_identity writers; readers = is })) (sym rs)
    (subst (λ (is : List WriterIdentity). Is
    (record { prefix = kept.prefix; writers = is; readers = map reader_identity kept.readers })) (sym ws) h)

pub ticks : (kept : PeerKept) (writers : List WriterKept) (readers : List ReaderKept) (roster : Roster) (peer : Peer)
    → StandsFor kept roster peer → (now : ℕ) → kept.moment ≤ now → now < 2 ^ 63 → AllTick kept.writers now writers
    → AllExpire kept.readers now readers → (output : Output) → output.reply ≡ Done
    → BeatsOfAll kept.prefix kept.writers output.packets output.unsent
    → Follows (record kept { moment = now; writers = writers; readers = readers }) roster peer (event.Tick now) output
ticks kept writers readers roster peer s now on early all expired output done beats =
    let accepted : tick_refusal peer.part now ≡ None = good_moment kept roster peer s now on early in
    let expire =
    readers_expired now kept.readers readers peer.part.rtps.readers peer.part.dds.readers peer.known expired s.readers
    in
    let asked : ℕ → Bool = was_asked peer.known.answered peer.part in
    let after : Peer = record peer { part = after_tick asked peer.part now; known = asked_no_more peer.known } in (
      after,
      record {
        same_number = refl;
        knows = subst (λ (r : Reply). Knows peer (event.Tick now) r after) (sym done) refl;
        step = (
          subst (λ (r : Reply). TicksAsked asked peer.part now r (after_tick asked peer.part now)) (sym done)
              (accepted, refl),
          refl,
        );
        sent = due_true roster peer kept now output.packets output.unsent s accepted beats;
      },
      record {
        is_peer =
            same_peer kept writers readers (λ x. IsPeerOf roster peer.number x)
            (same_names now kept.writers writers all) (expired_names now kept.readers readers expired) s.is_peer;
        knows =
            same_peer kept writers readers (λ x. KnowsNames roster peer.number x kept.names)
            (same_names now kept.writers writers all) (expired_names now kept.readers readers expired) s.knows;
        moment = refl;
        early = early;
        names = s.names;
        watch = s.watch;
        writers =
            writers_ticked now asked kept.writers writers peer.part.rtps.writers peer.known.answered all s.writers
            (λ j. refl);
        readers = record { rows = expire.rows; count = expire.count; each = expire.each };
        tellable = tellable_ticked peer.part asked now s.tellable;
      },
    )

-- one whose deaths can't be counted
pub tick_past_counting : (kept : PeerKept) (code : Code) (roster : Roster) (peer : Peer)
    → StandsFor kept roster peer → (now : ℕ) → kept.moment ≤ now → now < 2 ^ 63
    → (code ≡ Memory) × HasPastCounting kept.readers now
    → Follows kept roster peer (event.Tick now) (silent (Refused code))
tick_past_counting kept code roster peer s now on early past =
    let accepted : tick_refusal peer.part now ≡ None = good_moment kept roster peer s now on early in
    let d = past.1 in
    let within = get-within kept.readers d.index d.reader d.at in
    let count = s.readers.count in
    let over : is_past_counting peer.part now ≡ true =
    peer_past_counting peer.part now d.index (omega (arith, within, count))
    (d.past _ _ _ (s.readers.each d.index d.reader d.at)) in
    let refused : RefusesTick peer.part now code =
    (subst (λ (o : Option Code). Refuses o code) (sym accepted) past.0, λ memory. over) in (
      peer,
      record {
        same_number = refl;
        knows = refl;
        step = ((refused, refl), refl);
        sent = λ p x m h. absurd (omega (arith, m.1));
      },
      s,
    )

pub refused_tick : (kept : PeerKept) (roster : Roster) (peer : Peer) → StandsFor kept roster peer → (now : ℕ)
    → (now < kept.moment) ⊎ (2 ^ 63 ≤ now) → Follows kept roster peer (event.Tick now) (silent (Refused BadParameter))
refused_tick kept roster peer s now bad =
    let moment = s.moment in
    let is_bad : (nat_lt now peer.part.dds.moment || nat_le (2 ^ 63) now) ≡ true =
    ⊎_elim (λ back. first (nat_lt now peer.part.dds.moment) (nat_le (2 ^ 63) now) (grind (arith, nat_tests)))
    (λ late. second (nat_lt now peer.part.dds.moment) (nat_le (2 ^ 63) now) (grind (arith, nat_tests))) bad in
    let is : tick_refusal peer.part now ≡ Some BadParameter =
    ap (λ (b : Bool). if b then Some BadParameter else None) is_bad in (
      peer,
      record {
        same_number = refl;
        knows = refl;
        step = (((subst (λ (o : Option Code). Refuses o BadParameter) (sym is) refl, λ memory. absurd cc), refl), refl);
        sent = λ p x m h. absurd (omega (arith, m.1));
      },
      s,
    )
  where
    first : (a b : Bool) → a ≡ true → (a || b) ≡ true
    first true b h = refl
    first false b h = absurd cc

    second : (a b : Bool) → b ≡ true → (a || b) ≡ true
    second true b h = refl
    second false b h = h

-- the calls, by the index of their writer

pub number_is : (writer i : ℕ) → writer ≡ i + 1 → suc i ≡ writer
number_is writer i is = let index : i + 1 ≡ suc i = omega arith in sym (is ∙ index)

-- the end of a number is there
pub known_end : {X : Type 0} (ends : List X) (number i count : ℕ) → number ≡ i + 1 → i < count → length ends ≡ count
    → has_element ends number ≡ true
known_end ends number i count is lt same =
    subst (λ (n : ℕ). has_element ends n ≡ true) (number_is number i is) (there_is ends i (omega (arith, lt, same)))

known_writer : (kept : PeerKept) (roster : Roster) (peer : Peer) → StandsFor kept roster peer → (writer i : ℕ)
    → writer ≡ i + 1 → i < length kept.writers → has_element peer.part.rtps.writers writer ≡ true
known_writer kept roster peer s writer i is lt =
    known_end peer.part.rtps.writers writer i (length kept.writers) is lt s.writers.count

pub register_at : (kept : PeerKept) (writer i : ℕ) (k k' : WriterKept) (key : Key) (roster : Roster) (peer : Peer)
    → StandsFor kept roster peer → writer ≡ i + 1 → slice_get kept.writers i ≡ Some k → i < length kept.writers
    → Enters k (Registered key) k'
    → Follows (with_writer kept i k') roster peer (event.Call (call.Register writer key)) (silent Done)
register_at kept writer i k k' key roster peer s is at lt enters =
    subst (λ (n : ℕ). Follows (with_writer kept i k') roster peer (event.Call (call.Register n key)) (silent Done))
    (number_is writer i is) (registers kept i k k' key roster peer s at lt enters)

-- one that finds no memory, where the instance is not registered yet
pub unregistrable_at : (kept : PeerKept) (writer i : ℕ) (k k' : WriterKept) (key : Key) (code : Code)
    (roster : Roster) (peer : Peer) → StandsFor kept roster peer → writer ≡ i + 1 → slice_get kept.writers i ≡ Some k
    → i < length kept.writers → code ≡ Memory
    → ((w : Writer) (answered : Endpoint → Contact) → WriterStands k w answered
    → is_key_registered key w.written ≡ false) → k' ≡ k
    → Follows (with_writer kept i k') roster peer (event.Call (call.Register writer key)) (silent (Refused code))
unregistrable_at kept writer i k k' key code roster peer s is at lt memory none same =
    let answered = peer.known.answered (suc i) in
    let unknown : is_key_registered key (own_writer peer.part writer).written ≡ false =
    subst (λ (n : ℕ). is_key_registered key (own_writer peer.part n).written ≡ false) (number_is writer i is)
    (none (own_writer peer.part (suc i)) answered (s.writers.each i k at)) in
    subst (λ (x : PeerKept). Follows x roster peer (event.Call (call.Register writer key)) (silent (Refused code)))
    (sym (unchanged_with kept i k k' at same))
    (refused_call kept roster peer s (call.Register writer key) code
    (register_memory peer.part writer key code (known_writer kept roster peer s writer i is lt) memory unknown))

-- so it is of the writer of a number
pub looks_at : (kept : PeerKept) (writer i : ℕ) (k k' : WriterKept) (status : LivelinessLostStatus) (roster : Roster)
    (peer : Peer) → StandsFor kept roster peer → writer ≡ i + 1 → slice_get kept.writers i ≡ Some k
    → i < length kept.writers
    → ((w : Writer) (answered : Endpoint → Contact) → WriterStands k w answered
    → status ≡ liveliness_lost_status w.lease w.written) → Enters k LookedAt k'
    → Follows (with_writer kept i k') roster peer (event.Call (call.GetLivelinessLost writer))
    (silent (LivelinessLost status))
looks_at kept writer i k k' status roster peer s is at lt tells enters =
    subst (λ (n : ℕ). Follows (with_writer kept i k') roster peer (event.Call (call.GetLivelinessLost n))
    (silent (LivelinessLost status))) (number_is writer i is)
    (looks kept i k k' status roster peer s at lt tells enters)

-- an instance that the writer of this index has not registered
pub unregistered_at : (kept : PeerKept) (writer i : ℕ) (k : WriterKept) (key : Key) (roster : Roster) (peer : Peer)
    → StandsFor kept roster peer → writer ≡ i + 1 → i < length kept.writers → slice_get kept.writers i ≡ Some k
    → ((w : Writer) (answered : Endpoint → Contact) → WriterStands k w answered
    → is_key_registered key w.written ≡ false)
    → Follows kept roster peer (event.Call (call.Unregister writer key)) (silent (Refused PreconditionNotMet))
unregistered_at kept writer i k key roster peer s is lt at none =
    let answered = peer.known.answered (suc i) in
    let unknown : is_key_registered key (own_writer peer.part writer).written ≡ false =
    subst (λ (n : ℕ). is_key_registered key (own_writer peer.part n).written ≡ false) (number_is writer i is)
    (none (own_writer peer.part (suc i)) answered (s.writers.each i k at)) in
    refused_call kept roster peer s (call.Unregister writer key) PreconditionNotMet
    (unregistered peer.part writer key (known_writer kept roster peer s writer i is lt) unknown)

-- how long the values of the writer of this index may be
most_at : (kept : PeerKept) (writer i : ℕ) (k : WriterKept) (roster : Roster) (peer : Peer)
    → StandsFor kept roster peer → writer ≡ i + 1 → slice_get kept.writers i ≡ Some k
    → (own_writer peer.part writer).max_value ≡ k.max_value
most_at kept writer i k roster peer s is at =
    ap (λ (n : ℕ). (own_writer peer.part n).max_value) (sym (number_is writer i is)) ∙ (s.writers.each i k at).values

-- a value that is too long for it
pub long_at : (kept : PeerKept) (writer i : ℕ) (k : WriterKept) (key : Key) (value : List ℕ) (roster : Roster)
    (peer : Peer) → StandsFor kept roster peer → writer ≡ i + 1 → slice_get kept.writers i ≡ Some k
    → (k.max_value < length value) ⊎ (65000 < length value)
    → Follows kept roster peer (event.Call (call.Write writer key value)) (silent (Refused BadParameter))
long_at kept writer i k key value roster peer s is at long =
    let most = most_at kept writer i k roster peer s is at in
    let limited : k.max_value ≤ 65000 =
    s.is_peer.limited i (writer_identity k) (map-get writer_identity kept.writers i k at) in
    let over : k.max_value < length value = ⊎_elim (λ h. h) (λ h. omega (arith, h, limited)) long in
    refused_call kept roster peer s (call.Write writer key value) BadParameter
    (long_write peer.part writer key value (omega (arith, most, over)))

-- what a call of a writer makes, where it is one of the peer's
pub write_at : (kept : PeerKept) (writer i : ℕ) (k : WriterKept) (key : Key) (value : List ℕ) (roster : Roster)
    (peer : Peer) → StandsFor kept roster peer → writer ≡ i + 1 → i < length kept.writers
    → slice_get kept.writers i ≡ Some k → IsShort k.max_value value
    → MakesChange peer.part (call.Write writer key value) (i + 1)
    (change_made peer.part (i + 1) kind.Write key value)
write_at kept writer i k key value roster peer s is lt at short =
    let most = most_at kept writer i k roster peer s is at in
    let within = short.0 in
    subst (λ (n : ℕ). MakesChange peer.part (call.Write writer key value) n
    (change_made peer.part n kind.Write key value)) is
    (write_makes peer.part writer key value (known_writer kept roster peer s writer i is lt)
    (omega (arith, most, within)))

pub dispose_at : (kept : PeerKept) (writer i : ℕ) (key : Key) (roster : Roster) (peer : Peer)
    → StandsFor kept roster peer → writer ≡ i + 1 → i < length kept.writers
    → MakesChange peer.part (call.Dispose writer key) (i + 1)
    (change_made peer.part (i + 1) kind.Dispose key [])
dispose_at kept writer i key roster peer s is lt =
    subst (λ (n : ℕ). MakesChange peer.part (call.Dispose writer key) n
    (change_made peer.part n kind.Dispose key [])) is
    (dispose_makes peer.part writer key (known_writer kept roster peer s writer i is lt))

pub unregister_at : (kept : PeerKept) (writer i : ℕ) (k : WriterKept) (key : Key) (made : ChangeKind) (roster : Roster)
    (peer : Peer) → StandsFor kept roster peer → writer ≡ i + 1 → i < length kept.writers
    → slice_get kept.writers i ≡ Some k
    → ((w : Writer) (answered : Endpoint → Contact) → WriterStands k w answered
    → is_key_registered key w.written ≡ true)
    → ((w : Writer) (answered : Endpoint → Contact) → WriterStands k w answered
    → made ≡ unregister_kind w.autodispose)
    → MakesChange peer.part (call.Unregister writer key) (i + 1) (change_made peer.part (i + 1) made key [])
unregister_at kept writer i k key made roster peer s is lt at there kind_is =
    let w : Writer = own_writer peer.part (suc i) in
    let answered = peer.known.answered (suc i) in
    let ws : WriterStands k w answered = s.writers.each i k at in
    let number = number_is writer i is in
    let registered : is_key_registered key (own_writer peer.part writer).written ≡ true =
    subst (λ (n : ℕ). is_key_registered key (own_writer peer.part n).written ≡ true) number (there w answered ws) in
    let kinds : unregister_kind (own_writer peer.part writer).autodispose ≡ made =
    subst (λ (n : ℕ). unregister_kind (own_writer peer.part n).autodispose ≡ made) number
    (sym (kind_is w answered ws)) in
    subst (λ (n : ℕ). MakesChange peer.part (call.Unregister writer key) n
    (change_made peer.part n made key [])) is
    (subst (λ (x : ChangeKind). MakesChange peer.part (call.Unregister writer key) writer
    (change_made peer.part writer x key [])) kinds
    (unregister_makes peer.part writer key (known_writer kept roster peer s writer i is lt) registered))
