-- The calls of what is watched: each changes that alone.
use Rattle.std.proofs.Common.{◌≡◌, Bool, true, false, Option, Some, None, Result, Ok, Err, OnOk, OnErr, IfOk, IfErr, refl, ap, sym, ◌∙◌, subst, arith, inl, inr}
use Rattle.dds_base.specs.declared.code.Code.{Code}
use Rattle.dds_protocol.specs.Roster.{Roster}
use Rattle.dds_base.specs.Refusal.{Refuses}
use Rattle.dds_conditions.specs.Watched.{Watched}
use Rattle.dds_conditions.specs.NoFilters.{no_filters}
use Rattle.dds_machine.specs.declared.call.Call.{Call}
use Rattle.dds_protocol.specs.declared.event.Event.TheVariants as event
use Rattle.dds_machine.specs.declared.reply.Reply.{Reply}
use Rattle.dds_machine.specs.declared.reply.Reply.TheVariants.{Done, Refused}
use Rattle.dds_machine.specs.Calls.{Effect, nothing, effect, effect_of, Answers, IsAnsweredWatching, IsAnsweredInMemory}
use Rattle.dds_machine.specs.Part.{Part, Dds}
use Rattle.dds_protocol.specs.Peer.{Peer}
use Rattle.dds_machine.specs.Watching.{Tests}
use Rattle.dds_core.specs.Kept.{PeerKept}
use Rattle.dds_core.specs.Standing.{StandsFor}
use Rattle.dds_core.specs.Watching.{done_reply}
use Rattle.dds_core.proofs.CallSteps.{Follows, FollowsBy, knows_still}
use Rattle.dds_core.proofs.Taking.{silent, stands_beside}

-- what is kept stands for the state in which this is watched, once it is what is kept of that
pub watches : (kept : PeerKept) (new : Watched) (roster : Roster) (peer : Peer) → StandsFor kept roster peer
    → StandsFor (record kept { watch = new }) roster
    (record peer { part = record peer.part { dds = record peer.part.dds { watch = new } } })
watches kept new roster peer s =
    stands_beside kept new new peer.part.dds.listeners peer.delivered roster peer refl s

-- a call after which this is watched
pub watched_call : {tests : Tests} (kept : PeerKept) (new : Watched) (roster : Roster) (peer : Peer)
    → StandsFor kept roster peer → (c : Call) (reply : Reply)
    → effect_of peer.part c reply ≡ nothing → Answers tests peer.part c reply (record peer.part.dds { watch = new })
    → FollowsBy tests (record kept { watch = new }) roster peer (event.Call c) (silent reply)
watched_call kept new roster peer s c reply none is = (
  record peer { part = record peer.part { dds = record peer.part.dds { watch = new } } },
  record {
    same_number = refl;
    knows = knows_still peer c reply nothing none refl;
    step = (record { answers = is; rtps = ap (λ (e : Effect). effect peer.part.rtps e) (sym none) }, refl);
    sent = λ p x m h. absurd (omega (arith, m.1));
  },
  watches kept new roster peer s,
)

answered_so : (refusal : Option Code) (answer : Reply) (after : Watched) (part : Part) (reply : Reply) (new : Watched)
    → refusal ≡ None → reply ≡ answer → new ≡ after
    → IsAnsweredWatching refusal answer after part reply (record part.dds { watch = new })
answered_so refusal answer after part reply new none is same =
    subst (λ (o : Option Code). IsAnsweredWatching o answer after part reply (record part.dds { watch = new })) (sym none)
    (is, ap (λ (w : Watched). record part.dds { watch = w }) same)

refused_so : (refusal : Option Code) (answer : Reply) (after : Watched) (part : Part) (code : Code) (reply : Reply)
    (new : Watched) → refusal ≡ Some code → reply ≡ Refused code → new ≡ part.dds.watch
    → IsAnsweredWatching refusal answer after part reply (record part.dds { watch = new })
refused_so refusal answer after part code reply new some is same =
    subst (λ (o : Option Code). IsAnsweredWatching o answer after part reply (record part.dds { watch = new })) (sym some)
    (is, ap (λ (w : Watched). record part.dds { watch = w }) same)

-- a call that is done or refused
pub done_call : (refusal : Watched → Option Code) (after : Watched → Watched) (kept : PeerKept) (new : Watched)
    (result : Result (Unit {0}) Code) (reply : Reply) (roster : Roster) (peer : Peer)
    → StandsFor kept roster peer → (c : Call)
    → ((dds : Dds) → IsAnsweredWatching (refusal peer.part.dds.watch) Done (after peer.part.dds.watch) peer.part reply dds
    → Answers no_filters peer.part c reply dds)
    → effect_of peer.part c reply ≡ nothing → reply ≡ done_reply result
    → OnOk result (new ≡ after kept.watch) → OnOk result (refusal kept.watch ≡ None)
    → IfErr result (λ code. refusal kept.watch ≡ Some code) → OnErr result (new ≡ kept.watch)
    → Follows (record kept { watch = new }) roster peer (event.Call c) (silent reply)
done_call refusal after kept new (Ok done) reply roster peer s c answers none is ok taken refused err =
    watched_call kept new roster peer s c reply none
    (answers _ (answered_so _ _ _ peer.part reply new (ap refusal s.watch ∙ taken) is (ok ∙ ap after (sym s.watch))))
done_call refusal after kept new (Err code) reply roster peer s c answers none is ok taken refused err =
    watched_call kept new roster peer s c reply none
    (answers _ (refused_so _ _ _ peer.part code reply new (ap refusal s.watch ∙ refused) is (err ∙ sym s.watch)))

-- it is refused, for a cause or for want of memory
wanting : (needs : Bool) (refusal : Option Code) (answer : Reply) (after : Watched) (part : Part) (code : Code)
    (reply : Reply) (new : Watched) → Refuses refusal code → (needs ≡ false → refusal ≡ Some code)
    → reply ≡ Refused code → new ≡ part.dds.watch
    → IsAnsweredInMemory needs refusal answer after part reply (record part.dds { watch = new })
wanting needs (Some cause) answer after part code reply new is certain told same =
    inl (refused_so (Some cause) answer after part cause reply new refl (told
    ∙ ap (λ (x : Code). Refused x) is) same)
wanting true None answer after part code reply new is certain told same =
    inr (
      refl,
      refl,
      told
          ∙ ap (λ (x : Code). Refused x) is,
      ap (λ (w : Watched). record part.dds { watch = w }) same,
    )
wanting false None answer after part code reply new is certain told same = let some = certain refl in absurd cc

-- one that may want memory too
pub done_in_memory : (needs : Watched → Bool) (refusal : Watched → Option Code) (after : Watched → Watched)
    (kept : PeerKept) (new : Watched) (result : Result (Unit {0}) Code) (reply : Reply) (roster : Roster) (peer : Peer)
    → StandsFor kept roster peer → (c : Call)
    → ((dds : Dds) → IsAnsweredInMemory (needs peer.part.dds.watch) (refusal peer.part.dds.watch) Done
    (after peer.part.dds.watch) peer.part reply dds → Answers no_filters peer.part c reply dds)
    → effect_of peer.part c reply ≡ nothing → reply ≡ done_reply result
    → OnOk result (new ≡ after kept.watch) → OnOk result (refusal kept.watch ≡ None)
    → IfErr result (λ code. Refuses (refusal kept.watch) code)
    → (needs kept.watch ≡ false → IfErr result (λ code. refusal kept.watch ≡ Some code))
    → OnErr result (new ≡ kept.watch)
    → Follows (record kept { watch = new }) roster peer (event.Call c) (silent reply)
done_in_memory needs refusal after kept new
    (Ok done) reply roster peer s c answers none is ok taken refused certain err =
    watched_call kept new roster peer s c reply none
    (answers _
    (inl (answered_so _ _ _ peer.part reply new (ap refusal s.watch ∙ taken) is (ok ∙ ap after (sym s.watch)))))
done_in_memory needs refusal after kept new
    (Err code) reply roster peer s c answers none is ok taken refused certain err =
    watched_call kept new roster peer s c reply none
    (answers _ (wanting (needs peer.part.dds.watch) (refusal peer.part.dds.watch) _ _ peer.part code reply new
    (subst (λ (w : Watched). Refuses (refusal w) code) (sym s.watch) refused)
    (λ needless. ap refusal s.watch ∙ certain (ap needs (sym s.watch) ∙ needless)) is (err ∙ sym s.watch)))

-- one that gives something, which it tells, and may want memory
pub given_in_memory : {X : Type 0} (tells : X → Reply) (told : Result X Code → Reply)
    → ((x : X) → told (Ok x) ≡ tells x) → ((code : Code) → told (Err code) ≡ Refused code)
    → (needs : Watched → Bool) (refusal : Watched → Option Code) (gives : Watched → X) (after : Watched → Watched)
    (kept : PeerKept) (new : Watched) (result : Result X Code) (reply : Reply) (roster : Roster) (peer : Peer)
    → StandsFor kept roster peer → (c : Call)
    → ((dds : Dds) → IsAnsweredInMemory (needs peer.part.dds.watch) (refusal peer.part.dds.watch)
    (tells (gives peer.part.dds.watch)) (after peer.part.dds.watch) peer.part reply dds → Answers no_filters peer.part c reply dds)
    → effect_of peer.part c reply ≡ nothing → reply ≡ told result
    → OnOk result (new ≡ after kept.watch) → IfOk result (λ x. x ≡ gives kept.watch)
    → OnOk result (refusal kept.watch ≡ None) → IfErr result (λ code. Refuses (refusal kept.watch) code)
    → (needs kept.watch ≡ false → IfErr result (λ code. refusal kept.watch ≡ Some code))
    → OnErr result (new ≡ kept.watch)
    → Follows (record kept { watch = new }) roster peer (event.Call c) (silent reply)
given_in_memory tells told on_ok on_err needs refusal gives after kept new
    (Ok x) reply roster peer s c answers none is ok value taken refused certain err =
    watched_call kept new roster peer s c reply none
    (answers _ (inl (answered_so _ _ _ peer.part reply new (ap refusal s.watch ∙ taken)
    (is ∙ (on_ok x ∙ ap tells (value ∙ ap gives (sym s.watch)))) (ok ∙ ap after (sym s.watch)))))
given_in_memory tells told on_ok on_err needs refusal gives after kept new
    (Err code) reply roster peer s c answers none is ok value taken refused certain err =
    watched_call kept new roster peer s c reply none
    (answers _ (wanting (needs peer.part.dds.watch) (refusal peer.part.dds.watch) _ _ peer.part code reply new
    (subst (λ (w : Watched). Refuses (refusal w) code) (sym s.watch) refused)
    (λ needless. ap refusal s.watch ∙ certain (ap needs (sym s.watch) ∙ needless)) (is ∙ on_err code)
    (err ∙ sym s.watch)))

-- a call that tells something, and changes nothing
pub told_call : {tests : Tests} (kept : PeerKept) (roster : Roster) (peer : Peer) → StandsFor kept roster peer
    → (refusal : Option Code) (answer : Reply) (c : Call) (reply : Reply)
    → ((dds : Dds) → IsAnsweredWatching refusal answer peer.part.dds.watch peer.part reply dds
    → Answers tests peer.part c reply dds)
    → effect_of peer.part c reply ≡ nothing → refusal ≡ None → reply ≡ answer
    → FollowsBy tests kept roster peer (event.Call c) (silent reply)
told_call {tests} kept roster peer s refusal answer c reply answers none taken is =
    subst (λ (w : Watched). FollowsBy tests (record kept { watch = w }) roster peer (event.Call c) (silent reply))
    s.watch
    (watched_call kept peer.part.dds.watch roster peer s c reply none
    (answers _ (answered_so refusal answer _ peer.part reply _ taken is refl)))

-- one that is refused
pub not_told : {tests : Tests} (kept : PeerKept) (roster : Roster) (peer : Peer) → StandsFor kept roster peer
    → (refusal : Option Code) (answer : Reply) (after : Watched) (code : Code) (c : Call)
    → ((dds : Dds) → IsAnsweredWatching refusal answer after peer.part (Refused code) dds
    → Answers tests peer.part c (Refused code) dds)
    → effect_of peer.part c (Refused code) ≡ nothing → refusal ≡ Some code
    → FollowsBy tests kept roster peer (event.Call c) (silent (Refused code))
not_told {tests} kept roster peer s refusal answer after code c answers none some =
    subst (λ (w : Watched). FollowsBy tests (record kept { watch = w }) roster peer (event.Call c)
    (silent (Refused code))) s.watch
    (watched_call kept peer.part.dds.watch roster peer s c (Refused code) none
    (answers _ (refused_so refusal answer after peer.part code (Refused code) _ some refl refl)))

-- what is so is so where the result is one or the other
pub on_ok : {X P : Type 0} (result : Result X Code) → P → OnOk result P
on_ok (Ok x) p = p
on_ok (Err code) p = tt

pub on_err : {X P : Type 0} (result : Result X Code) → P → OnErr result P
on_err (Ok x) p = tt
on_err (Err code) p = p
