-- What the conditions of a peer tell, and accesses by them.
use Rattle.std.proofs.Common.{◌≡◌, ℕ, Bool, true, false, cond, ◌||◌, ◌==◌, List, [], ◌∷◌, Option, Some, None, length, refl, ap, sym, ◌∙◌, subst, inl, inr, arith}
use Rattle.std.specs.Prelude.{filter}
use Rattle.std.specs.List.{list_any}
use Rattle.std.proofs.lemmas.Bool.Decides.{nat_tests}
use Rattle.dds_base.specs.declared.code.Code.{Code}
use Rattle.dds_base.specs.declared.code.Code.TheVariants.{Memory, Timeout}
use Rattle.dds_protocol.specs.Roster.{Roster}
use Rattle.dds_base.specs.declared.happening.Happening.{Happening}
use Rattle.dds_base.specs.declared.happening.Happening.TheVariants.{Read as HasRead, Took}
use Rattle.dds_base.specs.declared.happening.SamplePosition.{SamplePosition}
use Rattle.dds_base.specs.declared.selection.Scope.{Scope}
use Rattle.dds_base.specs.declared.selection.Selection.{Selection}
use Rattle.dds_base.specs.Number.{at_number}
use Rattle.dds_conditions.specs.declared.condition.Cond.{Cond}
use Rattle.dds_conditions.specs.Attached.{active_of}
use Rattle.dds_conditions.specs.Watched.{Watched, conditions_of, is_timed_out, use_refusal, with_deadline}
use Rattle.dds_machine.specs.declared.call.Call.TheVariants as call
use Rattle.dds_protocol.specs.declared.event.Event.TheVariants as event
use Rattle.dds_machine.specs.declared.reply.Reply.{Reply}
use Rattle.dds_machine.specs.declared.reply.Reply.TheVariants.{Active, Refused, Waiting}
use Rattle.dds_machine.specs.Calls.{AnswersByCondition, AnswersLook, IsAnsweredWatching, IsAnsweredInMemory}
use Rattle.dds_machine.specs.Part.{Part, Dds}
use Rattle.dds_protocol.specs.Peer.{Peer}
use Rattle.dds_machine.specs.Watching.{Test, Tests, condition_refusal, condition_selection, condition_test, trigger_value}
use Rattle.dds_cache.specs.declared.access_kind.AccessKind.{AccessKind}
use Rattle.dds_cache.specs.declared.access_kind.AccessKind.TheVariants.{Read as Reading, Take as Taking}
use Rattle.dds_core.specs.Accesses.{condition_call}
use Rattle.dds_core.specs.Kept.{PeerKept}
use Rattle.dds_core.specs.Standing.{StandsFor}
use Rattle.dds_core.proofs.CallSteps.{FollowsBy, unchanging_call}
use Rattle.dds_core.proofs.Taking.{silent}
use Rattle.dds_core.proofs.Watched.{watched_call}

-- an access by a condition against which there is a cause is refused
not_by_condition : (entry : List SamplePosition → Happening) (refusal : Option Code) (test : Test) (part : Part)
    (reader : ℕ) (selection : Selection) (code : Code)
    → refusal ≡ Some code → AnswersByCondition entry refusal test part reader selection (Refused code) part.dds
not_by_condition entry refusal test part reader selection code some =
    subst (λ (o : Option Code). AnswersByCondition entry o test part reader selection (Refused code) part.dds)
    (sym some) (refl, refl)

pub not_accessed_by : {tests : Tests} (kind : AccessKind) (kept : PeerKept) (roster : Roster) (peer : Peer)
    → StandsFor kept roster peer → (reader : ℕ) (scope : Scope) (condition : ℕ) (code : Code)
    → condition_refusal peer.part reader scope condition ≡ Some code
    → FollowsBy tests kept roster peer (event.Call (condition_call kind reader scope condition)) (silent (Refused code))
not_accessed_by {tests} Reading kept roster peer s reader scope condition code some =
    unchanging_call kept roster peer s (call.ReadByCondition reader scope condition) (Refused code) refl
    (not_by_condition HasRead _ (condition_test tests peer.part condition) peer.part reader
    (condition_selection peer.part scope condition) code some)
not_accessed_by {tests} Taking kept roster peer s reader scope condition code some =
    unchanging_call kept roster peer s (call.TakeByCondition reader scope condition) (Refused code) refl
    (not_by_condition Took _ (condition_test tests peer.part condition) peer.part reader
    (condition_selection peer.part scope condition) code some)

-- ---- a look at a WaitSet

several : (c : Cond) (cs : List Cond) → (length (c ∷ cs) == 0) ≡ false
several c cs = grind (arith, nat_tests)

-- a list that has no element, as is told
pub is_nil : (cs active : List Cond) (told : Bool) → cs ≡ active → told ≡ (length cs == 0) → told ≡ true → active ≡ []
is_nil [] active told same is e = sym same
is_nil (c ∷ cs) active told same is e = absurd (let clash : true ≡ false = sym e ∙ (is ∙ several c cs) in cc)

-- and one that has some
pub not_nil : (cs active : List Cond) (told : Bool) → cs ≡ active → told ≡ (length cs == 0) → told ≡ false
    → active ≡ [] → ⊥
not_nil cs active told same is e nil =
    let clash : true ≡ false =
    sym (ap (λ (xs : List Cond). length xs == 0) (same ∙ nil)) ∙ (sym is ∙ e) in cc

filter_some : (b : Bool) (c : Cond) (rest : List Cond) (any : Bool) → (any ≡ true → rest ≡ [] → ⊥) → (b || any) ≡ true
    → cond b (c ∷ rest) rest ≡ [] → ⊥
filter_some true c rest any then is nil = absurd cc
filter_some false c rest any then is nil = then is nil

-- some are active where a trigger value is true
pub some_active : (trigger : Cond → Bool) (cs : List Cond) → list_any trigger cs ≡ true → active_of trigger cs ≡ [] → ⊥
some_active trigger [] is nil = absurd cc
some_active trigger (c ∷ cs) is nil =
    filter_some (trigger c) c (filter trigger cs) (list_any trigger cs) (some_active trigger cs) is nil

-- the refusal of the WaitSet, where the part is that of a state that stands
abbrev used_by : Watched → ℕ → Option Code
used_by w wait_set = use_refusal (at_number w.wait_sets wait_set)

look_goes_on : (active : List Cond) (timed_out : Bool) (part : Part) (wait_set : ℕ) → active ≡ [] → timed_out ≡ false
    → used_by part.dds.watch wait_set ≡ None
    → AnswersLook active timed_out part wait_set Waiting part.dds
look_goes_on active timed_out part wait_set none early used =
    subst (λ (cs : List Cond). AnswersLook cs timed_out part wait_set Waiting part.dds) (sym none)
    (subst (λ (b : Bool). AnswersLook [] b part wait_set Waiting part.dds) (sym early)
    (subst (λ (o : Option Code). IsAnsweredWatching o Waiting part.dds.watch part Waiting part.dds) (sym used) (refl, refl)))

look_times_out : (active : List Cond) (timed_out : Bool) (part : Part) (wait_set : ℕ) (new : Watched) → active ≡ []
    → timed_out ≡ true → used_by part.dds.watch wait_set ≡ None
    → new ≡ with_deadline part.dds.watch wait_set None
    → AnswersLook active timed_out part wait_set (Refused Timeout) (record part.dds { watch = new })
look_times_out active timed_out part wait_set new none late used ended =
    subst (λ (cs : List Cond). AnswersLook cs timed_out part wait_set (Refused Timeout)
    (record part.dds { watch = new })) (sym none)
    (subst (λ (b : Bool). AnswersLook [] b part wait_set (Refused Timeout) (record part.dds { watch = new })) (sym late)
    (subst (λ (o : Option Code). IsAnsweredWatching o (Refused Timeout) (with_deadline part.dds.watch wait_set None) part
    (Refused Timeout) (record part.dds { watch = new })) (sym used)
    (refl, ap (λ (w : Watched). record part.dds { watch = w }) ended)))

look_is_active : (active : List Cond) (timed_out : Bool) (part : Part) (wait_set : ℕ) (reply : Reply) (dds : Dds)
    → (active ≡ [] → ⊥)
    → IsAnsweredInMemory true (used_by part.dds.watch wait_set) (Active active)
    (with_deadline part.dds.watch wait_set None) part reply dds
    → AnswersLook active timed_out part wait_set reply dds
look_is_active [] timed_out part wait_set reply dds some is = absurd (some refl)
look_is_active (c ∷ cs) timed_out part wait_set reply dds some is = is

look_is_refused : (active : List Cond) (timed_out : Bool) (part : Part) (wait_set : ℕ) (code : Code)
    → used_by part.dds.watch wait_set ≡ Some code
    → AnswersLook active timed_out part wait_set (Refused code) part.dds
look_is_refused [] true part wait_set code some =
    subst (λ (o : Option Code). IsAnsweredWatching o (Refused Timeout) (with_deadline part.dds.watch wait_set None) part
    (Refused code) part.dds) (sym some) (refl, refl)
look_is_refused [] false part wait_set code some =
    subst (λ (o : Option Code). IsAnsweredWatching o Waiting part.dds.watch part (Refused code) part.dds) (sym some)
    (refl, refl)
look_is_refused (c ∷ cs) timed_out part wait_set code some =
    inl (subst (λ (o : Option Code). IsAnsweredWatching o (Active (c ∷ cs)) (with_deadline part.dds.watch wait_set None) part
    (Refused code) part.dds) (sym some) (refl, refl))

-- the wait goes on
pub waits_on : {tests : Tests} (kept : PeerKept) (roster : Roster) (peer : Peer) → StandsFor kept roster peer
    → (wait_set : ℕ) (active : List Cond)
    → active ≡ active_of (trigger_value tests peer.part) (conditions_of peer.part.dds.watch wait_set) → active ≡ []
    → is_timed_out (at_number kept.watch.wait_sets wait_set) kept.moment ≡ false → used_by kept.watch wait_set ≡ None
    → FollowsBy tests kept roster peer (event.Call (call.WaitLook wait_set)) (silent Waiting)
waits_on {tests} kept roster peer s wait_set active is none early used =
    unchanging_call kept roster peer s (call.WaitLook wait_set) Waiting refl
    (look_goes_on _ _ peer.part wait_set (sym is ∙ none)
    (ap (λ (w : Watched). is_timed_out (at_number w.wait_sets wait_set) peer.part.dds.moment) s.watch
    ∙ (ap (λ (m : ℕ). is_timed_out (at_number kept.watch.wait_sets wait_set) m) s.moment ∙ early))
    (ap (λ (w : Watched). used_by w wait_set) s.watch ∙ used))

-- it ends at its deadline
pub times_out : {tests : Tests} (kept : PeerKept) (new : Watched) (roster : Roster) (peer : Peer)
    → StandsFor kept roster peer → (wait_set : ℕ) (active : List Cond)
    → active ≡ active_of (trigger_value tests peer.part) (conditions_of peer.part.dds.watch wait_set) → active ≡ []
    → is_timed_out (at_number kept.watch.wait_sets wait_set) kept.moment ≡ true → used_by kept.watch wait_set ≡ None
    → new ≡ with_deadline kept.watch wait_set None
    → FollowsBy tests (record kept { watch = new }) roster peer (event.Call (call.WaitLook wait_set))
    (silent (Refused Timeout))
times_out {tests} kept new roster peer s wait_set active is none late used ended =
    watched_call kept new roster peer s (call.WaitLook wait_set) (Refused Timeout) refl
    (look_times_out _ _ peer.part wait_set new (sym is ∙ none)
    (ap (λ (w : Watched). is_timed_out (at_number w.wait_sets wait_set) peer.part.dds.moment) s.watch
    ∙ (ap (λ (m : ℕ). is_timed_out (at_number kept.watch.wait_sets wait_set) m) s.moment ∙ late))
    (ap (λ (w : Watched). used_by w wait_set) s.watch ∙ used)
    (ended ∙ ap (λ (w : Watched). with_deadline w wait_set None) (sym s.watch)))

-- nobody waits there
pub no_wait : {tests : Tests} (kept : PeerKept) (roster : Roster) (peer : Peer) → StandsFor kept roster peer
    → (wait_set : ℕ) (code : Code) → used_by kept.watch wait_set ≡ Some code
    → FollowsBy tests kept roster peer (event.Call (call.WaitLook wait_set)) (silent (Refused code))
no_wait {tests} kept roster peer s wait_set code some =
    unchanging_call kept roster peer s (call.WaitLook wait_set) (Refused code) refl
    (look_is_refused _ _ peer.part wait_set code (ap (λ (w : Watched). used_by w wait_set) s.watch ∙ some))

-- it ends with the active conditions
pub is_over_with : {tests : Tests} (kept : PeerKept) (new : Watched) (roster : Roster) (peer : Peer)
    → StandsFor kept roster peer → (wait_set : ℕ) (active : List Cond) → (active ≡ [] → ⊥)
    → active ≡ active_of (trigger_value tests peer.part) (conditions_of peer.part.dds.watch wait_set)
    → used_by kept.watch wait_set ≡ None → new ≡ with_deadline kept.watch wait_set None
    → FollowsBy tests (record kept { watch = new }) roster peer (event.Call (call.WaitLook wait_set))
    (silent (Active active))
is_over_with {tests} kept new roster peer s wait_set active some is used ended =
    watched_call kept new roster peer s (call.WaitLook wait_set) (Active active) refl
    (look_is_active _ _ peer.part wait_set _ _ (λ nil. some (is ∙ nil))
    (inl (subst (λ (o : Option Code). IsAnsweredWatching o
    (Active (active_of (trigger_value tests peer.part) (conditions_of peer.part.dds.watch wait_set)))
    (with_deadline peer.part.dds.watch wait_set None) peer.part (Active active)
    (record peer.part.dds { watch = new }))
    (sym (ap (λ (w : Watched). used_by w wait_set) s.watch ∙ used)) (
      ap (λ (cs : List Cond). Active cs) is,
      ap (λ (w : Watched). record peer.part.dds { watch = w })
          (ended ∙ ap (λ (w : Watched). with_deadline w wait_set None) (sym s.watch)),
    ))))

-- or finds no memory for them
pub lacks_memory : {tests : Tests} (kept : PeerKept) (roster : Roster) (peer : Peer) → StandsFor kept roster peer
    → (wait_set : ℕ) (code : Code) → code ≡ Memory
    → (active_of (trigger_value tests peer.part) (conditions_of peer.part.dds.watch wait_set) ≡ [] → ⊥)
    → used_by kept.watch wait_set ≡ None
    → FollowsBy tests kept roster peer (event.Call (call.WaitLook wait_set)) (silent (Refused code))
lacks_memory {tests} kept roster peer s wait_set code is some used =
    subst (λ (x : Code). FollowsBy tests kept roster peer (event.Call (call.WaitLook wait_set)) (silent (Refused x)))
    (sym is)
    (unchanging_call kept roster peer s (call.WaitLook wait_set) (Refused Memory) refl
    (look_is_active _ _ peer.part wait_set _ _ some
    (inr (ap (λ (w : Watched). used_by w wait_set) s.watch ∙ used, refl, refl, refl))))
