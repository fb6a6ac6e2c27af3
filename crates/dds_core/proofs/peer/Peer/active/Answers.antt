use Rattle.std.proofs.Common.{◌≡◌, ℕ, ◌+◌, ◌<◌, ◌≤◌, Bool, true, List, [], ◌∷◌, ◌++◌, cond, length, take, get_or, Result, Ok, Err, IfErr, ap, sym, ◌∙◌}
use Rattle.std.specs.List.{list_any}
use Rattle.std.proofs.lemmas.List.{append-nil, take_all}
use Rattle.std.proofs.lemmas.List.Folds.{list_any_at}
use Rattle.std.proofs.lemmas.List.Elements.{filter_more}
use Rattle.dds_protocol.specs.Roster.{Roster}
use Rattle.dds_base.specs.declared.entity.Entity.TheVariants.{Participant}
use Rattle.dds_conditions.specs.declared.condition.Cond.{Cond}
use Rattle.dds_conditions.specs.declared.condition.Cond.TheVariants.{Status}
use Rattle.dds_conditions.specs.Attached.{active_of}
use Rattle.dds_conditions.specs.Watched.{Watched, conditions_of}
use Rattle.dds_machine.specs.Watching.{Tests, trigger_value}
use Rattle.dds_protocol.specs.Peer.{Peer}
use Rattle.dds_core.specs.Kept.{PeerKept}
use Rattle.dds_core.specs.Standing.{StandsFor}
use Rattle.dds_core.specs.Watching.{AreActive, TellsActive}
use Rattle.dds_core.proofs.peer.Peer.active.Goals as goal
use Rattle.dds_core.proofs.peer.Peer.active.Goals.{then-trigger_of+in_ok-push, else-trigger_of}

-- the one that is asked next is found, if it is true
found : (trigger : Cond → Bool) (cs : List Cond) (i : ℕ) (d : Cond) (active : List Cond) (answer : Bool)
    → i < length cs → active ≡ active_of trigger (take i cs) → answer ≡ trigger (get_or cs i d)
    → active ++ cond answer (get_or cs i d ∷ []) [] ≡ active_of trigger (take (i + 1) cs)
found trigger cs i d active answer within are is =
    ap (λ (xs : List Cond). xs ++ cond answer (get_or cs i d ∷ []) []) are
    ∙ (ap (λ (b : Bool). active_of trigger (take i cs) ++ cond b (get_or cs i d ∷ []) []) is
    ∙ sym (filter_more trigger cs i d within))

if_refused : {X E P : Type 0} (r : Result X E) → P → IfErr r (λ e. P)
if_refused (Ok x) p = tt
if_refused (Err e) p = p

pub loop-condition-preserved : goal.loop-condition-preserved
loop-condition-preserved g c = record {
  right = c.trigger_of.ensures.right;
  found = λ roster peer given.
      let cs = c.attached-condition-items.result.now in
      let i = c.loop-condition.condition-index in
      let k : Cond = get_or cs i (Status Participant) in
      let active = c.loop-condition.active.items in
      let answer = c.trigger_of.result in
      let tests : Tests = g.T.Filters.meaning c.args.filters.now in
      let more = found (trigger_value tests peer.part) cs i (Status Participant) active answer c.loop-condition-test.true
      (c.loop-condition.invariant.found roster peer given) (c.trigger_of.ensures.value roster peer given) in
      elim c.if-trigger_of.branch [
        | then-trigger_of+in_ok-push w ↦
            ap (λ v. v.items) w.active-is
            ∙ (w.in_ok-push.ensures.items
            ∙ (sym (ap (λ (b : Bool). active ++ cond b (k ∷ []) []) w.if-trigger_of.true) ∙ more))
        | else-trigger_of w ↦
            ap (λ v. v.items) w.active-is
            ∙ (sym (append-nil active)
            ∙ (sym (ap (λ (b : Bool). active ++ cond b (k ∷ []) []) w.if-trigger_of.false) ∙ more))
      ];
}

-- so it is of what was answered, whoever stands for it
answered : (tests : Tests) (wait_set : ℕ) (kept : PeerKept) (active cs : List Cond) (i : ℕ)
    → length cs ≤ i → cs ≡ conditions_of kept.watch wait_set
    → ((roster : Roster) (peer : Peer) → StandsFor kept roster peer
    → active ≡ active_of (trigger_value tests peer.part) (take i cs))
    → AreActive tests kept wait_set active
answered tests wait_set kept active cs i past are tells = λ roster peer s.
    tells roster peer s
    ∙ (ap (λ (xs : List Cond). active_of (trigger_value tests peer.part) xs) (take_all i cs past ∙ are)
    ∙ ap (λ (w : Watched). active_of (trigger_value tests peer.part) (conditions_of w wait_set)) (sym s.watch))

-- and of a refusal, that one is true
refused : (tests : Tests) (wait_set : ℕ) (kept : PeerKept) (cs : List Cond) (i : ℕ) (d : Cond)
    → i < length cs → cs ≡ conditions_of kept.watch wait_set
    → ((roster : Roster) (peer : Peer) → StandsFor kept roster peer
    → trigger_value tests peer.part (get_or cs i d) ≡ true)
    → TellsActive tests kept wait_set true
refused tests wait_set kept cs i d within are tells = λ roster peer s.
    sym (ap (λ (w : Watched). list_any (trigger_value tests peer.part) (conditions_of w wait_set)) s.watch
    ∙ (ap (λ (xs : List Cond). list_any (trigger_value tests peer.part) xs) (sym are)
    ∙ list_any_at (trigger_value tests peer.part) cs i d within (tells roster peer s)))

pub returns-in_err-push-clause-some : goal.returns-in_err-push-clause-some
returns-in_err-push-clause-some g c =
    let tests : Tests = g.T.Filters.meaning c.args.filters.now in
    let cs = c.attached-condition-items.result.now in
    if_refused c.from_residual.result
    (refused tests c.args.wait_set c.args.self.now cs c.loop-condition.condition-index (Status Participant)
    c.loop-condition-test.true
    (c.attached-condition-items.ensures.conditions
    ∙ ap (λ (k : PeerKept). conditions_of k.watch c.args.wait_set) c.self.view_is)
    (λ roster peer given. sym (c.trigger_of.ensures.value roster peer given) ∙ c.if-trigger_of.true))

pub returns-clause-ok : goal.returns-clause-ok
returns-clause-ok g c =
    let tests : Tests = g.T.Filters.meaning c.args.filters.now in
    let cs = c.attached-condition-items.result.now in
    answered tests c.args.wait_set c.args.self.now c.from_vec.result cs c.loop-condition.condition-index
    c.loop-condition-test.false
    (c.attached-condition-items.ensures.conditions
    ∙ ap (λ (k : PeerKept). conditions_of k.watch c.args.wait_set) c.self.view_is)
    (λ roster peer given. c.from_vec.ensures.elements ∙ c.loop-condition.invariant.found roster peer given)
