use Rattle.std.proofs.Common.{◌≡◌, ℕ, ◌+◌, ◌<◌, Bool, List, [], ◌∷◌, ◌++◌, cond, length, take, get_or, refl, ap, sym, ◌∙◌, subst, of_calls}
use Rattle.std.specs.Prelude.{Result, Ok, Err, IfErr}
use Rattle.std.specs.Fn.{CalledAt}
use Rattle.std.specs.List.{list_any}
use Rattle.std.proofs.lemmas.Fn.{called_at}
use Rattle.std.proofs.lemmas.List.{append-nil, take_all}
use Rattle.std.proofs.lemmas.List.Folds.{list_any_at}
use Rattle.std.proofs.lemmas.List.Elements.{filter_more}
use Rattle.dds_base.specs.declared.entity.Entity.TheVariants.{Participant}
use Rattle.dds_conditions.specs.declared.condition.Cond.{Cond}
use Rattle.dds_conditions.specs.declared.condition.Cond.TheVariants.{Status}
use Rattle.dds_conditions.specs.Attached.{active_of}
use Rattle.dds_conditions.proofs.wait_set.WaitSet.active.Goals as goal
use Rattle.dds_conditions.proofs.wait_set.WaitSet.active.Goals.{then-is_true+in_ok-push, else-is_true}

-- the one that is asked next is found, if it is true
found : (trigger : Cond → Bool) (cs : List Cond) (i : ℕ) (d : Cond) (active : List Cond) (answer : Bool)
    → i < length cs → active ≡ active_of trigger (take i cs) → answer ≡ trigger (get_or cs i d)
    → active ++ cond answer (get_or cs i d ∷ []) [] ≡ active_of trigger (take (i + 1) cs)
found trigger cs i d active answer within are is =
    ap (λ (xs : List Cond). xs ++ cond answer (get_or cs i d ∷ []) []) are
    ∙ (ap (λ (b : Bool). active_of trigger (take i cs) ++ cond b (get_or cs i d ∷ []) []) is
    ∙ sym (filter_more trigger cs i d within))

refused : {X E : Type 0} (r : Result X E) (P : Type 0) → P → IfErr r (λ e. P)
refused (Ok x) P p = tt
refused (Err e) P p = p

pub loop-condition-preserved : goal.loop-condition-preserved
loop-condition-preserved g c = (
  search of_calls,
  λ trigger answers.
      let cs = c.deref-condition-items.result.now in
      let i = c.loop-condition.condition-index in
      let k : Cond = get_or cs i (Status Participant) in
      let active = c.loop-condition.active.items in
      let answer = c.is_true.result in
      let so_far = c.loop-condition.invariant.1 trigger answers in
      let told = answers k answer c.is_true.new.self
      (subst (λ (f : g.row.T.Denot). CalledAt g.T.FnMut f k answer c.is_true.new.self) so_far.1
      (called_at g.T.FnMut c.is_true.ensures refl)) in
      let more = found trigger cs i (Status Participant) active answer c.loop-condition-test.true so_far.0 told.0 in (
        elim c.if-is_true.branch [
          | then-is_true+in_ok-push w ↦
              ap (λ v. v.items) w.active-is
              ∙ (w.in_ok-push.ensures.items
              ∙ (sym (ap (λ (b : Bool). active ++ cond b (k ∷ []) []) w.if-is_true.true) ∙ more))
          | else-is_true w ↦
              ap (λ v. v.items) w.active-is
              ∙ (sym (append-nil active)
              ∙ (sym (ap (λ (b : Bool). active ++ cond b (k ∷ []) []) w.if-is_true.false) ∙ more))
        ],
        told.1,
      ),
)

pub returns-in_err-push-clause-some : goal.returns-in_err-push-clause-some
returns-in_err-push-clause-some g c = λ trigger answers.
    let cs = c.deref-condition-items.result.now in
    let i = c.loop-condition.condition-index in
    let k : Cond = get_or cs i (Status Participant) in
    let so_far = c.loop-condition.invariant.1 trigger answers in
    let told = answers k c.is_true.result c.is_true.new.self
    (subst (λ (f : g.row.T.Denot). CalledAt g.T.FnMut f k c.is_true.result c.is_true.new.self) so_far.1
    (called_at g.T.FnMut c.is_true.ensures refl)) in
    refused c.from_residual.result _
    (ap (list_any trigger) (sym (c.deref-condition-items.ensures.value ∙ c.self.view_is))
    ∙ list_any_at trigger cs i (Status Participant) c.loop-condition-test.true (sym told.0 ∙ c.if-is_true.true))

pub returns-clause-ok : goal.returns-clause-ok
returns-clause-ok g c = λ trigger answers.
    c.from_vec.ensures.elements
    ∙ ((c.loop-condition.invariant.1 trigger answers).0
    ∙ ap (active_of trigger)
    (take_all c.loop-condition.condition-index c.deref-condition-items.result.now c.loop-condition-test.false
    ∙ (c.deref-condition-items.ensures.value ∙ c.self.view_is)))
