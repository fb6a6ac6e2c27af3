use Rattle.std.specs.Prelude.{vec_capacity, Result, Ok, Err, IfErr, IsErrAnd, length}
use Rattle.dds_base.specs.declared.code.Code.{Code}
use Rattle.dds_base.specs.declared.code.Code.TheVariants.{Memory}
use Rattle.std.proofs.Common.{rules, map, refl, ap, ◌≡◌, ◌≤◌, ℕ, List, [], ◌∷◌, ◌++◌, sym, subst, ◌∙◌, arith}
use Rattle.std.proofs.lemmas.Grind.{common_steps}
use Rattle.std.proofs.lemmas.Iterator.Adapters.{YieldsList-from_vec}
use Rattle.std.proofs.lemmas.Iterator.Consumers.{YieldsList-end}
use Rattle.dds_machine.specs.declared.event.WorldEvent.{WorldEvent}
use Rattle.dds_machine.specs.declared.reply.Reply.{Reply}
use Rattle.dds_world.specs.Holding.{kept_of, tests_in}
use Rattle.dds_world.specs.WorldStanding.{KeepsRules, RunsByRules}
use Rattle.dds_world.proofs.Holding.{same_tests}
use Rattle.dds_world.proofs.RunSteps.{runs_none, runs_of_machine, runs_more}
use Rattle.dds_world.proofs.world.World.run.Goals as goal

-- what holds of an error holds of the result that hands it on
handed-on : {A E : Type 0} (P : E → Type 0) (x : E) (r : Result A E) → IsErrAnd r (λ e. e ≡ x) → P x → IfErr r P
handed-on P x (Ok a) is holds = tt
handed-on P x (Err e) is holds = subst P (sym is) holds

pub returns-in_err-replies-clause-memory : goal.returns-in_err-replies-clause-memory
returns-in_err-replies-clause-memory g c =
    handed-on (λ (code : Code). (code ≡ Memory) × (1 ≤ length c.args.events.items)) c.in_err-replies.field-0.0
    c.from_residual.result c.from_residual.ensures.1 (
      c.in_err-replies.ensures.memory.0,
      subst (λ (n : ℕ). 1 ≤ n) (c.len.ensures ∙ c.args.events.ok.0) c.in_err-replies.ensures.memory.1,
    )

pub loop-event-init : goal.loop-event-init
loop-event-init g c = (
  λ given.
      let tests = tests_in g.F.Filter.meaning c.args.self.now in
      let old = kept_of g.L.Listener.notices g.L.Listener.capacity g.L.Listener.becomes given c.args.self.now in
      subst (λ (rs : List Reply). RunsByRules tests old [] rs old) (sym c.in_ok-replies.ensures.items)
      (runs_none old),
  refl,
  c.in_ok-replies.ensures.len,
  subst (λ (n : ℕ). n ≤ vec_capacity c.in_ok-replies.replies) (c.len.ensures ∙ c.args.events.ok.0)
      c.in_ok-replies.ensures.capacity,
)

pub loop-event-preserved : goal.loop-event-preserved
loop-event-preserved g c =
    let first = c.args.self.now in
    let i = c.loop-event.invariant in
    let items : c.push.new.self.items ≡ c.loop-event.replies.items ++ c.step-reply.result ∷ [] =
    grind (arith, common_steps) in (
      λ given.
          let tests = tests_in g.F.Filter.meaning first in
          let old = kept_of g.L.Listener.notices g.L.Listener.capacity g.L.Listener.becomes given first in
          let mid = kept_of g.L.Listener.notices g.L.Listener.capacity g.L.Listener.becomes given c.loop-event.self in
          let new =
          kept_of g.L.Listener.notices g.L.Listener.capacity g.L.Listener.becomes given c.step-reply.new.self in
          subst (λ (rs : List Reply). RunsByRules tests old (c.loop-event.yielded ++ c.in-Some.event ∷ []) rs new)
          (sym items)
          (runs_more old mid new c.loop-event.yielded c.loop-event.replies.items c.in-Some.event c.step-reply.result
          (grind (arith, common_steps))
          (i.0 given)
          (same_tests g.F.Filter.meaning first c.loop-event.self
          (λ ts. KeepsRules ts mid c.in-Some.event c.step-reply.result new) i.1 (c.step-reply.ensures.rules given))),
      c.step-reply.ensures.filters ∙ i.1,
      grind (arith, common_steps),
      grind (arith, common_steps),
    )

map_same : {X : Type 0} (xs : List X) → map (λ (x : X). x) xs ≡ xs
map_same [] = refl
map_same (x ∷ xs) = ap (λ ys. x ∷ ys) (map_same xs)

pub returns-clause-rules : goal.returns-clause-rules
returns-clause-rules g c = λ given.
    let tests = tests_in g.F.Filter.meaning c.args.self.now in
    let old = kept_of g.L.Listener.notices g.L.Listener.capacity g.L.Listener.becomes given c.args.self.now in
    let new = kept_of g.L.Listener.notices g.L.Listener.capacity g.L.Listener.becomes given c.loop-event.self in
    let end =
    YieldsList-end (YieldsList-from_vec {s = c.into_iter-event-iterator.result} c.args.events.items (search rules)
    (search rules)) c.loop-event.yielded c.loop-event.event-iterator c.loop-event.yielded_by c.next.result
    c.next.new.self c.in-None.is c.next.ensures.steps in
    let all : c.loop-event.yielded ≡ c.args.events.items = sym (map_same c.loop-event.yielded) ∙ end.0 in
    subst (λ (es : List WorldEvent). RunsByRules tests old es c.from_vec.result new) all
    (subst (λ (rs : List Reply). RunsByRules tests old c.loop-event.yielded rs new) (sym c.from_vec.ensures.elements)
    (c.loop-event.invariant.0 given))

pub returns-clause-run : goal.returns-clause-run
returns-clause-run g c = λ given.
    runs_of_machine
    (kept_of g.L.Listener.notices g.L.Listener.capacity g.L.Listener.becomes given c.args.self.now)
    (kept_of g.L.Listener.notices g.L.Listener.capacity g.L.Listener.becomes given c.loop-event.self)
    c.args.events.items c.from_vec.result (returns-clause-rules g c given)
