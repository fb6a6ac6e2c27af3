use Rattle.std.proofs.Common.{◌≢◌, ℕ, ◌+◌, List, [], ◌∷◌, ◌++◌, take, Vec, Global, ap, sym, ◌∙◌, refl, rules}
use Rattle.std.specs.Prelude.{Result, Ok, Err, IfErr}
use Rattle.dds_notices.specs.declared.notice.Notice.{Notice}
use Rattle.dds_notices.proofs.Standings.{some_taken, taken_all, taken_more}
use Rattle.dds_notices.proofs.slot.kept_by.Goals as goal
use Rattle.dds_notices.proofs.slot.kept_by.Goals.{in-Some+in_ok-push, in_default}

pub loop-at-preserved : goal.loop-at-preserved
loop-at-preserved g c =
    let notices : List Notice = g.L.Listener.notices c.args.listener.now in
    elim c.match-held.branch [
      | in-Some+in_ok-push w ↦ ap (λ (v : Vec Notice Global). v.items) w.kept-is ∙ w.in_ok-push.ensures.items
          ∙ ap (λ (ns : List Notice). ns ++ w.in-Some.notice ∷ []) c.loop-at.invariant
          ∙ sym (taken_more notices c.loop-at.at (c.loop-at.at + 1) w.in-Some.notice refl
          (sym c.held.ensures.notice ∙ w.in-Some.is))
      | in_default w ↦ ap (λ (v : Vec Notice Global). v.items) w.kept-is ∙ c.loop-at.invariant
          ∙ sym (taken_all notices c.loop-at.at (c.loop-at.at + 1) refl (sym c.held.ensures.notice ∙ w.in_default.is))
    ]

pub returns-in_err-push-clause-some : goal.returns-in_err-push-clause-some
returns-in_err-push-clause-some g c =
    let notices : List Notice = g.L.Listener.notices c.args.listener.now in
    let capacity : ℕ = g.L.Listener.capacity c.args.listener.now in
    let some : take capacity notices ≢ [] =
    some_taken notices capacity c.loop-at.at c.in-Some.notice (sym c.held.ensures.notice ∙ c.in-Some.is) (search rules) in
    refused c.from_residual.result some
  where
    refused : {T E Q : Type 0} (r : Result T E) → Q → IfErr r (λ (e : E). Q)
    refused (Ok x) q = cc
    refused (Err e) q = q
