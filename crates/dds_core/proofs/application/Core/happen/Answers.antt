use Rattle.std.proofs.Common.{◌≡◌, ◌∙◌, ap, false, sym, subst}
use Rattle.dds_notices.specs.Listeners.{is_any}
use Rattle.dds_conditions.specs.Filtered.{tests_of}
use Rattle.dds_core.specs.declared.application.Core.TheInside.{Inside}
use Rattle.dds_core.specs.Lending.{event_of}
use Rattle.dds_core.specs.Listening.{CoreKept, Steps}
use Rattle.dds_core.specs.Noticing.{MarksPeer}
use Rattle.dds_core.specs.Remembering.{AreMisses}
use Rattle.dds_core.proofs.Ended.{steps_told, steps_untold}
use Rattle.dds_core.proofs.application.Core.happen.Goals as goal
use Rattle.dds_core.proofs.application.Core.happen.Goals.{then-is_told, else-is_told}

-- what a core stands for, of what it has
abbrev kept_of : {F L : Type 0} → Inside F L → CoreKept F L
kept_of inside = record { filtered = inside.filtered; listeners = inside.listeners }

pub returns-then-is_told-2-clause-step : goal.returns-then-is_told-2-clause-step
returns-then-is_told-2-clause-step g c =
    let now : Inside g.row.F.Denot g.row.L.Denot = c.if-is_told.self-inside in
    let same : kept_of now ≡ c.args.self.now = elim c.if-is_told.branch [
      | then-is_told w ↦ ap (λ (i : Inside g.row.F.Denot g.row.L.Denot). kept_of i) w.self-inside-is ∙ c.self.view_is
      | else-is_told w ↦ ap (λ (i : Inside g.row.F.Denot g.row.L.Denot). kept_of i) w.self-inside-is ∙ c.self.view_is
    ] in
    let marks : MarksPeer now.filtered.peer now.marks = elim c.if-is_told.branch [
      | then-is_told w ↦ subst (λ (i : Inside g.row.F.Denot g.row.L.Denot). MarksPeer i.filtered.peer i.marks)
          (sym w.self-inside-is) w.mark.ensures
      | else-is_told w ↦ let not = w.if-is_told.false in let is = c.if-is_told-2.true in absurd cc
    ] in
    subst (λ (k : CoreKept g.row.F.Denot g.row.L.Denot). Steps g.L.Listener.notices g.L.Listener.capacity g.L.Listener.becomes
    (tests_of g.F.Filter.meaning k.filtered.filters) k (event_of c.args.event) c.step-output.result
    (record { filtered = c.end.new.self; listeners = c.end.new.slots }))
    same
    (steps_told g.L.Listener.notices g.L.Listener.capacity g.L.Listener.becomes
    (tests_of g.F.Filter.meaning now.filtered.filters) (kept_of now) (event_of c.args.event) c.step-output.result
    c.step-output.new.self c.end.new.self c.end.new.slots now.marks
    c.step-output.ensures.step marks c.end.ensures.told c.end.ensures.filters)

pub returns-else-is_told-2-clause-step : goal.returns-else-is_told-2-clause-step
returns-else-is_told-2-clause-step g c =
    let now : Inside g.row.F.Denot g.row.L.Denot = c.if-is_told.self-inside in
    let same : kept_of now ≡ c.args.self.now = elim c.if-is_told.branch [
      | then-is_told w ↦ ap (λ (i : Inside g.row.F.Denot g.row.L.Denot). kept_of i) w.self-inside-is ∙ c.self.view_is
      | else-is_told w ↦ ap (λ (i : Inside g.row.F.Denot g.row.L.Denot). kept_of i) w.self-inside-is ∙ c.self.view_is
    ] in
    let untold : is_any now.listeners ≡ false = elim c.if-is_told.branch [
      | then-is_told w ↦ let is = w.if-is_told.true in let not = c.if-is_told-2.false in absurd cc
      | else-is_told w ↦ subst (λ (i : Inside g.row.F.Denot g.row.L.Denot). is_any i.listeners ≡ false)
          (sym w.self-inside-is) (sym c.if-is_told-2.ensures.listeners)
    ] in
    subst (λ (k : CoreKept g.row.F.Denot g.row.L.Denot). Steps g.L.Listener.notices g.L.Listener.capacity g.L.Listener.becomes
    (tests_of g.F.Filter.meaning k.filtered.filters) k (event_of c.args.event) c.step-output.result
    (record { filtered = c.step-output.new.self; listeners = now.listeners }))
    same
    (steps_untold g.L.Listener.notices g.L.Listener.capacity g.L.Listener.becomes
    (tests_of g.F.Filter.meaning now.filtered.filters) (kept_of now) (event_of c.args.event) c.step-output.result
    c.step-output.new.self c.step-output.ensures.step untold)

pub step-output-requires : goal.step-output-requires
step-output-requires g c =
    let now : Inside g.row.F.Denot g.row.L.Denot = c.if-is_told.self-inside in
    let same : kept_of now ≡ c.args.self.now = elim c.if-is_told.branch [
      | then-is_told w ↦ ap (λ (i : Inside g.row.F.Denot g.row.L.Denot). kept_of i) w.self-inside-is ∙ c.self.view_is
      | else-is_told w ↦ ap (λ (i : Inside g.row.F.Denot g.row.L.Denot). kept_of i) w.self-inside-is ∙ c.self.view_is
    ] in
    record {
      right = subst (λ (k : CoreKept g.row.F.Denot g.row.L.Denot).
          AreMisses (tests_of g.F.Filter.meaning k.filtered.filters) k.filtered.peer c.args.misses.now)
          (sym same) c.requires.right;
    }

pub returns-then-is_told-2-clause-right : goal.returns-then-is_told-2-clause-right
returns-then-is_told-2-clause-right g c =
    let now : Inside g.row.F.Denot g.row.L.Denot = c.if-is_told.self-inside in
    let same : kept_of now ≡ c.args.self.now = elim c.if-is_told.branch [
      | then-is_told w ↦ ap (λ (i : Inside g.row.F.Denot g.row.L.Denot). kept_of i) w.self-inside-is ∙ c.self.view_is
      | else-is_told w ↦ ap (λ (i : Inside g.row.F.Denot g.row.L.Denot). kept_of i) w.self-inside-is ∙ c.self.view_is
    ] in
    subst (λ (k : CoreKept g.row.F.Denot g.row.L.Denot).
    AreMisses (tests_of g.F.Filter.meaning k.filtered.filters) k.filtered.peer c.step-output.new.misses)
    same c.step-output.ensures.right

pub returns-else-is_told-2-clause-right : goal.returns-else-is_told-2-clause-right
returns-else-is_told-2-clause-right g c =
    let now : Inside g.row.F.Denot g.row.L.Denot = c.if-is_told.self-inside in
    let same : kept_of now ≡ c.args.self.now = elim c.if-is_told.branch [
      | then-is_told w ↦ ap (λ (i : Inside g.row.F.Denot g.row.L.Denot). kept_of i) w.self-inside-is ∙ c.self.view_is
      | else-is_told w ↦ ap (λ (i : Inside g.row.F.Denot g.row.L.Denot). kept_of i) w.self-inside-is ∙ c.self.view_is
    ] in
    subst (λ (k : CoreKept g.row.F.Denot g.row.L.Denot).
    AreMisses (tests_of g.F.Filter.meaning k.filtered.filters) k.filtered.peer c.step-output.new.misses)
    same c.step-output.ensures.right
