use Rattle.std.proofs.Common.{ℕ, ◌+◌, Option, refl, ap, sym, subst, ◌∙◌}
use Rattle.dds_base.specs.declared.code.Code.{Code}
use Rattle.dds_base.specs.Refusal.{Refuses}
use Rattle.dds_ends.specs.Standing.{state_of}
use Rattle.dds_ends.proofs.WriterEnds.{stands_there}
use Rattle.dds_ends.proofs.writer_end.WriterEnd.next.Goals as goal

pub returns-in-Some-clause-refused : goal.returns-in-Some-clause-refused
returns-in-Some-clause-refused c = λ w answered s.
    let here = stands_there _ c.args.self.now w answered c.self.view_is s in
    subst (λ (o : Option Code). Refuses o c.in-Some.code)
    (sym c.in-Some.is ∙ c.refusal.ensures.refusal (state_of w answered) here.writer) refl

pub returns-clause-accepted : goal.returns-clause-accepted
returns-clause-accepted c = λ w answered s.
    let here = stands_there _ c.args.self.now w answered c.self.view_is s in (
      sym (c.refusal.ensures.refusal (state_of w answered) here.writer) ∙ c.in_default.is,
      c.new.ensures.number ∙ ap (λ (n : ℕ). n + 1)
          (c.number.ensures.number ∙ c.last.ensures.last (state_of w answered) here.writer),
    )
