use Rattle.std.proofs.Common.{[], List, subst, sym, ◌∙◌, arith, rules}
use Rattle.std.specs.Prelude.{ℕ}
use Rattle.dds_base.specs.declared.change.ChangeKind.TheVariants as kind
use Rattle.dds_machine.specs.declared.call.Call.TheVariants as call
use Rattle.dds_core.specs.Making.{Makes}
use Rattle.dds_ends.specs.Standing.{IsShort}
use Rattle.dds_core.proofs.CallSteps.{dispose_at, made_steps, made_sends}
use Rattle.dds_core.proofs.peer.Peer.dispose.Goals as goal

-- there is no value, so it is short
pub make-requires-clause-short : goal.make-requires-clause-short
make-requires-clause-short c = λ k at.
    subst (λ (v : List ℕ). IsShort k.max_value v) (sym (c.from_vec-none.ensures.octets ∙ c.new.ensures.items))
    (omega arith, omega arith)

-- the change that was made has no value
made : (c : goal.After-make)
    → Makes c.args.self.now c.in-Some.index kind.Dispose c.args.key [] c.make.result c.make.new.self
made c =
    subst (λ (v : List ℕ). Makes c.args.self.now c.in-Some.index kind.Dispose c.args.key v c.make.result
    c.make.new.self) (c.from_vec-none.ensures.octets ∙ c.new.ensures.items) c.make.ensures.makes

pub returns-clause-step : goal.returns-clause-step
returns-clause-step c = λ roster peer s.
    let makes =
    dispose_at c.args.self.now c.args.writer c.in-Some.index c.args.key roster peer s c.in-Some.ensures.index.0
    (search rules) in
    made_steps c.args.self.now c.make.new.self roster peer s
    (call.Dispose c.args.writer c.args.key) _ _ c.make.result makes (made c roster peer s)

pub returns-clause-sends : goal.returns-clause-sends
returns-clause-sends c = λ roster peer s.
    let makes =
    dispose_at c.args.self.now c.args.writer c.in-Some.index c.args.key roster peer s c.in-Some.ensures.index.0
    (search rules) in
    made_sends c.make.new.self roster peer (call.Dispose c.args.writer c.args.key) _ _ c.make.result makes
    (made c roster peer s)
