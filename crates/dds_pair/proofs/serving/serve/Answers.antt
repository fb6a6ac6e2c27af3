use Rattle.std.proofs.Common.{◌≡◌, true, false, inl, inr, refl, ◌∙◌, subst, rules, arith}
use Rattle.dds_pair.specs.declared.turn.Turn.{Turn}
use Rattle.dds_pair.proofs.Turns.{served_more, served_none, served_same}
use Rattle.dds_pair.proofs.serving.serve.Goals as goal

pub loop-turns-init : goal.loop-turns-init
loop-turns-init g c =
    served_none g.K.Link.sends g.K.Link.receives g.G.Gate.says c.args.pass.now c.args.link.now c.args.gate.now

pub loop-turns-preserved : goal.loop-turns-preserved
loop-turns-preserved g c =
    let goes_on : c.in_ok-take_turn.field-0 ≡ true = search rules in
    let took = rw goes_on at c.in_ok-take_turn.ensures.ok in
    served_more g.K.Link.sends g.K.Link.receives g.G.Gate.says c.args.pass.now c.loop-turns.pass c.take_turn.new.pass
    c.args.link.now c.args.gate.now c.loop-turns.link c.loop-turns.gate c.turn-turn.result c.take_turn.new.link
    c.turn-turn.new.self took.0 c.loop-turns.turns c.loop-turns.invariant c.turn-turn.ensures.says took.1 took.2

pub returns-then-not-branch-clause-ok : goal.returns-then-not-branch-clause-ok
returns-then-not-branch-clause-ok g c =
    let stops : c.in_ok-take_turn.field-0 ≡ false = search rules in
    let stopped = rw stops at c.in_ok-take_turn.ensures.ok in
    let served = served_same g.K.Link.sends g.K.Link.receives g.G.Gate.says c.args.pass.now c.loop-turns.pass
    c.take_turn.new.pass c.args.link.now c.args.gate.now c.loop-turns.link c.loop-turns.gate c.take_turn.new.link
    c.loop-turns.turns c.loop-turns.invariant stopped.1 stopped.2 in
    let said = subst (λ (t : Turn). g.G.Gate.says c.loop-turns.gate t c.turn-turn.new.self) stopped.0
    c.turn-turn.ensures.says in (c.loop-turns.gate, served.0, served.1, inl said)

pub returns-clause-ok : goal.returns-clause-ok
returns-clause-ok g c =
    let served = c.loop-turns.invariant in
    let all : c.loop-turns.turns ≡ 18446744073709551615 =
    omega (arith, c.loop-turns-test.false, c.loop-turns.auto.turns-end) in
    (c.loop-turns.gate, served.0, served.1 ∙ all, inr (refl, refl))
