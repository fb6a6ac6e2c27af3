use Rattle.std.proofs.Common.{◌≡◌, true, false, List, [], subst, rules, arith, sym, ◌∙◌}
use Rattle.dds_machine.specs.declared.call.Call.TheVariants as call
use Rattle.dds_protocol.specs.declared.event.Event.TheVariants as event
use Rattle.dds_machine.specs.Watching.{trigger_value}
use Rattle.dds_conditions.specs.declared.condition.Cond.{Cond}
use Rattle.dds_conditions.specs.Watched.{conditions_of}
use Rattle.dds_core.specs.Kept.{PeerKept}
use Rattle.std.specs.Prelude.{nat_le}
use Rattle.std.proofs.lemmas.Bool.Decides.{nat_tests}
use Rattle.dds_core.proofs.CallSteps.{FollowsBy, follows_as, still_stands}
use Rattle.dds_core.proofs.Triggers.{is_nil, is_over_with, lacks_memory, not_nil, some_active, times_out, waits_on}
use Rattle.dds_core.proofs.peer.Peer.wait_look.Goals as goal

pub returns-in-Err-active-clause-step : goal.returns-in-Err-active-clause-step
returns-in-Err-active-clause-step g c = λ roster peer given.
    let tests = g.T.Filters.meaning c.args.filters.now in
    let s = still_stands c.self.view_is given in
    subst (λ (k : PeerKept). FollowsBy tests k roster peer
    (event.Call (call.WaitLook c.args.wait_set)) c.refused-in-Err-active.result) c.self.view_is
    (follows_as _ roster peer _ _ _ c.refused-in-Err-active.ensures
    (lacks_memory _ roster peer s c.args.wait_set c.in-Err-active.code c.in-Err-active.ensures.memory
    (some_active (trigger_value tests peer.part) (conditions_of peer.part.dds.watch c.args.wait_set)
    (sym (c.in-Err-active.ensures.some roster peer given)))
    c.in-Ok.ensures.taken))

pub returns-then-units-clause-step : goal.returns-then-units-clause-step
returns-then-units-clause-step g c = λ roster peer given.
    let s = still_stands c.self.view_is given in
    let active : List Cond = c.in-Ok-active.active in
    let nil : active ≡ [] =
    is_nil c.as_slice.result.now active c.is_empty.result c.as_slice.ensures.elements c.is_empty.ensures c.if-is_empty.true in
    let before = c.if-units.true in
    let early : nat_le c.in-Ok.deadline c.self.inside.moment ≡ false = grind (arith, nat_tests) in
    subst (λ (k : PeerKept). FollowsBy (g.T.Filters.meaning c.args.filters.now) k roster peer
    (event.Call (call.WaitLook c.args.wait_set)) c.answered.result) c.self.view_is
    (follows_as _ roster peer _ _ _ c.answered.ensures
    (waits_on _ roster peer s c.args.wait_set active (c.in-Ok-active.ensures.ok roster peer given) nil
    (c.in-Ok.ensures.ok c.self.inside.moment ∙ early) c.in-Ok.ensures.taken))

pub returns-then-is_empty-clause-step : goal.returns-then-is_empty-clause-step
returns-then-is_empty-clause-step g c = λ roster peer given.
    let s = still_stands c.self.view_is given in
    let active : List Cond = c.in-Ok-active.active in
    let nil : active ≡ [] =
    is_nil c.as_slice.result.now active c.is_empty.result c.as_slice.ensures.elements c.is_empty.ensures c.if-is_empty.true in
    let after = c.if-units.false in
    let late : nat_le c.in-Ok.deadline c.self.inside.moment ≡ true = grind (arith, nat_tests) in
    follows_as _ roster peer _ _ _ c.refused-then-is_empty.ensures
    (times_out _ c.end.new.self roster peer s c.args.wait_set active (c.in-Ok-active.ensures.ok roster peer given) nil
    (c.in-Ok.ensures.ok c.self.inside.moment ∙ late) c.in-Ok.ensures.taken (search rules))

pub returns-in-Ok-told_twice-clause-step : goal.returns-in-Ok-told_twice-clause-step
returns-in-Ok-told_twice-clause-step g c = λ roster peer given.
    let s = still_stands c.self.view_is given in
    let active : List Cond = c.in-Ok-active.active in
    let told : c.in-Ok-told_twice.active ≡ active = c.in-Ok-told_twice.ensures.ok in
    follows_as _ roster peer _ _ _ c.answered-in-Ok-told_twice.ensures
    (is_over_with _ c.end-in-Ok-told_twice.new.self roster peer s c.args.wait_set c.in-Ok-told_twice.active
    (λ nil. not_nil c.as_slice.result.now active c.is_empty.result c.as_slice.ensures.elements c.is_empty.ensures
    c.if-is_empty.false (sym told ∙ nil))
    (told ∙ c.in-Ok-active.ensures.ok roster peer given) c.in-Ok.ensures.taken (search rules))

pub returns-in-Err-told_twice-clause-step : goal.returns-in-Err-told_twice-clause-step
returns-in-Err-told_twice-clause-step g c = λ roster peer given.
    let tests = g.T.Filters.meaning c.args.filters.now in
    let s = still_stands c.self.view_is given in
    let active : List Cond = c.in-Ok-active.active in
    subst (λ (k : PeerKept). FollowsBy tests k roster peer
    (event.Call (call.WaitLook c.args.wait_set)) c.refused-in-Err-told_twice.result) c.self.view_is
    (follows_as _ roster peer _ _ _ c.refused-in-Err-told_twice.ensures
    (lacks_memory _ roster peer s c.args.wait_set c.in-Err-told_twice.code c.in-Err-told_twice.ensures.memory
    (λ nil. not_nil c.as_slice.result.now active c.is_empty.result c.as_slice.ensures.elements c.is_empty.ensures
    c.if-is_empty.false (c.in-Ok-active.ensures.ok roster peer given ∙ nil))
    c.in-Ok.ensures.taken))
