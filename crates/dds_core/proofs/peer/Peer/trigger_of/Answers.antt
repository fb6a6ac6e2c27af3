use Rattle.std.proofs.Common.{◌≡◌, Bool, true, false, ◌&&◌, refl, sym, ◌∙◌, ap}
use Rattle.dds_base.specs.Number.{at_number}
use Rattle.dds_core.specs.Kept.{PeerKept}
use Rattle.dds_notices.specs.declared.mask.StatusMask.{StatusMask}
use Rattle.dds_conditions.specs.declared.condition.Cond.{Cond}
use Rattle.dds_conditions.specs.Watched.{Watched, enabled_of, knows_entity}
use Rattle.dds_machine.specs.Watching.{meet, status_changes, trigger_value, condition_value}
use Rattle.dds_core.proofs.peer.Peer.trigger_of.Goals as goal

-- of an entity that there is
known : (there : Bool) (value : Bool) → there ≡ true → value ≡ (there && value)
known true value is = refl
known false value is = absurd cc

pub returns-in-Some-clause-value : goal.returns-in-Some-clause-value
returns-in-Some-clause-value g c = λ roster peer given.
    let tests = g.T.Filters.meaning c.args.filters.now in
    let here : c.self.inside.watch ≡ peer.part.dds.watch =
    ap (λ (k : PeerKept). k.watch) c.self.view_is ∙ sym given.watch in
    let entity = c.in-Status.entity in
    let statuses = c.statuses_of.result in
    let there = c.in-Some.ensures.there in
    c.intersects.ensures tt
    ∙ (ap (λ (m : StatusMask). meet m statuses) (there.1 (record { 0 = 0 }))
    ∙ (ap (λ (w : Watched). meet (enabled_of w entity (record { 0 = 0 })) statuses) here
    ∙ (ap (λ (m : StatusMask). meet (enabled_of peer.part.dds.watch entity (record { 0 = 0 })) m)
    (c.statuses_of.ensures roster peer given)
    ∙ (known (knows_entity peer.part.dds.watch entity) _
    (ap (λ (w : Watched). knows_entity w entity) (sym here) ∙ there.0)
    ∙ ap (λ (x : Cond). trigger_value tests peer.part x) (sym c.in-Status.is)))))

pub returns-in-None-clause-value : goal.returns-in-None-clause-value
returns-in-None-clause-value g c = λ roster peer given.
    let tests = g.T.Filters.meaning c.args.filters.now in
    let here : c.self.inside.watch ≡ peer.part.dds.watch =
    ap (λ (k : PeerKept). k.watch) c.self.view_is ∙ sym given.watch in
    let entity = c.in-Status.entity in
    let strange : knows_entity peer.part.dds.watch entity ≡ false =
    ap (λ (w : Watched). knows_entity w entity) (sym here) ∙ c.in-None.ensures.none in
    sym (ap (λ (b : Bool). b && meet (enabled_of peer.part.dds.watch entity (record { 0 = 0 }))
    (status_changes peer.part entity)) strange)
    ∙ ap (λ (x : Cond). trigger_value tests peer.part x) (sym c.in-Status.is)

pub returns-in-Made-clause-value : goal.returns-in-Made-clause-value
returns-in-Made-clause-value g c = λ roster peer given.
    let tests = g.T.Filters.meaning c.args.filters.now in
    c.value_of.ensures.value roster peer given
    ∙ (ap (λ (w : Watched). condition_value tests peer.part (at_number w.conditions c.in-Made.number)) (sym given.watch)
    ∙ ap (λ (x : Cond). trigger_value tests peer.part x) (sym c.in-Made.is))
