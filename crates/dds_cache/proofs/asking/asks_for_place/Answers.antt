use Rattle.std.proofs.Common.{◌≡◌, ◌&&◌, Option, None, Some, sym, ap, ◌∙◌}
use Rattle.dds_base.specs.declared.key.Key.{Key}
use Rattle.dds_base.specs.declared.sample.InstanceState.{InstanceState}
use Rattle.dds_base.specs.declared.sample.ViewState.{ViewState}
use Rattle.dds_base.specs.Access.{asks_for_instance_state, asks_for_view_state}
use Rattle.dds_base.specs.Instance.{instance_state_of, view_state_of}
use Rattle.dds_instances.specs.Known.{IsKnown}
use Rattle.dds_cache.proofs.DeathLaws.{some-same}
use Rattle.dds_cache.proofs.asking.asks_for_place.Goals as goal

pub returns-in-None : goal.returns-in-None
returns-in-None c = λ q h i stands there. absurd (some-none i (c.in-None.ensures.key q h stands ∙ there))
  where
    some-none : (i : Key) → ◌≡◌ {A = Option Key} None (Some i) → ⊥
    some-none i e = cc

pub returns-in-Some : goal.returns-in-Some
returns-in-Some c = λ q h i stands there.
    let key : c.in-Some.known.key ≡ i = some-same _ _ (c.in-Some.ensures.key q h stands ∙ there) in
    let known : IsKnown q h c.in-Some.known = c.in-Some.ensures.known q h stands in
    c.asks_for_states.ensures
    ∙ (ap (λ (v : ViewState). asks_for_view_state c.args.masks.views v
    && asks_for_instance_state c.args.masks.instances (Some c.in-Some.known.state))
    (known.view_is ∙ ap (λ (x : Key). view_state_of q x h) key)
    ∙ ap (λ (s : Option InstanceState). asks_for_view_state c.args.masks.views (view_state_of q i h)
    && asks_for_instance_state c.args.masks.instances s)
    (sym known.state_is ∙ ap (λ (x : Key). instance_state_of q x h) key))
