-- one more info, by the samples that follow
use Rattle.std.proofs.Common.{◌≡◌, ℕ, ◌+◌, ◌-◌, ◌<◌, ◌≤◌, List, [], ◌∷◌, ◌++◌, drop, length, reverse, ap, sym, ◌∙◌, subst, arith}
use Rattle.std.specs.List.{All}
use Rattle.std.proofs.lemmas.List.{take_rest}
use Rattle.std.proofs.lemmas.List.Elements.{All-cons, All-weaker}
use Rattle.std.proofs.lemmas.Grind.{reverse_onto}
use Rattle.dds_base.specs.declared.sample.SampleInfo.{SampleInfo}
use Rattle.dds_base.specs.declared.sample.Picked.{Picked}
use Rattle.dds_base.specs.Access.{infos_of, with_ranks}
use Rattle.dds_base.proofs.Lists.{drop-step}
use Rattle.dds_info.specs.declared.followers.Followers.{Followers}
use Rattle.dds_info.specs.Followers.{IsFirstFollowed, IsFollowed}
use Rattle.dds_info.proofs.fill.Goals as goal

pub loop-done-preserved : goal.loop-done-preserved
loop-done-preserved c =
    let ps : List Picked = c.args.picked.now in
    let p : Picked = c.index-picked-at.result in
    let at : ℕ = length ps - 1 - c.loop-done.done in
    let rest : List Picked = drop (length ps - c.loop-done.done) ps in
    let next : Followers = c.followers_of-next.result in
    let within : at < length ps = omega (arith, c.loop-done-test.true) in
    let after : at + 1 ≡ length ps - c.loop-done.done = omega (arith, c.loop-done-test.true) in
    let here : length ps - (c.loop-done.done + 1) ≡ at = omega arith in
    let split : drop (length ps - (c.loop-done.done + 1)) ps ≡ p ∷ rest =
    ap (λ (m : ℕ). drop m ps) here
    ∙ (drop-step ps at p within c.index-picked-at.is ∙ ap (λ (m : ℕ). p ∷ drop m ps) after) in
    let followed : IsFollowed p rest next =
    subst (λ (later : List Picked). IsFollowed p later next)
    (take_rest ps (at + 1) ∙ ap (λ (m : ℕ). drop m ps) after) c.followers_of-next.ensures in
    let first : c.lesser-least.result ≤ p.instance_handle = omega (arith, c.lesser-least.ensures) in
    let less : c.lesser-least.result ≤ c.loop-done.least = omega (arith, c.lesser-least.ensures) in
    record {
      infos = c.in_ok-push.ensures.items
          ∙ (ap (λ (x : SampleInfo). c.loop-done.infos.items ++ x ∷ []) (c.ranked.ensures rest followed)
          ∙ (ap (λ (xs : List SampleInfo). xs ++ with_ranks p rest ∷ []) c.loop-done.invariant.infos
          ∙ (sym (reverse_onto (infos_of rest) (with_ranks p rest) [])
          ∙ ap (λ (xs : List Picked). reverse (infos_of xs)) (sym split))));
      next = subst (λ (xs : List Picked). IsFirstFollowed xs next) (sym split) followed;
      least =
          subst (λ (xs : List Picked). All (λ (x : Picked). c.lesser-least.result ≤ x.instance_handle) xs) (sym split)
          (All-cons (λ (x : Picked). c.lesser-least.result ≤ x.instance_handle) p rest first
          (All-weaker (λ (x : Picked). c.loop-done.least ≤ x.instance_handle)
          (λ (x : Picked). c.lesser-least.result ≤ x.instance_handle)
          (λ x above. omega (arith, above, less)) rest c.loop-done.invariant.least));
    }
