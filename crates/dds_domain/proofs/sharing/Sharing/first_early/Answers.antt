use Rattle.std.proofs.Common.{◌≡◌, ◌<◌, ◌∙◌, List, ap, arith, false, get_or, length, rules, subst, sym}
use Rattle.std.proofs.lemmas.Option.{slice_get_within}
use Rattle.dds_exchange.specs.States.{State as Exchange}
use Rattle.dds_domain.specs.declared.early.Waiting.{Waiting}
use Rattle.dds_domain.specs.Heard.{IsHeardSo, is_heard}
use Rattle.dds_domain.specs.Sharings.{State}
use Rattle.dds_domain.proofs.HeardLaws.{all_next}
use Rattle.dds_domain.proofs.sharing.Sharing.first_early.Goals as goal

pub loop-place-preserved : goal.loop-place-preserved
loop-place-preserved c =
    let w : Waiting = c.index-waiting-place.result in
    let same : c.waiting-waiting.result.now ≡ c.args.self.now.early =
    c.waiting-waiting.ensures.waiting ∙ ap (λ (s : State). s.early) c.self.view_is in
    let there : c.loop-place.place < length c.waiting-waiting.result.now = search rules in
    all_next (λ (x : Waiting). IsHeardSo false c.args.self.now.exchange x.writer) c.args.self.now.early c.loop-place.place w
    (subst (λ (xs : List Waiting). c.loop-place.place < length xs) same there)
    (subst (λ (xs : List Waiting). w ≡ get_or xs c.loop-place.place w) same c.index-waiting-place.is)
    (subst (λ (e : Exchange). IsHeardSo false e w.writer) (ap (λ (s : State). s.exchange) c.self.view_is)
    (λ roster peer stands.
    ap (λ (x : Waiting). is_heard peer.part c.self.inside.exchange.named x.writer) c.index-waiting-place.is
    ∙ (sym (c.is_heard.ensures.heard roster peer stands) ∙ c.if-is_heard.false)))
    c.loop-place.invariant

pub returns : goal.returns
returns c = record {
  first = λ place waiting at.
      let same : c.waiting-waiting.result.now ≡ c.args.self.now.early =
      c.waiting-waiting.ensures.waiting ∙ ap (λ (s : State). s.early) c.self.view_is in
      let count = ap (λ (xs : List Waiting). length xs) same in
      let within = slice_get_within c.args.self.now.early place waiting at in
      c.loop-place.invariant place waiting (omega (arith, count, within, c.loop-place-test.false, c.loop-place.auto.place-end)) at;
}
