use Rattle.std.proofs.Common.{◌≡◌, ◌∙◌, Bool, true, false, ◌&&◌, ℕ, [], ◌∷◌, ◌++◌, length, sym, ap, refl, subst}
use Rattle.std.specs.Prelude.{if◌then◌else◌}
use Rattle.dds_base.specs.declared.key.Key.{Key}
use Rattle.dds_cache.specs.declared.chains.Chains.{Chains}
use Rattle.dds_cache.specs.Chains.{Leads}
use Rattle.dds_cache.proofs.ChainLaws.{linked-more}
use Rattle.dds_cache.proofs.chains.Chains.append.Goals as goal

each : (a b c : Bool) → (a && (b && c)) ≡ true → (a ≡ true) × (b ≡ true) × (c ≡ true)
each true true true is = (refl, refl, refl)
each true true false is = absurd (let clash : false ≡ true = is in cc)
each true false c is = absurd (let clash : false ≡ true = is in cc)
each false b c is = absurd (let clash : false ≡ true = is in cc)

pub returns : goal.returns
returns c = λ ks k place key chains whole.
    let led : Chains = c.lead_to-has_span.new.self in
    let all = each led.is_whole c.is_ok-has_link.result c.lead_to-has_span.result whole in
    let leads : Leads c.args.self.now k.sample.key (length ks) led =
    subst (λ (i : Key). Leads c.args.self.now i (length ks) led) (sym key)
    (subst (λ (n : ℕ). Leads c.args.self.now c.args.key n led) place (c.lead_to-has_span.ensures all.2)) in
    let new : Chains = record {
      links = c.push.new.self;
      spans = led.spans;
      latest = led.latest;
      is_whole = led.is_whole && (c.is_ok-has_link.result && c.lead_to-has_span.result);
    } in
    linked-more ks k c.args.self.now led new 4294967295 (chains (sym leads.whole ∙ all.0)) leads
    (c.push.ensures.items
    ∙ ap (λ (b : Bool). if b then led.links.items ++ 4294967295 ∷ [] else led.links.items)
    (sym c.is_ok-has_link.ensures.value ∙ all.1))
    (λ i. refl)
