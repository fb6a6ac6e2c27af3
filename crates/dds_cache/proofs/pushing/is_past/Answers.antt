use Rattle.std.proofs.Common.{◌≡◌, ◌∙◌, Bool, true, false, not, sym, refl}
use Rattle.dds_base.proofs.KeyLaws.{key-same}
use Rattle.dds_cache.proofs.KeptLaws.{live-present, not-true}
use Rattle.dds_cache.proofs.pushing.is_past.Goals as goal

pub returns-then-eq-clause-past : goal.returns-then-eq-clause-past
returns-then-eq-clause-past c = λ h known kept past.
    let key : c.args.known.now.key ≡ c.args.kept.now.sample.key =
    sym (key-same c.args.kept.now.sample.key c.args.known.now.key (sym c.eq.ensures ∙ c.if-eq.true)) in
    sym (live-present c.args.qos.now h c.args.known.now c.args.kept.now known key kept)
    ∙ (sym c.is_live.ensures ∙ not-true c.is_live.result past)

pub returns-then-eq-clause-there : goal.returns-then-eq-clause-there
returns-then-eq-clause-there c = λ h known kept stays own.
    let key : c.args.known.now.key ≡ c.args.kept.now.sample.key =
    sym (key-same c.args.kept.now.sample.key c.args.known.now.key own) in
    sym (live-present c.args.qos.now h c.args.known.now c.args.kept.now known key kept)
    ∙ (sym c.is_live.ensures ∙ not-false c.is_live.result stays)
  where
    not-false : (b : Bool) → not b ≡ false → b ≡ true
    not-false true e = refl
    not-false false e = absurd (let clash : true ≡ false = e in cc)
