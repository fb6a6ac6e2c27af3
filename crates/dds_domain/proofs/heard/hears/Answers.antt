use Rattle.std.proofs.Common.{◌≡◌, ◌∙◌, ℕ, arith, false, subst, sym}
use Rattle.dds_domain.specs.Heard.{hears}
use Rattle.dds_domain.proofs.HeardLaws.{hears_by}
use Rattle.dds_domain.proofs.heard.hears.Goals as goal

pub returns-then-is_matched : goal.returns-then-is_matched
returns-then-is_matched c = record {
  hears = λ roster peer stands.
      sym (hears_by peer.part c.args.writer c.loop-before.before 16
      (sym (c.is_matched.ensures.matched roster peer stands) ∙ c.if-is_matched.true) (omega arith));
}

pub returns : goal.returns
returns c = record {
  hears = λ roster peer stands.
      sym (subst (λ (n : ℕ). hears peer.part n c.args.writer ≡ false)
      (let e : c.loop-before.before ≡ 16 = omega arith in e)
      (c.loop-before.invariant roster peer stands));
}
