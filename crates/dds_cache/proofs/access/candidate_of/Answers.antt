use Rattle.std.proofs.Common.{◌<◌, ◌^◌, sym, ◌∙◌, subst, refl}
use Rattle.dds_base.specs.declared.sample.Picked.{Picked}
use Rattle.dds_base.specs.Access.{own_generations}
use Rattle.dds_cache.proofs.FindingLaws.{found-is, described-is}
use Rattle.dds_cache.proofs.access.candidate_of.Goals as goal

pub returns-then-is_found-clause-wanted : goal.returns-then-is_found-clause-wanted
returns-then-is_found-clause-wanted g c = λ h known key kept. record {
  wanted =
      sym (found-is c.args.qos.now h c.args.masks
      (g.T.Test.meaning c.args.test.now) c.args.known.now c.args.kept.now known key kept)
      ∙ (sym c.is_found.ensures.found ∙ c.if-is_found.true);
  sample_is = refl;
  picked_is = c.picked.ensures ∙ described-is c.args.qos.now h c.args.known.now c.args.kept.now known key kept;
  at_is = refl;
  small = subst (λ (p : Picked). own_generations p < 2 ^ 64) (sym c.picked.ensures) c.requires.small;
}

pub returns-else-is_found-clause-wanted : goal.returns-else-is_found-clause-wanted
returns-else-is_found-clause-wanted g c = λ h known key kept.
    sym (found-is c.args.qos.now h c.args.masks
    (g.T.Test.meaning c.args.test.now) c.args.known.now c.args.kept.now known key kept)
    ∙ (sym c.is_found.ensures.found ∙ c.if-is_found.false)
