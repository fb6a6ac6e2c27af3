use Rattle.std.proofs.Common.{◌≡◌, false, refl, inl}
use Rattle.dds_base.specs.Presence.{is_present}
use Rattle.dds_cache.specs.declared.kept.Kept.{Kept}
use Rattle.dds_cache.specs.Kept.{IsKept}
use Rattle.dds_cache.proofs.PushLaws.{at-place, placed-at}
use Rattle.dds_cache.proofs.pushing.let_past_go.Goals as goal

pub returns-then-is_past-clause-goes : goal.returns-then-is_past-clause-goes
returns-then-is_past-clause-goes c =
    inl (
      c.let_out.result,
      c.let_out.ensures.out,
      refl,
      λ h d known kept.
          at-place (λ (k : Kept). is_present c.args.qos.now h k.sample.key k.sample.position ≡ false) c.args.samples.now.items
          c.args.place c.index.result.now d c.requires.within c.index.ensures
          (c.is_past.ensures.past h known
          (placed-at (IsKept c.args.qos.now h) c.args.samples.now.items c.args.place c.index.result.now d c.requires.within
          c.index.ensures kept) c.if-is_past.true),
    )
