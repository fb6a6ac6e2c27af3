use Rattle.std.proofs.Common.{◌≡◌, List, length, sym, subst, arith}
use Rattle.dds_base.specs.declared.qos.ReaderQos.{ReaderQos}
use Rattle.dds_cache.specs.declared.kept.Kept.{Kept}
use Rattle.dds_cache.specs.Kept.{IsKept}
use Rattle.dds_cache.proofs.OnlyLaws.{alone, found-only, found-state}
use Rattle.dds_cache.proofs.only.find_only.Goals as goal

pub returns-clause-only : goal.returns-clause-only
returns-clause-only g c = λ h holds.
    let q : ReaderQos = c.args.qos.now in
    let ks : List Kept = c.args.samples.now in
    let k : Kept = c.kept-item.result in
    let one : length ks ≡ 1 = omega (arith, c.in-len1.len_at_least, c.in-len1.len_below) in
    let kept : IsKept q h k =
    subst (λ (x : Kept). IsKept q h x) (sym c.kept-item.is) (holds.each 0 k (omega (arith, one))) in
    record {
      finds =
          found-only q c.args.instances.now h c.args.masks (g.T.Test.meaning c.args.test.now) ks k c.in-Some.only
          (alone ks k one c.kept-item.is) holds (c.in-Some.ensures.wanted h holds.instances kept);
      registered = c.may_end.ensures c.if-may_end.false q h holds.instances
          (found-state q h c.args.masks (g.T.Test.meaning c.args.test.now) k 0 c.in-Some.only kept
          (c.in-Some.ensures.wanted h holds.instances kept));
    }
