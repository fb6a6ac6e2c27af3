use Rattle.dds_cache.proofs.ChainLaws.{first-after}
use Rattle.dds_cache.proofs.chains.Chains.first_left.Goals as goal

pub loop-place-init : goal.loop-place-init
loop-place-init c = record { first = λ chains begins. begins }

pub loop-place-preserved : goal.loop-place-preserved
loop-place-preserved c = record {
  first = λ chains begins. first-after c.args.samples.now c.args.key c.loop-place.place c.next-place.result
      c.index-samples-place.result c.loop-place-test.true c.if-samples-place.true
      (c.loop-place.invariant.first chains begins) (c.next-place.ensures.between chains);
}
