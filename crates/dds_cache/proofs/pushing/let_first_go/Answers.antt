use Rattle.std.proofs.Common.{◌<◌, length, arith, ◌∙◌, List, Bool, true, false, sym, subst}
use Rattle.dds_base.specs.declared.qos.ReaderQos.{ReaderQos}
use Rattle.dds_instances.specs.declared.known.KnownInstance.{KnownInstance}
use Rattle.dds_cache.specs.declared.kept.Kept.{Kept}
use Rattle.dds_cache.specs.Chains.{AreChainsOf, AreOthers}
use Rattle.dds_cache.specs.Pushing.{IsLetAt}
use Rattle.dds_cache.proofs.PushLaws.{holds-let, holds-stopped, none-next, small-let}
use Rattle.dds_cache.proofs.pushing.let_first_go.Goals as goal

pub loop-place-preserved : goal.loop-place-preserved
loop-place-preserved c =
    let q : ReaderQos = c.args.qos.now in
    let known : KnownInstance = c.args.known.now in
    let old : List Kept = c.loop-place.samples.items in
    let new : List Kept = c.let_past_go.new.samples.items in
    let within : c.loop-place.place < length old =
    omega (arith, c.loop-place-test.true, c.len.ensures, c.loop-place.samples.ok.0) in
    let goes : IsLetAt q known c.loop-place.place old false new =
    subst (λ (b : Bool). IsLetAt q known c.loop-place.place old b new) c.if-let_past_go.false c.let_past_go.ensures.goes in
    let between : AreOthers new known.key c.loop-place.place c.next-place.result =
    subst (λ (ks : List Kept). AreOthers ks known.key c.loop-place.place c.next-place.result) c.deref.ensures.value
    (c.next-place.ensures.between
    (subst (λ (ks : List Kept). AreChainsOf ks c.let_past_go.new.summary.chains) (sym c.deref.ensures.value)
    c.let_past_go.ensures.counted.chains)) in
    record {
      holds = λ table h is_known but. holds-let q table h known known.key old new c.loop-place.place false
          within is_known goes (c.loop-place.invariant.holds table h is_known but);
      none =
          none-next q known old new c.loop-place.place c.next-place.result within goes between
          c.loop-place.invariant.none;
      small = λ small. small-let q known old new c.loop-place.place false within goes
          (c.loop-place.invariant.small small);
      counted = c.let_past_go.ensures.counted;
      len = c.let_past_go.ensures.len ∙ c.loop-place.invariant.len;
      capacity = c.let_past_go.ensures.capacity ∙ c.loop-place.invariant.capacity;
    }

pub returns-then-let_past_go-clause-holds : goal.returns-then-let_past_go-clause-holds
returns-then-let_past_go-clause-holds c = λ table h is_known but.
    let q : ReaderQos = c.args.qos.now in
    let known : KnownInstance = c.args.known.now in
    let old : List Kept = c.loop-place.samples.items in
    let new : List Kept = c.let_past_go.new.samples.items in
    let within : c.loop-place.place < length old =
    omega (arith, c.loop-place-test.true, c.len.ensures, c.loop-place.samples.ok.0) in
    let goes : IsLetAt q known c.loop-place.place old true new =
    subst (λ (b : Bool). IsLetAt q known c.loop-place.place old b new) c.if-let_past_go.true c.let_past_go.ensures.goes in
    holds-stopped q table h known old new c.loop-place.place within is_known goes
    c.loop-place.invariant.none
    (holds-let q table h known known.key old new c.loop-place.place true within is_known goes
    (c.loop-place.invariant.holds table h is_known but))
