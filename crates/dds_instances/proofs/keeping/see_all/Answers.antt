use Rattle.std.proofs.Common.{List, map, take, refl, ap, sym, ◌∙◌}
use Rattle.std.proofs.lemmas.List.{take_more, take_all}
use Rattle.dds_base.specs.declared.happening.SamplePosition.{SamplePosition}
use Rattle.dds_instances.specs.Track.{seen_in}
use Rattle.dds_instances.proofs.SeeingLaws.{saw-none, saw-step}
use Rattle.dds_instances.proofs.keeping.see_all.Goals as goal

pub loop-sample-init : goal.loop-sample-init
loop-sample-init c = record {
  fits = λ n fits. fits;
  keys = refl;
  len = refl;
  capacity = refl;
  alive = refl;
  sees = saw-none c.args.tracks.now.items;
}

pub loop-sample-preserved : goal.loop-sample-preserved
loop-sample-preserved c =
    let before : List SamplePosition = take c.loop-sample.sample-index c.args.samples.now in
    record {
      fits = λ n fits. c.see_sample.ensures.fits n (c.loop-sample.invariant.fits n fits);
      keys = c.see_sample.ensures.keys ∙ c.loop-sample.invariant.keys;
      len = c.see_sample.ensures.len ∙ c.loop-sample.invariant.len;
      capacity = c.see_sample.ensures.capacity ∙ c.loop-sample.invariant.capacity;
      alive = c.see_sample.ensures.alive ∙ c.loop-sample.invariant.alive;
      sees =
          saw-step before _ c.args.tracks.now.items _ _ c.loop-sample.invariant.sees c.see_sample.ensures.sees
          ∙ ap (λ (ss : List SamplePosition). map (seen_in ss) c.args.tracks.now.items)
          (sym (take_more c.args.samples.now c.loop-sample.sample-index _ c.loop-sample-test.true));
    }

pub returns-clause-sees : goal.returns-clause-sees
returns-clause-sees c =
    c.loop-sample.invariant.sees
    ∙ ap (λ (ss : List SamplePosition). map (seen_in ss) c.args.tracks.now.items)
    (take_all c.loop-sample.sample-index c.args.samples.now c.loop-sample-test.false)
