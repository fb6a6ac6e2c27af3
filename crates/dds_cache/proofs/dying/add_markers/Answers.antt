use Rattle.std.proofs.Common.{◌≡◌, ◌+◌, ◌<◌, List, [], ◌∷◌, length, get_or, arith, Some}
use Rattle.std.specs.Prelude.{slice_get}
use Rattle.std.proofs.lemmas.Option.{slice_get-get_or}
use Rattle.dds_base.specs.declared.key.Key.{Key}
use Rattle.dds_base.specs.declared.happening.Happening.{Happening}
use Rattle.dds_base.specs.declared.happening.Happening.TheVariants.{Died}
use Rattle.dds_base.specs.Instance.{known_instances}
use Rattle.dds_cache.proofs.DeathLaws.{adds-of-none, adds-of-more, adds-died, marked-more, marked-some}
use Rattle.dds_cache.proofs.dying.add_markers.Goals as goal

pub loop-place-preserved : goal.loop-place-preserved
loop-place-preserved c = record {
  len = omega (
    arith,
    c.add_marker.ensures.len,
    c.loop-place.invariant.len,
    marked-more c.args.instances.now c.loop-place.place,
  );
  capacity = omega (arith, c.add_marker.ensures.capacity, c.loop-place.invariant.capacity);
  small = λ small. c.add_marker.ensures.small (c.loop-place.invariant.small small);
  counted = c.add_marker.ensures.counted;
  added = λ q h stands fresh.
      let g : List Happening = Died c.args.writer c.args.moment ∷ h in
      let ks : List Key = known_instances q g in
      let within : c.loop-place.place < length ks =
      omega (arith, c.loop-place-test.true, c.len-place-end.ensures.len q g stands) in
      let x : Key = get_or ks c.loop-place.place (record { 0 = [] }) in
      let there : slice_get ks c.loop-place.place ≡ Some x =
      slice_get-get_or ks c.loop-place.place (record { 0 = [] }) within in
      adds-of-more q g (length h + 1) c.loop-place.place x c.args.samples.now.items c.loop-place.samples.items
      c.add_marker.new.samples.items there (c.loop-place.invariant.added q h stands fresh)
      (c.add_marker.ensures.samples q h x (record { stands = stands; placed = there; fresh = fresh x }));
}

pub returns-clause-samples : goal.returns-clause-samples
returns-clause-samples c =
    λ q h stands fresh. adds-died q
    (Died c.args.writer c.args.moment) h c.loop-place.place c.args.samples.now.items c.loop-place.samples.items
    (omega (
      arith,
      c.len-place-end.ensures.len q (Died c.args.writer c.args.moment ∷ h) stands,
      c.loop-place-test.false,
      c.loop-place.auto.place-end,
    ))
    (c.loop-place.invariant.added q h stands fresh)

-- there is room for it, if it left one
pub add_marker-requires : goal.add_marker-requires
add_marker-requires c =
    let more = marked-more c.args.instances.now c.loop-place.place in
    let some = marked-some c.args.instances.now (c.loop-place.place + 1) in
    record {
      room = omega (
        arith,
        more,
        some,
        c.requires.room,
        c.loop-place.invariant.len,
        c.loop-place.invariant.capacity,
      );
      counted = c.loop-place.invariant.counted;
    }

pub returns-clause-len : goal.returns-clause-len
returns-clause-len c =
    let some = marked-some c.args.instances.now c.loop-place.place in omega (arith, some, c.loop-place.invariant.len)

pub loop-place-init : goal.loop-place-init
loop-place-init c =
    record {
      len = omega arith;
      capacity = omega arith;
      small = λ small. small;
      counted = c.requires.counted;
      added = λ q h stands fresh. adds-of-none q (Died c.args.writer c.args.moment ∷ h) (length h + 1)
          c.args.samples.now.items;
    }
