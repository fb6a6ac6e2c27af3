use Rattle.std.proofs.Common.{◌+◌, List, ◌∷◌, refl, subst, sym, arith}
use Rattle.std.specs.List.{IsDistinct}
use Rattle.dds_base.specs.declared.key.Key.{Key}
use Rattle.dds_base.specs.declared.happening.Happening.{Happening}
use Rattle.dds_base.specs.declared.happening.Happening.TheVariants.{Died}
use Rattle.dds_base.specs.Happening.{same_key}
use Rattle.dds_base.specs.Life.{has_there, last_marker}
use Rattle.dds_instances.specs.declared.track.InstanceTrack.{InstanceTrack}
use Rattle.dds_instances.specs.Following.{Follows, FollowsBefore}
use Rattle.dds_instances.specs.Track.{lives_on}
use Rattle.dds_instances.specs.Table.{HoldsPresent, Stands, Table}
use Rattle.dds_instances.specs.Sound.{table_of}
use Rattle.dds_instances.proofs.EndingLaws.{lawful-quiet, stands-next}
use Rattle.dds_instances.proofs.HoldingLaws.{held-right}
use Rattle.dds_instances.proofs.StandingLaws.{follows-kept}
use Rattle.dds_instances.proofs.instances.Instances.died.Goals as goal

pub invariant_of-self : goal.invariant_of-self
invariant_of-self c = record {
  indexed = c.forget_left.ensures.indexed;
  fits = c.forget_left.ensures.fits (c.self.inside.happened + 1 + 1) c.bury_all.ensures.fits;
  blank = c.self.invariant.blank;
  places = omega (arith, c.self.invariant.places, c.in_ok-room.ensures.less, c.forget_left.ensures.room);
  tracks_fit =
      omega (
        arith,
        c.self.invariant.tracks_fit,
        c.in_ok-room.ensures.less,
        c.bury_all.ensures.len,
        c.bury_all.ensures.capacity,
        c.forget_left.ensures.len,
        c.forget_left.ensures.capacity,
      );
  blanks_fit = omega (arith, c.self.invariant.blanks_fit, c.in_ok-room.ensures.less);
  strengths_fit = λ some. c.self.invariant.strengths_fit (omega (arith, some, c.in_ok-room.ensures.less));
  begun_fits = omega (arith, c.self.invariant.begun_fits);
  counted = c.in_ok-room.ensures.fits;
}

pub returns-clause-ok : goal.returns-clause-ok
returns-clause-ok c = λ q h moment stands matched present.
    let e : Happening = Died c.args.writer moment in
    let ts : List InstanceTrack = c.self.inside.tracks.items in
    let s : Stands q (table_of c.self.inside) h = subst (λ (t : Table). Stands q t h) (sym c.self.view_is) stands in
    let noted : HoldsPresent q h (table_of c.self.inside) =
    subst (λ (t : Table). HoldsPresent q h t) (sym c.self.view_is) present in
    let before : FollowsBefore q h (c.self.inside.happened + 1) ts =
    record { place = omega (arith, s.happened_is); lawful = s.lawful; follows = s.follows } in
    let held =
    held-right q h ts (λ i. has_there q h i (last_marker q i h))
    (subst (λ (ks : List Key). IsDistinct same_key ks) c.bury_all.ensures.keys c.forget_left.ensures.distinct)
    s.follows noted in
    stands-next q h e (table_of c.self.inside) _ (λ are. are) (λ it. record { tells = it.tells; joined_are = it.joined_are; counts = it.counts }) refl refl refl
    (subst (λ (xs : List InstanceTrack). Follows q (e ∷ h) xs) (sym c.forget_left.ensures.kept)
    (follows-kept q h e lives_on c.bury_all.new.tracks.items (c.bury_all.ensures.reaches q h moment before matched)
    (c.bury_all.ensures.lives q h moment before held)))
    (lawful-quiet q h e (λ i j. refl) s.lawful) s
