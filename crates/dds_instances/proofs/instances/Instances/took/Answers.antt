use Rattle.std.proofs.Common.{◌≡◌, ◌+◌, List, true, false, ◌∷◌, filter, map, refl, subst, sym, ap, ◌∙◌, arith}
use Rattle.std.specs.List.{IsDistinct}
use Rattle.dds_base.specs.declared.key.Key.{Key}
use Rattle.dds_base.specs.declared.happening.Happening.{Happening}
use Rattle.dds_base.specs.declared.happening.Happening.TheVariants.{Took}
use Rattle.dds_base.specs.Happening.{same_key}
use Rattle.dds_base.specs.Life.{has_there, last_marker}
use Rattle.dds_instances.specs.declared.track.InstanceTrack.{InstanceTrack}
use Rattle.dds_instances.specs.Following.{Follows}
use Rattle.dds_instances.specs.Track.{lives_on, seen_in}
use Rattle.dds_instances.specs.Table.{HoldsLeft, Stands, Table, is_any_left}
use Rattle.dds_instances.specs.Sound.{table_of}
use Rattle.dds_instances.proofs.EndingLaws.{follows-took, lawful-took, reaches-took, stands-next, took-lives}
use Rattle.dds_instances.proofs.HoldingLaws.{held-right}
use Rattle.dds_instances.proofs.StandingLaws.{fits-more, follows-kept}
use Rattle.dds_instances.proofs.instances.Instances.took.Goals as goal

pub invariant_of-self : goal.invariant_of-self
invariant_of-self c = record {
  indexed = c.forget_left.ensures.indexed;
  fits = c.forget_left.ensures.fits (c.self.inside.happened + 1 + 1)
      (c.see_taken.ensures.fits (c.self.inside.happened + 1 + 1)
      (fits-more (c.self.inside.happened + 1) c.self.inside.tracks.items c.self.invariant.fits));
  blank = c.self.invariant.blank;
  places = omega (arith, c.self.invariant.places, c.in_ok-self-inside.ensures.less, c.forget_left.ensures.room);
  tracks_fit =
      omega (
        arith,
        c.self.invariant.tracks_fit,
        c.in_ok-self-inside.ensures.less,
        c.see_taken.ensures.len,
        c.see_taken.ensures.capacity,
        c.forget_left.ensures.len,
        c.forget_left.ensures.capacity,
      );
  blanks_fit = omega (arith, c.self.invariant.blanks_fit, c.in_ok-self-inside.ensures.less);
  strengths_fit = λ some. c.self.invariant.strengths_fit (omega (arith, some, c.in_ok-self-inside.ensures.less));
  begun_fits = omega (arith, c.self.invariant.begun_fits);
  counted = c.in_ok-self-inside.ensures.fits;
}

pub returns-then-see_taken-clause-took : goal.returns-then-see_taken-clause-took
returns-then-see_taken-clause-took c = λ q h stands fits right.
    let ss = c.args.samples.now in
    let e : Happening = Took ss in
    let ts : List InstanceTrack = c.self.inside.tracks.items in
    let s : Stands q (table_of c.self.inside) h = subst (λ (t : Table). Stands q t h) (sym c.self.view_is) stands in
    let left : is_any_left q h ss ≡ true =
    sym (c.see_taken.ensures.left q h s.follows) ∙ c.if-see_taken.true in
    let noted : HoldsLeft q h ss (table_of c.self.inside) =
    subst (λ (t : Table). HoldsLeft q h ss t) (sym c.self.view_is) (right left) in
    let held =
    held-right q h ts (λ i. has_there q (e ∷ h) i (last_marker q i h))
    (subst (λ (ks : List Key). IsDistinct same_key ks) c.see_taken.ensures.keys c.forget_left.ensures.distinct)
    s.follows noted in
    stands-next q h e (table_of c.self.inside) _ (λ are. are) (λ it. record { tells = it.tells; joined_are = it.joined_are; counts = it.counts }) refl refl refl
    (subst (λ (xs : List InstanceTrack). Follows q (e ∷ h) xs)
    (sym (c.forget_left.ensures.kept ∙ ap (λ (xs : List InstanceTrack). filter lives_on xs) c.see_taken.ensures.sees))
    (follows-kept q h e lives_on (map (seen_in ss) ts) (reaches-took q h ss ts s.follows)
    (took-lives q h ss ts s.follows held)))
    (lawful-took q h ss fits s.lawful) s

pub returns-else-see_taken-clause-took : goal.returns-else-see_taken-clause-took
returns-else-see_taken-clause-took c = λ q h stands fits right.
    let ss = c.args.samples.now in
    let e : Happening = Took ss in
    let ts : List InstanceTrack = c.self.inside.tracks.items in
    let s : Stands q (table_of c.self.inside) h = subst (λ (t : Table). Stands q t h) (sym c.self.view_is) stands in
    let none : is_any_left q h ss ≡ false =
    sym (c.see_taken.ensures.left q h s.follows) ∙ c.if-see_taken.false in
    stands-next q h e (table_of c.self.inside) _ (λ are. are) (λ it. record { tells = it.tells; joined_are = it.joined_are; counts = it.counts }) refl refl refl
    (subst (λ (xs : List InstanceTrack). Follows q (e ∷ h) xs) (sym c.see_taken.ensures.sees)
    (follows-took q h ss ts none s.follows))
    (lawful-took q h ss fits s.lawful) s
