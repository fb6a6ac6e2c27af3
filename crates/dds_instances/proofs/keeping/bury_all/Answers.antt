use Rattle.std.proofs.Common.{◌≡◌, ℕ, ◌<◌, List, length, get_or, set, subst, sym, ap, ◌∙◌, arith, ⊎_elim}
use Rattle.std.proofs.lemmas.Bool.{cases_eq}
use Rattle.std.proofs.lemmas.List.{length-set, get_or-set_same, get_or-set_other, get_or_default}
use Rattle.dds_instances.specs.declared.track.InstanceTrack.{InstanceTrack}
use Rattle.dds_instances.proofs.EndingLaws.{Buries, died-right, reaches-died}
use Rattle.dds_instances.proofs.StandingLaws.{fits-advanced, keys-set}
use Rattle.dds_instances.proofs.MarkerLaws.{marked-buried}
use Rattle.dds_instances.proofs.keeping.bury_all.Goals as goal

pub loop-at-preserved : goal.loop-at-preserved
loop-at-preserved c =
    let old : List InstanceTrack = c.args.tracks.now.items in
    let ts : List InstanceTrack = c.loop-at.tracks.items in
    let at : ℕ = c.loop-at.at in
    let t : InstanceTrack = c.index_mut.result.now in
    let x : InstanceTrack = c.bury.new.self in
    let step : Buries c.args.position c.args.writer t x =
    record { advances = c.bury.ensures.advances; died = c.bury.ensures.died; fewer = c.bury.ensures.fewer } in
    let inside : at < length ts =
    omega (arith, c.loop-at-test.true, c.len-at-end.ensures, c.args.tracks.now.ok.0, c.loop-at.invariant.len) in
    record {
      len = length-set ts at x ∙ c.loop-at.invariant.len;
      vec_len = c.loop-at.invariant.vec_len;
      capacity = c.loop-at.invariant.capacity;
      keys =
          keys-set ts at x inside (c.bury.ensures.advances.key
          ∙ ap (λ (y : InstanceTrack). y.key) (c.index_mut.ensures.value ∙ get_or_default ts at t x inside))
          ∙ c.loop-at.invariant.keys;
      done = λ k d below. ⊎_elim
          (λ same. let then_is : get_or (set ts at x) k d ≡ x = ap (λ (n : ℕ). get_or (set ts at x) n d) same
          ∙ get_or-set_same ts at x d inside in
          let was : t ≡ get_or old k d =
          c.index_mut.ensures.value
          ∙ (get_or_default ts at t d inside
          ∙ (c.loop-at.invariant.left at d (omega arith) ∙ ap (λ (n : ℕ). get_or old n d) (sym same))) in
          subst (λ (y : InstanceTrack). Buries c.args.position c.args.writer (get_or old k d) y) (sym then_is)
          (subst (λ (y : InstanceTrack). Buries c.args.position c.args.writer y x) was step))
          (λ differ. subst (λ (y : InstanceTrack). Buries c.args.position c.args.writer (get_or old k d) y)
          (sym (get_or-set_other ts at k x d differ)) (c.loop-at.invariant.done k d (omega (arith, differ))))
          (cases_eq k at);
      left =
          λ k d from. get_or-set_other ts at k x d (λ same. omega (arith, from, same))
          ∙ c.loop-at.invariant.left k d (omega (arith, from));
    }

pub returns-clause-fits : goal.returns-clause-fits
returns-clause-fits c = λ k d within.
    let inside : k < length c.args.tracks.now.items = omega (arith, within, c.loop-at.invariant.len) in
    let below : k < c.loop-at.at =
    omega (arith, inside, c.loop-at-test.false, c.len-at-end.ensures, c.args.tracks.now.ok.0) in
    fits-advanced _ c.args.position (get_or c.args.tracks.now.items k d) (get_or c.loop-at.tracks.items k d)
    (c.requires.fits k d inside) (c.loop-at.invariant.done k d below).advances

pub returns-clause-marked : goal.returns-clause-marked
returns-clause-marked c =
    marked-buried c.args.position c.args.writer c.args.tracks.now.items c.loop-at.tracks.items c.loop-at.invariant.len
    c.requires.fits
    (λ k d inside. c.loop-at.invariant.done k d
    (omega (arith, inside, c.loop-at-test.false, c.len-at-end.ensures, c.args.tracks.now.ok.0)))

pub returns-clause-reaches : goal.returns-clause-reaches
returns-clause-reaches c = λ q h now before matched.
    reaches-died q h c.args.writer now c.args.position c.args.tracks.now.items c.loop-at.tracks.items before matched
    c.loop-at.invariant.len c.loop-at.invariant.keys
    (λ k d inside. c.loop-at.invariant.done k d
    (omega (arith, inside, c.loop-at-test.false, c.len-at-end.ensures, c.args.tracks.now.ok.0)))

pub returns-clause-lives : goal.returns-clause-lives
returns-clause-lives c = λ q h now before held.
    died-right q h c.args.writer now c.args.position c.args.tracks.now.items c.loop-at.tracks.items before
    c.loop-at.invariant.len
    (λ k d inside. c.loop-at.invariant.done k d
    (omega (arith, inside, c.loop-at-test.false, c.len-at-end.ensures, c.args.tracks.now.ok.0)))
    held
