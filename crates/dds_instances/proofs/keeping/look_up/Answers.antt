use Rattle.std.proofs.Common.{List, subst}
use Rattle.dds_base.specs.declared.key.Key.{Key}
use Rattle.dds_instances.specs.Following.{IsPlaceOf}
use Rattle.dds_instances.proofs.StandingLaws.{track-at, nothing-at, known-at}
use Rattle.dds_instances.proofs.keeping.look_up.Goals as goal

pub returns-in-None-clause-kept : goal.returns-in-None-clause-kept
returns-in-None-clause-kept c =
    λ q h follows. nothing-at q h c.args.tracks.now c.args.index.now.keys c.args.key c.requires.indexed
    c.in-None.ensures follows

pub returns-in-Some-clause-kept : goal.returns-in-Some-clause-kept
returns-in-Some-clause-kept c = λ q h follows. (
  track-at q h c.args.tracks.now c.args.index.now.keys c.args.key c.in-Some.at c.index-tracks-at.result
      c.requires.indexed c.in-Some.ensures c.index-tracks-at.is follows,
  known-at q h c.args.tracks.now c.args.key c.in-Some.at
      (subst (λ (ks : List Key). IsPlaceOf ks c.args.key c.in-Some.at) c.requires.indexed c.in-Some.ensures) follows,
)
