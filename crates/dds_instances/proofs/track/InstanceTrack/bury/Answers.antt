use Rattle.std.proofs.Common.{◌∷◌, subst, sym}
use Rattle.dds_base.specs.declared.happening.Happening.TheVariants.{Died}
use Rattle.dds_owner.specs.Standing.{Kept, StandsFor}
use Rattle.dds_instances.proofs.track.InstanceTrack.bury.Goals as goal

pub returns-clause-died : goal.returns-clause-died
returns-clause-died c = λ q i h moment given.
    subst (λ (k : Kept). StandsFor k q i (Died c.args.writer moment ∷ h)) (sym c.count.ensures.owners)
    (c.drop_writer.ensures.died q i h moment given)
