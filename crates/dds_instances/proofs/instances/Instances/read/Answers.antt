use Rattle.std.proofs.Common.{List, ◌∷◌, subst, sym, refl}
use Rattle.dds_base.specs.declared.happening.Happening.TheVariants.{Read}
use Rattle.dds_instances.specs.declared.track.InstanceTrack.{InstanceTrack}
use Rattle.dds_instances.specs.Following.{Follows}
use Rattle.dds_instances.specs.Table.{Table, Stands}
use Rattle.dds_instances.specs.Sound.{table_of}
use Rattle.dds_instances.proofs.EndingLaws.{follows-read, lawful-read, stands-next}
use Rattle.dds_instances.proofs.instances.Instances.read.Goals as goal

pub returns-clause-read : goal.returns-clause-read
returns-clause-read c = λ q h stands fits.
    let s : Stands q (table_of c.self.inside) h = subst (λ (t : Table). Stands q t h) (sym c.self.view_is) stands in
    stands-next q h (Read c.args.samples.now) (table_of c.self.inside) _ (λ are. are) (λ it. record { tells = it.tells; joined_are = it.joined_are; counts = it.counts }) refl refl refl
    (subst (λ (ts : List InstanceTrack). Follows q (Read c.args.samples.now ∷ h) ts) (sym c.see_all.ensures.sees)
    (follows-read q h c.args.samples.now c.self.inside.tracks.items s.follows))
    (lawful-read q h c.args.samples.now fits s.lawful) s
