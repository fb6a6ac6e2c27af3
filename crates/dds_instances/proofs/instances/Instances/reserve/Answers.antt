use Rattle.std.proofs.Common.{List, subst, sym}
use Rattle.dds_instances.specs.declared.track.InstanceTrack.{InstanceTrack}
use Rattle.dds_instances.specs.Following.{Follows}
use Rattle.dds_instances.specs.Sound.{table_of}
use Rattle.dds_instances.specs.Table.{Stands, Table}
use Rattle.dds_instances.proofs.instances.Instances.reserve.Goals as goal

pub returns-clause-same : goal.returns-clause-same
returns-clause-same c = λ q h stands.
    let s : Stands q (table_of c.self.inside) h = subst (λ (t : Table). Stands q t h) (sym c.self.view_is) stands in
    record {
      writers_are = s.writers_are;
      happened_is = s.happened_is;
      strengths_are = c.reserve-3.ensures.same h s.strengths_are;
      begun_is = s.begun_is;
      follows = subst (λ (ts : List InstanceTrack). Follows q h ts) (sym c.reserve-2.ensures.items) s.follows;
      lawful = s.lawful;
    }
