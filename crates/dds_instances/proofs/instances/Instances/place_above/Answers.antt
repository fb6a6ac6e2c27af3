use Rattle.std.proofs.Common.{◌≡◌, List, ap, leb, rules, true, false, ◌∙◌}
use Rattle.std.specs.List.Sorted.{IsPartitionPoint}
use Rattle.std.proofs.lemmas.List.Sorted.{IsPartitionPoint-from_clause, IsPartitionedBy-leb}
use Rattle.dds_base.specs.declared.happening.Happening.{Happening}
use Rattle.dds_base.specs.declared.qos.ReaderQos.{ReaderQos}
use Rattle.dds_instances.specs.declared.track.InstanceTrack.{InstanceTrack}
use Rattle.dds_instances.specs.Following.{Follows}
use Rattle.dds_instances.specs.Table.{Stands, Table}
use Rattle.dds_instances.proofs.HandleLaws.{none-above, one-above, tracks-sorted}
use Rattle.dds_instances.proofs.StandingLaws.{follows-of}
use Rattle.dds_instances.proofs.instances.Instances.place_above.Goals as goal

follows : (c : goal.After-partition_point) (q : ReaderQos) (h : List Happening) → Stands q c.args.self.now h
    → Follows q h c.deref.result.now
follows c q h stands =
    follows-of q h c.args.self.now c.deref.result.now
    (c.deref.ensures.value ∙ ap (λ (t : Table). t.tracks) c.self.view_is) stands

point : (c : goal.After-partition_point) (q : ReaderQos) (h : List Happening) → Stands q c.args.self.now h
    → IsPartitionPoint (λ (t : InstanceTrack). leb t.handle c.args.previous ≡ true)
    (λ (t : InstanceTrack). leb t.handle c.args.previous ≡ false) c.deref.result.now c.partition_point.result
point c q h stands =
    IsPartitionPoint-from_clause (λ (t : InstanceTrack). leb t.handle c.args.previous) c.deref.result.now
    c.partition_point.result c.partition_point.ensures.partitioned
    (IsPartitionedBy-leb (λ (t : InstanceTrack). t.handle) c.deref.result.now c.args.previous
    (tracks-sorted q h c.deref.result.now (follows c q h stands))) (λ a r f k. search rules)

pub returns-clause-before : goal.returns-clause-before
returns-clause-before c = λ q h stands.
    none-above q h c.deref.result.now c.args.previous c.partition_point.result (follows c q h stands)
    (point c q h stands).0

pub returns-clause-above : goal.returns-clause-above
returns-clause-above c = λ q h stands.
    one-above q h c.deref.result.now c.args.previous c.partition_point.result (follows c q h stands)
    (point c q h stands).1
