use Rattle.std.proofs.Common.{ap, ◌∙◌}
use Rattle.dds_instances.specs.Table.{Table}
use Rattle.dds_instances.proofs.StandingLaws.{follows-of}
use Rattle.dds_instances.proofs.instances.Instances.is_any_left.Goals as goal

pub returns : goal.returns
returns c = record {
  left = λ q h stands. c.is_any_left.ensures q h
      (follows-of q h c.args.self.now c.deref.result.now
      (c.deref.ensures.value ∙ ap (λ (t : Table). t.tracks) c.self.view_is) stands);
}
