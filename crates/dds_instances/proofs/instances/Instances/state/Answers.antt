use Rattle.std.proofs.Common.{ap, ◌∙◌}
use Rattle.dds_instances.specs.Table.{Table}
use Rattle.dds_instances.proofs.StandingLaws.{follows-of}
use Rattle.dds_instances.proofs.TrackLaws.{state-tracked}
use Rattle.dds_instances.proofs.instances.Instances.state.Goals as goal

pub returns-in-Some : goal.returns-in-Some
returns-in-Some c =
    record {
      state = λ q h stands. c.state.ensures
          ∙ state-tracked q c.args.key h c.in-Some.track.now
          ((c.in-Some.ensures.kept q h
          (follows-of q h c.args.self.now c.deref.result.now
          (c.deref.ensures.value ∙ ap (λ (t : Table). t.tracks) c.self.view_is) stands)).0);
    }
