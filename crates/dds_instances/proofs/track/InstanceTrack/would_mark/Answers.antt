use Rattle.std.proofs.Common.{not, Option, ap, ◌∙◌}
use Rattle.dds_base.specs.declared.change.ChangeKind.{ChangeKind}
use Rattle.dds_base.specs.declared.sample.InstanceState.{InstanceState}
use Rattle.dds_base.specs.Life.{state_after, becomes_not_alive}
use Rattle.dds_instances.specs.Track.{state_of_track}
use Rattle.dds_instances.proofs.ForesightLaws.{marks-tracked}
use Rattle.dds_instances.proofs.track.InstanceTrack.would_mark.Goals as goal

pub returns : goal.returns
returns c = λ h tracks tells many.
    let after : Option ChangeKind → Option InstanceState =
    λ last. state_after last (not c.would_have_writers-nobody.result) in
    c.is_new_end.ensures
    ∙ (ap (λ (s : Option InstanceState). becomes_not_alive s c.state_by.result) c.state.ensures
    ∙ (ap (λ (s : Option InstanceState). becomes_not_alive (state_of_track c.args.self.now) s)
    (c.state_by.ensures ∙ ap after c.first_there-last.ensures)
    ∙ marks-tracked c.args.qos.now h c.args.arrival.now c.args.self.now c.accepted-accepted.result
    c.would_have_writers-nobody.result tracks
    (c.accepted-accepted.ensures.accepted h tracks.owners_are (λ exclusive. tells))
    (c.would_have_writers-nobody.ensures.anybody c.args.qos.now h tracks.owners_are many)))
