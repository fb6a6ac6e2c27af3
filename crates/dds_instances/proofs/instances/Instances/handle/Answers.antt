use Rattle.std.proofs.Common.{ap, ◌∙◌}
use Rattle.dds_instances.specs.Table.{Table}
use Rattle.dds_instances.proofs.StandingLaws.{follows-of, handle-none}
use Rattle.dds_instances.proofs.instances.Instances.handle.Goals as goal

pub returns-in-Some : goal.returns-in-Some
returns-in-Some c = record {
  handle = λ q h stands.
      let both = c.in-Some.ensures.kept q h
      (follows-of q h c.args.self.now c.deref.result.now
      (c.deref.ensures.value ∙ ap (λ (t : Table). t.tracks) c.self.view_is) stands) in
      c.new.ensures.number ∙ both.0.handle_is both.1;
}

pub returns-in-None : goal.returns-in-None
returns-in-None c = record {
  handle = λ q h stands. handle-none q h c.args.key
      (c.in-None.ensures.kept q h
      (follows-of q h c.args.self.now c.deref.result.now
      (c.deref.ensures.value ∙ ap (λ (t : Table). t.tracks) c.self.view_is) stands));
}
