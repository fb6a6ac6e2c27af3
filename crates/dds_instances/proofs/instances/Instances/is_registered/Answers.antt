use Rattle.std.proofs.Common.{sym, ap, ◌∙◌}
use Rattle.dds_instances.specs.Table.{Table}
use Rattle.dds_instances.proofs.StandingLaws.{follows-of}
use Rattle.dds_instances.proofs.KnownLaws.{unknown, unregistered}
use Rattle.dds_instances.proofs.instances.Instances.is_registered.Goals as goal

pub returns-in-Some : goal.returns-in-Some
returns-in-Some c =
    record {
      registered = λ q h stands matched. c.is_registered.ensures.matched q c.args.key h
          ((c.in-Some.ensures.kept q h
          (follows-of q h c.args.self.now c.deref.result.now
          (c.deref.ensures.value ∙ ap (λ (t : Table). t.tracks) c.self.view_is) stands)).0).owners_are matched;
    }

pub returns-in-None : goal.returns-in-None
returns-in-None c =
    record {
      registered = λ q h stands matched.
          sym (unregistered q c.args.key h c.args.writer
          (unknown q c.args.key h stands.follows.matched
          (c.in-None.ensures.kept q h
          (follows-of q h c.args.self.now c.deref.result.now
          (c.deref.ensures.value ∙ ap (λ (t : Table). t.tracks) c.self.view_is) stands))).registered matched);
    }
