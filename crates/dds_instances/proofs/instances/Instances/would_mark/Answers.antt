use Rattle.std.proofs.Common.{ℕ, ap, sym, ◌∙◌}
use Rattle.dds_instances.specs.Table.{Table}
use Rattle.dds_instances.specs.Track.{is_born_dead}
use Rattle.dds_instances.proofs.StandingLaws.{follows-of, tells-of}
use Rattle.dds_instances.proofs.ForesightLaws.{marks-first}
use Rattle.dds_instances.proofs.instances.Instances.would_mark.Goals as goal

pub returns-in-Some : goal.returns-in-Some
returns-in-Some c =
    record {
      marks = λ h stands. c.would_mark.ensures h
          ((c.in-Some.ensures.kept c.args.qos.now h
          (follows-of c.args.qos.now h c.args.self.now c.deref.result.now
          (c.deref.ensures.value ∙ ap (λ (t : Table). t.tracks) c.self.view_is) stands)).0)
          (tells-of c.args.qos.now h c.args.self.now c.self.inside.strengths
          (ap (λ (t : Table). t.strengths) c.self.view_is) stands)
          (sym (ap (λ (t : Table). t.writers) c.self.view_is ∙ stands.writers_are));
    }

pub returns-in-None : goal.returns-in-None
returns-in-None c = record {
  marks = λ h stands.
      c.begins_dead.ensures
      ∙ (ap (λ (n : ℕ). is_born_dead n c.args.arrival.now.writer c.args.arrival.now.change.kind)
      (ap (λ (t : Table). t.writers) c.self.view_is ∙ stands.writers_are)
      ∙ marks-first c.args.qos.now h c.args.arrival.now stands.follows.matched
      (c.in-None.ensures.kept c.args.qos.now h
      (follows-of c.args.qos.now h c.args.self.now c.deref.result.now
      (c.deref.ensures.value ∙ ap (λ (t : Table). t.tracks) c.self.view_is) stands)));
}
