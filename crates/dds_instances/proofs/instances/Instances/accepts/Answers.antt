use Rattle.std.proofs.Common.{ap, ◌∙◌, Option}
use Rattle.dds_instances.specs.Table.{Table}
use Rattle.std.specs.Prelude.{is_some}
use Rattle.dds_base.specs.declared.change.ChangeKind.{ChangeKind}
use Rattle.dds_instances.proofs.StandingLaws.{follows-of, tells-of, accepts-first, accepts-shared}
use Rattle.dds_instances.proofs.instances.Instances.accepts.Goals as goal

pub returns-in-Some : goal.returns-in-Some
returns-in-Some c =
    record {
      accepts = λ h stands. c.is_some.ensures
          ∙ (ap (λ (k : Option ChangeKind). is_some k)
          (c.accepted.ensures.accepted h
          ((c.in-Some.ensures.kept c.args.qos.now h
          (follows-of c.args.qos.now h c.args.self.now c.deref.result.now
          (c.deref.ensures.value ∙ ap (λ (t : Table). t.tracks) c.self.view_is) stands)).0).owners_are
          (λ exclusive. tells-of c.args.qos.now h c.args.self.now c.self.inside.strengths
          (ap (λ (t : Table). t.strengths) c.self.view_is) stands)));
    }

pub returns-in-None : goal.returns-in-None
returns-in-None c =
    record {
      accepts = λ h stands. c.is_write_or_dispose-in-None.ensures.kind
          ∙ accepts-first c.args.qos.now h c.args.arrival.now stands.follows.matched
          (c.in-None.ensures.kept c.args.qos.now h
          (follows-of c.args.qos.now h c.args.self.now c.deref.result.now
          (c.deref.ensures.value ∙ ap (λ (t : Table). t.tracks) c.self.view_is) stands));
    }

pub returns-in-Shared : goal.returns-in-Shared
returns-in-Shared c =
    record {
      accepts = λ h stands. c.is_write_or_dispose.ensures.kind
          ∙ accepts-shared c.args.qos.now h c.args.arrival.now c.in-Shared.is;
    }
