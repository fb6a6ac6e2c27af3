use Rattle.std.proofs.Common.{sym, ap, ◌∙◌}
use Rattle.dds_instances.specs.Table.{Table}
use Rattle.dds_instances.proofs.StandingLaws.{follows-of}
use Rattle.dds_instances.proofs.KnownLaws.{unknown}
use Rattle.dds_instances.proofs.instances.Instances.counts.Goals as goal

pub returns-in-None-clause-disposed : goal.returns-in-None-clause-disposed
returns-in-None-clause-disposed c =
    λ q h stands. sym (unknown q c.args.key h stands.follows.matched
    (c.in-None.ensures.kept q h
    (follows-of q h c.args.self.now c.deref.result.now
    (c.deref.ensures.value ∙ ap (λ (t : Table). t.tracks) c.self.view_is) stands))).disposed

pub returns-in-None-clause-no_writers : goal.returns-in-None-clause-no_writers
returns-in-None-clause-no_writers c =
    λ q h stands. sym (unknown q c.args.key h stands.follows.matched
    (c.in-None.ensures.kept q h
    (follows-of q h c.args.self.now c.deref.result.now
    (c.deref.ensures.value ∙ ap (λ (t : Table). t.tracks) c.self.view_is) stands))).no_writers
