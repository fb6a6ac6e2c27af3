use Rattle.std.proofs.Common.{List, map, ap, sym, ◌∙◌}
use Rattle.dds_base.specs.declared.happening.SamplePosition.{SamplePosition}
use Rattle.dds_instances.specs.Table.{is_any_left}
use Rattle.dds_instances.specs.Track.{seen_in}
use Rattle.dds_instances.proofs.SeeingLaws.{one-sample, or-none}
use Rattle.dds_instances.proofs.keeping.see_taken.Goals as goal

pub returns-then-samples-eq1-clause-sees : goal.returns-then-samples-eq1-clause-sees
returns-then-samples-eq1-clause-sees c =
    c.see_sample.ensures.sees
    ∙ ap (λ (ss : List SamplePosition). map (seen_in ss) c.args.tracks.now.items)
    (sym (one-sample c.args.samples.now _ c.if-samples-eq1.true))

pub returns-then-samples-eq1-clause-left : goal.returns-then-samples-eq1-clause-left
returns-then-samples-eq1-clause-left c = λ q h follows.
    c.see_sample.ensures.left q h follows
    ∙ (sym (or-none _)
    ∙ ap (λ (ss : List SamplePosition). is_any_left q h ss) (sym (one-sample c.args.samples.now _ c.if-samples-eq1.true)))
