use Rattle.std.proofs.Common.{rules, not, ap, ◌∙◌}
use Rattle.std.proofs.lemmas.Fn.{filter_same}
use Rattle.dds_conditions.specs.Attached.{detached, same_condition}
use Rattle.dds_conditions.proofs.wait_set.WaitSet.forget.Goals as goal

pub returns : goal.returns
returns c =
    filter_same _ (λ d. not (same_condition c.args.condition d)) _ (λ x b f' k. search rules) _ _
    c.retain.ensures.filtered
    ∙ ap (detached c.args.condition) c.self.view_is
