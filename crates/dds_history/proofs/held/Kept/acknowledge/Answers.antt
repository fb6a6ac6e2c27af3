use Rattle.std.proofs.Common.{◌∙◌}
use Rattle.dds_history.proofs.held.Kept.acknowledge.Goals as goal

pub returns-clause-rest : goal.returns-clause-rest
returns-clause-rest c = λ last holds.
    let rest = c.let_go.ensures.rest last holds in
    let keys = c.tidy_keys.ensures.same last rest.0 in
    (keys.0, keys.1 ∙ rest.1)
