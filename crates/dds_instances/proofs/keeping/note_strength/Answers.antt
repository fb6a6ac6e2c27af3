use Rattle.std.proofs.Common.{refl, rules}
use Rattle.dds_instances.proofs.keeping.note_strength.Goals as goal

pub returns-in-Some-clause-came : goal.returns-in-Some-clause-came
returns-in-Some-clause-came c = λ h low room tells.
    c.set_strength.ensures.came h c.args.arrival.now low room tells refl (search rules)
