use Rattle.dds_world.proofs.Ruled.{machine_steps, rules_at}
use Rattle.dds_world.proofs.world.World.step.Goals as goal

pub returns-clause-step : goal.returns-clause-step
returns-clause-step g c = λ given. machine_steps _ _ _ _ (c.happen.ensures.steps given)

pub returns-clause-rules : goal.returns-clause-rules
returns-clause-rules g c = λ given. rules_at _ _ _ _ (c.happen.ensures.steps given) (c.happen.ensures.sends given)
