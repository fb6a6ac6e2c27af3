use Rattle.std.proofs.Common.{rules}
use Rattle.dds_discovery.proofs.discovery.Discovery.turned_at.Goals as goal

pub returns-clause-turned : goal.returns-clause-turned
returns-clause-turned c = (c.index.result.now, search rules, c.in_ok-turned.ensures.turned)
