use Rattle.std.proofs.Common.{rules}
use Rattle.dds_discovery.proofs.discovery.Discovery.leave.Goals as goal

pub returns-clause-ok : goal.returns-clause-ok
returns-clause-ok c = record {
  link = c.index.result.now;
  at = search rules;
  state = search rules;
  told_is = search rules;
}
