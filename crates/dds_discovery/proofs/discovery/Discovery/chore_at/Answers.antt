use Rattle.std.proofs.Common.{rules}
use Rattle.dds_discovery.proofs.discovery.Discovery.chore_at.Goals as goal

pub returns : goal.returns
returns c = record {
  link = c.index-link.result.now;
  at = search rules;
  is = search rules;
}
