use Rattle.std.proofs.Common.{rules}
use Rattle.dds_discovery.proofs.discovery.Discovery.take_in_at.Goals as goal

pub returns : goal.returns
returns c = record {
  link = c.index_mut.result.now;
  after = c.take_in.new.link;
  at = search rules;
  takes = rw (← c.self.view_is) c.take_in.ensures;
  state = search rules;
}
