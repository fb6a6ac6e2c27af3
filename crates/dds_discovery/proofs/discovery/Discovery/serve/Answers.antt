use Rattle.std.proofs.Common.{rules}
use Rattle.dds_discovery.proofs.discovery.Discovery.serve.Goals as goal

pub returns-clause-ok : goal.returns-clause-ok
returns-clause-ok c = record {
  chore = c.chore_at-chore.result;
  link = c.index_mut.result.now;
  after = c.serve.new.link;
  endpoints = c.serve.new.endpoints;
  is = c.chore_at-chore.ensures;
  at = search rules;
  does = rw (← c.self.view_is, ← c.deref.ensures.value, ← c.rows.ensures.rows) c.in_ok-done.ensures.ok;
  state = search rules;
}
