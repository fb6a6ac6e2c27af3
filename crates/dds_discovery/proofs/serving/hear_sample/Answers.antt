use Rattle.std.proofs.Common.{rules, inl}
use Rattle.dds_discovery.proofs.serving.hear_sample.Goals as goal

pub returns-clause-ok : goal.returns-clause-ok
returns-clause-ok c = inl (record {
  first = c.in-Some.first.now;
  items = search rules;
  hears = c.in_ok-told.ensures.ok;
})
