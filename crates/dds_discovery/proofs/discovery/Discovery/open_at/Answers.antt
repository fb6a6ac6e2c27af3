use Rattle.std.proofs.Common.{rules, inl, inr}
use Rattle.dds_discovery.proofs.discovery.Discovery.open_at.Goals as goal

pub returns-in_ok-push-in-Some-clause-ok : goal.returns-in_ok-push-in-Some-clause-ok
returns-in_ok-push-in-Some-clause-ok c = record {
  row = c.index-rows-place.result;
  at = search rules;
  opens = inl (c.in-Some.link, search rules, search rules);
}

pub returns-in_ok-push-in-None-clause-ok : goal.returns-in_ok-push-in-None-clause-ok
returns-in_ok-push-in-None-clause-ok c = record {
  row = c.index-rows-place.result;
  at = search rules;
  opens = inr (search rules, search rules);
}
