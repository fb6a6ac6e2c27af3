use Rattle.std.proofs.Common.{rules}
use Rattle.dds_lease.proofs.StandingLaws.{counted-matched}
use Rattle.dds_ends.proofs.store.StoreSink.come.Goals as goal

pub returns-clause-ok : goal.returns-clause-ok
returns-clause-ok c = λ h holds. record {
  cache = search (rules, counted-matched);
  leases = search (rules, counted-matched);
  lost_is = search rules;
  passed_is = search rules;
  turned_is = search (rules, counted-matched);
}
