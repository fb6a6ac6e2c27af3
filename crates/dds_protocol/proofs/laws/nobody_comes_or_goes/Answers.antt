use Rattle.dds_protocol.proofs.Closed.{begins_none, opens_closed, runs_closed, stays_closed}
use Rattle.dds_protocol.proofs.ClosedSteps.{acknowledges_no_more, best_effort_dropped, claims_dropped, owes_all, runs_alike}
use Rattle.dds_protocol.proofs.InOrderRuns.{closed_in_order}
use Rattle.dds_protocol.proofs.laws.nobody_comes_or_goes.Goals as goal

pub returns : goal.returns
returns c = record {
  opening = opens_closed;
  step = stays_closed;
  run = runs_closed;
  begins = begins_none;
  dropped = runs_alike;
  owed = owes_all;
  order = closed_in_order;
  claims = claims_dropped;
  acknowledged = acknowledges_no_more;
  best_effort = best_effort_dropped;
}
