use Rattle.dds_trace.proofs.Cores.{honest_orders_run}
use Rattle.dds_trace.proofs.laws.honest_orders_run.Goals as goal

pub returns : goal.returns
returns g c = record {
  run = λ given config cores ts.
      honest_orders_run g.F.Filter.meaning g.L.Listener.notices g.L.Listener.capacity g.L.Listener.becomes given config cores ts;
}
