use Rattle.std.proofs.Common.{◌≡◌, length}
use Rattle.dds_trace.specs.Weaving.{Reaches, none_placed}
use Rattle.dds_trace.specs.Knowing.{Knows}
use Rattle.dds_trace.proofs.Orders.{left}
use Rattle.dds_trace.proofs.weaving.place_all.Given as goal

abbrev pub invariant-loop-next : goal.invariant-loop-next
invariant-loop-next l = record {
  fits : length l.counts.items ≡ length l.traces;
  reaches : Reaches l.traces (none_placed l.traces) l.order.items l.counts.items;
  knows : Knows l.traces l.counts.items l.sent;
}

abbrev pub decreases-loop-next : goal.decreases-loop-next
decreases-loop-next l = left l.traces l.counts.items
