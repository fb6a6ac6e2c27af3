use Rattle.std.proofs.Common.{◌≤◌, ◌+◌, ◌^◌}
use Rattle.rtps_reader.specs.Moving.{ArePassable}
use Rattle.rtps_reader.specs.Proxy.{tracked}
use Rattle.rtps_reader.proofs.writer_proxy.WriterProxy.run_end.Given as goal

abbrev pub invariant-loop-number : goal.invariant-loop-number
invariant-loop-number l = record {
  passable : ArePassable (tracked l.self) l.place l.number;
  small : l.number ≤ 2 ^ 62 + 256;
}
