use Rattle.std.proofs.Common.{◌≡◌, ◌≤◌, ◌<◌, ℕ, List, length}
use Rattle.std.specs.Prelude.{slice_get, Some}
use Rattle.dds_base.specs.declared.happening.Happening.{Happening}
use Rattle.rtps_reader.specs.declared.known_writer.KnownWriter.{KnownWriter}
use Rattle.rtps_reader.specs.Proxy.{IsWriterReady}
use Rattle.rtps_reader.specs.Reader.{AllStand, AllStay, count_of}
use Rattle.rtps_reader.specs.Sound.{AreSound}
use Rattle.rtps_reader.proofs.stateful_reader.StatefulReader.reserve.Given as goal

abbrev pub invariant-loop-at : goal.invariant-loop-at
invariant-loop-at g l = record {
  same : AllStay l.fn.self (record { writers = l.self-inside.writers.items });
  how : AllStand l.fn.self (record { writers = l.self-inside.writers.items });
  sound : AreSound l.self-inside.writers.items;
  len : length l.self-inside.writers.items ≡ count_of l.fn.self;
  stands : (h : List Happening) → g.S.Sink.stands l.fn.sink h → g.S.Sink.stands l.sink h;
  qos : g.S.Sink.qos l.sink ≡ g.S.Sink.qos l.fn.sink;
  writers : g.S.Sink.writers l.sink ≡ g.S.Sink.writers l.fn.sink;
  spare : g.S.Sink.spare l.fn.sink ≤ g.S.Sink.spare l.sink;
  ready : (k : ℕ) (p : KnownWriter) → k < l.at → slice_get l.self-inside.writers.items k ≡ Some p
      → IsWriterReady p (g.S.Sink.spare l.sink);
  later : (k : ℕ) → l.at ≤ k → slice_get l.self-inside.writers.items k ≡ slice_get l.fn.self.writers k;
}
