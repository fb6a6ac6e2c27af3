use Rattle.std.proofs.Common.{◌≡◌, ◌≤◌, ◌<◌, ◌+◌, ◌*◌, ◌-◌, min, ℕ, List, vec_len, vec_capacity}
use Rattle.std.specs.Prelude.{None}
use Rattle.dds_base.specs.declared.happening.Happening.{Happening}
use Rattle.rtps_sets.specs.Window.{mark_of, window_place}
use Rattle.rtps_reader.specs.HeldChanges.{count_held}
use Rattle.rtps_reader.specs.Proxy.{tracked}
use Rattle.rtps_reader.specs.Sound.{IsSound}
use Rattle.rtps_reader.specs.Moving.{match_of}
use Rattle.rtps_reader.proofs.MoveLaws.{Progress}
use Rattle.rtps_reader.proofs.writer_proxy.WriterProxy.advance.Given as goal

abbrev pub invariant-moving : goal.invariant-moving
invariant-moving g l = record {
  sound : IsSound l.self;
  qos : g.S.Sink.qos l.sink ≡ g.S.Sink.qos l.fn.sink;
  writers : g.S.Sink.writers l.sink ≡ g.S.Sink.writers l.fn.sink;
  outside : (n : ℕ) → window_place l.fn.self.window + 256 ≤ n → mark_of l.self.window n ≡ None;
  runs : vec_len l.runs + min (count_held l.self.held)
      (window_place l.fn.self.window + 256 - window_place l.self.window) < vec_capacity l.runs;
  short : vec_len l.runs + min (count_held l.self.held)
      (window_place l.fn.self.window + 256 - window_place l.self.window) ≤ 256;
  spare : 2 * min (count_held l.self.held)
      (window_place l.fn.self.window + 256 - window_place l.self.window) + 2 ≤ g.S.Sink.spare l.sink;
  progress : (h : List Happening) → g.S.Sink.stands l.fn.sink h
      → Progress (match_of (g.S.Sink.qos l.fn.sink) l.source) (tracked l.fn.self) h l.runs.items (tracked l.self)
      (g.S.Sink.stands l.sink) (window_place l.self.window);
}

abbrev pub decreases-moving : goal.decreases-moving
decreases-moving g l = count_held l.self.held
