use Rattle.std.proofs.Common.{◌≡◌, ◌≤◌, ◌+◌, ◌^◌, ℕ}
use Rattle.std.specs.Prelude.{None}
use Rattle.rtps_sets.specs.Window.{mark_of, window_place}
use Rattle.rtps_reader.specs.Moving.{mark_named}
use Rattle.rtps_reader.proofs.writer_proxy.mark_named.Given as goal

abbrev pub invariant-loop-number : goal.invariant-loop-number
invariant-loop-number l = record {
  place : window_place l.window ≡ window_place l.fn.window;
  marks : (n : ℕ) → mark_of l.window n ≡ mark_named l.start l.list l.number l.fn.window n;
  small : (n : ℕ) → 2 ^ 62 + 256 ≤ n → mark_of l.fn.window n ≡ None → mark_of l.window n ≡ None;
}
