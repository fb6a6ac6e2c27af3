use Rattle.std.proofs.Common.{◌≡◌, ◌<◌, ℕ, length}
use Rattle.rtps_reader.specs.Tracked.{fresh}
use Rattle.rtps_reader.specs.declared.attachment.Attachment.TheVariants.{Begun}
use Rattle.rtps_reader.specs.Reader.{Tracks, how_at}
use Rattle.rtps_reader.specs.Sound.{AreSound}
use Rattle.rtps_reader.proofs.stateful_reader.StatefulReader.open.Given as goal

abbrev pub invariant-loop : goal.invariant-loop
invariant-loop l = record {
  sound : AreSound l.known.items;
  len : length l.known.items ≡ l.counter;
  fresh : (index : ℕ) → index < l.counter → Tracks (record { writers = l.known.items }) index fresh;
  begun : (index : ℕ) → index < l.counter → how_at (record { writers = l.known.items }) index ≡ Begun;
}
