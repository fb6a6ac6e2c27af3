use Rattle.std.proofs.Common.{◌≡◌, ◌-◌, ◌*◌, drop, length}
use Rattle.rtps_wire.specs.SetAt.{words_at}
use Rattle.rtps_wire.proofs.SetLaws.{with_front}
use Rattle.rtps_wire.proofs.set_field.take_words.Given as goal

abbrev pub invariant-loop-at : goal.invariant-loop-at
invariant-loop-at l = record {
  so_far : with_front l.words.items (words_at l.order (l.count - l.at) (drop (4 * l.at) l.bytes))
      ≡ words_at l.order l.count l.bytes;
  len : length l.words.items ≡ l.at;
}
