use Rattle.std.proofs.Common.{◌≡◌, ◌+◌, ◌*◌, ◌≤◌, Some, length, drop, slice_get}
use Rattle.dds_core.specs.Answering.{TakesRows}
use Rattle.dds_ends.specs.Kept.{WriterKept}
use Rattle.dds_core.specs.Receiving.{GoOn}
use Rattle.dds_core.proofs.peer.Peer.answer_rows.Given as goal

-- the readers so far were answered, and the rest is as it was
abbrev pub invariant-loop-row : goal.invariant-loop-row
invariant-loop-row l = record {
  takes : (k : WriterKept) → slice_get l.initial.self.writers l.fn.index ≡ Some k
      → TakesRows l.initial.self l.fn.index l.fn.body k l.fn.rooms.items l.row l.initial.effects l.self l.effects;
  rest : drop l.row l.rooms.items ≡ drop l.row l.fn.rooms.items;
  count : length l.rooms.items ≡ length l.fn.rooms.items;
  on : GoOn (256 * l.row) l.initial.effects l.effects;
  room : length l.fn.rooms.items ≤ l.effects.moves.room + l.row;
}
