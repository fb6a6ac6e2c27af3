use Rattle.std.proofs.Common.{◌≡◌, ◌+◌, ◌*◌, ◌≤◌, length, drop}
use Rattle.dds_core.proofs.TakenSoFar.{TakesSome}
use Rattle.dds_core.specs.Receiving.{GoOn}
use Rattle.dds_core.proofs.peer.Peer.take_all.Given as goal

-- the readers so far were told what was ready for them, and the rest is as it was
abbrev pub invariant-loop-index : goal.invariant-loop-index
invariant-loop-index l = record {
  takes : TakesSome l.initial.self l.initial.ready.items l.index l.initial.effects l.self l.effects;
  rest : drop l.index l.ready.items ≡ drop l.index l.initial.ready.items;
  count : length l.ready.items ≡ length l.initial.ready.items;
  on : GoOn l.index l.initial.effects l.effects;
  room : 3 * length l.initial.ready.items ≤ l.effects.moves.room + 3 * l.index;
}
