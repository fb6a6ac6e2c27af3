use Rattle.std.proofs.Common.{◌≡◌, ◌≤◌}
use Rattle.dds_core.specs.Resuming.{SameRows}
use Rattle.dds_ends.specs.Twins.{wants_two}
use Rattle.dds_core.proofs.ResumedRows.{TriesTo}
use Rattle.dds_core.proofs.peer.Peer.resume_rows.Given as goal

-- the places at the rows so far were tried again
abbrev pub invariant-loop-row : goal.invariant-loop-row
invariant-loop-row l = record {
  tried : TriesTo l.initial.self l.fn.index l.row l.effects.moves.items l.self;
  rows : SameRows l.fn.index l.initial.self l.self;
  few : l.effects.sent.unsent ≤ l.row;
  twice : l.effects.moves.twice ≡ wants_two l.twin;
  still : l.twin ≡ l.initial.twin;
}
