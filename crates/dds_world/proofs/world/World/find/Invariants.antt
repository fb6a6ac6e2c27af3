use Rattle.dds_world.specs.Round.{IsTo, HasNone}
use Rattle.dds_world.proofs.world.World.find.Given as goal

-- none so far
abbrev pub invariant-loop-index : goal.invariant-loop-index
invariant-loop-index g l = HasNone (IsTo l.fn.peer l.fn.wanted) l.fn.self.sent l.fn.from l.index
