use Rattle.std.proofs.Common.{◌≡◌, take}
use Rattle.dds_notices.proofs.slot.kept_by.Given as goal

-- so many were looked at
abbrev pub invariant-loop-at : goal.invariant-loop-at
invariant-loop-at g l = l.kept.items ≡ take l.at (g.L.Listener.notices l.fn.listener)
