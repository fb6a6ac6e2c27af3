-- the rows so far are listed
use Rattle.std.proofs.Common.{take}
use Rattle.rtps_discovery.specs.Rows.{has_row}
use Rattle.dds_participant.specs.Watching.{Lists}
use Rattle.dds_participant.proofs.watcher.list_rows.Given as goal

abbrev pub invariant-loop-row : goal.invariant-loop-row
invariant-loop-row l = Lists (has_row l.prefix (take l.row-index l.rows)) l.initial.lines.items l.lines.items
