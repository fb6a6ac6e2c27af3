-- those that were asked so far, and are true, are found
use Rattle.std.proofs.Common.{◌≡◌, take}
use Rattle.dds_protocol.specs.Roster.{Roster}
use Rattle.dds_conditions.specs.Attached.{active_of}
use Rattle.dds_machine.specs.Watching.{trigger_value}
use Rattle.dds_protocol.specs.Peer.{Peer}
use Rattle.dds_core.specs.Remembering.{AreMisses}
use Rattle.dds_core.specs.Standing.{StandsFor}
use Rattle.dds_core.proofs.peer.Peer.active.Given as goal

abbrev pub invariant-loop-condition : goal.invariant-loop-condition
invariant-loop-condition g l = record {
  right : AreMisses (g.T.Filters.meaning l.filters) l.self l.misses;
  found : (roster : Roster) (peer : Peer) → StandsFor l.self roster peer
      → l.active.items ≡ active_of (trigger_value (g.T.Filters.meaning l.filters) peer.part)
      (take l.condition-index l.condition-items);
}
