-- One filter more at a peer, and nothing else.
--
-- DDS 1.4, 2.2.2.5 (QueryCondition).
use Rattle.std.specs.Prelude.{ℕ}
use Rattle.dds_conditions.specs.Watched.{with_filter}
use Rattle.dds_machine.specs.Numbered.{with_numbered}
use Rattle.dds_machine.specs.Part.{Part}
use Rattle.dds_machine.specs.Machine.{Machine, part_at}

-- a peer's part with one filter more
abbrev pub part_with_filter : Part → Part
part_with_filter part = record part { dds = record part.dds { watch = with_filter part.dds.watch } }

-- the machine with one filter more at the peer of this number
abbrev pub machine_with_filter : Machine → ℕ → Machine
machine_with_filter m peer = record { parts = with_numbered m.parts peer (part_with_filter (part_at m peer)) }
