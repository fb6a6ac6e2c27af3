-- Which submessage would be nothing to a reader, by what it knows of the writer that says it.
--
-- RTPS 2.5, 8.3.8 (Data: writerSN; Heartbeat: count), 8.4.10 (StatefulReader, WriterProxy).
use Rattle.std.specs.Prelude.{Bool, true, false, not, nat_lt, Option, Some, None}
use Rattle.dds_base.specs.Counts.{is_later}
use Rattle.rtps_reader.specs.Tracked.{Tracked}
use Rattle.rtps_wire.specs.declared.submessage.Submessage.{Submessage}
use Rattle.rtps_wire.specs.declared.submessage.Submessage.TheVariants.{Data, Heartbeat}
use Rattle.dds_base.specs.declared.endpoint.Endpoint.{Endpoint}
use Rattle.dds_machine.specs.Part.{same_endpoint}

-- to a reader that knows this of its writer a DATA is old whose number lies below the place, and a HEARTBEAT whose count
-- is not later than that of the last one that was taken
abbrev pub is_old : Tracked → Submessage → Bool
is_old t (Data d) = nat_lt d.writer_sn t.place
is_old t (Heartbeat h) = not (is_later t.count h.count)
is_old t submessage = false

-- whether what this writer says is counted: where one writer is asked for its own alone, else each one's
abbrev pub is_counted : Option Endpoint → Endpoint → Bool
is_counted (Some asked) writer = same_endpoint asked writer
is_counted None writer = true
