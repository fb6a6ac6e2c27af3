use Rattle.std.proofs.Common.{◌<◌, List, []}
use Rattle.dds_protocol.specs.declared.event.Output.{Output}
use Rattle.dds_trace.specs.declared.trace.Entry.{Entry}
use Rattle.dds_shared.specs.Waits.{Waits}
use Rattle.dds_shared.proofs.shared.Shared.wait_in.Given as goal

abbrev pub invariant-loop : goal.invariant-loop
invariant-loop g l =
    (b : Output) × (looks : List Entry) × Waits l.fn.pass l.pass l.fn.wait_set l.fn.deadline b looks [] × (0 < l.pass.spare)
    × (l.fn.pass.front < l.pass.front)
