use Rattle.std.proofs.Common.{Option, sym, subst}
use Rattle.rtps_reader.specs.declared.step.AckNackDue.{AckNackDue}
use Rattle.dds_protocol.specs.DueMessages.{acknacks_due}
use Rattle.dds_ends.specs.Beating.{AddsTo}
use Rattle.dds_ends.proofs.Beating.{adds_none}
use Rattle.dds_ends.proofs.acknack.send_acknack.Goals as goal

pub returns-in_default-clause-adds : goal.returns-in_default-clause-adds
returns-in_default-clause-adds c =
    subst (λ (o : Option AckNackDue). AddsTo
    (acknacks_due c.args.own c.args.writer.now.guid.prefix c.args.writer.now.writer.peer c.args.reader
    c.args.writer.now.guid.entity o) c.args.sent.now c.args.sent.now) (sym c.in_default.is)
    (adds_none c.args.sent.now.packets.items c.args.sent.now.unsent)
