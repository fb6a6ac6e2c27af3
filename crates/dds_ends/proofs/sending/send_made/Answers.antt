use Rattle.std.proofs.Common.{refl}
use Rattle.dds_ends.specs.Beating.{due_to}
use Rattle.dds_ends.proofs.Beating.{adds_lost}
use Rattle.dds_ends.proofs.sending.send_made.Goals as goal

pub returns-in-Err-clause-adds : goal.returns-in-Err-clause-adds
returns-in-Err-clause-adds c =
    λ m is. adds_lost (due_to c.args.to m) c.args.sent.now.packets.items c.args.sent.now.packets.items
    c.args.sent.now.unsent refl
