use Rattle.std.proofs.Common.{arith, refl}
use Rattle.rtps_wire.specs.SubmessageAt.{known_at}
use Rattle.rtps_wire.proofs.SubmessageLaws.{Reads-found}
use Rattle.rtps_wire.proofs.read.read_into.Goals as goal

pub returns : goal.returns
returns c =
    rw c.place_known_or_other.ensures (Reads-found (known_at c.args.id c.args.flags c.args.body.now) c.args.id c.args.flags
    c.args.body.now (λ i. omega (arith, c.type_inv.body i)) refl)
