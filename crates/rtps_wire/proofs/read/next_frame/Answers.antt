use Rattle.std.proofs.Common.{arith, sym}
use Rattle.rtps_wire.proofs.FrameLaws.{frame_found, frame_none}
use Rattle.rtps_wire.proofs.read.next_frame.Goals as goal

pub returns-in_err-frame-clause-end : goal.returns-in_err-frame-clause-end
returns-in_err-frame-clause-end c =
    rw c.from_residual.ensures
    (frame_none c.args.bytes.now (λ i. omega (arith, c.type_inv.bytes i)) (sym c.in_err-frame.ensures.value))

pub returns-clause-found : goal.returns-clause-found
returns-clause-found c =
    (frame_found c.args.bytes.now
    (c.in_ok-frame.frame.id, c.in_ok-frame.frame.flags, c.in_ok-frame.frame.body.now, c.in_ok-frame.rest.now)
    (λ i. omega (arith, c.type_inv.bytes i)) (sym c.in_ok-frame.ensures.value)).frame
