use Rattle.std.proofs.Common.{arith}
use Rattle.rtps_sets.proofs.MarkLaws.{all_cleared}
use Rattle.rtps_sets.proofs.window.forget.Goals as goal

pub returns : goal.returns
returns c =
    all_cleared c.args.ring.now c.loop-number.ring c.args.from c.loop-number.number c.args.to
    (omega arith) (omega (arith, c.min-end.ensures, c.saturating_add.ensures))
    (λ near. omega (arith, c.min-end.ensures, c.saturating_add.ensures))
    (λ far. omega (arith, c.min-end.ensures, c.saturating_add.ensures)) c.loop-number.invariant
