use Rattle.std.proofs.Common.{arith, length, ap}
use Rattle.rtps_fragments.proofs.Placing.{octets_fit}
use Rattle.rtps_fragments.proofs.assembly.Assembly.place.Goals as goal

pub overlay-requires : goal.overlay-requires
overlay-requires c =
    let fit = octets_fit _ _ c.self.invariant c.fragment.invariant (rw (← c.self.view_is, ← c.fragment.view_is) at c.requires) in
    omega (arith, fit, c.as_mut_slice.ensures.len, ap length c.as_mut_slice.ensures.value)
