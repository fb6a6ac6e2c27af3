use Rattle.std.proofs.Common.{arith}
use Rattle.rtps_fragments.proofs.Parting.{skipped, shorter}
use Rattle.rtps_fragments.proofs.data_frag.take_inline.Goals as goal

pub slice_bounds-result-count : goal.slice_bounds-result-count
slice_bounds-result-count c =
    shorter c.args.bytes.now c.in_ok-rest.rest.now
    (skipped c.order_of.result c.args.bytes.now c.in_ok-rest.rest.now (λ i. omega (arith, c.type_inv.bytes i))
    c.in_ok-rest.ensures.value)
