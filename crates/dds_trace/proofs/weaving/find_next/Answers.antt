use Rattle.std.proofs.Common.{◌<◌, arith, below_more}
use Rattle.std.proofs.lemmas.Option.{slice_get_within}
use Rattle.dds_trace.proofs.weaving.find_next.Goals as goal

pub loop-at-preserved : goal.loop-at-preserved
loop-at-preserved c t lt e next = below_more _ _ c.loop-at.invariant c.if-has_place.ensures t lt e next

pub returns : goal.returns
returns c t e next =
    let here = slice_get_within c.args.traces.now t next.0 next.1 in
    let lt : t < c.loop-at.at = omega (arith, here, c.loop-at-test.false) in
    c.loop-at.invariant t lt e next
