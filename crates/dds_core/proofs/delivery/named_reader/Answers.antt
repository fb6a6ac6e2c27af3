use Rattle.std.proofs.Common.{◌≡◌, ℕ, Some, None, slice_get, subst, ◌∙◌, below_more, arith}
use Rattle.std.proofs.lemmas.Option.{get_or_from_slice_get}
use Rattle.dds_ends.specs.Kept.{ReaderKept}
use Rattle.dds_ends.specs.Readiness.{receiver_at, IsReadyFor}
use Rattle.dds_ends.proofs.Lists.{get-within}
use Rattle.dds_core.proofs.delivery.named_reader.Goals as goal

pub loop-index-preserved : goal.loop-index-preserved
loop-index-preserved c = λ j k lt at.
    below_more (λ (n : ℕ). (x : ReaderKept) → slice_get c.args.readers.now n ≡ Some x
    → IsReadyFor c.args.own.now (receiver_at c.args.receiver.now) c.args.submessage.now x None)
    c.loop-index.index (λ n before x at_x. c.loop-index.invariant n x before at_x)
    (λ x at_x. subst (λ (y : ReaderKept). IsReadyFor c.args.own.now
    (receiver_at c.args.receiver.now) c.args.submessage.now y None)
    (c.index-readers-index.is ∙ get_or_from_slice_get c.args.readers.now c.loop-index.index x _ at_x)
    c.in_default-named_row.ensures.row) j lt k at

pub returns-clause-none : goal.returns-clause-none
returns-clause-none c = λ i k at.
    let within = get-within c.args.readers.now i k at in c.loop-index.invariant i k (omega (arith, within)) at
