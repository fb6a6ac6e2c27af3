use Rattle.std.proofs.Common.{sym, arith}
use Rattle.std.specs.Int.{w16}
use Rattle.dds_base.specs.Fields.{number_at}
use Rattle.rtps_announcements.proofs.CountLaws.{counts_on, counts_short, counts_all}
use Rattle.rtps_announcements.proofs.representation.take_ids.Goals as goal

pub returns-in_err-id : goal.returns-in_err-id
returns-in_err-id c =
    rw c.from_residual.ensures (counts_short (number_at c.args.order w16) c.args.count c.args.bytes.now c.loop-left.ids.items
    c.loop-left.left.now (omega (arith, c.len.ensures.value, c.loop-left-test.true)) (sym c.in_err-id.ensures.value) c.loop-left.invariant)

pub loop-left-preserved : goal.loop-left-preserved
loop-left-preserved c =
    rw c.push.ensures.items (counts_on (number_at c.args.order w16) c.args.count c.args.bytes.now c.loop-left.ids.items c.loop-left.left.now
    c.in_ok-id.rest.now c.in_ok-id.id (omega (arith, c.len.ensures.value, c.loop-left-test.true)) (sym c.in_ok-id.ensures.value) c.loop-left.invariant)

pub returns : goal.returns
returns c =
    counts_all (number_at c.args.order w16) c.args.count c.args.bytes.now c.loop-left.ids.items c.loop-left.left.now (omega (arith, c.len.ensures.value, c.loop-left-test.false)) c.loop-left.invariant
