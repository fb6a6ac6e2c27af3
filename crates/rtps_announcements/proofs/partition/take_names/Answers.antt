use Rattle.std.proofs.Common.{sym, arith}
use Rattle.rtps_announcements.specs.ValueAt.{padded_name_at}
use Rattle.rtps_announcements.proofs.CountLaws.{counts_on, counts_short, counts_all}
use Rattle.rtps_announcements.proofs.partition.take_names.Goals as goal

pub returns-in_err-name : goal.returns-in_err-name
returns-in_err-name c =
    rw c.from_residual.ensures (counts_short (padded_name_at c.args.order) c.args.count c.args.bytes.now c.loop-left.names.items
    c.loop-left.left.now (omega (arith, c.len.ensures.value, c.loop-left-test.true)) (sym c.in_err-name.ensures) c.loop-left.invariant)

pub loop-left-preserved : goal.loop-left-preserved
loop-left-preserved c =
    rw c.push.ensures.items (counts_on (padded_name_at c.args.order) c.args.count c.args.bytes.now c.loop-left.names.items c.loop-left.left.now
    c.in_ok-name.rest.now c.in_ok-name.name (omega (arith, c.len.ensures.value, c.loop-left-test.true)) (sym c.in_ok-name.ensures) c.loop-left.invariant)

pub returns : goal.returns
returns c =
    counts_all (padded_name_at c.args.order) c.args.count c.args.bytes.now c.loop-left.names.items c.loop-left.left.now (omega (arith, c.len.ensures.value, c.loop-left-test.false)) c.loop-left.invariant
