use Rattle.std.proofs.Common.{◌≡◌, ◌+◌, arith}
use Rattle.dds_live.proofs.Laws.{ends_more, ends_none}
use Rattle.dds_live.proofs.ends.our_ends.Goals as goal

pub loop-end-init : goal.loop-end-init
loop-end-init c = ends_none c.args.prefix c.args.ends.now c.new-ours.result.items c.new-ours.ensures.items

pub loop-end-preserved : goal.loop-end-preserved
loop-end-preserved c =
    let numbered : c.in-Some.number ≡ c.loop-end.end-index + 1 =
    omega (arith, c.in-Some.ensures, c.len.ensures, c.loop-end.invariant.1) in
    ends_more c.args.prefix c.args.ends.now c.loop-end.end-index _ c.loop-end.ours.items c.push.new.self.items c.in-Ok.one
    c.in-Some.number c.in_ok-push-in-Ok.ensures.items c.loop-end-test.true numbered c.loop-end.invariant c.in-Ok.ensures.end
