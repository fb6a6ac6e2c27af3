use Rattle.std.proofs.Common.{arith}
use Rattle.rtps_announcements.proofs.PutLaws.{locators_done}
use Rattle.rtps_announcements.proofs.put.put_locators.Goals as goal

pub returns-clause-ok : goal.returns-clause-ok
returns-clause-ok c =
    locators_done c.args.out.now.items c.loop-locator.out.items c.args.id c.args.locators.now
    c.as_slice-locator-items.result.now c.loop-locator.locator-index c.loop-locator.invariant.so_far
    c.loop-locator.invariant.same (omega (arith, c.loop-locator-test.false))
