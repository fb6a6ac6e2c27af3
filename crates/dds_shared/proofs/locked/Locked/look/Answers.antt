use Rattle.std.proofs.Common.{rules}
use Rattle.dds_shared.proofs.Looks.{missed_behind}
use Rattle.dds_shared.proofs.locked.Locked.look.Goals as goal

pub returns-then-said-clause-err : goal.returns-then-said-clause-err
returns-then-said-clause-err g c =
    let did = c.in-Ok.ensures.ok in
    missed_behind c.args.pass.now c.reserve.new.self c.event.new.pass c.give_up-then-said.new.pass c.args.wait_set did.0
    c.reserve.ensures.same did.1.0.list (did.1.2.2.0 (search rules)) c.give_up-then-said.ensures.list
