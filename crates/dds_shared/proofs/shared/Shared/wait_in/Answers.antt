use Rattle.std.proofs.Common.{[], ◌∷◌, ◌++◌, inr, arith}
use Rattle.dds_shared.specs.Waits.{look_of}
use Rattle.dds_shared.proofs.Looks.{waits_begun, waits_over, waits_on, waits_failed}
use Rattle.dds_shared.proofs.shared.Shared.wait_in.Goals as goal

pub returns-then-looked-clause-ok : goal.returns-then-looked-clause-ok
returns-then-looked-clause-ok g c =
    let i = c.loop.invariant in
    let did = rw c.if-looked.true at c.in-Ok.ensures.ok in (
      did.0,
      inr (
        i.0,
        i.1,
        waits_over c.args.pass.now c.loop.pass c.look.new.pass c.args.wait_set c.args.deadline i.0 i.1 did.0 i.2 did.1.list,
        did.3,
      ),
      did.2,
    )

pub returns-in-Err-clause-err : goal.returns-in-Err-clause-err
returns-in-Err-clause-err g c =
    let i = c.loop.invariant in
    waits_failed c.args.pass.now c.loop.pass c.look.new.pass c.args.wait_set c.args.deadline i.0 i.1 i.2
    c.in-Err.ensures.err (omega (arith, i.4, c.look.ensures.front))

pub loop-preserved : goal.loop-preserved
loop-preserved g c =
    let i = c.loop.invariant in
    let did = rw c.if-looked.false at c.in-Ok.ensures.ok in (
      i.0,
      i.1 ++ look_of c.args.pass.now.seat c.args.wait_set did.0 ∷ [],
      waits_on c.args.pass.now c.loop.pass c.look.new.pass c.args.wait_set c.args.deadline i.0 i.1 did.0 i.2 did.1.list did.3,
      c.in-Ok.ensures.room,
      omega (arith, i.4, did.1.above, did.1.seen),
    )

pub loop-init : goal.loop-init
loop-init g c =
    let did = rw c.if-not-begun.false at c.in_ok-begun.ensures.ok in (
      did.0,
      [],
      waits_begun c.args.pass.now c.begin.new.pass c.args.wait_set c.args.deadline did.0 did.1.list did.3,
      c.in_ok-begun.ensures.room,
      omega (arith, did.1.above, did.1.seen),
    )
