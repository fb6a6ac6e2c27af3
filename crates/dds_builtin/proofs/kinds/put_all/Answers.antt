use Rattle.dds_builtin.proofs.Turning.{turning_all, turning_more, turning_none}
use Rattle.dds_builtin.proofs.kinds.put_all.Goals as goal

pub loop-frame-init : goal.loop-frame-init
loop-frame-init g c = turning_none (g.K.EntityKinds.of_reader c.args.kinds.now) (g.K.EntityKinds.of_writer c.args.kinds.now) c.args.body.now c.args.out.now.items

pub loop-frame-preserved : goal.loop-frame-preserved
loop-frame-preserved g c =
    turning_more (g.K.EntityKinds.of_reader c.args.kinds.now) (g.K.EntityKinds.of_writer c.args.kinds.now) c.args.body.now c.loop-frame.left.now c.args.out.now.items c.loop-frame.out.items
    c.put_submessage.new.out.items c.in-Some.frame.id c.in-Some.frame.flags c.in-Some.frame.body.now c.in-Some.rest.now
    c.loop-frame.invariant c.in-Some.ensures.found c.in_ok-put_submessage.ensures.ok

pub returns-clause-ok : goal.returns-clause-ok
returns-clause-ok g c =
    turning_all (g.K.EntityKinds.of_reader c.args.kinds.now) (g.K.EntityKinds.of_writer c.args.kinds.now) c.args.body.now c.loop-frame.left.now c.args.out.now.items c.loop-frame.out.items
    c.extend_from_slice.new.self.items c.loop-frame.invariant c.in_default.ensures.end
    c.in_ok-extend_from_slice.ensures.items
