use Rattle.std.proofs.Common.{[]}
use Rattle.dds_discover.specs.Session.{none}
use Rattle.dds_discover.proofs.PrintingLaws.{appends_none, step_more}
use Rattle.dds_discover.proofs.session.settle.Goals as goal

pub loop-count-init : goal.loop-count-init
loop-count-init g c = ([], appends_none (g.W.Write.contents c.args.output.now), none c.args.discovery.now)

pub loop-count-preserved : goal.loop-count-preserved
loop-count-preserved g c =
    step_more (g.W.Write.contents c.args.output.now) (g.W.Write.contents c.loop-count.output)
    (g.W.Write.contents c.print_done.new.output) c.loop-count._count c.args.discovery.now c.loop-count.discovery
    c.settle.new.self c.in-Ok-Done.done c.loop-count.invariant
    (rw c.in-Ok-Done.field-0-is at c.in-Ok-Done.ensures.ok) c.in_ok-print_done-in-Ok-Done.ensures.printed
