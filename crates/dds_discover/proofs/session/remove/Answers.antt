use Rattle.std.proofs.Common.{◌∙◌, ap}
use Rattle.dds_discover.specs.Session.{told_lines}
use Rattle.dds_discover.proofs.PrintingLaws.{removes}
use Rattle.dds_discover.proofs.session.remove.Goals as goal

pub returns : goal.returns
returns g c = record {
  removed = removes (g.W.Write.contents c.args.output.now) (g.W.Write.contents c.print_all_told.new.output)
      (g.W.Write.contents c.settle.new.output) (told_lines c.deref.result.now) c.args.guid.now c.args.discovery.now
      c.remove.new.self c.settle.new.discovery c.settle.result
      (ap told_lines (c.deref.ensures.value ∙ c.in-Ok.ensures.told)) c.in-Ok.ensures.ok
      c.in_ok-print_all_told-in-Ok.ensures.printed c.settle.ensures.settled;
}
