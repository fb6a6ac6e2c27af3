use Rattle.std.proofs.Common.{◌∙◌, ap}
use Rattle.rtps_matching.specs.Steps.{told_of_own}
use Rattle.dds_discovery.specs.Events.{added}
use Rattle.dds_discover.specs.Session.{told_lines}
use Rattle.dds_discover.proofs.PrintingLaws.{happens}
use Rattle.dds_discover.proofs.session.add.Goals as goal

pub returns : goal.returns
returns g c = record {
  added = happens (g.W.Write.contents c.args.output.now) (g.W.Write.contents c.print_all_told.new.output)
      (g.W.Write.contents c.settle.new.output) (told_lines (told_of_own c.args.end c.args.discovery.now.endpoints))
      (told_lines c.deref.result.now) c.args.discovery.now (added c.args.end c.args.discovery.now) c.add.new.self
      c.settle.new.discovery c.settle.result (ap told_lines (c.deref.ensures.value ∙ c.in-Ok.ensures.told))
      c.in-Ok.ensures.ok c.in_ok-print_all_told-in-Ok.ensures.printed c.settle.ensures.settled;
}
