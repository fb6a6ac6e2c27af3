use Rattle.dds_discover.proofs.PrintingLaws.{delivered}
use Rattle.dds_discover.proofs.session.deliver.Goals as goal

pub returns : goal.returns
returns g c = record {
  delivered = delivered (g.W.Write.contents c.args.output.now) (g.W.Write.contents c.print_heard.new.output)
      (g.W.Write.contents c.settle.new.output) _ c.args.moment c.args.address.now c.args.bytes.now c.in-Ok.heard.told
      c.in-Ok.heard.packet c.args.discovery.now c.deliver.new.self c.settle.new.discovery c.settle.result
      c.in-Ok.ensures.ok c.in_ok-print_heard-in-Ok.ensures.printed c.settle.ensures.settled;
}
