use Rattle.dds_discovery.proofs.Delivering.{delivered}
use Rattle.dds_discovery.proofs.discovery.Discovery.deliver.Goals as goal

pub returns-clause-ok : goal.returns-clause-ok
returns-clause-ok c =
    delivered _ c.args.self.now c.hear-2.new.self c.take.new.self c.args.moment c.args.address.now c.args.bytes.now
    c.in_ok-heard.heard.told c.in_ok-heard.heard.packet c.in-Some.place c.in_ok-turned.turned c.in_ok-heard.ensures.ok
    c.in-Some.ensures.place c.in_ok-turned.ensures.turned c.take.ensures
