use Rattle.dds_discovery.proofs.Apart as apart
use Rattle.dds_discovery.proofs.laws.apart.Goals as goal

pub returns : goal.returns
returns c = record {
  steps = apart.steps_are_apart c.an_announcement_is_of_one.ensures.others;
  deliveries = apart.deliveries_are_apart;
}
