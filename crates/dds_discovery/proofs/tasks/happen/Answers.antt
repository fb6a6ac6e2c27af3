use Rattle.std.proofs.Common.{rules}
use Rattle.dds_discovery.proofs.tasks.happen.Goals as goal

pub returns : goal.returns
returns c = record {
  output = c.happen-output.result;
  between = c.happen-output.new.self;
  goes = c.happen-output.ensures.step;
  network = search rules;
  packets = c.into_vec.ensures.elements;
}
