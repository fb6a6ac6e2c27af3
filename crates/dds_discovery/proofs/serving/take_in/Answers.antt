use Rattle.std.proofs.Common.{rules}
use Rattle.dds_discovery.proofs.serving.take_in.Goals as goal

pub returns : goal.returns
returns c = record {
  output = c.take_in-output.result;
  between = c.take_in-output.new.self;
  takes = c.take_in-output.ensures.taken;
  network = search rules;
  packets = c.into_vec.ensures.elements;
}
