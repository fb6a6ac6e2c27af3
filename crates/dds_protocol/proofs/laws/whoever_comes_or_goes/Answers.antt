use Rattle.dds_protocol.proofs.RunLaws.{runs_owe_no_more, steps_owe_no_more}
use Rattle.dds_protocol.proofs.Tellings.{call_backed, call_stays_due}
use Rattle.dds_protocol.proofs.laws.whoever_comes_or_goes.Goals as goal

pub returns : goal.returns
returns c = record {
  event = steps_owe_no_more;
  run = runs_owe_no_more;
  backed = call_backed;
  due = call_stays_due;
}
