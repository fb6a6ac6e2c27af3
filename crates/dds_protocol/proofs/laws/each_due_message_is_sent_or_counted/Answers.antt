use Rattle.dds_protocol.proofs.WorkedSent.{one_sent_or_counted, sent_or_counted}
use Rattle.dds_protocol.proofs.laws.each_due_message_is_sent_or_counted.Goals as goal

pub returns : goal.returns
returns c = record {
  nothing = λ packets unsent sent. sent;
  one = one_sent_or_counted;
  all = sent_or_counted;
}
