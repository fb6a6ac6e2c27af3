use Rattle.dds_base.proofs.ReliableLaws.{no_reliable-reader}
use Rattle.dds_base.proofs.laws.a_best_effort_writer_has_no_reliable_reader.Goals as goal

pub returns : goal.returns
returns c = record {
  none = λ peers i k p w taken at within best. no_reliable-reader (λ peer q number r. r) peers i k p w taken at within
      best;
}
