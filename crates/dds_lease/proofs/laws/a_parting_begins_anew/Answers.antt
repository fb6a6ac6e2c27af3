use Rattle.dds_lease.proofs.PartingLaws.{others-alive, others-dead, parted-alive, parted-dead}
use Rattle.dds_lease.proofs.laws.a_parting_begins_anew.Goals as goal

pub returns : goal.returns
returns c = record {
  alive = λ w now h. parted-alive w now h;
  dead = λ w now h. parted-dead w now h;
  others = λ w v now h apart. others-alive w v now h apart;
  others_dead = λ w v now h apart. others-dead w v now h apart;
}
