use Rattle.rtps_writer.proofs.AnswerFacts.{acknack-from-1, joined-from-1, left-from-1, opening-from-1}
use Rattle.rtps_writer.proofs.laws.acknowledgements_count_from_1.Goals as goal

pub returns-clause-opening : goal.returns-clause-opening
returns-clause-opening c = λ policy most lease strength readers. opening-from-1 policy most lease strength readers

pub returns-clause-acknack : goal.returns-clause-acknack
returns-clause-acknack c = λ s reader base count from. acknack-from-1 s reader base count from

pub returns-clause-joined : goal.returns-clause-joined
returns-clause-joined c = λ s count silent from. joined-from-1 s count silent from

pub returns-clause-left : goal.returns-clause-left
returns-clause-left c = λ s reader from. left-from-1 s reader from
