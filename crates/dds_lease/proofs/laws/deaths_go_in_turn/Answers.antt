use Rattle.dds_lease.proofs.DeathLaws.{above_none, nobody_twice}
use Rattle.dds_lease.proofs.laws.deaths_go_in_turn.Goals as goal

pub returns-clause-begins : goal.returns-clause-begins
returns-clause-begins c = λ q now h. above_none q now h

pub returns-clause-once : goal.returns-clause-once
returns-clause-once c = λ q now h. nobody_twice q now h
