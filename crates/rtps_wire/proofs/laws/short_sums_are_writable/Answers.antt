use Rattle.rtps_wire.proofs.LengthLaws.{beside_le, short_writable}
use Rattle.rtps_wire.proofs.laws.short_sums_are_writable.Goals as goal

pub returns-clause-each : goal.returns-clause-each
returns-clause-each c = beside_le

pub returns-clause-sum : goal.returns-clause-sum
returns-clause-sum c = short_writable
