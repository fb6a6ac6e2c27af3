use Rattle.rtps_wire.proofs.LengthLaws.{submessage_le, few_writable}
use Rattle.rtps_wire.proofs.laws.few_are_writable.Goals as goal

pub returns-clause-each : goal.returns-clause-each
returns-clause-each c = submessage_le

pub returns-clause-few : goal.returns-clause-few
returns-clause-few c = few_writable
