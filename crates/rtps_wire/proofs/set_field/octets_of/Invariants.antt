use Rattle.rtps_wire.proofs.SetSpelling.{AreSetOctets}
use Rattle.rtps_wire.proofs.set_field.octets_of.Given as goal

abbrev pub invariant-loop-at : goal.invariant-loop-at
invariant-loop-at l = AreSetOctets l.octets l.set.base l.bits l.set.members l.at
