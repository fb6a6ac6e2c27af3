use Rattle.dds_machine.specs.Opening.{reader_qos}
use Rattle.dds_protocol.proofs.OwnGuids.{tell_apart}
use Rattle.dds_protocol.proofs.laws.owners_exist.Goals as goal

pub returns-clause-apart : goal.returns-clause-apart
returns-clause-apart c = tell_apart

pub returns-clause-owner : goal.returns-clause-owner
returns-clause-owner c = λ config peer reader i h fits at_peer none at_reader some.
    c.owner_is_found.ensures.exists (reader_qos config.peers reader) i h
    ((tell_apart config peer reader fits at_peer at_reader).own_guids h none) some
