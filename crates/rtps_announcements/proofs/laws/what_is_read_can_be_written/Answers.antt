use Rattle.rtps_announcements.proofs.WritableLaws.{endpoint_writable, participant_writable}
use Rattle.rtps_announcements.proofs.laws.what_is_read_can_be_written.Goals as goal

pub returns-clause-endpoint : goal.returns-clause-endpoint
returns-clause-endpoint c = endpoint_writable

pub returns-clause-participant : goal.returns-clause-participant
returns-clause-participant c = participant_writable
