use Rattle.dds_discovery.proofs.Going as going
use Rattle.dds_discovery.proofs.laws.sends.Goals as goal

pub returns : goal.returns
returns c = record { steps = going.steps_send_back }
