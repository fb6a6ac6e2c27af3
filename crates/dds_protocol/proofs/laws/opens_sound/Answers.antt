use Rattle.dds_protocol.proofs.Opened.{opens_sound}
use Rattle.dds_protocol.proofs.laws.opens_sound.Goals as goal

pub returns : goal.returns
returns c = record { opening = opens_sound }
