use Rattle.rtps_fragments.proofs.Reading as reading
use Rattle.rtps_fragments.proofs.laws.what_is_told_is_read.Goals as goal

pub returns : goal.returns
returns c = record { message = reading.messages_are_read; change = reading.data_is_read }
