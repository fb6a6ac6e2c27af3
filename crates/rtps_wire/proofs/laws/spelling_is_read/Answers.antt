use Rattle.rtps_wire.proofs.MessageLaws.{message_one}
use Rattle.rtps_wire.proofs.SpellingLaws.{message_again}
use Rattle.rtps_wire.proofs.laws.spelling_is_read.Goals as goal

pub returns-clause-again : goal.returns-clause-again
returns-clause-again c = message_again

pub returns-clause-one : goal.returns-clause-one
returns-clause-one c = message_one
