use Rattle.dds_protocol.proofs.PairAsks.{asks_are_sent}
use Rattle.dds_protocol.proofs.PairBeats.{beats_are_sent}
use Rattle.dds_protocol.proofs.PairCaughtUp.{answers_are_few, pair_catches_up}
use Rattle.dds_protocol.proofs.laws.pair_catches_up.Goals as goal

pub returns : goal.returns
returns c = record { round = pair_catches_up; beat = beats_are_sent; ask = asks_are_sent; answers = answers_are_few }
