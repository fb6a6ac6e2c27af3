use Rattle.rtps_discovery.proofs.Numbers as numbers
use Rattle.rtps_discovery.proofs.laws.few_are_known.Goals as goal

pub returns : goal.returns
returns c = record { few = numbers.few_are_known; of_one_address = numbers.few_are_known_at }
