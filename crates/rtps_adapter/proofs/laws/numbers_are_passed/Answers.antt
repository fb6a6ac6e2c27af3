use Rattle.rtps_adapter.proofs.Gaps as gaps
use Rattle.rtps_adapter.proofs.laws.numbers_are_passed.Goals as goal

pub returns : goal.returns
returns c = record { passed = gaps.numbers_are_passed }
