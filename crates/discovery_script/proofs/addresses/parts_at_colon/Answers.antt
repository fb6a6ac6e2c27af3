use Rattle.std.proofs.Common.{arith}
use Rattle.discovery_script.proofs.SplitLaws.{split_is}
use Rattle.discovery_script.proofs.addresses.parts_at_colon.Goals as goal

pub returns : goal.returns
returns c = split_is 58 c.args.word.now c.split_once.result c.split_once.ensures.cases (omega arith)
