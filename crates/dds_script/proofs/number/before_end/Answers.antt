use Rattle.dds_script.proofs.NumberLaws.{strip_is}
use Rattle.dds_script.proofs.number.before_end.Goals as goal

pub returns : goal.returns
returns c = strip_is c.args.end.now c.args.word.now c.strip_suffix.result c.strip_suffix.ensures.cases
