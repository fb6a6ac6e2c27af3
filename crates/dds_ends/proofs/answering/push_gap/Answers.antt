use Rattle.std.proofs.Common.{rules, arith}
use Rattle.std.proofs.lemmas.Grind.{common_steps}
use Rattle.dds_ends.proofs.Replies.{gap_spells}
use Rattle.dds_ends.proofs.answering.push_gap.Goals as goal

pub returns-clause-spells : goal.returns-clause-spells
returns-clause-spells c =
    gap_spells c.args.answering.now.max_value c.args.answering.now.reader.guid.entity c.args.answering.now.entity
    c.args.first c.args.last c.args.submessages.now _ (search rules) (search rules) c.requires.from c.requires.order
    c.requires.small (grind (arith, common_steps))
