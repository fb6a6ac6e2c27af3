use Rattle.std.proofs.Common.{rules, arith}
use Rattle.std.proofs.lemmas.Grind.{common_steps}
use Rattle.dds_ends.proofs.Replies.{data_spells}
use Rattle.dds_ends.proofs.answering.push_data.Goals as goal

pub returns-clause-spells : goal.returns-clause-spells
returns-clause-spells c =
    data_spells c.args.answering.now.max_value c.args.answering.now.reader.guid.entity c.args.answering.now.entity
    c.args.number c.args.change.now c.args.submessages.now _ (search rules) (search rules) (search rules)
    c.requires.short (search rules) c.requires.first c.requires.small (search rules) (grind (arith, common_steps))
