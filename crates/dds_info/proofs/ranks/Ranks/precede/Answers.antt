use Rattle.dds_info.proofs.ranks.Ranks.precede.Goals as goal

pub returns-clause-info : goal.returns-clause-info
returns-clause-info c = λ later before. c.ranked.ensures later (c.followers-followers.ensures.followed later before)
