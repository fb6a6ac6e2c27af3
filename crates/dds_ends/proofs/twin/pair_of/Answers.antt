use Rattle.dds_ends.proofs.PacketsLeft.{loses}
use Rattle.dds_ends.proofs.twin.pair_of.Goals as goal

pub returns-clause-loses : goal.returns-clause-loses
returns-clause-loses c =
    loses c.args.output c.from_vec.result c.twice-first.result.first.items c.into_vec.result.items
    c.twice-first.result.lost c.into_vec.ensures.elements c.from_vec.ensures.elements c.twice-first.ensures.leaves
    c.twice-first.ensures.counted
