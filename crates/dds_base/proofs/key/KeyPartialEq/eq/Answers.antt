use Rattle.std.proofs.Common.{rules}
use Rattle.dds_base.proofs.OctetLaws.{sixteen-same}
use Rattle.dds_base.proofs.key.KeyPartialEq.eq.Goals as goal

pub returns : goal.returns
returns c =
    sixteen-same c.args.self.now.0 c.args.other.now.0 _ _ _ _ (search rules) (search rules)
    c.halves-first.ensures.octets c.halves-other_first.ensures.octets
    c.halves-first.ensures.first c.halves-first.ensures.second
    c.halves-other_first.ensures.first c.halves-other_first.ensures.second
