use Rattle.std.proofs.Common.{rules}
use Rattle.dds_base.proofs.OctetLaws.{twelve-same}
use Rattle.dds_base.proofs.guid.GuidPrefixPartialEq.eq.Goals as goal

pub returns : goal.returns
returns c =
    twelve-same c.args.self.now.0 c.args.other.now.0 _ _ _ _ (search rules) (search rules)
    c.parts-first.ensures.octets c.parts-other_first.ensures.octets
    c.parts-first.ensures.first c.parts-first.ensures.second
    c.parts-other_first.ensures.first c.parts-other_first.ensures.second
