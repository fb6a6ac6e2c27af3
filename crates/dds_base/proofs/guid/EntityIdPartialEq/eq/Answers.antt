use Rattle.std.proofs.Common.{rules}
use Rattle.dds_base.proofs.OctetLaws.{four-same}
use Rattle.dds_base.proofs.guid.EntityIdPartialEq.eq.Goals as goal

pub returns : goal.returns
returns c =
    four-same c.args.self.now.0 c.args.other.now.0 _ _ (search rules) (search rules) c.word.ensures.octets
    c.word-2.ensures.octets c.word.ensures.number c.word-2.ensures.number
