use Rattle.std.proofs.Common.{sym}
use Rattle.rtps_wire.proofs.ArrayLaws.{listed_is}
use Rattle.rtps_wire.proofs.announcement.words_of.Goals as goal

pub returns-clause-octets : goal.returns-clause-octets
returns-clause-octets c = listed_is 12 0 c.args.prefix.now.0 (sym c.as_slice-octets.ensures.len)
