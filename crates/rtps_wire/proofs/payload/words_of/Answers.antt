use Rattle.std.proofs.Common.{sym}
use Rattle.rtps_wire.proofs.ArrayLaws.{listed_is}
use Rattle.rtps_wire.proofs.payload.words_of.Goals as goal

pub returns : goal.returns
returns c = listed_is 16 0 c.args.key.now.0 (sym c.as_slice-octets.ensures.len)
