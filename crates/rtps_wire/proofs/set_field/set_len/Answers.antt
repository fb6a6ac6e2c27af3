use Rattle.std.proofs.Common.{sym}
use Rattle.rtps_wire.proofs.SetSpelling.{text_of_set_len}
use Rattle.rtps_wire.proofs.set_field.set_len.Goals as goal

pub returns-clause-len : goal.returns-clause-len
returns-clause-len c = rw (c.words_for.ensures, c.bits.ensures.bits) (sym (text_of_set_len c.args.set.now))
