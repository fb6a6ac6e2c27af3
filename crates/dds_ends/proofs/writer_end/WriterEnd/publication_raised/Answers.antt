use Rattle.std.proofs.Common.{◌∙◌, arith}
use Rattle.dds_ends.proofs.Among.{few_matched}
use Rattle.dds_ends.proofs.writer_end.WriterEnd.publication_raised.Goals as goal

pub overflow_cast-len : goal.overflow_cast-len
overflow_cast-len c =
    let few = few_matched c.self.invariant in
    let size = c.len.ensures ∙ c.self.inside.matched.ok.0 in
    omega (arith, few, size)
