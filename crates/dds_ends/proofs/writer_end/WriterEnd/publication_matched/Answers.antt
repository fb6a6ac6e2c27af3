use Rattle.std.proofs.Common.{◌∙◌, arith}
use Rattle.dds_ends.proofs.Among.{few_matched}
use Rattle.dds_ends.proofs.writer_end.WriterEnd.publication_matched.Goals as goal

pub status-requires : goal.status-requires
status-requires c =
    let few = few_matched c.self.invariant in
    let size = c.len.ensures ∙ c.self.inside.matched.ok.0 in
    record { few = omega (arith, few, size) }
