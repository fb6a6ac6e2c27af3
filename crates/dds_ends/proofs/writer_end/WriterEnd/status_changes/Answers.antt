use Rattle.std.proofs.Common.{◌∙◌, arith}
use Rattle.dds_ends.proofs.Among.{few_matched}
use Rattle.dds_ends.proofs.writer_end.WriterEnd.status_changes.Goals as goal

pub is_flagged-is_flagged-requires : goal.is_flagged-is_flagged-requires
is_flagged-is_flagged-requires c =
    let few = few_matched c.self.invariant in
    let size = c.len.ensures ∙ c.self.inside.matched.ok.0 in
    record { few = omega (arith, few, size) }
