use Rattle.std.proofs.Common.{ℕ, subst, ◌∙◌, arith}
use Rattle.dds_machine.specs.Matching.{seen_matches}
use Rattle.dds_machine.specs.Part.{Matches}
use Rattle.dds_ends.specs.MatchCounts.{CountsFor}
use Rattle.dds_ends.proofs.Among.{few_matched}
use Rattle.dds_ends.proofs.WriterEnds.{looks_at_matches}
use Rattle.dds_ends.proofs.writer_end.WriterEnd.get_publication_matched.Goals as goal

pub see-requires : goal.see-requires
see-requires c =
    let few = few_matched c.self.invariant in
    let size = c.len.ensures ∙ c.self.inside.matched.ok.0 in
    record { few = omega (arith, few, size) }

pub returns-clause-looks : goal.returns-clause-looks
returns-clause-looks c =
    looks_at_matches _ c.args.self.now c.see.new.self c.self.view_is
    (subst (λ (n : ℕ). (m : Matches) → CountsFor c.self.inside.matches m → CountsFor c.see.new.self (seen_matches m n))
    (c.len.ensures ∙ c.self.inside.matched.ok.0) c.see.ensures.seen)
