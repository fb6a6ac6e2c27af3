use Rattle.std.proofs.Common.{◌∙◌, sym}
use Rattle.dds_cache.proofs.ChainLaws.{has-kept}
use Rattle.dds_cache.proofs.chains.Chains.replace.Goals as goal

pub returns-else-is_latest-clause-spans : goal.returns-else-is_latest-clause-spans
returns-else-is_latest-clause-spans c = λ before found.
    let other = sym c.is_latest.ensures ∙ c.if-is_latest.false in
    has-kept c.args.self.now c.replace_at.new.self c.args.key c.args.span other c.replace_at.ensures.latest
    (c.replace_at.ensures.spans c.args.key before (found.1 other))
