use Rattle.std.proofs.Common.{sym}
use Rattle.dds_cache.proofs.ChainLaws.{none-spanned}
use Rattle.dds_cache.proofs.chains.Chains.first.Goals as goal

pub returns-in-None-clause-first : goal.returns-in-None-clause-first
returns-in-None-clause-first c = λ ks chains is. λ at d within own stays.
    absurd (none-spanned ks c.args.key c.args.self.now (chains c.if-not-self.false) (sym c.in-None.ensures) at d within own)

pub returns-in-None-clause-unread : goal.returns-in-None-clause-unread
returns-in-None-clause-unread c = λ ks chains is. λ at d within own stays unread.
    absurd (none-spanned ks c.args.key c.args.self.now (chains c.if-not-self.false) (sym c.in-None.ensures) at d within own)

pub returns-then-is_unread-clause-unread : goal.returns-then-is_unread-clause-unread
returns-then-is_unread-clause-unread c = λ ks chains is.
    ((chains c.if-not-self.false).spans c.args.key c.in-Some.span c.in-Some.ensures.0).unread

pub returns-else-is_unread-clause-first : goal.returns-else-is_unread-clause-first
returns-else-is_unread-clause-first c = λ ks chains is.
    ((chains c.if-not-self.false).spans c.args.key c.in-Some.span c.in-Some.ensures.0).first
