use Rattle.std.proofs.Common.{sym, ◌∙◌}
use Rattle.dds_cache.proofs.ChainLaws.{linked-first}
use Rattle.dds_cache.proofs.chains.Chains.advance.Goals as goal

pub returns : goal.returns
returns c = λ chains whole.
    let linked = chains (sym c.replace.ensures.whole ∙ whole) in
    let was = linked.spans c.args.key c.in-Some.span c.in-Some.ensures.0 in
    linked-first c.args.samples.now c.args.key c.first_left.result c.first_unread.result c.in-Some.span c.args.self.now
    c.replace.new.self linked c.replace.ensures.links c.in-Some.ensures.0 (c.first_left.ensures chains was.first)
    (c.first_unread.ensures chains was.unread) (c.replace.ensures.spans c.in-Some.span c.in-Some.ensures)
