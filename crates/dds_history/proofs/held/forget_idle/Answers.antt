use Rattle.std.proofs.Common.{ap, ◌∙◌, rules}
use Rattle.indexmap.proofs.CallerLemmas.{filter-RetainsPairs}
use Rattle.dds_history.specs.Entries.{Counted, count_in}
use Rattle.dds_history.proofs.Placing.{counts-without_idle}
use Rattle.dds_history.proofs.held.forget_idle.Goals as goal

pub returns : goal.returns
returns c = λ k.
    ap (λ (es : Counted). count_in es k)
    (filter-RetainsPairs _ _ _ (λ k v b w g call. search rules) _ _ c.retain.ensures.filtered)
    ∙ counts-without_idle c.args.keys.now.entries c.len.ensures.unique k
