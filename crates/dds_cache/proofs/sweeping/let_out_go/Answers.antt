use Rattle.std.proofs.Common.{rules, inr}
use Rattle.std.proofs.lemmas.Fn.{filter_same}
use Rattle.dds_cache.specs.Finding.{IsSmall}
use Rattle.dds_cache.specs.Kept.{is_in}
use Rattle.dds_cache.proofs.SweepLaws.{chosen-all}
use Rattle.dds_cache.proofs.sweeping.let_out_go.Goals as goal

pub returns-then-are_mostly_out-clause-items : goal.returns-then-are_mostly_out-clause-items
returns-then-are_mostly_out-clause-items c =
    inr (filter_same _ is_in _ (λ x b f' k. search rules) _ _ c.retain.ensures.filtered)

pub returns-then-are_mostly_out-clause-small : goal.returns-then-are_mostly_out-clause-small
returns-then-are_mostly_out-clause-small c = chosen-all IsSmall _ _ _ _ c.retain.ensures.filtered
