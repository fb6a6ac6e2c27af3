use Rattle.std.proofs.Common.{rules}
use Rattle.std.proofs.lemmas.Fn.{filter_same}
use Rattle.dds_cache.specs.Sweeping.{stays}
use Rattle.dds_cache.specs.Finding.{IsSmall}
use Rattle.dds_cache.proofs.SweepLaws.{chosen-all}
use Rattle.dds_cache.proofs.sweeping.sweep.Goals as goal

pub returns-clause-items : goal.returns-clause-items
returns-clause-items c =
    λ h stands. filter_same _ (stays c.args.qos.now h) _ (λ x b f' k. search rules) _ _ c.retain.ensures.filtered

pub returns-clause-small : goal.returns-clause-small
returns-clause-small c = chosen-all IsSmall _ _ _ _ c.retain.ensures.filtered
