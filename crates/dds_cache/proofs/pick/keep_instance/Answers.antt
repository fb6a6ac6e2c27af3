use Rattle.std.proofs.Common.{rules}
use Rattle.std.proofs.lemmas.Fn.{filter_same}
use Rattle.dds_cache.specs.Picking.{has_handle}
use Rattle.dds_cache.proofs.pick.keep_instance.Goals as goal

pub returns : goal.returns
returns c = filter_same _ (has_handle c.args.handle) _ (λ x b f' k. search rules) _ _ c.retain.ensures.filtered
