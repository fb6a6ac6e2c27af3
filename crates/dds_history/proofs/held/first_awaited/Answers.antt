use Rattle.std.proofs.Common.{ℕ, ap, sym, ◌∙◌}
use Rattle.std.specs.Prelude.{Option}
use Rattle.std.specs.Option.{unwrap_or}
use Rattle.std.proofs.lemmas.Iterator.{YieldsList-from_slice}
use Rattle.std.proofs.lemmas.Iterator.Adapters.{option_map_id}
use Rattle.std.proofs.lemmas.Iterator.Consumers.{YieldsList-from_copied, min_from_yields_List}
use Rattle.dds_history.proofs.held.first_awaited.Goals as goal

pub returns : goal.returns
returns c =
    c.unwrap_or.ensures
    ∙ ap (λ (o : Option ℕ). unwrap_or o c.args.none)
    (sym (option_map_id _)
    ∙ min_from_yields_List c.copied.result c.min.result c.min.ensures.ran
    (YieldsList-from_copied (YieldsList-from_slice c.args.acknowledged.now (cc))))
