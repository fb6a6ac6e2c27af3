use Rattle.std.proofs.Common.{ℕ, Option, slice_get, ap, ◌∙◌}
use Rattle.std.specs.Option.{unwrap_or}
use Rattle.indexmap.specs.IndexMap.{insert_entry}
use Rattle.dds_base.specs.Happening.{same_key}
use Rattle.dds_history.specs.declared.held.KeyCount.{KeyCount}
use Rattle.dds_history.specs.Entries.{Counted}
use Rattle.dds_history.proofs.Placing.{stands-entered}
use Rattle.dds_history.proofs.held.enter.Goals as goal

pub returns-clause-entered : goal.returns-clause-entered
returns-clause-entered c =
    let was : Counted = c.args.keys.now.entries in
    let there = stands-entered was c.args.key (record { turns = 0; kept = 0 }) in (
      c.unwrap_or.ensures
          ∙ ap (λ (o : Option KeyCount). unwrap_or o (record { turns = 0; kept = 0 })) c.in_ok-place.ensures.old,
      there.0,
      ap (λ (es : Counted). slice_get es c.in_ok-place.place) c.in_ok-place.ensures.entries
          ∙ (ap (λ (at : ℕ). slice_get (insert_entry same_key was c.args.key (record { turns = 0; kept = 0 })) at)
          c.in_ok-place.ensures.index ∙ there.1),
    )
