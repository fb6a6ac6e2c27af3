use Rattle.std.proofs.Common.{rules, ◌≡◌, ◌%◌, List, [], Option, get_or, None, sym, ap, ◌∙◌}
use Rattle.dds_base.specs.declared.change.Change.{Change}
use Rattle.rtps_reader.proofs.HeldLaws.{nothing_at}
use Rattle.rtps_reader.proofs.held_changes.HeldChanges.reserve.Goals as goal

pub returns-in_ok-self-inside-clause-each : goal.returns-in_ok-self-inside-clause-each
returns-in_ok-self-inside-clause-each c n =
    let none : c.self.inside.places.items ≡ [] = search rules in
    ap (λ (places : List (Option Change)). get_or places (n % 256) None) c.in_ok-self-inside.ensures
    ∙ (nothing_at None 256 (n % 256)
    ∙ ap (λ (places : List (Option Change)). get_or places (n % 256) None) (sym none ∙ c.self.view_is))
