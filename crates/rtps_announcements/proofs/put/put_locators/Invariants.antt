use Rattle.std.proofs.Common.{◌≡◌, [], ◌∷◌, ◌++◌, take}
use Rattle.std.specs.List.{flat_map}
use Rattle.rtps_announcements.specs.Written.{row_text, locator_text}
use Rattle.rtps_announcements.proofs.put.put_locators.Given as goal

abbrev pub invariant-loop-locator : goal.invariant-loop-locator
invariant-loop-locator l = record {
  so_far : l.out.items ≡ l.initial.out.items
      ++ flat_map (λ x. row_text (l.id, locator_text x ∷ [])) (take l.locator-index l.locator-items);
  same : l.locator-items ≡ l.locators;
}
