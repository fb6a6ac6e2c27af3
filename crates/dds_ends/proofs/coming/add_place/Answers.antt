use Rattle.std.proofs.Common.{◌≡◌, Bool, false, None, List, [], ◌∷◌, ◌++◌, ap, sym, ◌∙◌, rules}
use Rattle.std.specs.Prelude.{if◌then◌else◌}
use Rattle.std.proofs.lemmas.Iterator.{YieldsList-from_slice}
use Rattle.std.proofs.lemmas.Iterator.Search.{any_from_yields_List}
use Rattle.dds_machine.specs.Part.{same_endpoint}
use Rattle.dds_ends.specs.declared.matching.LastCount.{LastCount}
use Rattle.dds_ends.specs.MatchedEnds.{has_count}
use Rattle.dds_ends.proofs.coming.add_place.Goals as goal

pub returns : goal.returns
returns c =
    let counts : List LastCount = c.args.counts.now.items in
    let of_reader : LastCount → Bool = λ k. same_endpoint k.reader c.args.reader in
    let none : has_count counts c.args.reader ≡ false =
    sym (any_from_yields_List of_reader _ _ _ c.any.ensures.ran (YieldsList-from_slice counts (search rules))
    (λ p b q k. search rules)) ∙ c.if-any.false in
    c.push_reserved.ensures.items
    ∙ sym (ap (λ (b : Bool). if b then counts else counts ++ record { reader = c.args.reader; count = None } ∷ [])
    none)
