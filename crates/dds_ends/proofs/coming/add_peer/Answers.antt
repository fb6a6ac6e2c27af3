use Rattle.std.proofs.Common.{◌≡◌, ◌==◌, Bool, false, List, [], ◌∷◌, ◌++◌, ap, sym, ◌∙◌, rules}
use Rattle.std.specs.Prelude.{if◌then◌else◌}
use Rattle.std.specs.List.{list_any}
use Rattle.std.proofs.lemmas.Iterator.{YieldsList-from_slice}
use Rattle.std.proofs.lemmas.Iterator.Search.{any_from_yields_List}
use Rattle.dds_ends.specs.declared.matching.Destination.{Destination}
use Rattle.dds_ends.proofs.coming.add_peer.Goals as goal

pub returns : goal.returns
returns c =
    let peers : List Destination = c.args.peers.now.items in
    let is_it : Destination → Bool = λ d. d.peer == c.args.peer.peer in
    let none : list_any is_it peers ≡ false =
    sym (any_from_yields_List is_it _ _ _ c.any.ensures.ran (YieldsList-from_slice peers (search rules))
    (λ p b q k. search rules)) ∙ c.if-any.false in
    c.push_reserved.ensures.items
    ∙ sym (ap (λ (b : Bool). if b then peers else peers ++ c.args.peer ∷ []) none)
