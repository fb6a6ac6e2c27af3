use Rattle.std.proofs.Common.{◌≡◌, ◌==◌, Bool, List, not, take, get_or, ap, sym, ◌∙◌, rules}
use Rattle.std.specs.List.{list_any}
use Rattle.std.proofs.lemmas.Iterator.{YieldsList-from_slice}
use Rattle.std.proofs.lemmas.Iterator.Search.{any_from_yields_List}
use Rattle.dds_ends.specs.declared.matching.ReaderName.{ReaderName}
use Rattle.dds_ends.proofs.FirstPeers.{is_first_at}
use Rattle.dds_ends.proofs.Joining.{no_name}
use Rattle.dds_ends.proofs.coming.is_first_of.Goals as goal

pub returns : goal.returns
returns c =
    let names : List ReaderName = c.args.names.now in
    let earlier : List ReaderName = take c.args.row names in
    let same_peer : ReaderName → Bool =
    λ m. m.reader.peer == (get_or names c.args.row no_name).reader.peer in
    let rest : c.iter.result.rest.now ≡ earlier = c.iter.ensures.rest in
    ap not
    (any_from_yields_List same_peer _ _ _ c.any.ensures.ran (YieldsList-from_slice c.iter.result.rest.now (search rules))
    (λ p b q k. search rules)
    ∙ ap (λ (ns : List ReaderName). list_any same_peer ns) rest)
    ∙ sym (is_first_at names c.args.row no_name c.requires)
