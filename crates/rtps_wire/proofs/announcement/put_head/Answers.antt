use Rattle.std.proofs.Common.{◌≡◌, ◌∙◌, ap, sym, List, ℕ, [], ◌∷◌, ◌++◌, append-nil}
use Rattle.rtps_wire.specs.Messages.{header_text}
use Rattle.rtps_wire.specs.Names.{minor_version, vendor_unknown}
use Rattle.rtps_wire.proofs.ArrayLaws.{in_three, info_dst_is}
use Rattle.rtps_wire.proofs.announcement.put_head.Goals as goal

pub returns-clause-ok : goal.returns-clause-ok
returns-clause-ok c =
    let header : List ℕ = header_text minor_version vendor_unknown c.args.prefix.now in
    let to = c.words_of-2.result in
    let dst : to.0 ++ (to.1 ++ (to.2 ++ [])) ≡ c.args.to.now.0 =
    in_three to.0 to.1 to.2 c.args.to.now.0 [] c.words_of-2.ensures.octets ∙ append-nil c.args.to.now.0 in
    let from = in_three c.words_of.result.0 c.words_of.result.1 c.words_of.result.2 c.args.prefix.now.0
    (14 ∷ 1 ∷ 12 ∷ 0 ∷ (to.0 ++ (to.1 ++ (to.2 ++ [])))) c.words_of.ensures.octets in
    c.in_ok-extend_from_slice.ensures.items
    ∙ ap (λ (octets : List ℕ). c.args.out.now.items ++ octets)
    (c.as_flattened.ensures.value
    ∙ (ap (λ (octets : List ℕ). 82 ∷ 84 ∷ 80 ∷ 83 ∷ 2 ∷ 5 ∷ 0 ∷ 0 ∷ octets) from
    ∙ (ap (λ (octets : List ℕ). header ++ (14 ∷ 1 ∷ 12 ∷ 0 ∷ octets)) dst
    ∙ ap (λ (octets : List ℕ). header ++ octets)
    (sym (info_dst_is c.args.to.now c.words_of-2.ensures.len)))))
