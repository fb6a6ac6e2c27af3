-- An array is the list of its elements, one by one.
use Rattle.std.proofs.Common.{◌≡◌, ℕ, zero, suc, ◌+◌, List, [], ◌∷◌, ◌++◌, length, drop, get_or, refl, sym, ap, ◌∙◌, append-nil, append_assoc, arith}
use Rattle.std.proofs.lemmas.List.{drop_all, drop_more}
use Rattle.dds_base.specs.declared.guid.GuidPrefix.{GuidPrefix}
use Rattle.rtps_wire.specs.declared.submessage.Submessage.TheVariants.{InfoDst}
use Rattle.rtps_wire.specs.Names.{id_info_dst, flag_endianness}
use Rattle.rtps_wire.specs.Submessages.{spelling_of_submessage}

-- so many elements from an index on
abbrev pub listed : ℕ → ℕ → List ℕ → List ℕ
listed zero at xs = []
listed (suc n) at xs = get_or xs at 0 ∷ listed n (at + 1) xs

-- are what is left of the list there
pub listed_is : (n at : ℕ) (xs : List ℕ) → at + n ≡ length xs → listed n at xs ≡ drop at xs
listed_is zero at xs is = sym (drop_all at xs (omega (arith, is)))
listed_is (suc n) at xs is =
    ap (λ (more : List ℕ). get_or xs at 0 ∷ more) (listed_is n (at + 1) xs (omega (arith, is)))
    ∙ sym (drop_more xs at 0 (omega (arith, is)))

-- three parts of a list, and what follows it
pub in_three : (first second third whole rest : List ℕ) → (first ++ second) ++ third ≡ whole
    → first ++ (second ++ (third ++ rest)) ≡ whole ++ rest
in_three first second third whole rest is = rw (← is) (simp append_assoc)

-- ---- an INFO_DST has twelve octets, and no padding

pub info_dst_is : (to : GuidPrefix) → length to.0 ≡ 12
    → spelling_of_submessage (InfoDst to) ≡ id_info_dst ∷ flag_endianness ∷ 12 ∷ 0 ∷ to.0
info_dst_is to is = rw (is, append-nil to.0, is) refl
