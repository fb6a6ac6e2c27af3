-- The writers and readers of a participant, while they are gone over.
use Rattle.std.proofs.Common.{◌≡◌, ◌⊎◌, ◌+◌, ◌<◌, ◌∙◌, ℕ, suc, List, [], ◌∷◌, ◌++◌, ap, arith, drop, get_or, inl, inr, length, map, refl, subst, sym, take, add-one}
use Rattle.std.proofs.Math.Seq.{split_at}
use Rattle.std.proofs.lemmas.List.{length-append, length-take-le, take_more}
use Rattle.std.specs.Prelude.{IsTrue}
use Rattle.dds_base.specs.declared.code.Code.{Code}
use Rattle.dds_base.specs.declared.code.Code.TheVariants.{BadParameter, Memory}
use Rattle.rtps_adapter.specs.declared.kinds.KeyField.{KeyField}
use Rattle.dds_domain.specs.declared.opening.OurEnd.{OurEnd}
use Rattle.dds_c.specs.Adapting.{field_of}
use Rattle.dds_c.specs.Announcing.{AreEnds, HasNoEnd, IsEnd, IsNoEnd, has_no_field, more, none}
use Rattle.dds_c.specs.declared.adapting.FlatKeyField.{FlatKeyField}
use Rattle.dds_c.specs.declared.settings.FlatEndpoint.{FlatEndpoint}

-- none yet
pub ends_none : (prefix : List ℕ) (fields : List KeyField) (fs : List FlatEndpoint) (es : List OurEnd) → es ≡ []
    → AreEnds prefix fields (take 0 fs) es × (length es ≡ 0)
ends_none prefix fields fs es empty =
    (subst (λ (xs : List OurEnd). AreEnds prefix fields [] xs) (sym empty) (none prefix fields), ap length empty)

-- one more
ends_and_one : (prefix : List ℕ) (fields : List KeyField) (fs : List FlatEndpoint) (i : ℕ) (d : FlatEndpoint)
    (es : List OurEnd) (e : OurEnd) (number : ℕ) → i < length fs → length es ≡ i → number ≡ i + 1
    → AreEnds prefix fields (take i fs) es → IsEnd prefix fields number (get_or fs i d) e
    → AreEnds prefix fields (take (i + 1) fs) (es ++ e ∷ [])
ends_and_one prefix fields fs i d es e number within same numbered so_far is =
    let next : number ≡ suc (length es) = numbered ∙ (add-one i ∙ ap suc (sym same)) in
    subst (λ (xs : List FlatEndpoint). AreEnds prefix fields xs (es ++ e ∷ [])) (sym (take_more fs i d within))
    (more prefix fields (take i fs) (get_or fs i d) es e so_far
    (subst (λ (n : ℕ). IsEnd prefix fields n (get_or fs i d) e) next is))

-- it stands behind those so far
pub ends_more : (prefix : List ℕ) (fields given : List KeyField) (fs : List FlatEndpoint) (i : ℕ) (d : FlatEndpoint)
    (es new : List OurEnd) (e : OurEnd) (number : ℕ) → given ≡ fields → new ≡ es ++ e ∷ [] → i < length fs → number ≡ i + 1
    → AreEnds prefix fields (take i fs) es × (length es ≡ i) → IsEnd prefix given number (get_or fs i d) e
    → AreEnds prefix fields (take (i + 1) fs) new × (length new ≡ i + 1)
ends_more prefix fields given fs i d es new e number same pushed within numbered so_far is = (
  subst (λ (xs : List OurEnd). AreEnds prefix fields (take (i + 1) fs) xs) (sym pushed)
      (ends_and_one prefix fields fs i d es e number within so_far.1 numbered so_far.0
      (subst (λ (ks : List KeyField). IsEnd prefix ks number (get_or fs i d) e) same is)),
  ap length pushed ∙ (length-append es (e ∷ []) ∙ ap (λ (n : ℕ). n + 1) so_far.1),
)

-- one that is none
pub none_at : (prefix : List ℕ) (fields : List KeyField) (fs : List FlatEndpoint) (i : ℕ) (d : FlatEndpoint) (number : ℕ)
    → i < length fs → number ≡ i + 1 → IsNoEnd prefix fields number (get_or fs i d) → HasNoEnd prefix fields fs
none_at prefix fields fs i d number within numbered is =
    let next : number ≡ suc (length (take i fs)) =
    numbered ∙ (add-one i ∙ ap suc (sym (length-take-le i fs (omega (arith, within))))) in
    inr (
      take i fs,
      get_or fs i d,
      drop (suc i) fs,
      split_at fs i d within,
      subst (λ (n : ℕ). IsNoEnd prefix fields n (get_or fs i d)) next is,
    )

-- it is refused then
pub refused_at : (prefix : List ℕ) (fields : List FlatKeyField) (all : List KeyField) (fs : List FlatEndpoint) (i : ℕ)
    (d : FlatEndpoint) (number : ℕ) (code : Code) → all ≡ map field_of fields → i < length fs → number ≡ i + 1
    → (code ≡ Memory) ⊎ ((code ≡ BadParameter) × IsNoEnd prefix all number (get_or fs i d))
    → (code ≡ Memory)
    ⊎ ((code ≡ BadParameter) × (IsTrue (has_no_field fields) ⊎ HasNoEnd prefix (map field_of fields) fs))
refused_at prefix fields all fs i d number code same within numbered (inl memory) = inl memory
refused_at prefix fields all fs i d number code same within numbered (inr (bad, is)) =
    inr (
      bad,
      inr (subst (λ (ks : List KeyField). HasNoEnd prefix ks fs) same
          (none_at prefix all fs i d number within numbered is)),
    )
