-- Where a key stands among distinct ones, and that one that is forgotten is gone.
use Rattle.std.proofs.Common.{◌≡◌, ℕ, ◌<◌, List, length, get_or, false, not, sym, ap, ◌∙◌, Some, arith, ⊎_elim}
use Rattle.std.proofs.lemmas.Bool.{cases_lt}
use Rattle.std.specs.List.{filter, list_any, position, slice_get, IsDistinct}
use Rattle.std.proofs.lemmas.List.Quantifiers.{position-Some}
use Rattle.std.proofs.lemmas.Map.Keys.{apart_from_distinct}
use Rattle.std.proofs.lemmas.Map.Views.{any-filter_same}
use Rattle.std.proofs.lemmas.Option.{get_or_from_slice_get, slice_get_within}
use Rattle.dds_base.specs.declared.key.Key.{Key}
use Rattle.dds_base.specs.Happening.{same_key}
use Rattle.dds_base.proofs.KeyLaws.{key-same, same_key-comm}
use Rattle.dds_instances.specs.Following.{IsPlaceOf}

-- a key that stands at an index stands at no other
pub place-there : (ks : List Key) (i : Key) (at : ℕ) → IsDistinct same_key ks → at < length ks
    → ((d : Key) → i ≡ get_or ks at d) → IsPlaceOf ks i at
place-there ks i at distinct inside here =
    record {
      within = inside;
      is = λ d. sym (here d);
      apart = λ k d within differ. apart-at ks i at k d distinct (here d) inside within differ;
    }
  where
    apart-at : (ks : List Key) (i : Key) (at k : ℕ) (d : Key) → IsDistinct same_key ks → i ≡ get_or ks at d
        → at < length ks → k < length ks → (k ≡ at → ⊥) → same_key i (get_or ks k d) ≡ false
    apart-at ks i at k d distinct here inside within differ =
        ⊎_elim
        (λ before. same_key-comm i (get_or ks k d) ∙ (ap (λ (x : Key). same_key (get_or ks k d) x) here
        ∙ apart_from_distinct same_key ks k at d distinct before inside))
        (λ le. let after : at < k = omega arith in ap (λ (x : Key). same_key x (get_or ks k d)) here
        ∙ apart_from_distinct same_key ks at k d distinct after within)
        (cases_lt k at)

pub place-of : (ks : List Key) (i : Key) (at : ℕ) → IsDistinct same_key ks → position (same_key i) ks ≡ Some at
    → IsPlaceOf ks i at
place-of ks i at distinct found =
    place-there ks i at distinct (position-Some (same_key i) ks at i found).0
    (λ d. key-same i (get_or ks at d) (position-Some (same_key i) ks at d found).1)

-- the key that is found at an index
pub place-got : (ks : List Key) (i : Key) (at : ℕ) → IsDistinct same_key ks → slice_get ks at ≡ Some i
    → IsPlaceOf ks i at
place-got ks i at distinct found =
    place-there ks i at distinct (slice_get_within ks at i found) (λ d. sym (get_or_from_slice_get ks at i d found))

-- a key that is forgotten is none of those that are left
pub none-left : (ks : List Key) (i : Key)
    → list_any (same_key i) (filter (λ (k : Key). not (same_key k i)) ks) ≡ false
none-left ks i =
    any-filter_same (same_key i) (λ (k : Key). not (same_key k i)) false
    (λ k same. ap not (same_key-comm k i ∙ same)) ks
