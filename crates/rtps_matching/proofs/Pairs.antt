-- Who is matched with whom, element by element, and when a change is told.
use Rattle.std.proofs.Common.{◌≡◌, ◌∙◌, ℕ, Bool, true, false, List, map, Contains, Some, refl, ap, subst}
use Rattle.std.specs.Prelude.{◌&&◌, filter, nat_eq, not}
use Rattle.std.proofs.lemmas.Bool.Decides.{Decides-eqb}
use Rattle.std.proofs.lemmas.Slice.Eq.{slice_eq-Decides}
use Rattle.dds_base.specs.declared.guid.Guid.{Guid}
use Rattle.dds_base.specs.Checked.{same_entity, same_prefix}
use Rattle.rtps_discovery.proofs.Members.{from_filter, from_map, into_filter, into_map}
use Rattle.rtps_matching.specs.declared.end.End.{End}
use Rattle.rtps_matching.specs.declared.far.Far.{Far}
use Rattle.rtps_matching.specs.declared.told.Told.TheVariants.{Changed, Matched, Unmatched}
use Rattle.std.specs.Str.{bytes_eq}
use Rattle.rtps_matching.specs.Matches.{change, is_far, is_matched, matches, same_guid}
use Rattle.rtps_matching.specs.Steps.{is_again}
use Rattle.rtps_matching.proofs.Members.{filter_passes, from_flat_map, into_flat_map}

-- ---- names

both_true : (a b : Bool) → (a && b) ≡ true → (a ≡ true) × (b ≡ true)
both_true true true e = (refl, refl)
both_true true false e = absurd cc
both_true false b e = absurd cc

pub guid_is : (a : Guid) → same_guid a a ≡ true
guid_is a =
    let prefix : same_prefix a.prefix a.prefix ≡ true =
    (slice_eq-Decides {E = nat_eq} Decides-eqb a.prefix.0 a.prefix.0 (same_prefix a.prefix a.prefix) refl).1 refl in
    let entity : same_entity a.entity a.entity ≡ true =
    (slice_eq-Decides {E = nat_eq} Decides-eqb a.entity.0 a.entity.0 (same_entity a.entity a.entity) refl).1 refl in
    ap (λ (b : Bool). b && same_entity a.entity a.entity) prefix ∙ entity

pub guid_same : (a b : Guid) → same_guid a b ≡ true → a ≡ b
guid_same a b e =
    let parts = both_true (same_prefix a.prefix b.prefix) (same_entity a.entity b.entity) e in
    let prefix : a.prefix.0 ≡ b.prefix.0 =
    (slice_eq-Decides {E = nat_eq} Decides-eqb a.prefix.0 b.prefix.0 (same_prefix a.prefix b.prefix) refl).0 parts.0 in
    let entity : a.entity.0 ≡ b.entity.0 =
    (slice_eq-Decides {E = nat_eq} Decides-eqb a.entity.0 b.entity.0 (same_entity a.entity b.entity) refl).0 parts.1 in
    ap (λ (p : List ℕ). let g : Guid = record { prefix = record { 0 = p }; entity = a.entity } in g) prefix
    ∙ ap (λ (n : List ℕ). let g : Guid = record { prefix = b.prefix; entity = record { 0 = n } } in g) entity

-- ---- pairs

-- one of our own of the first name is matched with a far one of the second
pub record Pair (own : List End) (far : List Far) (a b : Guid) : Type 0 where
  pub end : End
  pub other : Far
  pub here : Contains own end
  pub there : Contains far other
  pub together : is_matched end other ≡ true
  pub own_is : end.endpoint.guid ≡ a
  pub far_is : other.guid ≡ b

pub from_matches : (own : List End) (far : List Far) (a b : Guid) → Contains (matches own far) (a, b) → Pair own far a b
from_matches own far a b c =
    let at = from_flat_map (λ (o : End). map (λ (f : Far). (o.endpoint.guid, f.guid)) (filter (is_matched o) far)) own
    (a, b) c in
    let of = from_map (λ (f : Far). (at.0.endpoint.guid, f.guid)) (filter (is_matched at.0) far) (a, b) at.2 in
    record {
      end = at.0;
      other = of.0;
      here = at.1;
      there = from_filter (is_matched at.0) far of.0 of.1;
      together = filter_passes (is_matched at.0) far of.0 of.1;
      own_is = ap (λ (p : Guid × Guid). p.0) of.2;
      far_is = ap (λ (p : Guid × Guid). p.1) of.2;
    }

pub into_matches : (own : List End) (far : List Far) (a b : Guid) → Pair own far a b → Contains (matches own far) (a, b)
into_matches own far a b p =
    let name : Far → Guid × Guid = λ f. (p.end.endpoint.guid, f.guid) in
    let named : Contains (map name (filter (is_matched p.end) far)) (name p.other) =
    into_map name (filter (is_matched p.end) far) p.other
    (into_filter (is_matched p.end) far p.other p.there p.together) in
    let all : Contains (matches own far) (name p.other) =
    into_flat_map (λ (o : End). map (λ (f : Far). (o.endpoint.guid, f.guid)) (filter (is_matched o) far)) own p.end
    (name p.other) p.here named in
    let is : name p.other ≡ (a, b) =
    ap (λ (g : Guid). let q : Guid × Guid = (g, p.other.guid) in q) p.own_is
    ∙ ap (λ (g : Guid). let q : Guid × Guid = (a, g) in q) p.far_is in
    subst (λ (q : Guid × Guid). Contains (matches own far) q) is all

-- ---- changes

pub is_gained : (o f a b : Guid) (was is : Bool) → change o f was is ≡ Some (Matched a b)
    → (was ≡ false) × (is ≡ true) × (o ≡ a) × (f ≡ b)
is_gained o f a b false false e = absurd cc
is_gained o f a b false true e = (refl, refl, cc, cc)
is_gained o f a b true false e = absurd cc
is_gained o f a b true true e = absurd cc

pub is_lost : (o f a b : Guid) (was is : Bool) → change o f was is ≡ Some (Unmatched a b)
    → (was ≡ true) × (is ≡ false) × (o ≡ a) × (f ≡ b)
is_lost o f a b false false e = absurd cc
is_lost o f a b false true e = absurd cc
is_lost o f a b true false e = (refl, refl, cc, cc)
is_lost o f a b true true e = absurd cc

pub is_changed : (o f a b : Guid) (was is : Bool) → change o f was is ≡ Some (Changed a b)
    → (was ≡ true) × (is ≡ true) × (o ≡ a) × (f ≡ b)
is_changed o f a b false false e = absurd cc
is_changed o f a b false true e = absurd cc
is_changed o f a b true false e = absurd cc
is_changed o f a b true true e = (refl, refl, cc, cc)

pub gains : (o f : Guid) (was is : Bool) → was ≡ false → is ≡ true → change o f was is ≡ Some (Matched o f)
gains o f was is before after =
    ap (λ (b : Bool). change o f b is) before ∙ ap (λ (b : Bool). change o f false b) after

pub loses : (o f : Guid) (was is : Bool) → was ≡ true → is ≡ false → change o f was is ≡ Some (Unmatched o f)
loses o f was is before after =
    ap (λ (b : Bool). change o f b is) before ∙ ap (λ (b : Bool). change o f true b) after

pub not_not : (b : Bool) → not b ≡ false → b ≡ true
not_not true e = refl
not_not false e = absurd cc

-- who says the same again is known
pub again_is_known : (guid : Guid) (payload : List ℕ) (f : Far) → is_again guid payload f ≡ true → is_far guid f ≡ true
again_is_known guid payload f e =
    (both_true (is_far guid f) (f.is_awake && bytes_eq f.payload payload) e).0
