-- A derived `==` decides whether two values are the same, where the test of each of their parts does.
--     Parts, ◌⨾◌, of_variants      the tests of an enum's variants, and its own
--     bare, last, more             a variant with no field, the last field of one, and a field before the later ones
--     lists, keys, ..              the values that calls and answers share
use Rattle.std.proofs.Common.{◌≡◌, Bool, true, false, ◌&&◌, List, [], ◌∷◌, refl, ap, rules}
use Rattle.std.specs.Bool.{Decides}
use Rattle.std.specs.Cmp.Lexicographic.{pointwise}
use Rattle.std.proofs.lemmas.Bool.Decides.{Decides-and, Decides-eqb, Decides-like}
use Rattle.std.proofs.lemmas.Slice.Eq.{slice_eq-Decides}
use mathlib.Core.Logic.{inl, inr}
use denote.Struct.Field.{Field}
use denote.Struct.Values.{Values}
use denote.Enum.Declared.{Record, Choice, values_one}
use denote.Enum.Compared.{Each, by}
use Rattle.dds_base.specs.contracts.endpoint.EndpointPartialEq.TheImpl as of_endpoints
use Rattle.dds_base.specs.contracts.entity.Entity.{enum as enum_of_entities}
use Rattle.dds_base.specs.contracts.entity.EntityPartialEq.TheImpl as of_entities
use Rattle.dds_base.specs.contracts.key.KeyPartialEq.TheImpl as of_keys
use Rattle.dds_base.specs.declared.endpoint.Endpoint.{Endpoint}
use Rattle.dds_base.specs.declared.entity.Entity.{Entity}
use Rattle.dds_base.specs.declared.key.Key.{Key}
use Rattle.dds_conditions.specs.contracts.condition.Cond.{enum as enum_of_conds}
use Rattle.dds_conditions.specs.contracts.condition.CondPartialEq.TheImpl as of_conds
use Rattle.dds_conditions.specs.declared.condition.Cond.{Cond}
use Rattle.dds_notices.specs.contracts.mask.StatusMaskPartialEq.TheImpl as of_status_masks
use Rattle.dds_notices.specs.declared.mask.StatusMask.{StatusMask}

-- ---- enums

-- the test of each variant's fields decides
abbrev pub Parts : (Fss : List (List Field)) → Each Bool Fss → Type 0
Parts [] es = Unit {0}
Parts (Fs ∷ Fss) es = ((a b : Values Fs) → Decides (es.0 a b) (a ≡ b)) × Parts Fss es.1

choices : (Fss : List (List Field)) (es : Each Bool Fss) → Parts Fss es → (c d : Choice Fss)
    → Decides (by false false Fss es c d) (c ≡ d)
choices [] es all c d = absurd c
choices (Fs ∷ Fss) es all (inl x) (inl y) = Decides-like (es.0 x y) (ap inl) (λ e. cc) (all.0 x y)
choices (Fs ∷ Fss) es all (inl x) (inr y) = (λ e. cc, λ e. cc)
choices (Fs ∷ Fss) es all (inr x) (inl y) = (λ e. cc, λ e. cc)
choices (Fs ∷ Fss) es all (inr x) (inr y) =
    Decides-like (by false false Fss es.1 x y) (ap inr) (λ e. cc) (choices Fss es.1 all.1 x y)

-- a variant's, and then those of the later ones
infixr 4 ◌⨾◌
pub ◌⨾◌ : {A B : Type 0} → A → B → A × B
x ⨾ y = (x, y)

-- so the derived test decides
pub of_variants : (N : Record) (es : Each Bool N.parts) → Parts N.parts es → (a b : N.D)
    → Decides (by false false N.parts es (N.as_values a) (N.as_values b)) (a ≡ b)
of_variants N es all a b =
    Decides-like (by false false N.parts es (N.as_values a) (N.as_values b)) (values_one N a b) (ap N.as_values)
    (choices N.parts es all (N.as_values a) (N.as_values b))

pub bare : (a b : Unit {0}) → Decides true (a ≡ b)
bare a b = (λ _. refl, λ _. refl)

module _ {A : Type 0} {E : A → A → Bool} (each : (x y : A) → Decides (E x y) (x ≡ y)) where
  pub last : (a b : A × Unit {0}) → Decides (E a.0 b.0) (a ≡ b)
  last a b = Decides-like (E a.0 b.0) (λ e i. (e i, tt)) (λ e. ap (λ p. p.0) e) (each a.0 b.0)

  pub more : {B : Type 0} {F : B → B → Bool} → ((x y : B) → Decides (F x y) (x ≡ y)) → (a b : A × B)
      → Decides (E a.0 b.0 && F a.1 b.1) (a ≡ b)
  more {B} {F} later a b =
      let both = Decides-and (E a.0 b.0) (F a.1 b.1) (each a.0 b.0) (later a.1 b.1) in
      Decides-like (E a.0 b.0 && F a.1 b.1) (λ h i. (h.0 i, h.1 i)) (λ e. (ap (λ p. p.0) e, ap (λ p. p.1) e)) both

  -- lists, where the test of their elements decides
  pub lists : (xs ys : List A) → Decides (pointwise E xs ys) (xs ≡ ys)
  lists xs ys = slice_eq-Decides each xs ys (pointwise E xs ys) refl

-- ---- what calls and answers share

pub keys : (a b : Key) → Decides (of_keys.ghosts.eq a b) (a ≡ b)
keys a b = search rules

pub endpoints : (a b : Endpoint) → Decides (of_endpoints.ghosts.eq a b) (a ≡ b)
endpoints a b = search rules

pub entities : (a b : Entity) → Decides (of_entities.ghosts.eq a b) (a ≡ b)
entities = of_variants enum_of_entities _ (bare ⨾ last Decides-eqb ⨾ last Decides-eqb ⨾ tt)

pub conds : (a b : Cond) → Decides (of_conds.ghosts.eq a b) (a ≡ b)
conds = of_variants enum_of_conds _ (last entities ⨾ last Decides-eqb ⨾ tt)

pub status_masks : (a b : StatusMask) → Decides (of_status_masks.ghosts.eq a b) (a ≡ b)
status_masks a b = search rules
