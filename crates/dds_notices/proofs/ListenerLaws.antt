-- What holds of a peer's listeners, for the callers: of nobody's, and of the entities that there are.
use Rattle.std.proofs.Common.{◌≡◌, ℕ, zero, suc, ◌-◌, ◌==◌, Bool, true, false, cond, is_some, List, [], ◌∷◌, Option, Some, None, refl, sym, ap, ◌∙◌, get_or, replicate, ◌||◌, length-set}
use Rattle.std.proofs.lemmas.List.{length-replicate}
use Rattle.std.specs.List.{list_any}
use Rattle.dds_base.specs.declared.entity.Entity.{Entity}
use Rattle.dds_base.specs.declared.entity.Entity.TheVariants.{Participant, Writer, Reader}
use Rattle.dds_notices.specs.declared.notice.Notice.{Notice}
use Rattle.dds_notices.specs.declared.notice.Status.{Status}
use Rattle.dds_base.specs.Number.{at_number, is_number}
use Rattle.dds_base.specs.EachEntity.{EachEntity}
use Rattle.dds_notices.specs.Listeners.{ByEntity, has_entity, with_entity, Place, Places, Slot, Slotted, StandsAt, StandsFor, at_entity, is_any, nobody, taker_of}

-- nobody takes any status
abbrev pub NobodyTakes : Places → Type 0
NobodyTakes places = (entity : Entity) (status : Status) → taker_of places entity status ≡ None

-- there are the same entities afterwards
pub with_entity-has_entity : {X : Type 0} (all : EachEntity X) (entity other : Entity) (x : X)
    → has_entity (with_entity all entity x) other ≡ has_entity all other
with_entity-has_entity all Participant other x = elim other [ Participant ↦ refl | Writer n ↦ refl | Reader n ↦ refl ]
with_entity-has_entity all (Writer m) Participant x = refl
with_entity-has_entity all (Writer m) (Writer n) x = ap (is_number n) (length-set all.writers (m - 1) x)
with_entity-has_entity all (Writer m) (Reader n) x = refl
with_entity-has_entity all (Reader m) Participant x = refl
with_entity-has_entity all (Reader m) (Writer n) x = refl
with_entity-has_entity all (Reader m) (Reader n) x = ap (is_number n) (length-set all.readers (m - 1) x)

-- ---- nobody

is_some-none : {X : Type 0} (x : Option X) → is_some x ≡ false → x ≡ None
is_some-none None h = refl
is_some-none (Some x) h = cc

none_here : {X : Type 0} (xs : List (Option X)) (i : ℕ) → list_any is_some xs ≡ false → get_or xs i None ≡ None
none_here [] i h = refl
none_here (None ∷ xs) zero h = refl
none_here (None ∷ xs) (suc i) h = none_here xs i h
none_here (Some x ∷ xs) i h = cc

none_either : {X : Type 0} (b : Bool) → cond {A = Option X} b None None ≡ None
none_either true = refl
none_either false = refl

none_at : {X : Type 0} (xs : List (Option X)) (n : ℕ) → list_any is_some xs ≡ false → at_number xs n ≡ None
none_at xs n h = rw (none_here xs (n - 1) h) (none_either (n == 0))

both_false : (a b : Bool) → (a || b) ≡ false → (a ≡ false) × (b ≡ false)
both_false true b h = cc
both_false false b h = (refl, h)

none_entity : {X : Type 0} (all : ByEntity X) → is_any all ≡ false → (entity : Entity)
    → at_entity all entity ≡ None
none_entity all h entity =
    let own = both_false (is_some all.participant) (list_any is_some all.writers || list_any is_some all.readers) h in
    let others = both_false (list_any is_some all.writers) (list_any is_some all.readers) own.1 in
    elim entity as (λ e. at_entity all e ≡ None) [
      | Participant ↦ is_some-none all.participant own.0
      | Writer n ↦ none_at all.writers n others.0
      | Reader n ↦ none_at all.readers n others.1
    ]

none_of : {X : Type 0} (count i : ℕ) → get_or {A = Option X} (replicate count None) i None ≡ None
none_of zero i = refl
none_of (suc count) zero = refl
none_of (suc count) (suc i) = none_of count i

none_numbered : {X : Type 0} (count n : ℕ) → at_number {X = X} (replicate count None) n ≡ None
none_numbered count n = rw (none_of count (n - 1)) (none_either (n == 0))

any_of : (X : Type 0) (count : ℕ) → list_any (λ (o : Option X). is_some o) (replicate count None) ≡ false
any_of X zero = refl
any_of X (suc count) = any_of X count

-- where nobody is, nothing stands
pub nobody_is_none : (X : Type 0) (writers readers : ℕ) → is_any {X = X} (nobody writers readers) ≡ false
nobody_is_none X writers readers =
    ap (λ (b : Bool). b || list_any (λ (o : Option X). is_some o) (replicate readers None)) (any_of X writers)
    ∙ any_of X readers

-- where nobody is, nobody takes a status
pub nobody_is_told : (writers readers : ℕ) → NobodyTakes (nobody writers readers)
nobody_is_told writers readers entity status =
    let places : Places = nobody writers readers in
    rw (none_entity places (nobody_is_none Place writers readers) entity) refl

module _ {L : Type 0} (notices : L → List Notice) (capacity : L → ℕ) (becomes : L → Notice → L → Type 0) where
  -- nobody stands for nobody
  pub nobody_stands : (writers readers : ℕ)
      → StandsFor notices capacity becomes (nobody writers readers) (nobody writers readers) (nobody writers readers)
  nobody_stands writers readers = record {
    writers = length-replicate writers None ∙ sym (length-replicate writers None);
    readers = length-replicate readers None ∙ sym (length-replicate readers None);
    given_writers = length-replicate writers None ∙ sym (length-replicate writers None);
    given_readers = length-replicate readers None ∙ sym (length-replicate readers None);
    each = elim [
      | Participant ↦ tt
      | Writer n ↦ rw (none_numbered {X = L} writers n, none_numbered {X = Slot L} writers n, none_numbered {X = Place} writers n) tt
      | Reader n ↦ rw (none_numbered {X = L} readers n, none_numbered {X = Slot L} readers n, none_numbered {X = Place} readers n) tt
    ];
  }

  no_place : (given : Option L) (slot : Option (Slot L)) (place : Option Place)
      → StandsAt notices capacity becomes given slot place → slot ≡ None → place ≡ None
  no_place given None None stands h = refl
  no_place None None (Some place) stands h = absurd stands
  no_place (Some given) None (Some place) stands h = absurd stands
  no_place given (Some slot) place stands h = cc

  -- where no listener is set, none takes a status
  pub nobody_takes : (given : ByEntity L) (slots : Slotted L) (places : Places) → is_any slots ≡ false
      → StandsFor notices capacity becomes given slots places
      → (entity : Entity) (status : Status) → taker_of places entity status ≡ None
  nobody_takes given slots places h stands entity status =
      let own =
      no_place (at_entity given entity) (at_entity slots entity) (at_entity places entity) (stands.each entity)
      (none_entity slots h entity)
      in
      let over =
      no_place given.participant slots.participant places.participant (stands.each Participant) (none_entity slots h Participant) in
      rw (own, over) refl
