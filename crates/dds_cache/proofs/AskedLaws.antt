-- At which place the first of the known instances stands that an access may ask for.
use Rattle.std.proofs.Common.{◌≡◌, ℕ, ◌+◌, ◌-◌, ◌≤◌, ◌<◌, List, get_or, take, false, ◌==◌, sym, refl, subst, arith, ⊎_elim, Option, Some, None}
use Rattle.std.specs.Prelude.{IfSome, MatchOption, slice_get, ℤ}
use Rattle.std.specs.List.{All}
use Rattle.std.proofs.lemmas.Bool.{le-ltb, ltb-false, ne_eqb}
use Rattle.std.proofs.lemmas.List.{take_all}
use Rattle.std.proofs.lemmas.List.Elements.{All-nil, All-take, All-weaker}
use Rattle.std.proofs.lemmas.Option.{MatchOption-at_some, slice_get_cases}
use Rattle.dds_base.specs.declared.key.Key.{Key}
use Rattle.dds_base.specs.declared.happening.Happening.{Happening}
use Rattle.dds_base.specs.declared.mask.Masks.{Masks}
use Rattle.dds_base.specs.declared.qos.ReaderQos.{ReaderQos}
use Rattle.dds_base.specs.declared.selection.Selection.{Selection}
use Rattle.dds_base.specs.declared.selection.Selection.TheVariants.{Instance, NextInstance}
use Rattle.dds_base.specs.Access.{handle_of, lives_begun}
use Rattle.dds_base.specs.Instance.{known_instances}
use Rattle.dds_instances.specs.declared.known.KnownInstance.{KnownInstance}
use Rattle.dds_instances.proofs.HandleLaws.{none-there}
use Rattle.dds_instances.proofs.RiseLaws.{handles-rise, rising-each}
use Rattle.dds_cache.specs.First.{IsFirstAsked, IsFirstPlace, IsPassedBy, TellsAsked}

-- an access of any instance asks for the one at place 0
pub place-any : (q : ReaderQos) (h : List Happening) (selection : Selection)
    → ((i : Key) → IsPassedBy q h selection i → ⊥) → IsFirstPlace q h selection 0
place-any q h selection asked = record {
  before = All-nil (IsPassedBy q h selection);
  only = one (slice_get (known_instances q h) 0);
}
  where
    one : (o : Option Key)
        → IfSome o (λ i. IsPassedBy q h selection i → All (IsPassedBy q h selection) (known_instances q h))
    one None = tt
    one (Some i) = λ passed. absurd (asked i passed)

-- an access of the next instance asks for the first one above the handle that it names
pub place-next : (q : ReaderQos) (h : List Happening) (previous : ℕ) (max : ℤ) (masks : Masks) (place : ℕ)
    → All (λ (i : Key). handle_of q h i ≤ previous) (take place (known_instances q h))
    → IfSome (slice_get (known_instances q h) place) (λ i. previous < handle_of q h i)
    → IsFirstPlace q h (NextInstance previous max masks) place
place-next q h previous max masks place low above = record {
  before =
      All-weaker (λ (i : Key). handle_of q h i ≤ previous) (IsPassedBy q h (NextInstance previous max masks))
      (λ i is. le-ltb previous (handle_of q h i) is) (take place (known_instances q h)) low;
  only = one (slice_get (known_instances q h) place) above;
}
  where
    one : (o : Option Key) → IfSome o (λ i. previous < handle_of q h i)
        → IfSome o (λ i. IsPassedBy q h (NextInstance previous max masks) i
        → All (IsPassedBy q h (NextInstance previous max masks)) (known_instances q h))
    one None high = tt
    one (Some i) high = λ passed.
        let below : handle_of q h i ≤ previous = ltb-false previous (handle_of q h i) passed in
        absurd (omega (arith, high, below))

-- an access of one instance asks for the first one above the number before its handle, or for none
pub place-instance : (q : ReaderQos) (h : List Happening) (handle below : ℕ) (max : ℤ) (masks : Masks) (place : ℕ)
    → below ≡ handle - 1 → All (λ (i : Key). handle_of q h i ≤ below) (take place (known_instances q h))
    → IfSome (slice_get (known_instances q h) place) (λ i. below < handle_of q h i)
    → IsFirstPlace q h (Instance handle max masks) place
place-instance q h handle below max masks place is low above = record {
  before = λ k d within. ne_eqb (handle_of q h (get_or (take place ks) k d)) handle
      (λ same. omega (arith, is, low k d within, named k d within, same));
  only = one (slice_get ks place) refl;
}
  where
    ks : List Key
    ks = known_instances q h

    named : All (λ (i : Key). 1 ≤ handle_of q h i) (take place ks)
    named =
        All-take (λ (i : Key). 1 ≤ handle_of q h i) place ks
        (rising-each (handle_of q h) 1 (1 + lives_begun q h) ks (handles-rise q h))

    one : (o : Option Key) → slice_get ks place ≡ o
        → IfSome o (λ i. (handle_of q h i == handle) ≡ false
        → All (λ (k : Key). (handle_of q h k == handle) ≡ false) ks)
    one None there = tt
    one (Some i) there = λ other. none-there q h handle place
        (subst (λ (n : ℕ). All (λ (k : Key). handle_of q h k ≤ n) (take place ks)) is low)
        (subst (λ (n : ℕ). IfSome (slice_get ks place) (λ k. n < handle_of q h k)) is above)
        (subst (λ (o : Option Key). IfSome o (λ k. (handle_of q h k == handle) ≡ false)) (sym there) other)

-- what is told of the instance at the first place is what is known of the first that is asked for
pub first-told : (q : ReaderQos) (h : List Happening) (selection : Selection) (place : ℕ) (told : Option KnownInstance)
    → IsFirstPlace q h selection place → TellsAsked q h selection place told
    → MatchOption told (All (IsPassedBy q h selection) (known_instances q h)) (IsFirstAsked q h selection)
first-told q h selection place (Some known) first tells = record {
  place = place;
  there = tells.0;
  before = first.before;
  asked = tells.1;
  is_known = tells.2;
}
first-told q h selection place None first tells =
    let ks : List Key = known_instances q h in
    ⊎_elim
    (λ one. let there : slice_get ks place ≡ Some one.0 = one.2 in
    (subst (λ (o : Option Key). IfSome o (λ i. IsPassedBy q h selection i → All (IsPassedBy q h selection) ks)) there
    first.only) (MatchOption-at_some (Unit {0}) (IsPassedBy q h selection) one.0 there tells))
    (λ past. subst (λ (xs : List Key). All (IsPassedBy q h selection) xs) (take_all place ks past.0) first.before)
    (slice_get_cases ks place).1
