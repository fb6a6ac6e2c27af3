-- The locators that are found are those that the parameters say, the first four.
use Rattle.std.proofs.Common.{◌≡◌, ◌≢◌, ℕ, zero, suc, ◌+◌, ◌-◌, ◌<◌, ◌≤◌, List, [], ◌∷◌, ◌++◌, length, take, Some, None, refl, sym, ap, ◌∙◌, append_assoc, append-nil, arith}
use Rattle.std.specs.Prelude.{filter_map}
use Rattle.std.proofs.lemmas.List.{length-append}
use Rattle.std.proofs.Math.Seq.{take-nil}
use Rattle.dds_base.specs.declared.endianness.Endianness.{Endianness}
use Rattle.rtps_wire.specs.Parameters.{Parameter}
use Rattle.rtps_wire.specs.ParametersAt.{parameter_at}
use Rattle.rtps_announcements.specs.ListAt.{parameters_from, parameters_in}
use Rattle.rtps_announcements.specs.Locators.{locator_said, locators_of}
use Rattle.rtps_announcements.specs.declared.locator.Locator.{Locator}
use Rattle.rtps_announcements.proofs.ListLaws.{some_parameters, no_parameters, no_more_parameters}

-- what was found, and what is left says
abbrev with_left : Endianness → ℕ → List Parameter → List Locator → List Locator
with_left order id ps found = found ++ take (4 - length found) (filter_map (locator_said order id) ps)

-- what was found is what was passed says
pub record Gathers (order : Endianness) (id : ℕ) (bytes left : List ℕ) (found : List Locator) : Type 0 where
  pub fuel : ℕ
  pub enough : length left < fuel
  pub room : length found ≤ 4
  pub same : with_left order id (parameters_from fuel order left) found ≡ locators_of order id (parameters_in order bytes)

pub gathers_first : (order : Endianness) (id : ℕ) (bytes : List ℕ) → Gathers order id bytes bytes []
unfolding parameters_in
gathers_first order id bytes =
    record { fuel = suc (length bytes); enough = omega arith; room = omega arith; same = refl }

nothing_more : (found : List Locator) (n : ℕ) → found ≡ found ++ take n []
nothing_more found n = sym (append-nil found) ∙ ap (λ (ls : List Locator). found ++ ls) (sym (take-nil n))

pub gathers_end : (order : Endianness) (id : ℕ) (bytes left : List ℕ) (found : List Locator)
    → parameter_at order left ≡ None → Gathers order id bytes left found
    → found ≡ locators_of order id (parameters_in order bytes)
gathers_end order id bytes left found e g =
    let none = no_parameters g.fuel order left e in
    nothing_more found (4 - length found) ∙ rw none at g.same

pub gathers_sentinel : (order : Endianness) (id : ℕ) (bytes left : List ℕ) (found : List Locator) (x : ℕ)
    (value rest : List ℕ) → parameter_at order left ≡ Some (x, value, rest) → x ≡ 1
    → Gathers order id bytes left found → found ≡ locators_of order id (parameters_in order bytes)
gathers_sentinel order id bytes left found x value rest e is g =
    let none = no_more_parameters g.fuel order left x value rest e is in
    nothing_more found (4 - length found) ∙ rw none at g.same

pub gathers_all : (order : Endianness) (id : ℕ) (bytes left : List ℕ) (found : List Locator) → length found ≡ 4
    → Gathers order id bytes left found → found ≡ locators_of order id (parameters_in order bytes)
gathers_all order id bytes left found full g =
    let none : 4 - length found ≡ 0 = omega (arith, full) in
    sym (append-nil found) ∙ rw none at g.same

take_one : (n : ℕ) (l : Locator) (ls : List Locator) → n < 4 → take (4 - n) (l ∷ ls) ≡ l ∷ take (4 - (n + 1)) ls
take_one n l ls lt =
    let one : 4 - n ≡ suc (4 - (n + 1)) = omega (arith, lt) in rw one refl

pub gathers_none : (order : Endianness) (id : ℕ) (bytes left : List ℕ) (found : List Locator) (x : ℕ)
    (value rest : List ℕ) → parameter_at order left ≡ Some (x, value, rest) → x ≢ 1
    → locator_said order id (record { id = x; value = value }) ≡ None → length rest < length left
    → Gathers order id bytes left found → Gathers order id bytes rest found
gathers_none order id bytes left found x value rest e other none less g = step g.fuel g.enough g.same
  where
    step : (fuel : ℕ) → length left < fuel
        → with_left order id (parameters_from fuel order left) found ≡ locators_of order id (parameters_in order bytes)
        → Gathers order id bytes rest found
    step zero lt same = absurd (omega arith)
    step (suc fuel) lt same =
        let one = some_parameters fuel order left x value rest e other in
        record { fuel = fuel; enough = omega arith; room = g.room; same = rw (one, none) at same }

pub gathers_one : (order : Endianness) (id : ℕ) (bytes left : List ℕ) (found : List Locator) (x : ℕ)
    (value rest : List ℕ) (l : Locator) → parameter_at order left ≡ Some (x, value, rest) → x ≢ 1
    → locator_said order id (record { id = x; value = value }) ≡ Some l → length found < 4
    → length rest < length left
    → Gathers order id bytes left found → Gathers order id bytes rest (found ++ l ∷ [])
gathers_one order id bytes left found x value rest l e other some room less g = step g.fuel g.enough g.same
  where
    more : (ls : List Locator) → (found ++ l ∷ []) ++ take (4 - length (found ++ l ∷ [])) ls
        ≡ found ++ take (4 - length found) (l ∷ ls)
    more ls =
        let len : length (found ++ l ∷ []) ≡ length found + 1 = length-append found (l ∷ []) in
        rw (len, take_one (length found) l ls room) (append_assoc found (l ∷ []) (take (4 - (length found + 1)) ls))

    step : (fuel : ℕ) → length left < fuel
        → with_left order id (parameters_from fuel order left) found ≡ locators_of order id (parameters_in order bytes)
        → Gathers order id bytes rest (found ++ l ∷ [])
    step zero lt same = absurd (omega arith)
    step (suc fuel) lt same =
        let one = some_parameters fuel order left x value rest e other in
        record {
          fuel = fuel;
          enough = omega arith;
          room = omega (arith, room, length-append found (l ∷ []));
          same = more (filter_map (locator_said order id) (parameters_from fuel order rest))
              ∙ (rw (one, some) at same);
        }
