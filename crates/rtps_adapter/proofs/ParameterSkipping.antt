-- Parameters are gone over up to the sentinel.
use Rattle.std.proofs.Common.{◌≡◌, ◌≢◌, ℕ, zero, suc, ◌<◌, true, false, eqb, List, length, Some, None, refl, sym, ◌∙◌, arith, eq-eqb}
use Rattle.std.proofs.lemmas.Bool.{ne_eqb}
use Rattle.dds_base.specs.declared.endianness.Endianness.{Endianness}
use Rattle.rtps_wire.specs.ParametersAt.{parameter_at}
use Rattle.rtps_adapter.specs.Opened.{after_first, after_parameters}

-- what is left leads to the same place
pub record MayGoOn (order : Endianness) (bytes left : List ℕ) : Type 0 where
  pub count : ℕ
  pub enough : length left < count
  pub same : after_first count order left ≡ after_parameters order bytes

pub may_begin : (order : Endianness) (bytes : List ℕ) → MayGoOn order bytes bytes
unfolding after_parameters
may_begin order bytes = record { count = suc (length bytes); enough = omega arith; same = refl }

pub may_go_on : (order : Endianness) (bytes left : List ℕ) (id : ℕ) (value rest : List ℕ)
    → parameter_at order left ≡ Some (id, value, rest) → id ≢ 1 → length rest < length left
    → MayGoOn order bytes left → MayGoOn order bytes rest
unfolding after_first
may_go_on order bytes left id value rest e other less on = step on.count on.enough on.same
  where
    step : (count : ℕ) → length left < count → after_first count order left ≡ after_parameters order bytes
        → MayGoOn order bytes rest
    step zero lt same = absurd (omega arith)
    step (suc count) lt same =
        let no : eqb id 1 ≡ false = ne_eqb id 1 other in
        let one : after_first (suc count) order left ≡ after_first count order rest = rw (e, no) refl in
        record { count = count; enough = omega arith; same = sym one ∙ same }

pub ends_without : (order : Endianness) (bytes left : List ℕ) → parameter_at order left ≡ None
    → MayGoOn order bytes left → None ≡ after_parameters order bytes
unfolding after_first
ends_without order bytes left e on = step on.count on.enough on.same
  where
    step : (count : ℕ) → length left < count → after_first count order left ≡ after_parameters order bytes
        → None ≡ after_parameters order bytes
    step zero lt same = same
    step (suc count) lt same = rw e at same

pub ends_at_sentinel : (order : Endianness) (bytes left : List ℕ) (id : ℕ) (value rest : List ℕ)
    → parameter_at order left ≡ Some (id, value, rest) → id ≡ 1 → MayGoOn order bytes left
    → Some rest ≡ after_parameters order bytes
unfolding after_first
ends_at_sentinel order bytes left id value rest e is on = step on.count on.enough on.same
  where
    step : (count : ℕ) → length left < count → after_first count order left ≡ after_parameters order bytes
        → Some rest ≡ after_parameters order bytes
    step zero lt same = absurd (omega arith)
    step (suc count) lt same =
        let yes : eqb id 1 ≡ true = eq-eqb id 1 is in
        let one : after_first (suc count) order left ≡ Some rest = rw (e, yes) refl in
        sym one ∙ same
