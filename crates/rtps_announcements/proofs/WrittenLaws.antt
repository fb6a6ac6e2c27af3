-- What is written is a list of parameters, whose values are found by their ids.
use Rattle.std.proofs.Common.{◌≡◌, ◌≢◌, ℕ, ◌%◌, ◌<◌, ◌^◌, Bool, true, false, cond, eqb, List, [], ◌∷◌, ◌++◌, length, Option, Some, None, refl, sym, ap, subst, ◌∙◌, append_assoc, arith}
use Rattle.std.specs.Prelude.{filter_map}
use Rattle.std.specs.List.{AllByRecursion, flat_map}
use Rattle.std.specs.Option.{option_or}
use Rattle.std.proofs.lemmas.List.Elements.{filter_map-append}
use Rattle.dds_base.specs.declared.endianness.Endianness.TheVariants.{Little}
use Rattle.rtps_wire.specs.Parameters.{Parameter, parameter_text, ReadsParameters, parameter_value}
use Rattle.rtps_announcements.specs.Lists.{ReadsList, IsUnderstood}
use Rattle.rtps_announcements.specs.Locators.{locator_at, locator_said}
use Rattle.rtps_announcements.specs.Written.{Row, row_text, list_text}
use Rattle.rtps_announcements.specs.declared.locator.Locator.{Locator}

-- ---- the parameters of rows

-- a parameter for each value
pub with_id : ℕ → List (List ℕ) → List Parameter
with_id id [] = []
with_id id (v ∷ vs) = record { id = id; value = v } ∷ with_id id vs

pub parameters_of : List Row → List Parameter
parameters_of [] = []
parameters_of (row ∷ rows) = with_id row.0 row.1 ++ parameters_of rows

-- a length that a parameter may have
pub record IsValue (value : List ℕ) : Type 0 where
  pub short : length value < 2 ^ 16
  pub whole : length value % 4 ≡ 0

-- an id that anyone may pass over, whose values have no length of their own but for a strength
pub record IsRow (row : Row) : Type 0 where
  pub no_sentinel : row.0 ≢ 1
  pub no_key_hash : row.0 ≢ 0x0070
  pub no_status : row.0 ≢ 0x0071
  pub below : row.0 < 0x4000
  pub values : AllByRecursion IsValue row.1
  pub strength : row.0 ≡ 6 → AllByRecursion (λ v. length v ≡ 4) row.1

reads_values : (id : ℕ) (vs : List (List ℕ)) (ps : List Parameter) (after rest : List ℕ)
    → id ≢ 1 → id ≢ 0x0070 → id ≢ 0x0071 → id < 0x4000 → AllByRecursion IsValue vs
    → (id ≡ 6 → AllByRecursion (λ v. length v ≡ 4) vs) → ReadsParameters Little after ps rest
    → ReadsParameters Little (row_text (id, vs) ++ after) (with_id id vs ++ ps) rest
unfolding row_text with_id
reads_values id [] ps after rest a b c d each strength r = r
reads_values id (v ∷ vs) ps after rest a b c d each strength r = (
  row_text (id, vs) ++ after,
  record {
    small = omega (arith, d);
    no_sentinel = a;
    short = each.0.short;
    whole = each.0.whole;
    key_hash = λ e. absurd (b e);
    status = λ e. absurd (c e);
    strength = λ e. (strength e).0;
  },
  append_assoc (parameter_text Little (record { id = id; value = v })) (row_text (id, vs)) after,
  reads_values id vs ps after rest a b c d each.1 (λ e. (strength e).1) r,
)

reads_rows : (rows : List Row) (after rest : List ℕ) → AllByRecursion IsRow rows
    → ReadsParameters Little after [] rest
    → ReadsParameters Little (flat_map row_text rows ++ after) (parameters_of rows) rest
unfolding parameters_of
reads_rows [] after rest each r = r
reads_rows (row ∷ rows) after rest each r =
    subst (λ (bytes : List ℕ). ReadsParameters Little bytes (with_id row.0 row.1 ++ parameters_of rows) rest)
    (sym (append_assoc (row_text row) (flat_map row_text rows) after))
    (reads_values row.0 row.1 (parameters_of rows) (flat_map row_text rows ++ after) rest each.0.no_sentinel
    each.0.no_key_hash each.0.no_status each.0.below each.0.values each.0.strength
    (reads_rows rows after rest each.1 r))

pub list_reads : (rows : List Row) → AllByRecursion IsRow rows → ReadsList (list_text rows) Little (parameters_of rows)
list_reads rows each = record {
  options = 0 ∷ 0 ∷ [];
  parameters = flat_map row_text rows ++ 1 ∷ 0 ∷ 0 ∷ 0 ∷ [];
  rest = [];
  two = refl;
  text = refl;
  list = reads_rows rows (1 ∷ 0 ∷ 0 ∷ 0 ∷ []) [] each (0, omega arith, refl);
}

-- ---- all are understood

understood_values : (known : List ℕ) (id : ℕ) (vs : List (List ℕ)) (ps : List Parameter) → id < 0x4000
    → IsUnderstood known ps → IsUnderstood known (with_id id vs ++ ps)
unfolding with_id
understood_values known id [] ps lt u = u
understood_values known id (v ∷ vs) ps lt u =
    (λ m. absurd (omega (arith, m.least, lt)), understood_values known id vs ps lt u)

pub rows_understood : (known : List ℕ) (rows : List Row) → AllByRecursion IsRow rows
    → IsUnderstood known (parameters_of rows)
unfolding parameters_of
rows_understood known [] each = tt
rows_understood known (row ∷ rows) each =
    understood_values known row.0 row.1 (parameters_of rows) each.0.below (rows_understood known rows each.1)

-- ---- the value of an id

abbrev pub first_of : List (List ℕ) → Option (List ℕ)
first_of [] = None
first_of (v ∷ vs) = Some v

-- the first value of an id
abbrev pub row_value : ℕ → List Row → Option (List ℕ)
row_value id [] = None
row_value id (row ∷ rows) = cond (eqb row.0 id) (option_or (first_of row.1) (row_value id rows)) (row_value id rows)

value_of_row : (id n : ℕ) (vs : List (List ℕ)) (ps : List Parameter) (b : Bool) → eqb n id ≡ b
    → parameter_value id (with_id n vs ++ ps)
    ≡ cond b (option_or (first_of vs) (parameter_value id ps)) (parameter_value id ps)
unfolding with_id
value_of_row id n [] ps true e = refl
value_of_row id n [] ps false e = refl
value_of_row id n (v ∷ vs) ps true e = rw e refl
value_of_row id n (v ∷ vs) ps false e = rw e (value_of_row id n vs ps false e)

pub value_of_rows : (id : ℕ) (rows : List Row) → parameter_value id (parameters_of rows) ≡ row_value id rows
unfolding parameters_of
value_of_rows id [] = refl
value_of_rows id (row ∷ rows) =
    value_of_row id row.0 row.1 (parameters_of rows) (eqb row.0 id) refl
    ∙ ap (λ (o : Option (List ℕ)). cond (eqb row.0 id) (option_or (first_of row.1) o) o) (value_of_rows id rows)

-- ---- the locators of an id

abbrev pub row_locators : ℕ → List Row → List Locator
row_locators id [] = []
row_locators id (row ∷ rows) =
    cond (eqb row.0 id) (filter_map (locator_at Little) row.1) [] ++ row_locators id rows

locators_of_row : (id n : ℕ) (vs : List (List ℕ)) (b : Bool) → eqb n id ≡ b
    → filter_map (locator_said Little id) (with_id n vs) ≡ cond b (filter_map (locator_at Little) vs) []
unfolding with_id
locators_of_row id n [] true e = refl
locators_of_row id n [] false e = refl
locators_of_row id n (v ∷ vs) true e = rw (e, locators_of_row id n vs true e) refl
locators_of_row id n (v ∷ vs) false e = rw e (locators_of_row id n vs false e)

pub locators_of_rows : (id : ℕ) (rows : List Row)
    → filter_map (locator_said Little id) (parameters_of rows) ≡ row_locators id rows
unfolding parameters_of
locators_of_rows id [] = refl
locators_of_rows id (row ∷ rows) =
    filter_map-append (locator_said Little id) (with_id row.0 row.1) (parameters_of rows)
    ∙ ap (λ (ls : List Locator). ls ++ filter_map (locator_said Little id) (parameters_of rows))
    (locators_of_row id row.0 row.1 (eqb row.0 id) refl)
    ∙ ap (λ (ls : List Locator). cond (eqb row.0 id) (filter_map (locator_at Little) row.1) [] ++ ls)
    (locators_of_rows id rows)
