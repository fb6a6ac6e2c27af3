-- An endpoint, a participant and a GUID are read as they were written.
use Rattle.std.proofs.Common.{◌≡◌, ◌≢◌, ℕ, ◌-◌, ◌%◌, ◌<◌, ◌^◌, Bool, true, false, eqb, ltb, List, [], ◌∷◌, ◌++◌, length, map, take, replicate, Some, None, refl, sym, ap, ◌∙◌, append_assoc, append-nil, arith, pos}
use Rattle.std.specs.Prelude.{filter_map, not, ◌&&◌}
use Rattle.std.specs.List.{AllByRecursion, flat_map}
use Rattle.std.specs.Option.{option_or}
use Rattle.std.specs.Int.{w32}
use Rattle.std.specs.Ordering.{int_eq}
use Rattle.std.proofs.lemmas.Bool.{eqb-true, eq-eqb, ltb-true, lt-ltb}
use Rattle.std.proofs.lemmas.Bool.Decides.{Decides-int_eq}
use Rattle.std.proofs.lemmas.List.{length-replicate, length-map, take_all}
use Rattle.std.proofs.lemmas.List.Folds.{flat_map-map}
use Rattle.dds_base.specs.declared.endianness.Endianness.{Endianness}
use Rattle.dds_base.specs.declared.endianness.Endianness.TheVariants.{Little}
use Rattle.dds_base.specs.Fields.{number}
use Rattle.dds_base.proofs.FieldLaws.{field_u32, field_octets}
use Rattle.dds_base.specs.Policies.{default_presentation, destination_order_code, infinite, no_time}
use Rattle.dds_base.specs.declared.policies.Policies.{Policies}
use Rattle.dds_base.specs.declared.policies.DestinationOrderQos.{DestinationOrderQos}
use Rattle.dds_base.specs.declared.policies.DestinationOrderQos.TheVariants.{ByReceptionTimestamp, BySourceTimestamp}
use Rattle.dds_base.specs.declared.duration.Duration.{Duration}
use Rattle.dds_base.specs.declared.policies.PresentationQos.{PresentationQos}
use Rattle.dds_base.specs.declared.policies.PresentationScope.{PresentationScope}
use Rattle.dds_base.specs.declared.policies.PresentationScope.TheVariants.{Instance, Topic, Group}
use Rattle.rtps_announcements.specs.Endpoints.{SaysPartitions}
use Rattle.rtps_announcements.specs.Locators.{locator_at, locators_of}
use Rattle.rtps_announcements.specs.Names.{max_locators, max_partitions}
use Rattle.rtps_announcements.specs.Values.{Says, AreListed, listed_text, padded_text, IsPadded, IsName}
use Rattle.rtps_announcements.specs.Written.{Row, unless, padded_name_text, locator_text, IsLocator}
use Rattle.rtps_announcements.specs.WrittenEndpoints.{is_infinite, is_no_time, is_default_presentation, leaves_out_strength, needs_strength}
use Rattle.rtps_announcements.specs.declared.locator.Locator.{Locator}
use Rattle.rtps_announcements.specs.declared.qos.EndpointKind.{EndpointKind}
use Rattle.rtps_announcements.proofs.WrittenLaws.{IsValue, IsRow, parameters_of, first_of, row_locators, locators_of_rows}

-- ---- rows

pub both_true : (a b : Bool) → (a && b) ≡ true → (a ≡ true) × (b ≡ true)
both_true true true e = (refl, refl)
both_true true false e = absurd cc
both_true false b e = absurd cc

-- an id that has no rule of its own
abbrev pub is_plain : ℕ → Bool
is_plain id = not (eqb id 1) && not (eqb id 0x0070) && not (eqb id 0x0071) && ltb id 0x4000 && not (eqb id 6)

pub plain_row : (row : Row) → is_plain row.0 ≡ true → AllByRecursion IsValue row.1 → IsRow row
plain_row row plain values =
    let a = both_true _ (not (eqb row.0 6)) plain in
    let b = both_true _ (ltb row.0 0x4000) a.0 in
    let c = both_true _ (not (eqb row.0 0x0071)) b.0 in
    let d = both_true (not (eqb row.0 1)) (not (eqb row.0 0x0070)) c.0 in
    record {
      no_sentinel = differs row.0 1 d.0;
      no_key_hash = differs row.0 0x0070 d.1;
      no_status = differs row.0 0x0071 c.1;
      below = ltb-true row.0 0x4000 b.1;
      values = values;
      strength = λ e. absurd (differs row.0 6 a.1 e);
    }
  where
    differs : (n m : ℕ) → not (eqb n m) ≡ true → n ≢ m
    differs n m t e = let same : eqb n m ≡ true = eq-eqb n m e in cc

pub value_of_len : (v : List ℕ) (n : ℕ) → length v ≡ n → n < 2 ^ 16 → n % 4 ≡ 0 → IsValue v
value_of_len v n len short whole = record {
  short = omega (arith, len, short);
  whole = ap (λ (k : ℕ). k % 4) len ∙ whole;
}

pub unless_each : (P : List ℕ → Type 0) (b : Bool) (v : List ℕ) → P v → AllByRecursion P (unless b v)
unless_each P true v p = tt
unless_each P false v p = (p, tt)

-- ---- what is said

pub says_unless : {X : Type 0} (d x : X) (text : X → List ℕ) (Fits : X → Type 0) (b : Bool) (v pad : List ℕ)
    → (b ≡ true → d ≡ x) → Fits x → v ≡ text x ++ pad
    → Says (Some d) text Fits (option_or (first_of (unless b v)) None) x
says_unless d x text Fits true v pad same fits e = ap Some (same refl)
says_unless d x text Fits false v pad same fits e = (fits, (pad, e))

pub infinite_is : (d : Duration) → is_infinite d ≡ true → infinite ≡ d
infinite_is d e =
    let t = both_true (eqb d.seconds 0x7fffffff) (eqb d.fraction 0xffffffff) e in
    let s : 0x7fffffff ≡ d.seconds = sym (eqb-true d.seconds 0x7fffffff t.0) in
    let f : 0xffffffff ≡ d.fraction = sym (eqb-true d.fraction 0xffffffff t.1) in
    ap (λ (n : ℕ). record { seconds = n; fraction = 0xffffffff }) s
    ∙ ap (λ (n : ℕ). record { seconds = d.seconds; fraction = n }) f

pub no_time_is : (d : Duration) → is_no_time d ≡ true → no_time ≡ d
no_time_is d e =
    let t = both_true (eqb d.seconds 0) (eqb d.fraction 0) e in
    let s : 0 ≡ d.seconds = sym (eqb-true d.seconds 0 t.0) in
    let f : 0 ≡ d.fraction = sym (eqb-true d.fraction 0 t.1) in
    ap (λ (n : ℕ). record { seconds = n; fraction = 0 }) s
    ∙ ap (λ (n : ℕ). record { seconds = d.seconds; fraction = n }) f

pub reception_is : (k : DestinationOrderQos) → eqb (destination_order_code k) 0 ≡ true → ByReceptionTimestamp ≡ k
reception_is ByReceptionTimestamp e = refl
reception_is BySourceTimestamp e = absurd cc

presentation_parts : (s : PresentationScope) (c o : Bool)
    → is_default_presentation (record { scope = s; coherent_access = c; ordered_access = o }) ≡ true
    → default_presentation ≡ record { scope = s; coherent_access = c; ordered_access = o }
presentation_parts Instance false false e = refl
presentation_parts Instance false true e = absurd cc
presentation_parts Instance true o e = absurd cc
presentation_parts Topic c o e = absurd cc
presentation_parts Group c o e = absurd cc

pub presentation_is : (p : PresentationQos) → is_default_presentation p ≡ true → default_presentation ≡ p
presentation_is p e = presentation_parts p.scope p.coherent_access p.ordered_access e

pub strength_is : (kind : EndpointKind) (p : Policies) → leaves_out_strength kind p ≡ true → pos 0 ≡ p.strength
strength_is kind p e =
    sym ((Decides-int_eq p.strength (pos 0)).0
    (both_true (int_eq p.strength (pos 0)) (not (needs_strength kind p.ownership)) e).0)

-- ---- locators

locator_again : (order : Endianness) (before : List ℕ) (l : Locator) → length before ≡ 12 → IsLocator l
    → locator_at order (number order w32 1 ++ number order w32 l.port ++ before ++ l.address) ≡ Some l
unfolding locator_at
locator_again order before l twelve is =
    let some : ltb 0 l.port ≡ true = lt-ltb 0 l.port is.port in
    let small : ltb l.port 65536 ≡ true = lt-ltb l.port 65536 is.small in
    ap (locator_at order) (regroup (number order w32 1) (number order w32 l.port) before l.address)
    ∙ rw (
      (field_u32 order).again 1 (number order w32 l.port ++ (before ++ (l.address ++ []))) (omega arith),
      (field_u32 order).again l.port (before ++ (l.address ++ [])) (omega (arith, is.small)),
      (field_octets 12).again before (l.address ++ []) twelve,
      (field_octets 4).again l.address [] is.address,
      some,
      small,
      is.host,
    ) refl
  where
    regroup : (a b c d : List ℕ) → ((a ++ b) ++ c) ++ d ≡ a ++ (b ++ (c ++ (d ++ [])))
    regroup a b c d = simp (append_assoc, append-nil)

pub located : (ls : List Locator) → AllByRecursion IsLocator ls
    → filter_map (locator_at Little) (map locator_text ls) ≡ ls
located [] each = refl
located (l ∷ ls) each =
    let one : locator_at Little (locator_text l) ≡ Some l =
    locator_again Little (replicate 12 0) l refl each.0 in rw (one, located ls each.1) refl

pub locator_values : (ls : List Locator) → AllByRecursion IsLocator ls → AllByRecursion IsValue (map locator_text ls)
locator_values [] each = tt
locator_values (l ∷ ls) each =
    (value_of_len (locator_text l) 24 (omega (arith, each.0.address)) (omega arith) refl, locator_values ls each.1)

-- the locators of rows, of which one has them
pub locators_again : (id : ℕ) (rows : List Row) (ls : List Locator) → AreListed max_locators IsLocator ls
    → row_locators id rows ≡ filter_map (locator_at Little) (map locator_text ls)
    → locators_of Little id (parameters_of rows) ≡ ls
locators_again id rows ls are e =
    ap (take max_locators) (locators_of_rows id rows ∙ e ∙ located ls are.each) ∙ take_all max_locators ls are.few

-- ---- partitions

-- a name, and the zeros that are written behind it
abbrev with_zeros : List ℕ → List ℕ × List ℕ
with_zeros name = (name, replicate (3 - length name % 4) 0)

names_back : (names : List (List ℕ)) → map (λ (x : List ℕ × List ℕ). x.0) (map with_zeros names) ≡ names
names_back [] = refl
names_back (name ∷ names) = ap (λ (xs : List (List ℕ)). name ∷ xs) (names_back names)

names_padded : (names : List (List ℕ)) → AllByRecursion IsName names
    → AllByRecursion IsPadded (map with_zeros names)
names_padded [] each = tt
names_padded (name ∷ names) each =
    (record { name = each.0; octets = length-replicate {A = ℕ} (3 - length name % 4) 0 }, names_padded names each.1)

names_text : (names : List (List ℕ))
    → listed_text Little padded_name_text names ≡ listed_text Little (padded_text Little) (map with_zeros names)
names_text names =
    ap (λ (n : ℕ). number Little w32 n ++ flat_map padded_name_text names) (sym (length-map names with_zeros))
    ∙ ap (λ (z : List ℕ). number Little w32 (length (map with_zeros names)) ++ z)
    (sym (flat_map-map (padded_text Little) with_zeros names))

none_there : (names : List (List ℕ)) → eqb (length names) 0 ≡ true → ◌≡◌ {A = List (List ℕ × List ℕ)} [] (map with_zeros names)
none_there [] e = refl
none_there (name ∷ names) e = absurd (omega (arith, eqb-true (length (name ∷ names)) 0 e))

pub partitions_again : (names : List (List ℕ)) → AreListed max_partitions IsName names
    → SaysPartitions Little (option_or (first_of (unless (eqb (length names) 0) (listed_text Little padded_name_text names))) None) names
partitions_again names are = record {
  padded = map with_zeros names;
  are = names_back names;
  says = says_unless [] (map with_zeros names) (listed_text Little (padded_text Little))
      (AreListed max_partitions IsPadded) (eqb (length names) 0) (listed_text Little padded_name_text names) []
      (none_there names)
      (record { few = omega (arith, length-map names with_zeros, are.few); each = names_padded names are.each })
      (names_text names ∙ sym (append-nil _));
}
