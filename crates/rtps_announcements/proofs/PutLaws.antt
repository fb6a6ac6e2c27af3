-- Parameters that are written one after the other are the text of their rows.
use Rattle.std.proofs.Common.{◌≡◌, ℕ, ◌+◌, ◌-◌, ◌*◌, ◌%◌, ◌<◌, ◌≤◌, List, [], ◌∷◌, ◌++◌, length, map, take, ◌≢◌, eqb, false, refl, sym, ap, ◌∙◌, append_assoc, append-nil, arith, replicate}
use Rattle.std.specs.List.{AllByRecursion, flat_map}
use Rattle.std.proofs.lemmas.List.{flat_map_more, take_all, length-append, length-replicate}
use Rattle.std.proofs.lemmas.Bool.{ne_eqb}
use Rattle.std.proofs.lemmas.Grind.{flat_map-append}
use Rattle.std.specs.Int.{w16, w32}
use Rattle.dds_base.specs.Fields.{number}
use Rattle.dds_base.specs.declared.endianness.Endianness.TheVariants.{Little}
use Rattle.rtps_wire.specs.Parameters.{parameter_text}
use Rattle.rtps_announcements.specs.Names.{max_partitions}
use Rattle.rtps_announcements.specs.Values.{AreListed, IsName}
use Rattle.rtps_announcements.specs.Written.{Row, row_text, list_text, padded_name_text, representations_text, locator_text}
use Rattle.rtps_announcements.specs.WrittenEndpoints.{partition_row, representation_row}
use Rattle.rtps_announcements.specs.declared.locator.Locator.{Locator}

-- ---- rows

-- the rows were appended
pub record Puts (begun : List ℕ) (rows : List Row) (new : List ℕ) : Type 0 where
  pub is : new ≡ begun ++ flat_map row_text rows

pub puts_none : (begun : List ℕ) → Puts begun [] begun
puts_none begun = record { is = sym (append-nil begun) }

-- a list that has its head
pub started : {begun : List ℕ} → begun ≡ 0 ∷ 3 ∷ 0 ∷ 0 ∷ [] → Puts (0 ∷ 3 ∷ 0 ∷ 0 ∷ []) [] begun
started head = record { is = head }

pub puts_more : {begun so_far new : List ℕ} {rows : List Row} (row : Row) → Puts begun rows so_far
    → new ≡ so_far ++ row_text row → Puts begun (rows ++ row ∷ []) new
puts_more {begun} {so_far} {new} {rows} row begins goes =
    record { is = goes ∙ ap (λ (z : List ℕ). z ++ row_text row) begins.is ∙ flat_map_more row_text begun rows row }

pub puts_all : {begun so_far new : List ℕ} {rows : List Row} (more : List Row) → Puts begun rows so_far
    → new ≡ so_far ++ flat_map row_text more → Puts begun (rows ++ more) new
puts_all {begun} {so_far} {new} {rows} more begins goes = record {
  is = goes ∙ ap (λ (z : List ℕ). z ++ flat_map row_text more) begins.is
      ∙ append_assoc begun (flat_map row_text rows) (flat_map row_text more)
      ∙ ap (λ (z : List ℕ). begun ++ z) (sym (flat_map-append row_text rows more));
}

-- a list that has its sentinel
pub puts_last : {so_far new : List ℕ} {rows : List Row} → Puts (0 ∷ 3 ∷ 0 ∷ 0 ∷ []) rows so_far
    → new ≡ so_far ++ row_text (1, [] ∷ []) → new ≡ list_text rows
unfolding row_text
puts_last {so_far} {new} {rows} begins goes =
    goes ∙ ap (λ (z : List ℕ). z ++ 1 ∷ 0 ∷ 0 ∷ 0 ∷ []) begins.is
    ∙ append_assoc (0 ∷ 3 ∷ 0 ∷ 0 ∷ []) (flat_map row_text rows) (1 ∷ 0 ∷ 0 ∷ 0 ∷ [])

-- ---- locators

pub locators_are : (id : ℕ) (ls : List Locator)
    → flat_map (λ l. row_text (id, locator_text l ∷ [])) ls ≡ row_text (id, map locator_text ls)
unfolding row_text
locators_are id [] = refl
locators_are id (l ∷ ls) =
    let text = parameter_text Little (record { id = id; value = locator_text l }) in
    ap (λ (z : List ℕ). z ++ flat_map (λ l. row_text (id, locator_text l ∷ [])) ls) (append-nil text)
    ∙ ap (λ (z : List ℕ). text ++ z) (locators_are id ls)

pub locators_done : (begun new : List ℕ) (id : ℕ) (ls items : List Locator) (i : ℕ)
    → new ≡ begun ++ flat_map (λ l. row_text (id, locator_text l ∷ [])) (take i items) → items ≡ ls → length items ≤ i
    → new ≡ begun ++ row_text (id, map locator_text ls)
locators_done begun new id ls items i so_far same le =
    let all : take i items ≡ ls = take_all i items le ∙ same in
    so_far ∙ ap (λ (xs : List Locator). begun ++ flat_map (λ l. row_text (id, locator_text l ∷ [])) xs) all
    ∙ ap (λ (z : List ℕ). begun ++ z) (locators_are id ls)

-- ---- names

-- a name takes its octets, five more, and zeros up to a multiple of four
pub name_len : (name : List ℕ) → length (padded_name_text name) ≡ 5 + length name + (3 - length name % 4)
name_len name =
    omega (
      arith,
      length-append name (0 ∷ []),
      length-append (name ++ 0 ∷ []) (replicate (3 - length name % 4) 0),
      length-replicate {A = ℕ} (3 - length name % 4) 0,
    )

pub name_whole : (name : List ℕ) → length (padded_name_text name) % 4 ≡ 0
name_whole name = omega (arith, name_len name)

pub name_short : (name : List ℕ) → IsName name → length (padded_name_text name) ≤ 264
name_short name is = omega (arith, name_len name, is.short)

-- sixteen names take at most 4,224 octets, a multiple of four
pub names_short : (names : List (List ℕ)) → AllByRecursion IsName names
    → length (flat_map padded_name_text names) ≤ 264 * length names
names_short [] each = omega arith
names_short (name ∷ names) each =
    omega (
      arith,
      length-append (padded_name_text name) (flat_map padded_name_text names),
      name_short name each.0,
      names_short names each.1,
    )

pub names_whole : (names : List (List ℕ)) → length (flat_map padded_name_text names) % 4 ≡ 0
names_whole [] = refl
names_whole (name ∷ names) =
    omega (
      arith,
      length-append (padded_name_text name) (flat_map padded_name_text names),
      name_whole name,
      names_whole names,
    )

pub partitions_fit : (value front : List ℕ) (names : List (List ℕ)) → AreListed max_partitions IsName names
    → length front ≡ 4 → value ≡ front ++ flat_map padded_name_text names → length value < 65536
partitions_fit value front names are four is =
    omega (
      arith,
      ap length is,
      length-append front (flat_map padded_name_text names),
      names_short names are.each,
      are.few,
      four,
    )

-- no names, no parameter
pub no_partitions : (begun : List ℕ) (names : List (List ℕ)) → length names ≡ 0
    → begun ≡ begun ++ row_text (partition_row names)
unfolding row_text
no_partitions begun [] none = sym (append-nil begun)
no_partitions begun (name ∷ names) none = absurd (omega (arith, none))

pub some_partitions : (begun new value : List ℕ) (names : List (List ℕ)) → length names ≢ 0
    → value ≡ number Little w32 (length names) ++ flat_map padded_name_text names
    → new ≡ begun ++ row_text (0x0029, value ∷ []) → new ≡ begun ++ row_text (partition_row names)
some_partitions begun new value names some is goes =
    let said : eqb (length names) 0 ≡ false = ne_eqb (length names) 0 some in
    rw said (goes ∙ ap (λ (v : List ℕ). begun ++ row_text (0x0029, v ∷ [])) is)

-- ---- ids

pub ids_len : (ids : List ℕ) → length (flat_map (number Little w16) ids) ≡ 2 * length ids
ids_len [] = refl
ids_len (id ∷ ids) = omega (arith, length-append (number Little w16 id) (flat_map (number Little w16) ids), ids_len ids)

pub representations_len : (ids : List ℕ)
    → length (representations_text ids) ≡ 4 + 2 * length ids + length ids % 2 * 2
representations_len ids =
    omega (
      arith,
      ids_len ids,
      length-append (flat_map (number Little w16) ids) (replicate (length ids % 2 * 2) 0),
      length-replicate {A = ℕ} (length ids % 2 * 2) 0,
    )

pub puts_representations : (begun head count items new ids : List ℕ)
    → head ≡ begun ++ (number Little w16 0x0073 ++ number Little w16 (4 + 2 * length ids + length ids % 2 * 2))
    → count ≡ head ++ number Little w32 (length ids) → items ≡ count ++ flat_map (number Little w16) ids
    → new ≡ items ++ replicate (length ids % 2 * 2) 0 → new ≡ begun ++ row_text (representation_row ids)
unfolding row_text
puts_representations begun head count items new ids a b c d =
    d ∙ ap (λ (z : List ℕ). z ++ replicate (length ids % 2 * 2) 0) (c ∙ ap (λ (z : List ℕ). z ++ flat_map (number Little w16) ids)
    (b ∙ ap (λ (z : List ℕ). z ++ number Little w32 (length ids)) a))
    ∙ regroup begun (number Little w16 0x0073) (number Little w16 (4 + 2 * length ids + length ids % 2 * 2))
    (number Little w32 (length ids)) (flat_map (number Little w16) ids) (replicate (length ids % 2 * 2) 0)
    ∙ ap (λ (n : ℕ). begun ++ ((number Little w16 0x0073 ++ number Little w16 n ++ representations_text ids) ++ []))
    (sym (representations_len ids))
  where
    regroup : (o a b c d e : List ℕ) → (((o ++ (a ++ b)) ++ c) ++ d) ++ e ≡ o ++ ((a ++ b ++ (c ++ d) ++ e) ++ [])
    regroup o a b c d e = simp (append_assoc, append-nil)
