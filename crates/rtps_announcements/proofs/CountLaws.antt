-- Items that are counted are read one after the other, and a list of them is a field.
use Rattle.std.proofs.Common.{◌≡◌, ℕ, zero, suc, ◌+◌, ◌-◌, ◌%◌, ◌<◌, ◌≤◌, ◌^◌, Bool, true, false, cond, ltb, List, [], ◌∷◌, ◌++◌, length, map, Option, Some, None, refl, sym, ap, subst, ◌∙◌, append_assoc, append-nil, arith}
use Rattle.std.specs.Int.{w32}
use Rattle.std.specs.List.{AllByRecursion, flat_map}
use Rattle.std.specs.Option.{option_map}
use Rattle.std.proofs.lemmas.Bool.{ltb-false, le-ltb}
use Rattle.std.proofs.lemmas.List.{length-append}
use Rattle.dds_base.specs.declared.endianness.Endianness.{Endianness}
use Rattle.dds_base.specs.Fields.{number, number_at, octets_at, ◌>>=◌}
use Rattle.dds_base.specs.FieldPairs.{mapped}
use Rattle.dds_base.proofs.FieldLaws.{AreOctets, Takes, Takes-then, IsField, bind_some, guard_some, some_is, field_u32, field_octets}
use Rattle.rtps_announcements.specs.ValueAt.{counted, listed_at, name_at, padded_at}
use Rattle.rtps_announcements.specs.Values.{listed_text, AreListed, padded_text, IsPadded, name_text}
use Rattle.rtps_announcements.proofs.ValueLaws.{field_name}

-- ---- the loop

-- what was read, and what is left gives
abbrev with_front : {X : Type 0} → (List ℕ → Option (X × List ℕ)) → ℕ → List X → List ℕ → Option (List X)
with_front field count items left = option_map (λ x. items ++ x.0) (counted field (count - length items) left)

-- so many of the items were read
pub record Counts {X : Type 0} (field : List ℕ → Option (X × List ℕ)) (count : ℕ) (bytes : List ℕ) (items : List X)
    (left : List ℕ) : Type 0 where
  pub room : length items ≤ count
  pub same : with_front field count items left ≡ option_map (λ x. x.0) (counted field count bytes)

pub counts_first : {X : Type 0} (field : List ℕ → Option (X × List ℕ)) (count : ℕ) (bytes : List ℕ)
    → Counts field count bytes [] bytes
counts_first field count bytes =
    let all : count - 0 ≡ count = omega arith in
    record { room = omega arith; same = rw all refl }

-- the item that comes next, before the others
next_one : {X : Type 0} (items : List X) (x : X) (o : Option (List X × List ℕ))
    → option_map (λ (y : List X × List ℕ). items ++ y.0) (o >>= λ xs. Some (x ∷ xs.0, xs.1))
    ≡ option_map (λ (y : List X × List ℕ). (items ++ x ∷ []) ++ y.0) o
next_one items x None = refl
next_one items x (Some xs) = ap Some (sym (append_assoc items (x ∷ []) xs.0))

one_less : (count n : ℕ) → n < count → count - n ≡ suc (count - (n + 1))
one_less count n lt = omega (arith, lt)

counted_more : {X : Type 0} (field : List ℕ → Option (X × List ℕ)) (n : ℕ) (left rest : List ℕ) (x : X)
    → field left ≡ Some (x, rest)
    → counted field (suc n) left ≡ (counted field n rest >>= λ xs. Some (x ∷ xs.0, xs.1))
unfolding counted
counted_more field n left rest x e = rw e refl

counted_none : {X : Type 0} (field : List ℕ → Option (X × List ℕ)) (n : ℕ) (left : List ℕ) → field left ≡ None
    → counted field (suc n) left ≡ None
unfolding counted
counted_none field n left e = rw e refl

counted_zero : {X : Type 0} (field : List ℕ → Option (X × List ℕ)) (left : List ℕ)
    → counted field 0 left ≡ Some ([], left)
unfolding counted
counted_zero field left = refl

pub counts_on : {X : Type 0} (field : List ℕ → Option (X × List ℕ)) (count : ℕ) (bytes : List ℕ) (items : List X)
    (left rest : List ℕ) (x : X) → length items < count → field left ≡ Some (x, rest)
    → Counts field count bytes items left → Counts field count bytes (items ++ x ∷ []) rest
counts_on {X = X} field count bytes items left rest x lt e c =
    let len : length (items ++ x ∷ []) ≡ length items + 1 = length-append items (x ∷ []) in
    let less = one_less count (length items) lt in
    let more = counted_more field (count - (length items + 1)) left rest x e in
    record {
      room = omega (arith, len, lt);
      same = rw len (sym (next_one items x (counted field (count - (length items + 1)) rest))
          ∙ ap (option_map (λ (y : List X × List ℕ). items ++ y.0)) (sym more) ∙ (rw less at c.same));
    }

pub counts_short : {X : Type 0} (field : List ℕ → Option (X × List ℕ)) (count : ℕ) (bytes : List ℕ) (items : List X)
    (left : List ℕ) → length items < count → field left ≡ None → Counts field count bytes items left
    → None ≡ option_map (λ (y : List X × List ℕ). y.0) (counted field count bytes)
counts_short field count bytes items left lt e c =
    let less = one_less count (length items) lt in
    let none = counted_none field (count - (length items + 1)) left e in
    rw (less, none) at c.same

pub counts_all : {X : Type 0} (field : List ℕ → Option (X × List ℕ)) (count : ℕ) (bytes : List ℕ) (items : List X)
    (left : List ℕ) → count ≤ length items → Counts field count bytes items left
    → Some items ≡ option_map (λ (y : List X × List ℕ). y.0) (counted field count bytes)
counts_all field count bytes items left le c =
    let none : count - length items ≡ 0 = omega (arith, le) in
    ap Some (sym (append-nil items)) ∙ (rw (none, counted_zero field left) at c.same)

-- ---- items that are seen as another type

-- one item, before others
abbrev before : {X : Type 0} → X → List X × List ℕ → Option (List X × List ℕ)
before x xs = Some (x ∷ xs.0, xs.1)

-- the others, seen as another type
abbrev seen_by : {X Y : Type 0} → (X → Y) → Option (List X × List ℕ) → Option (List Y × List ℕ)
seen_by {X} f o = option_map (λ (y : List X × List ℕ). (map f y.0, y.1)) o

pub counted_mapped : {X Y : Type 0} (f : X → Y) (field : List ℕ → Option (X × List ℕ)) (n : ℕ) (bytes : List ℕ)
    → counted (mapped f field) n bytes
    ≡ option_map (λ (y : List X × List ℕ). (map f y.0, y.1)) (counted field n bytes)
unfolding counted
counted_mapped f field zero bytes = refl
counted_mapped {X = X} {Y = Y} f field (suc n) bytes =
    by_first (λ rest. counted_mapped f field n rest) (field bytes)
  where
    by_rest : (x : X) (o : Option (List X × List ℕ))
        → (seen_by f o >>= before (f x)) ≡ seen_by f (o >>= before x)
    by_rest x None = refl
    by_rest x (Some xs) = refl

    by_first : ((rest : List ℕ) → counted (mapped f field) n rest
        ≡ option_map (λ (y : List X × List ℕ). (map f y.0, y.1)) (counted field n rest))
        → (o : Option (X × List ℕ))
        → ((o >>= λ (x : X × List ℕ). Some (f x.0, x.1)) >>= λ (y : Y × List ℕ). counted (mapped f field) n y.1
        >>= before y.0)
        ≡ seen_by f (o >>= λ (x : X × List ℕ). counted field n x.1 >>= before x.0)
    by_first later None = refl
    by_first later (Some x) = rw (later x.1) (by_rest x.0 (counted field n x.1))

-- ---- a list is a field

-- so many items that fit
record AreCounted {X : Type 0} (n : ℕ) (Fits : X → Type 0) (xs : List X) : Type 0 where
  len : length xs ≡ n
  each : AllByRecursion Fits xs

counted_takes : {X : Type 0} (text : X → List ℕ) (Fits : X → Type 0) (at : List ℕ → Option (X × List ℕ))
    → IsField text Fits at → (n : ℕ) (bytes : List ℕ) (xs : List X) (rest : List ℕ) → AreOctets bytes
    → counted at n bytes ≡ Some (xs, rest) → Takes bytes (flat_map text xs) rest × AreCounted n Fits xs
unfolding counted
counted_takes {X = X} text Fits at field zero bytes xs rest octets e =
    subst (λ (p : List X × List ℕ). Takes bytes (flat_map text p.0) p.1 × AreCounted 0 Fits p.0)
    (some_is ([], bytes) (xs, rest) e)
    (record { parts = refl; octets = octets }, record { len = refl; each = tt })
counted_takes {X = X} text Fits at field (suc n) bytes xs rest octets e =
    let a = bind_some (at bytes) (λ x. counted at n x.1 >>= λ ys. Some (x.0 ∷ ys.0, ys.1)) (xs, rest) e in
    let t0 = field.takes bytes a.0.0 a.0.1 octets a.1 in
    let b = bind_some (counted at n a.0.1) (λ ys. Some (a.0.0 ∷ ys.0, ys.1)) (xs, rest) a.2 in
    let t1 = counted_takes text Fits at field n a.0.1 b.0.0 b.0.1 t0.0.octets b.1 in
    let made : List X × List ℕ = (a.0.0 ∷ b.0.0, b.0.1) in
    subst (λ (p : List X × List ℕ). Takes bytes (flat_map text p.0) p.1 × AreCounted (suc n) Fits p.0)
    (some_is made (xs, rest) b.2) (
      Takes-then bytes (text a.0.0) a.0.1 (flat_map text b.0.0) b.0.1 t0.0 t1.0,
      record { len = ap suc t1.1.len; each = (t0.1, t1.1.each) },
    )

counted_again : {X : Type 0} (text : X → List ℕ) (Fits : X → Type 0) (at : List ℕ → Option (X × List ℕ))
    → IsField text Fits at → (xs : List X) (rest : List ℕ) → AllByRecursion Fits xs
    → counted at (length xs) (flat_map text xs ++ rest) ≡ Some (xs, rest)
unfolding counted
counted_again text Fits at field [] rest each = refl
counted_again text Fits at field (x ∷ xs) rest each =
    ap (counted at (suc (length xs))) (append_assoc (text x) (flat_map text xs) rest)
    ∙ rw (
      field.again x (flat_map text xs ++ rest) each.0,
      counted_again text Fits at field xs rest each.1,
    ) refl

listed_takes : {X : Type 0} (text : X → List ℕ) (Fits : X → Type 0) (at : List ℕ → Option (X × List ℕ))
    → IsField text Fits at → (max : ℕ) (order : Endianness) (bytes : List ℕ) (xs : List X) (rest : List ℕ)
    → AreOctets bytes → listed_at max order at bytes ≡ Some (xs, rest)
    → Takes bytes (listed_text order text xs) rest × AreListed max Fits xs
unfolding listed_at
listed_takes text Fits at field max order bytes xs rest octets e =
    let a = bind_some (number_at order w32 bytes) (λ n. cond (ltb max n.0) None (counted at n.0 n.1)) (xs, rest) e in
    let t0 = (field_u32 order).takes bytes a.0.0 a.0.1 octets a.1 in
    let g = guard_some (ltb max a.0.0) (counted at a.0.0 a.0.1) (xs, rest) a.2 in
    let t1 = counted_takes text Fits at field a.0.0 a.0.1 xs rest t0.0.octets g.1 in
    let few : a.0.0 ≤ max = ltb-false _ _ g.0 in
    let both = Takes-then bytes (number order w32 a.0.0) a.0.1 (flat_map text xs) rest t0.0 t1.0 in (
      subst (λ (n : ℕ). Takes bytes (number order w32 n ++ flat_map text xs) rest) (sym t1.1.len) both,
      record { few = omega (arith, few, t1.1.len); each = t1.1.each },
    )

listed_again : {X : Type 0} (text : X → List ℕ) (Fits : X → Type 0) (at : List ℕ → Option (X × List ℕ))
    → IsField text Fits at → (max : ℕ) → max < 2 ^ 32 → (order : Endianness) (xs : List X) (rest : List ℕ)
    → AreListed max Fits xs → listed_at max order at (listed_text order text xs ++ rest) ≡ Some (xs, rest)
unfolding listed_at
listed_again text Fits at field max small order xs rest are =
    let few : ltb max (length xs) ≡ false = le-ltb _ _ are.few in
    ap (listed_at max order at) (append_assoc (number order w32 (length xs)) (flat_map text xs) rest)
    ∙ rw (
      (field_u32 order).again (length xs) (flat_map text xs ++ rest) (omega (arith, small, are.few)),
      few,
      counted_again text Fits at field xs rest are.each,
    ) refl

pub field_listed : {X : Type 0} {text : X → List ℕ} {Fits : X → Type 0} {at : List ℕ → Option (X × List ℕ)}
    → IsField text Fits at → (max : ℕ) → max < 2 ^ 32 → (order : Endianness)
    → IsField (listed_text order text) (AreListed max Fits) (listed_at max order at)
field_listed {text = text} {Fits = Fits} {at = at} field max small order = record {
  takes = listed_takes text Fits at field max order;
  again = listed_again text Fits at field max small order;
}

pub listed_mapped : {X Y : Type 0} (f : X → Y) (field : List ℕ → Option (X × List ℕ)) (max : ℕ) (order : Endianness)
    (bytes : List ℕ)
    → listed_at max order (mapped f field) bytes
    ≡ option_map (λ (y : List X × List ℕ). (map f y.0, y.1)) (listed_at max order field bytes)
unfolding listed_at
listed_mapped {X = X} {Y = Y} f field max order bytes = by_count (number_at order w32 bytes)
  where
    by_test : (b : Bool) (n : ℕ) (rest : List ℕ)
        → cond b None (counted (mapped f field) n rest)
        ≡ option_map (λ (y : List X × List ℕ). (map f y.0, y.1)) (cond b None (counted field n rest))
    by_test true n rest = refl
    by_test false n rest = counted_mapped f field n rest

    by_count : (o : Option (ℕ × List ℕ))
        → (o >>= λ n. cond (ltb max n.0) None (counted (mapped f field) n.0 n.1))
        ≡ option_map (λ (y : List X × List ℕ). (map f y.0, y.1))
        (o >>= λ n. cond (ltb max n.0) None (counted field n.0 n.1))
    by_count None = refl
    by_count (Some n) = by_test (ltb max n.0) n.0 n.1

-- ---- names before octets up to a multiple of four

padded_takes : (order : Endianness) (bytes : List ℕ) (x : List ℕ × List ℕ) (rest : List ℕ) → AreOctets bytes
    → padded_at order bytes ≡ Some (x, rest) → Takes bytes (padded_text order x) rest × IsPadded x
unfolding padded_at
padded_takes order bytes x rest octets e =
    let a = bind_some (name_at order bytes) (λ n. octets_at (3 - length n.0 % 4) n.1 >>= λ o.
    Some ((n.0, o.0), o.1)) (x, rest) e in
    let t0 = (field_name order).takes bytes a.0.0 a.0.1 octets a.1 in
    let b = bind_some (octets_at (3 - length a.0.0 % 4) a.0.1) (λ o. Some ((a.0.0, o.0), o.1)) (x, rest) a.2 in
    let t1 = (field_octets (3 - length a.0.0 % 4)).takes a.0.1 b.0.0 b.0.1 t0.0.octets b.1 in
    let made : (List ℕ × List ℕ) × List ℕ = ((a.0.0, b.0.0), b.0.1) in
    subst (λ (p : (List ℕ × List ℕ) × List ℕ). Takes bytes (padded_text order p.0) p.1 × IsPadded p.0)
    (some_is made (x, rest) b.2) (
      Takes-then bytes (name_text order a.0.0) a.0.1 b.0.0 b.0.1 t0.0 t1.0,
      record { name = t0.1; octets = t1.1 },
    )

padded_again : (order : Endianness) (x : List ℕ × List ℕ) (rest : List ℕ) → IsPadded x
    → padded_at order (padded_text order x ++ rest) ≡ Some (x, rest)
unfolding padded_at
padded_again order x rest is =
    ap (padded_at order) (append_assoc (name_text order x.0) x.1 rest)
    ∙ rw (
      (field_name order).again x.0 (x.1 ++ rest) is.name,
      (field_octets (3 - length x.0 % 4)).again x.1 rest is.octets,
    ) refl

pub field_padded : (order : Endianness) → IsField (padded_text order) IsPadded (padded_at order)
field_padded order = record { takes = padded_takes order; again = padded_again order }
