-- Sets in bytes are read as they stand there.
use Rattle.std.proofs.Common.{◌≡◌, ℕ, zero, suc, ◌+◌, ◌-◌, ◌*◌, ◌/◌, ◌%◌, ◌^◌, ◌<◌, ◌≤◌, Bool, true, false, cond, eqb, ltb, ◌&&◌, ◌||◌, List, [], ◌∷◌, ◌++◌, length, get_or, take, drop, replicate, Option, Some, None, refl, sym, ap, subst, ◌∙◌, append_assoc, arith, inl, inr}
use Rattle.std.specs.Prelude.{◌⊎◌}
use Rattle.std.specs.List.{flat_map, AllByRecursion}
use Rattle.std.specs.Option.{option_map}
use Rattle.std.specs.Int.{w32, bit_at}
use Rattle.std.specs.Int.RustNames.{bit_and}
use Rattle.std.proofs.lemmas.Bool.Decides.{nat_tests}
use Rattle.std.proofs.lemmas.Bool.{cases_lt, eqb-true, ltb-false, le-ltb, lt-ltb}
use Rattle.std.proofs.lemmas.List.{length-append, length-replicate, get_or_append_left, get_or-append_right, get_or-append-add, get_or-replicate, get_or-take, ext_get_or, length-take-le, append-nil, drop-drop, length-drop}
use Rattle.std.proofs.lemmas.Nat.Bits.{shr_and_one}
use Rattle.std.proofs.lemmas.Option.{option_and_then_some}
use Rattle.dds_base.specs.declared.endianness.Endianness.{Endianness}
use Rattle.dds_base.specs.Fields.{number, number_at, number_of, ◌>>=◌}
use Rattle.dds_base.proofs.FieldLaws.{AreOctets, Takes, Takes-then, guard_some, some_is, field_u32}
use Rattle.rtps_sets.specs.NumberSet.{NumberSet}
use Rattle.rtps_wire.specs.Fields.{sn_text}
use Rattle.rtps_wire.specs.FieldAt.{sn_at}
use Rattle.rtps_wire.specs.Sets.{bits_below, word_bits, SetField, acknack_base, acknack_field, set_text, words_for, IsSetField, set_of, ReadsAckNackSet, ReadsSet}
use Rattle.rtps_wire.specs.SetAt.{acknack_field_at, acknack_set_at, words_at, set_after, set_field_at, set_at}
use Rattle.rtps_wire.proofs.WireFields.{field_sn}
use Rattle.rtps_wire.proofs.TestLaws.{neither}

-- ---- the words, one after another

-- what is read, with these words before it
abbrev pub with_front : List ℕ → Option (List ℕ × List ℕ) → Option (List ℕ × List ℕ)
with_front front read = option_map (λ x. (front ++ x.0, x.1)) read

one_more : (front : List ℕ) (w : ℕ) (read : Option (List ℕ × List ℕ))
    → with_front (front ++ w ∷ []) read ≡ with_front front (read >>= λ ws. Some (w ∷ ws.0, ws.1))
one_more front w None = refl
one_more front w (Some x) = ap (λ (z : List ℕ). Some (z, x.1)) (append_assoc front (w ∷ []) x.0)

pub words_step : (order : Endianness) (front : List ℕ) (n i w : ℕ) (rest after : List ℕ)
    (total : Option (List ℕ × List ℕ)) → i < n
    → number_at order w32 rest ≡ Some (w, after)
    → with_front front (words_at order (n - i) rest) ≡ total
    → with_front (front ++ w ∷ []) (words_at order (n - (i + 1)) after) ≡ total
unfolding words_at
words_step order front n i w rest after total lt e so_far =
    let k : n - i ≡ suc (n - (i + 1)) = omega arith in
    let one : with_front front (words_at order (n - i) rest)
    ≡ with_front front (words_at order (n - (i + 1)) after >>= λ ws. Some (w ∷ ws.0, ws.1)) = rw (k, e) refl in
    one_more front w (words_at order (n - (i + 1)) after) ∙ sym one ∙ so_far

-- the next word
pub word_there : (order : Endianness) (bytes : List ℕ) (n i w : ℕ) → 4 * n ≤ length bytes → i < n
    → w ≡ number_of order w32 (take 4 (drop (4 * i) bytes))
    → number_at order w32 (drop (4 * i) bytes) ≡ Some (w, drop (4 * (i + 1)) bytes)
unfolding number_at
word_there order bytes n i w long lt is =
    let enough : ltb (length (drop (4 * i) bytes)) 4 ≡ false =
    le-ltb _ _ (omega (arith, long, lt, length-drop (4 * i) bytes)) in
    let next : 4 * i + 4 ≡ 4 * (i + 1) = omega arith in
    rw (enough, drop-drop 4 (4 * i) bytes, next, is) refl

-- there are not so many
pub words_short : (order : Endianness) (n : ℕ) (bytes : List ℕ) → length bytes < 4 * n → words_at order n bytes ≡ None
unfolding words_at number_at
words_short order zero bytes lt = absurd (omega (arith, lt))
words_short order (suc n) bytes lt =
    elim (cases_lt (length bytes) 4) [
      | inl few ↦ rw (lt-ltb (length bytes) 4 few) refl
      | inr more ↦
          rw (le-ltb (length bytes) 4 more)
          (rw (words_short order n (drop 4 bytes) (omega (arith, length-drop 4 bytes, lt, more))) refl)
    ]

pub words_start : (read : Option (List ℕ × List ℕ)) → with_front [] read ≡ read
words_start None = refl
words_start (Some x) = refl

pub words_done : (order : Endianness) (front : List ℕ) (n i : ℕ) (rest : List ℕ) (total : Option (List ℕ × List ℕ))
    → n ≤ i
    → with_front front (words_at order (n - i) rest) ≡ total → Some (front, rest) ≡ total
unfolding words_at
words_done order front n i rest total le so_far =
    let k : n - i ≡ 0 = omega arith in
    let one : with_front front (words_at order (n - i) rest) ≡ Some (front, rest) =
    rw k (ap (λ (z : List ℕ). Some (z, rest)) (append-nil front)) in
    sym one ∙ so_far

words_takes : (order : Endianness) (n : ℕ) (bytes ws rest : List ℕ) → AreOctets bytes
    → words_at order n bytes ≡ Some (ws, rest)
    → Takes bytes (flat_map (number order w32) ws) rest × ((length ws ≡ n) × AllByRecursion (λ w. w < 2 ^ 32) ws)
unfolding words_at
words_takes order zero bytes ws rest octets e =
    subst (λ (p : List ℕ × List ℕ). Takes bytes (flat_map (number order w32) p.0) p.1
    × ((length p.0 ≡ 0) × AllByRecursion (λ w. w < 2 ^ 32) p.0)) (some_is ([], bytes) (ws, rest) e)
    (record { parts = refl; octets = octets }, (refl, tt))
words_takes order (suc n) bytes ws rest octets e =
    option_and_then_some (λ w. words_at order n w.1 >>= λ vs. Some (w.0 ∷ vs.0, vs.1)) (number_at order w32 bytes)
    (ws, rest) e (λ w q r.
    let t = (field_u32 order).takes bytes w.0 w.1 octets q in
    option_and_then_some (λ vs. Some (w.0 ∷ vs.0, vs.1)) (words_at order n w.1) (ws, rest) r (λ vs q2 r2.
    let u = words_takes order n w.1 vs.0 vs.1 t.0.octets q2 in
    let made : List ℕ × List ℕ = (w.0 ∷ vs.0, vs.1) in
    subst (λ (p : List ℕ × List ℕ). Takes bytes (flat_map (number order w32) p.0) p.1
    × ((length p.0 ≡ suc n) × AllByRecursion (λ w. w < 2 ^ 32) p.0)) (some_is made (ws, rest) r2) (
      Takes-then bytes (number order w32 w.0) w.1 (flat_map (number order w32) vs.0) vs.1 t.0 u.0,
      (ap suc u.1.0, (t.1, u.1.1)),
    )))

words_again : (order : Endianness) (n : ℕ) (ws rest : List ℕ) → (length ws ≡ n) × AllByRecursion (λ w. w < 2 ^ 32) ws
    → words_at order n (flat_map (number order w32) ws ++ rest) ≡ Some (ws, rest)
unfolding words_at
words_again order zero [] rest fits = refl
words_again order zero (w ∷ ws) rest fits = absurd (omega (arith, fits.0))
words_again order (suc n) [] rest fits = absurd (omega (arith, fits.0))
words_again order (suc n) (w ∷ ws) rest fits =
    ap (words_at order (suc n)) (append_assoc (number order w32 w) (flat_map (number order w32) ws) rest)
    ∙ rw (
      (field_u32 order).again w (flat_map (number order w32) ws ++ rest) fits.1.0,
      words_again order n ws rest
          (omega (arith, fits.0), fits.1.1),
    ) refl

-- what is read of a set after its base and its number of bits
record TakesAfter (order : Endianness) (base bits : ℕ) (bytes : List ℕ) (r : SetField) (rest : List ℕ) : Type 0 where
  is : r ≡ record { base = base; num_bits = bits; words = r.words }
  valid : IsSetField r
  text : Takes bytes (flat_map (number order w32) r.words) rest

after_takes : (order : Endianness) (base num_bits : ℕ) (bytes : List ℕ) (r : SetField) (rest : List ℕ) → AreOctets bytes
    → base ≤ 2 ^ 62 → set_after order base num_bits bytes ≡ Some (r, rest)
    → TakesAfter order base num_bits bytes r rest
unfolding set_after
after_takes order base num_bits bytes r rest octets small e =
    let refused = ltb base 1 || ltb 256 num_bits in
    option_and_then_some (λ w. Some (record { base = base; num_bits = num_bits; words = w.0 }, w.1))
    (cond (ltb base 1 || ltb 256 num_bits) None (words_at order (words_for num_bits) bytes)) (r, rest) e (λ w q e1.
    let g = guard_some refused (words_at order (words_for num_bits) bytes) w q in
    let n = neither (ltb base 1) (ltb 256 num_bits) g.0 in
    let t = words_takes order (words_for num_bits) bytes w.0 w.1 octets g.1 in
    let made : SetField × List ℕ = (record { base = base; num_bits = num_bits; words = w.0 }, w.1) in
    subst (λ (p : SetField × List ℕ). TakesAfter order base num_bits bytes p.0 p.1) (some_is made (r, rest) e1)
    (record {
      is = refl;
      valid =
          record { first = ltb-false _ _ n.0; small = small; few = ltb-false _ _ n.1; enough = t.1.0; each = t.1.1 };
      text = t.0;
    }))

-- a set that is read with a base by its own and its number of bits
abbrev field_by : (ℕ → ℕ → ℕ) → Endianness → List ℕ → Option (SetField × List ℕ)
field_by base_of order bytes =
    sn_at order bytes >>= λ b. number_at order w32 b.1 >>= λ c. set_after order (base_of b.0 c.0) c.0 c.1

abbrev with_base : (ℕ → ℕ → ℕ) → SetField → SetField
with_base base_of f = record f { base = base_of f.base f.num_bits }

record TakesField (base_of : ℕ → ℕ → ℕ) (order : Endianness) (bytes : List ℕ) (r : SetField) (rest : List ℕ)
    : Type 0 where
  field : SetField
  is : r ≡ with_base base_of field
  valid : IsSetField r
  text : Takes bytes (set_text order field) rest

field_takes : (base_of : ℕ → ℕ → ℕ) → ((base n : ℕ) → base ≤ 2 ^ 62 → base_of base n ≤ 2 ^ 62)
    → (order : Endianness) (bytes : List ℕ) (r : SetField) (rest : List ℕ) → AreOctets bytes
    → field_by base_of order bytes ≡ Some (r, rest) → TakesField base_of order bytes r rest
field_takes base_of small order bytes r rest octets e =
    option_and_then_some (λ b. number_at order w32 b.1 >>= λ c. set_after order (base_of b.0 c.0) c.0 c.1)
    (sn_at order bytes) (r, rest) e (λ b q1 e1.
    let t0 = (field_sn order).takes bytes b.0 b.1 octets q1 in
    option_and_then_some (λ c. set_after order (base_of b.0 c.0) c.0 c.1) (number_at order w32 b.1) (r, rest) e1
    (λ c q2 e2.
    let t1 = (field_u32 order).takes b.1 c.0 c.1 t0.0.octets q2 in
    let t2 = after_takes order (base_of b.0 c.0) c.0 c.1 r rest t1.0.octets (small b.0 c.0 t0.1) e2 in
    record {
      field = record { base = b.0; num_bits = c.0; words = r.words };
      is = t2.is;
      valid = t2.valid;
      text =
          Takes-then bytes (sn_text order b.0 ++ number order w32 c.0) c.1 (flat_map (number order w32) r.words) rest
          (Takes-then bytes (sn_text order b.0) b.1 (number order w32 c.0) c.1 t0.0 t1.0) t2.text;
    }))

field_again : (base_of : ℕ → ℕ → ℕ) (order : Endianness) (f : SetField) (rest : List ℕ) → f.base ≤ 2 ^ 62
    → IsSetField (with_base base_of f)
    → field_by base_of order (set_text order f ++ rest) ≡ Some (with_base base_of f, rest)
unfolding set_after
field_again base_of order f rest small fits =
    let early : ltb (base_of f.base f.num_bits) 1 ≡ false = le-ltb _ _ fits.first in
    let many : ltb 256 f.num_bits ≡ false = le-ltb _ _ fits.few in
    let bits : f.num_bits < 2 ^ 32 = omega (arith, fits.few) in
    ap (field_by base_of order) (append_assoc (sn_text order f.base ++ number order w32 f.num_bits)
    (flat_map (number order w32) f.words) rest
    ∙ append_assoc (sn_text order f.base) (number order w32 f.num_bits)
    (flat_map (number order w32) f.words ++ rest))
    ∙ rw (
      (field_sn order).again f.base (number order w32 f.num_bits ++ (flat_map (number order w32) f.words ++ rest))
          small,
      (field_u32 order).again f.num_bits (flat_map (number order w32) f.words ++ rest) bits,
      early,
      many,
      words_again order (words_for f.num_bits) f.words rest (fits.enough, fits.each),
    ) refl

-- ---- the bits

bits_length : (n w : ℕ) → length (bits_below n w) ≡ n
unfolding bits_below
bits_length zero w = refl
bits_length (suc n) w = ap suc (bits_length n w)

pub bits_at : (n k w : ℕ) → k < n → get_or (bits_below n w) k false ≡ eqb (bit_and (w / 2 ^ (n - 1 - k)) 1) 1
unfolding bits_below
bits_at zero k w lt = absurd (omega arith)
bits_at (suc n) zero w lt = let e : suc n - 1 - 0 ≡ n = omega arith in rw e refl
bits_at (suc n) (suc k) w lt = let e : suc n - 1 - suc k ≡ n - 1 - k = omega arith in rw e (bits_at n k w (omega arith))

pub flags_length : (ws : List ℕ) → length (flat_map word_bits ws) ≡ 32 * length ws
flags_length [] = refl
flags_length (w ∷ ws) =
    omega (arith, length-append (word_bits w) (flat_map word_bits ws), bits_length 32 w, flags_length ws)

pub flag_at : (ws : List ℕ) (i : ℕ) → i < 32 * length ws
    → get_or (flat_map word_bits ws) i false ≡ eqb (bit_and (get_or ws (i / 32) 0 / 2 ^ (31 - i % 32)) 1) 1
flag_at [] i lt = absurd (omega arith)
flag_at (w ∷ ws) i lt =
    let len = bits_length 32 w in
    elim (cases_lt i 32) [
      | inl below ↦
          let q : i / 32 ≡ 0 = omega arith in
          let r : 31 - i % 32 ≡ 32 - 1 - i = omega arith in
          get_or_append_left (word_bits w) (flat_map word_bits ws) false i (omega arith)
          ∙ rw (q, r) (bits_at 32 i w below)
      | inr above ↦
          let j : i ≡ length (word_bits w) + (i - 32) = omega arith in
          let q : i / 32 ≡ suc ((i - 32) / 32) = omega arith in
          let r : i % 32 ≡ (i - 32) % 32 = omega arith in
          ap (λ (k : ℕ). get_or (word_bits w ++ flat_map word_bits ws) k false) j
          ∙ get_or-append-add (word_bits w) (flat_map word_bits ws) (i - 32) false
          ∙ rw (q, r) (flag_at ws (i - 32) (omega arith))
    ]

-- the members that words name below a count
pub members_are : (ws : List ℕ) (count : ℕ) (members : List Bool) → count ≤ 256 → length ws ≡ words_for count
    → length members ≡ 256
    → ((place : ℕ) → place < 256 → get_or members place false
    ≡ (ltb place count && eqb (bit_at (get_or ws (place / 32) 0) (31 - place % 32)) 1))
    → members ≡ take count (flat_map word_bits ws) ++ replicate (256 - count) false
members_are ws count members few enough long each =
    ext_get_or false members (flags ++ replicate (256 - count) false)
    (omega (
      arith,
      few,
      long,
      len,
      length-append flags (replicate (256 - count) false),
      length-replicate (256 - count) false,
    ))
    (λ place lt. by place (omega (arith, lt, long)) (cases_lt place count))
  where
    flags : List Bool
    flags = take count (flat_map word_bits ws)

    len : length flags ≡ count
    len = length-take-le count (flat_map word_bits ws) (omega (arith, enough, flags_length ws))

    by : (place : ℕ) → place < 256 → (place < count) ⊎ (count ≤ place)
        → get_or members place false ≡ get_or (flags ++ replicate (256 - count) false) place false
    by place small (inl below) =
        let inside : place < 32 * length ws = omega (arith, below, enough) in
        each place small
        ∙ (ap (λ (b : Bool). b && eqb (bit_at (get_or ws (place / 32) 0) (31 - place % 32)) 1)
        (lt-ltb place count below)
        ∙ (ap (λ (n : ℕ). eqb n 1) (sym (shr_and_one (get_or ws (place / 32) 0) (31 - place % 32)))
        ∙ (sym (flag_at ws place inside)
        ∙ (sym (get_or-take count (flat_map word_bits ws) place false below)
        ∙ sym (get_or_append_left flags (replicate (256 - count) false) false place (omega (arith, below, len)))))))
    by place small (inr past) =
        each place small
        ∙ (ap (λ (b : Bool). b && eqb (bit_at (get_or ws (place / 32) 0) (31 - place % 32)) 1)
        (le-ltb place count past)
        ∙ (sym (get_or-replicate (256 - count) (place - count) false false (omega (arith, small, past)))
        ∙ sym (get_or-append_right flags (replicate (256 - count) false) count place false len past)))

-- ---- a set

pub record TakesSet (Reads : NumberSet → List ℕ → Type 0) (x : NumberSet × List ℕ) : Type 0 where
  pub reads : Reads x.0 x.1
  pub octets : AreOctets x.1

own_base : ℕ → ℕ → ℕ
own_base base n = base

pub set_found : (order : Endianness) (bytes : List ℕ) (x : NumberSet × List ℕ) → AreOctets bytes
    → set_at order bytes ≡ Some x → TakesSet (ReadsSet order bytes) x
unfolding set_at set_field_at own_base
set_found order bytes x octets e =
    option_and_then_some (λ r. Some (set_of r.0, r.1)) (set_field_at order bytes) x e (λ r q p.
    let t = field_takes own_base (λ base n small. small) order bytes r.0 r.1 octets q in
    subst (λ (y : NumberSet × List ℕ). TakesSet (ReadsSet order bytes) y) (some_is (set_of r.0, r.1) x p) (record {
      reads =
          record {
            field = r.0;
            valid = t.valid;
            text = t.text.parts ∙ ap (λ (f : SetField). set_text order f ++ r.1) (sym t.is);
            set = refl;
          };
      octets = t.text.octets;
    }))

pub set_only : (order : Endianness) (bytes : List ℕ) (s : NumberSet) (rest : List ℕ) → ReadsSet order bytes s rest
    → set_at order bytes ≡ Some (s, rest)
unfolding set_at set_field_at own_base
set_only order bytes s rest r =
    ap (set_at order) r.text ∙ rw (field_again own_base order r.field rest r.valid.small r.valid)
    (ap (λ (z : NumberSet). Some (z, rest)) (sym r.set))

-- ---- the set of an ACKNACK

acknack_base_small : (base n : ℕ) → base ≤ 2 ^ 62 → acknack_base base n ≤ 2 ^ 62
acknack_base_small base n small = by (eqb base 0 && eqb n 0)
  where
    by : (b : Bool) → cond b 1 base ≤ 2 ^ 62
    by true = omega arith
    by false = small

small_by_acknack_base : (base n : ℕ) → acknack_base base n ≤ 2 ^ 62 → base ≤ 2 ^ 62
small_by_acknack_base base n small = by (eqb base 0) refl small
  where
    by : (b : Bool) → eqb base 0 ≡ b → cond (b && eqb n 0) 1 base ≤ 2 ^ 62 → base ≤ 2 ^ 62
    by true is le = omega (arith, eqb-true base 0 is)
    by false is le = le

pub acknack_set_found : (order : Endianness) (bytes : List ℕ) (x : NumberSet × List ℕ) → AreOctets bytes
    → acknack_set_at order bytes ≡ Some x → TakesSet (ReadsAckNackSet order bytes) x
unfolding acknack_set_at acknack_field_at
acknack_set_found order bytes x octets e =
    option_and_then_some (λ r. Some (set_of r.0, r.1)) (acknack_field_at order bytes) x e (λ r q p.
    let t = field_takes acknack_base acknack_base_small order bytes r.0 r.1 octets q in
    subst (λ (y : NumberSet × List ℕ). TakesSet (ReadsAckNackSet order bytes) y) (some_is (set_of r.0, r.1) x p)
    (record {
      reads =
          record {
            field = t.field;
            valid = subst (λ (f : SetField). IsSetField f) t.is t.valid;
            text = t.text.parts;
            set = ap set_of t.is;
          };
      octets = t.text.octets;
    }))

pub acknack_set_only : (order : Endianness) (bytes : List ℕ) (s : NumberSet) (rest : List ℕ)
    → ReadsAckNackSet order bytes s rest → acknack_set_at order bytes ≡ Some (s, rest)
unfolding acknack_set_at acknack_field_at
acknack_set_only order bytes s rest r =
    ap (acknack_set_at order) r.text ∙ rw (field_again acknack_base order r.field rest
    (small_by_acknack_base r.field.base r.field.num_bits r.valid.small) r.valid)
    (ap (λ (z : NumberSet). Some (z, rest)) (sym r.set))

-- a base from 1 on stays
acknack_base_same : (base n : ℕ) → 1 ≤ base → acknack_base base n ≡ base
acknack_base_same base n first =
    let other : eqb base 0 ≡ false = grind (arith, nat_tests, first) in
    ap (λ (b : Bool). cond (b && eqb n 0) 1 base) other

-- a valid set is read of an ACKNACK as it is
pub reads_set : (order : Endianness) (bytes : List ℕ) (s : NumberSet) (rest : List ℕ) → ReadsSet order bytes s rest
    → ReadsAckNackSet order bytes s rest
reads_set order bytes s rest r =
    let same : r.field ≡ acknack_field r.field =
    ap (λ (base : ℕ). record r.field { base = base })
    (sym (acknack_base_same r.field.base r.field.num_bits r.valid.first)) in
    record {
      field = r.field;
      valid = subst (λ (f : SetField). IsSetField f) same r.valid;
      text = r.text;
      set = r.set ∙ ap set_of same;
    }
