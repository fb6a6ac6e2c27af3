-- A set that is written is read as itself.
use Rattle.std.proofs.Common.{◌≡◌, ℕ, zero, suc, ◌+◌, ◌-◌, ◌*◌, ◌/◌, ◌%◌, ◌^◌, ◌<◌, ◌≤◌, Bool, true, false, cond, eqb, List, [], ◌∷◌, ◌++◌, length, length-set, get_or, set, take, drop, replicate, refl, sym, ap, ◌∙◌, append_assoc, arith, inl, inr, get_or-set_same, get_or-set_other}
use Rattle.std.specs.List.{flat_map, AllByRecursion}
use Rattle.std.specs.Int.{w32, bit_at}
use Rattle.std.specs.Int.RustNames.{bit_and}
use Rattle.std.proofs.Math.Nat.{pow-suc}
use Rattle.std.proofs.lemmas.Nat.{and_mask, field_of, mod-pow-add, shr_high, mod_low}
use Rattle.std.proofs.lemmas.List.{length-append, drop-drop, get_or-drop}
use Rattle.std.specs.Prelude.{◌⊎◌}
use Rattle.std.proofs.lemmas.Bool.{cases_eq}
use Rattle.std.proofs.lemmas.Nat.Bits.{shr_and_one, bit_at-lt, same_from_bits_below}
use Rattle.rtps_sets.specs.NumberSet.{NumberSet, span}
use Rattle.rtps_sets.proofs.SpanLaws.{span_le, span_all}
use Rattle.rtps_wire.specs.Sets.{set_text, bits_below, word_bits, words_for, word_of, words_of, set_field_of, set_of, IsSetField, IsSet}
use Rattle.rtps_wire.specs.Fields.{sn_text}
use Rattle.rtps_wire.proofs.SetLaws.{bits_at}
use Rattle.dds_base.specs.declared.endianness.Endianness.TheVariants.{Little}
use Rattle.dds_base.specs.Fields.{number}

-- ---- a word of bits

bit_of_mod : (w n m : ℕ) → m < n → bit_and (w % 2 ^ n / 2 ^ m) 1 ≡ bit_and (w / 2 ^ m) 1
bit_of_mod w n m lt =
    let x = w / 2 ^ m in
    let k : n ≡ (n - 1 - m + 1) + m = omega arith in
    let cut : w % 2 ^ n / 2 ^ m ≡ w / 2 ^ m % 2 ^ (n - 1 - m + 1) =
    ap (λ (e : ℕ). w % 2 ^ e / 2 ^ m) k ∙ field_of w (n - 1 - m + 1) m in
    let two : w / 2 ^ m % 2 ^ (n - 1 - m + 1) ≡ (w / 2 ^ m / 2 ^ 1 % 2 ^ (n - 1 - m)) * 2 ^ 1 + w / 2 ^ m % 2 ^ 1 =
    mod-pow-add (w / 2 ^ m) (n - 1 - m) 1 in
    let same : (w % 2 ^ n / 2 ^ m) % 2 ≡ (w / 2 ^ m) % 2 = omega (arith, cut, two) in
    and_mask (w % 2 ^ n / 2 ^ m) 1 ∙ same ∙ sym (and_mask (w / 2 ^ m) 1)

bits_of_mod : (k n w : ℕ) → k ≤ n → bits_below k (w % 2 ^ n) ≡ bits_below k w
unfolding bits_below
bits_of_mod zero n w le = refl
bits_of_mod (suc k) n w le = rw (bit_of_mod w n k (omega arith), bits_of_mod k n w (omega arith)) refl

pub word_below : (n : ℕ) (fs : List Bool) → word_of n fs < 2 ^ n
unfolding word_of
word_below zero fs = omega arith
word_below (suc n) fs =
    doubled (get_or fs 0 false) (2 ^ n) (word_of n (drop 1 fs)) (2 ^ suc n) (pow-suc 2 n) (word_below n (drop 1 fs))
  where
    doubled : (b : Bool) (p r q : ℕ) → q ≡ p * 2 → r < p → cond b p 0 + r < q
    doubled true p r q e lt = omega arith
    doubled false p r q e lt = omega arith

-- the first n flags, false where there is none
abbrev front : ℕ → List Bool → List Bool
front zero fs = []
front (suc n) fs = get_or fs 0 false ∷ front n (drop 1 fs)

top_bit : (b : Bool) (n r : ℕ) → r < 2 ^ n → eqb (bit_and ((cond b (2 ^ n) 0 + r) / 2 ^ n) 1) 1 ≡ b
top_bit true n r lt =
    let e : (2 ^ n + r) / 2 ^ n ≡ 1 = ap (λ (x : ℕ). (x + r) / 2 ^ n) (omega arith) ∙ shr_high 1 n r lt in
    rw e refl
top_bit false n r lt =
    let e : (0 + r) / 2 ^ n ≡ 0 = ap (λ (x : ℕ). (x + r) / 2 ^ n) (omega arith) ∙ shr_high 0 n r lt in
    rw e refl

low_bits : (b : Bool) (n r : ℕ) → r < 2 ^ n → (cond b (2 ^ n) 0 + r) % 2 ^ n ≡ r
low_bits true n r lt = ap (λ (x : ℕ). (x + r) % 2 ^ n) (omega arith) ∙ mod_low 1 n r lt
low_bits false n r lt = ap (λ (x : ℕ). (x + r) % 2 ^ n) (omega arith) ∙ mod_low 0 n r lt

bits_word : (n : ℕ) (fs : List Bool) → bits_below n (word_of n fs) ≡ front n fs
unfolding bits_below word_of
bits_word zero fs = refl
bits_word (suc n) fs =
    let b = get_or fs 0 false in
    let r = word_of n (drop 1 fs) in
    let lt = word_below n (drop 1 fs) in
    let low : bits_below n (cond (get_or fs 0 false) (2 ^ n) 0 + word_of n (drop 1 fs)) ≡ front n (drop 1 fs) =
    sym (bits_of_mod n n (cond (get_or fs 0 false) (2 ^ n) 0 + word_of n (drop 1 fs)) (omega arith))
    ∙ ap (bits_below n) (low_bits (get_or fs 0 false) n (word_of n (drop 1 fs)) lt) ∙ bits_word n (drop 1 fs) in
    rw (top_bit (get_or fs 0 false) n (word_of n (drop 1 fs)) lt, low) refl

-- ---- all the words

front_append : (n m : ℕ) (fs : List Bool) → front (n + m) fs ≡ front n fs ++ front m (drop n fs)
front_append zero m fs = let e : zero + m ≡ m = omega arith in rw e refl
front_append (suc n) m fs =
    let e : suc n + m ≡ suc (n + m) = omega arith in
    let d : drop (suc n) fs ≡ drop n (drop 1 fs) = drops n fs in
    rw (e, d) (ap (λ (z : List Bool). get_or fs 0 false ∷ z) (front_append n m (drop 1 fs)))
  where
    drops : (n : ℕ) (fs : List Bool) → drop (suc n) fs ≡ drop n (drop 1 fs)
    drops zero [] = refl
    drops (suc n) [] = refl
    drops n (x ∷ fs) = refl

words_bits : (k : ℕ) (fs : List Bool) → flat_map word_bits (words_of k fs) ≡ front (32 * k) fs
unfolding words_of
words_bits zero fs = refl
words_bits (suc k) fs =
    let e : 32 * suc k ≡ 32 + 32 * k = omega arith in
    ap (λ (z : List Bool). z ++ flat_map word_bits (words_of k (drop 32 fs))) (bits_word 32 fs)
    ∙ ap (λ (z : List Bool). front 32 fs ++ z) (words_bits k (drop 32 fs)) ∙ sym (front_append 32 (32 * k) fs)
    ∙ ap (λ (n : ℕ). front n fs) (sym e)

take_front : (i n : ℕ) (fs : List Bool) → i ≤ n → i ≤ length fs → take i (front n fs) ≡ take i fs
take_front zero n fs le long = refl
take_front (suc i) zero fs le long = absurd (omega arith)
take_front (suc i) (suc n) [] le long = absurd (omega arith)
take_front (suc i) (suc n) (x ∷ fs) le long =
    ap (λ (z : List Bool). x ∷ z) (take_front i n fs (omega arith) (omega arith))

pub words_len : (k : ℕ) (fs : List Bool) → length (words_of k fs) ≡ k
unfolding words_of
words_len zero fs = refl
words_len (suc k) fs = ap suc (words_len k (drop 32 fs))

words_small : (k : ℕ) (fs : List Bool) → AllByRecursion (λ w. w < 2 ^ 32) (words_of k fs)
unfolding words_of
words_small zero fs = tt
words_small (suc k) fs = (word_below 32 fs, words_small k (drop 32 fs))

pub set_field_valid : (s : NumberSet) → IsSet s → IsSetField (set_field_of s)
set_field_valid s valid =
    record {
      first = valid.first;
      small = valid.small;
      few = omega (arith, span_le s.members, valid.places);
      enough = words_len (words_for (span s.members)) s.members;
      each = words_small (words_for (span s.members)) s.members;
    }

pub set_again : (s : NumberSet) → IsSet s → s ≡ set_of (set_field_of s)
unfolding set_of
set_again s valid =
    let n = span s.members in
    let le : span s.members ≤ 32 * words_for (span s.members) = omega arith in
    let front-is : take (span s.members) (flat_map word_bits (words_of (words_for (span s.members)) s.members))
    ≡ take (span s.members) s.members =
    ap (take (span s.members)) (words_bits (words_for (span s.members)) s.members)
    ∙ take_front (span s.members) (32 * words_for (span s.members)) s.members le (span_le s.members) in
    let all : s.members ≡ take (span s.members) (flat_map word_bits (words_of (words_for (span s.members)) s.members))
    ++ replicate (256 - span s.members) false =
    span_all s.members
    ∙ ap (λ (m : ℕ). take (span s.members) s.members ++ replicate (m - span s.members) false) valid.places
    ∙ ap (λ (z : List Bool). z ++ replicate (256 - span s.members) false) (sym front-is) in
    ap (λ (f : List Bool). record { base = s.base; members = f }) all

-- ---- writing

-- the flags of a written word
word_flag : (n k : ℕ) (fs : List Bool) → k < n → eqb (bit_at (word_of n fs) (n - 1 - k)) 1 ≡ get_or fs k false
word_flag n k fs lt =
    ap (λ (m : ℕ). eqb m 1) (sym (shr_and_one (word_of n fs) (n - 1 - k)))
    ∙ (sym (bits_at n k (word_of n fs) lt)
    ∙ (ap (λ (z : List Bool). get_or z k false) (bits_word n fs) ∙ front_at n k fs lt))
  where
    front_at : (n k : ℕ) (fs : List Bool) → k < n → get_or (front n fs) k false ≡ get_or fs k false
    front_at zero k fs lt = absurd (omega arith)
    front_at (suc n) zero fs lt = refl
    front_at (suc n) (suc k) [] lt = front_at n k [] (omega (arith, lt))
    front_at (suc n) (suc k) (f ∷ fs) lt = front_at n k fs (omega (arith, lt))

same_digit : (a b : ℕ) → a < 2 → b < 2 → eqb a 1 ≡ eqb b 1 → a ≡ b
same_digit zero zero x y e = refl
same_digit zero (suc zero) x y e = absurd (cc)
same_digit (suc zero) zero x y e = absurd (cc)
same_digit (suc zero) (suc zero) x y e = refl
same_digit (suc (suc a)) b x y e = absurd (omega arith)
same_digit zero (suc (suc b)) x y e = absurd (omega arith)
same_digit (suc zero) (suc (suc b)) x y e = absurd (omega arith)

-- a word with these flags is the written one
pub word_is : (words : List ℕ) (fs : List Bool) (at : ℕ) → at < 8 → get_or words at 0 < 2 ^ 32
    → ((place : ℕ) → place < 256
    → eqb (bit_at (get_or words (place / 32) 0) (31 - place % 32)) 1 ≡ get_or fs place false)
    → get_or words at 0 ≡ word_of 32 (drop (32 * at) fs)
word_is words fs at lt small each =
    same_from_bits_below 32 (get_or words at 0) (word_of 32 (drop (32 * at) fs)) small (word_below 32 (drop (32 * at) fs))
    (λ i less. same_digit (bit_at (get_or words at 0) i) (bit_at (word_of 32 (drop (32 * at) fs)) i)
    (bit_at-lt (get_or words at 0) i) (bit_at-lt (word_of 32 (drop (32 * at) fs)) i) (flag i less))
  where
    flag : (i : ℕ) → i < 32
        → eqb (bit_at (get_or words at 0) i) 1 ≡ eqb (bit_at (word_of 32 (drop (32 * at) fs)) i) 1
    flag i less =
        let word : (32 * at + (31 - i)) / 32 ≡ at = omega (arith, less) in
        let bit : 31 - (32 * at + (31 - i)) % 32 ≡ i = omega (arith, less) in
        let back : 32 - 1 - (31 - i) ≡ i = omega (arith, less) in
        let here : eqb (bit_at (get_or words at 0) i) 1 ≡ get_or fs (32 * at + (31 - i)) false =
        rw (word, bit) at (each (32 * at + (31 - i)) (omega (arith, lt, less))) in
        let there : eqb (bit_at (word_of 32 (drop (32 * at) fs)) i) 1 ≡ get_or (drop (32 * at) fs) (31 - i) false =
        rw back at (word_flag 32 (31 - i) (drop (32 * at) fs) (omega (arith, less))) in
        here ∙ (sym (get_or-drop (32 * at) fs (31 - i) false) ∙ sym there)

-- the octets of numbers, put together
octets_are : (ws : List ℕ) (octets : List (List ℕ)) → length ws ≤ length octets
    → ((k : ℕ) → k < length ws → get_or octets k [] ≡ number Little w32 (get_or ws k 0))
    → take (4 * length ws) (flat_map (λ x. x) octets) ≡ flat_map (number Little w32) ws
octets_are [] octets le each = refl
octets_are (w ∷ ws) [] le each = absurd (omega (arith, le))
octets_are (w ∷ ws) (o ∷ os) le each =
    let first : o ≡ number Little w32 w = each 0 (omega arith) in
    let four : 4 * suc (length ws) ≡ suc (suc (suc (suc (4 * length ws)))) = omega arith in
    rw (first, four)
    (ap (λ (z : List ℕ). number Little w32 w ++ z)
    (octets_are ws os (omega (arith, le)) (λ k lt. each (suc k) (omega (arith, lt)))))

word_in : (n k : ℕ) (fs : List Bool) → k < n → get_or (words_of n fs) k 0 ≡ word_of 32 (drop (32 * k) fs)
unfolding words_of
word_in zero k fs lt = absurd (omega arith)
word_in (suc n) zero fs lt = refl
word_in (suc n) (suc k) fs lt =
    let sum : 32 + 32 * k ≡ 32 * suc k = omega arith in
    word_in n k (drop 32 fs) (omega (arith, lt))
    ∙ (ap (λ (z : List Bool). word_of 32 z) (drop-drop (32 * k) 32 fs)
    ∙ ap (λ (m : ℕ). word_of 32 (drop m fs)) sum)

-- the octets of a set, word by word: of its head, and of so many words of these flags
pub record AreSetOctets (octets : List (List ℕ)) (base bits : ℕ) (fs : List Bool) (words : ℕ) : Type 0 where
  pub count : length octets ≡ 11
  pub high : get_or octets 0 [] ≡ number Little w32 (base / 2 ^ 32)
  pub low : get_or octets 1 [] ≡ number Little w32 (base % 2 ^ 32)
  pub bits_are : get_or octets 2 [] ≡ number Little w32 bits
  pub words_are : (k : ℕ) → k < words → get_or octets (3 + k) [] ≡ number Little w32 (word_of 32 (drop (32 * k) fs))

-- one word more has its octets
pub set_octets_more : (octets : List (List ℕ)) (base bits : ℕ) (fs : List Bool) (at : ℕ) (o : List ℕ)
    → AreSetOctets octets base bits fs at → at < 8 → o ≡ number Little w32 (word_of 32 (drop (32 * at) fs))
    → AreSetOctets (set octets (3 + at) o) base bits fs (at + 1)
set_octets_more octets base bits fs at o are lt here = record {
  count = length-set octets (3 + at) o ∙ are.count;
  high = get_or-set_other octets (3 + at) 0 o [] (λ e. omega (arith, e)) ∙ are.high;
  low = get_or-set_other octets (3 + at) 1 o [] (λ e. omega (arith, e)) ∙ are.low;
  bits_are = get_or-set_other octets (3 + at) 2 o [] (λ e. omega (arith, e)) ∙ are.bits_are;
  words_are = λ k less. by k less (cases_eq k at);
}
  where
    by : (k : ℕ) → k < at + 1 → (k ≡ at) ⊎ (k ≡ at → ⊥)
        → get_or (set octets (3 + at) o) (3 + k) [] ≡ number Little w32 (word_of 32 (drop (32 * k) fs))
    by k less (inl same) =
        rw same (get_or-set_same octets (3 + at) o [] (omega (arith, are.count, lt)) ∙ here)
    by k less (inr ne) =
        get_or-set_other octets (3 + at) (3 + k) o [] (λ e. ne (omega (arith, e)))
        ∙ are.words_are k (omega (arith, less, ne))

-- the octets of so many words, put together
pub set_octets : (octets : List (List ℕ)) (base bits : ℕ) (fs : List Bool) (at n : ℕ)
    → AreSetOctets octets base bits fs at → 8 ≤ at → n ≤ 8
    → take (12 + 4 * n) (flat_map (λ x. x) octets)
    ≡ set_text Little (record { base = base; num_bits = bits; words = words_of n fs })
set_octets octets base bits fs at n are all le =
    let len : 12 + 4 * n ≡ 4 * length numbers = omega (arith, words_len n fs) in
    ap (λ (m : ℕ). take m (flat_map (λ x. x) octets)) len
    ∙ octets_are numbers octets (omega (arith, are.count, words_len n fs, le)) each
  where
    numbers : List ℕ
    numbers = base / 2 ^ 32 ∷ base % 2 ^ 32 ∷ bits ∷ words_of n fs

    each : (k : ℕ) → k < length numbers → get_or octets k [] ≡ number Little w32 (get_or numbers k 0)
    each zero lt = are.high
    each (suc zero) lt = are.low
    each (suc (suc zero)) lt = are.bits_are
    each (suc (suc (suc k))) lt =
        let less : k < n = omega (arith, lt, words_len n fs) in
        let place : suc (suc (suc k)) ≡ 3 + k = omega arith in
        ap (λ (m : ℕ). get_or octets m []) place
        ∙ (are.words_are k (omega (arith, less, le, all)) ∙ ap (λ (w : ℕ). number Little w32 w) (sym (word_in n k fs less)))

octets_len : (ws : List ℕ) → length (flat_map (number Little w32) ws) ≡ 4 * length ws
octets_len [] = refl
octets_len (w ∷ ws) =
    omega (arith, length-append (number Little w32 w) (flat_map (number Little w32) ws), octets_len ws)

pub text_of_set_len : (s : NumberSet) → length (set_text Little (set_field_of s)) ≡ 12 + 4 * words_for (span s.members)
text_of_set_len s =
    omega (
      arith,
      length-append (sn_text Little s.base ++ number Little w32 (span s.members))
          (flat_map (number Little w32) (words_of (words_for (span s.members)) s.members)),
      octets_len
          (words_of (words_for (span s.members)) s.members),
      words_len (words_for (span s.members)) s.members,
    )

pub acknack_parts : (o ids s n a d p : List ℕ)
    → a ≡ o ++ ids → d ≡ a ++ s → p ≡ d ++ n → p ≡ o ++ (ids ++ (s ++ n))
acknack_parts o ids s n a d p ha hd hp = rw (hp, hd, ha) (simp append_assoc)
