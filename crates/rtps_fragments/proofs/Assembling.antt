-- What is told of a payload is what came of it.
use Rattle.std.proofs.Common.{◌≡◌, ◌∙◌, inl, inr, ℕ, ◌+◌, ◌-◌, ◌*◌, ◌/◌, ◌<◌, ◌≤◌, Bool, true, false, eqb, List, ◌++◌, length, get_or, take, drop, min, replicate, Option, refl, sym, ap, arith}
use Rattle.std.specs.List.{All}
use Rattle.std.proofs.Math.Nat.{mul-le-mul_left}
use Rattle.std.proofs.lemmas.Bool.{cases_lt, eqb-true, eq-eqb}
use Rattle.std.proofs.lemmas.List.{get_or_past, get_or-take, get_or-drop, get_or_append_left, get_or-append_right, get_or-replicate, length-append, length-take, length-replicate}
use Rattle.std.proofs.lemmas.List.Sums.{AllPass-from_list_all}
use Rattle.rtps_fragments.specs.DataFrag.{Fragment, IsFragment, count_of, place_of}
use Rattle.rtps_fragments.specs.Keeping.{Kept, heard, is_alike, is_whole, nothing_of, overlaid, with_fragments}
use Rattle.rtps_fragments.specs.Assembled.{IsAlike, Brings, Opens, IsOf, IsAssembled}
use Rattle.rtps_fragments.proofs.HeardLaws.{Leaves, heard_leaves}
use Rattle.rtps_fragments.proofs.Placing.{fits_whole, same_size, same_whole, overlaid-length}

-- ---- a list with others in place of as many of its own

before : {A : Type 0} (xs : List A) (place : ℕ) (ys : List A) (i : ℕ) (d : A) → place ≤ length xs → i < place
    → get_or (overlaid xs place ys) i d ≡ get_or xs i d
before xs place ys i d le lt =
    let n = length-take place xs in
    let front : i < length (take place xs) = omega (arith, length-take place xs) in
    let more : i < length (take place xs ++ ys) = omega (arith, length-append (take place xs) ys, length-take place xs) in
    get_or_append_left (take place xs ++ ys) (drop (place + length ys) xs) d i more
    ∙ get_or_append_left (take place xs) ys d i front ∙ get_or-take place xs i d lt

within : {A : Type 0} (xs : List A) (place : ℕ) (ys : List A) (i : ℕ) (d : A) → place ≤ length xs → place ≤ i
    → i < place + length ys → get_or (overlaid xs place ys) i d ≡ get_or ys (i - place) d
within xs place ys i d le from lt =
    let n : length (take place xs) ≡ place = omega (arith, length-take place xs) in
    let more : i < length (take place xs ++ ys) = omega (arith, length-append (take place xs) ys, length-take place xs) in
    get_or_append_left (take place xs ++ ys) (drop (place + length ys) xs) d i more
    ∙ get_or-append_right (take place xs) ys place i d n from

behind : {A : Type 0} (xs : List A) (place : ℕ) (ys : List A) (i : ℕ) (d : A) → place ≤ length xs
    → place + length ys ≤ i → get_or (overlaid xs place ys) i d ≡ get_or xs i d
behind xs place ys i d le from =
    let n : length (take place xs ++ ys) ≡ place + length ys =
    omega (arith, length-append (take place xs) ys, length-take place xs) in
    let same : place + length ys + (i - (place + length ys)) ≡ i = omega arith in
    get_or-append_right (take place xs ++ ys) (drop (place + length ys) xs) (place + length ys) i d n from
    ∙ get_or-drop (place + length ys) xs (i - (place + length ys)) d ∙ ap (λ (z : ℕ). get_or xs z d) same

-- ---- which fragment an octet is of

pub below : (i n s : ℕ) → 1 ≤ s → i < n * s → i / s < n
below i n s sized lt =
    elim (cases_lt (i / s) n) [
      | inl yes-it ↦ yes-it
      | inr no-it ↦ absurd (let more = mul-le-mul_left s no-it in omega (arith, more))
    ]

pub above : (i n s : ℕ) → 1 ≤ s → n * s ≤ i → n ≤ i / s
above i n s sized le =
    elim (cases_lt (i / s) n) [
      | inl less ↦ absurd (let next : i / s + 1 ≤ n = omega arith in let more = mul-le-mul_left s next in omega (arith, more))
      | inr it ↦ it
    ]

-- ---- one more DATA_FRAG

-- what came before came, and this one did
pub record Adds (P Q : Fragment → Type 0) (g : Fragment) : Type 0 where
  pub later : (f : Fragment) → P f → Q f
  pub itself : Q g

-- an octet that came before stays, where the fragments do not cover it
stays : (k m : Kept) (g : Fragment) (i : ℕ) → m.writer_sn ≡ k.writer_sn → m.fragment_size ≡ k.fragment_size
    → m.sample_size ≡ k.sample_size → get_or m.octets i 0 ≡ get_or k.octets i 0 → Brings g k i → Brings g m i
stays k m g i sn size whole octet b = record {
  alike = record {
    number = b.alike.number ∙ sym sn;
    size = b.alike.size ∙ sym size;
    whole = b.alike.whole ∙ sym whole;
  };
  begins = b.begins;
  ends = b.ends;
  octet = octet ∙ b.octet;
}

pub IsOf-more : (P Q : Fragment → Type 0) → ((f : Fragment) → P f → Q f) → (k : Kept) → IsOf P k → IsOf Q k
IsOf-more P Q later k o = record {
  sized = o.sized;
  some = o.some;
  octets = o.octets;
  came = o.came;
  each = λ i lt mark. let x = o.each i lt mark in (x.0, later x.0 x.1, x.2);
  opening = λ mark. let x = o.opening mark in (x.0, later x.0 x.1, x.2);
}

never : (n i : ℕ) → get_or (replicate n false) i false ≡ false
never n i =
    elim (cases_lt i n) [
      | inl lt ↦ get_or-replicate n i false false lt
      | inr le ↦ get_or_past (replicate n false) i false (omega (arith, length-replicate n false))
    ]

pub IsOf-nothing : (P : Fragment → Type 0) (f : Fragment) → IsFragment f → IsOf P (nothing_of f)
IsOf-nothing P f v = record {
  sized = v.sized;
  some = omega (arith, v.some, v.within);
  octets = length-replicate f.sample_size 0;
  came = length-replicate (count_of f.sample_size f.fragment_size) false;
  each = λ i lt mark. absurd (let no-mark = never (count_of f.sample_size f.fragment_size) (i / f.fragment_size) in cc);
  opening = λ mark. absurd (let no-mark = never (count_of f.sample_size f.fragment_size) 0 in cc);
}

covers : (d count s whole len i : ℕ) → len ≡ min (count * s) (whole - d * s) → i < whole → d * s + len ≤ i
    → (d + count) * s ≤ i
covers d count s whole len i e lt le = omega arith

-- the fragments are of the payload, and have a place in it
record Suits (g : Fragment) (k : Kept) : Type 0 where
  alike : IsAlike g k
  octets : place_of g + length g.octets ≤ length k.octets
  marks : g.fragment_starting_num - 1 + g.fragments_in_submessage ≤ length k.came

suits : (P : Fragment → Type 0) (g : Fragment) (k : Kept) → IsFragment g → IsOf P k → is_alike k g ≡ true
    → g.writer_sn ≡ k.writer_sn → Suits g k
suits P g k v o e sn =
    let size = same_size k g e in
    let whole = same_whole k g e in
    let count : count_of k.sample_size k.fragment_size ≡ count_of g.sample_size g.fragment_size =
    rw (size, whole) refl in
    record {
      alike = record { number = sn; size = sym size; whole = sym whole };
      octets = omega (arith, fits_whole g v, o.octets, whole);
      marks = omega (arith, v.within, o.came, count);
    }

each_after : (P Q : Fragment → Type 0) (g : Fragment) (k : Kept) (timestamp : Option ℕ) → Adds P Q g → IsFragment g
    → IsOf P k
    → Suits g k → (i : ℕ) → i < k.sample_size
    → get_or ((with_fragments k g timestamp).came) (i / k.fragment_size) false ≡ true
    → (f : Fragment) × Q f × Brings f (with_fragments k g timestamp) i
each_after P Q g k timestamp a v o t i lt mark =
    let m : Kept = with_fragments k g timestamp in
    let d : ℕ = g.fragment_starting_num - 1 in
    let marks : List Bool = replicate g.fragments_in_submessage true in
    let size : g.fragment_size ≡ k.fragment_size = t.alike.size in
    let n : length (replicate g.fragments_in_submessage true) ≡ g.fragments_in_submessage =
    length-replicate g.fragments_in_submessage true in
    let place : place_of g ≤ length k.octets = omega (arith, t.octets) in
    let low : g.fragment_starting_num - 1 ≤ length k.came = omega (arith, t.marks) in
    elim (cases_lt i (place_of g)) [
      | inl less ↦
          let j : i / k.fragment_size < g.fragment_starting_num - 1 =
          rw (← size) (below i (g.fragment_starting_num - 1) g.fragment_size v.sized less) in
          let was = sym (before k.came (g.fragment_starting_num - 1) marks (i / k.fragment_size) false low j) ∙ mark in
          let x = o.each i lt was in (
            x.0,
            a.later x.0 x.1,
            stays k m x.0 i refl refl refl (before k.octets (place_of g) g.octets i 0 place less) x.2,
          )
      | inr from ↦
          elim (cases_lt i (place_of g + length g.octets)) [
            | inl inside ↦ (
              g,
              a.itself,
              record {
                alike = record { number = t.alike.number; size = t.alike.size; whole = t.alike.whole };
                begins = from;
                ends = inside;
                octet = within k.octets (place_of g) g.octets i 0 place from inside;
              },
            )
            | inr past ↦
                let all = covers (g.fragment_starting_num - 1) g.fragments_in_submessage g.fragment_size g.sample_size
                (length g.octets) i v.extent (omega (arith, t.alike.whole)) past in
                let j : g.fragment_starting_num - 1 + g.fragments_in_submessage ≤ i / k.fragment_size =
                rw (← size)
                (above i (g.fragment_starting_num - 1 + g.fragments_in_submessage) g.fragment_size v.sized all) in
                let was =
                sym (behind k.came (g.fragment_starting_num - 1) marks (i / k.fragment_size) false low (omega (arith, n, j)))
                ∙ mark in
                let x = o.each i lt was in (
                  x.0,
                  a.later x.0 x.1,
                  stays k m x.0 i refl refl refl (behind k.octets (place_of g) g.octets i 0 place past) x.2,
                )
          ]
    ]

opening_after : (P Q : Fragment → Type 0) (g : Fragment) (k : Kept) (timestamp : Option ℕ) → Adds P Q g
    → IsFragment g → IsOf P k
    → Suits g k → get_or ((with_fragments k g timestamp).came) 0 false ≡ true
    → (f : Fragment) × Q f × Opens f (with_fragments k g timestamp)
opening_after P Q g k timestamp a v o t mark = by_first (eqb g.fragment_starting_num 1) refl
  where
    by_first : (b : Bool) → eqb g.fragment_starting_num 1 ≡ b
        → (f : Fragment) × Q f × Opens f (with_fragments k g timestamp)
    by_first true e = (
      g,
      a.itself,
      record {
        alike = record { number = t.alike.number; size = t.alike.size; whole = t.alike.whole };
        first = eqb-true g.fragment_starting_num 1 e;
        flags = rw e refl;
        parameters = rw e refl;
      },
    )
    by_first false e =
        let other : g.fragment_starting_num ≡ 1 → ⊥ = λ is. let yes-it = eq-eqb g.fragment_starting_num 1 is in cc in
        let low : 0 < g.fragment_starting_num - 1 = omega (arith, v.first, other) in
        let place : g.fragment_starting_num - 1 ≤ length k.came = omega (arith, t.marks) in
        let was =
        sym (before k.came (g.fragment_starting_num - 1) (replicate g.fragments_in_submessage true) 0 false place low)
        ∙ mark in
        let x = o.opening was in (
          x.0,
          a.later x.0 x.1,
          record {
            alike = record { number = x.2.alike.number; size = x.2.alike.size; whole = x.2.alike.whole };
            first = x.2.first;
            flags = rw e x.2.flags;
            parameters = rw e x.2.parameters;
          },
        )

pub IsOf-added : (P Q : Fragment → Type 0) (g : Fragment) (k : Kept) (timestamp : Option ℕ) → Adds P Q g
    → IsFragment g → IsOf P k
    → is_alike k g ≡ true → g.writer_sn ≡ k.writer_sn → IsOf Q (with_fragments k g timestamp)
IsOf-added P Q g k timestamp a v o e sn =
    let t = suits P g k v o e sn in
    let n = length-replicate g.fragments_in_submessage true in
    record {
      sized = o.sized;
      some = o.some;
      octets = overlaid-length k.octets (place_of g) g.octets t.octets ∙ o.octets;
      came = overlaid-length k.came (g.fragment_starting_num - 1) (replicate g.fragments_in_submessage true)
          (omega (arith, n, t.marks)) ∙ o.came;
      each = each_after P Q g k timestamp a v o t;
      opening = opening_after P Q g k timestamp a v o t;
    }

-- ---- a payload that is whole

in_all : (whole size i : ℕ) → 1 ≤ size → i < whole → i < (whole + size - 1) / size * size
in_all whole size i sized lt = omega arith

pub assembled : (P : Fragment → Type 0) (k : Kept) → IsOf P k → is_whole k ≡ true → IsAssembled P k
assembled P k o whole =
    let all = AllPass-from_list_all (λ (b : Bool). b) k.came whole in
    record {
      octets = o.octets;
      each = λ i lt.
          let j : i / k.fragment_size < count_of k.sample_size k.fragment_size =
          below i (count_of k.sample_size k.fragment_size) k.fragment_size o.sized
          (in_all k.sample_size k.fragment_size i o.sized lt) in
          o.each i lt (all (i / k.fragment_size) false (omega (arith, j, o.came)));
      opening = o.opening (all 0 false (omega (arith, o.some, o.came)));
    }

-- ---- a writer's numbers

-- what came of a writer comes to its row
pub record Comes (P Q : Fragment → Type 0) (f : Fragment) : Type 0 where
  pub valid : IsFragment f
  pub later : (g : Fragment) → P g → Q g
  pub itself : Q f

pub heard_of : (P Q : Fragment → Type 0) (kept : List Kept) (f : Fragment) (timestamp : Option ℕ) → Comes P Q f
    → All (IsOf P) kept → Leaves (IsOf Q) f.writer_sn kept (heard kept f timestamp)
heard_of P Q kept f timestamp x all =
    let a : Adds P Q f = record { later = x.later; itself = x.itself } in
    heard_leaves (IsOf P) (IsOf Q) kept f timestamp all (IsOf-more P Q x.later)
    (λ k o e sn. IsOf-added P Q f k timestamp a x.valid o e sn) (IsOf-nothing P f x.valid)
