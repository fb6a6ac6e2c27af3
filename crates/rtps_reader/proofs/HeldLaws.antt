-- The changes that are held, each at its place, and how many they are.
use Rattle.std.proofs.Common.{◌≡◌, ℕ, zero, suc, Bool, ◌<◌, ◌+◌, ◌-◌, ◌%◌, true, false, cond, eqb, List, length, get_or, set, replicate, Option, None, Some, is_some, refl, inl, inr, sym, ap, ◌∙◌, subst, arith, length-set, get_or-set_same, get_or-set_other}
use Rattle.std.specs.Prelude.{◌⊎◌, [], IsSome}
use Rattle.std.proofs.lemmas.Bool.{cases_eq, eq-eqb, ne_eqb}
use Rattle.std.proofs.lemmas.List.{get_or_read}
use Rattle.std.proofs.lemmas.List.Sums.{sum_by-cons, sum_by-set}
use Rattle.dds_base.specs.declared.change.Change.{Change}
use Rattle.rtps_reader.specs.HeldChanges.{held_at, count_held, HasPlaces, ArePlaces}

pub nothing_at : {X : Type 0} (x : X) (n k : ℕ) → get_or (replicate n x) k x ≡ x
nothing_at x zero k = refl
nothing_at x (suc n) zero = refl
nothing_at x (suc n) (suc k) = nothing_at x n k

pub none_counted : (n : ℕ) → count_held (replicate n None) ≡ 0
none_counted zero = refl
none_counted (suc n) =
    let more = sum_by-cons (λ (o : Option Change). cond (is_some o) 1 0) None (replicate n None) in
    let rest = none_counted n in
    omega (arith, more, rest)

-- one change more, at a place where none was
pub counted_more : (places : List (Option Change)) (at : ℕ) (change : Change) → at < length places
    → get_or places at None ≡ None → count_held (set places at (Some change)) ≡ count_held places + 1
counted_more places at change lt free =
    let more = sum_by-set (λ (o : Option Change). cond (is_some o) 1 0) places at (Some change) None lt in
    let was : ◌≡◌ {A = ℕ} (cond (is_some (get_or places at None)) 1 0) 0 =
    ap (λ (o : Option Change). cond (is_some o) 1 0) free in
    omega (arith, more, was)

-- one change less
pub counted_less : (places : List (Option Change)) (at : ℕ) (change : Change) → at < length places
    → get_or places at None ≡ Some change → count_held (set places at None) + 1 ≡ count_held places
counted_less places at change lt is =
    let less = sum_by-set (λ (o : Option Change). cond (is_some o) 1 0) places at None None lt in
    let was : ◌≡◌ {A = ℕ} (cond (is_some (get_or places at None)) 1 0) 1 =
    ap (λ (o : Option Change). cond (is_some o) 1 0) is in
    omega (arith, less, was)

-- the place of a number is written, and all others stay
pub each_place : (places : List (Option Change)) (at number n : ℕ) (o : Option Change) → length places ≡ 256
    → at ≡ number % 256 → held_at (set places at o) n ≡ cond (eqb (n % 256) (number % 256)) o (held_at places n)
each_place places at number n o width is = by (cases_eq (n % 256) (number % 256))
  where
    by : (n % 256 ≡ number % 256) ⊎ (n % 256 ≡ number % 256 → ⊥)
        → held_at (set places at o) n ≡ cond (eqb (n % 256) (number % 256)) o (held_at places n)
    by (inl same) =
        rw (is, same, eq-eqb (number % 256) (number % 256) refl)
        (get_or-set_same places (number % 256) o None (omega (arith, width)))
    by (inr other) =
        rw (is, ne_eqb (n % 256) (number % 256) other)
        (get_or-set_other places (number % 256) (n % 256) o None other)

-- what stands at the place of a number in what the fields are, and in what they are seen as
pub at_place : (inside view : List (Option Change)) (at number : ℕ) (o : Option Change) → inside ≡ view
    → at ≡ number % 256 → held_at view number ≡ o → get_or inside at None ≡ o
at_place inside view at number o is place held =
    ap (λ (places : List (Option Change)). get_or places at None) is
    ∙ (ap (λ (k : ℕ). get_or view k None) place ∙ held)

pub held_there : (inside view : List (Option Change)) (at number : ℕ) (o : Option Change) → inside ≡ view
    → at ≡ number % 256 → get_or inside at None ≡ o → held_at view number ≡ o
held_there inside view at number o is place found =
    ap (λ (k : ℕ). get_or view k None) (sym place)
    ∙ (ap (λ (places : List (Option Change)). get_or places at None) (sym is) ∙ found)

-- the place of a number is written, as the places are seen
pub each_seen : (inside view : List (Option Change)) (at number n : ℕ) (o : Option Change) → inside ≡ view
    → length inside ≡ 256 → at ≡ number % 256
    → held_at (set inside at o) n ≡ cond (eqb (n % 256) (number % 256)) o (held_at view n)
each_seen inside view at number n o is width place =
    each_place inside at number n o width place
    ∙ ap (λ (places : List (Option Change)). cond (eqb (n % 256) (number % 256)) o (held_at places n)) is

pub are_more : (places : List (Option Change)) (count at number : ℕ) (change : Change) → ArePlaces places count
    → length places ≡ 256 → at ≡ number % 256 → get_or places at None ≡ None
    → ArePlaces (set places at (Some change)) (count + 1)
are_more places count at number change are width place free =
    let counted = are.counted in
    let more = counted_more places at change (omega (arith, width, place)) free in
    record { width = inr (length-set places at (Some change) ∙ width); counted = omega (arith, counted, more) }

pub are_less : (places : List (Option Change)) (count at number : ℕ) (change : Change) → ArePlaces places count
    → length places ≡ 256 → at ≡ number % 256 → get_or places at None ≡ Some change
    → ArePlaces (set places at None) (count - 1)
are_less places count at number change are width place found =
    let counted = are.counted in
    let less = counted_less places at change (omega (arith, width, place)) found in
    record { width = inr (length-set places at None ∙ width); counted = omega (arith, counted, less) }

-- where one is held, or there is one place, there are all
pub all_places : (places view : List (Option Change)) (count number : ℕ) → places ≡ view → ArePlaces places count
    → IsSome (held_at view number) → length places ≡ 256
all_places places view count number is are some = by are.width
  where
    by : (places ≡ []) ⊎ HasPlaces places → length places ≡ 256
    by (inl none) = absurd (let e : false ≡ true =
        subst (λ (ps : List (Option Change)). is_some (held_at ps number) ≡ true) (sym is ∙ none) some in cc)
    by (inr all) = all

pub all_or_none : (places : List (Option Change)) (count : ℕ) → ArePlaces places count → (length places ≡ 0 → ⊥)
    → length places ≡ 256
all_or_none places count are ne = by are.width
  where
    by : (places ≡ []) ⊎ HasPlaces places → length places ≡ 256
    by (inl none) = absurd (ne (ap (λ (ps : List (Option Change)). length ps) none))
    by (inr all) = all

-- what was read at the place of a number is a change
pub read_some : (places : List (Option Change)) (at number : ℕ) (read : Option Change) (change : Change)
    → length places ≡ 256 → at ≡ number % 256 → read ≡ get_or places at read → Some change ≡ read
    → get_or places at None ≡ Some change
read_some places at number read change width place is some =
    sym (get_or_read places at read (omega (arith, width, place)) is None) ∙ sym some

-- where a change is held, what was read is one
pub read_none : (inside view : List (Option Change)) (at number : ℕ) (read : Option Change) → inside ≡ view
    → length inside ≡ 256 → at ≡ number % 256 → read ≡ get_or inside at read → None ≡ read
    → is_some (held_at view number) ≡ true → ⊥
read_none inside view at number read is width place found none some =
    let empty : held_at view number ≡ None =
    held_there inside view at number None is place
    (sym (get_or_read inside at read (omega (arith, width, place)) found None) ∙ sym none) in
    let e : false ≡ true = sym (ap (λ (o : Option Change). is_some o) empty) ∙ some in cc

-- where no change is held at the place of a number, it may be emptied
pub empty_already : (places : List (Option Change)) (number n : ℕ) → is_some (held_at places number) ≡ false
    → held_at places n ≡ cond (eqb (n % 256) (number % 256)) None (held_at places n)
empty_already places number n none = by (cases_eq (n % 256) (number % 256))
  where
    nothing : (o : Option Change) → is_some o ≡ false → o ≡ None
    nothing None is = refl
    nothing (Some change) is = absurd (let e : true ≡ false = is in cc)

    by : (n % 256 ≡ number % 256) ⊎ (n % 256 ≡ number % 256 → ⊥)
        → held_at places n ≡ cond (eqb (n % 256) (number % 256)) None (held_at places n)
    by (inl same) =
        ap (λ (k : ℕ). get_or places k None) same
        ∙ (nothing (held_at places number) none
        ∙ sym (ap (λ (b : Bool). cond b None (held_at places n)) (eq-eqb (n % 256) (number % 256) same)))
    by (inr other) =
        sym (ap (λ (b : Bool). cond b None (held_at places n)) (ne_eqb (n % 256) (number % 256) other))

-- all places, as they are seen
pub seen_width : (inside view : List (Option Change)) → inside ≡ view → HasPlaces view → length inside ≡ 256
seen_width inside view is width = ap (λ (ps : List (Option Change)). length ps) is ∙ width
