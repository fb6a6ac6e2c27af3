-- Fragments have a place in what is kept of their payload.
use Rattle.std.proofs.Common.{◌≡◌, ℕ, zero, suc, ◌+◌, ◌-◌, ◌*◌, ◌/◌, ◌≤◌, Bool, true, false, ◌&&◌, eqb, List, ◌++◌, length, take, drop, replicate, refl, sym, ap, ◌∙◌, arith}
use Rattle.std.specs.List.{list_all}
use Rattle.std.proofs.Math.Nat.{mul-le-mul_left}
use Rattle.std.proofs.lemmas.Bool.{eqb-true}
use Rattle.std.proofs.lemmas.List.{take_all, length-replicate, length-append, length-take, length-drop}
use Rattle.std.proofs.lemmas.List.Folds.{list_all-append}
use Rattle.rtps_wire.proofs.TestLaws.{both_hold}
use Rattle.rtps_fragments.specs.DataFrag.{Fragment, IsFragment, count_of, place_of}
use Rattle.rtps_fragments.specs.Keeping.{Kept, IsKept, is_alike, overlaid}

-- of so many fragments none begins beyond the payload
place_fits : (first count size whole : ℕ) → 1 ≤ first → 1 ≤ count → 1 ≤ size
    → first - 1 + count ≤ (whole + size - 1) / size → (first - 1) * size ≤ whole
place_fits first count size whole a b s within =
    let q : ℕ = (whole + size - 1) / size in
    let d : ℕ = first - 1 in
    let low : d + 1 ≤ q = omega arith in
    let more = mul-le-mul_left size low in
    let part : size * q ≤ whole + size - 1 = omega arith in
    omega (arith, more, part)

pub fits_whole : (f : Fragment) → IsFragment f → place_of f + length f.octets ≤ f.sample_size
fits_whole f v =
    let place =
    place_fits f.fragment_starting_num f.fragments_in_submessage f.fragment_size f.sample_size v.first v.some v.sized
    v.within in
    omega (arith, v.extent, place)

pub same_size : (k : Kept) (f : Fragment) → is_alike k f ≡ true → k.fragment_size ≡ f.fragment_size
same_size k f e =
    eqb-true _ _ (both_hold (eqb k.fragment_size f.fragment_size) (eqb k.sample_size f.sample_size) e).0

pub same_whole : (k : Kept) (f : Fragment) → is_alike k f ≡ true → k.sample_size ≡ f.sample_size
same_whole k f e =
    eqb-true _ _ (both_hold (eqb k.fragment_size f.fragment_size) (eqb k.sample_size f.sample_size) e).1

pub octets_fit : (k : Kept) (f : Fragment) → IsKept k → IsFragment f → is_alike k f ≡ true
    → place_of f + length f.octets ≤ length k.octets
octets_fit k f kept v alike = omega (arith, fits_whole f v, same_whole k f alike, kept.octets)

pub marks_fit : (k : Kept) (f : Fragment) → IsKept k → IsFragment f → is_alike k f ≡ true
    → f.fragment_starting_num - 1 + f.fragments_in_submessage ≤ length k.came
marks_fit k f kept v alike =
    let same : count_of k.sample_size k.fragment_size ≡ count_of f.sample_size f.fragment_size =
    rw (same_size k f alike, same_whole k f alike) refl in
    omega (arith, v.within, same, kept.came)

pub overlaid-length : {A : Type 0} (xs : List A) (place : ℕ) (ys : List A) → place + length ys ≤ length xs
    → length (overlaid xs place ys) ≡ length xs
overlaid-length xs place ys le =
    omega (
      arith,
      length-append (take place xs ++ ys) (drop (place + length ys) xs),
      length-append (take place xs) ys,
      length-take place xs,
      length-drop (place + length ys) xs,
    )

-- ---- all came

all_true : (n : ℕ) → list_all (λ b. b) (replicate n true) ≡ true
all_true zero = refl
all_true (suc n) = all_true n

and_true : (a : Bool) → (a && true) ≡ a
and_true true = refl
and_true false = refl

pub all_but : (came : List Bool) (place count : ℕ)
    → list_all (λ b. b) (overlaid came place (replicate count true))
    ≡ (list_all (λ b. b) (take place came) && list_all (λ b. b) (drop (place + count) came))
all_but came place count =
    let n = length-replicate count true in
    list_all-append (λ b. b) (take place came ++ replicate count true) (drop (place + length (replicate count true)) came)
    ∙ rw (
      list_all-append (λ b. b) (take place came) (replicate count true),
      all_true count,
      n,
      and_true (list_all (λ b. b) (take place came)),
    ) refl

pub all_with : (came : List Bool) (place count : ℕ) (front back : Bool) → place + count ≤ length came
    → front ≡ list_all (λ b. b) (take place came) → front ≡ true
    → back ≡ list_all (λ b. b) (take (length came - (place + count)) (drop (place + count) came))
    → back ≡ list_all (λ b. b) (overlaid came place (replicate count true))
all_with came place count front back le f true-is b =
    let rest : take (length came - (place + count)) (drop (place + count) came) ≡ drop (place + count) came =
    take_all (length came - (place + count)) (drop (place + count) came) (omega (arith, length-drop (place + count) came)) in
    let first : list_all (λ b. b) (take place came) ≡ true = sym f ∙ true-is in
    let last : back ≡ list_all (λ b. b) (drop (place + count) came) = b ∙ ap (λ (z : List Bool). list_all (λ b. b) z) rest in
    last ∙ sym (all_but came place count ∙ rw first refl)
