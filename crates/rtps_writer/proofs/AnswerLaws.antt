-- What a reader that asks for changes is answered.
use Rattle.std.proofs.Common.{◌≡◌, ℕ, zero, suc, ◌+◌, ◌-◌, ◌≤◌, ◌<◌, ◌^◌, min, Bool, true, false, ◌&&◌, cond, List, [], ◌∷◌, refl, ap, sym, ◌∙◌, arith}
use Rattle.std.specs.Prelude.{filter, nat_le}
use Rattle.std.proofs.lemmas.Bool.{leb-true}
use Rattle.dds_base.specs.Kept.{numbers_from}
use Rattle.rtps_sets.specs.NumberSet.{NumberSet, has_number}
use Rattle.rtps_writer.specs.declared.answer.Answer.{Answer}
use Rattle.rtps_writer.specs.Answers.{answer_before, answers_to, is_requested, requested}

-- the members from this place of the set on
abbrev pub requested_from : ℕ → NumberSet → ℕ → ℕ → List ℕ
requested_from place set from to = filter (is_requested set from to) (numbers_from (set.base + place) (256 - place))

filter_none : (p : ℕ → Bool) (n count : ℕ) → ((k : ℕ) → n ≤ k → p k ≡ false) → filter p (numbers_from n count) ≡ []
filter_none p n zero none = refl
filter_none p n (suc count) none =
    ap (λ (b : Bool). cond b (n ∷ filter p (numbers_from (n + 1) count)) (filter p (numbers_from (n + 1) count)))
    (none n (omega arith))
    ∙ filter_none p (n + 1) count (λ k le. none k (omega arith))

-- past the last member nothing is requested
pub nothing-past : (place : ℕ) (set : NumberSet) (from to : ℕ)
    → ((n : ℕ) → set.base + place ≤ n → has_number set n ≡ false) → requested_from place set from to ≡ []
nothing-past place set from to past =
    filter_none (is_requested set from to) (set.base + place) (256 - place)
    (λ k le. ap (λ (b : Bool). b && (nat_le from k && nat_le k to)) (past k le))

-- one place more, whose number is requested or not
pub one-more : (place : ℕ) (set : NumberSet) (from to : ℕ) (b : Bool) → place < 256
    → is_requested set from to (set.base + place) ≡ b
    → requested_from place set from to
    ≡ cond b ((set.base + place) ∷ requested_from (place + 1) set from to) (requested_from (place + 1) set from to)
one-more place set from to b lt is =
    let left : 256 - place ≡ suc (256 - (place + 1)) = omega arith in
    let next : set.base + place + 1 ≡ set.base + (place + 1) = omega arith in
    ap (λ (k : ℕ). filter (is_requested set from to) (numbers_from (set.base + place) k)) left
    ∙ (ap (λ (v : Bool). cond v
    ((set.base + place) ∷ filter (is_requested set from to)
    (numbers_from (set.base + place + 1) (256 - (place + 1))))
    (filter (is_requested set from to) (numbers_from (set.base + place + 1) (256 - (place + 1))))) is
    ∙ ap (λ (k : ℕ). cond b
    ((set.base + place) ∷ filter (is_requested set from to) (numbers_from k (256 - (place + 1))))
    (filter (is_requested set from to) (numbers_from k (256 - (place + 1))))) next)

-- all places
pub from-first : (set : NumberSet) (from to : ℕ) → requested_from 0 set from to ≡ requested set from to
from-first set from to =
    let base : set.base + 0 ≡ set.base = omega arith in
    ap (λ (k : ℕ). filter (is_requested set from to) (numbers_from k 256)) base

pub third_of : (a b c : Bool) → (a && (b && c)) ≡ true → c ≡ true
third_of true true c h = h
third_of true false c h = absurd cc
third_of false b c h = absurd cc

third_fails : (a b c : Bool) → c ≡ false → (a && (b && c)) ≡ false
third_fails true true c h = h
third_fails true false c h = refl
third_fails false b c h = refl

-- what is requested lies up to the last number
pub requested-within : (set : NumberSet) (from to n : ℕ) → is_requested set from to n ≡ true → n ≤ to
requested-within set from to n h = leb-true n to (third_of (has_number set n) (nat_le from n) (nat_le n to) h)

-- a member that lies between is requested, and what does not lie between is not; the last number has another name
pub requested-at : (set : NumberSet) (from last to n : ℕ) (answer : Bool) → last ≡ to
    → answer ≡ (nat_le from n && nat_le n last) → answer ≡ true → has_number set n ≡ true
    → is_requested set from to n ≡ true
requested-at set from last to n answer same tests is member =
    ap (λ (b : Bool). b && (nat_le from n && nat_le n to)) member
    ∙ (ap (λ (k : ℕ). nat_le from n && nat_le n k) (sym same) ∙ (sym tests ∙ is))

neither : (a b : Bool) → b ≡ false → (a && b) ≡ false
neither true b is = is
neither false b is = refl

pub not-requested-at : (set : NumberSet) (from last to n : ℕ) (answer : Bool) → last ≡ to
    → answer ≡ (nat_le from n && nat_le n last) → answer ≡ false → is_requested set from to n ≡ false
not-requested-at set from last to n answer same tests is =
    neither (has_number set n) (nat_le from n && nat_le n to)
    (ap (λ (k : ℕ). nat_le from n && nat_le n k) (sym same) ∙ (sym tests ∙ is))

-- a number that lies up to the last one is the member that it was made of
pub member-here : (set : NumberSet) (place number from last : ℕ) (answer : Bool)
    → number ≡ min (set.base + place) (2 ^ 64 - 1) → last ≤ 2 ^ 48 → answer ≡ (nat_le from number && nat_le number last)
    → answer ≡ true → has_number set (set.base + (place + 1) - 1) ≡ true → has_number set number ≡ true
member-here set place number from last answer at few tests is member =
    let within : number ≤ last = leb-true number last (second (nat_le from number) (nat_le number last) (sym tests ∙ is)) in
    let here : number ≡ set.base + (place + 1) - 1 = omega (arith, at, within, few) in
    ap (λ (n : ℕ). has_number set n) here ∙ member
  where
    second : (a b : Bool) → (a && b) ≡ true → b ≡ true
    second true b h = h
    second false b h = absurd cc

-- numbers of which none is a member are left out
pub none-between : (set : NumberSet) (from to bits place : ℕ) → bits ≤ place → place ≤ 256
    → ((n : ℕ) → set.base + bits ≤ n → n < set.base + place → has_number set n ≡ false)
    → requested_from bits set from to ≡ requested_from place set from to
none-between set from to bits place le most none = over (place - bits) bits (omega (arith, le)) none
  where
    over : (count at : ℕ) → at + count ≡ place
        → ((n : ℕ) → set.base + at ≤ n → n < set.base + place → has_number set n ≡ false)
        → requested_from at set from to ≡ requested_from place set from to
    over zero at is left = ap (λ (k : ℕ). requested_from k set from to) (omega (arith, is))
    over (suc count) at is left =
        one-more at set from to false (omega (arith, is, most))
        (ap (λ (b : Bool). b && (nat_le from (set.base + at) && nat_le (set.base + at) to))
        (left (set.base + at) (omega arith) (omega (arith, is))))
        ∙ over count (at + 1) (omega (arith, is)) (λ n low high. left n (omega (arith, low)) high)

-- the answers from one place earlier on, whose number is requested; a number past 2^64 - 1 is none
pub step-requested : (kept : ℕ → Bool) (place number : ℕ) (set : NumberSet) (from to : ℕ) (b : Bool)
    (answers : List Answer)
    → 0 < place → place ≤ 256 → number ≡ min (set.base + (place - 1)) (2 ^ 64 - 1) → to ≤ 2 ^ 48
    → is_requested set from to number ≡ true
    → answers ≡ answers_to kept (requested_from place set from to) → b ≡ kept number
    → answer_before b number answers ≡ answers_to kept (requested_from (place - 1) set from to)
step-requested kept place number set from to b answers some most at few is rest is_kept =
    let within = requested-within set from to number is in
    let here : number ≡ set.base + (place - 1) = omega (arith, at, within) in
    let next : place - 1 + 1 ≡ place = omega arith in
    let is_here = ap (λ (n : ℕ). is_requested set from to n) (sym here) ∙ is in
    let more = one-more (place - 1) set from to true (omega arith) is_here
    ∙ ap (λ (k : ℕ). (set.base + (place - 1)) ∷ requested_from k set from to) next in
    ap (λ (v : Bool). answer_before v number answers) is_kept
    ∙ (ap (λ (rs : List Answer). answer_before (kept number) number rs) rest
    ∙ (ap (λ (n : ℕ). answer_before (kept n) n (answers_to kept (requested_from place set from to))) here
    ∙ ap (λ (ns : List ℕ). answers_to kept ns) (sym more)))

other_number : (set : NumberSet) (from to number at : ℕ) (b : Bool) → nat_le at to ≡ b → number ≡ min at (2 ^ 64 - 1)
    → to ≤ 2 ^ 48 → is_requested set from to number ≡ false → is_requested set from to at ≡ false
other_number set from to number at true within is few h =
    let le = leb-true at to within in
    let same : at ≡ number = omega (arith, is, le) in
    ap (λ (n : ℕ). is_requested set from to n) same ∙ h
other_number set from to number at false within is few h =
    third_fails (has_number set at) (nat_le from at) (nat_le at to) within

-- the same, whose number is not requested
pub step-other : (kept : ℕ → Bool) (place number : ℕ) (set : NumberSet) (from to : ℕ) (answers : List Answer)
    → 0 < place → place ≤ 256 → number ≡ min (set.base + (place - 1)) (2 ^ 64 - 1) → to ≤ 2 ^ 48
    → is_requested set from to number ≡ false
    → answers ≡ answers_to kept (requested_from place set from to)
    → answers ≡ answers_to kept (requested_from (place - 1) set from to)
step-other kept place number set from to answers some most at few is rest =
    let next : place - 1 + 1 ≡ place = omega arith in
    let not_here = other_number set from to number (set.base + (place - 1))
    (nat_le (set.base + (place - 1)) to) refl at few is in
    let more = one-more (place - 1) set from to false (omega arith) not_here
    ∙ ap (λ (k : ℕ). requested_from k set from to) next in
    rest ∙ ap (λ (ns : List ℕ). answers_to kept ns) (sym more)
