-- The answers to an ACKNACK go in 32 packets at most, or in 256 where values may be longer than usual.
use Rattle.std.proofs.Common.{◌≡◌, ◌≢◌, ℕ, zero, suc, ◌+◌, ◌*◌, ◌≤◌, ◌==◌, Bool, true, false, cond, List, [], ◌∷◌, ◌++◌, length, filter, refl, ap, arith, length-append}
use Rattle.std.specs.Prelude.{if◌then◌else◌, nat_le}
use Rattle.dds_base.specs.Kept.{numbers_from}
use Rattle.rtps_sets.specs.NumberSet.{NumberSet}
use Rattle.rtps_writer.specs.declared.answer.Answer.{Answer}
use Rattle.rtps_writer.specs.declared.answer.Answer.TheVariants.{Data, Gap}
use Rattle.rtps_writer.specs.Answers.{gap_before, answer_before, answers_to, is_requested, requested}
use Rattle.dds_protocol.specs.Protocol.{AreGrouped, answers_per}
use Rattle.dds_protocol.specs.Repair.{packets_for}

-- an answer to one more number is one more answer at most

joined_few : (b : Bool) (n first last : ℕ) (rest : List Answer)
    → length (if b then Gap n last ∷ rest else Gap n n ∷ Gap first last ∷ rest) ≤ suc (suc (length rest))
joined_few true n first last rest = omega arith
joined_few false n first last rest = omega arith

gap_few : (n : ℕ) (answers : List Answer) → length (gap_before n answers) ≤ suc (length answers)
gap_few n [] = omega arith
gap_few n (Data m ∷ rest) = omega arith
gap_few n (Gap first last ∷ rest) = joined_few (first == n + 1) n first last rest

before_few : (b : Bool) (n : ℕ) (answers : List Answer) → length (answer_before b n answers) ≤ suc (length answers)
before_few true n answers = omega arith
before_few false n answers = gap_few n answers

answers_few : (kept : ℕ → Bool) (ns : List ℕ) → length (answers_to kept ns) ≤ length ns
answers_few kept [] = omega arith
answers_few kept (n ∷ ns) =
    let one = before_few (kept n) n (answers_to kept ns) in let rest = answers_few kept ns in omega (arith, one, rest)

-- a set asks for 256 numbers at most

pub filter_few : (p : ℕ → Bool) (ns : List ℕ) → length (filter p ns) ≤ length ns
filter_few p [] = omega arith
filter_few p (n ∷ ns) = by (p n) (filter_few p ns)
  where
    by : (b : Bool) → length (filter p ns) ≤ length ns → length (cond b (n ∷ filter p ns) (filter p ns))
        ≤ suc (length ns)
    by true h = omega (arith, h)
    by false h = omega (arith, h)

pub count_numbers : (from count : ℕ) → length (numbers_from from count) ≡ count
count_numbers from zero = refl
count_numbers from (suc count) = ap suc (count_numbers (from + 1) count)

-- each group but the last is full

none_grouped : (per : ℕ) (groups : List (List Answer)) → AreGrouped per [] groups → length groups ≡ 0
none_grouped per [] h = refl
none_grouped per (g ∷ gs) h =
    let same =
    ap (λ (xs : List Answer). length xs) h.1 in let sum = length-append g h.0 in let some = h.2 in
    absurd (omega (arith, same, sum, some))

groups_few : (answers : List Answer) (groups : List (List Answer)) → AreGrouped 8 answers groups
    → length groups * 8 ≤ length answers + 7
groups_few answers [] h = omega arith
groups_few answers (g ∷ gs) h = by h.0 h.1 h.4 h.5 (groups_few h.0 gs h.5)
  where
    by : (rest : List Answer) → answers ≡ g ++ rest → (rest ≢ [] → length g ≡ 8) → AreGrouped 8 rest gs
        → length gs * 8 ≤ length rest + 7 → suc (length gs) * 8 ≤ length answers + 7
    by [] is full grouped later =
        let none = none_grouped 8 gs grouped in
        let same = ap (λ (xs : List Answer). length xs) is in
        let sum = length-append g [] in
        let some = h.2 in omega (arith, none, same, sum, some)
    by (a ∷ rest) is full grouped later =
        let eight = full (λ e. let n = ap (λ (xs : List Answer). length xs) e in omega (arith, n)) in
        let same = ap (λ (xs : List Answer). length xs) is in
        let sum = length-append g (a ∷ rest) in omega (arith, eight, same, sum, later)

-- none is empty
groups_within : (per : ℕ) (answers : List Answer) (groups : List (List Answer)) → AreGrouped per answers groups
    → length groups ≤ length answers
groups_within per answers [] h = omega arith
groups_within per answers (g ∷ gs) h =
    let same = ap (λ (xs : List Answer). length xs) h.1 in
    let sum = length-append g h.0 in
    let some = h.2 in
    omega (arith, same, sum, some, groups_within per h.0 gs h.5)

pub few_groups : (most : ℕ) (kept : ℕ → Bool) (set : NumberSet) (from to : ℕ) (groups : List (List Answer))
    → AreGrouped (answers_per most) (answers_to kept (requested set from to)) groups
    → length groups ≤ packets_for most
few_groups most kept set from to groups = by (nat_le most 1024)
  where
    asked : length (answers_to kept (requested set from to)) ≤ 256
    asked =
        let few = answers_few kept (requested set from to) in
        let some = filter_few (is_requested set from to) (numbers_from set.base 256) in
        let all = count_numbers set.base 256 in
        omega (arith, few, some, all)

    by : (b : Bool) → AreGrouped (if b then 8 else 1) (answers_to kept (requested set from to)) groups
        → length groups ≤ (if b then 32 else 256)
    by true h = let few = groups_few (answers_to kept (requested set from to)) groups h in omega (arith, few, asked)
    by false h =
        let few = groups_within 1 (answers_to kept (requested set from to)) groups h in omega (arith, few, asked)
