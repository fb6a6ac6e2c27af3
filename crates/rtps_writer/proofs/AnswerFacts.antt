-- What is so of each answer to an ACKNACK: a DATA names a number that is kept and owed, a GAP names numbers that are not,
-- and all lie from where it is answered to the last number. Each member of the set there is answered.
use Rattle.std.proofs.Common.{◌≡◌, ℕ, zero, suc, ◌+◌, ◌-◌, ◌≤◌, ◌<◌, Bool, true, false, not, cond, ◌&&◌, ◌||◌, ◌⊎◌, inl, inr, List, [], ◌∷◌, ◌++◌, length, get_or, set, max, ℤ, Option, slice_get, None, refl, ap, sym, subst, ◌∙◌, arith}
use Rattle.std.specs.Prelude.{nat_le, nat_lt, ◌==◌, is_some, if◌then◌else◌}
use Rattle.std.specs.List.{All, filter, list_any, remove}
use Rattle.std.proofs.lemmas.Bool.{leb-true, le-leb, lt-ltb}
use Rattle.std.proofs.lemmas.Bool.Decides.{nat_tests}
use Rattle.std.proofs.lemmas.List.Elements.{All-cons, All-head, All-nil, All-replicate, All-tail, All-weaker, filter_passes}
use Rattle.std.proofs.lemmas.List.Folds.{list_any_at}
use Rattle.dds_base.specs.declared.change.Change.{Change}
use Rattle.dds_base.specs.declared.qos.HistoryQos.{HistoryQos}
use Rattle.dds_base.specs.Kept.{WriterHistory, change_at, is_awaited, is_dropped, is_kept, numbers_from}
use Rattle.rtps_sets.specs.NumberSet.{NumberSet, has_number}
use Rattle.rtps_writer.proofs.AnswerLaws.{third_of}
use Rattle.rtps_writer.specs.declared.answer.Answer.{Answer}
use Rattle.rtps_writer.specs.declared.answer.Answer.TheVariants.{Data, Gap}
use Rattle.rtps_writer.specs.Acknack.{after_acknack, answers_after, applied, asked_from, has_for, is_applied}
use Rattle.rtps_writer.specs.Answers.{GapsAre, IsBetween, IsRight, is_answer_to, answers_to, answer_before, gap_before, is_requested, requested}
use Rattle.rtps_writer.specs.WriterState.{WriterState, acknowledged_by, history_of, joined, last_of, left, opening, owed_from}

-- a GAP of one number
one_right : (kept : ℕ → Bool) (IsAsked : ℕ → Type 0) (n : ℕ) → kept n ≡ false → IsAsked n
    → IsRight kept IsAsked (Gap n n)
one_right kept IsAsked n is asked = (
  omega arith,
  λ k from to.
      let same : n ≡ k = omega arith in (ap kept (sym same) ∙ is, subst (λ (x : ℕ). IsAsked x) same asked),
)

-- a GAP that begins one number earlier
longer_right : (kept : ℕ → Bool) (IsAsked : ℕ → Type 0) (n first last : ℕ) → kept n ≡ false → IsAsked n → first ≡ n + 1
    → IsRight kept IsAsked (Gap first last) → IsRight kept IsAsked (Gap n last)
longer_right kept IsAsked n first last is asked next right = (
  omega (arith, right.0),
  λ k from to. either k from to (nat_le first k) refl,
)
  where
    either : (k : ℕ) → n ≤ k → k ≤ last → (b : Bool) → nat_le first k ≡ b → (kept k ≡ false) × IsAsked k
    either k from to true le = right.1 k (leb-true first k le) to
    either k from to false le = let same : n ≡ k = grind (arith, nat_tests) in
        (ap kept (sym same) ∙ is, subst (λ (x : ℕ). IsAsked x) same asked)

joined_right : (kept : ℕ → Bool) (IsAsked : ℕ → Type 0) (n first last : ℕ) (rest : List Answer) (b : Bool)
    → (first == n + 1) ≡ b → kept n ≡ false → IsAsked n
    → All (IsRight kept IsAsked) (Gap first last ∷ rest)
    → All (IsRight kept IsAsked) (if b then Gap n last ∷ rest else Gap n n ∷ Gap first last ∷ rest)
joined_right kept IsAsked n first last rest true next is asked right =
    let same : first ≡ n + 1 = grind (arith, nat_tests) in
    All-cons (IsRight kept IsAsked) (Gap n last) rest
    (longer_right kept IsAsked n first last is asked same
    (All-head (IsRight kept IsAsked) (Gap first last) rest right))
    (All-tail (IsRight kept IsAsked) (Gap first last) rest right)
joined_right kept IsAsked n first last rest false next is asked right =
    All-cons (IsRight kept IsAsked) (Gap n n) (Gap first last ∷ rest) (one_right kept IsAsked n is asked) right

gap_right : (kept : ℕ → Bool) (IsAsked : ℕ → Type 0) (n : ℕ) (answers : List Answer) → kept n ≡ false → IsAsked n
    → All (IsRight kept IsAsked) answers → All (IsRight kept IsAsked) (gap_before n answers)
gap_right kept IsAsked n [] is asked right =
    All-cons (IsRight kept IsAsked) (Gap n n) [] (one_right kept IsAsked n is asked) right
gap_right kept IsAsked n (Data m ∷ rest) is asked right =
    All-cons (IsRight kept IsAsked) (Gap n n) (Data m ∷ rest) (one_right kept IsAsked n is asked) right
gap_right kept IsAsked n (Gap first last ∷ rest) is asked right =
    joined_right kept IsAsked n first last rest (first == n + 1) refl is asked right

before_right : (kept : ℕ → Bool) (IsAsked : ℕ → Type 0) (n : ℕ) (answers : List Answer) (b : Bool) → kept n ≡ b
    → IsAsked n → All (IsRight kept IsAsked) answers → All (IsRight kept IsAsked) (answer_before b n answers)
before_right kept IsAsked n answers true is asked right =
    All-cons (IsRight kept IsAsked) (Data n) answers (is, asked) right
before_right kept IsAsked n answers false is asked right = gap_right kept IsAsked n answers is asked right

-- each answer is right, where each number is asked for
pub answers-right : (kept : ℕ → Bool) (IsAsked : ℕ → Type 0) (ns : List ℕ) → All IsAsked ns
    → All (IsRight kept IsAsked) (answers_to kept ns)
answers-right kept IsAsked [] asked = All-nil (IsRight kept IsAsked)
answers-right kept IsAsked (n ∷ ns) asked =
    before_right kept IsAsked n (answers_to kept ns) (kept n) refl (All-head IsAsked n ns asked)
    (answers-right kept IsAsked ns (All-tail IsAsked n ns asked))

-- ---- the answers to an ACKNACK

second_of : (a b c : Bool) → (a && (b && c)) ≡ true → b ≡ true
second_of true true c h = refl
second_of true false c h = absurd cc
second_of false b c h = absurd cc

first_of_both : (a b : Bool) → (a && b) ≡ true → a ≡ true
first_of_both true b h = refl
first_of_both false b h = absurd cc

requested-between : (set : NumberSet) (from to : ℕ) → All (IsBetween set from to) (requested set from to)
requested-between set from to =
    All-weaker (λ n. is_requested set from to n ≡ true) (IsBetween set from to)
    (λ n is. (
      leb-true from n (second_of (has_number set n) (nat_le from n) (nat_le n to) is),
      leb-true n to (third_of (has_number set n) (nat_le from n) (nat_le n to) is),
      first_of_both (has_number set n) (nat_le from n && nat_le n to) is,
    ))
    (requested set from to) (filter_passes (is_requested set from to) (numbers_from set.base 256))

-- Each answer is right: what a DATA names is kept and owed, what a GAP names is not, and each is a member that lies from
-- where the ACKNACK is answered to the last number.
pub answers_after-right : (s : WriterState) (reader base : ℕ) (set : NumberSet)
    → All (IsRight (has_for s reader) (IsBetween set (asked_from s reader base) (last_of s)))
    (answers_after s reader base set)
answers_after-right s reader base set =
    answers-right (has_for s reader) (IsBetween set (asked_from s reader base) (last_of s))
    (requested set (asked_from s reader base) (last_of s))
    (requested-between set (asked_from s reader base) (last_of s))

-- ---- what is not kept, and not acknowledged, is dropped

some_within : (cs : List Change) (i : ℕ) → i < length cs → is_some (slice_get cs i) ≡ true
some_within [] i lt = absurd (omega arith)
some_within (c ∷ cs) zero lt = refl
some_within (c ∷ cs) (suc i) lt = some_within cs i (omega arith)

some_change : (cs : List Change) (n : ℕ) → 0 < n → n ≤ length cs → is_some (change_at cs n) ≡ true
some_change cs n positive within =
    let test : nat_lt 0 n ≡ true = grind (arith, nat_tests) in
    ap (λ (b : Bool). is_some (if b then slice_get cs (n - 1) else None)) test ∙ some_within cs (n - 1) (omega arith)

middle_holds : (a b c : Bool) → a ≡ true → c ≡ true → (a && not b && c) ≡ false → b ≡ true
middle_holds true true c p q h = refl
middle_holds true false true p q h = absurd cc
middle_holds true false false p q h = absurd cc
middle_holds false b c p q h = absurd cc

-- a change that some reader has not acknowledged, and that is not kept, is dropped
pub unkept-is-dropped : (w : WriterHistory) (reader n : ℕ) → reader < length w.acknowledged
    → get_or w.acknowledged reader 0 ≤ n → 0 < n → n ≤ length w.changes
    → is_kept w n ≡ false → is_dropped w n ≡ true
unkept-is-dropped w reader n within from positive to unkept =
    middle_holds (is_some (change_at w.changes n)) (is_dropped w n) (is_awaited w n)
    (some_change w.changes n positive to)
    (list_any_at (λ a. nat_le a n) w.acknowledged reader 0 within
    (le-leb (get_or w.acknowledged reader 0) n from)) unkept

first_fails : (a b : Bool) → b ≡ true → (a && b) ≡ false → a ≡ false
first_fails true b is h = absurd cc
first_fails false b is h = refl

-- the reader needs no change of this number: it is dropped, or not owed, or acknowledged
abbrev pub NeedsNot : WriterState → ℕ → ℕ → Type 0
NeedsNot s reader n =
    (is_dropped (history_of s) n ≡ true) ⊎ (n < owed_from s reader) ⊎ (n < acknowledged_by s reader)

needs_not : (s : WriterState) (reader n : ℕ) → reader < length s.acknowledged → 0 < acknowledged_by s reader
    → n ≤ last_of s → has_for s reader n ≡ false → NeedsNot s reader n
needs_not s reader n within positive to unkept =
    by (nat_lt n (acknowledged_by s reader)) (nat_le (owed_from s reader) n) refl refl
  where
    by : (b c : Bool) → nat_lt n (acknowledged_by s reader) ≡ b → nat_le (owed_from s reader) n ≡ c
        → NeedsNot s reader n
    by true c below owed = inr (inr (grind (arith, nat_tests, below)))
    by false false below owed = inr (inl (grind (arith, nat_tests, owed)))
    by false true below owed =
        let from : acknowledged_by s reader ≤ n = grind (arith, nat_tests, below) in
        inl (unkept-is-dropped (history_of s) reader n within from (omega (arith, positive, from)) to
        (first_fails (is_kept (history_of s) n) (nat_le (owed_from s reader) n) owed unkept))

gaps_dropped : (s : WriterState) (reader base : ℕ) (set : NumberSet) (a : Answer) → reader < length s.acknowledged
    → 0 < acknowledged_by s reader
    → IsRight (has_for s reader) (IsBetween set (asked_from s reader base) (last_of s)) a
    → GapsAre (NeedsNot s reader) a
gaps_dropped s reader base set (Data n) within positive right = tt
gaps_dropped s reader base set (Gap first last) within positive right = λ n from to.
    let is = right.1 n from to in needs_not s reader n within positive is.1.1 is.0

-- each number of a GAP is one that the reader needs not, where numbers count from 1
pub answers_after-dropped : (s : WriterState) (reader base : ℕ) (set : NumberSet) → reader < length s.acknowledged
    → 0 < acknowledged_by s reader
    → All (GapsAre (NeedsNot s reader)) (answers_after s reader base set)
answers_after-dropped s reader base set within positive =
    All-weaker (IsRight (has_for s reader) (IsBetween set (asked_from s reader base) (last_of s)))
    (GapsAre (NeedsNot s reader))
    (λ a right. gaps_dropped s reader base set a within positive right) (answers_after s reader base set)
    (answers_after-right s reader base set)

-- ---- each member is answered, and nothing else

-- such a list has no GAP that ends before it begins
abbrev Whole : (ℕ → Bool) → List Answer → Type 0
Whole kept answers = All (IsRight kept (λ n. Unit {0})) answers

answers_whole : (kept : ℕ → Bool) (ns : List ℕ) → Whole kept (answers_to kept ns)
answers_whole kept ns = answers-right kept (λ n. Unit {0}) ns (λ k d lt. tt)

abbrev is_answered : ℕ → List Answer → Bool
is_answered n answers = list_any (is_answer_to n) answers

one_gap : (m n : ℕ) → (nat_le m n && nat_le n m) ≡ (m == n)
one_gap m n = grind (arith, nat_tests)

long_gap : (m n first last : ℕ) (rest : Bool) → first ≡ m + 1 → first ≤ last → ((nat_le m n && nat_le n last) || rest)
    ≡ ((m == n) || ((nat_le first n && nat_le n last) || rest))
long_gap m n first last true next le = long_or (nat_le m n && nat_le n last) (m == n) (nat_le first n && nat_le n last)
  where
    long_or : (a b c : Bool) → (a || true) ≡ (b || (c || true))
    long_or true true c = refl
    long_or true false true = refl
    long_or true false false = refl
    long_or false true c = refl
    long_or false false true = refl
    long_or false false false = refl
long_gap m n first last false next le = grind (arith, nat_tests)

answered_joined : (kept : ℕ → Bool) (m n first last : ℕ) (rest : List Answer) (b : Bool) → (first == m + 1) ≡ b
    → first ≤ last
    → is_answered n (if b then Gap m last ∷ rest else Gap m m ∷ Gap first last ∷ rest)
    ≡ ((m == n) || is_answered n (Gap first last ∷ rest))
answered_joined kept m n first last rest true next le =
    let same : first ≡ m + 1 = grind (arith, nat_tests) in
    long_gap m n first last (is_answered n rest) same le
answered_joined kept m n first last rest false next le =
    ap (λ (b : Bool). b || is_answered n (Gap first last ∷ rest)) (one_gap m n)

answered_gap : (kept : ℕ → Bool) (m n : ℕ) (answers : List Answer) → Whole kept answers
    → is_answered n (gap_before m answers) ≡ ((m == n) || is_answered n answers)
answered_gap kept m n [] whole = ap (λ (b : Bool). b || false) (one_gap m n)
answered_gap kept m n (Data k ∷ rest) whole = ap (λ (b : Bool). b || is_answered n (Data k ∷ rest)) (one_gap m n)
answered_gap kept m n (Gap first last ∷ rest) whole =
    answered_joined kept m n first last rest (first == m + 1) refl
    (All-head (IsRight kept (λ k. Unit {0})) (Gap first last) rest whole).0

answered_before : (kept : ℕ → Bool) (m n : ℕ) (answers : List Answer) (b : Bool) → Whole kept answers
    → is_answered n (answer_before b m answers) ≡ ((m == n) || is_answered n answers)
answered_before kept m n answers true whole = refl
answered_before kept m n answers false whole = answered_gap kept m n answers whole

answered-members : (kept : ℕ → Bool) (n : ℕ) (ns : List ℕ) → is_answered n (answers_to kept ns)
    ≡ list_any (λ m. m == n) ns
answered-members kept n [] = refl
answered-members kept n (m ∷ ns) =
    answered_before kept m n (answers_to kept ns) (kept m) (answers_whole kept ns)
    ∙ ap (λ (b : Bool). (m == n) || b) (answered-members kept n ns)

one_number : (p : ℕ → Bool) (k n last : ℕ) (rest : List ℕ) (b same : Bool) → p k ≡ b → (k == n) ≡ same → k < last
    → list_any (λ m. m == n) rest ≡ (p n && (nat_le (k + 1) n && nat_lt n last))
    → list_any (λ m. m == n) (cond b (k ∷ rest) rest) ≡ (p n && (nat_le k n && nat_lt n last))
one_number p k n last rest true true is at lt h =
    let same : k ≡ n = grind (arith, nat_tests) in
    let passes : p n ≡ true = ap p (sym same) ∙ is in
    let within : (nat_le k n && nat_lt n last) ≡ true = grind (arith, nat_tests) in
    ap (λ (v : Bool). v || list_any (λ m. m == n) rest) at
    ∙ sym (ap (λ (v : Bool). v && (nat_le k n && nat_lt n last)) passes ∙ within)
one_number p k n last rest false true is at lt h =
    let same : k ≡ n = grind (arith, nat_tests) in
    let fails : p n ≡ false = ap p (sym same) ∙ is in
    h ∙ (ap (λ (v : Bool). v && (nat_le (k + 1) n && nat_lt n last)) fails
    ∙ sym (ap (λ (v : Bool). v && (nat_le k n && nat_lt n last)) fails))
one_number p k n last rest true false is at lt h =
    let same : nat_le (k + 1) n ≡ nat_le k n = grind (arith, nat_tests) in
    ap (λ (v : Bool). v || list_any (λ m. m == n) rest) at ∙ (h ∙ ap (λ (v : Bool). p n && (v && nat_lt n last)) same)
one_number p k n last rest false false is at lt h =
    let same : nat_le (k + 1) n ≡ nat_le k n = grind (arith, nat_tests) in
    h ∙ ap (λ (v : Bool). p n && (v && nat_lt n last)) same

none_left : (b : Bool) (k n : ℕ) → false ≡ (b && (nat_le k n && nat_lt n (k + 0)))
none_left true k n = grind (arith, nat_tests)
none_left false k n = refl

members-numbers : (p : ℕ → Bool) (k count n : ℕ) → list_any (λ m. m == n) (filter p (numbers_from k count))
    ≡ (p n && (nat_le k n && nat_lt n (k + count)))
members-numbers p k zero n = none_left (p n) k n
members-numbers p k (suc count) n =
    let last : k + 1 + count ≡ k + suc count = omega arith in
    one_number p k n (k + suc count) (filter p (numbers_from (k + 1) count)) (p k) (k == n) refl refl (omega arith)
    (members-numbers p (k + 1) count n ∙ ap (λ (l : ℕ). p n && (nat_le (k + 1) n && nat_lt n l)) last)

within_members : (bs : List Bool) (i : ℕ) → get_or bs i false ≡ true → i < length bs
within_members [] i h = absurd cc
within_members (b ∷ bs) zero h = omega arith
within_members (b ∷ bs) (suc i) h = let lt = within_members bs i h in omega (arith, lt)

both_true : (a b : Bool) → a ≡ true → b ≡ true → (a && b) ≡ true
both_true true b e f = f
both_true false b e f = absurd cc

second_of_both : (a b : Bool) → (a && b) ≡ true → b ≡ true
second_of_both true b h = h
second_of_both false b h = absurd cc

in_places : (set : NumberSet) (from to n : ℕ) (b : Bool) → is_requested set from to n ≡ b → length set.members ≤ 256
    → (b && (nat_le set.base n && nat_lt n (set.base + 256))) ≡ b
in_places set from to n true is few =
    let member = first_of_both (has_number set n) (nat_le from n && nat_le n to) is in
    let above = first_of_both (nat_le set.base n) (get_or set.members (n - set.base) false) member in
    let base = leb-true set.base n above in
    let lt = within_members set.members (n - set.base)
    (second_of_both (nat_le set.base n) (get_or set.members (n - set.base) false) member) in
    both_true (nat_le set.base n) (nat_lt n (set.base + 256)) above
    (lt-ltb n (set.base + 256) (omega (arith, base, lt, few)))
in_places set from to n false is few = refl

-- a number is answered exactly if it is a member of the set that lies from one number to another
pub answers-complete : (kept : ℕ → Bool) (set : NumberSet) (from to n : ℕ) → length set.members ≤ 256
    → list_any (is_answer_to n) (answers_to kept (requested set from to)) ≡ is_requested set from to n
answers-complete kept set from to n few =
    let p : ℕ → Bool = is_requested set from to in
    answered-members kept n (requested set from to)
    ∙ (members-numbers p set.base 256 n ∙ in_places set from to n (p n) refl few)

-- so it is from where the ACKNACK is answered to the last number
pub answers_after-complete : (s : WriterState) (reader base : ℕ) (set : NumberSet) (n : ℕ) → length set.members ≤ 256
    → list_any (is_answer_to n) (answers_after s reader base set)
    ≡ is_requested set (asked_from s reader base) (last_of s) n
answers_after-complete s reader base set n few =
    answers-complete (has_for s reader) set (asked_from s reader base) (last_of s) n few

-- ---- acknowledgements count from 1

-- each reader has acknowledged all below a number from 1 on
abbrev pub AreFrom1 : List ℕ → Type 0
AreFrom1 acknowledged = All (λ n. 0 < n) acknowledged

moved-from-1 : (acknowledged : List ℕ) (reader to : ℕ) → AreFrom1 acknowledged
    → AreFrom1 (set acknowledged reader (max (get_or acknowledged reader 0) to))
moved-from-1 [] reader to from = from
moved-from-1 (a ∷ rest) zero to from =
    let head = All-head (λ n. 0 < n) a rest from in
    All-cons (λ n. 0 < n) (max a to) rest (omega (arith, head)) (All-tail (λ n. 0 < n) a rest from)
moved-from-1 (a ∷ rest) (suc reader) to from =
    All-cons (λ n. 0 < n) a (set rest reader (max (get_or rest reader 0) to)) (All-head (λ n. 0 < n) a rest from)
    (moved-from-1 rest reader to (All-tail (λ n. 0 < n) a rest from))

after_if : (s after : WriterState) (b : Bool) → AreFrom1 s.acknowledged → AreFrom1 after.acknowledged
    → AreFrom1 (if b then after else s).acknowledged
after_if s after true from moved = moved
after_if s after false from moved = from

pub acknack-from-1 : (s : WriterState) (reader base : ℕ) (count : ℤ) → AreFrom1 s.acknowledged
    → AreFrom1 (after_acknack s reader base count).acknowledged
acknack-from-1 s reader base count from =
    after_if s (applied s reader base count) (is_applied s reader base count) from
    (moved-from-1 s.acknowledged reader base from)

pub opening-from-1 : (policy : HistoryQos) (most lease : Option ℕ) (strength : Option ℤ) (readers : ℕ)
    → AreFrom1 (opening policy most lease strength readers).acknowledged
opening-from-1 policy most lease strength readers = All-replicate (λ n. 0 < n) readers 1 (omega arith)

one-more-from-1 : (acknowledged : List ℕ) (n : ℕ) → 0 < n → AreFrom1 acknowledged → AreFrom1 (acknowledged ++ n ∷ [])
one-more-from-1 [] n some from = All-cons (λ n. 0 < n) n [] some from
one-more-from-1 (a ∷ rest) n some from =
    All-cons (λ n. 0 < n) a (rest ++ n ∷ []) (All-head (λ n. 0 < n) a rest from)
    (one-more-from-1 rest n some (All-tail (λ n. 0 < n) a rest from))

pub joined-from-1 : (s : WriterState) (count : Option ℤ) (silent : Bool) → AreFrom1 s.acknowledged
    → AreFrom1 (joined s count silent).acknowledged
joined-from-1 s count silent from = one-more-from-1 s.acknowledged (last_of s + 1) (omega arith) from

one-fewer-from-1 : (acknowledged : List ℕ) (reader : ℕ) → AreFrom1 acknowledged
    → AreFrom1 (remove acknowledged reader)
one-fewer-from-1 [] zero from = from
one-fewer-from-1 [] (suc reader) from = from
one-fewer-from-1 (a ∷ rest) zero from = All-tail (λ n. 0 < n) a rest from
one-fewer-from-1 (a ∷ rest) (suc reader) from =
    All-cons (λ n. 0 < n) a (remove rest reader) (All-head (λ n. 0 < n) a rest from)
    (one-fewer-from-1 rest reader (All-tail (λ n. 0 < n) a rest from))

pub left-from-1 : (s : WriterState) (reader : ℕ) → AreFrom1 s.acknowledged → AreFrom1 (left s reader).acknowledged
left-from-1 s reader from = one-fewer-from-1 s.acknowledged reader from
