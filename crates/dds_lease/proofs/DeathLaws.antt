-- The deaths of one moment, in turn.
use Rattle.std.proofs.Common.{◌≡◌, ℕ, ◌+◌, ◌<◌, ◌≤◌, List, [], ◌∷◌, ◌++◌, Bool, true, false, ◌||◌, ◌==◌, sym, ap, ◌∙◌, refl, cond, Option, Some, None, arith, ⊎_elim}
use Rattle.std.proofs.lemmas.Bool.{cases_Bool, eqb-true, eqb-false}
use Rattle.std.proofs.lemmas.Bool.Decides.{nat_tests}
use Rattle.std.specs.Prelude.{if◌then◌else◌, nat_lt, find, filter}
use Rattle.std.specs.List.{list_any}
use Rattle.dds_base.specs.declared.happening.Happening.{Happening}
use Rattle.dds_base.specs.declared.happening.Happening.TheVariants.{Died}
use Rattle.dds_base.specs.declared.qos.MatchedWriter.{MatchedWriter}
use Rattle.dds_base.specs.declared.qos.ReaderQos.{ReaderQos}
use Rattle.dds_base.specs.Life.{or_else}
use Rattle.dds_base.specs.Liveliness.{after_deaths, alive_since, dead_at, is_overdue, lease_of, with_deaths}
use Rattle.dds_base.specs.Ownership.{joined_in, numbered_from, publication_handles, writer_of, writers_of}
use Rattle.dds_base.proofs.JoinLaws.{joined-deaths}
use Rattle.dds_base.specs.Written.{is_over}
use Rattle.dds_lease.specs.Standing.{after_deaths_above}

-- ---- those above a handle

-- numbers that count on from above the handle are all above it
all_above : (after k : ℕ) (due : ℕ → Bool) (ws : List MatchedWriter) → after < k
    → filter (nat_lt after) (filter due (numbered_from k ws)) ≡ filter due (numbered_from k ws)
all_above after k due [] low = refl
all_above after k due (w ∷ ws) low =
    kept (due k) (filter due (numbered_from (k + 1) ws)) (all_above after (k + 1) due ws (omega (arith, low)))
  where
    kept : (b : Bool) (rest : List ℕ) → filter (nat_lt after) rest ≡ rest
        → filter (nat_lt after) (cond b (k ∷ rest) rest) ≡ cond b (k ∷ rest) rest
    kept true rest same =
        let above : nat_lt after k ≡ true = grind (arith, nat_tests, low) in
        ap (λ (b : Bool). cond b (k ∷ filter (nat_lt after) rest) (filter (nat_lt after) rest)) above
        ∙ ap (λ (ns : List ℕ). k ∷ ns) same
    kept false rest same = same

pub above_none : (q : ReaderQos) (now : ℕ) (h : List Happening)
    → after_deaths_above q now 0 h ≡ after_deaths q now h
above_none q now h =
    ap (λ (ws : List ℕ). with_deaths now ws h) (all_above 0 1 (is_overdue q now h) (writers_of q h) (omega arith))

-- what is found is not below the number that these count on from
found_from : (after k w : ℕ) (due : ℕ → Bool) (ws : List MatchedWriter)
    → find (nat_lt after) (filter due (numbered_from k ws)) ≡ Some w → k ≤ w
found_from after k w due [] is = absurd (cc)
found_from after k w due (x ∷ ws) is =
    found (due k) (filter due (numbered_from (k + 1) ws)) (λ e. found_from after (k + 1) w due ws e) is
  where
    here : (b : Bool) (rest : List ℕ) → (find (nat_lt after) rest ≡ Some w → k + 1 ≤ w)
        → cond b (Some k) (find (nat_lt after) rest) ≡ Some w → k ≤ w
    here true rest later e = let same : k ≡ w = cc in omega (arith, same)
    here false rest later e = let more = later e in omega (arith, more)

    found : (b : Bool) (rest : List ℕ) → (find (nat_lt after) rest ≡ Some w → k + 1 ≤ w)
        → find (nat_lt after) (cond b (k ∷ rest) rest) ≡ Some w → k ≤ w
    found true rest later e = here (nat_lt after k) rest later e
    found false rest later e = let more = later e in omega (arith, more)

-- the same in front of those that are above it anyway
first_of : (after k w : ℕ) (b : Bool) (rest : List ℕ)
    → (after < k → filter (nat_lt after) rest ≡ rest) → (k ≡ w → filter (nat_lt w) rest ≡ rest)
    → (find (nat_lt after) rest ≡ Some w → k + 1 ≤ w)
    → (find (nat_lt after) rest ≡ Some w → filter (nat_lt after) rest ≡ w ∷ filter (nat_lt w) rest)
    → find (nat_lt after) (cond b (k ∷ rest) rest) ≡ Some w
    → filter (nat_lt after) (cond b (k ∷ rest) rest) ≡ w ∷ filter (nat_lt w) (cond b (k ∷ rest) rest)
first_of after k w false rest all mine higher later is = later is
first_of after k w true rest all mine higher later is = ⊎_elim
    (λ above. here above (some (ap (λ (c : Bool). cond c (Some k) (find (nat_lt after) rest)) (sym above) ∙ is)))
    (λ below. there below (ap (λ (c : Bool). cond c (Some k) (find (nat_lt after) rest)) (sym below) ∙ is))
    (cases_Bool (nat_lt after k))
  where
    some : ◌≡◌ {A = Option ℕ} (Some k) (Some w) → k ≡ w
    some e = cc

    -- the first number is the one that is found
    here : nat_lt after k ≡ true → k ≡ w
        → cond (nat_lt after k) (k ∷ filter (nat_lt after) rest) (filter (nat_lt after) rest)
        ≡ w ∷ cond (nat_lt w k) (k ∷ filter (nat_lt w) rest) (filter (nat_lt w) rest)
    here above same =
        let low : after < k = grind (arith, nat_tests, above) in
        let not_above : nat_lt w k ≡ false = grind (arith, nat_tests, same) in
        ap (λ (b : Bool). cond b (k ∷ filter (nat_lt after) rest) (filter (nat_lt after) rest)) above
        ∙ (ap (λ (ns : List ℕ). k ∷ ns) (all low ∙ sym (mine same))
        ∙ (ap (λ (n : ℕ). n ∷ filter (nat_lt w) rest) same
        ∙ ap (λ (b : Bool). w ∷ cond b (k ∷ filter (nat_lt w) rest) (filter (nat_lt w) rest)) (sym not_above)))

    -- the first number is not above the handle
    there : nat_lt after k ≡ false → find (nat_lt after) rest ≡ Some w
        → cond (nat_lt after k) (k ∷ filter (nat_lt after) rest) (filter (nat_lt after) rest)
        ≡ w ∷ cond (nat_lt w k) (k ∷ filter (nat_lt w) rest) (filter (nat_lt w) rest)
    there below e =
        let more = higher e in
        let not_above : nat_lt w k ≡ false = grind (arith, nat_tests, more) in
        ap (λ (b : Bool). cond b (k ∷ filter (nat_lt after) rest) (filter (nat_lt after) rest)) below
        ∙ (later e
        ∙ ap (λ (b : Bool). w ∷ cond b (k ∷ filter (nat_lt w) rest) (filter (nat_lt w) rest)) (sym not_above))

-- those above the handle are the first of them, and then those above that one
first_above : (after k w : ℕ) (due : ℕ → Bool) (ws : List MatchedWriter)
    → find (nat_lt after) (filter due (numbered_from k ws)) ≡ Some w
    → filter (nat_lt after) (filter due (numbered_from k ws)) ≡ w ∷ filter (nat_lt w) (filter due (numbered_from k ws))
first_above after k w due [] is = absurd (cc)
first_above after k w due (x ∷ ws) is =
    first_of after k w (due k) (filter due (numbered_from (k + 1) ws))
    (λ low. all_above after (k + 1) due ws (omega (arith, low)))
    (λ same. all_above w (k + 1) due ws (omega (arith, same)))
    (λ e. found_from after (k + 1) w due ws e)
    (λ e. first_above after (k + 1) w due ws e) is

-- where none is found there is none
none_above : (after : ℕ) (ns : List ℕ) → find (nat_lt after) ns ≡ None → filter (nat_lt after) ns ≡ []
none_above after [] is = refl
none_above after (n ∷ ns) is = ⊎_elim
    (λ above. absurd (some (ap (λ (b : Bool). cond b (Some n) (find (nat_lt after) ns)) (sym above) ∙ is)))
    (λ below. ap (λ (b : Bool). cond b (n ∷ filter (nat_lt after) ns) (filter (nat_lt after) ns)) below
    ∙ none_above after ns (ap (λ (b : Bool). cond b (Some n) (find (nat_lt after) ns)) (sym below) ∙ is))
    (cases_Bool (nat_lt after n))
  where
    some : ◌≡◌ {A = Option ℕ} (Some n) None → ⊥
    some e = cc

-- two tests that agree above a number leave the same numbers above it
same_above : (w : ℕ) (p r : ℕ → Bool) (ns : List ℕ) → ((v : ℕ) → w < v → p v ≡ r v)
    → filter (nat_lt w) (filter p ns) ≡ filter (nat_lt w) (filter r ns)
same_above w p r [] agree = refl
same_above w p r (n ∷ ns) agree = let same = same_above w p r ns agree in ⊎_elim
    (λ above. let low : w < n = grind (arith, nat_tests, above) in
    ap (λ (b : Bool). filter (nat_lt w) (cond b (n ∷ filter p ns) (filter p ns))) (agree n low)
    ∙ both (r n) same)
    (λ below. dropped (p n) (filter p ns) below ∙ (same ∙ sym (dropped (r n) (filter r ns) below)))
    (cases_Bool (nat_lt w n))
  where
    both : (b : Bool) → filter (nat_lt w) (filter p ns) ≡ filter (nat_lt w) (filter r ns)
        → filter (nat_lt w) (cond b (n ∷ filter p ns) (filter p ns))
        ≡ filter (nat_lt w) (cond b (n ∷ filter r ns) (filter r ns))
    both true same = ap (λ (rest : List ℕ). cond (nat_lt w n) (n ∷ rest) rest) same
    both false same = same

    dropped : (b : Bool) (rest : List ℕ) → nat_lt w n ≡ false
        → filter (nat_lt w) (cond b (n ∷ rest) rest) ≡ filter (nat_lt w) rest
    dropped true rest below = ap (λ (c : Bool). cond c (n ∷ filter (nat_lt w) rest) (filter (nat_lt w) rest)) below
    dropped false rest below = refl

-- another writer's death leaves it as it was
other_since : (q : ReaderQos) (now w v : ℕ) (h : List Happening) → w < v
    → is_overdue q now h v ≡ is_overdue q now (Died w now ∷ h) v
other_since q now w v h low =
    let other : (w == v) ≡ false = ⊎_elim
    (λ same. let e = eqb-true w v same in absurd (omega (arith, e, low)))
    (λ differ. differ)
    (cases_Bool (w == v)) in
    ap (λ (b : Bool). is_over (lease_of (writer_of (writers_of q h) v))
    (if b then None else or_else None (alive_since v h)) now)
    (sym other)

-- a death, and then those above it
pub deaths_go_on : (q : ReaderQos) (now after w : ℕ) (h : List Happening)
    → find (nat_lt after) (dead_at q now h) ≡ Some w
    → after_deaths_above q now after h ≡ after_deaths_above q now w (Died w now ∷ h)
deaths_go_on q now after w h is =
    ap (λ (ws : List ℕ). with_deaths now ws h)
    (first_above after 1 w (is_overdue q now h) (writers_of q h) is
    ∙ ap (λ (ws : List ℕ). w ∷ ws)
    (same_above w (is_overdue q now h) (is_overdue q now (Died w now ∷ h)) (publication_handles q h)
    (λ v low. other_since q now w v h low)))

pub deaths_end : (q : ReaderQos) (now after : ℕ) (h : List Happening)
    → find (nat_lt after) (dead_at q now h) ≡ None → after_deaths_above q now after h ≡ h
deaths_end q now after h is =
    ap (λ (ws : List ℕ). with_deaths now ws h) (none_above after (dead_at q now h) is)

-- ---- nobody dies twice

since-after : (now w : ℕ) (ds : List ℕ) (h : List Happening)
    → alive_since w (with_deaths now ds h) ≡ (if list_any (λ v. v == w) ds then None else alive_since w h)
since-after now w [] h = refl
since-after now w (d ∷ ds) h =
    since-after now w ds (Died d now ∷ h) ∙ either (d == w) (list_any (λ v. v == w) ds) (alive_since w h)
  where
    either : (same later : Bool) (since : Option ℕ)
        → (if later then None else (if same then None else or_else None since))
        ≡ (if same || later then None else since)
    either true true since = refl
    either true false since = refl
    either false true since = refl
    either false false since = refl

not_over : (lease : Option ℕ) (now : ℕ) → is_over lease None now ≡ false
not_over None now = refl
not_over (Some lease) now = refl

-- a number of these that passes the test is among those that pass
among : (p : ℕ → Bool) (w : ℕ) (ns : List ℕ) → list_any (λ v. v == w) ns ≡ true → p w ≡ true
    → list_any (λ v. v == w) (filter p ns) ≡ true
among p w [] is passes = absurd (cc)
among p w (n ∷ ns) is passes = ⊎_elim
    (λ same. let e = eqb-true n w same in
    ap (λ (b : Bool). list_any (λ v. v == w) (cond b (n ∷ filter p ns) (filter p ns)))
    (ap p e ∙ passes)
    ∙ ap (λ (b : Bool). b || list_any (λ v. v == w) (filter p ns)) same)
    (λ differ. later (p n)
    (among p w ns (ap (λ (b : Bool). b || list_any (λ v. v == w) ns) (sym differ) ∙ is) passes))
    (cases_Bool (n == w))
  where
    later : (b : Bool) → list_any (λ v. v == w) (filter p ns) ≡ true
        → list_any (λ v. v == w) (cond b (n ∷ filter p ns) (filter p ns)) ≡ true
    later true e = ap (λ (b : Bool). (n == w) || b) e ∙ or-true (n == w)
      where
        or-true : (b : Bool) → (b || true) ≡ true
        or-true true = refl
        or-true false = refl
    later false e = e

-- where no number of these passes the test, none is left
none_left : (p : ℕ → Bool) (ns : List ℕ) → ((v : ℕ) → list_any (λ n. n == v) ns ≡ true → p v ≡ false)
    → filter p ns ≡ []
none_left p [] none = refl
none_left p (n ∷ ns) none =
    ap (λ (b : Bool). cond b (n ∷ filter p ns) (filter p ns))
    (none n (ap (λ (b : Bool). b || list_any (λ m. m == n) ns) (itself n)))
    ∙ none_left p ns (λ v is. none v (ap (λ (b : Bool). (n == v) || b) is ∙ or-true (n == v)))
  where
    or-true : (b : Bool) → (b || true) ≡ true
    or-true true = refl
    or-true false = refl

    itself : (k : ℕ) → (k == k) ≡ true
    itself k = ⊎_elim (λ same. same) (λ differ. absurd (eqb-false k k differ refl)) (cases_Bool (k == k))

pub nobody_twice : (q : ReaderQos) (now : ℕ) (h : List Happening) → dead_at q now (after_deaths q now h) ≡ []
nobody_twice q now h =
    ap (λ (ws : List MatchedWriter). filter (is_overdue q now (after_deaths q now h)) (numbered_from 1 (q.writers ++ ws)))
    same
    ∙ none_left (is_overdue q now (after_deaths q now h)) (publication_handles q h) (λ v is. ⊎_elim
    (λ due. after v (among (is_overdue q now h) v (publication_handles q h) is due))
    (λ still. stays v (list_any (λ w. w == v) (dead_at q now h)) refl still)
    (cases_Bool (is_overdue q now h v)))
  where
    same : joined_in (after_deaths q now h) ≡ joined_in h
    same = joined-deaths now (dead_at q now h) h

    by : (v : ℕ) (b : Bool) → list_any (λ w. w == v) (dead_at q now h) ≡ b
        → is_overdue q now (after_deaths q now h) v
        ≡ is_over (lease_of (writer_of (writers_of q h) v)) (if b then None else alive_since v h) now
    by v b is =
        ap (λ (ws : List MatchedWriter). is_over (lease_of (writer_of (q.writers ++ ws) v))
        (alive_since v (after_deaths q now h)) now) same
        ∙ ap (λ (o : Option ℕ). is_over (lease_of (writer_of (writers_of q h) v)) o now)
        (since-after now v (dead_at q now h) h ∙ ap (λ (c : Bool). if c then None else alive_since v h) is)

    after : (v : ℕ) → list_any (λ w. w == v) (dead_at q now h) ≡ true
        → is_overdue q now (after_deaths q now h) v ≡ false
    after v is = by v true is ∙ not_over (lease_of (writer_of (writers_of q h) v)) now

    stays : (v : ℕ) (b : Bool) → list_any (λ w. w == v) (dead_at q now h) ≡ b → is_overdue q now h v ≡ false
        → is_overdue q now (after_deaths q now h) v ≡ false
    stays v true is still = after v is
    stays v false is still = by v false is ∙ still
