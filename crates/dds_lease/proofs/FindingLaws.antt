-- The first writer above a handle whose lease is over.
use Rattle.std.proofs.Common.{◌≡◌, ℕ, zero, suc, ◌+◌, ◌<◌, ◌≤◌, List, [], ◌∷◌, length, get_or, map, drop, Bool, true, false, ◌&&◌, sym, ap, ◌∙◌, refl, cond, Option, Some, None, arith, ⊎_elim}
use Rattle.std.proofs.lemmas.Bool.{cases_Bool}
use Rattle.std.proofs.lemmas.Bool.Decides.{nat_tests}
use Rattle.std.proofs.lemmas.List.Sums.{length-filter}
use Rattle.std.specs.Prelude.{if◌then◌else◌, nat_lt, find, filter, count_by}
use Rattle.dds_base.specs.declared.happening.Happening.{Happening}
use Rattle.dds_base.specs.declared.qos.MatchedWriter.{MatchedWriter}
use Rattle.dds_base.specs.declared.qos.ReaderQos.{ReaderQos}
use Rattle.dds_base.specs.Liveliness.{is_overdue}
use Rattle.dds_base.specs.Ownership.{numbered_from}
use Rattle.dds_base.proofs.Lists.{drop-step}
use Rattle.dds_lease.specs.declared.track.LeaseTrack.{LeaseTrack}
use Rattle.dds_lease.specs.Track.{first_over, track_of}
use Rattle.dds_lease.specs.Overdue.{is_over_at}

-- ---- the first of those that die is the first whose lease is over

first-of : (after k : ℕ) (due : Bool) (rest : List ℕ)
    → find (nat_lt after) (cond due (k ∷ rest) rest)
    ≡ (if nat_lt after k && due then Some k else find (nat_lt after) rest)
first-of after k true rest = ⊎_elim
    (λ above. ap (λ (b : Bool). cond b (Some k) (find (nat_lt after) rest)) above
    ∙ ap (λ (b : Bool). if b && true then Some k else find (nat_lt after) rest) (sym above))
    (λ below. ap (λ (b : Bool). cond b (Some k) (find (nat_lt after) rest)) below
    ∙ ap (λ (b : Bool). if b && true then Some k else find (nat_lt after) rest) (sym below))
    (cases_Bool (nat_lt after k))
first-of after k false rest = ⊎_elim
    (λ above. ap (λ (b : Bool). if b && false then Some k else find (nat_lt after) rest) (sym above))
    (λ below. ap (λ (b : Bool). if b && false then Some k else find (nat_lt after) rest) (sym below))
    (cases_Bool (nat_lt after k))

pub first-dead : (q : ReaderQos) (now after k : ℕ) (h : List Happening) (ws : List MatchedWriter)
    → find (nat_lt after) (filter (is_overdue q now h) (numbered_from k ws))
    ≡ first_over after now k (map (track_of q h) (numbered_from k ws))
first-dead q now after k h [] = refl
first-dead q now after k h (w ∷ ws) =
    first-of after k (is_overdue q now h k) (filter (is_overdue q now h) (numbered_from (k + 1) ws))
    ∙ ap (λ (o : Option ℕ). if nat_lt after k && is_overdue q now h k then Some k else o)
    (first-dead q now after (k + 1) h ws)

-- ---- looking for it

-- those up to the handle are passed by
pub first-skips : (after now k m : ℕ) (ts : List LeaseTrack) → k + m ≤ after + 1
    → first_over after now k ts ≡ first_over after now (k + m) (drop m ts)
first-skips after now k zero ts low = ap (λ (n : ℕ). first_over after now n ts) (omega arith)
first-skips after now k (suc m) [] low = refl
first-skips after now k (suc m) (t ∷ ts) low =
    let below : nat_lt after k ≡ false = grind (arith, nat_tests, low) in
    ap (λ (b : Bool). if b && is_over_at now t then Some k else first_over after now (k + 1) ts) below
    ∙ (first-skips after now (k + 1) m ts (omega (arith, low))
    ∙ ap (λ (n : ℕ). first_over after now n (drop m ts)) (omega arith))

-- one whose lease is not over is passed by
pub first-passes : (after now at : ℕ) (ts : List LeaseTrack) (t : LeaseTrack) → at < length ts → t ≡ get_or ts at t
    → is_over_at now t ≡ false
    → first_over after now (at + 1) (drop at ts) ≡ first_over after now (at + 1 + 1) (drop (at + 1) ts)
first-passes after now at ts t within is not_over =
    ap (λ (xs : List LeaseTrack). first_over after now (at + 1) xs) (drop-step ts at t within is)
    ∙ passes (nat_lt after (at + 1)) (is_over_at now t) not_over
  where
    passes : (above over : Bool) → over ≡ false
        → (if above && over then Some (at + 1) else first_over after now (at + 1 + 1) (drop (at + 1) ts))
        ≡ first_over after now (at + 1 + 1) (drop (at + 1) ts)
    passes true over e = ap (λ (b : Bool). if b then Some (at + 1)
        else first_over after now (at + 1 + 1) (drop (at + 1) ts)) e
    passes false over e = refl

-- one above the handle whose lease is over is it
pub first-is : (after now at : ℕ) (ts : List LeaseTrack) (t : LeaseTrack) → at < length ts → t ≡ get_or ts at t
    → after ≤ at → is_over_at now t ≡ true → first_over after now (at + 1) (drop at ts) ≡ Some (at + 1)
first-is after now at ts t within is above over =
    let higher : nat_lt after (at + 1) ≡ true = grind (arith, nat_tests, above) in
    ap (λ (xs : List LeaseTrack). first_over after now (at + 1) xs) (drop-step ts at t within is)
    ∙ (ap (λ (b : Bool). if b && is_over_at now t then Some (at + 1)
    else first_over after now (at + 1 + 1) (drop (at + 1) ts)) higher
    ∙ ap (λ (b : Bool). if b then Some (at + 1)
    else first_over after now (at + 1 + 1) (drop (at + 1) ts)) over)

-- past the last there is none
pub first-none : (after now at : ℕ) (ts : List LeaseTrack) → length ts ≤ at
    → first_over after now (at + 1) (drop at ts) ≡ None
first-none after now at ts past =
    ap (λ (xs : List LeaseTrack). first_over after now (at + 1) xs) (drop-past at ts past)
  where
    drop-past : (n : ℕ) (xs : List LeaseTrack) → length xs ≤ n → drop n xs ≡ []
    drop-past zero [] low = refl
    drop-past zero (x ∷ xs) low = absurd (omega (arith, low))
    drop-past (suc n) [] low = refl
    drop-past (suc n) (x ∷ xs) low = drop-past n xs (omega (arith, low))

-- ---- how many there are

lengths-dead : (q : ReaderQos) (now k : ℕ) (h : List Happening) (ws : List MatchedWriter)
    → length (filter (is_over_at now) (map (track_of q h) (numbered_from k ws)))
    ≡ length (filter (is_overdue q now h) (numbered_from k ws))
lengths-dead q now k h [] = refl
lengths-dead q now k h (w ∷ ws) =
    counted (is_overdue q now h k) (filter (is_over_at now) (map (track_of q h) (numbered_from (k + 1) ws)))
    (filter (is_overdue q now h) (numbered_from (k + 1) ws)) (lengths-dead q now (k + 1) h ws)
  where
    counted : (due : Bool) (ts : List LeaseTrack) (ns : List ℕ) → length ts ≡ length ns
        → length (cond due (track_of q h k ∷ ts) ts) ≡ length (cond due (k ∷ ns) ns)
    counted true ts ns is = ap suc is
    counted false ts ns is = is

pub count-dead : (q : ReaderQos) (now k : ℕ) (h : List Happening) (ws : List MatchedWriter)
    → count_by (is_over_at now) (map (track_of q h) (numbered_from k ws))
    ≡ length (filter (is_overdue q now h) (numbered_from k ws))
count-dead q now k h ws =
    sym (length-filter (is_over_at now) (map (track_of q h) (numbered_from k ws))) ∙ lengths-dead q now k h ws
