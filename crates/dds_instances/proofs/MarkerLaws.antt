-- Of how many instances a death leaves a marker.
use Rattle.std.proofs.Common.{◌≡◌, ℕ, suc, ◌+◌, ◌<◌, ◌≤◌, List, [], ◌∷◌, ◌++◌, zero, length, get_or, set, Bool, true, false, not, ◌==◌, ap, sym, ◌∙◌, refl, subst, cond, Option, Some, None, arith, ⊎_elim}
use Rattle.std.specs.Prelude.{if◌then◌else◌, count_by, IfSome}
use Rattle.std.specs.List.{All, filter}
use Rattle.std.proofs.lemmas.Bool.{cases_Bool, eqb-true}
use Rattle.std.proofs.lemmas.List.Elements.{All-filter, All-head, All-tail}
use Rattle.std.proofs.lemmas.List.Sums.{sum_by-cons, sum_by-append}
use Rattle.dds_base.specs.declared.change.ChangeKind.{ChangeKind}
use Rattle.dds_base.specs.declared.change.ChangeKind.TheVariants.{Write}
use Rattle.dds_base.specs.declared.sample.InstanceState.{InstanceState}
use Rattle.dds_base.specs.Life.{state_after, becomes_not_alive, is_at}
use Rattle.dds_instances.specs.declared.track.InstanceTrack.{InstanceTrack}
use Rattle.dds_owner.specs.Standing.{has_writers}
use Rattle.dds_instances.specs.Track.{Fits, is_alive_state, is_alive_track, state_of_track}
use Rattle.dds_instances.proofs.EndingLaws.{Buries}
use Rattle.dds_instances.proofs.TrackLaws.{one_if-bound}

-- ---- one instance

-- a marker from before an entry is not of it
not-yet : (n : ℕ) (m : Option ℕ) → IfSome m (λ k. k < n) → ◌≡◌ {A = ℕ} (cond (is_at m n) 1 0) 0
not-yet n None below = refl
not-yet n (Some k) below = ⊎_elim
    (λ same. let e = eqb-true k n same in absurd (omega (arith, e, below)))
    (λ differ. ap (λ (b : Bool). cond b 1 0) differ)
    (cases_Bool (k == n))

-- 1 where the state is ALIVE
abbrev alive_one : Option InstanceState → ℕ
alive_one state = cond (is_alive_state state) 1 0

-- 1 where the marker is of the entry of position n
abbrev marked_one : ℕ → Option ℕ → ℕ
marked_one n marker = cond (is_at marker n) 1 0

-- the last marker after that entry
abbrev marker_next : ℕ → Option InstanceState → Option InstanceState → Option ℕ → Option ℕ
marker_next n before after marker = if becomes_not_alive before after then Some n else marker

-- an instance that is not alive leaves none, and one that is alive leaves one as it ends
marker-table : (n : ℕ) (last : Option ChangeKind) (there left : Bool) (m : Option ℕ)
    → (left ≡ true → there ≡ true) → marked_one n m ≡ 0
    → alive_one (state_after last (not left))
    + marked_one n (marker_next n (state_after last (not there)) (state_after last (not left)) m)
    ≤ alive_one (state_after last (not there))
marker-table n None there left m fewer none = omega (arith, none)
marker-table n (Some Write) true true m fewer none = omega (arith, none)
marker-table n (Some Write) true false m fewer none = omega (arith, one_if-bound (n == n))
marker-table n (Some Write) false true m fewer none = absurd (let clash : false ≡ true = fewer refl in cc)
marker-table n (Some Write) false false m fewer none = omega (arith, none)
marker-table n (Some _) there left m fewer none = omega (arith, none)

-- one that takes a death up
marker-one : (n w : ℕ) (t x : InstanceTrack) → Fits n t → Buries n w t x
    → alive_one (state_of_track x) + marked_one n x.last_marker ≤ alive_one (state_of_track t)
marker-one n w t x fits step =
    let there : Bool = has_writers t.owners in
    let left : Bool = has_writers x.owners in
    let after : state_of_track x ≡ state_after t.last_accepted (not left) =
    ap (λ (k : Option ChangeKind). state_after k (not left)) step.advances.accepts in
    let alive = ap (λ (s : Option InstanceState). alive_one s) after in
    let marked = ap (λ (m : Option ℕ). marked_one n m) step.advances.marker
    ∙ ap (λ (s : Option InstanceState). marked_one n (marker_next n (state_of_track t) s t.last_marker)) after in
    let before = not-yet n t.last_marker fits.marker in
    let both = marker-table n t.last_accepted there left t.last_marker step.fewer before in
    omega (arith, alive, marked, both)

-- ---- all of them

-- how many instances are alive or were marked by a death, one after another
pub marked-buried : (n w : ℕ) (ts xs : List InstanceTrack) → length xs ≡ length ts → All (Fits n) ts
    → ((k : ℕ) (d : InstanceTrack) → k < length ts → Buries n w (get_or ts k d) (get_or xs k d))
    → count_by is_alive_track xs + count_by (λ (x : InstanceTrack). is_at x.last_marker n) xs
    ≤ count_by is_alive_track ts
marked-buried n w [] [] same fits steps = omega arith
marked-buried n w [] (x ∷ xs) same fits steps = absurd (omega (arith, same))
marked-buried n w (t ∷ ts) [] same fits steps = absurd (omega (arith, same))
marked-buried n w (t ∷ ts) (x ∷ xs) same fits steps =
    let one = marker-one n w t x (All-head (Fits n) t ts fits) (steps 0 t (omega arith)) in
    let rest = marked-buried n w ts xs (omega (arith, same)) (All-tail (Fits n) t ts fits)
    (λ k d within. steps (suc k) d (omega (arith, within))) in
    let alive_now = sum_by-cons (λ (y : InstanceTrack). cond (is_alive_track y) 1 0) x xs in
    let marked_now = sum_by-cons (λ (y : InstanceTrack). cond (is_at y.last_marker n) 1 0) x xs in
    let alive_before = sum_by-cons (λ (y : InstanceTrack). cond (is_alive_track y) 1 0) t ts in
    omega (arith, one, rest, alive_now, marked_now, alive_before)

-- ---- who is alive after a change

-- 1 where the instance of a track is alive
abbrev alive_in : InstanceTrack → ℕ
alive_in t = cond (is_alive_track t) 1 0

-- one more at most is alive where one track was changed
pub alive-changed : (ts : List InstanceTrack) (at : ℕ) (x : InstanceTrack)
    → count_by is_alive_track (set ts at x) ≤ count_by is_alive_track ts + 1
alive-changed [] at x = omega arith
alive-changed (t ∷ ts) zero x =
    let after = sum_by-cons alive_in x ts in
    let before = sum_by-cons alive_in t ts in
    let one = one_if-bound (is_alive_track x) in
    omega (arith, after, before, one)
alive-changed (t ∷ ts) (suc at) x =
    let after = sum_by-cons alive_in t (set ts at x) in
    let before = sum_by-cons alive_in t ts in
    let rest = alive-changed ts at x in
    omega (arith, after, before, rest)

-- as many are where that is alive as it was
pub alive-kept : (ts : List InstanceTrack) (at : ℕ) (x d : InstanceTrack)
    → is_alive_track x ≡ is_alive_track (get_or ts at d)
    → count_by is_alive_track (set ts at x) ≡ count_by is_alive_track ts
alive-kept [] at x d same = refl
alive-kept (t ∷ ts) zero x d same =
    sum_by-cons alive_in x ts
    ∙ (ap (λ (b : Bool). cond b 1 0 + count_by is_alive_track ts) same ∙ sym (sum_by-cons alive_in t ts))
alive-kept (t ∷ ts) (suc at) x d same =
    sum_by-cons alive_in t (set ts at x)
    ∙ (ap (λ (n : ℕ). alive_in t + n) (alive-kept ts at x d same) ∙ sym (sum_by-cons alive_in t ts))

-- one more at most is where one became known
pub alive-added : (ts : List InstanceTrack) (x : InstanceTrack)
    → count_by is_alive_track (ts ++ x ∷ []) ≤ count_by is_alive_track ts + 1
alive-added ts x =
    let whole = sum_by-append alive_in ts (x ∷ []) in
    let last = sum_by-cons alive_in x [] in
    let one = one_if-bound (is_alive_track x) in
    omega (arith, whole, last, one)

-- ---- where some are forgotten

-- among those that are kept no more pass a test
pub fewer-kept : (p keep : InstanceTrack → Bool) (ts : List InstanceTrack) → count_by p (filter keep ts) ≤ count_by p ts
fewer-kept p keep [] = omega arith
fewer-kept p keep (t ∷ ts) =
    let rest = fewer-kept p keep ts in
    let whole = sum_by-cons (λ (y : InstanceTrack). cond (p y) 1 0) t ts in
    one (keep t) (filter keep ts) (count_by p ts) (count_by p (t ∷ ts)) rest whole
  where
    one : (b : Bool) (xs : List InstanceTrack) (n m : ℕ) → count_by p xs ≤ n → m ≡ cond (p t) 1 0 + n
        → count_by p (cond b (t ∷ xs) xs) ≤ m
    one true xs n m below is =
        let own = sum_by-cons (λ (y : InstanceTrack). cond (p y) 1 0) t xs in omega (arith, own, below, is)
    one false xs n m below is = omega (arith, below, is)

pub fewer-of : (p keep : InstanceTrack → Bool) (ts xs : List InstanceTrack) → xs ≡ filter keep ts
    → count_by p xs ≤ count_by p ts
fewer-of p keep ts xs are =
    subst (λ (ys : List InstanceTrack). count_by p ys ≤ count_by p ts) (sym are) (fewer-kept p keep ts)

pub fits-of : (keep : InstanceTrack → Bool) (ts xs : List InstanceTrack) → xs ≡ filter keep ts → (n : ℕ) → All (Fits n) ts
    → All (Fits n) xs
fits-of keep ts xs are n fits =
    subst (λ (ys : List InstanceTrack). All (Fits n) ys) (sym are) (All-filter keep (Fits n) ts fits)
