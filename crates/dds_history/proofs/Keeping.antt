-- Which changes a history keeps, by what is held of them.
use Rattle.std.proofs.Common.{◌≡◌, ℕ, zero, suc, ◌+◌, ◌-◌, Bool, true, false, not, ◌&&◌, Option, Some, None, List, [], ◌∷◌, ◌++◌, length, length-append, drop, count_by, slice_get, refl, ap, subst, sym, ◌∙◌, arith}
use Rattle.std.specs.Prelude.{if◌then◌else◌, is_some, nat_lt, nat_le, find}
use Rattle.std.specs.Option.{option_map, option_map_or, unwrap_or}
use Rattle.std.proofs.lemmas.Bool.Decides.{nat_tests}
use Rattle.std.proofs.lemmas.List.{drop_all, get_or_at}
use Rattle.std.proofs.lemmas.List.Sums.{length-filter}
use Rattle.std.proofs.lemmas.Option.{slice_get-get_or}
use Rattle.dds_base.specs.declared.change.Change.{Change}
use Rattle.dds_base.specs.declared.qos.HistoryQos.{HistoryQos}
use Rattle.dds_base.specs.declared.qos.HistoryQos.TheVariants.{KeepAll, KeepLast}
use Rattle.dds_base.specs.declared.key.Key.{Key}
use Rattle.dds_base.specs.Kept.{WriterHistory, appended, change_at, is_dropped_by, is_kept, kept_change, kept_count, first_kept, numbers_from, later_changes}
use Rattle.dds_history.specs.Held.{HeldChange, all_from, awaits, granted, held_of, is_held, remaining_before}
use Rattle.dds_history.proofs.Numbering.{Agree, all-at, all-numbered, at_number, counted, entry_of, find-at, find-below, first-number, length-all, passing}

-- all changes of a history, also those that are let go of
abbrev all_of : WriterHistory → List HeldChange
all_of w = all_from w.policy 1 w.changes

change_at-next : (cs : List Change) (i : ℕ) → change_at cs (1 + i) ≡ slice_get cs i
change_at-next cs i =
    let positive : nat_lt 0 (1 + i) ≡ true = grind (arith, nat_tests) in
    let index : 1 + i - 1 ≡ i = omega arith in
    ap (λ (b : Bool). if b then slice_get cs (1 + i - 1) else None) positive ∙ ap (λ (k : ℕ). slice_get cs k) index

-- a change is dropped exactly if nothing remains
dropped_at : (policy : HistoryQos) (cs : List Change) (n : ℕ) (c : Change) (remaining : ℕ) → change_at cs n ≡ Some c
    → remaining ≡ remaining_before policy (drop n cs) c.key → not (is_dropped_by policy cs n) ≡ nat_lt 0 remaining
dropped_at KeepAll cs n c remaining found is = grind (arith, nat_tests)
dropped_at (KeepLast depth) cs n c remaining found is =
    ap (λ (o : Option Change). not
    (option_map_or (λ (x : Change). nat_le depth (later_changes cs n x.key)) o false)) found
    ∙ grind (arith, nat_tests)

-- three tests, of which the first holds, or fails
all_three : (a b c v : Bool) → a ≡ true → b ≡ v → (a && b && c) ≡ (v && c)
all_three a b c v p q = cc

first_fails : (a b c : Bool) → a ≡ false → (a && b && c) ≡ false
first_fails a true true p = cc
first_fails a true false p = cc
first_fails a false true p = cc
first_fails a false false p = cc

some_if : (b : Bool) (e : HeldChange) → b ≡ is_some (if b then Some e else None)
some_if true e = refl
some_if false e = refl

change_if : (b : Bool) (e : HeldChange) → (if b then Some e.change else None)
    ≡ option_map (λ (x : HeldChange). x.change) (if b then Some e else None)
change_if true e = refl
change_if false e = refl

-- a number is kept exactly if its change is held
kept_as : (w : WriterHistory) (i : ℕ) (c : Change) → slice_get w.changes i ≡ Some c
    → is_kept w (1 + i) ≡ is_held w.acknowledged (entry_of w.policy (1 + i) c (drop (suc i) w.changes))
kept_as w i c at =
    let here = change_at-next w.changes i ∙ at in
    let later : suc i ≡ 1 + i = omega arith in
    let remains = ap (λ (k : ℕ). remaining_before w.policy (drop k w.changes) c.key) later in
    all_three _ _ _ _ (ap (λ (o : Option Change). is_some o) here)
    (dropped_at w.policy w.changes (1 + i) c (entry_of w.policy (1 + i) c (drop (suc i) w.changes)).remaining here remains)

-- of a change that no other follows so much remains as is granted
newest_remains : (policy : HistoryQos) (key : Key) → remaining_before policy [] key ≡ granted policy
newest_remains KeepAll key = refl
newest_remains (KeepLast depth) key = omega arith

-- the newest change is kept, if the policy keeps any and some reader awaits it
pub newest_kept : (w : WriterHistory) (c : Change)
    → (nat_lt 0 (granted w.policy) && awaits w.acknowledged (length w.changes + 1)) ≡ true
    → is_kept (appended w c) (length w.changes + 1) ≡ true
newest_kept w c is =
    let i : ℕ = length w.changes in
    let next : 1 + i ≡ i + 1 = omega arith in
    let changes : List Change = w.changes ++ c ∷ [] in
    let total : length changes ≡ i + 1 = length-append w.changes (c ∷ []) in
    let at : slice_get changes i ≡ Some c =
    slice_get-get_or changes i c (omega (arith, total)) ∙ ap (λ (x : Change). Some x) (get_or_at w.changes c [] c i refl) in
    let last : drop (suc i) changes ≡ [] = drop_all (suc i) changes (omega (arith, total)) in
    let remains : remaining_before w.policy (drop (suc i) changes) c.key ≡ granted w.policy =
    ap (λ (cs : List Change). remaining_before w.policy cs c.key) last ∙ newest_remains w.policy c.key in
    subst (λ (n : ℕ). is_kept (appended w c) n ≡ true) next
    (kept_as (appended w c) i c at
    ∙ (ap (λ (n : ℕ). nat_lt 0 n && awaits w.acknowledged (1 + i)) remains
    ∙ (ap (λ (n : ℕ). nat_lt 0 (granted w.policy) && awaits w.acknowledged n) next ∙ is)))

-- whether a number is kept, and its change, by the change that stands there
abbrev KeptBy : WriterHistory → ℕ → Option HeldChange → Type 0
KeptBy w i o =
    (is_kept w (1 + i) ≡ is_some (passing (is_held w.acknowledged) o))
    × (kept_change w (1 + i) ≡ option_map (λ (e : HeldChange). e.change) (passing (is_held w.acknowledged) o))

kept_by : (w : WriterHistory) (i : ℕ) (o : Option Change) → slice_get w.changes i ≡ o
    → KeptBy w i (option_map (λ (c : Change). entry_of w.policy (1 + i) c (drop (suc i) w.changes)) o)
kept_by w i None at =
    let none = change_at-next w.changes i ∙ at in
    let not_kept : is_kept w (1 + i) ≡ false = first_fails _ _ _ (ap (λ (o : Option Change). is_some o) none) in
    (not_kept, ap (λ (b : Bool). if b then change_at w.changes (1 + i) else None) not_kept)
kept_by w i (Some c) at =
    let here = change_at-next w.changes i ∙ at in
    let entry : HeldChange = entry_of w.policy (1 + i) c (drop (suc i) w.changes) in
    let kept = kept_as w i c at in (
      kept ∙ some_if (is_held w.acknowledged entry) entry,
      ap (λ (b : Bool). if b then change_at w.changes (1 + i) else None) kept
          ∙ (ap (λ (o : Option Change). if is_held w.acknowledged entry then o else None) here
          ∙ change_if (is_held w.acknowledged entry) entry),
    )

kept-at : (w : WriterHistory) (i : ℕ) → KeptBy w i (slice_get (all_of w) i)
kept-at w i =
    let by = kept_by w i (slice_get w.changes i) refl in
    let at =
    ap (λ (o : Option HeldChange). passing (is_held w.acknowledged) o) (sym (all-at w.policy 1 w.changes i)) in (
      by.0 ∙ ap (λ (o : Option HeldChange). is_some o) at,
      by.1 ∙ ap (λ (o : Option HeldChange). option_map (λ (e : HeldChange). e.change) o) at,
    )

agree : (w : WriterHistory) → Agree 1 (λ number. is_kept w number) (is_held w.acknowledged) (all_of w)
agree w i e at =
    (kept-at w i).0 ∙ (ap (λ (o : Option HeldChange). is_some (passing (is_held w.acknowledged) o)) at
    ∙ sym (some_if (is_held w.acknowledged e) e))

-- so many numbers are kept as changes are held
pub kept_count-held : (w : WriterHistory) → kept_count w ≡ length (held_of w)
kept_count-held w =
    ap (λ (n : ℕ). count_by (λ number. is_kept w number) (numbers_from 1 n)) (sym (length-all w.policy 1 w.changes))
    ∙ (counted (λ number. is_kept w number) (is_held w.acknowledged) (all_of w) 1 (agree w)
    ∙ sym (length-filter (is_held w.acknowledged) (all_of w)))

-- the first number that is kept is that of the first change that is held
pub first_kept-held : (w : WriterHistory) → first_kept w
    ≡ unwrap_or (option_map (λ (e : HeldChange). e.number) (slice_get (held_of w) 0)) (length w.changes + 1)
first_kept-held w =
    ap (λ (n : ℕ). unwrap_or (find (λ number. is_kept w number) (numbers_from 1 n)) (length w.changes + 1))
    (sym (length-all w.policy 1 w.changes))
    ∙ ap (λ (o : Option ℕ). unwrap_or o (length w.changes + 1))
    (first-number (λ number. is_kept w number) (is_held w.acknowledged) (all_of w) 1 (agree w)
    (all-numbered w.policy 1 w.changes))

-- what is held at a number, if anything
abbrev pub found_at : WriterHistory → ℕ → Option HeldChange
found_at w number = find (at_number number) (held_of w)

-- 0 is no change's number
zero-is-not-kept : (w : WriterHistory) → is_kept w zero ≡ false
zero-is-not-kept w = first_fails (is_some (change_at w.changes zero)) (not (is_dropped_by w.policy w.changes zero))
    (awaits w.acknowledged zero) refl

nothing_at_zero : (w : WriterHistory) → found_at w zero ≡ None
nothing_at_zero w = find-below (is_held w.acknowledged) 1 zero (all_of w) (all-numbered w.policy 1 w.changes)
    (omega arith)

found-next : (w : WriterHistory) (i : ℕ) → found_at w (1 + i)
    ≡ passing (is_held w.acknowledged) (slice_get (all_of w) i)
found-next w i = find-at (is_held w.acknowledged) 1 (1 + i) i (all_of w) (all-numbered w.policy 1 w.changes) refl

-- a number is kept if a change of it is held
pub is_kept-found : (w : WriterHistory) (number : ℕ) → is_kept w number ≡ is_some (found_at w number)
is_kept-found w zero = zero-is-not-kept w ∙ ap (λ (o : Option HeldChange). is_some o) (sym (nothing_at_zero w))
is_kept-found w (suc i) =
    let next : suc i ≡ 1 + i = omega arith in
    ap (λ (n : ℕ). is_kept w n) next
    ∙ ((kept-at w i).0 ∙ (ap (λ (o : Option HeldChange). is_some o) (sym (found-next w i))
    ∙ ap (λ (n : ℕ). is_some (found_at w n)) (sym next)))

-- its change is the one that is held
pub kept_change-found : (w : WriterHistory) (number : ℕ) → kept_change w number
    ≡ option_map (λ (e : HeldChange). e.change) (found_at w number)
kept_change-found w zero =
    ap (λ (b : Bool). if b then change_at w.changes zero else None) (zero-is-not-kept w)
    ∙ ap (λ (o : Option HeldChange). option_map (λ (e : HeldChange). e.change) o) (sym (nothing_at_zero w))
kept_change-found w (suc i) =
    let next : suc i ≡ 1 + i = omega arith in
    ap (λ (n : ℕ). kept_change w n) next
    ∙ ((kept-at w i).1
    ∙ (ap (λ (o : Option HeldChange). option_map (λ (e : HeldChange). e.change) o) (sym (found-next w i))
    ∙ ap (λ (n : ℕ). option_map (λ (e : HeldChange). e.change) (found_at w n)) (sym next)))
