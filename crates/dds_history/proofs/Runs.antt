-- How many changes of a key a history holds, and when one more of it drops one.
use Rattle.std.proofs.Common.{◌≡◌, ℕ, ◌+◌, ◌-◌, ◌<◌, ◌≤◌, min, Bool, true, false, cond, ◌&&◌, ◌||◌, List, [], ◌∷◌, length, refl, ap, sym, ◌∙◌, arith}
use Rattle.std.specs.Prelude.{if◌then◌else◌, ◌==◌, nat_lt, nat_le, filter}
use Rattle.std.proofs.lemmas.Bool.Decides.{nat_tests}
use Rattle.dds_base.specs.declared.key.Key.{Key}
use Rattle.dds_base.specs.declared.change.Change.{Change}
use Rattle.dds_base.specs.declared.qos.HistoryQos.{HistoryQos}
use Rattle.dds_base.specs.declared.qos.HistoryQos.TheVariants.{KeepAll, KeepLast}
use Rattle.dds_base.specs.Happening.{same_key}
use Rattle.dds_base.specs.Kept.{WriterHistory}
use Rattle.dds_base.proofs.KeyLaws.{key-same}
use Rattle.dds_history.specs.Held.{AreRuns, HeldChange, IsNext, all_from, awaits, drops, granted, held_of, is_held, lives, remaining_before}
use Rattle.dds_history.proofs.Aging.{of_key}
use Rattle.dds_history.proofs.Numbering.{count_cons, one_if}

either_of : (a b c d : Bool) → (a ≡ true → c ≡ true) → (b ≡ true → d ≡ true) → (a || b) ≡ true → (c || d) ≡ true
either_of true b c d f g h = let e = f refl in cc
either_of false b true d f g h = refl
either_of false b false d f g h = g h

-- what is awaited stays so for later numbers
awaited_later : (acks : List ℕ) (n m : ℕ) → n ≤ m → awaits acks n ≡ true → awaits acks m ≡ true
awaited_later [] n m le h = h
awaited_later (a ∷ acks) n m le h =
    either_of (nat_le a n) (awaits acks n) (nat_le a m) (awaits acks m) (λ e. grind (arith, nat_tests))
    (awaited_later acks n m le) h

not_true : (a b : Bool) → (a ≡ true → b ≡ true) → b ≡ false → a ≡ false
not_true true b f h = let e = f refl in cc
not_true false b f h = refl

abbrev held_from : ℕ → List ℕ → ℕ → List Change → List HeldChange
held_from depth acks n cs = filter (is_held acks) (all_from (KeepLast depth) n cs)

abbrev head_of : ℕ → ℕ → Change → List Change → HeldChange
head_of depth n c cs = record { number = n; change = c; remaining = depth - of_key c.key cs }

abbrev IsRun : ℕ → List ℕ → ℕ → List Change → Key → Type 0
IsRun depth acks n cs key =
    (drops key (held_from depth acks n cs)
    ≡ (if nat_lt 0 depth && lives key (held_from depth acks n cs) == depth then 1 else 0))
    × (awaits acks n ≡ true → lives key (held_from depth acks n cs) ≡ min depth (of_key key cs))

nothing_full : (depth : ℕ) → ◌≡◌ {A = ℕ} 0 (if nat_lt 0 depth && 0 == depth then 1 else 0)
nothing_full depth = step (nat_lt 0 depth && 0 == depth) refl
  where
    step : (b : Bool) → (nat_lt 0 depth && 0 == depth) ≡ b → ◌≡◌ {A = ℕ} 0 (if b then 1 else 0)
    step true is = absurd (grind (arith, nat_tests))
    step false is = refl

-- the first of those of the key is dropped exactly if there are as many as can be
full_first : (depth later lives : ℕ) → lives ≡ later → later < depth
    → one_if (nat_le (depth - later) 1) + 0 ≡ (if nat_lt 0 depth && 1 + lives == depth then 1 else 0)
full_first depth later lives same lt = grind (arith, nat_tests)

not_full : (depth lives : ℕ) → lives < depth → ◌≡◌ {A = ℕ} (if nat_lt 0 depth && lives == depth then 1 else 0) 0
not_full depth lives lt = grind (arith, nat_tests)

run_from : (depth : ℕ) (acks : List ℕ) (n : ℕ) (cs : List Change) (key : Key) → IsRun depth acks n cs key
run_from depth acks n [] key = (nothing_full depth, λ a. omega arith)
run_from depth acks n (c ∷ cs) key =
    step (nat_lt 0 (depth - of_key c.key cs)) refl (awaits acks n) refl (same_key c.key key) refl
    (run_from depth acks (n + 1) cs key)
  where
    step : (l : Bool) → nat_lt 0 (depth - of_key c.key cs) ≡ l → (a : Bool) → awaits acks n ≡ a
        → (s : Bool) → same_key c.key key ≡ s → IsRun depth acks (n + 1) cs key
        → (drops key (cond (l && a) ((head_of depth n c cs) ∷ (held_from depth acks (n + 1) cs)) (held_from depth acks (n + 1) cs))
        ≡ (if nat_lt 0 depth && lives key (cond (l && a) ((head_of depth n c cs) ∷ (held_from depth acks (n + 1) cs)) (held_from depth acks (n + 1) cs)) == depth then 1 else 0))
        × (a ≡ true → lives key (cond (l && a) ((head_of depth n c cs) ∷ (held_from depth acks (n + 1) cs)) (held_from depth acks (n + 1) cs)) ≡ min depth (of_key key (c ∷ cs)))
    step true live true awaited true same run =
        let one : one_if (same_key c.key key) ≡ 1 = ap one_if same in
        let later : lives key (held_from depth acks (n + 1) cs) ≡ min depth (of_key key cs) =
        run.1 (awaited_later acks n (n + 1) (omega arith) awaited) in
        let own : of_key c.key cs ≡ of_key key cs = ap (λ (k : Key). of_key k cs) (key-same c.key key same) in
        let few : of_key key cs < depth = grind (arith, nat_tests) in
        let exact : lives key (held_from depth acks (n + 1) cs) ≡ of_key key cs = omega (arith, later, few) in
        let none : drops key (held_from depth acks (n + 1) cs) ≡ 0 = run.0 ∙ not_full depth (lives key (held_from depth acks (n + 1) cs)) (omega (arith, exact, few)) in
        let count : lives key ((head_of depth n c cs) ∷ (held_from depth acks (n + 1) cs)) ≡ 1 + lives key (held_from depth acks (n + 1) cs) =
        omega (arith, one, count_cons (λ (e : HeldChange). same_key e.change.key key) (head_of depth n c cs) (held_from depth acks (n + 1) cs)) in
        let dropped : drops key ((head_of depth n c cs) ∷ (held_from depth acks (n + 1) cs)) ≡ one_if (nat_le (depth - of_key c.key cs) 1) + 0 =
        let head : one_if (same_key c.key key && nat_le (depth - of_key c.key cs) 1)
        ≡ one_if (nat_le (depth - of_key c.key cs) 1) =
        ap (λ (b : Bool). one_if (b && nat_le (depth - of_key c.key cs) 1)) same in
        omega (
          arith,
          head,
          none,
          count_cons (λ (e : HeldChange). same_key e.change.key key && nat_le e.remaining 1) (head_of depth n c cs) (held_from depth acks (n + 1) cs),
        ) in (
          dropped
              ∙ (full_first depth (of_key c.key cs) (lives key (held_from depth acks (n + 1) cs)) (exact ∙ sym own) (omega (arith, own, few))
              ∙ ap (λ (k : ℕ). if nat_lt 0 depth && k == depth then 1 else 0) (sym count)),
          λ a. omega (arith, count, exact, few, one, count_cons (λ (x : Change). same_key x.key key) c cs),
        )
    step true live true awaited false other run =
        let none : one_if (same_key c.key key) ≡ 0 = ap one_if other in
        let count : lives key ((head_of depth n c cs) ∷ (held_from depth acks (n + 1) cs)) ≡ lives key (held_from depth acks (n + 1) cs) =
        omega (arith, none, count_cons (λ (e : HeldChange). same_key e.change.key key) (head_of depth n c cs) (held_from depth acks (n + 1) cs)) in
        let dropped : drops key ((head_of depth n c cs) ∷ (held_from depth acks (n + 1) cs)) ≡ drops key (held_from depth acks (n + 1) cs) =
        let head : one_if (same_key c.key key && nat_le (depth - of_key c.key cs) 1) ≡ 0 =
        ap (λ (b : Bool). one_if (b && nat_le (depth - of_key c.key cs) 1)) other in
        omega (
          arith,
          head,
          count_cons (λ (e : HeldChange). same_key e.change.key key && nat_le e.remaining 1) (head_of depth n c cs) (held_from depth acks (n + 1) cs),
        ) in
        let later = run.1 (awaited_later acks n (n + 1) (omega arith) awaited) in (
          dropped ∙ (run.0 ∙ ap (λ (k : ℕ). if nat_lt 0 depth && k == depth then 1 else 0) (sym count)),
          λ a. omega (arith, count, later, none, count_cons (λ (x : Change). same_key x.key key) c cs),
        )
    step true live false unawaited s same run = (run.0, λ a. cc)
    step false dead true awaited true same run =
        let one : one_if (same_key c.key key) ≡ 1 = ap one_if same in
        let own : of_key c.key cs ≡ of_key key cs = ap (λ (k : Key). of_key k cs) (key-same c.key key same) in
        let many : depth ≤ of_key key cs = grind (arith, nat_tests) in
        let later = run.1 (awaited_later acks n (n + 1) (omega arith) awaited) in (
          run.0,
          λ a. omega (arith, later, many, one, count_cons (λ (x : Change). same_key x.key key) c cs),
        )
    step false dead true awaited false other run =
        let none : one_if (same_key c.key key) ≡ 0 = ap one_if other in
        let later = run.1 (awaited_later acks n (n + 1) (omega arith) awaited) in (
          run.0,
          λ a. omega (arith, later, none, count_cons (λ (x : Change). same_key x.key key) c cs),
        )
    step false dead false unawaited s same run = (run.0, λ a. cc)

pub runs_of : (w : WriterHistory) → AreRuns w.policy (held_of w)
runs_of w = by w.policy
  where
    by : (p : HistoryQos) → AreRuns p (filter (is_held w.acknowledged) (all_from p 1 w.changes))
    by KeepAll = tt
    by (KeepLast depth) = λ key. (run_from depth w.acknowledged 1 w.changes key).0

-- ---- where one more would not be kept, nothing is

grants : (p : HistoryQos) (later : List Change) (key : Key) → remaining_before p later key ≤ granted p
grants KeepAll later key = omega arith
grants (KeepLast depth) later key = omega arith

neither : (a b c d : Bool) → (a && b) ≡ false → (a ≡ false → c ≡ false) → (b ≡ false → d ≡ false) → (c && d) ≡ false
neither true b true d h f g = g h
neither true b false d h f g = refl
neither false b c d h f g = let e = f refl in cc

unheld : (p : HistoryQos) (acks : List ℕ) (m n : ℕ) (cs : List Change) → n + length cs ≤ m
    → (nat_lt 0 (granted p) && awaits acks m) ≡ false → filter (is_held acks) (all_from p n cs) ≡ []
unheld p acks m n [] le h = refl
unheld p acks m n (c ∷ cs) le h =
    let at_most = grants p cs c.key in
    let out : (nat_lt 0 (remaining_before p cs c.key) && awaits acks n) ≡ false =
    neither (nat_lt 0 (granted p)) (awaits acks m) (nat_lt 0 (remaining_before p cs c.key)) (awaits acks n) h
    (λ e. grind (arith, nat_tests))
    (λ e. not_true (awaits acks n) (awaits acks m) (awaited_later acks n m (omega arith)) e) in
    ap (λ (b : Bool). cond b (record { number = n; change = c; remaining = remaining_before p cs c.key }
    ∷ filter (is_held acks) (all_from p (n + 1) cs)) (filter (is_held acks) (all_from p (n + 1) cs))) out
    ∙ unheld p acks m (n + 1) cs (omega arith) h

pub is_next : (w : WriterHistory) → IsNext w.policy (held_of w) (awaits w.acknowledged (length w.changes + 1))
is_next w = record {
  runs = runs_of w;
  none = λ h. unheld w.policy w.acknowledged (length w.changes + 1) 1 w.changes (omega arith) h;
}
