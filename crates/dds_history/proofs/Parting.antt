-- What is held once a reader is matched, or is not matched any more.
use Rattle.std.proofs.Common.{◌≡◌, ℕ, zero, suc, ◌+◌, ◌<◌, ◌≤◌, Bool, true, false, ◌&&◌, ◌||◌, cond, min, List, [], ◌∷◌, ◌++◌, length, refl, ap, sym, ◌∙◌, arith}
use Rattle.std.specs.Prelude.{nat_lt, nat_le, filter}
use Rattle.std.specs.List.{reduce, remove}
use Rattle.std.specs.Option.{unwrap_or}
use Rattle.std.proofs.lemmas.Bool.Decides.{nat_tests}
use Rattle.dds_base.specs.declared.change.Change.{Change}
use Rattle.dds_base.specs.declared.qos.HistoryQos.{HistoryQos}
use Rattle.dds_base.specs.Kept.{WriterHistory}
use Rattle.dds_history.specs.Entries.{Holds, KeptState, parts, shown}
use Rattle.dds_history.specs.Held.{HeldChange, all_from, awaits, is_held, remaining_before}
use Rattle.dds_history.specs.Readers.{joined, left}
use Rattle.dds_history.specs.Standing.{Held, StandsFor, kept_in}
use Rattle.dds_history.proofs.Rising.{awaited-from_least}

-- ---- one more reader

or_false : (a b : Bool) → b ≡ false → (a || b) ≡ a
or_false true b h = refl
or_false false b h = h

-- one that has acknowledged more awaits no number that others don't
awaits_more : (acks : List ℕ) (next n : ℕ) → n < next → awaits (acks ++ next ∷ []) n ≡ awaits acks n
awaits_more [] next n lt = or_false (nat_le next n) false refl ∙ grind (arith, nat_tests)
awaits_more (a ∷ acks) next n lt = ap (λ (b : Bool). nat_le a n || b) (awaits_more acks next n lt)

held_more : (policy : HistoryQos) (acks : List ℕ) (next n : ℕ) (cs : List Change) → n + length cs ≤ next
    → filter (is_held acks) (all_from policy n cs) ≡ filter (is_held (acks ++ next ∷ [])) (all_from policy n cs)
held_more policy acks next n [] le = refl
held_more policy acks next n (c ∷ cs) le =
    let remaining : ℕ = remaining_before policy cs c.key in
    let e : HeldChange = record { number = n; change = c; remaining = remaining } in
    ap (λ (es : List HeldChange). cond (is_held acks e) (e ∷ es) es)
    (held_more policy acks next (n + 1) cs (omega (arith, le)))
    ∙ ap (λ (b : Bool). cond (nat_lt 0 remaining && b)
    (e ∷ filter (is_held (acks ++ next ∷ [])) (all_from policy (n + 1) cs))
    (filter (is_held (acks ++ next ∷ [])) (all_from policy (n + 1) cs)))
    (sym (awaits_more acks next n (omega (arith, le))))

-- what is kept is so of one reader more, from whom on no number was made yet
pub stands-joined : (h : Held) (w : WriterHistory) (next : ℕ) → StandsFor h w → next ≡ h.last + 1
    → StandsFor (record h { acknowledged = h.acknowledged ++ next ∷ [] }) (joined w)
stands-joined h w next s is =
    let at : next ≡ length w.changes + 1 = omega (arith, is, s.last) in
    record {
      policy = s.policy;
      max_samples = s.max_samples;
      last = s.last;
      few = s.few;
      acknowledged = ap (λ (a : List ℕ). a ++ next ∷ []) s.acknowledged
          ∙ ap (λ (n : ℕ). w.acknowledged ++ n ∷ []) at;
      shown = s.shown ∙ held_more w.policy w.acknowledged (length w.changes + 1) 1 w.changes (omega arith);
      holds = s.holds;
    }

-- ---- one fewer

or_left : (a b : Bool) → (a || b) ≡ false → a ≡ false
or_left true b h = absurd cc
or_left false b h = refl

or_right : (a b : Bool) → (a || b) ≡ false → b ≡ false
or_right true b h = absurd cc
or_right false b h = h

or_both : (a b : Bool) → a ≡ false → b ≡ false → (a || b) ≡ false
or_both a b e f = ap (λ (x : Bool). x || b) e ∙ f

-- what nobody awaits is awaited by none of the others
awaits_fewer : (acks : List ℕ) (reader n : ℕ) → awaits acks n ≡ false → awaits (remove acks reader) n ≡ false
awaits_fewer [] zero n h = refl
awaits_fewer [] (suc reader) n h = refl
awaits_fewer (a ∷ acks) zero n h = or_right (nat_le a n) (awaits acks n) h
awaits_fewer (a ∷ acks) (suc reader) n h =
    or_both (nat_le a n) (awaits (remove acks reader) n) (or_left (nat_le a n) (awaits acks n) h)
    (awaits_fewer acks reader n (or_right (nat_le a n) (awaits acks n) h))

-- below the next number, the others await those from the least of their acknowledgements on
awaited_by : (rest : List ℕ) (next n : ℕ) → n < next → nat_le (unwrap_or (reduce min rest) next) n ≡ awaits rest n
awaited_by [] next n lt = grind (arith, nat_tests)
awaited_by (a ∷ rest) next n lt = sym (awaited-from_least (a ∷ rest) next n (omega arith))

-- the first of a list that passes two tests, by whether it passes them
passes : (left awaited others first : Bool) (e : HeldChange) (kept passed : List HeldChange) → first ≡ others
    → (awaited ≡ false → others ≡ false)
    → (p : HeldChange → Bool) → p e ≡ first → filter p kept ≡ passed
    → filter p (cond (left && awaited) (e ∷ kept) kept) ≡ cond (left && others) (e ∷ passed) passed
passes true true others first e kept passed is out p at rest =
    ap (λ (b : Bool). cond b (e ∷ filter p kept) (filter p kept)) (at ∙ is)
    ∙ ap (λ (es : List HeldChange). cond others (e ∷ es) es) rest
passes true false others first e kept passed is out p at rest =
    rest ∙ sym (ap (λ (b : Bool). cond b (e ∷ passed) passed) (out refl))
passes false awaited others first e kept passed is out p at rest = rest

held_fewer : (policy : HistoryQos) (acks : List ℕ) (reader next n : ℕ) (cs : List Change) → n + length cs ≤ next
    → filter (λ (e : HeldChange). nat_le (unwrap_or (reduce min (remove acks reader)) next) e.number)
    (filter (is_held acks) (all_from policy n cs))
    ≡ filter (is_held (remove acks reader)) (all_from policy n cs)
held_fewer policy acks reader next n [] le = refl
held_fewer policy acks reader next n (c ∷ cs) le =
    let rest : List ℕ = remove acks reader in
    let remaining : ℕ = remaining_before policy cs c.key in
    let e : HeldChange = record { number = n; change = c; remaining = remaining } in
    passes (nat_lt 0 remaining) (awaits acks n) (awaits rest n) (nat_le (unwrap_or (reduce min rest) next) n) e
    (filter (is_held acks) (all_from policy (n + 1) cs)) (filter (is_held rest) (all_from policy (n + 1) cs))
    (awaited_by rest next n (omega (arith, le))) (awaits_fewer acks reader n)
    (λ (x : HeldChange). nat_le (unwrap_or (reduce min rest) next) x.number) refl
    (held_fewer policy acks reader next (n + 1) cs (omega (arith, le)))

-- what is kept once all below the least of the other acknowledgements was let go of is so of the other readers
pub stands-left : (h : Held) (w : WriterHistory) (reader next first : ℕ) (k : KeptState) → StandsFor h w
    → next ≡ h.last + 1 → first ≡ unwrap_or (reduce min (remove h.acknowledged reader)) next
    → k.policy ≡ h.policy
    → shown k ≡ filter (λ e. nat_le first e.number) (shown (kept_in h)) → Holds h.last k
    → StandsFor (record h { policy = k.policy; kept = parts k; acknowledged = remove h.acknowledged reader })
    (left w reader)
stands-left h w reader next first k s is at same rest holds =
    let next_is : next ≡ length w.changes + 1 = omega (arith, is, s.last) in
    let first_is : first ≡ unwrap_or (reduce min (remove w.acknowledged reader)) (length w.changes + 1) =
    at
    ∙ (ap (λ (a : List ℕ). unwrap_or (reduce min (remove a reader)) next) s.acknowledged
    ∙ ap (λ (n : ℕ). unwrap_or (reduce min (remove w.acknowledged reader)) n) next_is) in
    record {
      policy = same ∙ s.policy;
      max_samples = s.max_samples;
      last = s.last;
      few = s.few;
      acknowledged = ap (λ (a : List ℕ). remove a reader) s.acknowledged;
      shown =
          rest
          ∙ (ap (λ (n : ℕ). filter (λ (e : HeldChange). nat_le n e.number) (shown (kept_in h))) first_is
          ∙ (ap (λ (es : List HeldChange). filter (λ (e : HeldChange). nat_le
          (unwrap_or (reduce min (remove w.acknowledged reader)) (length w.changes + 1)) e.number) es) s.shown
          ∙ held_fewer w.policy w.acknowledged reader (length w.changes + 1) 1 w.changes (omega arith)));
      holds = holds;
    }
