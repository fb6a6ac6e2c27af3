-- What a writer does not keep, a matched reader has acknowledged, or it is dropped.
use Rattle.std.proofs.Common.{◌≡◌, ◌⊎◌, ℕ, zero, suc, ◌+◌, ◌<◌, ◌≤◌, Bool, true, false, cond, List, [], ◌∷◌, Option, Some, None, map, max, min, get_or, length, refl, subst, ap, sym, ◌∙◌, inl, inr, ⊎_elim, arith}
use Rattle.std.specs.Prelude.{find, nat_lt}
use Rattle.std.specs.Option.{option_map, option_map_or, unwrap_or}
use Rattle.std.proofs.lemmas.Bool.{cases_lt}
use Rattle.std.proofs.lemmas.Bool.Decides.{nat_tests}
use Rattle.std.proofs.lemmas.Option.{same_Some}
use Rattle.dds_base.specs.Kept.{WriterHistory, numbers_from, is_kept, is_dropped, first_kept}
use Rattle.rtps_writer.proofs.AnswerFacts.{unkept-is-dropped}
use Rattle.dds_base.specs.declared.endpoint.Endpoint.{Endpoint}
use Rattle.dds_machine.specs.Part.{ReaderProxy, Writer, same_endpoint, row_of, acknowledged_of, owed_from, writer_changes, history_of, IsBelow}
use Rattle.dds_protocol.specs.DueMessages.{owed_to, begins_at}
use Rattle.dds_protocol.proofs.Framing.{number_or_not}
use Rattle.dds_protocol.proofs.Owing.{owed_apart}

-- the acknowledgements of these rows
abbrev pub counts : List ReaderProxy → List ℕ
counts rows = map (λ (p : ReaderProxy). p.acknowledged) rows

-- one of them stands at this index
abbrev pub StandsIn : List ℕ → ℕ → Type 0
StandsIn ns n = (i : ℕ) × (i < length ns) × (get_or ns i 0 ≡ n)

row_here : (p : ReaderProxy) (ps : List ReaderProxy) (r : Endpoint) (a : ℕ) (b : Bool)
    → (acknowledged_of ps r ≡ Some a → StandsIn (counts ps) a)
    → option_map (λ (q : ReaderProxy). q.acknowledged)
    (cond b (Some p) (row_of (λ (q : ReaderProxy). q.reader) ps r)) ≡ Some a → StandsIn (counts (p ∷ ps)) a
row_here p ps r a true later h = (0, omega arith, same_Some p.acknowledged a h)
row_here p ps r a false later h = let at = later h in let lt = at.1 in (suc at.0, omega (arith, lt), at.2)

pub row_index : (rows : List ReaderProxy) (r : Endpoint) (a : ℕ) → acknowledged_of rows r ≡ Some a
    → StandsIn (counts rows) a
row_index [] r a h = absurd cc
row_index (p ∷ ps) r a h = row_here p ps r a (same_endpoint p.reader r) (λ later. row_index ps r a later) h

-- what is not kept, and this reader has not acknowledged, is dropped
pub unkept_dropped : (w : Writer) (r : Endpoint) (a n : ℕ) → acknowledged_of w.readers r ≡ Some a → a ≤ n → 1 ≤ n
    → n ≤ length (writer_changes w) → is_kept (history_of w) n ≡ false → is_dropped (history_of w) n ≡ true
unkept_dropped w r a n is low positive within unkept =
    let row = row_index w.readers r a is in
    let at = row.2 in
    unkept-is-dropped (history_of w) row.0 n row.1 (omega (arith, at, low)) (omega (arith, positive)) within unkept

-- numbers below the first that passes do not pass
above : (m k : ℕ) → m ≤ k → (k ≡ m → ⊥) → m + 1 ≤ k
above zero zero le not = absurd (not refl)
above zero (suc k) le not = omega arith
above (suc m) zero le not = absurd (omega (arith, le))
above (suc m) (suc k) le not = let less = above m k (omega (arith, le)) (λ e. not (ap suc e)) in omega (arith, less)

below_here : (p : ℕ → Bool) (from count n : ℕ) (b : Bool) → p from ≡ b → from ≤ n
    → (from + 1 ≤ n → n < unwrap_or (find p (numbers_from (from + 1) count)) ((from + 1) + count)
    → (p n ≡ false) × (n < (from + 1) + count))
    → n < unwrap_or (cond b (Some from) (find p (numbers_from (from + 1) count))) (from + suc count)
    → (p n ≡ false) × (n < from + suc count)
below_here p from count n true is low later h = absurd (omega (arith, low, h))
below_here p from count n false is low later h =
    ⊎_elim (λ (same : n ≡ from). (ap p same ∙ is, omega (arith, same)))
    (λ other.
    let over : from + suc count ≡ (from + 1) + count = omega arith in
    let found =
    later (above from n low other)
    (subst (λ (m : ℕ). n < unwrap_or (find p (numbers_from (from + 1) count)) m) over h) in
    let most = found.1 in (found.0, omega (arith, most)))
    (number_or_not n from)

below_found : (p : ℕ → Bool) (from count n : ℕ) → from ≤ n → n < unwrap_or (find p (numbers_from from count))
    (from + count) → (p n ≡ false) × (n < from + count)
below_found p from zero n low h = absurd (omega (arith, low, h))
below_found p from (suc count) n low h =
    below_here p from count n (p from) refl low (λ more k. below_found p (from + 1) count n more k) h

-- a number below the first kept one is not kept, and not past the last
pub below_first : (w : WriterHistory) (n : ℕ) → 1 ≤ n → n < first_kept w
    → (is_kept w n ≡ false) × (n ≤ length w.changes)
below_first w n low h =
    let count : length w.changes + 1 ≡ 1 + length w.changes = omega arith in
    let found = below_found (λ k. is_kept w k) 1 (length w.changes) n low
    (subst (λ (m : ℕ). n < unwrap_or (find (λ k. is_kept w k) (numbers_from 1 (length w.changes))) m) count h) in
    let most = found.1 in (found.0, omega (arith, most))

-- the reader may pass over the number: it is dropped, or not owed to this reader, or this one has acknowledged it
abbrev pub Passes : Writer → Endpoint → ℕ → Type 0
Passes w r n =
    (is_dropped (history_of w) n ≡ true) ⊎ (n < owed_from w r) ⊎ IsBelow n (acknowledged_of w.readers r)

-- so may one with a row over the numbers below the first kept one
row_passes : (w : Writer) (r : Endpoint) (a n : ℕ) → acknowledged_of w.readers r ≡ Some a → 1 ≤ n
    → n < first_kept (history_of w) → Passes w r n
row_passes w r a n is low h = by (nat_lt n a) refl
  where
    by : (b : Bool) → nat_lt n a ≡ b → Passes w r n
    by true e = let less : n < a = grind (arith, nat_tests) in
        inr (inr (subst (λ (o : Option ℕ). IsBelow n o) (sym is) less))
    by false e =
        let most : a ≤ n = grind (arith, nat_tests) in
        let below = below_first (history_of w) n low h in
        inl (unkept_dropped w r a n is most low below.1 below.0)

-- and any other one, which is owed none of them
pub below_first_passes : (w : Writer) (r : Endpoint) (n : ℕ) → 1 ≤ n → n < first_kept (history_of w) → Passes w r n
below_first_passes w r n low h = row (acknowledged_of w.readers r) refl
  where
    row : (o : Option ℕ) → acknowledged_of w.readers r ≡ o → Passes w r n
    row None none =
        let apart = owed_apart w r none in
        let below = (below_first (history_of w) n low h).1 in
        inr (inl (omega (arith, apart, below)))
    row (Some a) is = row_passes w r a n is low h

-- so may a reader over the numbers below where a HEARTBEAT to it begins
pub below_begin_passes : (w : Writer) (r : Endpoint) (n : ℕ) → 1 ≤ n → n < begins_at w r → Passes w r n
below_begin_passes w r n low h = by (row_of (λ (p : ReaderProxy). p.reader) w.readers r) refl h
  where
    first : ℕ
    first = first_kept (history_of w)

    last : ℕ
    last = length (writer_changes w)

    by : (o : Option ReaderProxy) → row_of (λ (p : ReaderProxy). p.reader) w.readers r ≡ o
        → n < max first (option_map_or (owed_to w) o 0) → Passes w r n
    by None none less = below_first_passes w r n low (omega (arith, less))
    by (Some p) row less =
        let owed : owed_from w r ≡ owed_to w p =
        ap (λ (o : Option ReaderProxy). min (option_map_or (λ (q : ReaderProxy). q.first) o (last + 1)) (last + 1)) row in
        ⊎_elim (λ below. below_first_passes w r n low below) (λ more. inr (inl (omega (arith, owed, less, more))))
        (cases_lt n first)
