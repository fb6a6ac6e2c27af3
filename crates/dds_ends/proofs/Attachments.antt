-- With how many of its writers a reader is matched, after one of its rows has changed.
use Rattle.std.proofs.Common.{◌≡◌, ℕ, zero, suc, ◌+◌, ◌≤◌, Bool, true, false, cond, List, [], ◌∷◌, Option, Some, length, refl, ap, sym, ◌∙◌, arith}
use Rattle.std.specs.Option.{option_map_or}
use Rattle.std.proofs.lemmas.List.{length-map}
use Rattle.std.proofs.lemmas.List.Sums.{count_by-le-length, sum_by-cons}
use Rattle.dds_base.specs.declared.endpoint.Endpoint.{Endpoint}
use Rattle.dds_machine.specs.Matching.{attached_count}
use Rattle.dds_machine.specs.Part.{Attachment, Away, WriterProxy, how_of, is_attached, row_of, same_endpoint, with_row}
use Rattle.dds_ends.specs.declared.matching.WriterName.{WriterName}
use Rattle.dds_ends.proofs.Rows.{AllBegun, IsFirstOf, proxied, writers_of}

-- what one row counts
abbrev pub one_if : Bool → ℕ
one_if b = cond b 1 0

-- the first row, and those after it
pub count_cons : (p : WriterProxy) (ps : List WriterProxy)
    → attached_count (p ∷ ps) ≡ one_if (is_attached p.how) + attached_count ps
count_cons p ps = sum_by-cons (λ (q : WriterProxy). cond (is_attached q.how) 1 0) p ps

kept_count : (change : WriterProxy → WriterProxy) (p : WriterProxy) (ps qs : List WriterProxy) (b : Bool)
    → (change p).how ≡ p.how → attached_count qs ≡ attached_count ps
    → attached_count (cond b (change p ∷ ps) (p ∷ qs)) ≡ attached_count (p ∷ ps)
kept_count change p ps qs true kept h =
    count_cons (change p) ps
    ∙ (ap (λ (a : Attachment). one_if (is_attached a) + attached_count ps) kept ∙ sym (count_cons p ps))
kept_count change p ps qs false kept h =
    count_cons p qs ∙ (ap (λ (n : ℕ). one_if (is_attached p.how) + n) h ∙ sym (count_cons p ps))

-- a change of a row that leaves how the reader stands to its writer
pub count_kept : (change : WriterProxy → WriterProxy) → ((p : WriterProxy) → (change p).how ≡ p.how)
    → (rows : List WriterProxy) (w : Endpoint)
    → attached_count (with_row (λ (p : WriterProxy). p.writer) change rows w) ≡ attached_count rows
count_kept change kept [] w = refl
count_kept change kept (p ∷ ps) w =
    kept_count change p ps (with_row (λ (q : WriterProxy). q.writer) change ps w) (same_endpoint p.writer w) (kept p)
    (count_kept change kept ps w)

set_here : (change : WriterProxy → WriterProxy) (p : WriterProxy) (ps qs : List WriterProxy) (row : Option WriterProxy)
    (a b : Bool) → is_attached (change p).how ≡ a → b ≡ true
    → attached_count (cond b (change p ∷ ps) (p ∷ qs))
    + one_if (is_attached (option_map_or (λ (q : WriterProxy). q.how) (cond b (Some p) row) Away))
    ≡ attached_count (p ∷ ps) + one_if a
set_here change p ps qs row a true is at =
    swapped (one_if (is_attached (change p).how)) (one_if (is_attached p.how)) (attached_count ps) (one_if a)
    (attached_count (change p ∷ ps)) (attached_count (p ∷ ps)) (ap (λ (x : Bool). one_if x) is)
    (count_cons (change p) ps) (count_cons p ps)
  where
    swapped : (i j n k x y : ℕ) → i ≡ k → x ≡ i + n → y ≡ j + n → x + j ≡ y + k
    swapped i j n k x y h first second = omega (arith, h, first, second)
set_here change p ps qs row a false is at = absurd (let clash : false ≡ true = at in cc)

set_later : (change : WriterProxy → WriterProxy) (p : WriterProxy) (ps qs : List WriterProxy)
    (row : Option WriterProxy) (a b : Bool) → b ≡ false
    → attached_count qs + one_if (is_attached (option_map_or (λ (q : WriterProxy). q.how) row Away))
    ≡ attached_count ps + one_if a
    → attached_count (cond b (change p ∷ ps) (p ∷ qs))
    + one_if (is_attached (option_map_or (λ (q : WriterProxy). q.how) (cond b (Some p) row) Away))
    ≡ attached_count (p ∷ ps) + one_if a
set_later change p ps qs row a true at h = absurd (let clash : true ≡ false = at in cc)
set_later change p ps qs row a false at h =
    more (one_if (is_attached p.how)) (attached_count qs)
    (one_if (is_attached (option_map_or (λ (q : WriterProxy). q.how) row Away))) (attached_count ps) (one_if a)
    (attached_count (p ∷ qs)) (attached_count (p ∷ ps)) h (count_cons p qs) (count_cons p ps)
  where
    more : (i m j n k x y : ℕ) → m + j ≡ n + k → x ≡ i + m → y ≡ i + n → x + j ≡ y + k
    more i m j n k x y e first second = omega (arith, e, first, second)

-- a change of the row of a writer, by which the reader is matched with it, or is not
pub count_set : (change : WriterProxy → WriterProxy) (a : Bool) → ((p : WriterProxy) → is_attached (change p).how ≡ a)
    → (rows : List WriterProxy) (w : Endpoint) (k : ℕ) → IsFirstOf (proxied rows) w k
    → attached_count (with_row (λ (p : WriterProxy). p.writer) change rows w) + one_if (is_attached (how_of rows w))
    ≡ attached_count rows + one_if a
count_set change a is [] w k first = absurd first
count_set change a is (p ∷ ps) w zero first =
    set_here change p ps (with_row (λ (q : WriterProxy). q.writer) change ps w)
    (row_of (λ (q : WriterProxy). q.writer) ps w) a (same_endpoint p.writer w) (is p) first
count_set change a is (p ∷ ps) w (suc k) first =
    set_later change p ps (with_row (λ (q : WriterProxy). q.writer) change ps w)
    (row_of (λ (q : WriterProxy). q.writer) ps w) a (same_endpoint p.writer w) first.0
    (count_set change a is ps w k first.1)

-- with all of them, where each place has begun
pub count_begun : (rows : List WriterProxy) → AllBegun rows → attached_count rows ≡ length rows
count_begun [] all = refl
count_begun (p ∷ ps) all =
    count_cons p ps
    ∙ (ap (λ (a : Attachment). one_if (is_attached a) + attached_count ps) all.0
    ∙ more (attached_count ps) (length ps) (count_begun ps all.1))
  where
    more : (m n : ℕ) → m ≡ n → 1 + m ≡ suc n
    more m n e = omega (arith, e)

-- with no more than have names
pub count_few : (rows : List WriterProxy) (names : List WriterName) → proxied rows ≡ writers_of names
    → attached_count rows ≤ length names
count_few rows names same =
    let few : attached_count rows ≤ length rows = count_by-le-length (λ (p : WriterProxy). is_attached p.how) rows in
    let a : length (proxied rows) ≡ length rows = length-map rows (λ (p : WriterProxy). p.writer) in
    let b : length (writers_of names) ≡ length names = length-map names (λ (n : WriterName). n.writer) in
    let c : length (proxied rows) ≡ length (writers_of names) = ap (λ (es : List Endpoint). length es) same in
    omega (arith, few, a, b, c)
