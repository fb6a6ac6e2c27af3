-- Lists of readers with one more, and what is read of them.
use Rattle.std.proofs.Common.{◌≡◌, ℕ, zero, suc, ◌+◌, ◌<◌, ◌≤◌, ◌==◌, Bool, true, false, not, cond, ◌&&◌, ◌||◌, List, [], ◌∷◌, ◌++◌, Option, Some, None, map, take, drop, set, length, get_or, slice_get, refl, ap, sym, ◌∙◌, arith}
use Rattle.std.specs.Prelude.{ℤ, filter, if◌then◌else◌}
use Rattle.std.specs.List.{list_any}
use Rattle.std.proofs.lemmas.Option.{same_Some}
use Rattle.dds_base.specs.declared.endpoint.Endpoint.{Endpoint}
use Rattle.dds_machine.specs.Part.{ReaderProxy, same_endpoint}
use Rattle.dds_machine.proofs.Tables.{same_is}
use Rattle.dds_protocol.proofs.InOrder.{same_self}
use Rattle.dds_protocol.specs.Contact.{Contact}
use Rattle.dds_ends.specs.declared.matching.LastCount.{LastCount}
use Rattle.dds_ends.specs.declared.matching.ReaderName.{ReaderName}
use Rattle.dds_ends.specs.Coming.{set_count, with_place}
use Rattle.dds_ends.specs.MatchedEnds.{AreNamedOnce, has_count, is_named, last_count}

-- what is read where there is no row
abbrev pub no_name : ReaderName
no_name =
    record {
      reader = record { peer = 0; number = 0 };
      guid = record { prefix = record { 0 = [] }; entity = record { 0 = [] } };
    }

abbrev pub no_count : LastCount
no_count = record { reader = record { peer = 0; number = 0 }; count = None }

-- ---- what is written one after the other

pub put_next : {X : Type 0} (xs : List X) (k : ℕ) (x : X) → k < length xs
    → take (k + 1) (set xs k x) ≡ take k xs ++ x ∷ []
put_next [] k x lt = absurd (omega (arith, lt))
put_next (y ∷ ys) zero x lt = refl
put_next (y ∷ ys) (suc k) x lt =
    let next : suc k + 1 ≡ suc (k + 1) = omega arith in
    ap (λ (m : ℕ). take m (set (y ∷ ys) (suc k) x)) next
    ∙ ap (λ zs. y ∷ zs) (put_next ys k x (omega (arith, lt)))

-- ---- what is left

pub left_from : {X : Type 0} (b : X → Bool) (xs : List X) (k : ℕ) (x : X) → slice_get (filter b xs) k ≡ Some x
    → (j : ℕ) × (slice_get xs j ≡ Some x)
left_from b [] k x at = absurd cc
left_from b (y ∷ ys) k x at = by (b y) k at (λ i h. left_from b ys i x h)
  where
    more : (j : ℕ) × (slice_get ys j ≡ Some x) → (j : ℕ) × (slice_get (y ∷ ys) j ≡ Some x)
    more f = (suc f.0, f.1)

    by : (c : Bool) (i : ℕ) → slice_get (cond c (y ∷ filter b ys) (filter b ys)) i ≡ Some x
        → ((i : ℕ) → slice_get (filter b ys) i ≡ Some x → (j : ℕ) × (slice_get ys j ≡ Some x))
        → (j : ℕ) × (slice_get (y ∷ ys) j ≡ Some x)
    by true zero h later = (zero, h)
    by true (suc i) h later = more (later i h)
    by false i h later = more (later i h)

pub none_left : (reader : Endpoint) (es : List Endpoint)
    → list_any (λ e. same_endpoint e reader) (filter (λ e. not (same_endpoint e reader)) es) ≡ false
none_left reader [] = refl
none_left reader (e ∷ es) = by (same_endpoint e reader) refl (none_left reader es)
  where
    by : (b : Bool) → same_endpoint e reader ≡ b
        → list_any (λ x. same_endpoint x reader) (filter (λ x. not (same_endpoint x reader)) es) ≡ false
        → list_any (λ x. same_endpoint x reader)
        (cond (not b) (e ∷ filter (λ x. not (same_endpoint x reader)) es)
        (filter (λ x. not (same_endpoint x reader)) es)) ≡ false
    by true is h = h
    by false is h =
        ap (λ (c : Bool). c || list_any (λ x. same_endpoint x reader) (filter (λ x. not (same_endpoint x reader)) es)) is
        ∙ h

-- ---- one more

pub any_more : {X : Type 0} (f : X → Bool) (xs : List X) (x : X) → list_any f (xs ++ x ∷ []) ≡ (list_any f xs || f x)
any_more f [] x = by (f x)
  where
    by : (b : Bool) → (b || false) ≡ b
    by true = refl
    by false = refl
any_more f (y ∷ ys) x = by (f y) (any_more f ys x)
  where
    by : (b : Bool) → list_any f (ys ++ x ∷ []) ≡ (list_any f ys || f x)
        → (b || list_any f (ys ++ x ∷ [])) ≡ ((b || list_any f ys) || f x)
    by true h = refl
    by false h = h

pub once_more : (names : List ReaderName) (name : ReaderName) → AreNamedOnce names → is_named names name.reader ≡ false
    → AreNamedOnce (names ++ name ∷ [])
once_more [] name once none = (refl, tt)
once_more (n ∷ ns) name once none =
    by (same_endpoint n.reader name.reader) refl none (λ h. once_more ns name once.1 h)
  where
    other : (b : Bool) → same_endpoint name.reader n.reader ≡ b → same_endpoint n.reader name.reader ≡ false
        → same_endpoint name.reader n.reader ≡ false
    other false is apart = is
    other true is apart =
        let same : same_endpoint n.reader name.reader ≡ true =
        ap (λ (e : Endpoint). same_endpoint n.reader e) (same_is name.reader n.reader is) ∙ same_self n.reader in absurd cc

    by : (b : Bool) → same_endpoint n.reader name.reader ≡ b → (b || is_named ns name.reader) ≡ false
        → (is_named ns name.reader ≡ false → AreNamedOnce (ns ++ name ∷ []))
        → AreNamedOnce (n ∷ ns ++ name ∷ [])
    by true is h later = absurd cc
    by false is h later = (
      any_more (λ (m : ReaderName). same_endpoint m.reader n.reader) ns name
          ∙ (ap (λ (b : Bool). b || same_endpoint name.reader n.reader) once.0
          ∙ other (same_endpoint name.reader n.reader) refl is),
      later h,
    )

-- ---- places of counts

pub place_there : (counts : List LastCount) (reader e : Endpoint)
    → has_count (with_place counts reader) e ≡ (has_count counts e || same_endpoint reader e)
place_there counts reader e = by (has_count counts reader) refl
  where
    late : (b : Bool) → (b || true) ≡ true
    late true = refl
    late false = refl

    none : (b : Bool) → (b || false) ≡ b
    none true = refl
    none false = refl

    also : (c : Bool) → same_endpoint reader e ≡ c → has_count counts reader ≡ true
        → has_count counts e ≡ (has_count counts e || c)
    also false apart is = sym (none (has_count counts e))
    also true same is =
        ap (λ (x : Endpoint). has_count counts x) (sym (same_is reader e same)) ∙ (is ∙ sym (late (has_count counts e)))

    by : (b : Bool) → has_count counts reader ≡ b
        → has_count (if b then counts else counts ++ record { reader = reader; count = None } ∷ []) e
        ≡ (has_count counts e || same_endpoint reader e)
    by true is = also (same_endpoint reader e) refl is
    by false is =
        any_more (λ (c : LastCount). same_endpoint c.reader e) counts (record { reader = reader; count = None })

pub counts_stay : (counts : List LastCount) (reader e : Endpoint)
    → last_count (with_place counts reader) e ≡ last_count counts e
counts_stay counts reader e = by (has_count counts reader)
  where
    more : (cs : List LastCount) → last_count (cs ++ record { reader = reader; count = None } ∷ []) e ≡ last_count cs e
    more [] = one (same_endpoint reader e)
      where
        nobody : Option ℤ
        nobody = None

        one : (b : Bool) → (if b then nobody else nobody) ≡ nobody
        one true = refl
        one false = refl
    more (c ∷ cs) = ap (λ (o : Option ℤ). if same_endpoint c.reader e then c.count else o) (more cs)

    by : (b : Bool) → last_count (if b then counts else counts ++ record { reader = reader; count = None } ∷ []) e
        ≡ last_count counts e
    by true = refl
    by false = more counts

pub answered_at : (answered : Endpoint → Contact) (rows : List ReaderProxy) (row : ℕ) (reader : Endpoint)
    → slice_get (map (λ (p : ReaderProxy). p.reader) rows) row ≡ Some reader
    → get_or (map (λ (p : ReaderProxy). (answered p.reader).count) rows) row None ≡ (answered reader).count
answered_at answered [] row reader at = absurd cc
answered_at answered (p ∷ ps) zero reader at =
    ap (λ (r : Endpoint). (answered r).count) (same_Some p.reader reader at)
answered_at answered (p ∷ ps) (suc row) reader at = answered_at answered ps row reader at

-- ---- counts, one after the other

pub count_from : (counts : List LastCount) (row : ℕ) (reader : Endpoint) (d : LastCount) (b : Bool)
    → row < length counts → same_endpoint (get_or counts row d).reader reader ≡ b
    → last_count (drop row counts) reader
    ≡ (if b then (get_or counts row d).count else last_count (drop (row + 1) counts) reader)
count_from [] row reader d b lt is = absurd (omega (arith, lt))
count_from (c ∷ cs) zero reader d b lt is =
    ap (λ (x : Bool). if x then c.count else last_count cs reader) is
count_from (c ∷ cs) (suc row) reader d b lt is =
    let next : suc row + 1 ≡ suc (row + 1) = omega arith in
    count_from cs row reader d b (omega (arith, lt)) is
    ∙ ap (λ (k : ℕ). if b then (get_or cs row d).count else last_count (drop k (c ∷ cs)) reader) (sym next)

abbrev counted_as : LastCount → Option ℤ → LastCount
counted_as c count = record c { count = count }

pub set_here : (counts : List LastCount) (row : ℕ) (reader : Endpoint) (count : Option ℤ) (d : LastCount)
    → row < length counts → same_endpoint (get_or counts row d).reader reader ≡ true
    → take row counts ++ set_count (drop row counts) reader count
    ≡ set counts row (counted_as (get_or counts row d) count)
set_here [] row reader count d lt is = absurd (omega (arith, lt))
set_here (c ∷ cs) zero reader count d lt is =
    ap (λ (x : Bool). if x then counted_as c count ∷ cs else c ∷ set_count cs reader count) is
set_here (c ∷ cs) (suc row) reader count d lt is =
    ap (λ (xs : List LastCount). c ∷ xs) (set_here cs row reader count d (omega (arith, lt)) is)

pub set_later : (counts : List LastCount) (row : ℕ) (reader : Endpoint) (count : Option ℤ) (d : LastCount)
    → row < length counts → same_endpoint (get_or counts row d).reader reader ≡ false
    → take row counts ++ set_count (drop row counts) reader count
    ≡ take (row + 1) counts ++ set_count (drop (row + 1) counts) reader count
set_later [] row reader count d lt is = absurd (omega (arith, lt))
set_later (c ∷ cs) zero reader count d lt is =
    ap (λ (x : Bool). if x then counted_as c count ∷ cs else c ∷ set_count cs reader count) is
set_later (c ∷ cs) (suc row) reader count d lt is =
    let next : suc row + 1 ≡ suc (row + 1) = omega arith in
    ap (λ (xs : List LastCount). c ∷ xs) (set_later cs row reader count d (omega (arith, lt)) is)
    ∙ ap (λ (k : ℕ). take k (c ∷ cs) ++ set_count (drop k (c ∷ cs)) reader count) (sym next)

pub nothing_left : {X : Type 0} (xs : List X) (n : ℕ) → length xs ≤ n → drop n xs ≡ []
nothing_left [] zero le = refl
nothing_left [] (suc n) le = refl
nothing_left (x ∷ xs) zero le = absurd (omega (arith, le))
nothing_left (x ∷ xs) (suc n) le = nothing_left xs n (omega (arith, le))

-- ---- what is written, and what is read

pub same_by_parts : (a b : Endpoint) → same_endpoint a b ≡ (a.peer == b.peer && a.number == b.number)
same_by_parts a b = by (a.peer == b.peer) (a.number == b.number)
  where
    by : (p q : Bool) → (if p then q else false) ≡ (p && q)
    by true q = refl
    by false q = refl

pub as_many_counts : (counts : List LastCount) (reader : Endpoint) (count : Option ℤ)
    → length (set_count counts reader count) ≡ length counts
as_many_counts [] reader count = refl
as_many_counts (c ∷ cs) reader count = by (same_endpoint c.reader reader) (as_many_counts cs reader count)
  where
    by : (b : Bool) → length (set_count cs reader count) ≡ length cs
        → length (if b then counted_as c count ∷ cs else c ∷ set_count cs reader count) ≡ suc (length cs)
    by true h = refl
    by false h = ap (λ (n : ℕ). suc n) h
