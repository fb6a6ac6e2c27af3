-- Lists of readers without one of them.
use Rattle.std.proofs.Common.{◌≡◌, ℕ, zero, suc, ◌+◌, ◌≤◌, ◌==◌, Bool, true, false, not, cond, ◌&&◌, ◌||◌, List, [], ◌∷◌, Option, Some, map, length, slice_get, refl, ap, sym, ◌∙◌, subst, arith, eqb-true, eq-eqb}
use Rattle.std.specs.Prelude.{ℤ, filter, if◌then◌else◌}
use Rattle.std.specs.List.{AllByRecursion, list_any, remove}
use Rattle.std.proofs.lemmas.Option.{same_Some}
use Rattle.dds_base.specs.declared.endpoint.Endpoint.{Endpoint}
use Rattle.dds_machine.specs.Part.{peers_of, same_endpoint}
use Rattle.dds_machine.proofs.Tables.{same_is}
use Rattle.dds_protocol.proofs.InOrder.{same_self}
use Rattle.dds_protocol.proofs.PeersOf.{has, has_peer}
use Rattle.dds_ends.specs.declared.matching.LastCount.{LastCount}
use Rattle.dds_ends.specs.declared.matching.ReaderName.{ReaderName}
use Rattle.dds_ends.specs.Coming.{set_count, without}
use Rattle.dds_ends.specs.MatchedEnds.{AreNamedOnce, has_count, is_named, last_count, readers_of}
use Rattle.dds_ends.proofs.FirstPeers.{Differ, map-filter, peers_differ}

abbrev other_end : Endpoint → Endpoint → Bool
other_end reader e = not (same_endpoint e reader)

-- ---- who is left

-- the ends of those that are left are the ends that are left
pub ends_left : {X : Type 0} (f : X → Endpoint) (reader : Endpoint) (xs : List X)
    → map f (filter (λ x. not (same_endpoint (f x) reader)) xs)
    ≡ filter (λ e. not (same_endpoint e reader)) (map f xs)
ends_left f reader xs = map-filter f (λ e. not (same_endpoint e reader)) xs

-- where the reader is not among them, all are left
pub all_left : {X : Type 0} (f : X → Endpoint) (reader : Endpoint) (xs : List X)
    → list_any (λ e. same_endpoint e reader) (map f xs) ≡ false
    → filter (λ x. not (same_endpoint (f x) reader)) xs ≡ xs
all_left f reader [] none = refl
all_left f reader (x ∷ xs) none =
    by (same_endpoint (f x) reader) (list_any (λ e. same_endpoint e reader) (map f xs)) none (all_left f reader xs)
  where
    by : (a b : Bool) → (a || b) ≡ false → (b ≡ false → filter (λ x. not (same_endpoint (f x) reader)) xs ≡ xs)
        → cond (not a) (x ∷ filter (λ x. not (same_endpoint (f x) reader)) xs)
        (filter (λ x. not (same_endpoint (f x) reader)) xs) ≡ x ∷ xs
    by true b h later = absurd cc
    by false b h later = ap (λ ys. x ∷ ys) (later h)

-- ends of which each stands once
abbrev pub AreOnce : List Endpoint → Type 0
AreOnce [] = Unit {0}
AreOnce (e ∷ es) = (list_any (λ x. same_endpoint x e) es ≡ false) × AreOnce es

pub named_alike : (names : List ReaderName) (reader : Endpoint)
    → list_any (λ e. same_endpoint e reader) (readers_of names) ≡ is_named names reader
named_alike [] reader = refl
named_alike (n ∷ ns) reader = ap (λ (b : Bool). same_endpoint n.reader reader || b) (named_alike ns reader)

pub ends_once : (names : List ReaderName) → AreNamedOnce names → AreOnce (readers_of names)
ends_once [] once = tt
ends_once (n ∷ ns) once = (named_alike ns n.reader ∙ once.0, ends_once ns once.1)

any_there : (es : List Endpoint) (k : ℕ) (reader : Endpoint) → slice_get es k ≡ Some reader
    → list_any (λ e. same_endpoint e reader) es ≡ true
any_there [] k reader at = absurd cc
any_there (e ∷ es) zero reader at =
    ap (λ (b : Bool). b || list_any (λ x. same_endpoint x reader) es)
    (ap (λ (x : Endpoint). same_endpoint x reader) (same_Some e reader at) ∙ same_self reader)
any_there (e ∷ es) (suc k) reader at =
    by (same_endpoint e reader) (any_there es k reader at)
  where
    by : (b : Bool) → list_any (λ x. same_endpoint x reader) es ≡ true
        → (b || list_any (λ x. same_endpoint x reader) es) ≡ true
    by true h = refl
    by false h = h

-- where the reader stands once, all but that one are left
pub one_left : {X : Type 0} (f : X → Endpoint) (reader : Endpoint) (xs : List X) (k : ℕ)
    → slice_get (map f xs) k ≡ Some reader → AreOnce (map f xs)
    → filter (λ x. not (same_endpoint (f x) reader)) xs ≡ remove xs k
one_left f reader [] k at once = absurd cc
one_left f reader (x ∷ xs) zero at once =
    ap (λ (b : Bool). cond (not b) (x ∷ filter (λ x. not (same_endpoint (f x) reader)) xs)
    (filter (λ x. not (same_endpoint (f x) reader)) xs))
    (ap (λ (e : Endpoint). same_endpoint e reader) (same_Some (f x) reader at) ∙ same_self reader)
    ∙ all_left f reader xs
    (subst (λ (e : Endpoint). list_any (λ y. same_endpoint y e) (map f xs) ≡ false) (same_Some (f x) reader at) once.0)
one_left f reader (x ∷ xs) (suc k) at once =
    ap (λ (b : Bool). cond (not b) (x ∷ filter (λ x. not (same_endpoint (f x) reader)) xs)
    (filter (λ x. not (same_endpoint (f x) reader)) xs)) (other (same_endpoint (f x) reader) refl)
    ∙ ap (λ ys. x ∷ ys) (one_left f reader xs k at once.1)
  where
    other : (b : Bool) → same_endpoint (f x) reader ≡ b → same_endpoint (f x) reader ≡ false
    other false is = is
    other true is =
        let none : list_any (λ y. same_endpoint y reader) (map f xs) ≡ false =
        subst (λ (e : Endpoint). list_any (λ y. same_endpoint y e) (map f xs) ≡ false) (same_is (f x) reader is) once.0 in
        let some = any_there (map f xs) k reader at in absurd cc

pub map-remove : {X Y : Type 0} (g : X → Y) (xs : List X) (k : ℕ) → map g (remove xs k) ≡ remove (map g xs) k
map-remove g [] zero = refl
map-remove g [] (suc k) = refl
map-remove g (x ∷ xs) zero = refl
map-remove g (x ∷ xs) (suc k) = ap (λ ys. g x ∷ ys) (map-remove g xs k)

pub still_all : {X : Type 0} (P : X → Type 0) (b : X → Bool) (xs : List X) → AllByRecursion P xs
    → AllByRecursion P (filter b xs)
still_all P b [] all = tt
still_all P b (x ∷ xs) all = by (b x) (still_all P b xs all.1)
  where
    by : (c : Bool) → AllByRecursion P (filter b xs) → AllByRecursion P (cond c (x ∷ filter b xs) (filter b xs))
    by true h = (all.0, h)
    by false h = h

-- ---- who is named

pub named_without : (names : List ReaderName) (reader e : Endpoint)
    → is_named (without names reader) e ≡ (is_named names e && not (same_endpoint e reader))
named_without [] reader e = refl
named_without (n ∷ ns) reader e =
    by (same_endpoint n.reader reader) (same_endpoint n.reader e) (same_endpoint e reader) refl refl refl
    (named_without ns reader e)
  where
    late : (b : Bool) → (b && false) ≡ false
    late true = refl
    late false = refl

    all : (b : Bool) → (b && true) ≡ b
    all true = refl
    all false = refl

    by : (a b c : Bool) → same_endpoint n.reader reader ≡ a → same_endpoint n.reader e ≡ b
        → same_endpoint e reader ≡ c → is_named (without ns reader) e ≡ (is_named ns e && not c)
        → is_named (cond (not a) (n ∷ without ns reader) (without ns reader)) e ≡ ((b || is_named ns e) && not c)
    by true true true p q r h = h ∙ late (is_named ns e)
    by true true false p q r h =
        let same : same_endpoint e reader ≡ true =
        ap (λ (x : Endpoint). same_endpoint x reader) (sym (same_is n.reader e q)) ∙ p in absurd cc
    by true false c p q r h = h
    by false true true p q r h =
        let same : same_endpoint n.reader reader ≡ true =
        ap (λ (x : Endpoint). same_endpoint x reader) (same_is n.reader e q) ∙ r in absurd cc
    by false true false p q r h = ap (λ (b : Bool). b || is_named (without ns reader) e) q
    by false false c p q r h = ap (λ (b : Bool). b || is_named (without ns reader) e) q ∙ h

pub once_without : (names : List ReaderName) (reader : Endpoint) → AreNamedOnce names
    → AreNamedOnce (without names reader)
once_without [] reader once = tt
once_without (n ∷ ns) reader once = by (not (same_endpoint n.reader reader)) (once_without ns reader once.1)
  where
    by : (b : Bool) → AreNamedOnce (without ns reader)
        → AreNamedOnce (cond b (n ∷ without ns reader) (without ns reader))
    by true h =
        (named_without ns reader n.reader ∙ ap (λ (x : Bool). x && not (same_endpoint n.reader reader)) once.0, h)
    by false h = h

-- ---- the counts

pub places_stay : (counts : List LastCount) (reader e : Endpoint) (count : Option ℤ)
    → has_count (set_count counts reader count) e ≡ has_count counts e
places_stay [] reader e count = refl
places_stay (c ∷ cs) reader e count = by (same_endpoint c.reader reader) (places_stay cs reader e count)
  where
    by : (b : Bool) → has_count (set_count cs reader count) e ≡ has_count cs e
        → has_count (if b then record c { count = count } ∷ cs else c ∷ set_count cs reader count) e
        ≡ (same_endpoint c.reader e || has_count cs e)
    by true h = refl
    by false h = ap (λ (x : Bool). same_endpoint c.reader e || x) h

pub count_kept : (counts : List LastCount) (reader : Endpoint) (count : Option ℤ) → has_count counts reader ≡ true
    → last_count (set_count counts reader count) reader ≡ count
count_kept [] reader count is = absurd cc
count_kept (c ∷ cs) reader count is =
    by (same_endpoint c.reader reader) refl is (count_kept cs reader count)
  where
    by : (b : Bool) → same_endpoint c.reader reader ≡ b → (b || has_count cs reader) ≡ true
        → (has_count cs reader ≡ true → last_count (set_count cs reader count) reader ≡ count)
        → last_count (if b then record c { count = count } ∷ cs else c ∷ set_count cs reader count) reader ≡ count
    by true e h later =
        ap (λ (x : Bool). if x then count else last_count cs reader) e
    by false e h later =
        ap (λ (x : Bool). if x then c.count else last_count (set_count cs reader count) reader) e ∙ later h

pub others_kept : (counts : List LastCount) (reader e : Endpoint) (count : Option ℤ)
    → same_endpoint e reader ≡ false → last_count (set_count counts reader count) e ≡ last_count counts e
others_kept [] reader e count apart = refl
others_kept (c ∷ cs) reader e count apart =
    by (same_endpoint c.reader reader) (same_endpoint c.reader e) refl refl (others_kept cs reader e count apart)
  where
    by : (a b : Bool) → same_endpoint c.reader reader ≡ a → same_endpoint c.reader e ≡ b
        → last_count (set_count cs reader count) e ≡ last_count cs e
        → last_count (if a then record c { count = count } ∷ cs else c ∷ set_count cs reader count) e
        ≡ (if b then c.count else last_count cs e)
    by true true p q h =
        let same : same_endpoint e reader ≡ true =
        ap (λ (x : Endpoint). same_endpoint x reader) (sym (same_is c.reader e q)) ∙ p in absurd cc
    by true false p q h = ap (λ (x : Bool). if x then count else last_count cs e) q
    by false true p q h = ap (λ (x : Bool). if x then c.count else last_count (set_count cs reader count) e) q
    by false false p q h =
        ap (λ (x : Bool). if x then c.count else last_count (set_count cs reader count) e) q ∙ h

-- ---- how many

-- a list without a number
cut : ℕ → List ℕ → List ℕ
cut n [] = []
cut n (m ∷ ms) = if m == n then ms else m ∷ cut n ms

shorter : (n : ℕ) (ms : List ℕ) → has n ms ≡ true → length (cut n ms) + 1 ≡ length ms
unfolding cut
shorter n [] is = absurd cc
shorter n (m ∷ ms) is = by (m == n) is (shorter n ms)
  where
    by : (b : Bool) → (b || has n ms) ≡ true → (has n ms ≡ true → length (cut n ms) + 1 ≡ length ms)
        → length (if b then ms else m ∷ cut n ms) + 1 ≡ length (m ∷ ms)
    by true h later = omega arith
    by false h later = let l = later h in omega (arith, l)

still_has : (n x : ℕ) (ms : List ℕ) → (n == x) ≡ false → has x ms ≡ true → has x (cut n ms) ≡ true
unfolding cut
still_has n x [] apart is = absurd cc
still_has n x (m ∷ ms) apart is = by (m == n) (m == x) refl refl is (still_has n x ms apart)
  where
    by : (a b : Bool) → (m == n) ≡ a → (m == x) ≡ b → (b || has x ms) ≡ true
        → (has x ms ≡ true → has x (cut n ms) ≡ true)
        → has x (if a then ms else m ∷ cut n ms) ≡ true
    by true true p q h later =
        let same : (n == x) ≡ true = ap (λ (k : ℕ). k == x) (sym (eqb-true m n p)) ∙ q in absurd cc
    by true false p q h later = h
    by false true p q h later = ap (λ (b : Bool). b || has x (cut n ms)) q
    by false false p q h later = ap (λ (b : Bool). b || has x (cut n ms)) q ∙ later h

no_more : (ns ms : List ℕ) → Differ ns → ((n : ℕ) → has n ns ≡ true → has n ms ≡ true) → length ns ≤ length ms
no_more [] ms once in_it = omega arith
no_more (n ∷ ns) ms once in_it =
    let here = in_it n (ap (λ (b : Bool). b || has n ns) (eq-eqb n n refl)) in
    let less = shorter n ms here in
    let rest =
    no_more ns (cut n ms) once.1
    (λ x is. still_has n x ms (apart x is) (in_it x (late (n == x) x is))) in
    omega (arith, less, rest)
  where
    late : (b : Bool) (x : ℕ) → has x ns ≡ true → (b || has x ns) ≡ true
    late true x h = refl
    late false x h = h

    apart : (x : ℕ) → has x ns ≡ true → (n == x) ≡ false
    apart x is = by (n == x) refl
      where
        by : (b : Bool) → (n == x) ≡ b → (n == x) ≡ false
        by false e = e
        by true e =
            let there : has n ns ≡ true = ap (λ (k : ℕ). has k ns) (eqb-true n x e) ∙ is in
            let none = once.0 in absurd cc

-- no more peers are left than there were
pub fewer_peers : (reader : Endpoint) (es : List Endpoint)
    → length (peers_of (filter (λ e. not (same_endpoint e reader)) es)) ≤ length (peers_of es)
fewer_peers reader es =
    no_more (peers_of (filter (λ e. not (same_endpoint e reader)) es)) (peers_of es)
    (peers_differ (filter (λ e. not (same_endpoint e reader)) es))
    (λ n is. has_peer n es ∙ some n es (sym (has_peer n (filter (λ e. not (same_endpoint e reader)) es)) ∙ is))
  where
    some : (n : ℕ) (xs : List Endpoint)
        → list_any (λ (e : Endpoint). e.peer == n) (filter (λ e. not (same_endpoint e reader)) xs) ≡ true
        → list_any (λ (e : Endpoint). e.peer == n) xs ≡ true
    some n [] is = is
    some n (x ∷ xs) is = by (not (same_endpoint x reader)) (x.peer == n) refl is (some n xs)
      where
        by : (a b : Bool) → (x.peer == n) ≡ b
            → list_any (λ (e : Endpoint). e.peer == n)
            (cond a (x ∷ filter (λ e. not (same_endpoint e reader)) xs)
            (filter (λ e. not (same_endpoint e reader)) xs)) ≡ true
            → (list_any (λ (e : Endpoint). e.peer == n) (filter (λ e. not (same_endpoint e reader)) xs) ≡ true
            → list_any (λ (e : Endpoint). e.peer == n) xs ≡ true)
            → (b || list_any (λ (e : Endpoint). e.peer == n) xs) ≡ true
        by a true e h later = refl
        by true false e h later =
            later (sym (ap (λ (b : Bool). b || list_any (λ (y : Endpoint). y.peer == n)
            (filter (λ z. not (same_endpoint z reader)) xs)) e) ∙ h)
        by false false e h later = later h
