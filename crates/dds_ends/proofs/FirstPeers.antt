-- The peers of readers, each where its first one is: which they are, and what one reader more adds.
use Rattle.std.proofs.Common.{◌≡◌, ℕ, zero, suc, ◌+◌, ◌<◌, ◌≤◌, ◌==◌, Bool, true, false, not, cond, ◌&&◌, ◌||◌, List, [], ◌∷◌, ◌++◌, Option, Some, map, take, drop, set, length, get_or, slice_get, refl, ap, sym, ◌∙◌, arith, append_assoc, append-nil, eq-eqb, eqb-true, length-append}
use Rattle.std.specs.Prelude.{filter, if◌then◌else◌}
use Rattle.std.specs.List.{list_any}
use Rattle.std.specs.Option.{option_map_or}
use Rattle.std.proofs.lemmas.List.{length-take, take_more}
use Rattle.std.proofs.lemmas.List.Elements.{filter-append}
use Rattle.std.proofs.lemmas.Option.{same_Some, slice_get-get_or}
use Rattle.dds_base.specs.declared.endpoint.Endpoint.{Endpoint}
use Rattle.dds_machine.specs.Part.{peers_of}
use Rattle.dds_protocol.proofs.PeersOf.{has, has_peer, has_without, without}
use Rattle.dds_ends.specs.declared.matching.Destination.{Destination}
use Rattle.dds_ends.specs.declared.matching.ReaderName.{ReaderName}
use Rattle.dds_ends.specs.Beating.{first_peers, peer_of}
use Rattle.dds_ends.specs.Coming.{has_reader_at, is_first_of, with_peer}
use Rattle.dds_ends.specs.MatchedEnds.{readers_of}
use Rattle.dds_ends.proofs.Joining.{left_from, put_next}

-- the values of those that are left are the values that are left
pub map-filter : {X Y : Type 0} (f : X → Y) (b : Y → Bool) (xs : List X)
    → map f (filter (λ x. b (f x)) xs) ≡ filter b (map f xs)
map-filter f b [] = refl
map-filter f b (x ∷ xs) = by (b (f x)) (map-filter f b xs)
  where
    by : (c : Bool) → map f (filter (λ y. b (f y)) xs) ≡ filter b (map f xs)
        → map f (cond c (x ∷ filter (λ y. b (f y)) xs) (filter (λ y. b (f y)) xs))
        ≡ cond c (f x ∷ filter b (map f xs)) (filter b (map f xs))
    by true h = ap (λ ys. f x ∷ ys) h
    by false h = h

-- what comes of those that are left is what comes of the values that are left, where it comes of the value of each
pub map-filter_by : {X Y Z : Type 0} (f : X → Y) (b : Y → Bool) (g : X → Z) (h : Y → Z) (xs : List X)
    → ((k : ℕ) (x : X) → slice_get xs k ≡ Some x → g x ≡ h (f x))
    → map g (filter (λ x. b (f x)) xs) ≡ map h (filter b (map f xs))
map-filter_by f b g h [] each = refl
map-filter_by f b g h (x ∷ xs) each =
    by (b (f x)) (map-filter_by f b g h xs (λ k y at. each (suc k) y at))
  where
    by : (c : Bool) → map g (filter (λ y. b (f y)) xs) ≡ map h (filter b (map f xs))
        → map g (cond c (x ∷ filter (λ y. b (f y)) xs) (filter (λ y. b (f y)) xs))
        ≡ map h (cond c (f x ∷ filter b (map f xs)) (filter b (map f xs)))
    by true rest =
        ap (λ z. z ∷ map g (filter (λ y. b (f y)) xs)) (each zero x refl) ∙ ap (λ zs. h (f x) ∷ zs) rest
    by false rest = rest

pub any-map : {X Y : Type 0} (f : X → Y) (b : Y → Bool) (xs : List X) → list_any b (map f xs) ≡ list_any (λ x. b (f x)) xs
any-map f b [] = refl
any-map f b (x ∷ xs) = ap (λ (c : Bool). b (f x) || c) (any-map f b xs)

-- ---- each once

-- numbers of which each stands once
abbrev pub Differ : List ℕ → Type 0
Differ [] = Unit {0}
Differ (n ∷ ns) = (has n ns ≡ false) × Differ ns

differ_left : (b : ℕ → Bool) (ns : List ℕ) → Differ ns → Differ (filter b ns)
differ_left b [] h = tt
differ_left b (n ∷ ns) h = by (b n) (differ_left b ns h.1)
  where
    none_left : (ms : List ℕ) → has n ms ≡ false → has n (filter b ms) ≡ false
    none_left [] none = refl
    none_left (m ∷ ms) none = one (b m) (m == n) refl none (none_left ms)
      where
        one : (c d : Bool) → (m == n) ≡ d → (d || has n ms) ≡ false → (has n ms ≡ false → has n (filter b ms) ≡ false)
            → has n (cond c (m ∷ filter b ms) (filter b ms)) ≡ false
        one c true is none later = absurd cc
        one true false is none later = ap (λ (x : Bool). x || has n (filter b ms)) is ∙ later none
        one false false is none later = later none

    by : (c : Bool) → Differ (filter b ns) → Differ (cond c (n ∷ filter b ns) (filter b ns))
    by true k = (none_left ns h.0, k)
    by false k = k

-- so do the peers of endpoints
pub peers_differ : (es : List Endpoint) → Differ (peers_of es)
peers_differ [] = tt
peers_differ (e ∷ es) = (
  has_without e.peer e.peer (peers_of es)
      ∙ ap (λ (b : Bool). not b && has e.peer (peers_of es)) (eq-eqb e.peer e.peer refl),
  differ_left (λ n. not (n == e.peer)) (peers_of es) (peers_differ es),
)

-- ---- which they are

-- the first readers' peers are the peers of all
pub first_peers_are : (names : List ReaderName)
    → peers_of (readers_of names) ≡ map (λ (d : Destination). d.peer) (first_peers names)
first_peers_are [] = refl
first_peers_are (n ∷ ns) =
    ap (λ (ms : List ℕ). n.reader.peer ∷ without n.reader.peer ms) (first_peers_are ns)
    ∙ ap (λ (ms : List ℕ). n.reader.peer ∷ ms)
    (sym (map-filter (λ (d : Destination). d.peer) (λ m. not (m == n.reader.peer)) (first_peers ns)))

-- a peer is among them where some reader is of it
pub has_first : (m : ℕ) (names : List ReaderName)
    → list_any (λ (d : Destination). d.peer == m) (first_peers names) ≡ has_reader_at names m
has_first m names =
    sym (any-map (λ (d : Destination). d.peer) (λ k. k == m) (first_peers names))
    ∙ (ap (λ (ks : List ℕ). list_any (λ k. k == m) ks) (sym (first_peers_are names))
    ∙ (has_peer m (readers_of names)
    ∙ any-map (λ (n : ReaderName). n.reader) (λ (e : Endpoint). e.peer == m) names))

-- each is the peer of one of them
pub peer_from : (names : List ReaderName) (k : ℕ) (d : Destination) → slice_get (first_peers names) k ≡ Some d
    → (j : ℕ) × (n : ReaderName) × (slice_get names j ≡ Some n) × (peer_of n ≡ d)
peer_from [] k d at = absurd cc
peer_from (n ∷ ns) zero d at = (zero, n, refl, same_Some (peer_of n) d at)
peer_from (n ∷ ns) (suc k) d at =
    let f = left_from (λ (x : Destination). not (x.peer == n.reader.peer)) (first_peers ns) k d at in
    let g = peer_from ns f.0 d f.1 in (suc g.0, g.1, g.2, g.3)

-- ---- one reader more, the last

turned : (a b : ℕ) (c : Bool) → (a == b) ≡ c → (b == a) ≡ c
turned a b true is = eq-eqb b a (sym (eqb-true a b is))
turned a b false is = other (b == a) refl
  where
    other : (d : Bool) → (b == a) ≡ d → (b == a) ≡ false
    other true h = let same = eq-eqb a b (sym (eqb-true b a h)) in cc
    other false h = h

-- its peer is there, or comes last
pub first_peers_last : (ns : List ReaderName) (n : ReaderName)
    → first_peers (ns ++ n ∷ []) ≡ with_peer (first_peers ns) (peer_of n)
first_peers_last [] n = refl
first_peers_last (x ∷ xs) n =
    ap (λ (ds : List Destination). peer_of x ∷ filter (λ (d : Destination). not (d.peer == x.reader.peer)) ds)
    (first_peers_last xs n)
    ∙ (by (list_any (λ (d : Destination). d.peer == n.reader.peer) ds) (x.reader.peer == n.reader.peer) refl
    ∙ sym (ap (λ (b : Bool). if b then first_peers (x ∷ xs) else first_peers (x ∷ xs) ++ peer_of n ∷ [])
    (has_first n.reader.peer (x ∷ xs)
    ∙ ap (λ (b : Bool). (x.reader.peer == n.reader.peer) || b) (sym (has_first n.reader.peer xs)))))
  where
    ds : List Destination
    ds = first_peers xs

    is_other : Destination → Bool
    is_other d = not (d.peer == x.reader.peer)

    ending : (c : Bool) → (peer_of x ∷ (filter is_other ds ++ cond (not c) (peer_of n ∷ []) []))
        ≡ (if c || false then peer_of x ∷ filter is_other ds else (peer_of x ∷ filter is_other ds) ++ peer_of n ∷ [])
    ending true = ap (λ (es : List Destination). peer_of x ∷ es) (append-nil (filter is_other ds))
    ending false = refl

    by : (b c : Bool) → (x.reader.peer == n.reader.peer) ≡ c
        → (peer_of x ∷ filter is_other (if b then ds else ds ++ peer_of n ∷ []))
        ≡ (if c || b then peer_of x ∷ filter is_other ds else (peer_of x ∷ filter is_other ds) ++ peer_of n ∷ [])
    by true true is = refl
    by true false is = refl
    by false c is =
        ap (λ (es : List Destination). peer_of x ∷ es) (filter-append is_other ds (peer_of n ∷ []))
        ∙ (ap (λ (b : Bool). peer_of x ∷ (filter is_other ds ++ cond (not b) (peer_of n ∷ []) []))
        (turned x.reader.peer n.reader.peer c is) ∙ ending c)

-- more readers are of no fewer peers
pub no_fewer : (ns ms : List ReaderName) → length (first_peers ns) ≤ length (first_peers (ns ++ ms))
no_fewer ns [] =
    let same = ap (λ (xs : List ReaderName). length (first_peers xs)) (append-nil ns) in omega (arith, same)
no_fewer ns (m ∷ ms) =
    let later = no_fewer (ns ++ m ∷ []) ms in
    let same = ap (λ (xs : List ReaderName). length (first_peers xs)) (append_assoc ns (m ∷ []) ms) in
    let next = ap (λ (ds : List Destination). length ds) (first_peers_last ns m) in
    let grows =
    grown (list_any (λ (d : Destination). d.peer == m.reader.peer) (first_peers ns)) (first_peers ns) (peer_of m) in
    omega (arith, later, same, next, grows)
  where
    grown : (b : Bool) (ds : List Destination) (d : Destination) → length ds ≤ length (if b then ds else ds ++ d ∷ [])
    grown true ds d = omega arith
    grown false ds d = let size = length-append ds (d ∷ []) in omega (arith, size)

-- ---- written one after the other

-- the peers of the readers up to a row, by those before it
pub next_peers : (names : List ReaderName) (row : ℕ) (n : ReaderName) → row < length names
    → first_peers (take (row + 1) names) ≡ with_peer (first_peers (take row names)) (peer_of (get_or names row n))
next_peers names row n lt =
    ap (λ (ns : List ReaderName). first_peers ns) (take_more names row n lt)
    ∙ first_peers_last (take row names) (get_or names row n)

-- whether a row is the first of its peer
pub is_first_at : (names : List ReaderName) (row : ℕ) (n : ReaderName) → row < length names
    → is_first_of names row ≡ not (has_reader_at (take row names) (get_or names row n).reader.peer)
is_first_at names row n lt =
    ap (λ (o : Option ReaderName).
    option_map_or (λ (m : ReaderName). not (has_reader_at (take row names) m.reader.peer)) o false)
    (slice_get-get_or names row n lt)

with_peer_as : (b : Bool) (ds : List Destination) (d : Destination)
    → not (list_any (λ (x : Destination). x.peer == d.peer) ds) ≡ b → with_peer ds d ≡ cond b (ds ++ d ∷ []) ds
with_peer_as b ds d is = by (list_any (λ (x : Destination). x.peer == d.peer) ds) b is
  where
    by : (c b : Bool) → not c ≡ b → (if c then ds else ds ++ d ∷ []) ≡ cond b (ds ++ d ∷ []) ds
    by true false h = refl
    by false true h = refl
    by true true h = absurd cc
    by false false h = absurd cc

-- what comes of a row that is the first of its peer, or is not
pub peers_by : (names : List ReaderName) (row : ℕ) (n : ReaderName) (b : Bool) → row < length names
    → is_first_of names row ≡ b
    → first_peers (take (row + 1) names)
    ≡ cond b (first_peers (take row names) ++ peer_of (get_or names row n) ∷ []) (first_peers (take row names))
peers_by names row n b lt is =
    next_peers names row n lt
    ∙ with_peer_as b (first_peers (take row names)) (peer_of (get_or names row n))
    (ap not (has_first (get_or names row n).reader.peer (take row names)) ∙ (sym (is_first_at names row n lt) ∙ is))

take_drop : {X : Type 0} (k : ℕ) (xs : List X) → take k xs ++ drop k xs ≡ xs
take_drop zero [] = refl
take_drop zero (x ∷ xs) = refl
take_drop (suc k) [] = refl
take_drop (suc k) (x ∷ xs) = ap (λ ys. x ∷ ys) (take_drop k xs)

-- the peers up to a row are no more than all
within_all : (names : List ReaderName) (row : ℕ)
    → length (first_peers (take row names)) ≤ length (first_peers names)
within_all names row =
    let some = no_fewer (take row names) (drop row names) in
    let all = ap (λ (ns : List ReaderName). length (first_peers ns)) (take_drop row names) in
    omega (arith, some, all)

-- the peer of the next reader, the first of its peer, is written
pub one_written : (names : List ReaderName) (row : ℕ) (peers : List Destination) (count : ℕ) (n : ReaderName)
    (x : Destination) → row < length names → is_first_of names row ≡ true → x ≡ peer_of (get_or names row n)
    → count ≤ length peers → take count peers ≡ first_peers (take row names)
    → length (first_peers names) ≤ length peers
    → (count < length peers) × (take (count + 1) (set peers count x) ≡ first_peers (take (row + 1) names))
one_written names row peers count n x within is_first is le written room =
    let next = peers_by names row n true within is_first in
    let size = length-take count peers in
    let before = ap (λ (ds : List Destination). length ds) written in
    let after = ap (λ (ds : List Destination). length ds) next in
    let one = length-append (first_peers (take row names)) (peer_of (get_or names row n) ∷ []) in
    let all = within_all names (row + 1) in
    let place : count < length peers = omega (arith, size, before, after, one, all, room, le) in (
      place,
      put_next peers count x place
          ∙ (ap (λ (ds : List Destination). ds ++ x ∷ []) written
          ∙ (ap (λ (d : Destination). first_peers (take row names) ++ d ∷ []) is ∙ sym next)),
    )
