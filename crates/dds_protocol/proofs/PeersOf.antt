-- The peers of endpoints, each once, where its first endpoint stands: which they are, and what one endpoint more adds.
use Rattle.std.proofs.Common.{◌≡◌, ℕ, ◌==◌, Bool, true, false, not, cond, ◌&&◌, ◌||◌, List, [], ◌∷◌, ◌++◌, Contains, ⊎_elim, refl, ap, sym, ◌∙◌, arith, eqb-true}
use Rattle.std.specs.Prelude.{filter, if◌then◌else◌}
use Rattle.std.specs.List.{list_any}
use Rattle.std.proofs.lemmas.List.{append-nil}
use Rattle.std.proofs.lemmas.List.Elements.{filter-append}
use Rattle.std.proofs.lemmas.Map.Views.{any-filter_same}
use Rattle.dds_base.specs.declared.endpoint.Endpoint.{Endpoint}
use Rattle.dds_base.proofs.OwnerLaws.{eqb-refl}
use Rattle.dds_machine.specs.Part.{peers_of}
use Rattle.dds_protocol.proofs.Composed.{front_or_rest, later_in}

-- the number is among these
abbrev pub has : ℕ → List ℕ → Bool
has m ns = list_any (λ n. n == m) ns

-- these without the number
abbrev pub without : ℕ → List ℕ → List ℕ
without m ns = filter (λ n. not (n == m)) ns

-- ---- by tests

eqb-flip : (a b : ℕ) (c : Bool) → (a == b) ≡ c → (b == a) ≡ c
eqb-flip a b true e = ap (λ (x : ℕ). b == x) (eqb-true a b e) ∙ eqb-refl b
eqb-flip a b false e = other (b == a) refl
  where
    other : (d : Bool) → (b == a) ≡ d → (b == a) ≡ false
    other true f = let is = sym e ∙ (ap (λ (x : ℕ). a == x) (eqb-true b a f) ∙ eqb-refl a) in cc
    other false f = f

-- once this one is taken out, the others are among them as before
pub has_without : (m n : ℕ) (ns : List ℕ) → has m (without n ns) ≡ (not (m == n) && has m ns)
has_without m n ns =
    any-filter_same (λ k. k == m) (λ k. not (k == n)) (not (m == n))
    (λ k is. ap (λ (x : ℕ). not (x == n)) (eqb-true k m is)) ns

-- among this one and those without it
has_both : (m n : ℕ) (ns : List ℕ) (b : Bool) → (n == m) ≡ b
    → ((n == m) || has m (without n ns)) ≡ ((n == m) || has m ns)
has_both m n ns true is =
    ap (λ (c : Bool). c || has m (without n ns)) is ∙ sym (ap (λ (c : Bool). c || has m ns) is)
has_both m n ns false is =
    ap (λ (c : Bool). (n == m) || c)
    (has_without m n ns ∙ ap (λ (c : Bool). not c && has m ns) (eqb-flip n m false is))

-- one end more
pub has_more : (m : ℕ) (e : Endpoint) (es : List Endpoint)
    → has m (peers_of (e ∷ es)) ≡ ((e.peer == m) || has m (peers_of es))
has_more m e es = has_both m e.peer (peers_of es) (e.peer == m) refl

-- a number is among the peers where some end is of it
pub has_peer : (m : ℕ) (es : List Endpoint) → has m (peers_of es) ≡ list_any (λ (e : Endpoint). e.peer == m) es
has_peer m [] = refl
has_peer m (e ∷ es) = has_more m e es ∙ ap (λ (b : Bool). (e.peer == m) || b) (has_peer m es)

-- ---- by elements

any_is : (m : ℕ) (ns : List ℕ) → has m ns ≡ true → Contains ns m
any_is m [] h = cc
any_is m (n ∷ ns) h = by (n == m) refl h (λ later. any_is m ns later)
  where
    by : (b : Bool) → (n == m) ≡ b → (b || has m ns) ≡ true → (has m ns ≡ true → Contains ns m)
        → Contains (n ∷ ns) m
    by true e k later = (0, omega arith, eqb-true n m e)
    by false e k later = later_in n ns m (later k)

is_any : (m : ℕ) (ns : List ℕ) → Contains ns m → has m ns ≡ true
is_any m [] among = let lt = among.1 in absurd (omega (arith, lt))
is_any m (n ∷ ns) among =
    ⊎_elim
    (λ e. ap (λ (x : ℕ). (x == m) || has m ns) e ∙ ap (λ (b : Bool). b || has m ns) (eqb-refl m))
    (λ later. or_true (n == m) (is_any m ns later))
    (front_or_rest n ns m among.0 among.1 among.2)
  where
    or_true : (b : Bool) → has m ns ≡ true → (b || has m ns) ≡ true
    or_true true h = refl
    or_true false h = h

-- the first end's peer is among them
pub peer_first : (e : Endpoint) (es : List Endpoint) → Contains (peers_of (e ∷ es)) e.peer
peer_first e es = (0, omega arith, refl)

-- and those of the others are
pub peer_later : (e : Endpoint) (es : List Endpoint) (n : ℕ) → Contains (peers_of es) n
    → Contains (peers_of (e ∷ es)) n
peer_later e es n among = any_is n (peers_of (e ∷ es)) (has_more n e es ∙ later (e.peer == n))
  where
    later : (b : Bool) → (b || has n (peers_of es)) ≡ true
    later true = refl
    later false = is_any n (peers_of es) among

-- each end's peer
pub peer_among : (es : List Endpoint) (e : Endpoint) → Contains es e → Contains (peers_of es) e.peer
peer_among [] e among = let lt = among.1 in absurd (omega (arith, lt))
peer_among (x ∷ xs) e among =
    ⊎_elim
    (λ is. any_is e.peer (peers_of (x ∷ xs))
    (has_more e.peer x xs
    ∙ (ap (λ (y : Endpoint). (y.peer == e.peer) || has e.peer (peers_of xs)) is
    ∙ ap (λ (b : Bool). b || has e.peer (peers_of xs)) (eqb-refl e.peer))))
    (λ later. peer_later x xs e.peer (peer_among xs e later))
    (front_or_rest x xs e among.0 among.1 among.2)

-- an end of each of them
pub end_of_peer : (es : List Endpoint) (n : ℕ) → Contains (peers_of es) n
    → (e : Endpoint) × Contains es e × (e.peer ≡ n)
end_of_peer [] n among = let lt = among.1 in absurd (omega (arith, lt))
end_of_peer (e ∷ es) n among =
    by (e.peer == n) refl (sym (has_more n e es) ∙ is_any n (peers_of (e ∷ es)) among)
    (λ later. end_of_peer es n later)
  where
    by : (b : Bool) → (e.peer == n) ≡ b → ((e.peer == n) || has n (peers_of es)) ≡ true
        → (Contains (peers_of es) n → (x : Endpoint) × Contains es x × (x.peer ≡ n))
        → (x : Endpoint) × Contains (e ∷ es) x × (x.peer ≡ n)
    by true is some next = (e, (0, omega arith, refl), eqb-true e.peer n is)
    by false is some next =
        let later : has n (peers_of es) ≡ true = sym (ap (λ (b : Bool). b || has n (peers_of es)) is) ∙ some in
        let there = next (any_is n (peers_of es) later) in
        (there.0, later_in e es there.0 there.1, there.2)

-- ---- one end more, the last

-- its peer is there, or comes last
pub peers_of_last : (es : List Endpoint) (e : Endpoint)
    → peers_of (es ++ e ∷ []) ≡ (if has e.peer (peers_of es) then peers_of es else peers_of es ++ e.peer ∷ [])
peers_of_last [] e = refl
peers_of_last (x ∷ xs) e =
    ap (λ (ns : List ℕ). x.peer ∷ without x.peer ns) (peers_of_last xs e)
    ∙ (by (has e.peer (peers_of xs)) (x.peer == e.peer) refl
    ∙ sym (ap (λ (b : Bool). if b then peers_of (x ∷ xs) else peers_of (x ∷ xs) ++ e.peer ∷ []) (has_more e.peer x xs)))
  where
    ns : List ℕ
    ns = peers_of xs

    last : (c : Bool) → (x.peer ∷ (without x.peer ns ++ cond (not c) (e.peer ∷ []) []))
        ≡ (if c || false then x.peer ∷ without x.peer ns else (x.peer ∷ without x.peer ns) ++ e.peer ∷ [])
    last true = ap (λ (ms : List ℕ). x.peer ∷ ms) (append-nil (without x.peer ns))
    last false = refl

    by : (b c : Bool) → (x.peer == e.peer) ≡ c
        → (x.peer ∷ without x.peer (if b then ns else ns ++ e.peer ∷ []))
        ≡ (if c || b then x.peer ∷ without x.peer ns else (x.peer ∷ without x.peer ns) ++ e.peer ∷ [])
    by true true is = refl
    by true false is = refl
    by false c is =
        ap (λ (ms : List ℕ). x.peer ∷ ms) (filter-append (λ n. not (n == x.peer)) ns (e.peer ∷ []))
        ∙ (ap (λ (b : Bool). x.peer ∷ (without x.peer ns ++ cond (not b) (e.peer ∷ []) []))
        (eqb-flip x.peer e.peer c is) ∙ last c)
