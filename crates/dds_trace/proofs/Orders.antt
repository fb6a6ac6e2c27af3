-- Orders that grow, orders that cannot be, and what was sent.
use Rattle.std.proofs.Common.{◌≡◌, ℕ, ◌+◌, ◌-◌, ◌<◌, ◌≤◌, ◌⊎◌, ◌↔◌, Bool, true, false, List, [], ◌∷◌, ◌++◌, Some, Contains, length, get_or, refl, sym, ap, ◌∙◌, subst, inl, inr, ⊎_elim, suc, zero, arith}
use Rattle.std.proofs.lemmas.Option.{get_or_from_slice_get, slice_get_within, slice_get-get_or}
use Rattle.std.specs.Prelude.{MatchBool, slice_get, slice_index, slice_set, replicate}
use Rattle.dds_trace.specs.declared.trace.Entry.{Entry}
use Rattle.dds_trace.specs.Entries.{Traced}
use Rattle.dds_trace.specs.Weaving.{IsBlocked, IsHonest, IsNext, IsStuck, AllPlaced, MayStand, Reaches, Sends, Sent, one_more, none_placed}
use Rattle.dds_trace.specs.Knowing.{Knows}

-- what may stand, and what is blocked, where the same was sent
pub stands_so : (S T : List ℕ → Type 0) (e : Entry) → ((q : List ℕ) → S q → T q) → MayStand S e → MayStand T e
stands_so S T e h may octets is = h octets (may octets is)

pub blocked_so : (S T : List ℕ → Type 0) (e : Entry) → ((q : List ℕ) → T q → S q) → IsBlocked S e → IsBlocked T e
blocked_so S T e h block = (block.0, block.1, λ t. block.2 (h block.0 t))

-- an order with one place more
pub Reaches-push : (ts : List Traced) (from order mid : List ℕ) (t : ℕ) → Reaches ts from order mid
    → ((e : Entry) × IsNext ts mid t e × MayStand (Sent ts mid) e) → Reaches ts from (order ++ t ∷ []) (one_more mid t)
Reaches-push ts from [] mid t h step =
    let P : List ℕ → Type 0 = λ x. (e : Entry) × IsNext ts x t e × MayStand (Sent ts x) e in
    (subst P (sym h) step, ap (λ x. one_more x t) h)
Reaches-push ts from (u ∷ order) mid t h step = (h.0, Reaches-push ts (one_more from u) order mid t h.1 step)

-- not above, place by place
abbrev pub IsWithin : List ℕ → List ℕ → Type 0
IsWithin d p = (t : ℕ) → slice_index d t ≤ slice_index p t

set_at : (d : List ℕ) (t v : ℕ) → slice_index (slice_set d t v) t ≤ v
set_at [] t v = omega arith
set_at (x ∷ d) zero v = omega arith
set_at (x ∷ d) (suc t) v = set_at d t v

pub count_set : (d : List ℕ) (t v : ℕ) → t < length d → slice_index (slice_set d t v) t ≡ v
count_set [] t v h = absurd (omega (arith, h))
count_set (x ∷ d) zero v h = refl
count_set (x ∷ d) (suc t) v h = count_set d t v (omega (arith, h))

pub set_other : (d : List ℕ) (t u v : ℕ) → (u ≡ t → ⊥) → slice_index (slice_set d t v) u ≡ slice_index d u
set_other [] t u v h = refl
set_other (x ∷ d) zero zero v h = absurd (h refl)
set_other (x ∷ d) zero (suc u) v h = refl
set_other (x ∷ d) (suc t) zero v h = refl
set_other (x ∷ d) (suc t) (suc u) v h = set_other d t u v (λ e. h (ap suc e))

pub same_or_not : (a b : ℕ) → (a ≡ b) ⊎ (a ≡ b → ⊥)
same_or_not zero zero = inl refl
same_or_not zero (suc b) = inr (λ e. absurd (omega arith))
same_or_not (suc a) zero = inr (λ e. absurd (omega arith))
same_or_not (suc a) (suc b) = elim (same_or_not a b) [ inl e ↦ inl (ap suc e) | inr h ↦ inr (λ e. h (omega arith)) ]

pub below_or_not : (a b : ℕ) → (a < b) ⊎ (b ≤ a)
below_or_not a b = grind (arith)

one_more_within : (d p : List ℕ) (t : ℕ) → IsWithin d p → slice_index d t < slice_index p t → IsWithin (one_more d t) p
one_more_within d p t w lt u =
    elim (same_or_not u t) [
      | inl e ↦ let at : slice_index (one_more d t) t ≤ slice_index d t + 1 = set_at d t (slice_index d t + 1) in
          omega (arith, at, lt, ap (slice_index (one_more d t)) e, ap (slice_index p) e)
      | inr ne ↦ omega (arith, set_other d t u (slice_index d t + 1) ne, w u)
    ]

Sent-within : (ts : List Traced) (d p : List ℕ) (q : List ℕ) → IsWithin d p → Sent ts d q → Sent ts p q
Sent-within ts d p q w s = (s.0, s.1, s.2, (s.3.0, s.3.1, omega (arith, s.3.2, w s.0), s.3.3, s.3.4))

-- where the next entries are blocked, no honest order of all entries begins within
no_order : (ts : List Traced) (p : List ℕ) → IsStuck ts p → (d order : List ℕ) → IsWithin d p
    → ((to : List ℕ) × Reaches ts d order to × AllPlaced ts to) → ⊥
no_order ts p stuck d [] w h =
    let m = stuck.more in
    let used : length m.2.0.entries ≤ slice_index d m.0 =
    omega (arith, h.2 m.0 m.2.0 m.2.1, ap (λ x. slice_index x m.0) h.1) in
    let here = slice_get_within m.2.0.entries (slice_index p m.0) m.1 m.2.2 in
    absurd (omega (arith, used, here, w m.0))
no_order ts p stuck d (t ∷ order) w h =
    let e = h.1.0.0 in
    let next = h.1.0.1 in
    let may = h.1.0.2 in
    elim (below_or_not (slice_index d t) (slice_index p t)) [
      | inl lt ↦ no_order ts p stuck (one_more d t) order (one_more_within d p t w lt) (h.0, h.1.1, h.2)
      | inr ge ↦
          let same : slice_index d t ≡ slice_index p t = omega (arith, ge, w t) in
          let block = stuck.blocked t e (next.0, next.1, ap (slice_get next.0.entries) (sym same) ∙ next.2) in
          block.2 (Sent-within ts d p block.0 w (may block.0 block.1))
    ]

pub zeros : (n t : ℕ) → slice_index (replicate n 0) t ≡ 0
zeros zero t = refl
zeros (suc n) zero = refl
zeros (suc n) (suc t) = zeros n t

-- where the next entries are blocked there is no honest order
pub none_is_honest : (ts : List Traced) (p : List ℕ) → IsStuck ts p → (order : List ℕ) → IsHonest ts order → ⊥
none_is_honest ts p stuck order h =
    no_order ts p stuck (none_placed ts) order (λ t. omega (arith, zeros (length ts) t)) h

-- nothing was sent before an entry is placed
pub knows_none : (ts : List Traced) → Knows ts (none_placed ts) []
knows_none ts q = (
  λ h. absurd (let lt = h.1 in omega (arith, lt)),
  λ h. absurd (let lt = h.3.2 in omega (arith, lt, zeros (length ts) h.0)),
)

below_or_at : (k i : ℕ) → k < i + 1 → (k < i) ⊎ (k ≡ i)
below_or_at k i lt = grind (arith, lt)

-- what was sent once an entry more is placed: what that sent too
pub sends_more : (ts : List Traced) (p : List ℕ) (t : ℕ) (e : Entry) (q : List ℕ) → t < length p → IsNext ts p t e
    → Sent ts (one_more p t) q ↔ (Sent ts p q ⊎ Sends e q)
sends_more ts p t e q within next = (
  λ s. elim (same_or_not s.0 t) [
    | inl is ↦
        let there : slice_get ts t ≡ Some s.1 = ap (slice_get ts) (sym is) ∙ s.2 in
        let trace : s.1 ≡ next.0 = let n = next.1 in cc in
        let count : slice_index (one_more p t) s.0 ≡ slice_index p t + 1 =
        ap (slice_index (one_more p t)) is ∙ count_set p t (slice_index p t + 1) within in
        elim (below_or_at s.3.0 (slice_index p t) (let lt = s.3.2 in omega (arith, lt, count))) [
          | inl lt ↦ inl (t, s.1, there, (s.3.0, s.3.1, lt, s.3.3, s.3.4))
          | inr at ↦
              let got : slice_get next.0.entries (slice_index p t) ≡ Some s.3.1 =
              ap (λ (tr : Traced). slice_get tr.entries (slice_index p t)) (sym trace)
              ∙ ap (slice_get s.1.entries) (sym at) ∙ s.3.3 in
              let same : s.3.1 ≡ e = let n = next.2 in cc in
              inr (subst (λ (x : Entry). Sends x q) same s.3.4)
        ]
    | inr ne ↦
        let count = set_other p t s.0 (slice_index p t + 1) ne in
        inl (s.0, s.1, s.2, (s.3.0, s.3.1, (let lt = s.3.2 in omega (arith, lt, count)), s.3.3, s.3.4))
  ],
  λ h. ⊎_elim
      (λ (s : Sent ts p q). elim (same_or_not s.0 t) [
        | inl is ↦
            let count : slice_index (one_more p t) s.0 ≡ slice_index p t + 1 =
            ap (slice_index (one_more p t)) is ∙ count_set p t (slice_index p t + 1) within in
            let was : slice_index p s.0 ≡ slice_index p t = ap (slice_index p) is in
            (s.0, s.1, s.2, (s.3.0, s.3.1, (let lt = s.3.2 in omega (arith, lt, count, was)), s.3.3, s.3.4))
        | inr ne ↦
            let count = set_other p t s.0 (slice_index p t + 1) ne in
            (s.0, s.1, s.2, (s.3.0, s.3.1, (let lt = s.3.2 in omega (arith, lt, count)), s.3.3, s.3.4))
      ])
      (λ (s : Sends e q). (t, next.0, next.1, (slice_index p t, e, (let c = count_set p t (slice_index p t + 1) within in omega (arith, c)), next.2, s)))
      h,
)

-- the octets that are known, once an entry more is placed
pub knows_more : (ts : List Traced) (p : List ℕ) (t : ℕ) (e : Entry) (old new : List (List ℕ)) → t < length p
    → IsNext ts p t e → Knows ts p old → ((q : List ℕ) → Contains new q ↔ (Contains old q ⊎ Sends e q))
    → Knows ts (one_more p t) new
knows_more ts p t e old new within next knows added q =
    let m = sends_more ts p t e q within next in (
      λ h. m.1 (⊎_elim (λ l. inl ((knows q).0 l)) (λ r. inr r) ((added q).0 h)),
      λ h. (added q).1 (⊎_elim (λ l. inl ((knows q).1 l)) (λ r. inr r) (m.0 h)),
    )

-- the next entry of a trace, where it stands
pub is_next : (ts : List Traced) (p : List ℕ) (at : ℕ) (trace : Traced) (count : ℕ) (e : Entry) → at < length ts
    → trace ≡ get_or ts at trace → count ≡ slice_index p at → slice_get trace.entries count ≡ Some e → IsNext ts p at e
is_next ts p at trace count e within is counted got =
    (trace, slice_get-get_or ts at trace within ∙ ap Some (sym is), ap (slice_get trace.entries) (sym counted) ∙ got)

-- there is one next entry at most
pub same_next : (ts : List Traced) (p : List ℕ) (t : ℕ) (x y : Entry) → IsNext ts p t x → IsNext ts p t y → x ≡ y
same_next ts p t x y n m =
    let of : n.0 ≡ m.0 = let a = n.1 in let b = m.1 in cc in
    let there : slice_get m.0.entries (slice_index p t) ≡ Some x =
    ap (λ (tr : Traced). slice_get tr.entries (slice_index p t)) (sym of) ∙ n.2 in
    let b = m.2 in cc

-- it stands within its trace
pub next_within : (ts : List Traced) (p : List ℕ) (at : ℕ) (trace : Traced) (count : ℕ) (e : Entry) → IsNext ts p at e
    → trace ≡ get_or ts at trace → count ≡ slice_index p at → count < length trace.entries
next_within ts p at trace count e n is counted =
    let same : trace ≡ n.0 = is ∙ get_or_from_slice_get ts at n.0 trace n.1 in
    let within = slice_get_within n.0.entries (slice_index p at) e n.2 in
    omega (arith, within, counted, ap (λ (tr : Traced). length tr.entries) same)

-- whether the next entry of a trace may stand next, by the octets that are known
pub place_by : (ts : List Traced) (p : List ℕ) (at : ℕ) (trace : Traced) (e : Entry) (sent : List (List ℕ)) (Fits : Type 0)
    (b : Bool) → Knows ts p sent → slice_get ts at ≡ Some trace → slice_get trace.entries (slice_index p at) ≡ Some e
    → Fits → MatchBool b (MayStand (Contains sent) e) (IsBlocked (Contains sent) e)
    → MatchBool b (Fits × ((x : Entry) × IsNext ts p at x × MayStand (Sent ts p) x))
    ((x : Entry) → IsNext ts p at x → IsBlocked (Sent ts p) x)
place_by ts p at trace e sent Fits true knows got next fits m =
    (fits, (e, (trace, got, next), stands_so (Contains sent) (Sent ts p) e (λ q. (knows q).0) m))
place_by ts p at trace e sent Fits false knows got next fits m = λ x n.
    let of : trace ≡ n.0 = let g = n.1 in cc in
    let there : slice_get n.0.entries (slice_index p at) ≡ Some e =
    ap (λ (t : Traced). slice_get t.entries (slice_index p at)) (sym of) ∙ next in
    let same : e ≡ x = let g = n.2 in cc in
    subst (λ (y : Entry). IsBlocked (Sent ts p) y) same
    (blocked_so (Contains sent) (Sent ts p) e (λ q. (knows q).1) m)

-- how many entries are not placed
abbrev pub left : List Traced → List ℕ → ℕ
left [] ps = 0
left (trace ∷ ts) [] = length trace.entries + left ts []
left (trace ∷ ts) (p ∷ ps) = (length trace.entries - p) + left ts ps

pub left_falls : (ts : List Traced) (ps : List ℕ) (t : ℕ) (trace : Traced) → slice_get ts t ≡ Some trace
    → slice_index ps t < length trace.entries → t < length ps → left ts (one_more ps t) < left ts ps
left_falls [] ps t trace got lt within = cc
left_falls (x ∷ ts) [] t trace got lt within = absurd (omega (arith, within))
left_falls (x ∷ ts) (p ∷ ps) zero trace got lt within =
    let same : x ≡ trace = cc in omega (arith, lt, ap (λ (y : Traced). length y.entries) same)
left_falls (x ∷ ts) (p ∷ ps) (suc t) trace got lt within =
    omega (arith, left_falls ts ps t trace got lt (omega (arith, within)))
