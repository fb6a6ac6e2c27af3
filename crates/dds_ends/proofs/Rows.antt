-- A reader's matched writers, of which the first of an endpoint is looked for.
use Rattle.std.proofs.Common.{◌≡◌, ℕ, zero, suc, ◌+◌, ◌<◌, Bool, true, false, cond, List, [], ◌∷◌, Option, Some, None, map, slice_get, refl, ap, sym, ◌∙◌, arith}
use Rattle.std.specs.List.{AllByRecursion}
use Rattle.std.specs.Option.{option_map, option_map_or}
use Rattle.std.proofs.lemmas.Option.{same_Some}
use Rattle.dds_base.specs.declared.endpoint.Endpoint.{Endpoint}
use Rattle.dds_machine.specs.Part.{Away, Begun, how_of, WriterProxy, same_endpoint, row_of, with_row, place_of, publication_from, publication_among}
use Rattle.dds_protocol.proofs.InOrder.{same_self}
use Rattle.dds_machine.proofs.Tables.{same_is}
use Rattle.dds_ends.specs.declared.matching.WriterName.{WriterName}
use Rattle.dds_ends.specs.Standing.{IsFirstRow}

abbrev pub writers_of : List WriterName → List Endpoint
writers_of names = map (λ (n : WriterName). n.writer) names

abbrev pub proxied : List WriterProxy → List Endpoint
proxied proxies = map (λ (p : WriterProxy). p.writer) proxies

-- the endpoint stands at this index, and at no earlier one
abbrev pub IsFirstOf : List Endpoint → Endpoint → ℕ → Type 0
IsFirstOf [] e k = ⊥
IsFirstOf (x ∷ xs) e zero = same_endpoint x e ≡ true
IsFirstOf (x ∷ xs) e (suc k) = (same_endpoint x e ≡ false) × IsFirstOf xs e k

not_same : (b : Bool) → (b ≡ true → ⊥) → b ≡ false
not_same true never = absurd (never refl)
not_same false never = refl

first_of : (names : List WriterName) (e : Endpoint) (k : ℕ) (name : WriterName) → slice_get names k ≡ Some name
    → name.writer ≡ e → ((j : ℕ) (n : WriterName) → j < k → slice_get names j ≡ Some n → n.writer ≡ e → ⊥)
    → IsFirstOf (writers_of names) e k
first_of [] e k name at is before = absurd cc
first_of (n ∷ ns) e zero name at is before =
    let same : n ≡ name = same_Some n name at in
    ap (λ (x : WriterName). same_endpoint x.writer e) same ∙ (ap (λ (x : Endpoint). same_endpoint x e) is ∙ same_self e)
first_of (n ∷ ns) e (suc k) name at is before = (
  not_same (same_endpoint n.writer e) (λ t. before zero n (omega arith) refl (same_is n.writer e t)),
  first_of ns e k name at is (λ j x lt there same. before (suc j) x (omega (arith, lt)) there same),
)

pub is_first_of : (names : List WriterName) (e : Endpoint) (k : ℕ) → IsFirstRow names e k
    → IsFirstOf (writers_of names) e k
is_first_of names e k h = first_of names e k h.name h.at h.is h.first

hit : {X : Type 0} (b : Bool) (x y : X) → b ≡ true → cond b x y ≡ x
hit true x y h = refl
hit false x y h = absurd cc

miss : {X : Type 0} (b : Bool) (x y : X) → b ≡ false → cond b x y ≡ y
miss true x y h = absurd cc
miss false x y h = refl

-- an end that no row is of
not_first : {X : Type 0} (name : X → Endpoint) (b : Bool) (x : X) (xs : List X) (e : Endpoint)
    → same_endpoint (name x) e ≡ b → (name x ≡ e → ⊥)
    → row_of name xs e ≡ None → cond b (Some x) (row_of name xs e) ≡ None
not_first name true x xs e is other rest = absurd (other (same_is (name x) e is))
not_first name false x xs e is other rest = rest

pub no_row : {X : Type 0} (name : X → Endpoint) (rows : List X) (e : Endpoint)
    → ((j : ℕ) → slice_get (map name rows) j ≡ Some e → ⊥)
    → row_of name rows e ≡ None
no_row name [] e none = refl
no_row name (x ∷ xs) e none =
    not_first name (same_endpoint (name x) e) x xs e refl (λ same. none zero (ap (λ (d : Endpoint). Some d) same))
    (no_row name xs e (λ j at. none (suc j) at))

-- its publication handle
handle_from : (proxies : List WriterProxy) (e : Endpoint) (k n : ℕ) → IsFirstOf (proxied proxies) e k
    → publication_from n proxies e ≡ Some (n + k)
handle_from [] e k n first = absurd first
handle_from (p ∷ ps) e zero n first =
    let same : n + 0 ≡ n = omega arith in hit (same_endpoint p.writer e) (Some n) (publication_from (n + 1) ps e) first
    ∙ ap (λ (m : ℕ). Some m) (sym same)
handle_from (p ∷ ps) e (suc k) n first =
    let same : n + 1 + k ≡ n + suc k = omega arith in
    miss (same_endpoint p.writer e) (Some n) (publication_from (n + 1) ps e) first.0
    ∙ (handle_from ps e k (n + 1) first.1 ∙ ap (λ (m : ℕ). Some m) same)

pub handle_is : (proxies : List WriterProxy) (e : Endpoint) (k : ℕ) → IsFirstOf (proxied proxies) e k
    → publication_among proxies e ≡ Some (k + 1)
handle_is proxies e k first =
    let same : 1 + k ≡ k + 1 = omega arith in handle_from proxies e k 1 first ∙ ap (λ (m : ℕ). Some m) same

-- there is a place
pub place_there : (proxies : List WriterProxy) (e : Endpoint) (k : ℕ) → IsFirstOf (proxied proxies) e k
    → (p : ℕ) × (place_of proxies e ≡ Some p)
place_there [] e k first = absurd first
place_there (p ∷ ps) e zero first = (
  p.place,
  ap (λ (o : Option WriterProxy). option_map (λ (q : WriterProxy). q.place) o)
      (hit (same_endpoint p.writer e) (Some p) (row_of (λ (q : WriterProxy). q.writer) ps e) first),
)
place_there (p ∷ ps) e (suc k) first =
    let rest = place_there ps e k first.1 in (
      rest.0,
      ap (λ (o : Option WriterProxy). option_map (λ (q : WriterProxy). q.place) o)
          (miss (same_endpoint p.writer e) (Some p) (row_of (λ (q : WriterProxy). q.writer) ps e) first.0) ∙ rest.1,
    )

-- each place has begun
abbrev pub AllBegun : List WriterProxy → Type 0
AllBegun rows = AllByRecursion (λ (p : WriterProxy). p.how ≡ Begun) rows

-- so has that of the first row of a writer
pub how_there : (rows : List WriterProxy) (e : Endpoint) (k : ℕ) → IsFirstOf (proxied rows) e k → AllBegun rows
    → how_of rows e ≡ Begun
how_there [] e k first all = absurd first
how_there (p ∷ ps) e zero first all =
    ap (λ (o : Option WriterProxy). option_map_or (λ (q : WriterProxy). q.how) o Away)
    (hit (same_endpoint p.writer e) (Some p) (row_of (λ (q : WriterProxy). q.writer) ps e) first)
    ∙ all.0
how_there (p ∷ ps) e (suc k) first all =
    ap (λ (o : Option WriterProxy). option_map_or (λ (q : WriterProxy). q.how) o Away)
    (miss (same_endpoint p.writer e) (Some p) (row_of (λ (q : WriterProxy). q.writer) ps e) first.0)
    ∙ how_there ps e k first.1 all.1

-- a changed row is still of its writer
kept_step : (change : WriterProxy → WriterProxy) (p : WriterProxy) (ps qs : List WriterProxy) (b : Bool)
    → (change p).writer ≡ p.writer → proxied qs ≡ proxied ps
    → proxied (cond b (change p ∷ ps) (p ∷ qs)) ≡ proxied (p ∷ ps)
kept_step change p ps qs true kept h = ap (λ (e : Endpoint). e ∷ proxied ps) kept
kept_step change p ps qs false kept h = ap (λ (es : List Endpoint). p.writer ∷ es) h

pub writers_kept : (change : WriterProxy → WriterProxy) → ((p : WriterProxy) → (change p).writer ≡ p.writer)
    → (rows : List WriterProxy) (w : Endpoint) → proxied (with_row (λ (p : WriterProxy). p.writer) change rows w)
    ≡ proxied rows
writers_kept change kept [] w = refl
writers_kept change kept (p ∷ ps) w =
    kept_step change p ps (with_row (λ (q : WriterProxy). q.writer) change ps w) (same_endpoint p.writer w) (kept p)
    (writers_kept change kept ps w)

-- one row is the first
pub one_first : (names : List WriterName) (e : Endpoint) (j k : ℕ) → IsFirstRow names e j → IsFirstRow names e k → j ≡ k
one_first names e j k a b =
    let not_before : j < k → ⊥ = λ lt. b.first j a.name lt a.at a.is in
    let not_after : k < j → ⊥ = λ lt. a.first k b.name lt b.at b.is in
    omega (arith, not_before, not_after)
