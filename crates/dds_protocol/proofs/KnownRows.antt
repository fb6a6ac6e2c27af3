-- A writer that a reader does not know has no row there: the reader does not stand to it. One that it knows it knows
-- ever after.
use Rattle.std.proofs.Common.{◌≡◌, ℕ, ◌+◌, Bool, true, false, List, [], ◌∷◌, Option, None, Some, refl, ap, sym, ◌∙◌}
use Rattle.std.specs.Prelude.{if◌then◌else◌, is_some}
use Rattle.std.specs.Option.{option_map, option_map_or}
use Rattle.dds_base.specs.declared.endpoint.Endpoint.{Endpoint}
use Rattle.dds_machine.specs.Matching.{is_known}
use Rattle.dds_machine.specs.Moves.{IsMatchedAt}
use Rattle.dds_machine.specs.Numbered.{numbered}
use Rattle.dds_machine.specs.Part.{Away, Part, Rtps, WriterProxy, how_of, is_attached, own_proxies, place_of, publication_among, publication_from, row_of, same_endpoint}
use Rattle.dds_protocol.proofs.Growth.{Grows, none_before}

nothing_there : (o : Option WriterProxy) → is_some o ≡ false → o ≡ None
nothing_there None h = refl
nothing_there (Some p) h = cc

pub no_row : (rows : List WriterProxy) (w : Endpoint) → is_known rows w ≡ false
    → row_of (λ (p : WriterProxy). p.writer) rows w ≡ None
no_row rows w unknown = nothing_there (row_of (λ (p : WriterProxy). p.writer) rows w) unknown

-- the two are not matched there
pub unknown_apart : (rows : List WriterProxy) (w : Endpoint) → is_known rows w ≡ false
    → is_attached (how_of rows w) ≡ true → ⊥
unknown_apart rows w unknown met =
    let apart : is_attached (how_of rows w) ≡ false =
    ap (λ (o : Option WriterProxy). is_attached (option_map_or (λ (p : WriterProxy). p.how) o Away))
    (no_row rows w unknown) in
    absurd cc

-- and it has no place there
pub unknown_unmatched : (part : Part) (r : ℕ) (w : Endpoint) (publication number : ℕ)
    → is_known (own_proxies part r) w ≡ false → IsMatchedAt part w r publication number → ⊥
unknown_unmatched part r w publication number unknown matched =
    let none : place_of (own_proxies part r) w ≡ None =
    ap (λ (o : Option WriterProxy). option_map (λ (p : WriterProxy). p.place) o) (no_row (own_proxies part r) w unknown) in
    let clash : None ≡ Some number = sym none ∙ matched.at in
    absurd cc

-- ---- who is known

-- a writer has a publication handle exactly if it is known
handle_from : (n : ℕ) (rows : List WriterProxy) (w : Endpoint) → is_some (publication_from n rows w) ≡ is_known rows w
handle_from n [] w = refl
handle_from n (p ∷ ps) w = by (same_endpoint p.writer w) (handle_from (n + 1) ps w)
  where
    by : (b : Bool) → is_some (publication_from (n + 1) ps w) ≡ is_known ps w
        → is_some (if b then Some n else publication_from (n + 1) ps w)
        ≡ is_some (if b then Some p else row_of (λ (q : WriterProxy). q.writer) ps w)
    by true later = refl
    by false later = later

-- so where it has the same handle as before, it is known as before
pub known_by_handle : (old new : List WriterProxy) (w : Endpoint) → publication_among new w ≡ publication_among old w
    → is_known old w ≡ true → is_known new w ≡ true
known_by_handle old new w same known =
    sym (handle_from 1 new w) ∙ (ap (λ (o : Option ℕ). is_some o) same ∙ (handle_from 1 old w ∙ known))

-- a row has a place
placed : (o : Option WriterProxy) → is_some (option_map (λ (p : WriterProxy). p.place) o) ≡ is_some o
placed None = refl
placed (Some p) = refl

-- whom a reader knows it knows in all that follows
pub known_on : (old new : Rtps) → Grows old new → (r : ℕ) (w : Endpoint)
    → is_known (numbered old.readers r []) w ≡ true → is_known (numbered new.readers r []) w ≡ true
known_on old new g r w known = by (row (numbered new.readers r [])) refl
  where
    row : List WriterProxy → Option WriterProxy
    row rows = row_of (λ (p : WriterProxy). p.writer) rows w

    by : (o : Option WriterProxy) → row (numbered new.readers r []) ≡ o → is_some o ≡ true
    by (Some p) e = refl
    by None e =
        let none : place_of (numbered old.readers r []) w ≡ None =
        none_before old new g r w (ap (λ (o : Option WriterProxy). option_map (λ (p : WriterProxy). p.place) o) e) in
        let unknown : is_known (numbered old.readers r []) w ≡ false =
        sym (placed (row (numbered old.readers r []))) ∙ ap (λ (o : Option ℕ). is_some o) none in
        let clash : true ≡ false = sym known ∙ unknown in
        absurd cc
