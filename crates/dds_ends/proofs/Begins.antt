-- Where a HEARTBEAT to a reader begins, and where it ends, by its row.
use Rattle.std.proofs.Common.{◌≡◌, ◌⊎◌, ⊎_elim, ℕ, zero, suc, ◌+◌, ◌-◌, ◌<◌, ◌≤◌, ◌==◌, Bool, true, false, cond, ◌&&◌, ◌||◌, not, List, [], ◌∷◌, Option, Some, None, map, length, get_or, slice_get, refl, ap, sym, ◌∙◌, subst, arith, take, eq-eqb}
use Rattle.std.specs.Prelude.{max, min, nat_le, if◌then◌else◌}
use Rattle.std.specs.Option.{option_map_or}
use Rattle.std.specs.List.{list_all, list_any}
use Rattle.std.proofs.lemmas.Bool.Decides.{nat_tests}
use Rattle.std.proofs.Math.Nat.{le-max_left, max-le}
use Rattle.std.proofs.lemmas.List.{get_or-map}
use Rattle.std.proofs.lemmas.List.Folds.{list_all_at, list_all_more}
use Rattle.std.proofs.lemmas.Option.{same_Some}
use Rattle.dds_base.specs.Kept.{first_kept}
use Rattle.dds_base.specs.declared.endpoint.Endpoint.{Endpoint}
use Rattle.rtps_writer.specs.WriterState.{first_for, is_reader_silent, last_for}
use Rattle.dds_machine.specs.Part.{ReaderProxy, Writer, history_of, row_of, same_endpoint, writer_changes}
use Rattle.dds_machine.proofs.Tables.{same_is}
use Rattle.dds_protocol.proofs.InOrder.{same_self}
use Rattle.dds_ends.specs.declared.matching.ReaderName.{ReaderName}
use Rattle.dds_protocol.specs.DueMessages.{begins_at, ends_at, is_one_for_all, owed_to}
use Rattle.dds_protocol.specs.Contact.{Contact}
use Rattle.dds_ends.specs.Beating.{AreReadersOf, ends_for}
use Rattle.dds_ends.specs.Kept.{WriterKept}
use Rattle.dds_ends.specs.MatchedEnds.{is_named}
use Rattle.dds_ends.specs.Standing.{IsFirstReader, WriterStands, state_of}
use Rattle.dds_ends.proofs.Beating.{no_row, other_number, row_at, silent_at}
use Rattle.dds_ends.proofs.FirstPeers.{any-map}
use Rattle.dds_ends.proofs.Joining.{no_name}
use Rattle.dds_ends.proofs.Lists.{get-map, map-get}
use Rattle.dds_ends.proofs.Rows.{no_row as none_of}

-- what a writer's parts say of a row is where a HEARTBEAT to its reader begins
pub first_for_row : (w : Writer) (answered : Endpoint → Contact) (row : ℕ) → row < length w.readers
    → first_for (state_of w answered) row ≡ max (owed_to w (get_or w.readers row no_row)) (first_kept (history_of w))
first_for_row w answered row within =
    ap (λ (n : ℕ). max (min n (length (writer_changes w) + 1)) (first_kept (history_of w)))
    (get_or-map (λ (p : ReaderProxy). p.first) w.readers row no_row 0 within)

-- the first row of a reader
row_there : (rows : List ReaderProxy) (reader : Endpoint) (k : ℕ)
    → slice_get (map (λ (p : ReaderProxy). p.reader) rows) k ≡ Some reader
    → ((j : ℕ) → j < k → slice_get (map (λ (p : ReaderProxy). p.reader) rows) j ≡ Some reader → ⊥)
    → row_of (λ (p : ReaderProxy). p.reader) rows reader ≡ Some (get_or rows k no_row)
row_there [] reader k at first = absurd cc
row_there (r ∷ rs) reader zero at first =
    ap (λ (b : Bool). cond b (Some r) (row_of (λ (p : ReaderProxy). p.reader) rs reader))
    (subst (λ (e : Endpoint). same_endpoint r.reader e ≡ true) (same_Some r.reader reader at) (same_self r.reader))
row_there (r ∷ rs) reader (suc k) at first =
    by (same_endpoint r.reader reader) refl
    (row_there rs reader k at (λ j low there. first (suc j) (omega (arith, low)) there))
  where
    by : (b : Bool) → same_endpoint r.reader reader ≡ b
        → row_of (λ (p : ReaderProxy). p.reader) rs reader ≡ Some (get_or rs k no_row)
        → cond b (Some r) (row_of (λ (p : ReaderProxy). p.reader) rs reader) ≡ Some (get_or rs k no_row)
    by true is later =
        absurd (first zero (omega arith) (ap (λ (e : Endpoint). Some e) (same_is r.reader reader is)))
    by false is later = later

-- the row of a reader among the names
row_named : (w : Writer) (names : List ReaderName) (reader : Endpoint) (row : ℕ) → AreReadersOf w names
    → IsFirstReader names reader row
    → row_of (λ (p : ReaderProxy). p.reader) w.readers reader ≡ Some (get_or w.readers row no_row)
row_named w names reader row same f =
    row_there w.readers reader row
    (subst (λ (es : List Endpoint). slice_get es row ≡ Some reader) (sym same)
    (map-get (λ (n : ReaderName). n.reader) names row f.name f.at ∙ ap (λ (e : Endpoint). Some e) f.is))
    (λ j low there.
    let g =
    get-map (λ (n : ReaderName). n.reader) names j reader
    (subst (λ (es : List Endpoint). slice_get es j ≡ Some reader) same there) in
    f.first j g.0 low g.1 g.2)

-- one that is not among them has none
row_unnamed : (w : Writer) (names : List ReaderName) (reader : Endpoint) → AreReadersOf w names
    → ((k : ℕ) (n : ReaderName) → slice_get names k ≡ Some n → n.reader ≡ reader → ⊥)
    → row_of (λ (p : ReaderProxy). p.reader) w.readers reader ≡ None
row_unnamed w names reader same none =
    none_of (λ (p : ReaderProxy). p.reader) w.readers reader
    (λ j there.
    let g =
    get-map (λ (n : ReaderName). n.reader) names j reader
    (subst (λ (es : List Endpoint). slice_get es j ≡ Some reader) same there) in
    none j g.0 g.1 g.2)

-- where a HEARTBEAT to such a one begins
pub begins_row : (w : Writer) (answered : Endpoint → Contact) (names : List ReaderName) (reader : Endpoint) (row : ℕ)
    → AreReadersOf w names → IsFirstReader names reader row → first_for (state_of w answered) row ≡ begins_at w reader
begins_row w answered names reader row same f =
    first_for_row w answered row (row_at w names row same f.within).0
    ∙ (swap (owed_to w (get_or w.readers row no_row)) (first_kept (history_of w))
    ∙ sym (ap (λ (o : Option ReaderProxy). max (first_kept (history_of w)) (option_map_or (owed_to w) o 0))
    (row_named w names reader row same f)))
  where
    swap : (a b : ℕ) → max a b ≡ max b a
    swap a b = omega arith

-- one to a reader without a row begins at the first kept number
pub begins_first : (w : Writer) (names : List ReaderName) (reader : Endpoint) → AreReadersOf w names
    → ((k : ℕ) (n : ReaderName) → slice_get names k ≡ Some n → n.reader ≡ reader → ⊥)
    → first_kept (history_of w) ≡ begins_at w reader
begins_first w names reader same none =
    more (first_kept (history_of w))
    ∙ sym (ap (λ (o : Option ReaderProxy). max (first_kept (history_of w)) (option_map_or (owed_to w) o 0))
    (row_unnamed w names reader same none))
  where
    more : (n : ℕ) → n ≡ max n 0
    more n = omega arith

-- ---- where it ends

-- what a writer's parts say of a row is where a HEARTBEAT to its reader ends
pub ends_row : (w : Writer) (answered : Endpoint → Contact) (names : List ReaderName) (reader : Endpoint) (row : ℕ)
    → AreReadersOf w names → IsFirstReader names reader row
    → last_for (state_of w answered) row ≡ ends_for answered w reader
ends_row w answered names reader row same f =
    let begin : ℕ = first_for (state_of w answered) row in
    let last : ℕ = length (writer_changes w) in
    ap (λ (b : Bool). if b then begin - 1 else last) (silent_at w answered row (row_at w names row same f.within).0)
    ∙ (ap (λ (n : ℕ). if (answered (get_or w.readers row no_row).reader).silent then n - 1 else last)
    (begins_row w answered names reader row same f)
    ∙ sym (ap (λ (o : Option ReaderProxy). option_map_or (λ (p : ReaderProxy).
    if (answered p.reader).silent then begins_at w reader - 1 else last) o last) (row_named w names reader row same f)))

-- one to a reader without a row ends at the last
pub ends_last : (w : Writer) (answered : Endpoint → Contact) (names : List ReaderName) (reader : Endpoint)
    → AreReadersOf w names → ((k : ℕ) (n : ReaderName) → slice_get names k ≡ Some n → n.reader ≡ reader → ⊥)
    → length (writer_changes w) ≡ ends_for answered w reader
ends_last w answered names reader same none =
    let last : ℕ = length (writer_changes w) in
    sym (ap (λ (o : Option ReaderProxy). option_map_or (λ (p : ReaderProxy).
    if (answered p.reader).silent then begins_at w reader - 1 else last) o last) (row_unnamed w names reader same none))

-- it ends where one to a reader of which the same is known does, if one without a row is not silent
ends_same : (w : Writer) (answered : Endpoint → Contact) (reader : Endpoint)
    → (row_of (λ (p : ReaderProxy). p.reader) w.readers reader ≡ None → (answered reader).silent ≡ false)
    → ends_for answered w reader ≡ ends_at answered w reader
ends_same w answered reader quiet = among w.readers quiet
  where
    last : Contact → ℕ
    last contact = if contact.silent then begins_at w reader - 1 else length (writer_changes w)

    ends : Option ReaderProxy → ℕ
    ends o = option_map_or (λ (p : ReaderProxy). last (answered p.reader)) o (length (writer_changes w))

    among : (rows : List ReaderProxy)
        → (row_of (λ (p : ReaderProxy). p.reader) rows reader ≡ None → (answered reader).silent ≡ false)
        → ends (row_of (λ (p : ReaderProxy). p.reader) rows reader) ≡ last (answered reader)
    among [] quiet =
        sym (ap (λ (b : Bool). if b then begins_at w reader - 1 else length (writer_changes w)) (quiet refl))
    among (p ∷ ps) quiet = by (same_endpoint p.reader reader) refl quiet (among ps)
      where
        later : Option ReaderProxy
        later = row_of (λ (q : ReaderProxy). q.reader) ps reader

        by : (b : Bool) → same_endpoint p.reader reader ≡ b
            → (cond b (Some p) later ≡ None → (answered reader).silent ≡ false)
            → ((later ≡ None → (answered reader).silent ≡ false) → ends later ≡ last (answered reader))
            → ends (cond b (Some p) later) ≡ last (answered reader)
        by true is quiet rest = ap (λ (e : Endpoint). last (answered e)) (same_is p.reader reader is)
        by false is quiet rest = rest quiet

-- so it is of a reader that has a row, or is matched
abbrev pub EndsAlike : WriterKept → Writer → (Endpoint → Contact) → Type 0
EndsAlike k w answered = (reader : Endpoint)
    → (is_named k.readers reader ≡ false → is_named k.matched reader ≡ true)
    → ends_for answered w reader ≡ ends_at answered w reader

pub ends_alike : (k : WriterKept) (w : Writer) (answered : Endpoint → Contact) → WriterStands k w answered
    → EndsAlike k w answered
ends_alike k w answered s reader there =
    ends_same w answered reader (λ none. s.quiet reader (there (unnamed none)) (unnamed none))
  where
    nobody : (rows : List ReaderProxy) → row_of (λ (p : ReaderProxy). p.reader) rows reader ≡ None
        → list_any (λ (p : ReaderProxy). same_endpoint p.reader reader) rows ≡ false
    nobody [] none = refl
    nobody (p ∷ ps) none = by (same_endpoint p.reader reader) none (nobody ps)
      where
        by : (b : Bool) → cond b (Some p) (row_of (λ (q : ReaderProxy). q.reader) ps reader) ≡ None
            → (row_of (λ (q : ReaderProxy). q.reader) ps reader ≡ None
            → list_any (λ (q : ReaderProxy). same_endpoint q.reader reader) ps ≡ false)
            → (b || list_any (λ (q : ReaderProxy). same_endpoint q.reader reader) ps) ≡ false
        by true none rest = absurd cc
        by false none rest = rest none

    unnamed : row_of (λ (p : ReaderProxy). p.reader) w.readers reader ≡ None → is_named k.readers reader ≡ false
    unnamed none =
        sym (any-map (λ (n : ReaderName). n.reader) (λ e. same_endpoint e reader) k.readers)
        ∙ (ap (λ (es : List Endpoint). list_any (λ e. same_endpoint e reader) es) (sym s.readers)
        ∙ (any-map (λ (p : ReaderProxy). p.reader) (λ e. same_endpoint e reader) w.readers ∙ nobody w.readers none))

-- ---- whether one is for all readers at a peer

-- the reader of a row is not there, or is owed all that is kept, and not silent
abbrev pub is_for_row : (Endpoint → Contact) → Writer → ℕ → ReaderProxy → Bool
is_for_row answered w to p = not (p.reader.peer == to)
    || (nat_le (owed_to w p) (first_kept (history_of w)) && not (answered p.reader).silent)

-- the reader of a row is there, and is owed no more than what comes later, or is silent
abbrev pub IsApartAt : ℕ → ReaderName → ℕ → ℕ → Bool → Type 0
IsApartAt to name kept first silent = (name.reader.peer ≡ to) × ((kept < first) ⊎ (silent ≡ true))

-- such a one needs a HEARTBEAT by name
pub apart_row : (w : Writer) (answered : Endpoint → Contact) (names : List ReaderName) (row to : ℕ)
    → AreReadersOf w names → row < length names
    → IsApartAt to (get_or names row no_name) (first_kept (history_of w)) (first_for (state_of w answered) row)
    (is_reader_silent (state_of w answered) row)
    → is_one_for_all answered w to ≡ false
apart_row w answered names row to same lt apart =
    let at = row_at w names row same lt in
    let p : ReaderProxy = get_or w.readers row no_row in
    let here : (p.reader.peer == to) ≡ true =
    ap (λ (e : Endpoint). e.peer == to) at.1 ∙ eq-eqb (get_or names row no_name).reader.peer to apart.0 in
    let first = first_for_row w answered row at.0 in
    let all : Bool = nat_le (owed_to w p) (first_kept (history_of w)) in
    let none : (all && not (answered p.reader).silent) ≡ false =
    ⊎_elim
    (λ past. ap (λ (b : Bool). b && not (answered p.reader).silent)
    (after (owed_to w p) (first_kept (history_of w))
    (subst (λ (n : ℕ). first_kept (history_of w) < n) first past)))
    (λ silent. ap (λ (b : Bool). all && not b) (sym (silent_at w answered row at.0) ∙ silent) ∙ late all) apart.1 in
    list_all_at (is_for_row answered w to) w.readers row no_row at.0
    (ap (λ (b : Bool). not b || (all && not (answered p.reader).silent)) here ∙ none)
  where
    late : (b : Bool) → (b && false) ≡ false
    late true = refl
    late false = refl

    after : (a f : ℕ) → f < max a f → nat_le a f ≡ false
    after a f lt = by (nat_le a f) refl
      where
        by : (b : Bool) → nat_le a f ≡ b → nat_le a f ≡ false
        by true is =
            let le : a ≤ f = grind (arith, nat_tests) in
            let most = max-le {a = a} {b = f} {k = f} le (omega arith) in absurd (omega (arith, most, lt))
        by false is = is

-- a row more for which one does
pub one_more : (w : Writer) (answered : Endpoint → Contact) (names : List ReaderName) (row to : ℕ)
    → AreReadersOf w names → row < length names
    → ((get_or names row no_name).reader.peer ≡ to → ⊥)
    ⊎ ((first_for (state_of w answered) row ≤ first_kept (history_of w))
    × (is_reader_silent (state_of w answered) row ≡ false))
    → list_all (is_for_row answered w to) (take row w.readers) ≡ true
    → list_all (is_for_row answered w to) (take (row + 1) w.readers) ≡ true
one_more w answered names row to same lt either before =
    list_all_more (is_for_row answered w to) w.readers row no_row at.0
    ∙ (ap (λ (b : Bool). b && is_for_row answered w to p) before ∙ ⊎_elim elsewhere (λ f. all f.0 f.1) either)
  where
    at : (row < length w.readers) × ((get_or w.readers row no_row).reader ≡ (get_or names row no_name).reader)
        × (get_or (map (λ (q : ReaderProxy). q.acknowledged) w.readers) row 0
        ≡ (get_or w.readers row no_row).acknowledged)
    at = row_at w names row same lt

    p : ReaderProxy
    p = get_or w.readers row no_row

    is_owed_all : Bool
    is_owed_all = nat_le (owed_to w p) (first_kept (history_of w))

    elsewhere : ((get_or names row no_name).reader.peer ≡ to → ⊥) → is_for_row answered w to p ≡ true
    elsewhere other =
        ap (λ (b : Bool). not b || (is_owed_all && not (answered p.reader).silent))
        (ap (λ (e : Endpoint). e.peer == to) at.1 ∙ other_number (get_or names row no_name).reader.peer to other)

    all : first_for (state_of w answered) row ≤ first_kept (history_of w)
        → is_reader_silent (state_of w answered) row ≡ false → is_for_row answered w to p ≡ true
    all most heard =
        let first = first_for_row w answered row at.0 in
        let least = le-max_left (owed_to w p) (first_kept (history_of w)) in
        let le : owed_to w p ≤ first_kept (history_of w) = omega (arith, least, first, most) in
        let so : is_owed_all ≡ true = grind (arith, nat_tests) in
        ap (λ (b : Bool). not (p.reader.peer == to) || (b && not (answered p.reader).silent)) so
        ∙ (ap (λ (b : Bool). not (p.reader.peer == to) || not b) (sym (silent_at w answered row at.0) ∙ heard)
        ∙ late (not (p.reader.peer == to)))
      where
        late : (b : Bool) → (b || true) ≡ true
        late true = refl
        late false = refl
