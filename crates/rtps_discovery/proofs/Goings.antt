-- Where packets go, and where rows come from.
use Rattle.std.proofs.Common.{◌≡◌, ◌⊎◌, ◌∙◌, ℕ, Bool, true, false, cond, List, [], ◌∷◌, ◌++◌, map, filter_map, set, max, Contains, Option, Some, None, refl, sym, ap, subst, inl, inr, ⊎_elim}
use Rattle.std.specs.Prelude.{find, not, unwrap_or, IfSome}
use Rattle.std.specs.List.{position}
use Rattle.std.specs.Option.{option_and_then, option_map, option_map_or}
use Rattle.std.specs.Str.{bytes_eq}
use Rattle.std.proofs.lemmas.List.Elements.{Contains-append_cases, Contains-push_cases}
use Rattle.dds_base.specs.declared.guid.GuidPrefix.{GuidPrefix}
use Rattle.dds_base.proofs.FieldLaws.{some_is}
use Rattle.rtps_announcements.specs.declared.locator.Locator.{Locator}
use Rattle.rtps_announcements.specs.declared.participant.Participant.{Participant}
use Rattle.rtps_discovery.specs.declared.packet.Packet.{Packet}
use Rattle.rtps_discovery.specs.declared.row.Row.{Row}
use Rattle.rtps_discovery.specs.declared.row.Limits.{Limits}
use Rattle.rtps_discovery.specs.declared.spdp.Said.{Said}
use Rattle.rtps_discovery.specs.declared.spdp.Said.TheVariants.{Announces, Leaves}
use Rattle.rtps_discovery.specs.Packets.{farewell_data, message_to}
use Rattle.rtps_discovery.specs.Rows.{announced, entered, has_row, heard, heard_row, is_row_at, new_row, reach, with_room}
use Rattle.rtps_discovery.specs.Steps.{State, Delivers, announced_to, announcements, is_due, packet_for, rows_after, welcome}
use Rattle.rtps_discovery.specs.Laws.{AnswersGoBack, AnnouncementsGoToKnown, FarewellsGoToKnown, GoesTo, HasSource, SourcesWereHeard}
use Rattle.rtps_discovery.proofs.Members.{nothing_in, from_map, from_filter, from_filter_map, from_removed, from_set}
use Rattle.rtps_discovery.proofs.Standing.{Removed, Whole, position_within, room_is, same_address}

found_passes : {X : Type 0} (p : X → Bool) (xs : List X) (x : X) → find p xs ≡ Some x → p x ≡ true
found_passes p [] x e = absurd cc
found_passes {X} p (y ∷ ys) x e = by_test (λ f. found_passes p ys x f) (p y) refl e
  where
    by_test : (find p ys ≡ Some x → p x ≡ true) → (b : Bool) → p y ≡ b → cond b (Some y) (find p ys) ≡ Some x → p x ≡ true
    by_test later true is e = ap p (sym (some_is y x e)) ∙ is
    by_test later false is e = later e

reached : (r : Row) (l : Locator) → reach r ≡ Some l → l.address ≡ r.source
reached r l e =
    same_address l.address r.source
    (found_passes (λ (l : Locator). bytes_eq l.address r.source) r.participant.metatraffic l e)

packet_to : (own : GuidPrefix) (for_one : List ℕ) (r : Row) (p : Packet) → packet_for own for_one r ≡ Some p
    → p.to.address ≡ r.source
packet_to own for_one r p e = by_reach (reach r) refl e
  where
    by_reach : (o : Option Locator) → reach r ≡ o
        → option_map (λ (l : Locator). record {
          to = l;
          bytes = message_to own (Some r.participant.prefix) for_one;
        }) o ≡ Some p → p.to.address ≡ r.source
    by_reach None is e = absurd cc
    by_reach (Some l) is e =
        let made : Packet = record { to = l; bytes = message_to own (Some r.participant.prefix) for_one } in
        ap (λ (z : Packet). z.to.address) (sym (some_is made p e)) ∙ reached r l is

welcomed : (s : State) (source : GuidPrefix) (address : List ℕ) (now : ℕ) (o : Option Said) (p : Packet)
    → welcome s source address now o ≡ Some p → p.to.address ≡ address
welcomed s source address now None p e = absurd cc
welcomed s source address now (Some Leaves) p e = absurd cc
welcomed s source address now (Some (Announces q)) p e = by_test (has_row source s.rows) e
  where
    by_room : (o : Option (List Row))
        → option_and_then (λ (rows : List Row). announced_to s (new_row q address now)) o ≡ Some p → p.to.address ≡ address
    by_room None e = absurd cc
    by_room (Some rows) e = packet_to s.own s.for_one (new_row q address now) p e

    by_test : (b : Bool)
        → cond b None (option_and_then (λ (rows : List Row). announced_to s (new_row q address now))
        (with_room s.limits address s.rows)) ≡ Some p → p.to.address ≡ address
    by_test true e = absurd cc
    by_test false e = by_room (with_room s.limits address s.rows) e

pub answers_go_back : AnswersGoBack
answers_go_back d = by_packet d.packet refl
  where
    by_delivery : (p : Packet) → d.packet ≡ Some p
        → Delivers d.before d.moment d.address d.bytes d.after d.told d.packet → p.to.address ≡ d.address
    by_delivery p is (inl h) =
        welcomed d.before h.source d.address (max d.before.time d.moment) h.said p (sym h.packet_is ∙ is)
    by_delivery p is (inr o) = let clash : None ≡ Some p = sym o.packet_is ∙ is in absurd cc

    by_packet : (o : Option Packet) → d.packet ≡ o → IfSome o (λ p. p.to.address ≡ d.address)
    by_packet None is = tt
    by_packet (Some p) is = by_delivery p is d.delivers

-- ---- what is sent at a tick

of_list : (s : State) (text : List ℕ) (p : Packet)
    → Contains (map (λ (l : Locator). record { to = l; bytes = message_to s.own None text }) s.addresses) p → GoesTo s p.to
of_list s text p c =
    let found =
    from_map (λ (l : Locator). record { to = l; bytes = message_to s.own None text }) s.addresses p c in
    inl (subst (λ (l : Locator). Contains s.addresses l) (ap (λ (z : Packet). z.to) found.2) found.1)

of_row : (rows : List Row) (r : Row) (a : List ℕ) → Contains rows r → a ≡ r.source → HasSource rows a
of_row rows r a c e = (c.0, r, c.1, c.2, sym e)

of_rows : (s : State) (p : Packet) → Contains (filter_map (packet_for s.own s.for_one) s.rows) p → GoesTo s p.to
of_rows s p c =
    let found = from_filter_map (packet_for s.own s.for_one) s.rows p c in
    inr (of_row s.rows found.0 p.to.address found.1 (packet_to s.own s.for_one found.0 p found.2))

pub announcements_go_to_known : AnnouncementsGoToKnown
announcements_go_to_known s now p c = by_test (is_due s now) c
  where
    by_test : (b : Bool) → Contains (cond b (announcements s) []) p → GoesTo s p.to
    by_test true c =
        ⊎_elim (λ m. of_list s s.for_all p m) (λ m. of_rows s p m)
        (Contains-append_cases (map (λ (l : Locator). record { to = l; bytes = message_to s.own None s.for_all }) s.addresses)
        (filter_map (packet_for s.own s.for_one) s.rows) p c)
    by_test false c = absurd (nothing_in p c)

pub farewells_go_to_known : FarewellsGoToKnown
farewells_go_to_known s p c =
    let found =
    from_map (λ (l : Locator). record { to = l; bytes = message_to s.own None (farewell_data s.own) })
    (s.addresses ++ filter_map reach s.rows) p c in
    subst (λ (l : Locator). GoesTo s l) (ap (λ (z : Packet). z.to) found.2)
    (⊎_elim (λ m. inl m)
    (λ m. let row = from_filter_map reach s.rows found.0 m in
    inr (of_row s.rows row.0 found.0.address row.1 (reached row.0 found.0 row.2)))
    (Contains-append_cases s.addresses (filter_map reach s.rows) found.0 found.1))

-- ---- where rows come from

-- Its address is this one, or that of a row before.
abbrev Comes : List ℕ → List Row → Row → Type 0
Comes address old r = (r.source ≡ address) ⊎ HasSource old r.source

abbrev source_of : Row → List ℕ
source_of r = r.source

heard_source : (prefix : GuidPrefix) (address : List ℕ) (now : ℕ) (r : Row)
    → (heard_row prefix address now r).source ≡ r.source
heard_source prefix address now r = by_test (is_row_at prefix address r)
  where
    by_test : (b : Bool)
        → source_of (cond b (record {
          participant = r.participant;
          source = r.source;
          heard = now;
          is_awake = true;
        }) r) ≡ r.source
    by_test true = refl
    by_test false = refl

from_heard : (prefix : GuidPrefix) (address : List ℕ) (now : ℕ) (rows : List Row) (r : Row)
    → Contains (heard prefix address now rows) r → Comes address rows r
from_heard prefix address now rows r c =
    let found = from_map (heard_row prefix address now) rows r c in
    inr (of_row rows found.0 r.source found.1
    (ap (λ (z : Row). z.source) (sym found.2) ∙ heard_source prefix address now found.0))

from_announced : (p : Participant) (address : List ℕ) (now : ℕ) (rows : List Row) (r : Row)
    → Contains (announced p address now rows) r → (r.source ≡ address) ⊎ Contains rows r
from_announced p address now rows r c = by_place (position (is_row_at p.prefix address) rows) refl c
  where
    by_place : (o : Option ℕ) → position (is_row_at p.prefix address) rows ≡ o
        → Contains (option_map_or (λ i. set rows i (new_row p address now)) o rows) r
        → (r.source ≡ address) ⊎ Contains rows r
    by_place None is c = inr c
    by_place (Some i) is c =
        ⊎_elim (λ e. inl (ap (λ (z : Row). z.source) (sym e))) (λ m. inr m)
        (from_set rows i (new_row p address now) r (position_within (is_row_at p.prefix address) rows i is) c)

from_entered : (limits : Limits) (p : Participant) (address : List ℕ) (now : ℕ) (rows : List Row) (r : Row)
    → Contains (entered limits p address now rows) r → (r.source ≡ address) ⊎ Contains rows r
from_entered limits p address now rows r c = by_room (with_room limits address rows) refl c
  where
    by_kept : (kept : List Row) → Whole limits address rows kept ⊎ Removed limits address rows kept → Contains kept r
        → Contains rows r
    by_kept kept (inl w) c = subst (λ (z : List Row). Contains z r) w.is c
    by_kept kept (inr m) c = from_removed rows m.place r m.within (subst (λ (z : List Row). Contains z r) m.is c)

    by_room : (o : Option (List Row)) → with_room limits address rows ≡ o
        → Contains (unwrap_or (option_map (λ (kept : List Row). kept ++ new_row p address now ∷ []) o) rows) r
        → (r.source ≡ address) ⊎ Contains rows r
    by_room None is c = inr c
    by_room (Some kept) is c =
        ⊎_elim (λ m. inr (by_kept kept (room_is limits address rows kept is) m))
        (λ e. inl (ap (λ (z : Row). z.source) (sym e))) (Contains-push_cases kept (new_row p address now) r c)

itself : (address : List ℕ) (rows : List Row) (r : Row) → Contains rows r → Comes address rows r
itself address rows r c = inr (of_row rows r r.source c refl)

comes : (s : State) (source : GuidPrefix) (address : List ℕ) (now : ℕ) (o : Option Said) (r : Row)
    → Contains (rows_after s source address now o) r → Comes address s.rows r
comes s source address now None r c = from_heard source address now s.rows r c
comes s source address now (Some Leaves) r c =
    from_heard source address now s.rows r
    (from_filter (λ (r : Row). not (is_row_at source address r)) (heard source address now s.rows) r c)
comes s source address now (Some (Announces p)) r c = by_test (has_row source s.rows) c
  where
    by_test : (b : Bool)
        → Contains (cond b (announced p address now (heard source address now s.rows)) (entered s.limits p address now s.rows)) r
        → Comes address s.rows r
    by_test true c =
        ⊎_elim (λ e. inl e) (λ m. from_heard source address now s.rows r m)
        (from_announced p address now (heard source address now s.rows) r c)
    by_test false c =
        ⊎_elim (λ e. inl e) (λ m. itself address s.rows r m) (from_entered s.limits p address now s.rows r c)

pub sources_were_heard : SourcesWereHeard
sources_were_heard d r c = by_delivery d.delivers
  where
    by_delivery : Delivers d.before d.moment d.address d.bytes d.after d.told d.packet → Comes d.address d.before.rows r
    by_delivery (inl h) =
        comes d.before h.source d.address (max d.before.time d.moment) h.said r
        (subst (λ (z : State). Contains z.rows r) h.state c)
    by_delivery (inr p) =
        itself d.address d.before.rows r (subst (λ (z : State). Contains z.rows r) p.state c)
