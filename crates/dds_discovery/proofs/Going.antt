-- Where the packets of steps go.
use Rattle.std.proofs.Common.{◌≡◌, ◌∙◌, ℕ, Bool, true, false, cond, List, [], ◌∷◌, Any, Contains, Option, Some, None, refl, sym, ap, subst, inl, inr, arith}
use Rattle.std.specs.Prelude.{find, IfSome}
use Rattle.std.specs.Option.{option_and_then}
use Rattle.std.specs.Str.{bytes_eq}
use Rattle.std.proofs.lemmas.List.Elements.{Contains-append_right}
use Rattle.std.proofs.lemmas.Slice.Eq.{bytes_eq-Decides}
use Rattle.dds_base.specs.declared.guid.GuidPrefix.{GuidPrefix}
use Rattle.dds_base.proofs.FieldLaws.{some_is}
use Rattle.rtps_announcements.specs.declared.locator.Locator.{Locator}
use Rattle.rtps_discovery.specs.declared.packet.Packet.{Packet}
use Rattle.rtps_discovery.specs.declared.row.Row.{Row}
use Rattle.rtps_discovery.specs.Rows.{is_row, reach}
use Rattle.rtps_matching.specs.declared.told.Told.{Told}
use Rattle.rtps_matching.specs.Steps.{Table}
use Rattle.dds_discovery.specs.declared.due.Chore.{Chore}
use Rattle.dds_discovery.specs.declared.due.Chore.TheVariants.{Do, Publication, Send, Subscription, Turn}
use Rattle.dds_discovery.specs.declared.due.Due.{Due}
use Rattle.dds_discovery.specs.declared.due.Due.TheVariants.{Forget, Leave, Open, Serve}
use Rattle.dds_discovery.specs.declared.link.Link.{Link}
use Rattle.dds_discovery.specs.Chores.{DoesChore, GoesOut, Sends, address_of}
use Rattle.dds_discovery.specs.Laws.{StepsSendBack}
use Rattle.dds_discovery.specs.States.{State, having}
use Rattle.dds_discovery.specs.Steps.{Does}
use Rattle.dds_discovery.specs.Tasks.{Having}

found_in : {X : Type 0} (p : X → Bool) (xs : List X) (x : X) → find p xs ≡ Some x → Contains xs x
found_in p [] x e = absurd cc
found_in {X} p (y ∷ ys) x e = by_test (λ f. found_in p ys x f) (p y) e
  where
    by_test : (find p ys ≡ Some x → Contains ys x) → (b : Bool) → cond b (Some y) (find p ys) ≡ Some x
        → Contains (y ∷ ys) x
    by_test later true e = (0, omega arith, some_is y x e)
    by_test later false e = Contains-append_right (y ∷ []) ys x (later e)

found_passes : {X : Type 0} (p : X → Bool) (xs : List X) (x : X) → find p xs ≡ Some x → p x ≡ true
found_passes p [] x e = absurd cc
found_passes {X} p (y ∷ ys) x e = by_test (λ f. found_passes p ys x f) (p y) refl e
  where
    by_test : (find p ys ≡ Some x → p x ≡ true) → (b : Bool) → p y ≡ b → cond b (Some y) (find p ys) ≡ Some x → p x ≡ true
    by_test later true is e = ap p (sym (some_is y x e)) ∙ is
    by_test later false is e = later e

reached : (r : Row) (l : Locator) → reach r ≡ Some l → l.address ≡ r.source
reached r l e =
    (bytes_eq-Decides l.address r.source).0
    (found_passes (λ (l : Locator). bytes_eq l.address r.source) r.participant.metatraffic l e)

-- a row of this address
abbrev HasSource : List Row → List ℕ → Type 0
HasSource rows address = Any (λ (r : Row). r.source ≡ address) rows

reached_row : (prefix : GuidPrefix) (rows : List Row) (to : Locator) → address_of prefix rows ≡ Some to
    → HasSource rows to.address
reached_row prefix rows to e = by_row (find (is_row prefix) rows) refl e
  where
    by_row : (o : Option Row) → find (is_row prefix) rows ≡ o → option_and_then reach o ≡ Some to → HasSource rows to.address
    by_row None is e = absurd cc
    by_row (Some r) is e =
        let c = found_in (is_row prefix) rows r is in (c.0, r, c.1, c.2, sym (reached r to e))

goes_out : (own prefix : GuidPrefix) (rows : List Row) (bytes : List ℕ) (o : Option Packet)
    → GoesOut own (address_of prefix rows) bytes o → IfSome o (λ p. HasSource rows p.to.address)
goes_out own prefix rows bytes None g = tt
goes_out own prefix rows bytes (Some p) g = reached_row prefix rows p.to g.0

sends_none : (rows : List Row) (o : Option Packet) → o ≡ None → IfSome o (λ p. HasSource rows p.to.address)
sends_none rows o e = subst (λ (x : Option Packet). IfSome x (λ p. HasSource rows p.to.address)) (sym e) tt

sends_back : (own : GuidPrefix) (rows : List Row) (l : Link) (packet : Option Packet) (new : Link)
    → Sends own rows l packet new → IfSome packet (λ p. HasSource rows p.to.address)
sends_back own rows l packet new (inl x) = goes_out own l.network.prefix rows x.first.bytes packet x.goes
sends_back own rows l packet new (inr x) = sends_none rows packet x.1

chore_sends : (o : Having) (rows : List Row) (chore : Option Chore) (l : Link) (t : Table) (told : List Told)
    (packet : Option Packet) (new : Link) (after : Table) → DoesChore o rows chore l t told packet new after
    → IfSome packet (λ p. HasSource rows p.to.address)
chore_sends o rows None l t told packet new after h = sends_none rows packet h.3
chore_sends o rows (Some (Turn there)) l t told packet new after h = sends_none rows packet h.1
chore_sends o rows (Some Send) l t told packet new after h = sends_back o.prefix rows l packet new h.0
chore_sends o rows (Some Publication) l t told packet new after h = sends_none rows packet h.1
chore_sends o rows (Some Subscription) l t told packet new after h = sends_none rows packet h.1
chore_sends o rows (Some (Do task)) l t told packet new after h = sends_none rows packet h.2

does_send : (d : Due) (s : State) (told : List Told) (packet : Option Packet) (new : State) → Does d s told packet new
    → IfSome packet (λ p. HasSource s.participants.rows p.to.address)
does_send (Leave place) s told packet new h = sends_none s.participants.rows packet h.1
does_send (Forget place) s told packet new h = sends_none s.participants.rows packet h.2
does_send (Open place) s told packet new h = sends_none s.participants.rows packet h.2
does_send (Serve place) s told packet new h =
    chore_sends (having s) s.participants.rows h.chore h.link s.endpoints told packet h.after h.endpoints h.does

pub steps_send_back : StepsSendBack
steps_send_back s = does_send s.next s.before s.told s.packet s.after s.does
