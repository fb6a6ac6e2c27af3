-- An event of one participant leaves what is known of every other as it was.
use Rattle.std.proofs.Common.{◌≡◌, ◌⊎◌, ◌∙◌, ◌++◌, ◌∷◌, ℕ, ◌<◌, Bool, true, false, cond, length, List, [], map, get_or, set, Contains, MatchOption, Option, Some, None, refl, sym, ap, subst, inl, inr, ⊎_elim}
use Rattle.std.specs.Prelude.{◌&&◌, filter, nat_eq, nat_lt, not, position}
use Rattle.std.specs.List.{list_any, position_or_len}
use Rattle.std.proofs.lemmas.Bool.{ltb-true}
use Rattle.std.proofs.lemmas.Bool.Decides.{Decides-eqb}
use Rattle.std.proofs.lemmas.List.Quantifiers.{position-Some}
use Rattle.std.proofs.lemmas.Slice.Eq.{slice_eq-Decides}
use Rattle.dds_base.specs.declared.guid.Guid.{Guid}
use Rattle.dds_base.specs.declared.guid.GuidPrefix.{GuidPrefix}
use Rattle.dds_base.specs.declared.mask.Masks.{Masks}
use Rattle.dds_base.specs.declared.sample.Sample.{Sample}
use Rattle.dds_base.specs.Checked.{same_entity, same_prefix}
use Rattle.dds_base.proofs.FieldLaws.{some_is}
use Rattle.rtps_wire.specs.Messages.{HasHeader}
use Rattle.rtps_wire.proofs.MessageLaws.{header_again}
use Rattle.rtps_announcements.specs.declared.qos.EndpointKind.{EndpointKind}
use Rattle.rtps_announcements.specs.declared.qos.EndpointKind.TheVariants.{Reader, Writer}
use Rattle.rtps_discovery.specs.declared.packet.Packet.{Packet}
use Rattle.rtps_discovery.specs.declared.row.Row.{Row}
use Rattle.rtps_discovery.specs.Rows.{is_row_at}
use Rattle.rtps_discovery.proofs.Members.{from_filter, from_map, from_set, into_filter, into_map, into_set}
use Rattle.rtps_matching.specs.declared.far.Far.{Far}
use Rattle.rtps_matching.specs.declared.told.Told.{Told}
use Rattle.rtps_matching.specs.Matches.{is_far, is_of}
use Rattle.rtps_matching.specs.Steps.{Table, WhereSo, turned, with_awake}
use Rattle.rtps_matching.specs.Laws.{OthersStay}
use Rattle.dds_builtin.specs.Keys.{guid_of}
use Rattle.dds_builtin.specs.Samples.{HearsSample, LetsGo, Nothing, TakesUp}
use Rattle.dds_discovery.specs.declared.due.Chore.{Chore}
use Rattle.dds_discovery.specs.declared.due.Chore.TheVariants.{Do, Publication, Send, Subscription, Turn}
use Rattle.dds_discovery.specs.declared.due.Due.{Due}
use Rattle.dds_discovery.specs.declared.due.Due.TheVariants.{Forget, Leave, Open, Serve}
use Rattle.dds_discovery.specs.declared.link.Link.{Link}
use Rattle.dds_discovery.specs.Chores.{DoesChore, HearsFirst, IsOpenLink, TurnsTable, CantBeOpened}
use Rattle.dds_discovery.specs.Dues.{is_link}
use Rattle.dds_discovery.specs.Events.{IsFor, Takes}
use Rattle.dds_discovery.specs.Laws.{DeliveriesAreApart, StepsAreApart}
use Rattle.dds_discovery.specs.States.{State, having}
use Rattle.dds_discovery.specs.Steps.{Does, with_links}
use Rattle.dds_discovery.specs.Tasks.{Having}

-- the far endpoints of all participants but one stay, and none comes
abbrev Stays : GuidPrefix → List Far → List Far → Type 0
Stays prefix old new = (f : Far) → is_of prefix f ≡ false → (Contains old f → Contains new f) × (Contains new f → Contains old f)

prefix_same : (a b : GuidPrefix) → same_prefix a b ≡ true → a ≡ b
prefix_same a b e =
    ap (λ (xs : List ℕ). let p : GuidPrefix = record { 0 = xs } in p)
    ((slice_eq-Decides {E = nat_eq} Decides-eqb a.0 b.0 (same_prefix a b) refl).0 e)

not_false : (b : Bool) → b ≡ false → not b ≡ true
not_false true e = absurd cc
not_false false e = refl

-- ---- a table

as_it_was : (prefix : GuidPrefix) (t new : Table) → new ≡ t → Stays prefix t.far new.far
as_it_was prefix t new e f is =
    (subst (λ (x : Table). Contains x.far f) (sym e), subst (λ (x : Table). Contains x.far f) e)

filtered : (prefix : GuidPrefix) (leaves : Far → Bool) (far : List Far)
    → ((f : Far) → is_of prefix f ≡ false → leaves f ≡ false) → Stays prefix far (filter (λ f. not (leaves f)) far)
filtered prefix leaves far stays f is = (
  λ c. into_filter (λ f. not (leaves f)) far f c (not_false (leaves f) (stays f is)),
  λ c. from_filter (λ f. not (leaves f)) far f c,
)

other_stays : (prefix : GuidPrefix) (awake : Bool) (f : Far) → is_of prefix f ≡ false → turned prefix awake f ≡ f
other_stays prefix awake f is = ap (λ (b : Bool). cond b (with_awake awake f) f) is

own_turns : (prefix : GuidPrefix) (awake : Bool) (f : Far) → is_of prefix f ≡ true
    → turned prefix awake f ≡ with_awake awake f
own_turns prefix awake f is = ap (λ (b : Bool). cond b (with_awake awake f) f) is

turning : (prefix : GuidPrefix) (awake : Bool) (far : List Far) → Stays prefix far (map (turned prefix awake) far)
turning prefix awake far f is = (
  λ c. subst (λ (g : Far). Contains (map (turned prefix awake) far) g) (other_stays prefix awake f is)
      (into_map (turned prefix awake) far f c),
  λ c. let m = from_map (turned prefix awake) far f c in by_test m.0 m.1 m.2 (is_of prefix m.0) refl,
)
  where
    by_test : (g : Far) → Contains far g → turned prefix awake g ≡ f → (b : Bool) → is_of prefix g ≡ b → Contains far f
    by_test g c made true of =
        let same : is_of prefix f ≡ is_of prefix g =
        ap (λ (h : Far). is_of prefix h) (sym (sym (own_turns prefix awake g of) ∙ made)) in
        let no : true ≡ false = sym of ∙ sym same ∙ is in absurd cc
    by_test g c made false of =
        subst (λ (h : Far). Contains far h) (sym (other_stays prefix awake g of) ∙ made) c

-- an endpoint of another participant has another name
other_name : (prefix : GuidPrefix) (guid : Guid) (f : Far) → same_prefix guid.prefix prefix ≡ true → is_of prefix f ≡ false
    → is_far guid f ≡ false
other_name prefix guid f of is =
    let same : same_prefix f.guid.prefix guid.prefix ≡ false =
    subst (λ (p : GuidPrefix). same_prefix f.guid.prefix p ≡ false) (sym (prefix_same guid.prefix prefix of)) is in
    ap (λ (b : Bool). b && same_entity f.guid.entity guid.entity) same

sample_stays : OthersStay → (prefix : GuidPrefix) (kind : EndpointKind) (sample : Sample) (t new : Table) (told : List Told)
    → HearsSample prefix kind sample t new told → Stays prefix t.far new.far
sample_stays others prefix kind sample t new told h = by_name (same_prefix (guid_of sample.key).prefix prefix) refl h
  where
    by_data : same_prefix (guid_of sample.key).prefix prefix ≡ true → (b : Bool)
        → WhereSo b (TakesUp (guid_of sample.key) kind sample t new told) (LetsGo (guid_of sample.key) t new told)
        → Stays prefix t.far new.far
    by_data of true (inl x) =
        λ f is. others t (guid_of sample.key) kind sample.value new told x.1 f (other_name prefix (guid_of sample.key) f of is)
    by_data of true (inr x) = as_it_was prefix t new x.2.0
    by_data of false x =
        subst (λ (n : Table). Stays prefix t.far n.far) (sym x.0)
        (filtered prefix (is_far (guid_of sample.key)) t.far (λ f is. other_name prefix (guid_of sample.key) f of is))

    by_name : (b : Bool) → same_prefix (guid_of sample.key).prefix prefix ≡ b → WhereSo b
        (WhereSo sample.info.valid_data (TakesUp (guid_of sample.key) kind sample t new told) (LetsGo (guid_of sample.key) t new told))
        (Nothing t new told) → Stays prefix t.far new.far
    by_name true of x = by_data of sample.info.valid_data x
    by_name false of x = as_it_was prefix t new x.0

first_stays : OthersStay → (prefix : GuidPrefix) (kind : EndpointKind) (samples : List Sample) (t : Table) (told : List Told)
    (rest : List Sample) (new : Table) → HearsFirst prefix kind samples t told rest new → Stays prefix t.far new.far
first_stays others prefix kind samples t told rest new (inl h) =
    sample_stays others prefix kind h.first t new told h.hears
first_stays others prefix kind samples t told rest new (inr x) = as_it_was prefix t new x.3

turn_stays : (there : Bool) (prefix : GuidPrefix) (t : Table) (told : List Told) (new : Table)
    → TurnsTable there prefix t told new → Stays prefix t.far new.far
turn_stays true prefix t told new x =
    subst (λ (n : Table). Stays prefix t.far n.far) (sym x.0) (turning prefix true t.far)
turn_stays false prefix t told new x =
    subst (λ (n : Table). Stays prefix t.far n.far) (sym x.0) (turning prefix false t.far)

chore_stays : OthersStay → (o : Having) (rows : List Row) (chore : Option Chore) (l : Link) (t : Table) (told : List Told)
    (packet : Option Packet) (new : Link) (after : Table) → DoesChore o rows chore l t told packet new after
    → Stays l.network.prefix t.far after.far
chore_stays others o rows None l t told packet new after h = as_it_was l.network.prefix t after h.1
chore_stays others o rows (Some (Turn there)) l t told packet new after h =
    turn_stays there l.network.prefix t told after h.0.table
chore_stays others o rows (Some Send) l t told packet new after h = as_it_was l.network.prefix t after h.2
chore_stays others o rows (Some Publication) l t told packet new after h =
    first_stays others l.network.prefix Writer l.network.publications.items t told new.network.publications.items after
    h.0.hears
chore_stays others o rows (Some Subscription) l t told packet new after h =
    first_stays others l.network.prefix Reader l.network.subscriptions.items t told new.network.subscriptions.items after
    h.0.hears
chore_stays others o rows (Some (Do task)) l t told packet new after h = as_it_was l.network.prefix t after h.3

does_stay : OthersStay → (d : Due) (s : State) (told : List Told) (packet : Option Packet) (new : State)
    → Does d s told packet new → (prefix : GuidPrefix) × Stays prefix s.endpoints.far new.endpoints.far
does_stay others (Leave place) s told packet new h =
    let prefix = h.0.link.network.prefix in (
      prefix,
      subst (λ (x : State). Stays prefix s.endpoints.far x.endpoints.far) (sym h.0.state)
          (filtered prefix (is_of prefix) s.endpoints.far (λ f is. is)),
    )
does_stay others (Forget place) s told packet new h =
    (s.own, as_it_was s.own s.endpoints new.endpoints (ap (λ (x : State). x.endpoints) h.0))
does_stay others (Open place) s told packet new h = (s.own, as_it_was s.own s.endpoints new.endpoints (by_link h.0.opens))
  where
    by_link : ((link : Link) × IsOpenLink s.own h.0.row.participant (length s.removed) link
        × (new ≡ with_links (s.links ++ link ∷ []) s.endpoints s))
        ⊎ (CantBeOpened s.own h.0.row.participant × (new ≡ record s { unopened = s.unopened ++ h.0.row.participant.prefix ∷ [] })) → new.endpoints ≡ s.endpoints
    by_link (inl x) = ap (λ (y : State). y.endpoints) x.2
    by_link (inr x) = ap (λ (y : State). y.endpoints) x.1
does_stay others (Serve place) s told packet new h =
    let prefix = h.link.network.prefix in (
      prefix,
      subst (λ (x : State). Stays prefix s.endpoints.far x.endpoints.far) (sym h.state)
          (chore_stays others (having s) s.participants.rows h.chore h.link s.endpoints told packet h.after h.endpoints h.does),
    )

pub steps_are_apart : OthersStay → StepsAreApart
steps_are_apart others s = does_stay others s.next s.before s.told s.packet s.after s.does

-- ---- a datagram

within : {X : Type 0} (p : X → Bool) (xs : List X) (i : ℕ) → position p xs ≡ Some i → i < length xs
within p xs i e = by_test (nat_lt (position_or_len p xs) (length xs)) refl e
  where
    by_test : (b : Bool) → nat_lt (position_or_len p xs) (length xs) ≡ b → cond b (Some (position_or_len p xs)) None ≡ Some i
        → i < length xs
    by_test true is e =
        subst (λ (j : ℕ). j < length xs) (some_is (position_or_len p xs) i e)
        (ltb-true (position_or_len p xs) (length xs) is)
    by_test false is e = absurd cc

passes : {X : Type 0} (p : X → Bool) (xs : List X) (i : ℕ) → position p xs ≡ Some i → (d : X) → p (get_or xs i d) ≡ true
passes p xs i e d = (position-Some p xs i d e).1

-- the links with all participants but one stay, and none comes
abbrev LinksStay : GuidPrefix → List Link → List Link → Type 0
LinksStay source old new =
    (l : Link) → is_link source l ≡ false → (Contains old l → Contains new l) × (Contains new l → Contains old l)

one_changes : (source : GuidPrefix) (links : List Link) (place : ℕ) (after : Link) → position (is_link source) links ≡ Some place
    → is_link source after ≡ true → LinksStay source links (set links place after)
one_changes source links place after at own l is = (
  λ c. ⊎_elim
      (λ e. let no : true ≡ false = sym (passes (is_link source) links place at l) ∙ ap (is_link source) e ∙ is in absurd cc)
      (λ m. m) (into_set links place after l l (within (is_link source) links place at) c),
  λ c. ⊎_elim (λ e. let no : true ≡ false = sym own ∙ ap (is_link source) e ∙ is in absurd cc) (λ m. m)
      (from_set links place after l (within (is_link source) links place at) c),
)

taking : (masks : Masks) (bytes : List ℕ) (place : ℕ) (s new : State) (source : GuidPrefix)
    → position (is_link source) s.links ≡ Some place → Takes masks bytes place s new → LinksStay source s.links new.links
taking masks bytes place s new source at (inl x) =
    let t = x.4 in
    let same : t.after.network.prefix ≡ t.link.network.prefix =
    ap (λ (n : _). n.prefix) t.takes.network ∙ t.takes.takes.prefix in
    let own : is_link source t.link ≡ true =
    ap (is_link source) t.at ∙ passes (is_link source) s.links place at t.link in
    subst (λ (y : State). LinksStay source s.links y.links) (sym t.state)
    (one_changes source s.links place t.after at (ap (λ (p : GuidPrefix). same_prefix p source) same ∙ own))
taking masks bytes place s new source at (inr x) =
    subst (λ (y : State). LinksStay source s.links y.links) (sym x.1) (λ l is. (λ c. c, λ c. c))

-- the place that a datagram is for is that of the link with its sender
is_for_it : (s : State) (address bytes : List ℕ) (place : ℕ) (source : GuidPrefix) (body : List ℕ) → HasHeader bytes source body
    → IsFor s address bytes (Some place) → position (is_link source) s.links ≡ Some place
is_for_it s address bytes place source body header (inl x) =
    let pair : Some (source, body) ≡ Some (x.0, x.1) =
    sym (header_again bytes source body header) ∙ header_again bytes x.0 x.1 x.2 in
    let same : source ≡ x.0 = ap (λ (z : GuidPrefix × List ℕ). z.0) (some_is (source, body) (x.0, x.1) pair) in
    subst (λ (p : GuidPrefix). position (is_link p) s.links ≡ Some place) (sym same)
    (by_test (list_any (is_row_at x.0 address) s.participants.rows) (sym x.3))
  where
    by_test : (b : Bool) → cond b (position (is_link x.0) s.links) None ≡ Some place → position (is_link x.0) s.links ≡ Some place
    by_test true e = e
    by_test false e = absurd cc
is_for_it s address bytes place source body header (inr x) = absurd cc

pub deliveries_are_apart : DeliveriesAreApart
deliveries_are_apart d source body header = by_place d.delivers.place d.delivers.is_for d.delivers.takes
  where
    same : d.delivers.between.links ≡ d.before.links
    same = ap (λ (y : State). y.links) d.delivers.hears.state

    by_place : (o : Option ℕ) → IsFor d.before d.address d.bytes o
        → MatchOption o (d.after ≡ d.delivers.between) (λ i. Takes d.masks d.bytes i d.delivers.between d.after)
        → LinksStay source d.before.links d.after.links
    by_place None is_for e =
        subst (λ (ls : List Link). LinksStay source d.before.links ls) (sym (ap (λ (y : State). y.links) e ∙ same))
        (λ l is. (λ c. c, λ c. c))
    by_place (Some i) is_for x =
        let at = is_for_it d.before d.address d.bytes i source body header is_for in
        subst (λ (ls : List Link). LinksStay source ls d.after.links) same
        (taking d.masks d.bytes i d.delivers.between d.after source
        (subst (λ (ls : List Link). position (is_link source) ls ≡ Some i) (sym same) at) x)
