-- How many participants, links and endpoints there are.
use Rattle.std.proofs.Common.{◌≡◌, ◌⊎◌, ◌∙◌, ℕ, suc, ◌+◌, ◌-◌, ◌≤◌, Bool, true, false, cond, List, [], ◌∷◌, ◌++◌, length, take, drop, map, set, Option, Some, None, MatchOption, refl, sym, ap, subst, inl, inr, arith}
use Rattle.std.specs.Prelude.{◌&&◌, filter, max, nat_lt, not, position, remove}
use Rattle.std.specs.List.{count_by}
use Rattle.std.specs.Option.{option_map, option_or}
use Rattle.std.proofs.lemmas.Bool.{ltb-true}
use Rattle.std.proofs.lemmas.List.{length-append, length-drop, length-map, length-set, length-take, length_push}
use Rattle.std.proofs.lemmas.List.Sums.{sum_by-cons}
use Rattle.dds_base.specs.declared.guid.GuidPrefix.{GuidPrefix}
use Rattle.dds_base.specs.declared.mask.Masks.{Masks}
use Rattle.dds_base.specs.declared.sample.Sample.{Sample}
use Rattle.dds_base.specs.Checked.{same_prefix}
use Rattle.rtps_announcements.specs.declared.qos.EndpointKind.{EndpointKind}
use Rattle.rtps_announcements.specs.declared.qos.EndpointKind.TheVariants.{Reader, Writer}
use Rattle.rtps_discovery.specs.declared.packet.Packet.{Packet}
use Rattle.rtps_discovery.specs.declared.row.Row.{Row}
use Rattle.rtps_discovery.specs.Laws.{FewAreKnown}
use Rattle.rtps_discovery.specs.Laws.{IsFew as FewParticipants}
use Rattle.rtps_discovery.specs.Steps.{State as Participants}
use Rattle.rtps_matching.specs.declared.far.Far.{Far}
use Rattle.rtps_matching.specs.declared.told.Told.{Told}
use Rattle.rtps_matching.specs.Laws.{AnnouncesFew}
use Rattle.rtps_matching.specs.Laws.{IsFew as FewOf}
use Rattle.rtps_matching.specs.Matches.{is_far, is_of}
use Rattle.rtps_matching.specs.Steps.{Table, WhereSo, turned, turned_all, with_awake, without}
use Rattle.dds_builtin.specs.Keys.{guid_of}
use Rattle.dds_builtin.specs.Samples.{HearsSample, LetsGo, Nothing, TakesUp}
use Rattle.dds_discovery.specs.declared.due.Chore.{Chore}
use Rattle.dds_discovery.specs.declared.due.Chore.TheVariants.{Do, Publication, Send, Subscription, Turn}
use Rattle.dds_discovery.specs.declared.due.Due.{Due}
use Rattle.dds_discovery.specs.declared.due.Due.TheVariants.{Forget, Leave, Open, Serve}
use Rattle.dds_discovery.specs.declared.link.Link.{Link}
use Rattle.dds_discovery.specs.Chores.{CantBeOpened, DoesChore, HearsFirst, IsOpenLink, TurnsTable}
use Rattle.dds_discovery.specs.Dues.{is_forgotten, is_left, is_new}
use Rattle.dds_discovery.specs.Events.{Takes, link_anew, link_gone_on, speaks}
use Rattle.dds_discovery.specs.Laws.{Delivery, FewEndpoints, FewLinks, FewRows, IsFew}
use Rattle.dds_discovery.specs.States.{State, busy, due, having, newcomer}
use Rattle.dds_discovery.specs.Steps.{Does, with_links}
use Rattle.dds_discovery.specs.Tasks.{Having}
use Rattle.dds_discovery.proofs.Telling.{deliveries_tell_nothing}

shorter : {X : Type 0} (xs : List X) (i : ℕ) → length (remove xs i) ≤ length xs
shorter xs i =
    omega (
      arith,
      length-append (take i xs) (drop (suc i) xs),
      length-take i xs,
      length-drop (suc i) xs,
    )

-- ---- who gets a link

opens_at : (a b n c : Option ℕ) (place : ℕ)
    → option_or (option_map Leave a) (option_or (option_map Forget b) (option_or (option_map Open n) (option_map Serve c)))
    ≡ Some (Open place) → n ≡ Some place
opens_at (Some i) b n c place e = absurd cc
opens_at None (Some i) n c place e = absurd cc
opens_at None None (Some i) c place e = cc
opens_at None None None (Some i) place e = absurd cc
opens_at None None None None place e = absurd cc

where_so : {X : Type 0} (b : Bool) (o : Option X) (x : X) → cond b o None ≡ Some x → b ≡ true
where_so true o x e = refl
where_so false o x e = absurd cc

both : (a b : Bool) → (a && b) ≡ true → (a ≡ true) × (b ≡ true)
both true true e = (refl, refl)
both true false e = absurd cc
both false b e = absurd cc

room : (s : State) (place : ℕ) → due s ≡ Some (Open place) → length s.links + length s.unopened + 1 ≤ s.most
room s place e =
    let is = opens_at (position (is_left s.participants.rows) s.links) (position (is_forgotten s.participants.rows) s.unopened)
    (newcomer s) (busy s) place e in
    let tests = both (nat_lt (length s.links) s.most) (nat_lt (length s.unopened) (s.most - length s.links))
    (where_so (nat_lt (length s.links) s.most && nat_lt (length s.unopened) (s.most - length s.links))
    (position (is_new s.links s.unopened) s.participants.rows) place is) in
    let first = ltb-true (length s.links) s.most tests.0 in
    let second = ltb-true (length s.unopened) (s.most - length s.links) tests.1 in
    omega arith

-- ---- what changes

as_few : (s new : State) → length new.links ≤ length s.links → length new.unopened ≤ length s.unopened → new.most ≡ s.most
    → IsFew s → IsFew new
as_few s new links unopened most few = omega arith

does_few : (d : Due) (s : State) (told : List Told) (packet : Option Packet) (new : State) → due s ≡ Some d
    → Does d s told packet new → IsFew s → IsFew new
does_few (Leave place) s told packet new next h few =
    subst IsFew (sym h.0.state)
    (as_few s (with_links (remove s.links place) (without (is_of h.0.link.network.prefix) s.endpoints) s)
    (shorter s.links place) (omega arith) refl few)
does_few (Forget place) s told packet new next h few =
    subst IsFew (sym h.0)
    (as_few s (record s { unopened = remove s.unopened place }) (omega arith) (shorter s.unopened place) refl few)
does_few (Open place) s told packet new next h few = by_link h.0.opens
  where
    by_link : ((link : Link) × IsOpenLink s.own h.0.row.participant (length s.removed) link
        × (new ≡ with_links (s.links ++ link ∷ []) s.endpoints s))
        ⊎ (CantBeOpened s.own h.0.row.participant × (new ≡ record s { unopened = s.unopened ++ h.0.row.participant.prefix ∷ [] })) → IsFew new
    by_link (inl x) =
        let more : length (s.links ++ x.0 ∷ []) ≡ length s.links + 1 = length_push s.links x.0 in
        let is = room s place next in
        let goal : IsFew (with_links (s.links ++ x.0 ∷ []) s.endpoints s) = omega arith in subst IsFew (sym x.2) goal
    by_link (inr x) =
        let more : length (s.unopened ++ h.0.row.participant.prefix ∷ []) ≡ length s.unopened + 1 =
        length_push s.unopened h.0.row.participant.prefix in
        let is = room s place next in
        let goal : IsFew (record s { unopened = s.unopened ++ h.0.row.participant.prefix ∷ [] }) = omega arith in
        subst IsFew (sym x.1) goal
does_few (Serve place) s told packet new next h few =
    let same = length-set s.links place h.after in
    let goal : IsFew (with_links (set s.links place h.after) h.endpoints s) = omega arith in subst IsFew (sym h.state) goal

taking_few : (masks : Masks) (bytes : List ℕ) (place : ℕ) (s new : State) → Takes masks bytes place s new → IsFew s → IsFew new
taking_few masks bytes place s new (inl x) few =
    let same = length-set s.links place x.4.after in
    let goal : IsFew (with_links (set s.links place x.4.after) s.endpoints s) = omega arith in
    subst IsFew (sym x.4.state) goal
taking_few masks bytes place s new (inr x) few = subst IsFew (sym x.1) few

delivery_few : (d : Delivery) → IsFew d.before → IsFew d.after
delivery_few d few = by_place d.delivers.place d.delivers.takes
  where
    between : IsFew d.delivers.between
    between = subst IsFew (sym d.delivers.hears.state) few

    by_place : (o : Option ℕ)
        → MatchOption o (d.after ≡ d.delivers.between) (λ i. Takes d.masks d.bytes i d.delivers.between d.after)
        → IsFew d.after
    by_place None e = subst IsFew (sym e) between
    by_place (Some i) x = taking_few d.masks d.bytes i d.delivers.between d.after x between

-- ---- participants

delivery_rows : FewAreKnown → (d : Delivery) → FewParticipants d.before.participants → FewParticipants d.after.participants
delivery_rows law d few =
    subst (λ (p : Participants). FewParticipants p) (sym (same d.delivers.place d.delivers.takes))
    (law.1 (record {
      before = d.before.participants;
      moment = d.moment;
      address = d.address;
      bytes = d.bytes;
      after = d.delivers.between.participants;
      told = d.told;
      packet = d.packet;
      delivers = d.delivers.hears.spdp;
    }) few)
  where
    same : (o : Option ℕ)
        → MatchOption o (d.after ≡ d.delivers.between) (λ i. Takes d.masks d.bytes i d.delivers.between d.after)
        → d.after.participants ≡ d.delivers.between.participants
    same None e = ap (λ (y : State). y.participants) e
    same (Some i) (inl x) = ap (λ (y : State). y.participants) x.4.state
    same (Some i) (inr x) = ap (λ (y : State). y.participants) x.1

does_rows : (d : Due) (s : State) (told : List Told) (packet : Option Packet) (new : State) → Does d s told packet new
    → new.participants ≡ s.participants
does_rows (Leave place) s told packet new h = ap (λ (y : State). y.participants) h.0.state
does_rows (Forget place) s told packet new h = ap (λ (y : State). y.participants) h.0
does_rows (Open place) s told packet new h = by_link h.0.opens
  where
    by_link : ((link : Link) × IsOpenLink s.own h.0.row.participant (length s.removed) link
        × (new ≡ with_links (s.links ++ link ∷ []) s.endpoints s))
        ⊎ (CantBeOpened s.own h.0.row.participant
        × (new ≡ record s { unopened = s.unopened ++ h.0.row.participant.prefix ∷ [] }))
        → new.participants ≡ s.participants
    by_link (inl x) = ap (λ (y : State). y.participants) x.2
    by_link (inr x) = ap (λ (y : State). y.participants) x.1
does_rows (Serve place) s told packet new h = ap (λ (y : State). y.participants) h.state

pub few_rows : FewAreKnown → FewRows
few_rows law = (
  λ p domain addresses limits most. law.0 p domain addresses limits,
  λ s few.
      subst (λ (p : Participants). FewParticipants p) (sym (does_rows s.next s.before s.told s.packet s.after s.does)) few,
  delivery_rows law,
  λ moment s few. law.2 s.participants (max s.participants.time moment) few,
  λ e s few. few,
  λ guid kind s few. few,
)

-- ---- endpoints

count-cons : {X : Type 0} (p : X → Bool) (x : X) (xs : List X) → count_by p (x ∷ xs) ≡ (cond (p x) 1 0) + count_by p xs
count-cons p x xs = sum_by-cons (λ y. cond (p y) 1 0) x xs

fewer : {X : Type 0} (p q : X → Bool) (xs : List X) → count_by p (filter q xs) ≤ count_by p xs
fewer p q [] = omega arith
fewer {X} p q (x ∷ xs) =
    subst (λ (n : ℕ). count_by p (filter q (x ∷ xs)) ≤ n) (sym (count-cons p x xs)) (by_test (fewer p q xs) (q x))
  where
    by_test : count_by p (filter q xs) ≤ count_by p xs → (b : Bool)
        → count_by p (cond b (x ∷ filter q xs) (filter q xs)) ≤ (cond (p x) 1 0) + count_by p xs
    by_test rest true =
        subst (λ (n : ℕ). n ≤ (cond (p x) 1 0) + count_by p xs) (sym (count-cons p x (filter q xs)))
        (omega (arith, rest))
    by_test rest false = omega (arith, rest)

as_many : {X : Type 0} (p : X → Bool) (f : X → X) → ((x : X) → p (f x) ≡ p x) → (xs : List X)
    → count_by p (map f xs) ≡ count_by p xs
as_many p f same [] = refl
as_many p f same (x ∷ xs) =
    count-cons p (f x) (map f xs)
    ∙ (ap (λ (b : Bool). (cond b 1 0) + count_by p (map f xs)) (same x)
    ∙ (ap (λ (n : ℕ). (cond (p x) 1 0) + n) (as_many p f same xs) ∙ sym (count-cons p x xs)))

turned_of : (prefix other : GuidPrefix) (awake : Bool) (f : Far) → is_of prefix (turned other awake f) ≡ is_of prefix f
turned_of prefix other awake f = by_test (is_of other f)
  where
    by_test : (b : Bool) → is_of prefix (cond b (with_awake awake f) f) ≡ is_of prefix f
    by_test true = refl
    by_test false = refl

without_few : (prefix : GuidPrefix) (leaves : Far → Bool) (t : Table) → FewOf prefix t → FewOf prefix (without leaves t)
without_few prefix leaves t few =
    let less = fewer (is_of prefix) (λ f. not (leaves f)) t.far in omega (arith, less, few)

turned_few : (prefix other : GuidPrefix) (awake : Bool) (t : Table) → FewOf prefix t → FewOf prefix (turned_all other awake t)
turned_few prefix other awake t few =
    subst (λ (n : ℕ). n ≤ t.most) (sym (as_many (is_of prefix) (turned other awake) (turned_of prefix other awake) t.far)) few

sample_few : AnnouncesFew → (prefix other : GuidPrefix) (kind : EndpointKind) (sample : Sample) (t new : Table)
    (told : List Told) → HearsSample other kind sample t new told → FewOf prefix t → FewOf prefix new
sample_few law prefix other kind sample t new told h few = by_name (same_prefix (guid_of sample.key).prefix other) h
  where
    same : new ≡ t → FewOf prefix new
    same e = subst (λ (n : Table). FewOf prefix n) (sym e) few

    by_data : (b : Bool)
        → WhereSo b (TakesUp (guid_of sample.key) kind sample t new told) (LetsGo (guid_of sample.key) t new told)
        → FewOf prefix new
    by_data true (inl x) = law prefix t (guid_of sample.key) kind sample.value new told x.0 few x.1
    by_data true (inr x) = same x.2.0
    by_data false x =
        subst (λ (n : Table). FewOf prefix n) (sym x.0) (without_few prefix (is_far (guid_of sample.key)) t few)

    by_name : (b : Bool) → WhereSo b
        (WhereSo sample.info.valid_data (TakesUp (guid_of sample.key) kind sample t new told)
        (LetsGo (guid_of sample.key) t new told)) (Nothing t new told) → FewOf prefix new
    by_name true x = by_data sample.info.valid_data x
    by_name false x = same x.0

first_few : AnnouncesFew → (prefix other : GuidPrefix) (kind : EndpointKind) (samples : List Sample) (t : Table)
    (told : List Told) (rest : List Sample) (new : Table) → HearsFirst other kind samples t told rest new → FewOf prefix t
    → FewOf prefix new
first_few law prefix other kind samples t told rest new (inl h) few =
    sample_few law prefix other kind h.first t new told h.hears few
first_few law prefix other kind samples t told rest new (inr x) few = subst (λ (n : Table). FewOf prefix n) (sym x.3) few

turn_few : (prefix : GuidPrefix) (there : Bool) (other : GuidPrefix) (t : Table) (told : List Told) (new : Table)
    → TurnsTable there other t told new → FewOf prefix t → FewOf prefix new
turn_few prefix true other t told new x few =
    subst (λ (n : Table). FewOf prefix n) (sym x.0) (turned_few prefix other true t few)
turn_few prefix false other t told new x few =
    subst (λ (n : Table). FewOf prefix n) (sym x.0) (turned_few prefix other false t few)

chore_few : AnnouncesFew → (prefix : GuidPrefix) (o : Having) (rows : List Row) (chore : Option Chore) (l : Link) (t : Table)
    (told : List Told) (packet : Option Packet) (new : Link) (after : Table)
    → DoesChore o rows chore l t told packet new after → FewOf prefix t → FewOf prefix after
chore_few law prefix o rows None l t told packet new after h few = subst (λ (n : Table). FewOf prefix n) (sym h.1) few
chore_few law prefix o rows (Some (Turn there)) l t told packet new after h few =
    turn_few prefix there l.network.prefix t told after h.0.table few
chore_few law prefix o rows (Some Send) l t told packet new after h few =
    subst (λ (n : Table). FewOf prefix n) (sym h.2) few
chore_few law prefix o rows (Some Publication) l t told packet new after h few =
    first_few law prefix l.network.prefix Writer l.network.publications.items t told new.network.publications.items after
    h.0.hears few
chore_few law prefix o rows (Some Subscription) l t told packet new after h few =
    first_few law prefix l.network.prefix Reader l.network.subscriptions.items t told new.network.subscriptions.items after
    h.0.hears few
chore_few law prefix o rows (Some (Do task)) l t told packet new after h few =
    subst (λ (n : Table). FewOf prefix n) (sym h.3) few

does_few_endpoints : AnnouncesFew → (prefix : GuidPrefix) (d : Due) (s : State) (told : List Told) (packet : Option Packet)
    (new : State) → Does d s told packet new → FewOf prefix s.endpoints → FewOf prefix new.endpoints
does_few_endpoints law prefix (Leave place) s told packet new h few =
    subst (λ (y : State). FewOf prefix y.endpoints) (sym h.0.state)
    (without_few prefix (is_of h.0.link.network.prefix) s.endpoints few)
does_few_endpoints law prefix (Forget place) s told packet new h few =
    subst (λ (y : State). FewOf prefix y.endpoints) (sym h.0) few
does_few_endpoints law prefix (Open place) s told packet new h few = by_link h.0.opens
  where
    by_link : ((link : Link) × IsOpenLink s.own h.0.row.participant (length s.removed) link
        × (new ≡ with_links (s.links ++ link ∷ []) s.endpoints s))
        ⊎ (CantBeOpened s.own h.0.row.participant
        × (new ≡ record s { unopened = s.unopened ++ h.0.row.participant.prefix ∷ [] })) → FewOf prefix new.endpoints
    by_link (inl x) = subst (λ (y : State). FewOf prefix y.endpoints) (sym x.2) few
    by_link (inr x) = subst (λ (y : State). FewOf prefix y.endpoints) (sym x.1) few
does_few_endpoints law prefix (Serve place) s told packet new h few =
    subst (λ (y : State). FewOf prefix y.endpoints) (sym h.state)
    (chore_few law prefix (having s) s.participants.rows h.chore h.link s.endpoints told packet h.after h.endpoints h.does few)

pub few_endpoints : AnnouncesFew → FewEndpoints
few_endpoints law prefix = (
  λ p domain addresses limits most. omega arith,
  λ s few. does_few_endpoints law prefix s.next s.before s.told s.packet s.after s.does few,
  λ d few. subst (λ (t : Table). FewOf prefix t) (sym (deliveries_tell_nothing d)) few,
  λ moment s few. few,
  λ e s few. few,
  λ guid kind s few. few,
)

pub few_links : FewLinks
few_links = (
  λ p domain addresses limits most. omega arith,
  λ s few. does_few s.next s.before s.told s.packet s.after s.is_next s.does few,
  delivery_few,
  λ moment s few.
      let same = length-map s.links (link_gone_on (max s.time moment) (speaks (max s.time moment) s)) in omega arith,
  λ e s few. few,
  λ guid kind s few. let same = length-map s.links link_anew in omega arith,
)
