-- A reader's proxies, of which one changes.
use Rattle.std.proofs.Common.{◌≡◌, ◌≢◌, ℕ, zero, suc, ◌<◌, ◌≤◌, ◌+◌, List, [], ◌∷◌, ◌++◌, refl, ap, sym, ◌∙◌, subst}
use Rattle.std.proofs.Common.{arith, length, Bool, ◌⊎◌, inl, inr, ⊎_elim, get_or, true, false}
use Rattle.std.specs.Prelude.{Option, None, Some, slice_get, slice_set, Result, Ok, Err, IfOk, OnOk, OnErr, IsOk, ◌&&◌, nat_le}
use Rattle.std.specs.Option.{option_map_or}
use Rattle.std.proofs.lemmas.Bool.{cases_eq, cases_lt}
use Rattle.std.proofs.lemmas.Grind.{common_steps}
use Rattle.std.proofs.lemmas.Option.{same_Some, slice_get-get_or}
use Rattle.std.proofs.Math.ListN.{length-set}
use Rattle.dds_base.specs.declared.change.Change.{Change}
use Rattle.dds_base.specs.declared.code.Code.{Code}
use Rattle.dds_base.specs.declared.happening.Happening.{Happening}
use Rattle.dds_base.specs.declared.qos.ReaderQos.{ReaderQos}
use Rattle.dds_base.specs.Places.{Match}
use Rattle.dds_base.specs.Counts.{is_later}
use Rattle.rtps_reader.specs.declared.step.HeartbeatSeen.{HeartbeatSeen}
use Rattle.rtps_reader.specs.declared.step.Step.{Step}
use Rattle.rtps_reader.specs.declared.attachment.Attachment.{Attachment}
use Rattle.rtps_reader.specs.declared.attachment.Attachment.TheVariants.{Away, Waiting, Begun}
use Rattle.rtps_reader.specs.declared.known_writer.KnownWriter.{KnownWriter}
use Rattle.rtps_reader.specs.Tracked.{Tracked, fresh, SameTracked}
use Rattle.rtps_reader.specs.Jump.{comes}
use Rattle.rtps_reader.specs.Moving.{match_of}
use Rattle.rtps_reader.specs.Answer.{IsIdle}
use Rattle.rtps_reader.specs.declared.writer_proxy.Source.{Source}
use Rattle.rtps_reader.specs.Proxy.{tracked, IsProxyReady, IsWriterReady, UnlessAway}
use Rattle.rtps_reader.specs.Sound.{AreSound, IsSound, KeepsHow, ProxyKeepsRest}
use Rattle.rtps_reader.specs.Reader.{Proxies, Tracks, how_at, how_after, count_of, IsReady, IsReadyAt, OthersReady, AllStay, AllStand, OthersStay, OthersStand, match_at}
use Rattle.rtps_reader.specs.Reader.{JumpsOn, MovesOn, TakesHeartbeat, KeepsRest}
use Rattle.rtps_reader.specs.Attached.{Rests, begun_at, BeginsIf, MeetsNews, MeetsChange, MeetsHeartbeat, MeetsBeat, StandsNow, HasOneMore}
use Rattle.rtps_reader.proofs.MoveLaws.{same_is}

get-set_same : {X : Type 0} (xs : List X) (i : ℕ) (x y : X) → slice_get xs i ≡ Some y
    → slice_get (slice_set xs i x) i ≡ Some x
get-set_same [] i x y h = cc
get-set_same (a ∷ rest) zero x y h = refl
get-set_same (a ∷ rest) (suc i) x y h = get-set_same rest i x y h

pub get-set_other : {X : Type 0} (xs : List X) (i : ℕ) (x : X) (j : ℕ) → j ≢ i
    → slice_get (slice_set xs i x) j ≡ slice_get xs j
get-set_other [] i x j ne = refl
get-set_other (a ∷ rest) zero x zero ne = absurd (ne refl)
get-set_other (a ∷ rest) zero x (suc j) ne = refl
get-set_other (a ∷ rest) (suc i) x zero ne = refl
get-set_other (a ∷ rest) (suc i) x (suc j) ne = get-set_other rest i x j (λ e. ne (ap suc e))

-- an element after one was set is the one that was set, or another as before
set_cases : {X : Type 0} (xs : List X) (i : ℕ) (x : X) (j : ℕ) (y : X) → slice_get (slice_set xs i x) j ≡ Some y
    → ((j ≡ i) × (y ≡ x)) ⊎ ((j ≡ i → ⊥) × (slice_get xs j ≡ Some y))
set_cases [] i x j y h = absurd (cc)
set_cases (a ∷ rest) zero x zero y h = inl (refl, same_Some y x (sym h))
set_cases (a ∷ rest) zero x (suc j) y h = inr (λ e. omega (arith, e), h)
set_cases (a ∷ rest) (suc i) x zero y h = inr (λ e. omega (arith, e), h)
set_cases (a ∷ rest) (suc i) x (suc j) y h = ⊎_elim (λ s. inl (ap suc s.0, s.1))
    (λ o. inr (λ e. o.0 (omega (arith, e)), o.1)) (set_cases rest i x j y h)

-- a reader that is open, and the proxy of one of its writers
pub record Opened (reader : Proxies) (items : List KnownWriter) (writer : ℕ) (proxy : KnownWriter) : Type 0 where
  pub view : record { writers = items } ≡ reader
  pub at : slice_get items writer ≡ Some proxy

pub at_get : (xs : List KnownWriter) (at : ℕ) (x : KnownWriter) → at < length xs → x ≡ get_or xs at x
    → slice_get xs at ≡ Some x
at_get xs at x lt is = slice_get-get_or xs at x lt ∙ ap (λ (p : KnownWriter). Some p) (sym is)

pub opened : {reader : Proxies} {items : List KnownWriter} {writer : ℕ} {proxy : KnownWriter}
    → record { writers = items } ≡ reader → writer < count_of reader → proxy ≡ get_or items writer proxy
    → Opened reader items writer proxy
opened {reader} {items} {writer} {proxy} view lt is =
    let same : length items ≡ count_of reader = ap (λ (r : Proxies). count_of r) view in
    record { view = view; at = at_get items writer proxy (omega (arith, same, lt)) is }

pub same_self : (t : Tracked) → SameTracked t t
same_self t = record { place = refl; slots = λ n. refl; first = refl; count = refl; acknacks = refl }

pub same_back : (old new : Tracked) → SameTracked old new → SameTracked new old
same_back old new s = record {
  place = sym s.place;
  slots = λ n. sym (s.slots n);
  first = sym s.first;
  count = sym s.count;
  acknacks = sym s.acknacks;
}

-- a loop over the proxies of a reader that is open stands at one of them
pub at_loop : (reader : Proxies) (inside items : List KnownWriter) (at end len : ℕ) (x : KnownWriter)
    → record { writers = inside } ≡ reader → length items ≡ count_of reader → len ≡ length inside → end ≡ len → at < end
    → x ≡ get_or items at x → slice_get items at ≡ Some x
at_loop reader inside items at end len x view same whole last lt is =
    let first : length inside ≡ count_of reader = ap (λ (r : Proxies). count_of r) view in
    at_get items at x (omega (arith, first, same, whole, last, lt)) is

-- something is known of the writer
pub known_here : {reader : Proxies} {items : List KnownWriter} {writer : ℕ} {proxy : KnownWriter}
    → Opened reader items writer proxy → (t : Tracked) × Tracks reader writer t
known_here {reader} {items} {writer} {proxy} o =
    subst (λ (u : Proxies). (t : Tracked) × Tracks u writer t) o.view
    (tracked proxy.proxy, (proxy, o.at, same_self (tracked proxy.proxy)))

-- what is known of a writer is what its proxy knows
pub known_of : (items : List KnownWriter) (writer : ℕ) (proxy : KnownWriter) (t : Tracked)
    → slice_get items writer ≡ Some proxy → Tracks (record { writers = items }) writer t → tracked proxy.proxy ≡ t
known_of items writer proxy t at has =
    ap (λ (p : KnownWriter). tracked p.proxy) (same_Some proxy has.0 (sym at ∙ has.1)) ∙ sym (same_is _ _ has.2)

pub same_from : (old new : Tracked) → new ≡ old → SameTracked old new
same_from old new e = subst (λ (t : Tracked). SameTracked t new) e (same_self new)

pub tracks_set : (items : List KnownWriter) (writer : ℕ) (proxy new : KnownWriter)
    → slice_get items writer ≡ Some proxy
    → Tracks (record { writers = slice_set items writer new }) writer (tracked new.proxy)
tracks_set items writer proxy new at = (new, get-set_same items writer new proxy at, same_self (tracked new.proxy))

-- how the reader stands to the writer is how its row says
pub how_here : {reader : Proxies} {items : List KnownWriter} {writer : ℕ} {proxy : KnownWriter}
    → Opened reader items writer proxy → how_at reader writer ≡ proxy.how
how_here {writer = writer} o =
    ap (λ (u : Proxies). how_at u writer) (sym o.view)
    ∙ ap (λ (w : Option KnownWriter). option_map_or (λ (k : KnownWriter). k.how) w Away) o.at

pub how_set : {reader : Proxies} {items : List KnownWriter} {writer : ℕ} {proxy : KnownWriter}
    → Opened reader items writer proxy → (new : KnownWriter)
    → how_at (record { writers = slice_set items writer new }) writer ≡ new.how
how_set {items = items} {writer} {proxy} o new =
    ap (λ (w : Option KnownWriter). option_map_or (λ (k : KnownWriter). k.how) w Away)
    (get-set_same items writer new proxy o.at)

pub how_others : {reader : Proxies} {items : List KnownWriter} {writer : ℕ} {proxy : KnownWriter}
    → Opened reader items writer proxy → (new : KnownWriter)
    → OthersStand writer reader (record { writers = slice_set items writer new })
how_others {items = items} {writer} o new index ne =
    ap (λ (w : Option KnownWriter). option_map_or (λ (k : KnownWriter). k.how) w Away)
    (get-set_other items writer new index ne)
    ∙ ap (λ (u : Proxies). how_at u index) o.view

-- a row that stands as before leaves how the reader stands to each writer
pub all_stand : {reader : Proxies} {items : List KnownWriter} {writer : ℕ} {proxy : KnownWriter}
    → Opened reader items writer proxy → (new : KnownWriter) → new.how ≡ proxy.how
    → AllStand reader (record { writers = slice_set items writer new })
all_stand {reader} {items} {writer} {proxy} o new same index = by (cases_eq index writer)
  where
    by : (index ≡ writer) ⊎ (index ≡ writer → ⊥)
        → how_at (record { writers = slice_set items writer new }) index ≡ how_at reader index
    by (inl here) =
        subst (λ (k : ℕ). how_at (record { writers = slice_set items writer new }) k ≡ how_at reader k) (sym here)
        (how_set o new ∙ (same ∙ sym (how_here o)))
    by (inr other) = how_others o new index other

-- ---- what a submessage did at its writer's proxy, it did at the reader

-- what a submessage does by how the reader stands to the writer, its match, what is known and what happened, as far as it
-- says what is then known
abbrev pub Doing : Type 1
Doing = Attachment → Match → Tracked → List Happening → Step → (Tracked → Type 0) → Type 0

-- it says so of whatever follows from what is then known
abbrev pub Maps : Doing → Type 1
Maps Does =
    (how : Attachment) (match : Match) (t : Tracked) (h : List Happening) (step : Step) (Knows Says : Tracked → Type 0)
    → ((u : Tracked) → Knows u → Says u) → Does how match t h step Knows → Does how match t h step Says

pub lifted : {E : Type 0} {reader : Proxies} {items : List KnownWriter} {writer : ℕ} {proxy : KnownWriter}
    → Opened reader items writer proxy → (Does : Doing) → Maps Does → (q : ReaderQos) (source : Source) (moment : ℕ)
    (before : List Happening → Type 0) (new : KnownWriter) (r : Result Step E)
    → source ≡ record { publication = writer + 1; moment = moment }
    → IfOk r (λ step. (h : List Happening) → before h
    → Does proxy.how (match_of q source) (tracked proxy.proxy) h step (SameTracked (tracked new.proxy)))
    → IfOk r (λ step. (t : Tracked) (h : List Happening) → Tracks reader writer t → before h
    → Does (how_at reader writer) (match_at q writer moment) t h step
    (Tracks (record { writers = slice_set items writer new }) writer))
lifted {reader = reader} {items} {writer} {proxy} o Does maps q source moment before new (Ok step) is did =
    λ t h has was.
    let known : tracked proxy.proxy ≡ t =
    known_of items writer proxy t o.at (subst (λ (u : Proxies). Tracks u writer t) (sym o.view) has) in
    maps (how_at reader writer) (match_at q writer moment) t h step (SameTracked (tracked new.proxy))
    (Tracks (record { writers = slice_set items writer new }) writer)
    (λ u same. (new, get-set_same items writer new proxy o.at, same))
    (subst (λ (how : Attachment). Does how (match_at q writer moment) t h step (SameTracked (tracked new.proxy)))
    (sym (how_here o))
    (subst (λ (u : Tracked). Does proxy.how (match_at q writer moment) u h step (SameTracked (tracked new.proxy))) known
    (subst (λ (s : Source). Does proxy.how (match_of q s) (tracked proxy.proxy) h step
    (SameTracked (tracked new.proxy))) is (did h was))))
lifted o Does maps q source moment before new (Err e) is did = tt

rests_map : (t : Tracked) (h : List Happening) (step : Step) (Knows Says : Tracked → Type 0)
    (Stands : List Happening → Type 0) → ((u : Tracked) → Knows u → Says u) → Rests t h step Knows Stands
    → Rests t h step Says Stands
rests_map t h step Knows Says Stands f r = (r.0, f t r.1, r.2)

moves_map : (match : Match) (t : Tracked) (h : List Happening) (step : Step) (Knows Says : Tracked → Type 0)
    (Stands : List Happening → Type 0) → ((u : Tracked) → Knows u → Says u) → MovesOn match t h step Knows Stands
    → MovesOn match t h step Says Stands
moves_map match t h step Knows Says Stands f m = record {
  new = m.new;
  after = m.after;
  advances = m.advances;
  known = f m.new m.known;
  stands = m.stands;
  heard = m.heard;
  acknack = m.acknack;
}

jumps_map : (match : Match) (t : Tracked) (h : List Happening) (number : ℕ) (change : Change) (step : Step)
    (Knows Says : Tracked → Type 0) (Stands : List Happening → Type 0) → ((u : Tracked) → Knows u → Says u)
    → JumpsOn match t h number change step Knows Stands → JumpsOn match t h number change step Says Stands
jumps_map match t h number change step Knows Says Stands f m = record {
  new = m.new;
  after = m.after;
  jumps = m.jumps;
  known = f m.new m.known;
  stands = m.stands;
  heard = m.heard;
  acknack = m.acknack;
}

takes_map : (match : Match) (t : Tracked) (h : List Happening) (heartbeat : HeartbeatSeen) (step : Step)
    (Knows Says : Tracked → Type 0) (Stands : List Happening → Type 0) → ((u : Tracked) → Knows u → Says u)
    → TakesHeartbeat match t h heartbeat step Knows Stands → TakesHeartbeat match t h heartbeat step Says Stands
takes_map match t h heartbeat step Knows Says Stands f m = record
    { new = m.new; after = m.after; accepts = m.accepts; known = f m.new m.known; stands = m.stands }

pub news_map : (with_it : Tracked → Tracked) (Stands : List Happening → Type 0)
    → Maps (λ how match t h step Knows. MeetsNews how match with_it t h step Knows Stands)
news_map with_it Stands Begun match t h step Knows Says f m =
    (m.0, moves_map match (with_it t) h step Knows Says Stands f m.1)
news_map with_it Stands Waiting match t h step Knows Says f m = rests_map t h step Knows Says Stands f m
news_map with_it Stands Away match t h step Knows Says f m = rests_map t h step Knows Says Stands f m

begins_map : (b : Bool) (match : Match) (t : Tracked) (h : List Happening) (number : ℕ) (change : Change) (step : Step)
    (Knows Says : Tracked → Type 0) (Stands : List Happening → Type 0) → ((u : Tracked) → Knows u → Says u)
    → BeginsIf b match t h number change step Knows Stands → BeginsIf b match t h number change step Says Stands
begins_map true match t h number change step Knows Says Stands f m =
    (m.0, jumps_map match (begun_at number t) h number change step Knows Says Stands f m.1)
begins_map false match t h number change step Knows Says Stands f m = rests_map t h step Knows Says Stands f m

pub change_map : (number : ℕ) (change : Change) (Stands : List Happening → Type 0)
    → Maps (λ how match t h step Knows. MeetsChange how match t h number change step Knows Stands)
change_map number change Stands Begun match t h step Knows Says f m =
    (m.0, jumps_map match t h number change step Knows Says Stands f m.1)
change_map number change Stands Waiting match t h step Knows Says f m =
    begins_map (nat_le t.place number && comes match number h number change) match t h number change step Knows Says
    Stands f m
change_map number change Stands Away match t h step Knows Says f m = rests_map t h step Knows Says Stands f m

pub heartbeat_map : (heartbeat : HeartbeatSeen) (Stands : List Happening → Type 0)
    → Maps (λ how match t h step Knows. is_later t.count heartbeat.count ≡ true
    → MeetsHeartbeat how match t h heartbeat step Knows Stands)
heartbeat_map heartbeat Stands Begun match t h step Knows Says f m later =
    ((m later).0, takes_map match t h heartbeat step Knows Says Stands f (m later).1)
heartbeat_map heartbeat Stands Waiting match t h step Knows Says f m later = (
  (m later).0,
  takes_map match (begun_at heartbeat.first t) h heartbeat step Knows Says Stands f (m later).1,
)
heartbeat_map heartbeat Stands Away match t h step Knows Says f m later =
    rests_map t h step Knows Says Stands f (m later)

pub beat_map : (heartbeat : HeartbeatSeen) (Stands : List Happening → Type 0)
    → Maps (λ how match t h step Knows. is_later t.count heartbeat.count ≡ true
    → MeetsBeat how match t h heartbeat step Knows Stands)
beat_map heartbeat Stands Begun match t h step Knows Says f m later =
    ((m later).0, takes_map match t h heartbeat step Knows Says Stands f (m later).1)
beat_map heartbeat Stands Waiting match t h step Knows Says f m later =
    let it = m later in
    record {
      begun = it.begun;
      to = it.to;
      passed = it.passed;
      heard = it.heard;
      acknack = it.acknack;
      known = f (record t { count = Some heartbeat.count }) it.known;
      stands = it.stands;
    }
beat_map heartbeat Stands Away match t h step Knows Says f m later = rests_map t h step Knows Says Stands f (m later)

idle_from : {E : Type 0} (place from : ℕ) (r : Result Step E) (X Y : Type 0) → place ≡ from → X → Y
    → IfOk r (λ step. IsIdle place step) → IfOk r (λ step. IsIdle from step × X × Y)
idle_from place from (Ok step) X Y e x y idle = (subst (λ (n : ℕ). IsIdle n step) e idle, x, y)
idle_from place from (Err error) X Y e x y idle = tt

-- a repeated HEARTBEAT did nothing at its writer's proxy, and nothing at the reader
pub repeated_all : {E S : Type 0} {reader : Proxies} {items : List KnownWriter} {writer : ℕ} {proxy : KnownWriter}
    → Opened reader items writer proxy → (stands : S → List Happening → Type 0) (new : KnownWriter) (sink changed : S)
    (heartbeat : HeartbeatSeen) (r : Result Step E)
    → (is_later (tracked proxy.proxy).count heartbeat.count ≡ false
    → (new ≡ proxy) × (changed ≡ sink) × IsOk r × IfOk r (λ step. IsIdle (tracked proxy.proxy).place step))
    → (t : Tracked) (h : List Happening) → Tracks reader writer t → stands sink h
    → is_later t.count heartbeat.count ≡ false
    → IsOk r × IfOk r (λ step. IsIdle t.place step × Tracks (record { writers = slice_set items writer new }) writer t
    × stands changed h)
repeated_all {S = S} {reader = reader} {items} {writer} {proxy} o stands new sink changed heartbeat r idle t h has was
    repeats =
    let is = known_of items writer proxy t o.at (subst (λ (u : Proxies). Tracks u writer t) (sym o.view) has) in
    let e = idle (ap (λ (u : Tracked). is_later u.count heartbeat.count) is ∙ repeats) in
    let known : Tracks (record { writers = slice_set items writer new }) writer t =
    subst (λ (u : Tracked). Tracks (record { writers = slice_set items writer new }) writer u)
    (ap (λ (p : KnownWriter). tracked p.proxy) e.0 ∙ is) (tracks_set items writer proxy new o.at)
    in (
      e.2,
      idle_from (tracked proxy.proxy).place t.place r _ _ (ap (λ (u : Tracked). u.place) is) known
          (let Stands : S → Type 0 = λ s. stands s h in subst Stands (sym e.1) was) e.3,
    )

-- a proxy that knows the same
pub stays : (items : List KnownWriter) (writer : ℕ) (proxy new : KnownWriter) → slice_get items writer ≡ Some proxy
    → SameTracked (tracked proxy.proxy) (tracked new.proxy)
    → AllStay (record { writers = items }) (record { writers = slice_set items writer new })
stays [] writer proxy new at same k t has = absurd (let e : None ≡ Some has.0 = has.1 in cc)
stays (p ∷ rest) zero proxy new at same zero t has =
    (new, refl, same_from (tracked new.proxy) t (sym (known_of (p ∷ rest) zero proxy t at has) ∙ sym (same_is _ _ same)))
stays (p ∷ rest) zero proxy new at same (suc k) t has = has
stays (p ∷ rest) (suc writer) proxy new at same zero t has = has
stays (p ∷ rest) (suc writer) proxy new at same (suc k) t has = stays rest writer proxy new at same k t has

pub all_stay : {reader : Proxies} {items : List KnownWriter} {writer : ℕ} {proxy : KnownWriter}
    → Opened reader items writer proxy → (new : KnownWriter) → SameTracked (tracked proxy.proxy) (tracked new.proxy)
    → AllStay reader (record { writers = slice_set items writer new })
all_stay {items = items} {writer} {proxy} o new same =
    subst (λ (u : Proxies). AllStay u (record { writers = slice_set items writer new })) o.view
    (stays items writer proxy new o.at same)

stays_all : {E : Type 0} {reader : Proxies} {items : List KnownWriter} {writer : ℕ} {proxy : KnownWriter}
    → Opened reader items writer proxy → (new : KnownWriter) (r : Result Step E)
    → OnErr r (SameTracked (tracked proxy.proxy) (tracked new.proxy))
    → OnErr r (AllStay reader (record { writers = slice_set items writer new }))
stays_all o new (Ok step) same = tt
stays_all o new (Err e) same = all_stay o new same

others_stay : {reader : Proxies} {items : List KnownWriter} {writer : ℕ} {proxy : KnownWriter}
    → Opened reader items writer proxy → (new : KnownWriter)
    → OthersStay writer reader (record { writers = slice_set items writer new })
others_stay {reader} {items} {writer} o new =
    subst (λ (u : Proxies). OthersStay writer u (record { writers = slice_set items writer new })) o.view
    (λ k t ne has. (has.0, get-set_other items writer new k ne ∙ has.1, has.2))

pub same_count : {reader : Proxies} {items : List KnownWriter} {writer : ℕ} {proxy : KnownWriter}
    → Opened reader items writer proxy → (new : KnownWriter)
    → count_of (record { writers = slice_set items writer new }) ≡ count_of reader
same_count {items = items} {writer} o new = length-set items writer new ∙ ap (λ (r : Proxies). count_of r) o.view

pub ready_of : {reader : Proxies} {items : List KnownWriter} {writer : ℕ} {proxy : KnownWriter}
    → Opened reader items writer proxy → (spare : ℕ) → IsReadyAt reader writer spare → IsWriterReady proxy spare
ready_of {writer = writer} {proxy} o spare ready = ready proxy
    (ap (λ (r : Proxies). slice_get r.writers writer) (sym o.view) ∙ o.at)

-- a writer is ready where its proxy was made so
pub ready_set : {T E : Type 0} {reader : Proxies} {items : List KnownWriter} {writer : ℕ} {proxy : KnownWriter}
    → Opened reader items writer proxy → (new : KnownWriter) (spare : ℕ) (r : Result T E)
    → OnOk r (IsWriterReady new spare)
    → OnOk r (IsReadyAt (record { writers = slice_set items writer new }) writer spare)
ready_set {items = items} {writer} {proxy} o new spare (Ok t) ready = λ p is.
    subst (λ (q : KnownWriter). IsWriterReady q spare)
    (same_Some new p (sym (get-set_same items writer new proxy o.at) ∙ is)) ready
ready_set o new spare (Err e) ready = tt

how_all : {E : Type 0} {reader : Proxies} {items : List KnownWriter} {writer : ℕ} {proxy : KnownWriter}
    → Opened reader items writer proxy → (new : KnownWriter) (r : Result Step E)
    → IfOk r (λ step. new.how ≡ how_after proxy.how step)
    → IfOk r (λ step. how_at (record { writers = slice_set items writer new }) writer
    ≡ how_after (how_at reader writer) step)
how_all o new (Ok step) is =
    how_set o new ∙ (is ∙ ap (λ (how : Attachment). how_after how step) (sym (how_here o)))
how_all o new (Err e) is = tt

how_kept : {E : Type 0} {reader : Proxies} {items : List KnownWriter} {writer : ℕ} {proxy : KnownWriter}
    → Opened reader items writer proxy → (new : KnownWriter) (r : Result Step E) → OnErr r (new.how ≡ proxy.how)
    → OnErr r (AllStand reader (record { writers = slice_set items writer new }))
how_kept o new (Ok step) same = tt
how_kept o new (Err e) same = all_stand o new same

-- what the proxy of a writer leaves alone, the reader does, and so for its refusals
pub keeps_all : {S : Type 0} {Stands : S → List Happening → Type 0} {policies : S → ReaderQos} {matched spare : S → ℕ}
    {reader : Proxies} {items : List KnownWriter} {writer : ℕ} {proxy new : KnownWriter} {before after : S}
    {answer : Result Step Code}
    → Opened reader items writer proxy → KeepsHow proxy.how new.how answer
    → ProxyKeepsRest Stands policies matched spare proxy.proxy new.proxy before after answer
    → (IsWriterReady proxy (spare before) → IsOk answer)
    → KeepsRest Stands policies matched spare writer reader
    (record { writers = slice_set items writer new }) before after answer
keeps_all {reader = reader} {items} {writer} {new = new} {answer = answer} o hows keeps succeeds = record {
  sayable = keeps.sayable;
  others = others_stay o new;
  how = how_all o new answer hows.ok;
  others_how = how_others o new;
  err_how = how_kept o new answer hows.err;
  count = same_count o new;
  qos = keeps.qos;
  writers = keeps.writers;
  err = stays_all o new answer keeps.err;
  err_sink = keeps.err_sink;
  memory = keeps.memory;
  succeeds = λ ready. succeeds (ready_of o _ ready);
}

pub sound_set : (items : List KnownWriter) (writer : ℕ) (new : KnownWriter) → AreSound items → IsSound new.proxy
    → AreSound (slice_set items writer new)
sound_set items writer new sound is k p at = ⊎_elim (λ here. subst (λ (q : KnownWriter). IsSound q.proxy) (sym here.1) is)
    (λ other. sound k p other.1) (set_cases items writer new k p at)

-- the proxy that was opened is sound
pub sound_here : {reader : Proxies} {items : List KnownWriter} {writer : ℕ} {proxy : KnownWriter}
    → AreSound items → Opened reader items writer proxy → IsSound proxy.proxy
sound_here {writer = writer} {proxy} sound o = sound writer proxy o.at

pub sound_more : (items : List KnownWriter) (new : KnownWriter) → AreSound items → IsSound new.proxy
    → AreSound (items ++ new ∷ [])
sound_more [] new sound is zero p at = subst (λ (q : KnownWriter). IsSound q.proxy) (same_Some new p at) is
sound_more [] new sound is (suc k) p at = absurd (cc)
sound_more (x ∷ rest) new sound is zero p at = sound zero p at
sound_more (x ∷ rest) new sound is (suc k) p at = sound_more rest new (λ j q. sound (suc j) q) is k p at

-- of those of a list, each is sound where all are
pub sound_less : (items more : List KnownWriter) → AreSound (items ++ more) → AreSound items
sound_less [] more sound index w at = absurd (let nothing : ◌≡◌ {A = Option KnownWriter} None (Some w) = at in cc)
sound_less (x ∷ rest) more sound zero w at = sound zero w at
sound_less (x ∷ rest) more sound (suc k) w at = sound_less rest more (λ j q. sound (suc j) q) k w at

tracks_here : (proxy : KnownWriter) (items : List KnownWriter) (t : Tracked) → SameTracked (tracked proxy.proxy) t
    → Tracks (record { writers = items ++ proxy ∷ [] }) (length items) t
tracks_here proxy [] t same = (proxy, refl, same)
tracks_here proxy (x ∷ rest) t same = tracks_here proxy rest t same

tracks_on : (items : List KnownWriter) (proxy : KnownWriter) (index : ℕ) (t : Tracked)
    → Tracks (record { writers = items }) index t → Tracks (record { writers = items ++ proxy ∷ [] }) index t
tracks_on [] proxy index t has = absurd (let e : None ≡ Some has.0 = has.1 in cc)
tracks_on (x ∷ rest) proxy zero t has = has
tracks_on (x ∷ rest) proxy (suc index) t has = tracks_on rest proxy index t has

-- one more writer, of which as little is known as of the others
pub tracks_more : (items : List KnownWriter) (proxy : KnownWriter) (count : ℕ) (t : Tracked) → length items ≡ count
    → ((index : ℕ) → index < count → Tracks (record { writers = items }) index t) → SameTracked (tracked proxy.proxy) t
    → (index : ℕ) → index < count + 1 → Tracks (record { writers = items ++ proxy ∷ [] }) index t
tracks_more items proxy count t len before same index lt = ⊎_elim
    (λ below. tracks_on items proxy index t (before index below))
    (λ above. subst (λ (n : ℕ). Tracks (record { writers = items ++ proxy ∷ [] }) n t)
    (let e : length items ≡ index = omega (arith, len, lt, above) in e) (tracks_here proxy items t same))
    (cases_lt index count)

-- a sink with more memory
pub ready_more : (p : KnownWriter) (spare more : ℕ) → spare ≤ more → IsWriterReady p spare → IsWriterReady p more
ready_more p spare more le ready = by p.how ready
  where
    by : (how : Attachment) → UnlessAway how (IsProxyReady p.proxy spare) → UnlessAway how (IsProxyReady p.proxy more)
    by Away r = r
    by Waiting r = record { places = r.places; runs = r.runs; sink = omega (arith, r.sink) }
    by Begun r = record { places = r.places; runs = r.runs; sink = omega (arith, r.sink) }

-- one more proxy is ready
pub ready_step : (xs : List KnownWriter) (at : ℕ) (q : KnownWriter) (spare more : ℕ) → spare ≤ more
    → ((k : ℕ) (p : KnownWriter) → k < at → slice_get xs k ≡ Some p → IsWriterReady p spare) → IsWriterReady q more
    → (k : ℕ) (p : KnownWriter) → k < at + 1 → slice_get (slice_set xs at q) k ≡ Some p → IsWriterReady p more
ready_step xs at q spare more le so_far ready k p below is = ⊎_elim
    (λ here. subst (λ (r : KnownWriter). IsWriterReady r more) (sym here.1) ready)
    (λ other. ready_more p spare more le (so_far k p (let ne = other.0 in omega (arith, ne)) other.1))
    (set_cases xs at q k p is)

-- a reader is ready also where its sink has more memory
pub ready_on : (reader : Proxies) (spare more : ℕ) → spare ≤ more → IsReady reader spare → IsReady reader more
ready_on reader spare more le ready k p is = ready_more p spare more le (ready k p is)

-- what a reader knows of a writer is one thing
pub tracks_same : (reader : Proxies) (index : ℕ) (t u : Tracked) → Tracks reader index t → Tracks reader index u → u ≡ t
tracks_same reader index t u first second =
    same_is (tracked second.0.proxy) u second.2
    ∙ (ap (λ (p : KnownWriter). tracked p.proxy) (same_Some second.0 first.0 (sym second.1 ∙ first.1))
    ∙ sym (same_is (tracked first.0.proxy) t first.2))

-- ---- who is matched

still_ready : {reader : Proxies} {items : List KnownWriter} {writer : ℕ} {proxy : KnownWriter}
    → Opened reader items writer proxy → (new : KnownWriter)
    → OthersReady writer reader (record { writers = slice_set items writer new })
still_ready {reader} {items} {writer} {proxy} o new index spare ne ready w is = ⊎_elim
    (λ here. absurd (ne here.0))
    (λ other. ready w (ap (λ (u : Proxies). slice_get u.writers index) (sym o.view) ∙ other.1))
    (set_cases items writer new index w is)

-- the reader stands so to one writer, and nothing else has changed
pub stands_now : {reader : Proxies} {items : List KnownWriter} {writer : ℕ} {proxy : KnownWriter}
    → Opened reader items writer proxy → (new : KnownWriter) (how : Attachment) → new.how ≡ how
    → SameTracked (tracked proxy.proxy) (tracked new.proxy)
    → StandsNow reader writer how (record { writers = slice_set items writer new })
stands_now o new how is same = record {
  count = same_count o new;
  here = how_set o new ∙ is;
  others = how_others o new;
  known = all_stay o new same;
  ready = still_ready o new;
}

how_last : (items : List KnownWriter) (w : KnownWriter)
    → how_at (record { writers = items ++ w ∷ [] }) (length items) ≡ w.how
how_last [] w = refl
how_last (x ∷ rest) w = how_last rest w

how_before : (items : List KnownWriter) (w : KnownWriter) (index : ℕ) → index ≢ length items
    → how_at (record { writers = items ++ w ∷ [] }) index ≡ how_at (record { writers = items }) index
how_before [] w zero ne = absurd (ne refl)
how_before [] w (suc index) ne = refl
how_before (x ∷ rest) w zero ne = refl
how_before (x ∷ rest) w (suc index) ne = how_before rest w index (λ e. ne (ap suc e))

length_more : (items : List KnownWriter) (w : KnownWriter) → length (items ++ w ∷ []) ≡ length items + 1
length_more items w = grind (arith, common_steps)

-- one writer more, after all others
pub one_more : (items : List KnownWriter) (w : KnownWriter) → w.how ≡ Waiting → SameTracked fresh (tracked w.proxy)
    → HasOneMore (record { writers = items }) (record { writers = items ++ w ∷ [] })
one_more items w how fresh_is = record {
  count = length_more items w;
  here = how_last items w ∙ how;
  fresh_here = tracks_here w items fresh (same_back _ _ fresh_is);
  others = how_before items w;
  known = tracks_on items w;
}

-- each of the writers so far has begun, and so has one more
pub begun_more : (items : List KnownWriter) (w : KnownWriter) (count : ℕ) → length items ≡ count
    → ((index : ℕ) → index < count → how_at (record { writers = items }) index ≡ Begun) → w.how ≡ Begun
    → (index : ℕ) → index < count + 1 → how_at (record { writers = items ++ w ∷ [] }) index ≡ Begun
begun_more items w count len before is index lt = by (cases_eq index (length items))
  where
    by : (index ≡ length items) ⊎ (index ≡ length items → ⊥)
        → how_at (record { writers = items ++ w ∷ [] }) index ≡ Begun
    by (inl here) =
        ap (λ (k : ℕ). how_at (record { writers = items ++ w ∷ [] }) k) here ∙ (how_last items w ∙ is)
    by (inr other) = how_before items w index other ∙ before index (omega (arith, len, lt, other))
