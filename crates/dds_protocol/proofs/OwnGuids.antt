-- The ends of good peers have GUIDs of their own, and so have the matched writers of a reader: a prefix is one peer's,
-- and an entity one end's of it. Both are counted.
use Rattle.std.proofs.Common.{◌≡◌, ℕ, zero, suc, ◌+◌, ◌-◌, ◌<◌, ◌≤◌, ◌⊎◌, Bool, true, false, cond, ◌&&◌, ◌||◌, Option, Some, None, List, [], ◌∷◌, refl, sym, ◌∙◌, ap, subst, inl, inr, ⊎_elim, arith, length, length-append, slice_get}
use Rattle.std.specs.Prelude.{nat_eq, nat_lt, not}
use Rattle.std.specs.Bool.{Decides}
use Rattle.std.specs.List.{count_by, list_any}
use Rattle.std.proofs.lemmas.Bool.{or_parts, ltb-false}
use Rattle.std.proofs.lemmas.Bool.Decides.{Decides-eqb}
use Rattle.std.proofs.lemmas.List.Sums.{sum_by-append, sum_by-cons}
use Rattle.std.proofs.lemmas.Slice.Eq.{slice_eq-Decides}
use Rattle.dds_base.specs.declared.config.PeerConfig.{PeerConfig}
use Rattle.dds_base.specs.declared.config.WriterConfig.{WriterConfig}
use Rattle.dds_base.specs.declared.config.ReaderConfig.{ReaderConfig}
use Rattle.dds_base.specs.declared.guid.Guid.{Guid}
use Rattle.dds_base.specs.declared.guid.GuidPrefix.{GuidPrefix}
use Rattle.dds_base.specs.declared.guid.EntityId.{EntityId}
use Rattle.dds_base.specs.declared.qos.MatchedWriter.{MatchedWriter}
use Rattle.dds_base.specs.Checked.{unknown_prefix, same_prefix, same_entity, has_kind, prefix_count, entity_count, is_bad_writer, is_bad_reader, is_bad_peer}
use Rattle.dds_base.specs.Matched.{same_topic, of_matched_writers}
use Rattle.dds_base.specs.MatchedAt.{of_writers_in}
use Rattle.dds_base.specs.Ownership.{HaveOwnGuids, joined_in, writer_of}
use Rattle.dds_base.specs.declared.happening.Happening.{Happening}
use Rattle.dds_base.proofs.JoinLaws.{nobody-joined, still-of-opening}
use Rattle.dds_base.specs.declared.endpoint.Endpoint.{Endpoint}
use Rattle.dds_protocol.specs.Claims.{IsNumbered}
use Rattle.std.proofs.lemmas.Option.{same_Some}
use Rattle.dds_machine.specs.Part.{Begun, WriterProxy, same_endpoint, publication_from}
use Rattle.dds_machine.specs.Opening.{matched_writers, writer_qos, reader_qos}
use Rattle.dds_protocol.specs.Laws.{ReadersTellWritersApart}
use Rattle.dds_protocol.specs.Roster.{AreGood, has_bad_prefix}

-- ---- the tests of names

pub prefix-Decides : (a b : GuidPrefix) → Decides (same_prefix a b) (a ≡ b)
prefix-Decides a b =
    let lists : Decides (same_prefix a b) (a.0 ≡ b.0) =
    slice_eq-Decides {E = nat_eq} Decides-eqb a.0 b.0 (same_prefix a b) refl in
    (λ e. ap (λ (xs : List ℕ). record { 0 = xs }) (lists.0 e), λ e. lists.1 (ap (λ (p : GuidPrefix). p.0) e))

pub entity-Decides : (a b : EntityId) → Decides (same_entity a b) (a ≡ b)
entity-Decides a b =
    let lists : Decides (same_entity a b) (a.0 ≡ b.0) =
    slice_eq-Decides {E = nat_eq} Decides-eqb a.0 b.0 (same_entity a b) refl in
    (λ e. ap (λ (xs : List ℕ). record { 0 = xs }) (lists.0 e), λ e. lists.1 (ap (λ (i : EntityId). i.0) e))

-- ---- counting

none-passes : {X : Type 0} (test : X → Bool) (xs : List X) (k : ℕ) (x : X) → list_any test xs ≡ false
    → slice_get xs k ≡ Some x → test x ≡ false
none-passes test [] k x h at = absurd cc
none-passes test (y ∷ ys) zero x h at = let here = (or_parts (test y) (list_any test ys) h).0 in cc
none-passes test (y ∷ ys) (suc k) x h at = none-passes test ys k x (or_parts (test y) (list_any test ys) h).1 at

count-cons : {X : Type 0} (test : X → Bool) (y : X) (ys : List X)
    → count_by test (y ∷ ys) ≡ cond (test y) 1 0 + count_by test ys
count-cons test y ys = sum_by-cons (λ x. cond (test x) 1 0) y ys

-- an element that passes, by its place
abbrev Passing : {X : Type 0} → (X → Bool) → List X → Type 0
Passing {X} test xs = (k : ℕ) × (x : X) × (slice_get xs k ≡ Some x) × (test x ≡ true)

here_or_later : {X : Type 0} (test : X → Bool) (y : X) (ys : List X) (b : Bool) → test y ≡ b
    → (count_by test ys ≡ 0) ⊎ Passing test ys → (count_by test (y ∷ ys) ≡ 0) ⊎ Passing test (y ∷ ys)
here_or_later test y ys true is later = inr (0, y, refl, is)
here_or_later test y ys false is later =
    let all = count-cons test y ys ∙ ap (λ (c : Bool). cond c 1 0 + count_by test ys) is in
    ⊎_elim (λ none. inl (omega arith)) (λ found. inr (suc found.0, found.1, found.2, found.3)) later

none_or_passing : {X : Type 0} (test : X → Bool) (xs : List X) → (count_by test xs ≡ 0) ⊎ Passing test xs
none_or_passing test [] = inl refl
none_or_passing test (y ∷ ys) = here_or_later test y ys (test y) refl (none_or_passing test ys)

counted : {X : Type 0} (test : X → Bool) (y : X) (ys : List X) → test y ≡ true
    → count_by test (y ∷ ys) ≡ 1 + count_by test ys
counted test y ys is = count-cons test y ys ∙ ap (λ (c : Bool). cond c 1 0 + count_by test ys) is

one_at_least : {X : Type 0} (test : X → Bool) (xs : List X) (i : ℕ) (a : X) → slice_get xs i ≡ Some a → test a ≡ true
    → 1 ≤ count_by test xs
one_at_least test [] i a at passes = absurd cc
one_at_least test (y ∷ ys) zero a at passes =
    let here : test y ≡ true = cc in let all = counted test y ys here in omega arith
one_at_least test (y ∷ ys) (suc i) a at passes =
    let all = count-cons test y ys in let later = one_at_least test ys i a at passes in omega arith

two_at_least : {X : Type 0} (test : X → Bool) (xs : List X) (i j : ℕ) (a b : X) → i < j → slice_get xs i ≡ Some a
    → slice_get xs j ≡ Some b → test a ≡ true → test b ≡ true → 2 ≤ count_by test xs
two_at_least test [] i j a b before at_i at_j first second = absurd cc
two_at_least test (y ∷ ys) i zero a b before at_i at_j first second = absurd (omega arith)
two_at_least test (y ∷ ys) zero (suc j) a b before at_i at_j first second =
    let here : test y ≡ true = cc in
    let all = counted test y ys here in
    let later = one_at_least test ys j b at_j second in
    omega arith
two_at_least test (y ∷ ys) (suc i) (suc j) a b before at_i at_j first second =
    let all = count-cons test y ys in
    let later = two_at_least test ys i j a b (omega arith) at_i at_j first second in
    omega arith

-- where each key is that of one element at most, so is every key
one_of_each : {X K : Type 0} (same : K → K → Bool) (key : X → K) (xs : List X) → ((a b : K) → same a b ≡ true → a ≡ b)
    → ((i : ℕ) (x : X) → slice_get xs i ≡ Some x → count_by (λ y. same (key y) (key x)) xs ≤ 1) → (k : K)
    → count_by (λ y. same (key y) k) xs ≤ 1
one_of_each {X} {K} same key xs exact each k =
    ⊎_elim (λ none. omega arith)
    (λ found. subst (λ (l : K). count_by (λ y. same (key y) l) xs ≤ 1) (exact (key found.1) k found.3)
    (each found.0 found.1 found.2))
    (none_or_passing (λ y. same (key y) k) xs)

-- ---- a GUID among the matched writers

-- the writer has this GUID
abbrev is_of : Guid → MatchedWriter → Bool
is_of g m = same_prefix m.guid.prefix g.prefix && same_entity m.guid.entity g.entity

is_of-itself : (a b : MatchedWriter) → a.guid ≡ b.guid → is_of a.guid b ≡ true
is_of-itself a b same =
    let prefix : same_prefix b.guid.prefix a.guid.prefix ≡ true =
    (prefix-Decides b.guid.prefix a.guid.prefix).1 (ap (λ (g : Guid). g.prefix) (sym same)) in
    let entity : same_entity b.guid.entity a.guid.entity ≡ true =
    (entity-Decides b.guid.entity a.guid.entity).1 (ap (λ (g : Guid). g.entity) (sym same)) in
    ap (λ (c : Bool). c && same_entity b.guid.entity a.guid.entity) prefix ∙ entity

abbrev told : PeerConfig → WriterConfig → MatchedWriter
told p w = record { guid = record { prefix = p.prefix; entity = w.entity }; strength = w.strength; lease = w.lease }

-- how many of these writers are the entity
abbrev writers_of : EntityId → List WriterConfig → ℕ
writers_of entity ws = count_by (λ (w : WriterConfig). same_entity w.entity entity) ws

both_counted : (prefix entity : Bool) (n : ℕ) → cond (prefix && entity) 1 0 + cond prefix n 0
    ≤ cond prefix (cond entity 1 0 + n) 0
both_counted true entity n = omega arith
both_counted false entity n = omega arith

one_more : (test : MatchedWriter → Bool) (m : MatchedWriter) (rest : List MatchedWriter) (matched : Bool) (bound : ℕ)
    → count_by test rest ≤ bound
    → count_by test (cond matched (m ∷ rest) rest) ≤ cond (test m) 1 0 + bound
one_more test m rest true bound h = let all = count-cons test m rest in omega arith
one_more test m rest false bound h = omega arith

in_peer : (g : Guid) (p : PeerConfig) (topic n : ℕ) (ws : List WriterConfig)
    → count_by (is_of g) (of_writers_in (λ k w. told p w) topic n ws)
    ≤ cond (same_prefix p.prefix g.prefix) (writers_of g.entity ws) 0
in_peer g p topic n [] = omega arith
in_peer g p topic n (w ∷ ws) =
    let rest = in_peer g p topic (n + 1) ws in
    let all =
    one_more (is_of g) (told p w) (of_writers_in (λ k w. told p w) topic (n + 1) ws) (same_topic w.topic topic)
    (cond (same_prefix p.prefix g.prefix) (writers_of g.entity ws) 0) rest in
    let both = both_counted (same_prefix p.prefix g.prefix) (same_entity w.entity g.entity) (writers_of g.entity ws) in
    let more =
    ap (λ (k : ℕ). cond (same_prefix p.prefix g.prefix) k 0)
    (count-cons (λ (v : WriterConfig). same_entity v.entity g.entity) w ws) in
    omega arith

-- a GUID stands among the matched writers no more often than its prefix among the peers, where each entity is one
-- writer's
one_or_none : (b : Bool) (n : ℕ) → n ≤ 1 → cond b n 0 ≤ cond b 1 0
one_or_none true n h = h
one_or_none false n h = omega arith

in_peers : (g : Guid) (topic n : ℕ) (ps : List PeerConfig)
    → ((i : ℕ) (p : PeerConfig) → slice_get ps i ≡ Some p → writers_of g.entity p.writers ≤ 1)
    → count_by (is_of g) (of_matched_writers (λ k p l w. told p w) topic n ps) ≤ prefix_count ps g.prefix
in_peers g topic n [] each = omega arith
in_peers g topic n (p ∷ ps) each =
    let here = in_peer g p topic 1 p.writers in
    let one = one_or_none (same_prefix p.prefix g.prefix) (writers_of g.entity p.writers) (each 0 p refl) in
    let later = in_peers g topic (n + 1) ps (λ i q at. each (suc i) q at) in
    let both =
    sum_by-append (λ m. cond (is_of g m) 1 0) (of_writers_in (λ k w. told p w) topic 1 p.writers)
    (of_matched_writers (λ k q l w. told q w) topic (n + 1) ps) in
    let prefixes = count-cons (λ (q : PeerConfig). same_prefix q.prefix g.prefix) p ps in
    omega arith

-- ---- peers that are good

-- what is asked of the prefixes, and of each peer's writers
pub record IsChecked (peers : List PeerConfig) : Type 0 where
  pub prefixes : (i : ℕ) (p : PeerConfig) → slice_get peers i ≡ Some p → prefix_count peers p.prefix ≤ 1
  pub entities : (i : ℕ) (p : PeerConfig) → slice_get peers i ≡ Some p → (j : ℕ) (w : WriterConfig)
      → slice_get p.writers j ≡ Some w → entity_count p w.entity ≤ 1
  pub readers : (i : ℕ) (p : PeerConfig) → slice_get peers i ≡ Some p → (j : ℕ) (r : ReaderConfig)
      → slice_get p.readers j ≡ Some r → entity_count p r.entity ≤ 1
  pub kinds : (i : ℕ) (p : PeerConfig) → slice_get peers i ≡ Some p → (j : ℕ) (r : ReaderConfig)
      → slice_get p.readers j ≡ Some r → has_kind 7 r.entity ≡ true
  pub known : (i : ℕ) (p : PeerConfig) → slice_get peers i ≡ Some p → same_prefix p.prefix unknown_prefix ≡ false

good_writers : (p : PeerConfig) → is_bad_peer p ≡ false
    → list_any (λ (w : WriterConfig). nat_lt 1 (entity_count p w.entity)) p.writers ≡ false
good_writers p good =
    let rest = (or_parts (nat_lt 16 (length p.writers) || nat_lt 16 (length p.readers)) _ good).1 in
    let twice : EntityId → Bool = λ entity. nat_lt 1 (entity_count p entity) in
    let writers = list_any (λ (w : WriterConfig). twice w.entity) p.writers in
    let readers = list_any (λ (r : ReaderConfig). twice r.entity) p.readers in
    (or_parts writers readers (or_parts (writers || readers) _ rest).0).0

-- what is asked of a peer's readers: their entities are apart, and none is bad
good_readers : (p : PeerConfig) → is_bad_peer p ≡ false
    → (list_any (λ (r : ReaderConfig). nat_lt 1 (entity_count p r.entity)) p.readers ≡ false)
    × (list_any is_bad_reader p.readers ≡ false)
good_readers p good =
    let rest = (or_parts (nat_lt 16 (length p.writers) || nat_lt 16 (length p.readers)) _ good).1 in
    let twice : EntityId → Bool = λ entity. nat_lt 1 (entity_count p entity) in
    let writers = list_any (λ (w : WriterConfig). twice w.entity) p.writers in
    let readers = list_any (λ (r : ReaderConfig). twice r.entity) p.readers in
    let both = or_parts (writers || readers) _ rest in (
      (or_parts writers readers both.0).1,
      (or_parts (list_any is_bad_writer p.writers) (list_any is_bad_reader p.readers) both.1).1,
    )

not_not : (b : Bool) → not b ≡ false → b ≡ true
not_not true h = refl
not_not false h = absurd cc

pub checked : (peers : List PeerConfig) → AreGood peers → IsChecked peers
checked peers fits =
    record {
      prefixes = λ i p at.
          let both = none-passes (has_bad_prefix peers) peers i p fits.prefixes at in
          ltb-false 1 (prefix_count peers p.prefix)
          (or_parts (same_prefix p.prefix unknown_prefix) (nat_lt 1 (prefix_count peers p.prefix)) both).1;
      entities = λ i p at j w within.
          let writers = good_writers p (none-passes is_bad_peer peers i p fits.each at) in
          ltb-false 1 (entity_count p w.entity)
          (none-passes (λ (v : WriterConfig). nat_lt 1 (entity_count p v.entity)) p.writers j w writers within);
      readers = λ i p at j r within.
          let both = good_readers p (none-passes is_bad_peer peers i p fits.each at) in
          ltb-false 1 (entity_count p r.entity)
          (none-passes (λ (v : ReaderConfig). nat_lt 1 (entity_count p v.entity)) p.readers j r both.0 within);
      kinds = λ i p at j r within.
          let both = good_readers p (none-passes is_bad_peer peers i p fits.each at) in
          not_not (has_kind 7 r.entity)
          (or_parts (not (has_kind 7 r.entity)) _ (none-passes is_bad_reader p.readers j r both.1 within)).0;
      known = λ i p at.
          let both = none-passes (has_bad_prefix peers) peers i p fits.prefixes at in
          (or_parts (same_prefix p.prefix unknown_prefix) (nat_lt 1 (prefix_count peers p.prefix)) both).0;
    }

-- ---- the matched writers of a reader

-- an entity is that of one writer of a peer at most
pub entity_once : (peers : List PeerConfig) → IsChecked peers → (i : ℕ) (p : PeerConfig) → slice_get peers i ≡ Some p
    → (entity : EntityId) → writers_of entity p.writers ≤ 1
entity_once peers good i p at entity =
    one_of_each same_entity (λ (w : WriterConfig). w.entity) p.writers (λ a b. (entity-Decides a b).0)
    (λ j w within. let all = good.entities i p at j w within in omega arith) entity

guid_once : (peers : List PeerConfig) → IsChecked peers → (topic : ℕ) (g : Guid)
    → count_by (is_of g) (writer_qos topic peers) ≤ 1
guid_once peers good topic g =
    let most = in_peers g topic 1 peers (λ i p at. entity_once peers good i p at g.entity) in
    let prefix =
    one_of_each same_prefix (λ (p : PeerConfig). p.prefix) peers
    (λ a b. (prefix-Decides a b).0) good.prefixes g.prefix in
    omega arith

-- no two of these writers have one GUID
abbrev OwnGuids : List MatchedWriter → Type 0
OwnGuids ws = (v w : ℕ) (a b : MatchedWriter) → writer_of ws v ≡ Some a → writer_of ws w ≡ Some b → a.guid ≡ b.guid
    → v ≡ w

opening_guids : (peers : List PeerConfig) (r : ReaderConfig) → IsChecked peers → OwnGuids (reader_qos peers r).writers
opening_guids peers r good zero w a b at_v at_w same = absurd cc
opening_guids peers r good (suc i) zero a b at_v at_w same = absurd cc
opening_guids peers r good (suc i) (suc j) a b at_v at_w same =
    let once = guid_once peers good r.topic a.guid in
    let this = is_of-itself a a refl in
    let that = is_of-itself a b same in
    let not_before : i < j → ⊥ =
    λ before. let two = two_at_least (is_of a.guid)
    (writer_qos r.topic peers) i j a b before at_v at_w this that in omega arith in
    let not_after : j < i → ⊥ =
    λ before. let two = two_at_least (is_of a.guid)
    (writer_qos r.topic peers) j i b a before at_w at_v that this in omega arith in
    omega arith

own_guids : (peers : List PeerConfig) (r : ReaderConfig) → IsChecked peers → (h : List Happening) → joined_in h ≡ []
    → HaveOwnGuids (reader_qos peers r) h
own_guids peers r good h none =
    subst (λ (ws : List MatchedWriter). OwnGuids ws) (sym (nobody-joined (reader_qos peers r) h none))
    (opening_guids peers r good)

-- the rows of the opening and the QoS name the same writers, in one order

both_or_neither : {X Y : Type 0} (matched : Bool) (x : X) (y : Y) (xs : List X) (ys : List Y) → length xs ≡ length ys
    → length (cond matched (x ∷ xs) xs) ≡ length (cond matched (y ∷ ys) ys)
both_or_neither true x y xs ys h = omega arith
both_or_neither false x y xs ys h = h

as_many_in : {X Y : Type 0} (f : ℕ → WriterConfig → X) (g : ℕ → WriterConfig → Y) (topic n : ℕ) (ws : List WriterConfig)
    → length (of_writers_in f topic n ws) ≡ length (of_writers_in g topic n ws)
as_many_in f g topic n [] = refl
as_many_in f g topic n (w ∷ ws) =
    both_or_neither (same_topic w.topic topic) (f n w) (g n w) (of_writers_in f topic (n + 1) ws)
    (of_writers_in g topic (n + 1) ws) (as_many_in f g topic (n + 1) ws)

pub as_many : {X Y : Type 0} (f : ℕ → PeerConfig → ℕ → WriterConfig → X) (g : ℕ → PeerConfig → ℕ → WriterConfig → Y)
    (topic n : ℕ) (ps : List PeerConfig)
    → length (of_matched_writers f topic n ps) ≡ length (of_matched_writers g topic n ps)
as_many f g topic n [] = refl
as_many f g topic n (p ∷ ps) =
    let here = as_many_in (f n p) (g n p) topic 1 p.writers in
    let later = as_many f g topic (n + 1) ps in
    let first = length-append (of_writers_in (f n p) topic 1 p.writers) (of_matched_writers f topic (n + 1) ps) in
    let second = length-append (of_writers_in (g n p) topic 1 p.writers) (of_matched_writers g topic (n + 1) ps) in
    omega arith

here_or_below : (n k : ℕ) (here : Bool) (below : Option ℕ) (rows : List WriterProxy) → cond here (Some n) below ≡ Some k
    → (below ≡ Some k → (n + 1 ≤ k) × (k < n + 1 + length rows)) → (n ≤ k) × (k < n + suc (length rows))
here_or_below n k true below rows h later = let same : n ≡ k = cc in (omega arith, omega arith)
here_or_below n k false below rows h later = let within = later h in (omega arith, omega arith)

publication-within : (n k : ℕ) (rows : List WriterProxy) (w : Endpoint) → publication_from n rows w ≡ Some k
    → (n ≤ k) × (k < n + length rows)
publication-within n k [] w h = absurd cc
publication-within n k (row ∷ rows) w h =
    here_or_below n k (same_endpoint row.writer w) (publication_from (n + 1) rows w) rows h
    (λ e. publication-within (n + 1) k rows w e)

pub tell_apart : ReadersTellWritersApart
tell_apart config peer reader fits at_peer at_reader =
    let good = checked config.peers fits in
    let same : length (matched_writers reader.topic 1 config.peers) ≡ length (reader_qos config.peers reader).writers =
    as_many (λ i p n w. record { writer = record { peer = i; number = n }; place = 1; heard = None; how = Begun })
    (λ i p n w. told p w) reader.topic 1 config.peers in
    record {
      own_guids = own_guids config.peers reader good;
      each_handle = λ h handle low high. still-of-opening (reader_qos config.peers reader) h handle
          (omega arith) (omega arith);
      each_writer =
          λ h writer handle named. let within = publication-within 1 handle
          (matched_writers reader.topic 1 config.peers) writer named in
          still-of-opening (reader_qos config.peers reader) h handle (omega arith) (omega arith);
    }

-- ---- a name is that of one end

-- two places of a list that both pass are one, where no more than one passes
one_place : {X : Type 0} (test : X → Bool) (xs : List X) (i j : ℕ) (a b : X) → count_by test xs ≤ 1
    → slice_get xs i ≡ Some a → slice_get xs j ≡ Some b → test a ≡ true → test b ≡ true → i ≡ j
one_place test xs i j a b once at_i at_j first second =
    let not_before : i < j → ⊥ =
    λ before. let two = two_at_least test xs i j a b before at_i at_j first second in omega arith in
    let not_after : j < i → ⊥ =
    λ before. let two = two_at_least test xs j i b a before at_j at_i second first in omega arith in
    omega arith

endpoint_of : ℕ → ℕ → Endpoint
endpoint_of peer number = record { peer = peer; number = number }

pub same_endpoints : (a b : Endpoint) → a.peer ≡ b.peer → a.number ≡ b.number → a ≡ b
unfolding endpoint_of
same_endpoints a b p n = ap (λ (x : ℕ). endpoint_of x a.number) p ∙ ap (λ (x : ℕ). endpoint_of b.peer x) n

-- an index and a number that is one greater
number_of : (m n : ℕ) → 1 ≤ m → 1 ≤ n → m - 1 ≡ n - 1 → m ≡ n
number_of m n low_m low_n same = omega arith

-- a prefix is that of one peer
one_peer : (peers : List PeerConfig) → IsChecked peers → (prefix : GuidPrefix) (a b : ℕ) (p q : PeerConfig)
    → IsNumbered peers a p → IsNumbered peers b q → p.prefix ≡ prefix → q.prefix ≡ prefix
    → (a ≡ b) × (p ≡ q)
one_peer peers good prefix a b p q at_a at_b of_p of_q =
    let is_prefix : PeerConfig → Bool = λ x. same_prefix x.prefix prefix in
    let once =
    one_of_each same_prefix (λ (x : PeerConfig). x.prefix) peers
    (λ x y. (prefix-Decides x y).0) good.prefixes prefix in
    let places : a - 1 ≡ b - 1 =
    one_place is_prefix peers (a - 1) (b - 1) p q once at_a.1 at_b.1 ((prefix-Decides p.prefix prefix).1 of_p)
    ((prefix-Decides q.prefix prefix).1 of_q) in
    let there : slice_get peers (b - 1) ≡ Some p = subst (λ (n : ℕ). slice_get peers n ≡ Some p) places at_a.1 in
    (number_of a b at_a.0 at_b.0 places, same_Some p q (sym there ∙ at_b.1))

-- an entity that stands once among these ends of each peer is, with its prefix, that of one of them
pub one_end : {E : Type 0} (entity_of : E → EntityId) (ends_of : PeerConfig → List E) (peers : List PeerConfig)
    → IsChecked peers → (prefix : GuidPrefix) (entity : EntityId) (a b : Endpoint) (p q : PeerConfig) (x y : E)
    → ((i : ℕ) (o : PeerConfig) → slice_get peers i ≡ Some o
    → count_by (λ e. same_entity (entity_of e) entity) (ends_of o) ≤ 1)
    → IsNumbered peers a.peer p → IsNumbered peers b.peer q → p.prefix ≡ prefix → q.prefix ≡ prefix
    → IsNumbered (ends_of p) a.number x → IsNumbered (ends_of q) b.number y → entity_of x ≡ entity
    → entity_of y ≡ entity → a ≡ b
one_end {E} entity_of ends_of peers good prefix entity a b p q x y once at_p at_q of_p of_q at_x at_y of_x of_y =
    let peer = one_peer peers good prefix a.peer b.peer p q at_p at_q of_p of_q in
    let within : IsNumbered (ends_of q) a.number x =
    subst (λ (o : PeerConfig). IsNumbered (ends_of o) a.number x) peer.1 at_x in
    let is_entity : E → Bool = λ e. same_entity (entity_of e) entity in
    let places : a.number - 1 ≡ b.number - 1 =
    one_place is_entity (ends_of q) (a.number - 1) (b.number - 1) x y (once (b.peer - 1) q at_q.1) within.1 at_y.1
    ((entity-Decides (entity_of x) entity).1 of_x) ((entity-Decides (entity_of y) entity).1 of_y) in
    same_endpoints a b peer.0 (number_of a.number b.number within.0 at_y.0 places)

-- an entity is that of one reader of a peer at most
pub reader_once : (peers : List PeerConfig) → IsChecked peers → (i : ℕ) (p : PeerConfig) → slice_get peers i ≡ Some p
    → (entity : EntityId)
    → count_by (λ (r : ReaderConfig). same_entity r.entity entity) p.readers ≤ 1
reader_once peers good i p at entity =
    one_of_each same_entity (λ (r : ReaderConfig). r.entity) p.readers (λ a b. (entity-Decides a b).0)
    (λ j r within. let all = good.readers i p at j r within in omega arith) entity
