-- All claims are true at the opening: a matched writer and reader have rows on both sides.
use Rattle.std.specs.Option.{option_map}
use Rattle.std.proofs.Common.{◌≡◌, ℕ, Option, Some, None, zero, suc, ◌+◌, ◌<◌, ◌≤◌, ◌==◌, ◌⊎◌, ◌&&◌, Bool, true, false, cond, List, [], ◌∷◌, ◌++◌, refl, subst, ap, sym, ◌∙◌, inl, inr, ⊎_elim, arith, length, get_or, map, slice_get, eq-eqb, eqb-true, Contains, ◌-◌}
use Rattle.std.proofs.lemmas.Option.{same_Some}
use Rattle.dds_base.specs.declared.config.Config.{Config}
use Rattle.dds_base.specs.declared.config.PeerConfig.{PeerConfig}
use Rattle.dds_base.specs.declared.config.WriterConfig.{WriterConfig}
use Rattle.dds_base.specs.declared.config.ReaderConfig.{ReaderConfig}
use Rattle.dds_base.specs.declared.endpoint.Endpoint.{Endpoint}
use Rattle.dds_machine.specs.Numbered.{numbered, HasNumber}
use Rattle.dds_machine.specs.Part.{Begun, row_of, NoLess, IsAtMost, same_endpoint, ReaderProxy, WriterProxy, Part, Reader, no_part, no_reader, no_writer, own_reader, own_writer, own_proxies, acknowledged_of, owed_from, place_of}
use Rattle.dds_protocol.specs.Peer.{Peer, Delivery, no_peer}
use Rattle.dds_machine.specs.Machine.{Machine, part_at, place_at, writer_at}
use Rattle.dds_protocol.specs.World.{machine_of}
use Rattle.dds_base.specs.declared.qos.ReliabilityQos.{ReliabilityQos}
use Rattle.dds_base.specs.Matched.{same_topic, is_reliable, is_reliable_reader}
use Rattle.dds_base.specs.MatchedAt.{of_readers_in, of_writers_in}
use Rattle.dds_protocol.proofs.Owing.{covered_below}
use Rattle.dds_protocol.proofs.Ways.{both_true}
use Rattle.dds_machine.specs.Opening.{reliable_readers, matched_writers, opening, opening_part, opening_reader, opening_writer}
use Rattle.dds_protocol.specs.Claims.{IsNumbered}
use Rattle.dds_protocol.specs.Coming.{OpensSoundFirst}
use Rattle.dds_protocol.specs.Laws.{OpensSound}
use Rattle.dds_protocol.specs.Opening.{opening_peers, opening_world}
use Rattle.dds_protocol.specs.Roster.{ComeFirst}
use Rattle.dds_protocol.proofs.Listed.{lists_reader, numbered_first, reliable_is}
use Rattle.dds_machine.proofs.Tables.{append_nothing, same_is}

-- ---- the parts of the network at its opening

opened_parts : (all ps : List PeerConfig) (n : ℕ)
    → map (λ (p : Peer). p.part) (opening_peers all n ps) ≡ map (opening_part all) ps
opened_parts all [] n = refl
opened_parts all (p ∷ ps) n = ap (λ (parts : List Part). opening_part all p ∷ parts) (opened_parts all ps (n + 1))

-- the machine at its opening is that of which the opened peers are the parts
pub opening_is : (config : Config) → machine_of (opening_world config) ≡ opening config
opening_is config = ap (λ (parts : List Part). let m : Machine = record { parts = parts } in m)
    (opened_parts config.peers config.peers 1)

-- ---- rows of matched writers and readers

-- the writers of the topic among these, of which the first has this number
abbrev pub writers_in : ℕ → ℕ → ℕ → List WriterConfig → List WriterProxy
writers_in topic peer number ws =
    of_writers_in (λ n w. record
    { writer = record { peer = peer; number = n }; place = 1; heard = None; how = Begun }) topic number ws

-- the readers of the topic among these, of which the first has this number
abbrev pub readers_in : ℕ → ℕ → ℕ → List ReaderConfig → List ReaderProxy
readers_in topic peer number rs =
    of_readers_in (λ n r. record { reader = record { peer = peer; number = n }; first = 1; acknowledged = 1 }) topic number rs

-- the topics of a list, of which one stands at this place, counted from 0
abbrev At : ℕ → List ℕ → ℕ → Type 0
At topic [] k = ⊥
At topic (t ∷ ts) zero = t ≡ topic
At topic (t ∷ ts) (suc k) = At topic ts k

abbrev writer_topics : List WriterConfig → List ℕ
writer_topics ws = map (λ (w : WriterConfig). w.topic) ws

abbrev reader_topics : List ReaderConfig → List ℕ
reader_topics rs = map (λ (r : ReaderConfig). r.topic) rs

-- a writer, or a reader, of the topic stands at this place of a peer at that place
abbrev WriterAt : ℕ → List PeerConfig → ℕ → ℕ → Type 0
WriterAt topic [] i k = ⊥
WriterAt topic (p ∷ ps) zero k = At topic (writer_topics p.writers) k
WriterAt topic (p ∷ ps) (suc i) k = WriterAt topic ps i k

abbrev ReaderAt : ℕ → List PeerConfig → ℕ → ℕ → Type 0
ReaderAt topic [] i k = ⊥
ReaderAt topic (p ∷ ps) zero k = At topic (reader_topics p.readers) k
ReaderAt topic (p ∷ ps) (suc i) k = ReaderAt topic ps i k

-- places of writers that are matched are 1

same_self : (peer number : ℕ) → same_endpoint (record { peer = peer; number = number })
    (record { peer = peer; number = number }) ≡ true
same_self peer number =
    ap (λ (b : Bool). cond b (number == number) false) (eq-eqb peer peer refl) ∙ eq-eqb number number refl

abbrev begun : ℕ → ℕ → WriterProxy
begun peer n = record { writer = record { peer = peer; number = n }; place = 1; heard = None; how = Begun }

abbrev places : Option WriterProxy → Option ℕ
places o = option_map (λ (p : WriterProxy). p.place) o

one_of : (c : Bool) (peer n : ℕ) (rest : Option WriterProxy) → places rest ≡ Some 1
    → places (cond c (Some (begun peer n)) rest) ≡ Some 1
one_of true peer n rest h = refl
one_of false peer n rest h = h

over_row : (b : Bool) (topic peer n : ℕ) (ws : List WriterConfig) (ys : List WriterProxy) (w : Endpoint)
    → place_of (writers_in topic peer (n + 1) ws ++ ys) w ≡ Some 1
    → place_of (cond b (begun peer n ∷ writers_in topic peer (n + 1) ws) (writers_in topic peer (n + 1) ws) ++ ys) w
    ≡ Some 1
over_row true topic peer n ws ys w h =
    one_of (same_endpoint (record { peer = peer; number = n }) w) peer n
    (row_of (λ (p : WriterProxy). p.writer) (writers_in topic peer (n + 1) ws ++ ys) w) h
over_row false topic peer n ws ys w h = h

over_writers : (topic peer n : ℕ) (ws : List WriterConfig) (ys : List WriterProxy) (w : Endpoint)
    → place_of ys w ≡ Some 1 → place_of (writers_in topic peer n ws ++ ys) w ≡ Some 1
over_writers topic peer n [] ys w h = h
over_writers topic peer n (x ∷ ws) ys w h =
    over_row (x.topic == topic) topic peer n ws ys w (over_writers topic peer (n + 1) ws ys w h)

place_here : (b : Bool) (peer n : ℕ) (rows ys : List WriterProxy) → b ≡ true
    → place_of (cond b (begun peer n ∷ rows) rows ++ ys) (record { peer = peer; number = n }) ≡ Some 1
place_here true peer n rows ys h =
    ap (λ (c : Bool). places
    (cond c (Some (begun peer n))
    (row_of (λ (p : WriterProxy). p.writer) (rows ++ ys) (record { peer = peer; number = n })))) (same_self peer n)
place_here false peer n rows ys h = cc

writer_placed : (topic peer n : ℕ) (ws : List WriterConfig) (ys : List WriterProxy) (k : ℕ)
    → At topic (writer_topics ws) k → place_of (writers_in topic peer n ws ++ ys)
    (record { peer = peer; number = n + k }) ≡ Some 1
writer_placed topic peer n [] ys k h = absurd h
writer_placed topic peer n (x ∷ ws) ys zero h =
    let number : n + 0 ≡ n = omega arith in
    subst (λ (m : ℕ). place_of (writers_in topic peer n (x ∷ ws) ++ ys) (record { peer = peer; number = m }) ≡ Some 1)
    (sym number)
    (place_here (x.topic == topic) peer n (writers_in topic peer (n + 1) ws) ys (eq-eqb x.topic topic h))
writer_placed topic peer n (x ∷ ws) ys (suc k) h =
    let number : n + 1 + k ≡ n + suc k = omega arith in
    over_row (x.topic == topic) topic peer n ws ys (record { peer = peer; number = n + suc k })
    (subst (λ (m : ℕ). place_of (writers_in topic peer (n + 1) ws ++ ys) (record { peer = peer; number = m })
    ≡ Some 1) number (writer_placed topic peer (n + 1) ws ys k h))

placed : (topic peer : ℕ) (ps : List PeerConfig) (i k : ℕ) → WriterAt topic ps i k
    → place_of (matched_writers topic peer ps) (record { peer = peer + i; number = 1 + k }) ≡ Some 1
placed topic peer [] i k h = absurd h
placed topic peer (p ∷ ps) zero k h =
    let here : peer + 0 ≡ peer = omega arith in
    subst (λ (j : ℕ). place_of (matched_writers topic peer (p ∷ ps)) (record { peer = j; number = 1 + k }) ≡ Some 1)
    (sym here) (writer_placed topic peer 1 p.writers (matched_writers topic (peer + 1) ps) k h)
placed topic peer (p ∷ ps) (suc i) k h =
    let here : peer + 1 + i ≡ peer + suc i = omega arith in
    over_writers topic peer 1 p.writers (matched_writers topic (peer + 1) ps)
    (record { peer = peer + suc i; number = 1 + k })
    (subst (λ (j : ℕ). place_of (matched_writers topic (peer + 1) ps) (record { peer = j; number = 1 + k })
    ≡ Some 1) here (placed topic (peer + 1) ps i k h))

-- an acknowledgement is 1 at a reader of the topic, and there is none at others

abbrev Found : ℕ → ℕ → ℕ → List ReaderConfig → Endpoint → Type 0
Found topic peer n rs r = (k : ℕ) × (r.peer ≡ peer) × (r.number ≡ n + k) × At topic (reader_topics rs) k

found_later : (topic peer n : ℕ) (x : ReaderConfig) (rs : List ReaderConfig) (r : Endpoint)
    → Found topic peer (n + 1) rs r → Found topic peer n (x ∷ rs) r
found_later topic peer n x rs r f = let e = f.2 in (suc f.0, f.1, omega (arith, e), f.3)

abbrev begun_reader : ℕ → ℕ → ReaderProxy
begun_reader peer n = record { reader = record { peer = peer; number = n }; first = 1; acknowledged = 1 }

abbrev acks : Option ReaderProxy → Option ℕ
acks o = option_map (λ (p : ReaderProxy). p.acknowledged) o

row_hit : (c : Bool) (peer n : ℕ) (rest : Option ReaderProxy) (F : Type 0) → (c ≡ true → F)
    → (acks (cond c (Some (begun_reader peer n)) rest) ≡ acks rest)
    ⊎ ((acks (cond c (Some (begun_reader peer n)) rest) ≡ Some 1) × F)
row_hit true peer n rest F f = inr (refl, f refl)
row_hit false peer n rest F f = inl refl

readers_row : (b : Bool) (topic peer n : ℕ) (x : ReaderConfig) (rs : List ReaderConfig) (ys : List ReaderProxy)
    (r : Endpoint) → (is_reliable_reader x && same_topic x.topic topic) ≡ b
    → (acknowledged_of (readers_in topic peer (n + 1) rs ++ ys) r ≡ acknowledged_of ys r)
    ⊎ ((acknowledged_of (readers_in topic peer (n + 1) rs ++ ys) r ≡ Some 1) × Found topic peer n (x ∷ rs) r)
    → (acknowledged_of (cond b (begun_reader peer n ∷ readers_in topic peer (n + 1) rs)
    (readers_in topic peer (n + 1) rs) ++ ys) r ≡ acknowledged_of ys r)
    ⊎ ((acknowledged_of (cond b (begun_reader peer n ∷ readers_in topic peer (n + 1) rs)
    (readers_in topic peer (n + 1) rs) ++ ys) r ≡ Some 1) × Found topic peer n (x ∷ rs) r)
readers_row true topic peer n x rs ys r is h =
    ⊎_elim (λ e. ⊎_elim (λ f. inl (e ∙ f)) (λ f. inr (e ∙ f.0, f.1)) h) (λ f. inr f)
    (row_hit (same_endpoint (record { peer = peer; number = n }) r) peer n
    (row_of (λ (p : ReaderProxy). p.reader) (readers_in topic peer (n + 1) rs ++ ys) r)
    (Found topic peer n (x ∷ rs) r)
    (λ s.
    let e = same_is (record { peer = peer; number = n }) r s in
    let number : r.number ≡ n = sym (ap (λ (q : Endpoint). q.number) e) in (
      0,
      sym (ap (λ (q : Endpoint). q.peer) e),
      omega (arith, number),
      eqb-true x.topic topic (both_true (is_reliable_reader x) (same_topic x.topic topic) is).1,
    )))
readers_row false topic peer n x rs ys r is h = h

readers_found : (topic peer n : ℕ) (rs : List ReaderConfig) (ys : List ReaderProxy) (r : Endpoint)
    → (acknowledged_of (readers_in topic peer n rs ++ ys) r ≡ acknowledged_of ys r)
    ⊎ ((acknowledged_of (readers_in topic peer n rs ++ ys) r ≡ Some 1) × Found topic peer n rs r)
readers_found topic peer n [] ys r = inl refl
readers_found topic peer n (x ∷ rs) ys r =
    let h : (acknowledged_of (readers_in topic peer (n + 1) rs ++ ys) r ≡ acknowledged_of ys r)
    ⊎ ((acknowledged_of (readers_in topic peer (n + 1) rs ++ ys) r ≡ Some 1) × Found topic peer (n + 1) rs r) =
    readers_found topic peer (n + 1) rs ys r in
    readers_row (is_reliable_reader x && same_topic x.topic topic) topic peer n x rs ys r refl (⊎_elim (λ e. inl e)
    (λ f. inr (f.0, found_later topic peer n x rs r f.1)) h)

abbrev FoundIn : ℕ → ℕ → List PeerConfig → Endpoint → Type 0
FoundIn topic peer ps r = (i : ℕ) × (k : ℕ) × (r.peer ≡ peer + i) × (r.number ≡ 1 + k) × ReaderAt topic ps i k

acknowledged_found : (topic peer : ℕ) (ps : List PeerConfig) (r : Endpoint)
    → (acknowledged_of (reliable_readers topic peer ps) r ≡ None)
    ⊎ ((acknowledged_of (reliable_readers topic peer ps) r ≡ Some 1) × FoundIn topic peer ps r)
acknowledged_found topic peer [] r = inl refl
acknowledged_found topic peer (p ∷ ps) r =
    let h : (acknowledged_of (reliable_readers topic (peer + 1) ps) r ≡ None)
    ⊎ ((acknowledged_of (reliable_readers topic (peer + 1) ps) r ≡ Some 1)
    × FoundIn topic (peer + 1) ps r) = acknowledged_found topic (peer + 1) ps r in
    ⊎_elim
    (λ e. ⊎_elim (λ z. inl (e ∙ z))
    (λ f. let here = f.1.2 in inr (e ∙ f.0, (suc f.1.0, f.1.1, omega (arith, here), f.1.3, f.1.4))) h)
    (λ f. let here = f.1.1 in inr (f.0, (0, f.1.0, omega (arith, here), f.1.2, f.1.3)))
    (readers_found topic peer 1 p.readers (reliable_readers topic (peer + 1) ps) r)

-- the peers of the opening, by their places, counted from 0

opening_number : (peers : List PeerConfig) (n : ℕ) (ps : List PeerConfig) (i : ℕ)
    → i < length (opening_peers peers n ps) → (get_or (opening_peers peers n ps) i no_peer).number ≡ n + i
opening_number peers n [] i lt = absurd (omega (arith, lt))
opening_number peers n (p ∷ ps) zero lt = omega arith
opening_number peers n (p ∷ ps) (suc i) lt =
    let e = opening_number peers (n + 1) ps i (omega (arith, lt)) in omega (arith, e)

pub opening_delivered : (peers : List PeerConfig) (n : ℕ) (ps : List PeerConfig) (i : ℕ)
    → (get_or (opening_peers peers n ps) i no_peer).delivered ≡ []
opening_delivered peers n [] i = refl
opening_delivered peers n (p ∷ ps) zero = refl
opening_delivered peers n (p ∷ ps) (suc i) = opening_delivered peers (n + 1) ps i

-- a writer's rows are those of its topic, or there is no such writer
abbrev RowsOf : List PeerConfig → List PeerConfig → ℕ → ℕ → List ReaderProxy → Type 0
RowsOf peers ps i k rows = (rows ≡ []) ⊎ ((topic : ℕ) × WriterAt topic ps i k × (rows ≡ reliable_readers topic 1 peers))

own_rows : (peers : List PeerConfig) (ws : List WriterConfig) (k : ℕ)
    → ((get_or (map (opening_writer peers) ws) k no_writer).readers ≡ [])
    ⊎ ((topic : ℕ) × At topic (writer_topics ws) k
    × ((get_or (map (opening_writer peers) ws) k no_writer).readers ≡ reliable_readers topic 1 peers))
own_rows peers [] k = inl refl
own_rows peers (w ∷ ws) zero = inr (w.topic, refl, refl)
own_rows peers (w ∷ ws) (suc k) = own_rows peers ws k

abbrev part_in : List PeerConfig → ℕ → List PeerConfig → ℕ → Part
part_in peers n ps i = get_or (map (λ (p : Peer). p.part) (opening_peers peers n ps)) i no_part

writer_rows : (peers : List PeerConfig) (n : ℕ) (ps : List PeerConfig) (i k : ℕ)
    → RowsOf peers ps i k (own_writer (part_in peers n ps i) (suc k)).readers
writer_rows peers n [] i k = inl refl
writer_rows peers n (p ∷ ps) zero k = own_rows peers p.writers k
writer_rows peers n (p ∷ ps) (suc i) k = writer_rows peers (n + 1) ps i k

own_places : (peers : List PeerConfig) (topic : ℕ) (rs : List ReaderConfig) (k : ℕ) → At topic (reader_topics rs) k
    → get_or (map (λ (r : ReaderConfig). matched_writers r.topic 1 peers) rs) k [] ≡ matched_writers topic 1 peers
own_places peers topic [] k h = absurd h
own_places peers topic (r ∷ rs) zero h = ap (λ (t : ℕ). matched_writers t 1 peers) h
own_places peers topic (r ∷ rs) (suc k) h = own_places peers topic rs k h

reader_rows : (peers : List PeerConfig) (topic n : ℕ) (ps : List PeerConfig) (i k : ℕ) → ReaderAt topic ps i k
    → own_proxies (part_in peers n ps i) (suc k) ≡ matched_writers topic 1 peers
reader_rows peers topic n [] i k h = absurd h
reader_rows peers topic n (p ∷ ps) zero k h = own_places peers topic p.readers k h
reader_rows peers topic n (p ∷ ps) (suc i) k h = reader_rows peers topic (n + 1) ps i k h

-- an acknowledgement is at most the place, by the places of the ends

abbrev opened : List PeerConfig → Machine
opened peers = machine_of (opening_world (record { peers = peers }))

one_of_both : (a b : Option ℕ) → a ≡ Some 1 → b ≡ Some 1 → NoLess a b
one_of_both a b f g =
    subst (λ (o : Option ℕ). NoLess o b) (sym f)
    (subst (λ (o : Option ℕ). IsAtMost 1 o) (sym g) (let le : 1 ≤ 1 = omega arith in le))

below : (peers : List PeerConfig) (i k : ℕ) (r : Endpoint)
    → NoLess (acknowledged_of (own_writer (part_in peers 1 peers i) (suc k)).readers r)
    (place_at (opened peers) r (record { peer = suc i; number = suc k }))
below peers i k r =
    let w : Endpoint = record { peer = suc i; number = suc k } in
    ⊎_elim (λ e. subst (λ (rows : List ReaderProxy). NoLess (acknowledged_of rows r) (place_at (opened peers) r w))
    (sym e) tt)
    (λ h.
    let z = ap (λ (rows : List ReaderProxy). acknowledged_of rows r) h.2 in
    ⊎_elim (λ nothing. subst (λ (o : Option ℕ). NoLess o (place_at (opened peers) r w)) (sym (z ∙ nothing)) tt)
    (λ f.
    let peer : r.peer ≡ suc f.1.0 = let e = f.1.2 in omega (arith, e) in
    let number : r.number ≡ suc f.1.1 = let e = f.1.3 in omega (arith, e) in
    let reader : place_at (opened peers) r w ≡ place_of (own_proxies (part_in peers 1 peers f.1.0) (suc f.1.1)) w =
    ap (λ (j : ℕ). place_of (own_proxies (part_at (opened peers) j) r.number) w) peer
    ∙ ap (λ (j : ℕ). place_of (own_proxies (part_in peers 1 peers f.1.0) j) w) number in
    let rows = ap (λ (xs : List WriterProxy). place_of xs w) (reader_rows peers h.0 1 peers f.1.0 f.1.1 f.1.4) in
    let here : 1 + i ≡ suc i = omega arith in
    let there : 1 + k ≡ suc k = omega arith in
    let writer : place_of (matched_writers h.0 1 peers) w ≡ Some 1 =
    subst (λ (j : ℕ). place_of (matched_writers h.0 1 peers) (record { peer = j; number = suc k }) ≡ Some 1) here
    (subst (λ (j : ℕ). place_of (matched_writers h.0 1 peers) (record { peer = 1 + i; number = j }) ≡ Some 1) there
    (placed h.0 1 peers i k h.1)) in
    one_of_both (acknowledged_of (own_writer (part_in peers 1 peers i) (suc k)).readers r) (place_at (opened peers) r w)
    (z ∙ f.0) (reader ∙ (rows ∙ writer)))
    (acknowledged_found h.0 1 peers r))
    (writer_rows peers 1 peers i k)

pub opening_acknowledged : (peers : List PeerConfig) (peer number : ℕ) (r : Endpoint)
    → NoLess (acknowledged_of (own_writer (part_at (opened peers) peer) number).readers r)
    (place_at (opened peers) r (record { peer = peer; number = number }))
opening_acknowledged peers zero zero r = tt
opening_acknowledged peers zero (suc k) r = tt
opening_acknowledged peers (suc i) zero r = tt
opening_acknowledged peers (suc i) (suc k) r = below peers i k r

no_deliveries : (peers : List PeerConfig) (i : ℕ) (d : Delivery)
    → Contains (numbered (opening_peers peers 1 peers) i no_peer).delivered d → ⊥
no_deliveries peers zero d c = absurd (omega (arith, c.1))
no_deliveries peers (suc i) d c =
    let n = ap (λ (xs : List Delivery). length xs) (opening_delivered peers 1 peers i) in absurd (omega (arith, n, c.1))

pub opening_numbers : (peers : List PeerConfig) (i : ℕ) → HasNumber (opening_peers peers 1 peers) i
    → (numbered (opening_peers peers 1 peers) i no_peer).number ≡ i
opening_numbers peers zero h = absurd (omega (arith, h.0))
opening_numbers peers (suc i) h =
    let high = h.1 in let e = opening_number peers 1 peers i (omega (arith, high)) in omega (arith, e)

-- the policies of readers are those of the roster

pub mapped_is : {X Y : Type 0} (f : X → Y) (xs : List X) (n : ℕ) (x : X) (d : Y) → 1 ≤ n → slice_get xs (n - 1) ≡ Some x
    → numbered (map f xs) n d ≡ f x
mapped_is f xs zero x d low h = absurd (omega (arith, low))
mapped_is {X = X} {Y = Y} f xs (suc i) x d low h = get_is xs i (ap (λ (k : ℕ). slice_get xs k) (omega arith) ∙ h)
  where
    get_is : (ys : List X) (k : ℕ) → slice_get ys k ≡ Some x → get_or (map f ys) k d ≡ f x
    get_is [] k h = cc
    get_is (y ∷ ys) zero h = ap f (same_Some y x h)
    get_is (y ∷ ys) (suc k) h = get_is ys k h

pub opened_count : (all ps : List PeerConfig) (n : ℕ) → length (opening_peers all n ps) ≡ length ps
opened_count all [] n = refl
opened_count all (p ∷ ps) n = let e = opened_count all ps (n + 1) in omega (arith, e)

-- a number of the opening is one of the configuration
pub opened_number : (config : Config) (n : ℕ) → HasNumber (opening_world config).peers n → HasNumber config.peers n
opened_number config n there =
    let high = there.1 in
    let count = opened_count config.peers config.peers 1 in
    (there.0, omega (arith, high, count))

opening_policies : (config : Config) (i k : ℕ) (p : PeerConfig) (r : ReaderConfig) → IsNumbered config.peers i p
    → IsNumbered p.readers k r → (own_reader (part_at (opening config) i) k).qos.reliability ≡ r.reliability
opening_policies config i k p r here there =
    ap (λ (q : Part). (own_reader q k).qos.reliability)
    (mapped_is (opening_part config.peers) config.peers i p no_part here.0 here.1)
    ∙ ap (λ (x : Reader). x.qos.reliability)
    (mapped_is (opening_reader config.peers) p.readers k r no_reader there.0 there.1)

pub opens_sound_first : OpensSoundFirst
opens_sound_first config roster first = record {
  number = opening_numbers config.peers;
  sent = λ p c d h. absurd (omega (arith, d.1));
  delivered = λ i d c o h. absurd (no_deliveries config.peers i d o);
  acknowledged = λ w r.
      let m : Machine = machine_of (opening_world config) in
      covered_below (acknowledged_of (writer_at m w).readers r) (place_at m r w) (owed_from (writer_at m w) r)
      (opening_acknowledged config.peers w.peer w.number r);
  policies = λ r entity lt at.
      let x = lists_reader roster r entity at in
      let here = numbered_first config roster first r.peer x.stands.peer (opened_number config r.peer lt)
      x.stands.at_peer in
      ap (λ (m : Machine). is_reliable (own_reader (part_at m r.peer) r.number).qos.reliability) (opening_is config)
      ∙ (ap (λ (q : ReliabilityQos). is_reliable q)
      (opening_policies config r.peer r.number x.stands.peer x.end here x.stands.at_end)
      ∙ sym (reliable_is roster r x.stands.peer x.end x.stands.at_peer x.stands.at_end));
}

-- a configuration comes first in itself
pub all_first : (config : Config) → ComeFirst config config
all_first config = ([], sym (append_nothing config.peers))

pub opens_sound : OpensSound
opens_sound config = opens_sound_first config config (all_first config)
