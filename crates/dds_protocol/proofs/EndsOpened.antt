-- At the opening a writer has a row for each reliable reader that has a place in its list, and each of these has one.
use Rattle.std.proofs.Common.{◌≡◌, ◌⊎◌, ℕ, zero, suc, ◌+◌, ◌-◌, ◌≤◌, ◌==◌, Bool, true, false, cond, get_or, map, List, [], ◌∷◌, ◌++◌, Option, None, Some, Contains, refl, subst, ap, sym, ◌∙◌, inl, inr, ⊎_elim, arith, slice_get, eqb-true}
use Rattle.std.specs.Prelude.{IsSome, is_some}
use Rattle.std.specs.Option.{option_map}
use Rattle.dds_base.specs.declared.config.Config.{Config}
use Rattle.dds_base.specs.declared.config.PeerConfig.{PeerConfig}
use Rattle.dds_base.specs.declared.config.ReaderConfig.{ReaderConfig}
use Rattle.dds_base.specs.declared.config.WriterConfig.{WriterConfig}
use Rattle.dds_base.specs.Matched.{is_reliable, is_reliable_reader}
use Rattle.dds_base.specs.declared.endpoint.Endpoint.{Endpoint}
use Rattle.dds_machine.specs.Machine.{Machine, part_at, place_at, writer_at}
use Rattle.dds_machine.specs.Numbered.{numbered}
use Rattle.dds_machine.specs.Opening.{matched_writers, opening, opening_part, opening_reader}
use Rattle.dds_machine.specs.Part.{Begun, IsAtMost, NoLess, Part, Reader, ReaderProxy, WriterProxy, acknowledged_of, no_part, no_reader, own_proxies, own_reader, own_writer, place_of, row_of, same_endpoint}
use Rattle.dds_protocol.specs.Claims.{IsNumbered}
use Rattle.dds_protocol.specs.Opening.{opening_world}
use Rattle.dds_protocol.specs.Peer.{no_peer}
use Rattle.dds_protocol.specs.World.{machine_of}
use Rattle.dds_machine.proofs.Tables.{same_is}
use Rattle.dds_protocol.proofs.Bounded.{opened_is_fresh}
use Rattle.dds_protocol.proofs.Composed.{parts_at}
use Rattle.dds_protocol.proofs.CountsOpened.{rows_opened}
use Rattle.dds_protocol.proofs.DuesMatched.{in_peers, name_at, names, row_found}
use Rattle.dds_protocol.proofs.Opened.{mapped_is, opening_acknowledged, opening_is, writers_in}
use Rattle.dds_protocol.proofs.OpenedPeers.{fresh_place}
use Rattle.dds_protocol.proofs.OwnGuids.{same_endpoints}

-- ---- the reader

-- a reader of these peers that knows the writer
record HasReader (all ps : List PeerConfig) (i k : ℕ) (w : Endpoint) : Type 0 where
  peer : PeerConfig
  at_peer : slice_get ps i ≡ Some peer
  reader : ReaderConfig
  at_reader : slice_get peer.readers k ≡ Some reader
  placed : IsSome (place_of (matched_writers reader.topic 1 all) w)

a_reader : (all ps : List PeerConfig) (i k : ℕ) (w : Endpoint)
    → IsSome (place_of (own_proxies (get_or (map (opening_part all) ps) i no_part) (suc k)) w)
    → HasReader all ps i k w
a_reader all [] i k w h = cc
a_reader all (p ∷ ps) zero k w h =
    let found = within p.readers k h in
    record { peer = p; at_peer = refl; reader = found.0; at_reader = found.1; placed = found.2 }
  where
    within : (rs : List ReaderConfig) (j : ℕ)
        → IsSome (place_of (get_or (map (λ (r : ReaderConfig). matched_writers r.topic 1 all) rs) j []) w)
        → (r : ReaderConfig) × (slice_get rs j ≡ Some r) × IsSome (place_of (matched_writers r.topic 1 all) w)
    within [] j h = cc
    within (r ∷ rs) zero h = (r, refl, h)
    within (r ∷ rs) (suc j) h = within rs j h
a_reader all (p ∷ ps) (suc i) k w h =
    let r = a_reader all ps i k w h in
    record {
      peer = r.peer;
      at_peer = r.at_peer;
      reader = r.reader;
      at_reader = r.at_reader;
      placed = r.placed;
    }

-- ---- the writer

some_either : (xs ys : List WriterProxy) (w : Endpoint) → IsSome (place_of (xs ++ ys) w)
    → IsSome (place_of xs w) ⊎ IsSome (place_of ys w)
some_either [] ys w h = inr h
some_either (x ∷ xs) ys w h = by (same_endpoint x.writer w) h (λ k. some_either xs ys w k)
  where
    there : Bool → List WriterProxy → Option ℕ
    there b rows = option_map (λ (p : WriterProxy). p.place)
        (cond b (Some x) (row_of (λ (p : WriterProxy). p.writer) rows w))

    by : (b : Bool) → IsSome (there b (xs ++ ys))
        → (IsSome (place_of (xs ++ ys) w) → IsSome (place_of xs w) ⊎ IsSome (place_of ys w))
        → IsSome (there b xs) ⊎ IsSome (place_of ys w)
    by true k rest = inl refl
    by false k rest = rest k

record IsEnd (topic peer n : ℕ) (ws : List WriterConfig) (w : Endpoint) : Type 0 where
  index : ℕ
  end : WriterConfig
  at : slice_get ws index ≡ Some end
  of : end.topic ≡ topic
  peer_is : peer ≡ w.peer
  number_is : n + index ≡ w.number

abbrev begun : ℕ → ℕ → WriterProxy
begun peer n = record { writer = record { peer = peer; number = n }; place = 1; heard = None; how = Begun }

an_end : (topic peer n : ℕ) (ws : List WriterConfig) (w : Endpoint)
    → IsSome (place_of (writers_in topic peer n ws) w) → IsEnd topic peer n ws w
an_end topic peer n [] w h = cc
an_end topic peer n (x ∷ ws) w h =
    by (x.topic == topic) refl h (λ k. later (an_end topic peer (n + 1) ws w k))
  where
    rest : List WriterProxy
    rest = writers_in topic peer (n + 1) ws

    later : IsEnd topic peer (n + 1) ws w → IsEnd topic peer n (x ∷ ws) w
    later e =
        let number = e.number_is in
        record {
          index = suc e.index;
          end = e.end;
          at = e.at;
          of = e.of;
          peer_is = e.peer_is;
          number_is = omega (arith, number);
        }

    here : (c : Bool) → same_endpoint (record { peer = peer; number = n }) w ≡ c → x.topic ≡ topic
        → IsSome (option_map (λ (p : WriterProxy). p.place)
        (cond c (Some (begun peer n)) (row_of (λ (p : WriterProxy). p.writer) rest w)))
        → (IsSome (place_of rest w) → IsEnd topic peer n (x ∷ ws) w) → IsEnd topic peer n (x ∷ ws) w
    here true e of k next =
        let same = same_is (record { peer = peer; number = n }) w e in
        let number : n ≡ w.number = ap (λ (q : Endpoint). q.number) same in
        record {
          index = 0;
          end = x;
          at = refl;
          of = of;
          peer_is = ap (λ (q : Endpoint). q.peer) same;
          number_is = omega (arith, number);
        }
    here false e of k next = next k

    by : (b : Bool) → (x.topic == topic) ≡ b → IsSome (place_of (cond b (begun peer n ∷ rest) rest) w)
        → (IsSome (place_of rest w) → IsEnd topic peer n (x ∷ ws) w) → IsEnd topic peer n (x ∷ ws) w
    by true e k next =
        here (same_endpoint (record { peer = peer; number = n }) w) refl (eqb-true x.topic topic e) k next
    by false e k next = next k

record IsEndOf (topic n : ℕ) (ps : List PeerConfig) (w : Endpoint) : Type 0 where
  index : ℕ
  peer : PeerConfig
  at : slice_get ps index ≡ Some peer
  end : IsEnd topic (n + index) 1 peer.writers w

an_end_of : (topic n : ℕ) (ps : List PeerConfig) (w : Endpoint) → IsSome (place_of (matched_writers topic n ps) w)
    → IsEndOf topic n ps w
an_end_of topic n [] w h = cc
an_end_of topic n (p ∷ ps) w h =
    ⊎_elim
    (λ here.
    let first : n ≡ n + 0 = omega arith in
    record {
      index = 0;
      peer = p;
      at = refl;
      end = subst (λ (m : ℕ). IsEnd topic m 1 p.writers w) first (an_end topic n 1 p.writers w here);
    })
    (λ later.
    let e = an_end_of topic (n + 1) ps w later in
    let k = e.index in
    let over : n + 1 + k ≡ n + suc k = omega arith in
    record {
      index = suc e.index;
      peer = e.peer;
      at = e.at;
      end = subst (λ (m : ℕ). IsEnd topic m 1 e.peer.writers w) over e.end;
    })
    (some_either (writers_in topic n 1 p.writers) (matched_writers topic (n + 1) ps) w h)

-- ---- the row

opened_rows : (config : Config) (w : Endpoint) (i k : ℕ)
    → IsSome (place_of (own_proxies (part_at (opening config) (suc i)) (suc k)) w)
    → is_reliable (own_reader (part_at (opening config) (suc i)) (suc k)).qos.reliability ≡ true
    → IsSome (acknowledged_of (writer_at (opening config) w).readers (record { peer = suc i; number = suc k }))
opened_rows config w i k placed reliable = row
  where
    r : Endpoint
    r = record { peer = suc i; number = suc k }

    reader : HasReader config.peers config.peers i k w
    reader = a_reader config.peers config.peers i k w placed

    end : IsEndOf reader.reader.topic 1 config.peers w
    end = an_end_of reader.reader.topic 1 config.peers w reader.placed

    is_reliable_one : is_reliable_reader reader.reader ≡ true
    is_reliable_one =
        let low : 1 ≤ suc i = omega arith in
        let least : 1 ≤ suc k = omega arith in
        let index : i ≡ suc i - 1 = omega arith in
        let place : k ≡ suc k - 1 = omega arith in
        let part : part_at (opening config) (suc i) ≡ opening_part config.peers reader.peer =
        mapped_is (opening_part config.peers) config.peers (suc i) reader.peer no_part low
        (subst (λ (j : ℕ). slice_get config.peers j ≡ Some reader.peer) index reader.at_peer) in
        let own : numbered (map (opening_reader config.peers) reader.peer.readers) (suc k) no_reader
        ≡ opening_reader config.peers reader.reader =
        mapped_is (opening_reader config.peers) reader.peer.readers (suc k) reader.reader no_reader least
        (subst (λ (j : ℕ). slice_get reader.peer.readers j ≡ Some reader.reader) place reader.at_reader) in
        sym (ap (λ (q : Part). is_reliable (own_reader q (suc k)).qos.reliability) part
        ∙ ap (λ (x : Reader). is_reliable x.qos.reliability) own) ∙ reliable

    named : Contains (names end.end.end.topic 1 config.peers) r
    named =
        let topic : ℕ = end.end.end.topic in
        subst (λ (e : Endpoint). Contains (names topic 1 config.peers) e)
        (same_endpoints (name_at (1 + i) (1 + k)) r (omega arith) (omega arith))
        (in_peers topic 1 config.peers i reader.peer k reader.reader reader.at_peer reader.at_reader (sym end.end.of)
        is_reliable_one)

    at_peer : IsNumbered config.peers w.peer end.peer
    at_peer =
        let number = end.end.peer_is in
        let j = end.index in
        let index : j ≡ w.peer - 1 = omega (arith, number) in
        (omega (arith, number), subst (λ (m : ℕ). slice_get config.peers m ≡ Some end.peer) index end.at)

    at_writer : IsNumbered end.peer.writers w.number end.end.end
    at_writer =
        let number = end.end.number_is in
        let j = end.end.index in
        let index : j ≡ w.number - 1 = omega (arith, number) in
        (omega (arith, number), subst (λ (m : ℕ). slice_get end.peer.writers m ≡ Some end.end.end) index end.end.at)

    part : part_at (opening config) w.peer ≡ opening_part config.peers end.peer
    part = mapped_is (opening_part config.peers) config.peers w.peer end.peer no_part at_peer.0 at_peer.1

    rows : map (λ (p : ReaderProxy). p.reader) (writer_at (opening config) w).readers
        ≡ names end.end.end.topic 1 config.peers
    rows =
        ap (λ (q : Part). map (λ (p : ReaderProxy). p.reader) (own_writer q w.number).readers) part
        ∙ rows_opened config.peers end.peer w.number end.end.end at_writer

    row : IsSome (acknowledged_of (writer_at (opening config) w).readers r)
    row =
        let found = row_found (writer_at (opening config) w).readers r
        (subst (λ (es : List Endpoint). Contains es r) (sym rows) named) in
        ap (λ (o : Option ℕ). is_some o) found.1

pub opens_rows : (config : Config) (w r : Endpoint) → IsSome (place_at (opening config) r w)
    → is_reliable (own_reader (part_at (opening config) r.peer) r.number).qos.reliability ≡ true
    → IsSome (acknowledged_of (writer_at (opening config) w).readers r)
opens_rows config w r = by r.peer r.number
  where
    by : (i k : ℕ) → IsSome (place_of (own_proxies (part_at (opening config) i) k) w)
        → is_reliable (own_reader (part_at (opening config) i) k).qos.reliability ≡ true
        → IsSome (acknowledged_of (writer_at (opening config) w).readers (record { peer = i; number = k }))
    by zero zero placed reliable = cc
    by zero (suc k) placed reliable = cc
    by (suc i) zero placed reliable = cc
    by (suc i) (suc k) placed reliable = opened_rows config w i k placed reliable

-- ---- the place

at_least_one : (a place : Option ℕ) → ((p : ℕ) → place ≡ Some p → 1 ≡ p) → NoLess a place → IsSome a
    → IsAtMost 1 place
at_least_one None place one n h = cc
at_least_one (Some a) None one n h = absurd n
at_least_one (Some a) (Some p) one n h = let e = one p refl in omega (arith, e)

opened_places : (config : Config) (w r : Endpoint)
    → IsSome (acknowledged_of (writer_at (machine_of (opening_world config)) w).readers r)
    → IsAtMost 1 (place_at (machine_of (opening_world config)) r w)
opened_places config w r has =
    let m : Machine = machine_of (opening_world config) in
    at_least_one (acknowledged_of (writer_at m w).readers r) (place_at m r w)
    (λ p e. fresh_place (own_proxies (numbered (opening_world config).peers r.peer no_peer).part r.number) w p
    ((opened_is_fresh config r.peer).proxies r.number)
    (sym (ap (λ (q : Part). place_of (own_proxies q r.number) w) (parts_at (opening_world config) r.peer)) ∙ e))
    (opening_acknowledged config.peers w.peer w.number r) has

pub opens_places : (config : Config) (w r : Endpoint)
    → IsSome (acknowledged_of (writer_at (opening config) w).readers r) → IsAtMost 1 (place_at (opening config) r w)
opens_places config w r =
    subst (λ (m : Machine). IsSome (acknowledged_of (writer_at m w).readers r) → IsAtMost 1 (place_at m r w))
    (opening_is config) (opened_places config w r)
