-- At the opening a peer knows nothing, so all that it knows is what was claimed: nothing was heard of a matched writer.
use Rattle.std.proofs.Common.{◌≡◌, ℕ, ℤ, zero, suc, ◌+◌, ◌<◌, ◌==◌, nat_lt, Bool, true, false, cond, Option, Some, None, List, [], ◌∷◌, ◌++◌, refl, subst, ap, sym, ◌∙◌, arith, map, get_or}
use Rattle.std.specs.Option.{option_map}
use Rattle.std.proofs.lemmas.Bool.Decides.{nat_tests}
use Rattle.std.proofs.lemmas.Option.{same_Some}
use Rattle.dds_base.specs.declared.config.Config.{Config}
use Rattle.dds_base.specs.declared.config.PeerConfig.{PeerConfig}
use Rattle.dds_base.specs.declared.config.WriterConfig.{WriterConfig}
use Rattle.dds_base.specs.declared.config.ReaderConfig.{ReaderConfig}
use Rattle.rtps_reader.specs.Tracked.{is_passable}
use Rattle.dds_base.specs.declared.endpoint.Endpoint.{Endpoint}
use Rattle.dds_machine.specs.Numbered.{numbered}
use Rattle.dds_machine.specs.Part.{Begun, row_of, same_endpoint, WriterProxy, own_proxies, place_of, heard_of}
use Rattle.dds_protocol.specs.Peer.{Peer, Delivery, no_peer, state_of, packets_of}
use Rattle.dds_protocol.specs.Protocol.{Known, knows_nothing}
use Rattle.dds_machine.specs.Opening.{matched_writers}
use Rattle.dds_protocol.specs.Laws.{OpensBacked}
use Rattle.dds_protocol.specs.Opening.{opening_peers}
use Rattle.dds_protocol.specs.Backed.{IsBacked}
use Rattle.dds_protocol.specs.Roster.{Roster}
use Rattle.dds_protocol.proofs.Opened.{opening_delivered, writers_in}

-- no change of these writers has come, and nothing was heard
abbrev pub AreFresh : List WriterProxy → Type 0
AreFresh [] = Unit {0}
AreFresh (p ∷ ps) = (p.place ≡ 1) × (p.heard ≡ None) × AreFresh ps

-- the first row of a writer
abbrev row : List WriterProxy → Endpoint → Option WriterProxy
row rows w = row_of (λ (p : WriterProxy). p.writer) rows w

pub fresh_place : (rows : List WriterProxy) (w : Endpoint) (n : ℕ) → AreFresh rows → place_of rows w ≡ Some n → 1 ≡ n
fresh_place [] w n f h = absurd cc
fresh_place (p ∷ ps) w n f h = by (same_endpoint p.writer w) (λ e. fresh_place ps w n f.2 e) h
  where
    by : (b : Bool) → (place_of ps w ≡ Some n → 1 ≡ n)
        → option_map (λ (x : WriterProxy). x.place) (cond b (Some p) (row ps w)) ≡ Some n
        → 1 ≡ n
    by true later e = sym f.0 ∙ same_Some p.place n e
    by false later e = later e

fresh_heard : (rows : List WriterProxy) (w : Endpoint) (count : ℤ) → AreFresh rows
    → heard_of rows w ≡ Some (Some count) → ⊥
fresh_heard [] w count f h = absurd cc
fresh_heard (p ∷ ps) w count f h = by (same_endpoint p.writer w) (λ e. fresh_heard ps w count f.2 e) h
  where
    by : (b : Bool) → (heard_of ps w ≡ Some (Some count) → ⊥)
        → option_map (λ (x : WriterProxy). x.heard) (cond b (Some p) (row ps w)) ≡ Some (Some count) → ⊥
    by true later e = let some = sym f.1 ∙ same_Some p.heard (Some count) e in absurd cc
    by false later e = later e

fresh_or : (b : Bool) (p : WriterProxy) (rows : List WriterProxy) → p.place ≡ 1 → p.heard ≡ None → AreFresh rows
    → AreFresh (cond b (p ∷ rows) rows)
fresh_or true p rows place heard f = (place, heard, f)
fresh_or false p rows place heard f = f

fresh_both : (xs ys : List WriterProxy) → AreFresh xs → AreFresh ys → AreFresh (xs ++ ys)
fresh_both [] ys f g = g
fresh_both (x ∷ xs) ys f g = (f.0, f.1, fresh_both xs ys f.2 g)

-- the proxy of a writer of which nothing was heard
abbrev begun : ℕ → ℕ → WriterProxy
begun peer n = record { writer = record { peer = peer; number = n }; place = 1; heard = None; how = Begun }

fresh_row : (topic peer n : ℕ) (ws : List WriterConfig) → AreFresh (writers_in topic peer n ws)
fresh_row topic peer n [] = tt
fresh_row topic peer n (x ∷ ws) =
    fresh_or (x.topic == topic) (begun peer n)
    (writers_in topic peer (n + 1) ws) refl refl (fresh_row topic peer (n + 1) ws)

pub fresh_rows : (topic peer : ℕ) (ps : List PeerConfig) → AreFresh (matched_writers topic peer ps)
fresh_rows topic peer [] = tt
fresh_rows topic peer (p ∷ ps) =
    let here : AreFresh (writers_in topic peer 1 p.writers) = fresh_row topic peer 1 p.writers in
    fresh_both (writers_in topic peer 1 p.writers) (matched_writers topic (peer + 1) ps) here
    (fresh_rows topic (peer + 1) ps)

abbrev reader_rows : List PeerConfig → List ReaderConfig → List (List WriterProxy)
reader_rows peers rs = map (λ (x : ReaderConfig). matched_writers x.topic 1 peers) rs

fresh_reader : (peers : List PeerConfig) (rs : List ReaderConfig) (r : ℕ)
    → AreFresh (get_or (reader_rows peers rs) r [])
fresh_reader peers [] r = tt
fresh_reader peers (x ∷ rs) zero = fresh_rows x.topic 1 peers
fresh_reader peers (x ∷ rs) (suc r) = fresh_reader peers rs r

-- a peer that knows nothing, and whose readers heard nothing
pub record IsFresh (p : Peer) : Type 0 where
  pub known : p.known ≡ knows_nothing
  pub proxies : (r : ℕ) → AreFresh (own_proxies p.part r)

pub none_is_fresh : IsFresh no_peer
none_is_fresh = record { known = refl; proxies = proxies }
  where
    proxies : (r : ℕ) → AreFresh (own_proxies no_peer.part r)
    proxies zero = tt
    proxies (suc r) = tt

pub peer_is_fresh : (peers : List PeerConfig) (n : ℕ) (ps : List PeerConfig) (i : ℕ)
    → IsFresh (get_or (opening_peers peers n ps) i no_peer)
peer_is_fresh peers n [] i = none_is_fresh
peer_is_fresh peers n (p ∷ ps) zero = record { known = refl; proxies = proxies }
  where
    proxies : (r : ℕ) → AreFresh (numbered (reader_rows peers p.readers) r [])
    proxies zero = tt
    proxies (suc r) = fresh_reader peers p.readers r
peer_is_fresh peers n (p ∷ ps) (suc i) = peer_is_fresh peers (n + 1) ps i

none_below : (n : ℕ) → nat_lt n 0 ≡ true → ⊥
none_below n e = let low : n < 0 = grind (arith, nat_tests) in absurd (omega (arith, low))

backed : (roster : Roster) (number : ℕ) (p : Peer) → IsFresh p → IsBacked roster number [] [] (state_of p)
backed roster number p f = record {
  place = λ w r n h.
      ap (λ (k : Known). (k.tracked w r).place) f.known ∙ fresh_place (own_proxies p.part r) w n (f.proxies r) h;
  unknown = λ w r h. ap (λ (k : Known). (k.tracked w r).place) f.known;
  claimed = λ w r.
      record {
        from = let e = ap (λ (k : Known). (k.tracked w r).place) f.known in omega (arith, e);
        change = λ n c from h. let e = sym (ap (λ (k : Known). (k.tracked w r).slot n) f.known) ∙ h in absurd cc;
        pass = λ n from h.
            let e = sym (ap (λ (k : Known). is_passable (k.tracked w r) n) f.known) ∙ h in absurd (none_below n e);
      };
  newest = λ w r has d count among h. let none = among.1 in absurd (omega (arith, none));
  heard = λ w r count h. absurd (fresh_heard (own_proxies p.part r) w count (f.proxies r) h);
  then = λ d r w among found. let none = among.1 in absurd (omega (arith, none));
}

-- at the opening all that a peer knows is what was claimed
pub opens_backed : OpensBacked
opens_backed config roster zero = backed roster zero no_peer none_is_fresh
opens_backed config roster (suc i) =
    let peer : Peer = get_or (opening_peers config.peers 1 config.peers) i no_peer in
    backed roster (suc i) peer (peer_is_fresh config.peers 1 config.peers i)

-- the same of the peer of this index, counted from 0, with what was delivered to it, which is nothing
abbrev opened_peer : Config → ℕ → Peer
opened_peer config i = get_or (opening_peers config.peers 1 config.peers) i no_peer

pub opens_known : (config : Config) (roster : Roster) (i number : ℕ)
    → IsBacked roster number (packets_of (opened_peer config i).delivered) (opened_peer config i).delivered
    (state_of (opened_peer config i))
opens_known config roster i number =
    subst (λ (ds : List Delivery). IsBacked roster number (packets_of ds) ds (state_of (opened_peer config i)))
    (sym (opening_delivered config.peers 1 config.peers i))
    (backed roster number (opened_peer config i) (peer_is_fresh config.peers 1 config.peers i))
