-- A network in which the peer of one index is another one.
use Rattle.std.proofs.Common.{◌≡◌, ℕ, zero, suc, ◌-◌, ◌^◌, ◌<◌, ◌≤◌, List, [], ◌∷◌, Some, length, set, get_or, slice_get, refl, ap, sym, ◌∙◌, subst, arith, length-set, get_or-set_same}
use Rattle.dds_protocol.specs.Roster.{Roster}
use Rattle.dds_notices.specs.Listeners.{Places}
use Rattle.dds_protocol.specs.declared.event.Packet.{Packet}
use Rattle.dds_machine.specs.declared.event.WorldEvent.{WorldEvent}
use Rattle.dds_protocol.specs.Bounds.{IsBounded}
use Rattle.dds_protocol.specs.Fresh.{HasUsedCounts}
use Rattle.dds_machine.specs.Noticing.{peer_of}
use Rattle.dds_protocol.specs.Noticing.{peer_at_end, world_ended}
use Rattle.dds_machine.specs.Numbered.{with_numbered}
use Rattle.dds_protocol.specs.Peer.{Peer, no_peer}
use Rattle.dds_protocol.specs.World.{Sound, WorldState, machine_of, peer_at}
use Rattle.dds_core.specs.Kept.{PeerKept}
use Rattle.dds_ends.specs.Sending.{AreMessages}
use Rattle.dds_core.specs.Standing.{StandsFor as CoreStandsFor}
use Rattle.dds_core.specs.Ruling.{IsSound}
use Rattle.dds_ends.proofs.Lists.{each_set, each_set_at}
use Rattle.dds_world.specs.WorldStanding.{StandsFor, WorldKept}

-- the network in which one peer is another, and these packets were sent
abbrev pub with_peer : WorldState → ℕ → Peer → List Packet → WorldState
with_peer network i after sent = record { peers = set network.peers i after; sent = sent }

-- what is the same of a peer and of the one in its place is the same of all
pub same_at : {X : Type 0} (f : Peer → X) (peers : List Peer) (i : ℕ) (p : Peer) → f p ≡ f (get_or peers i no_peer)
    → (j : ℕ) → f (get_or (set peers i p) j no_peer) ≡ f (get_or peers j no_peer)
same_at f [] i p same j = refl
same_at f (q ∷ qs) zero p same zero = same
same_at f (q ∷ qs) zero p same (suc j) = refl
same_at f (q ∷ qs) (suc i) p same zero = refl
same_at f (q ∷ qs) (suc i) p same (suc j) = same_at f qs i p same j

set_again : {X : Type 0} (xs : List X) (i : ℕ) (x y : X) → set (set xs i x) i y ≡ set xs i y
set_again [] i x y = refl
set_again (z ∷ zs) zero x y = refl
set_again (z ∷ zs) (suc i) x y = ap (λ ws. z ∷ ws) (set_again zs i x y)

-- the network at the end of an event of this peer
pub ended_at : (network : WorldState) (whole : WorldEvent) (i : ℕ) (stepped : Peer) (sent : List Packet)
    → peer_of whole ≡ suc i → i < length network.peers
    → world_ended network whole (with_peer network i stepped sent)
    ≡ with_peer network i (peer_at_end (get_or network.peers i no_peer) stepped) sent
ended_at network whole i stepped sent is low =
    let next : WorldState = with_peer network i stepped sent in
    let before : Peer = get_or network.peers i no_peer in
    let end : Peer = peer_at_end before stepped in
    let first : with_peer next i (peer_at_end before (get_or next.peers i no_peer)) sent ≡ with_peer next i end sent =
    ap (λ (p : Peer). with_peer next i (peer_at_end before p) sent)
    (get_or-set_same network.peers i stepped no_peer low) in
    let here : with_peer next i (peer_at_end before (get_or next.peers i no_peer)) sent ≡ with_peer network i end sent =
    first ∙ ap (λ (ps : List Peer). let w : WorldState = record { peers = ps; sent = sent } in w)
    (set_again network.peers i stepped end) in
    subst (λ (n : ℕ). record next
    { peers = with_numbered next.peers n (peer_at_end (peer_at network n) (peer_at next n)) }
    ≡ with_peer network i end sent) (sym is) here

-- what the network stands for with it, where the others are heard as before
pub peer_stands : {K : Type 0} (before later : ℕ → K → Places → Type 0)
    (kept : WorldKept (record { Kept = K; stands = before })) (new : WorldKept (record { Kept = K; stands = later }))
    (roster : Roster) (network : WorldState) (i : ℕ) (after : PeerKept) (left : K) (p : Peer) (sent : List Packet)
    → StandsFor kept roster network → new.peers ≡ set kept.peers i after → new.listeners ≡ set kept.listeners i left
    → ((j : ℕ) (k : K) (places : Places) → (j ≡ i → ⊥) → before (suc j) k places → later (suc j) k places)
    → ((j : ℕ) → (get_or (set network.peers i p) j no_peer).part.dds.watch.filters ≡ get_or new.filters j 0)
    → CoreStandsFor after roster p → later (suc i) left p.part.dds.listeners → IsSound roster p
    → sent ≡ new.sent → AreMessages new.sent → new.unsent ≤ 2 ^ 64 - 1
    → Sound roster (with_peer network i p sent) → HasUsedCounts roster (with_peer network i p sent)
    → IsBounded (machine_of (with_peer network i p sent))
    → StandsFor new roster (with_peer network i p sent)
peer_stands {K} before later kept new roster network i after left p sent s peers listeners others filters stands told
    known is messages few sound used bounded =
    let c1 = length-set network.peers i p in
    let c2 = length-set kept.peers i after in
    let c3 = ap (λ (ks : List PeerKept). length ks) peers in
    let d2 = length-set kept.listeners i left in
    let d3 = ap (λ (ks : List K). length ks) listeners in
    let count = s.count in
    let listened = s.listened in
    record {
      count = omega (arith, c1, c2, c3, count);
      each =
          λ j k at. each_set (λ (x : PeerKept) (q : Peer). CoreStandsFor x roster q) kept.peers network.peers i after p
          no_peer s.count s.each stands j k
          (subst (λ (ks : List PeerKept). slice_get ks j ≡ Some k) peers at);
      known =
          λ j k at. each_set (λ (x : PeerKept) (q : Peer). IsSound roster q) kept.peers network.peers i after p no_peer
          s.count s.known known j k
          (subst (λ (ks : List PeerKept). slice_get ks j ≡ Some k) peers at);
      filters = filters;
      listened = omega (arith, c1, d2, d3, listened);
      listeners =
          λ j k at. each_set_at (λ (n : ℕ) (x : K) (q r : Peer). later (suc n) x q.part.dds.listeners) kept.listeners
          network.peers network.peers i left p no_peer p no_peer s.listened s.listened
          (λ n x other found. others n x _ other (s.listeners n x found)) told j k
          (subst (λ (ks : List K). slice_get ks j ≡ Some k) listeners at);
      sent = is;
      sound = sound;
      messages = messages;
      few = few;
      used = used;
      bounded = bounded;
    }
