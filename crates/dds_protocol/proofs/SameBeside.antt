-- Networks that differ in what the peers' own calls and listeners see, and in nothing else: what holds of what was sent
-- and of lists and places holds of both.
use Rattle.std.proofs.Common.{◌≡◌, ℕ, Bool, Option, List, [], map, length, refl, subst, ap, sym, ◌∙◌, ⊎_elim, arith}
use Rattle.std.specs.Prelude.{pos, ◌≤ℤ◌, Contains}
use Rattle.dds_base.specs.declared.change.Change.{Change}
use Rattle.dds_protocol.specs.Roster.{Roster}
use Rattle.dds_base.specs.declared.entity.Entity.{Entity}
use Rattle.dds_base.specs.declared.qos.ReaderQos.{ReaderQos}
use Rattle.dds_notices.specs.Listeners.{Place}
use Rattle.dds_base.specs.declared.endpoint.Endpoint.{Endpoint}
use Rattle.dds_protocol.specs.declared.event.Packet.{Packet}
use Rattle.dds_base.specs.Matched.{is_reliable}
use Rattle.dds_machine.specs.Numbered.{numbered, with_numbered, HasNumber}
use Rattle.dds_machine.specs.Part.{Part, Writer, WriterProxy, heartbeats_used, place_of, NoLess}
use Rattle.dds_protocol.specs.Protocol.{Known}
use Rattle.dds_protocol.specs.Peer.{Peer, Delivery, no_peer}
use Rattle.dds_protocol.specs.Bounds.{IsBounded}
use Rattle.dds_protocol.specs.Claims.{Claim}
use Rattle.dds_protocol.specs.Dues.{IsPartOf}
use Rattle.dds_protocol.specs.Fresh.{HasUsedCounts}
use Rattle.dds_machine.specs.Filters.{part_with_filter}
use Rattle.dds_protocol.specs.Filters.{peer_with_filter, world_with_filter}
use Rattle.dds_machine.specs.Machine.{Machine, part_at, writer_at, place_at}
use Rattle.dds_protocol.specs.Noticing.{peer_with_place, world_with_place}
use Rattle.dds_protocol.specs.World.{WorldState, Holds, Sound, machine_of, peer_at}
use Rattle.dds_protocol.proofs.DuesGrowth.{is_part_kept}
use Rattle.dds_protocol.proofs.Alike.{AlikeParts, AlikeWriters, alike_by, alike_readers, parts_same}
use Rattle.dds_protocol.proofs.Composed.{parts_at}
use Rattle.dds_protocol.proofs.Growth.{MachineGrows, Holds-grows}
use Rattle.dds_protocol.proofs.Owing.{Covered, covered_same}
use Rattle.dds_machine.proofs.Tables.{length-with_numbered, map-with_numbered, no_less_same, numbered-cases}

-- the machine with one filter more at the peer of this number
abbrev pub machine_with_filter : Machine → ℕ → Machine
machine_with_filter m peer = record { parts = with_numbered m.parts peer (part_with_filter (part_at m peer)) }

pub record SameBeside (old new : WorldState) : Type 0 where
  pub count : length new.peers ≡ length old.peers
  pub number : (p : ℕ) → (peer_at new p).number ≡ (peer_at old p).number
  pub parts : (p : ℕ) → AlikeParts (peer_at old p).part (peer_at new p).part
  pub known : (p : ℕ) → (peer_at new p).known ≡ (peer_at old p).known
  pub delivered : (p : ℕ) → (peer_at new p).delivered ≡ (peer_at old p).delivered
  pub sent : new.sent ≡ old.sent

pub parts_alike : (old new : WorldState) → SameBeside old new → (p : ℕ)
    → AlikeParts (part_at (machine_of old) p) (part_at (machine_of new) p)
parts_alike old new s p =
    subst (λ (x : Part). AlikeParts x (part_at (machine_of new) p)) (sym (parts_at old p))
    (subst (λ (y : Part). AlikeParts (peer_at old p).part y) (sym (parts_at new p)) (s.parts p))

pub writer_alike : (old new : WorldState) → SameBeside old new → (w : Endpoint)
    → AlikeWriters (writer_at (machine_of old) w) (writer_at (machine_of new) w)
writer_alike old new s w = (parts_alike old new s w.peer).writers w.number

pub place_is : (old new : WorldState) → SameBeside old new → (r w : Endpoint)
    → place_at (machine_of new) r w ≡ place_at (machine_of old) r w
place_is old new s r w =
    ap (λ (rows : List (List WriterProxy)). place_of (numbered rows r.number []) w) (parts_alike old new s r.peer).rows

has : (old new : WorldState) → SameBeside old new → (p : ℕ) → HasNumber new.peers p → HasNumber old.peers p
has old new s p h =
    let count = s.count in
    let low = h.0 in
    let high = h.1 in
    (omega (arith, low), omega (arith, high, count))

machine_grows : (old new : WorldState) → SameBeside old new → MachineGrows (machine_of old) (machine_of new)
machine_grows old new s = record {
  writers = λ w. (writer_alike old new s w).grows;
  places =
      λ r w. subst (λ (o : Option ℕ). NoLess (place_at (machine_of old) r w) o) (sym (place_is old new s r w))
      (no_less_same (place_at (machine_of old) r w));
}

pub sound_beside : (roster : Roster) (old new : WorldState) → SameBeside old new → Sound roster old → Sound roster new
sound_beside roster old new s sound =
    let still : (c : Claim) → Holds (machine_of old) c → Holds (machine_of new) c =
    Holds-grows (machine_of old) (machine_of new) (machine_grows old new s) in
    record {
      number = λ p h. s.number p ∙ sound.number p (has old new s p h);
      sent = λ p c d h. still c (sound.sent p c (subst (λ (ps : List Packet). Contains ps p) s.sent d) h);
      delivered =
          λ j d c o h. still c
          (sound.delivered j d c (subst (λ (ds : List Delivery). Contains ds d) (s.delivered j) o) h);
      acknowledged = λ w r.
          let before : Writer = writer_at (machine_of old) w in
          let after : Writer = writer_at (machine_of new) w in
          let alike : AlikeWriters before after = writer_alike old new s w in
          subst (λ (o : Option ℕ). Covered after r o) (sym (place_is old new s r w))
          (covered_same before after r (place_at (machine_of old) r w) (alike_readers before after alike)
          (alike.grows.owed r) (no_less_same (place_at (machine_of old) r w)) (sound.acknowledged w r));
      policies = λ r entity lt there.
          ap (λ (q : ReaderQos). is_reliable q.reliability) ((parts_alike old new s r.peer).qos r.number)
          ∙ sound.policies r entity (has old new s r.peer lt) there;
    }

pub bounded_beside : (old new : WorldState) → SameBeside old new → IsBounded (machine_of old)
    → IsBounded (machine_of new)
bounded_beside old new s bounded r w p h =
    let before = bounded r w p (sym (place_is old new s r w) ∙ h) in
    let same = ap (λ (cs : List Change). length cs) (writer_alike old new s w).changes in
    omega (arith, before, same)

part_beside : (roster : Roster) (peer : ℕ) (old new : Part) → AlikeParts old new → IsPartOf roster peer old
    → IsPartOf roster peer new
part_beside roster peer old new same h = is_part_kept roster peer old new same.count h

beats_alike : (old new : Writer) → AlikeWriters old new → heartbeats_used new ≡ heartbeats_used old
beats_alike old new h = ap (λ (bs : List Bool). length bs) h.counts

pub used_beside : (roster : Roster) (old new : WorldState) → SameBeside old new → HasUsedCounts roster old
    → HasUsedCounts roster new
used_beside roster old new s used =
    let beats : (w : Endpoint) → heartbeats_used (writer_at (machine_of new) w)
    ≡ heartbeats_used (writer_at (machine_of old) w) = λ w. beats_alike (writer_at (machine_of old) w)
    (writer_at (machine_of new) w) (writer_alike old new s w) in
    let acks : (w r : Endpoint) → ((peer_at new r.peer).known.tracked w r.number).acknacks
    ≡ ((peer_at old r.peer).known.tracked w r.number).acknacks =
    λ w r. ap (λ (k : Known). (k.tracked w r.number).acknacks) (s.known r.peer) in
    record {
      of_roster =
          λ p h. part_beside roster p (peer_at old p).part (peer_at new p).part (s.parts p)
          (used.of_roster p (has old new s p h));
      heartbeat_sent = λ p w count c h.
          subst (λ (n : ℕ). count ≤ℤ pos n) (sym (beats w))
          (used.heartbeat_sent p w count (subst (λ (ps : List Packet). Contains ps p) s.sent c) h);
      acknack_sent = λ p w r count c h.
          subst (λ (n : ℕ). count ≤ℤ pos n) (sym (acks w r))
          (used.acknack_sent p w r count (subst (λ (ps : List Packet). Contains ps p) s.sent c) h);
      heartbeat_taken = λ w r count h.
          subst (λ (n : ℕ). count ≤ℤ pos n) (sym (beats w))
          (used.heartbeat_taken w r count (sym (ap (λ (k : Known). (k.tracked w r.number).count) (s.known r.peer))
          ∙ h));
      acknack_taken = λ w r count h.
          subst (λ (n : ℕ). count ≤ℤ pos n) (sym (acks w r))
          (used.acknack_taken w r count (sym (ap (λ (k : Known). (k.answered w.number r).count) (s.known w.peer))
          ∙ h));
    }

-- a network with another peer of this number, which is alike
pub beside_with : (world : WorldState) (i : ℕ) (after : Peer) → after.number ≡ (peer_at world i).number
    → after.known ≡ (peer_at world i).known
    → after.delivered ≡ (peer_at world i).delivered → AlikeParts (peer_at world i).part after.part
    → SameBeside world (record world { peers = with_numbered world.peers i after })
beside_with world i after number known delivered alike = record {
  count = length-with_numbered world.peers i after;
  number = kept (λ (p : Peer). p.number) number;
  parts = λ p.
      ⊎_elim (λ e. subst (λ (x : Peer). AlikeParts (peer_at world p).part x.part) (sym e)
      (parts_same (peer_at world p).part))
      (λ s.
      subst (λ (x : Peer). AlikeParts (peer_at world p).part x.part) (sym s.1)
      (subst (λ (n : ℕ). AlikeParts (peer_at world n).part after.part) (sym s.0) alike))
      (numbered-cases world.peers i after p no_peer);
  known = kept (λ (p : Peer). p.known) known;
  delivered = kept (λ (p : Peer). p.delivered) delivered;
  sent = refl;
}
  where
    kept : {X : Type 0} (f : Peer → X) → f after ≡ f (peer_at world i) → (p : ℕ)
        → f (numbered (with_numbered world.peers i after) p no_peer) ≡ f (peer_at world p)
    kept f same p =
        ⊎_elim (λ e. ap f e) (λ s. ap f s.1 ∙ (same ∙ ap (λ (n : ℕ). f (peer_at world n)) (sym s.0)))
        (numbered-cases world.peers i after p no_peer)

pub filter_beside : (world : WorldState) (peer : ℕ) → SameBeside world (world_with_filter world peer)
filter_beside world peer = beside_with world peer (peer_with_filter (peer_at world peer)) refl refl refl
    (alike_by (peer_at world peer).part (part_with_filter (peer_at world peer).part) refl refl refl)

pub place_beside : (world : WorldState) (peer : ℕ) (entity : Entity) (place : Option Place)
    → SameBeside world (world_with_place world peer entity place)
place_beside world peer entity place =
    beside_with world peer (peer_with_place (peer_at world peer) entity place) refl refl refl
    (alike_by (peer_at world peer).part (peer_with_place (peer_at world peer) entity place).part refl refl refl)

-- the machine has one filter more where the network has
pub machine_filtered : (world : WorldState) (peer : ℕ) → machine_of (world_with_filter world peer)
    ≡ machine_with_filter (machine_of world) peer
machine_filtered world peer =
    ap (λ (ps : List Part). let m : Machine = record { parts = ps } in m)
    (map-with_numbered (λ (p : Peer). p.part) world.peers peer (peer_with_filter (peer_at world peer))
    ∙ ap (λ (q : Part). with_numbered (map (λ (p : Peer). p.part) world.peers) peer (part_with_filter q))
    (sym (parts_at world peer)))
