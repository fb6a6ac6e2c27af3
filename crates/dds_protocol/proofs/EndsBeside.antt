-- What the end of an event leaves as it was, in the machine and in a network.
use Rattle.std.proofs.Common.{◌≡◌, ℕ, zero, suc, get_or, List, [], length, refl, ap, sym, ◌∙◌, subst, arith, ⊎_elim}
use Rattle.std.proofs.lemmas.List.{set-get_or}
use Rattle.dds_base.specs.declared.change.Change.{Change}
use Rattle.dds_protocol.specs.Roster.{Roster}
use Rattle.dds_notices.proofs.ListenerLaws.{NobodyTakes}
use Rattle.dds_base.specs.declared.endpoint.Endpoint.{Endpoint}
use Rattle.dds_machine.specs.declared.event.WorldEvent.{WorldEvent}
use Rattle.dds_protocol.specs.Bounds.{IsBounded}
use Rattle.dds_protocol.specs.Fresh.{HasUsedCounts}
use Rattle.dds_machine.specs.Machine.{Machine, part_at, place_at, writer_at}
use Rattle.dds_machine.specs.Noticing.{at_end, machine_ended, peer_of}
use Rattle.dds_protocol.specs.Noticing.{peer_at_end, world_ended}
use Rattle.dds_machine.specs.Numbered.{numbered, with_numbered}
use Rattle.dds_machine.specs.Part.{Part, WriterProxy, no_part, place_of}
use Rattle.dds_protocol.specs.Peer.{Peer, no_peer}
use Rattle.dds_protocol.specs.World.{Sound, WorldState, machine_of, peer_at}
use Rattle.dds_protocol.proofs.Alike.{AlikeParts, AlikeWriters, end_alike, parts_same}
use Rattle.dds_protocol.proofs.AtEnds.{end_same, end_untold}
use Rattle.dds_protocol.proofs.Composed.{parts_at}
use Rattle.dds_protocol.proofs.SameBeside.{SameBeside, beside_with, bounded_beside, sound_beside, used_beside}
use Rattle.dds_machine.proofs.Tables.{map-with_numbered, numbered-cases}

-- ---- the machine

-- a peer's part at the end of an event
pub ended_alike : (before : Machine) (e : WorldEvent) (m : Machine) (p : ℕ)
    → AlikeParts (part_at m p) (part_at (machine_ended before e m) p)
ended_alike before e m p =
    let after : Part = at_end (part_at before (peer_of e)) (part_at m (peer_of e)) in
    ⊎_elim (λ same. subst (λ (x : Part). AlikeParts (part_at m p) x) (sym same) (parts_same (part_at m p)))
    (λ s.
    subst (λ (x : Part). AlikeParts (part_at m p) x) (sym s.1)
    (subst (λ (n : ℕ). AlikeParts (part_at m n) after) (sym s.0)
    (end_alike (part_at before (peer_of e)) (part_at m (peer_of e)))))
    (numbered-cases m.parts (peer_of e) after p no_part)

pub ended_writer : (before : Machine) (e : WorldEvent) (m : Machine) (w : Endpoint)
    → AlikeWriters (writer_at m w) (writer_at (machine_ended before e m) w)
ended_writer before e m w = (ended_alike before e m w.peer).writers w.number

pub ended_policy : (before : Machine) (e : WorldEvent) (m : Machine) (w : Endpoint)
    → (writer_at (machine_ended before e m) w).policy ≡ (writer_at m w).policy
ended_policy before e m w = (ended_writer before e m w).grows.policy

pub ended_place : (before : Machine) (e : WorldEvent) (m : Machine) (r w : Endpoint)
    → place_at (machine_ended before e m) r w ≡ place_at m r w
ended_place before e m r w =
    ap (λ (rows : List (List WriterProxy)). place_of (numbered rows r.number []) w) (ended_alike before e m r.peer).rows

pub ended_bounded : (before : Machine) (e : WorldEvent) (m : Machine) → IsBounded m
    → IsBounded (machine_ended before e m)
ended_bounded before e m bounded r w p h =
    let within = bounded r w p (sym (ended_place before e m r w) ∙ h) in
    let same = ap (λ (cs : List Change). length cs) (ended_writer before e m w).changes in
    omega (arith, within, same)

-- ---- a network

pub world_beside : (before : WorldState) (e : WorldEvent) (world : WorldState)
    → SameBeside world (world_ended before e world)
world_beside before e world =
    beside_with world (peer_of e) (peer_at_end (peer_at before (peer_of e)) (peer_at world (peer_of e))) refl refl refl
    (end_alike (peer_at before (peer_of e)).part (peer_at world (peer_of e)).part)

-- the machine ends as the network does
pub machine_ends : (before : WorldState) (e : WorldEvent) (world : WorldState)
    → machine_of (world_ended before e world) ≡ machine_ended (machine_of before) e (machine_of world)
machine_ends before e world =
    ap (λ (ps : List Part). let m : Machine = record { parts = ps } in m)
    (map-with_numbered (λ (p : Peer). p.part) world.peers (peer_of e)
    (peer_at_end (peer_at before (peer_of e)) (peer_at world (peer_of e)))
    ∙ (ap (λ (q : Part). with_numbered (machine_of world).parts (peer_of e) (at_end q (peer_at world (peer_of e)).part))
    (sym (parts_at before (peer_of e)))
    ∙ ap (λ (q : Part). with_numbered (machine_of world).parts (peer_of e)
    (at_end (part_at (machine_of before) (peer_of e)) q)) (sym (parts_at world (peer_of e)))))

pub ended_sound : (roster : Roster) (before : WorldState) (e : WorldEvent) (world : WorldState) → Sound roster world
    → Sound roster (world_ended before e world)
ended_sound roster before e world sound =
    sound_beside roster world (world_ended before e world) (world_beside before e world) sound

pub ended_used : (roster : Roster) (before : WorldState) (e : WorldEvent) (world : WorldState)
    → HasUsedCounts roster world → HasUsedCounts roster (world_ended before e world)
ended_used roster before e world used =
    used_beside roster world (world_ended before e world) (world_beside before e world) used

pub world_bounded : (before : WorldState) (e : WorldEvent) (world : WorldState) → IsBounded (machine_of world)
    → IsBounded (machine_of (world_ended before e world))
world_bounded before e world bounded =
    bounded_beside world (world_ended before e world) (world_beside before e world) bounded

-- where nobody takes a status, the end of an event changes nothing
put_back : (xs : List Peer) (n : ℕ) → with_numbered xs n (numbered xs n no_peer) ≡ xs
put_back xs zero = refl
put_back xs (suc i) = set-get_or xs i no_peer

pub ended_untold : (before : WorldState) (e : WorldEvent) (world : WorldState)
    → ((i : ℕ) → NobodyTakes (get_or world.peers i no_peer).part.dds.listeners) → world_ended before e world ≡ world
ended_untold before e world nobody = by (peer_of e)
  where
    same : (n : ℕ) → with_numbered world.peers n (peer_at_end (peer_at before n) (peer_at world n)) ≡ world.peers
    same zero = refl
    same (suc i) =
        let here : Peer = get_or world.peers i no_peer in
        ap (λ (p : Part). with_numbered world.peers (suc i) (record here { part = p }))
        (end_untold (peer_at before (suc i)).part here.part (nobody i))
        ∙ put_back world.peers (suc i)

    by : (n : ℕ)
        → record world { peers = with_numbered world.peers n (peer_at_end (peer_at before n) (peer_at world n)) }
        ≡ world
    by n = ap (λ (ps : List Peer). record world { peers = ps }) (same n)

-- nor does it where nothing happened
pub ended_same : (world : WorldState) (e : WorldEvent) → world_ended world e world ≡ world
ended_same world e =
    let here : Peer = peer_at world (peer_of e) in
    ap (λ (ps : List Peer). record world { peers = ps })
    (ap (λ (p : Part). with_numbered world.peers (peer_of e) (record here { part = p })) (end_same here.part)
    ∙ put_back world.peers (peer_of e))
