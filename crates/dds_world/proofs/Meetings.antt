-- Whom a peer of a network meets, by its own number, and by events by which nobody is met.
use Rattle.std.proofs.Common.{◌≡◌, ℕ, suc, List, [], ◌∷◌, ◌++◌, Some, length, get_or, slice_get, inl, subst, sym, arith}
use Rattle.dds_machine.specs.declared.event.WorldEvent.{WorldEvent}
use Rattle.dds_machine.specs.declared.event.WorldEvent.TheVariants as world
use Rattle.dds_machine.specs.declared.reply.Reply.{Reply}
use Rattle.dds_machine.specs.Runs.{OfEach}
use Rattle.dds_protocol.specs.declared.event.Event.{Event}
use Rattle.dds_protocol.specs.declared.event.Event.TheVariants as event
use Rattle.dds_protocol.specs.Meetings.{MeetsByRoster, MeetsInNetwork, NobodyIn}
use Rattle.dds_protocol.proofs.Meetings.{nobody_is_met}
use Rattle.dds_protocol.specs.Peer.{no_peer}
use Rattle.dds_protocol.specs.Roster.{Roster}
use Rattle.dds_protocol.specs.World.{WorldState}
use Rattle.dds_core.specs.Kept.{PeerKept}
use Rattle.dds_ends.proofs.Lists.{get-within}
use Rattle.dds_world.specs.WorldStanding.{Hearing, StandsFor, WorldKept}

-- the peer of an index meets whom the peer of that number does
pub met_at : {hearing : Hearing} → (kept : WorldKept hearing) (roster : Roster) (network : WorldState) (i : ℕ)
    (core : PeerKept) (ev : Event) (reply output : Reply) → StandsFor kept roster network
    → slice_get kept.peers i ≡ Some core → reply ≡ output → MeetsByRoster roster (suc i) ev reply
    → MeetsByRoster roster (get_or network.peers i no_peer).number ev output
met_at kept roster network i core ev reply output s at same met =
    let count = s.count in
    let low = get-within kept.peers i core at in
    subst (λ (n : ℕ). MeetsByRoster roster n ev output) (sym (s.sound.number (suc i) (omega arith, omega (arith, count, low))))
    (subst (λ (r : Reply). MeetsByRoster roster (suc i) ev r) same met)

-- by such an event nobody is met
pub nobody_in : (roster : Roster) (ev : WorldEvent) (reply : Reply) → NobodyIn ev → MeetsInNetwork roster ev reply
nobody_in roster (world.Call peer call) reply none =
    nobody_is_met roster peer (event.Call call) reply (inl none)
nobody_in roster (world.Tick peer now) reply none = tt
nobody_in roster (world.Deliver peer packet) reply none = tt
nobody_in roster (world.Resume peer reader) reply none = tt

-- what is so of each event, with one more, is so of those before it, and of it
pub each_before : (Is : WorldEvent → Reply → Type 0) (events : List WorldEvent) (replies : List Reply)
    (ev : WorldEvent) (reply : Reply) → length events ≡ length replies
    → OfEach Is (events ++ ev ∷ []) (replies ++ reply ∷ []) → OfEach Is events replies × Is ev reply
each_before Is [] [] ev reply same h = (tt, h.0)
each_before Is (e ∷ es) (r ∷ rs) ev reply same h =
    let later = each_before Is es rs ev reply (omega (arith, same)) h.1 in ((h.0, later.0), later.1)
each_before Is [] (r ∷ rs) ev reply same h = absurd (omega (arith, same))
each_before Is (e ∷ es) [] ev reply same h = absurd (omega (arith, same))
