-- What is sent at an event, and which packets find memory. Inner functions alone cite this: nothing here has to be
-- believed.
--
-- The network is this project's own.
use Rattle.std.specs.Prelude.{◌≡◌, ◌≢◌, ◌⊎◌, ℕ, ◌+◌, ◌≤◌, List, [], ◌∷◌, ◌++◌, length, Contains, AllPairs}
use Rattle.dds_protocol.specs.Roster.{Roster}
use Rattle.dds_protocol.specs.declared.event.Packet.{Packet}
use Rattle.dds_machine.specs.declared.event.WorldEvent.{WorldEvent}
use Rattle.dds_machine.specs.declared.reply.Reply.{Reply}
use Rattle.dds_protocol.specs.Meetings.{MeetsInNetwork}
use Rattle.dds_protocol.specs.Traffic.{Sends}
use Rattle.dds_protocol.specs.World.{WorldState, machine_of}
use Rattle.dds_world.specs.WorldStanding.{Hearing, WorldKept, StandsFor, traffic}

-- of these packets, in their order, these were sent, and so many were not
abbrev pub ArePosted : List Packet → List Packet → ℕ → Type 0
ArePosted [] posted lost = (posted ≡ []) × (lost ≡ 0)
ArePosted (packet ∷ packets) posted lost =
    ((rest : List Packet) × (posted ≡ packet ∷ rest) × ArePosted packets rest lost)
    ⊎ ((fewer : ℕ) × (lost ≡ fewer + 1) × ArePosted packets posted fewer)

-- of these packets some were sent, in their order, and the others were lost; those to different peers stay so
pub record Posts (old : List Packet) (packets : List Packet) (new : List Packet) : Type 0 where
  pub posted : List Packet
  pub sent : new ≡ old ++ posted
  pub lost : ℕ
  pub are_posted : ArePosted packets posted lost
  pub of_packets : (packet : Packet) → Contains posted packet → Contains packets packet
  pub fewer : length posted ≤ length packets
  pub different : AllPairs (λ (a b : Packet). a.to ≢ b.to) packets → AllPairs (λ (a b : Packet). a.to ≢ b.to) posted

-- For each state that the old network stands for, and whose roster has whom a peer meets, this is what is sent at the
-- event.
abbrev pub Announces : {hearing : Hearing} → WorldKept hearing → WorldEvent → Reply → WorldKept hearing → Type 0
Announces old event reply new =
    (roster : Roster) (network : WorldState) → StandsFor old roster network → MeetsInNetwork roster event reply
    → Sends roster (traffic old) (machine_of network) event reply (traffic new)
