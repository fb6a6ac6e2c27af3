-- What comes of an event.
use Rattle.std.specs.Prelude.{◌≡◌, ◌⊎◌, ◌++◌, ◌∷◌, Bool, false, true, List, [], Option, Some, None, MatchBool}
use Rattle.dds_protocol.specs.declared.event.Event.{Event}
use Rattle.rtps_discovery.specs.declared.packet.Packet.{Packet as Datagram}
use Rattle.rtps_discovery.specs.declared.row.Told.{Told as Presence}
use Rattle.rtps_matching.specs.declared.told.Told.{Told}

-- who appeared or is gone, what our peer was told of who is matched, what is to be sent, what happened to our peer and whether that
-- is recorded, and whether memory was wanting
pub record State : Type 0 where
  pub presences : List Presence
  pub told : List Told
  pub datagrams : List Datagram
  pub events : List Event
  pub is_recording : Bool
  pub lacks_memory : Bool

-- memory was wanting
abbrev pub lacking : State → State
lacking t = record t { lacks_memory = true }

-- one more datagram is sent
abbrev pub sending : Datagram → State → State
sending d t = record t { datagrams = t.datagrams ++ d ∷ [] }

-- It is sent, or is lost for want of memory.
abbrev pub Sends : Datagram → State → State → Type 0
Sends d t u = (u ≡ sending d t) ⊎ (u ≡ lacking t)

-- Nothing came of it, or memory was wanting.
abbrev pub MayLack : State → State → Type 0
MayLack t u = (u ≡ t) ⊎ (u ≡ lacking t)

-- These appeared or are gone, or it is not told for want of memory.
abbrev pub Presents : List Presence → State → State → Type 0
Presents told t u = (u ≡ record t { presences = t.presences ++ told }) ⊎ (u ≡ lacking t)

-- These are sent, or are lost for want of memory.
abbrev pub SendsThese : List Datagram → State → State → Type 0
SendsThese datagrams t u = (u ≡ record t { datagrams = t.datagrams ++ datagrams }) ⊎ (u ≡ lacking t)

-- Both.
pub record Adds (told : List Presence) (datagrams : List Datagram) (t u : State) : Type 0 where
  pub given : State
  pub presents : Presents told t given
  pub sends : SendsThese datagrams given u

-- So it is of one, if it is one.
abbrev pub SendsAny : Option Datagram → State → State → Type 0
SendsAny None t u = u ≡ t
SendsAny (Some datagram) t u = Sends datagram t u

abbrev pub PresentsAny : Option Presence → State → State → Type 0
PresentsAny None t u = u ≡ t
PresentsAny (Some told) t u = Presents (told ∷ []) t u

-- ---- the record

-- memory was wanting for it, and it goes no further
abbrev pub broken : State → State
broken t = record t { is_recording = false; lacks_memory = true }

-- An event stands in it behind all others, or it goes no further.
abbrev pub Keeps : Event → State → State → Type 0
Keeps e t u = (u ≡ record t { events = t.events ++ e ∷ [] }) ⊎ (u ≡ broken t)

-- So it is where that is asked for; else nothing of the turn changes.
abbrev pub Records : Event → State → State → Type 0
Records e t u = MatchBool t.is_recording (Keeps e t u) (u ≡ t)
