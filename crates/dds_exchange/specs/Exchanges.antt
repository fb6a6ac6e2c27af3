-- Our peer, and those whom it is told of (DDS 1.4, 2.2.2.2.1: DomainParticipant; RTPS 2.5, 8.5.4: SEDP). What is told of a match is
-- one call of it, what comes is one delivery, and each is a step of the machine by the rules of the protocol.
use Rattle.std.specs.Prelude.{◌≡◌, ◌⊎◌, ℕ, Bool, true, false, List, [], map, drop, slice_get, Option, Some, None, MatchOption, option_map, if◌then◌else◌}
use Rattle.std.specs.Option.{option_and_then, option_or}
use Rattle.dds_base.specs.declared.code.Code.{Code}
use Rattle.dds_base.specs.declared.config.Config.{Config}
use Rattle.dds_base.specs.declared.guid.EntityId.{EntityId}
use Rattle.dds_base.specs.declared.guid.GuidPrefix.{GuidPrefix}
use Rattle.dds_core.specs.Listening.{StandsFor, no_listeners}
use Rattle.dds_core.specs.Opening.{opening_peer}
use Rattle.dds_core.specs.Ruling.{IsSound}
use Rattle.dds_machine.specs.declared.call.Call.{Call as CallOf}
use Rattle.dds_machine.specs.declared.reply.Reply.{Reply}
use Rattle.dds_machine.specs.declared.reply.Reply.TheVariants.{Refused}
use Rattle.dds_network.specs.Networks.{Does, Kept}
use Rattle.dds_network.specs.Quiet.{has_no_room, keeps_nothing, stays_as_it_is}
use Rattle.dds_protocol.specs.declared.event.Event.TheVariants.{Call, Deliver}
use Rattle.dds_protocol.specs.declared.event.Output.{Output}
use Rattle.dds_protocol.specs.declared.event.Packet.{Packet}
use Rattle.dds_protocol.specs.Roster.{roster_of}
use Rattle.rtps_announcements.specs.declared.locator.Locator.{Locator}
use Rattle.rtps_announcements.specs.declared.qos.EndpointKind.{EndpointKind}
use Rattle.rtps_announcements.specs.declared.qos.EndpointKind.TheVariants.{Reader, Writer}
use Rattle.rtps_discovery.specs.declared.packet.Packet.{Packet as Datagram}
use Rattle.rtps_discovery.specs.declared.row.Row.{Row}
use Rattle.dds_exchange.specs.declared.ends.OwnEnd.{OwnEnd}
use Rattle.dds_exchange.specs.declared.going.Known.{Known}
use Rattle.dds_exchange.specs.declared.naming.NamedEnd.{NamedEnd}
use Rattle.dds_exchange.specs.declared.told.Due.{Due}
use Rattle.dds_exchange.specs.Going.{IsTooLongIn, IsTooLongOut, TurnsIn, TurnsOut, address_of}
use Rattle.dds_exchange.specs.Naming.{end_number, entry_for, prefix_of, with_entry}
use Rattle.dds_exchange.specs.States.{State}
use Rattle.dds_exchange.specs.Told.{call_of, far_of, own_of}

-- Our peer is the first of a configuration, at its opening, and no endpoint of others has a name.
pub record IsOpened (prefix : GuidPrefix) (config : Config) (our_writers our_readers : List OwnEnd) (e : State) : Type 0 where
  pub stands : StandsFor keeps_nothing has_no_room stays_as_it_is (no_listeners (opening_peer config 1).part) e.core
      (roster_of config) (opening_peer config 1)
  pub sound : IsSound (roster_of config) (opening_peer config 1)
  pub filters : e.core.filtered.filters ≡ []
  pub own : e.own ≡ prefix
  pub writers : e.writers ≡ our_writers
  pub readers : e.readers ≡ our_readers
  pub named : e.named ≡ []
  pub due : e.due ≡ []

-- what we have, and whom we know
pub record known_of (e : State) (k : Known) : Type 0 where
  pub own : k.own ≡ e.own
  pub writers : k.writers.now ≡ e.writers
  pub readers : k.readers.now ≡ e.readers
  pub named : k.named.now ≡ e.named

-- ---- what was told

-- an endpoint of ours is the writer or the reader of a number
abbrev pub own_end : EntityId → List OwnEnd → List OwnEnd → Option (EndpointKind × ℕ)
own_end entity writers readers = option_or (option_map (λ n. (Writer, n)) (end_number entity writers))
    (option_map (λ n. (Reader, n)) (end_number entity readers))

-- the kind of the other endpoint of a match
abbrev pub other_kind : EndpointKind → EndpointKind
other_kind Writer = Reader
other_kind Reader = Writer

-- a call found no memory
abbrev pub found_no_memory : Reply → Bool
found_no_memory (Refused Code.Memory) = true
found_no_memory _ = false

-- the other endpoint has a name from then on
abbrev pub Names : Due → Option (EndpointKind × ℕ) → List NamedEnd → Option CallOf → List NamedEnd → Type 0
Names due None old call new = (call ≡ None) × (new ≡ old)
Names due (Some (kind, number)) old call new = (entry : Option NamedEnd)
    × (entry ≡ entry_for (far_of due.told) (other_kind kind) number old)
    × (new ≡ with_entry (far_of due.told) entry old)
    × (call ≡ option_and_then (call_of due kind number) entry)

-- The call that is due of what was told: by the number of our endpoint, and the name that the other one has from then on.
pub record Calls (due : Due) (old : State) (call : Option CallOf) (new : State) : Type 0 where
  pub names : Names due (own_end (own_of due.told).entity old.writers old.readers) old.named call
      new.named
  pub rest : new ≡ record old { named = new.named }

-- what is due afterwards: not the first, unless it found no memory
abbrev pub left_due : Output → List Due → List Due
left_due o dues = if found_no_memory o.reply then dues else drop 1 dues

-- A call that is due is a step of our peer.
pub record MakesCall (call : CallOf) (old : State) (output : Output) (new : State) : Type 0 where
  pub does : Does old.core (Call call) output new.core
  pub left : new.due ≡ left_due output old.due
  pub rest : new ≡ record old { core = new.core; due = new.due }

-- what was told is due no more where it is no call
abbrev pub found_by : Option CallOf → State → State
found_by None e = record e { due = drop 1 e.due }
found_by (Some call) e = e

-- The call of the first that was told and is due is found,
pub record FindsFirst (old : State) (call : Option CallOf) (new : State) : Type 0 where
  pub due : Due
  pub named : State
  pub first : slice_get old.due 0 ≡ Some due
  pub calls : Calls due old call named
  pub rest : new ≡ found_by call named

-- and none where nothing is due.
abbrev pub Finds : State → Option CallOf → State → Type 0
Finds old call new = FindsFirst old call new ⊎ ((slice_get old.due 0 ≡ None) × (call ≡ None) × (new ≡ old))

-- ---- datagrams

-- What comes is one delivery of what it turns into; none where that is longer than a datagram may be.
pub record HearsIt (old : State) (bytes : List ℕ) (output : Output) (new : State) : Type 0 where
  pub known : Known
  pub turned : List ℕ
  pub is : known_of old known
  pub turns : TurnsIn known bytes turned
  pub does : Does old.core (Deliver turned) output new.core

pub record PassesOver (old : State) (bytes : List ℕ) (new : State) : Type 0 where
  pub known : Known
  pub is : known_of old known
  pub long : IsTooLongIn known bytes
  pub same : new ≡ old

abbrev pub Hears : State → List ℕ → Option Output → State → Type 0
Hears old bytes (Some output) new = HearsIt old bytes output new
Hears old bytes None new = PassesOver old bytes new

-- where a packet of our peer goes
abbrev pub goes_to : State → List Row → ℕ → Option Locator
goes_to e rows peer = option_and_then (λ prefix. address_of prefix rows) (prefix_of peer e.named)

-- A packet goes there as it is turned,
pub record Goes (e : State) (rows : List Row) (packet : Packet) (datagram : Datagram) : Type 0 where
  pub known : Known
  pub prefix : GuidPrefix
  pub is : known_of e known
  pub of : prefix_of packet.to e.named ≡ Some prefix
  pub to : address_of prefix rows ≡ Some datagram.to
  pub turns : TurnsOut known prefix packet.bytes datagram.bytes

-- or is too long for it.
pub record IsTooLong (e : State) (packet : Packet) : Type 0 where
  pub known : Known
  pub is : known_of e known
  pub long : IsTooLongOut known packet.bytes

-- None goes where its participant can't be reached.
abbrev pub GoesOut : State → List Row → Packet → Option Datagram → Type 0
GoesOut e rows packet (Some datagram) = Goes e rows packet datagram
GoesOut e rows packet None = (goes_to e rows packet.to ≡ None) ⊎ IsTooLong e packet
