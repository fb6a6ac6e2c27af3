-- What a datagram of the network is to our peer, and what a packet of our peer is on the network (RTPS 2.5, 8.3.4: the message
-- receiver; 9.4.5; clause 10: SerializedPayload).
use Rattle.std.specs.Prelude.{◌≡◌, ◌⊎◌, ℕ, ◌<◌, Bool, List, [], length, find, map, Option, Some, None}
use Rattle.std.specs.Option.{option_and_then}
use Rattle.std.specs.Str.{bytes_eq}
use Rattle.dds_base.specs.declared.guid.GuidPrefix.{GuidPrefix}
use Rattle.rtps_wire.specs.Messages.{HasHeader}
use Rattle.rtps_wire.specs.Names.{max_message}
use Rattle.rtps_adapter.specs.declared.direction.Direction.TheVariants.{Outward}
use Rattle.rtps_adapter.specs.declared.direction.Way.TheVariants.{Filling}
use Rattle.rtps_adapter.specs.declared.kinds.WriterKind.{WriterKind}
use Rattle.rtps_adapter.specs.Adapting.{Adapts, IsNone, Makes}
use Rattle.rtps_announcements.specs.declared.locator.Locator.{Locator}
use Rattle.rtps_discovery.specs.declared.row.Row.{Row}
use Rattle.rtps_discovery.specs.Rows.{is_row}
use Rattle.dds_builtin.specs.Kinds.{WithTheirKinds}
use Rattle.dds_exchange.specs.declared.going.Known.{Known}
use Rattle.dds_exchange.specs.Entities.{kind_at_peer, reader_kind, writer_kind}
use Rattle.dds_exchange.specs.Tables.{far_rows, row_of, said_row}

-- The rows say what the writers of a datagram's sender carry; there are none where it is no message.
abbrev pub HasRows : Known → List ℕ → List WriterKind → Type 0
HasRows k bytes rows =
    ((source : GuidPrefix) × (body : List ℕ) × HasHeader bytes source body
    × (map said_row rows ≡ far_rows source k.readers.now k.named.now))
    ⊎ (IsNone bytes × (rows ≡ []))

-- A datagram to our peer: entities are called as a peer has them, other types stand in data, and numbers that can't be read in
-- GAPs.
pub record TurnsIn (k : Known) (bytes out : List ℕ) : Type 0 where
  pub between : List ℕ
  pub rows : List WriterKind
  pub kinds : WithTheirKinds kind_at_peer kind_at_peer bytes between
  pub table : HasRows k between rows
  pub adapts : Makes Filling rows between out

-- That is longer than a datagram may be.
pub record IsTooLongIn (k : Known) (bytes : List ℕ) : Type 0 where
  pub out : List ℕ
  pub turns : TurnsIn k bytes out
  pub long : max_message < length out

-- A packet on its way to a participant: other types stand as their payloads, and entities are called as on the network.
pub record TurnsOut (k : Known) (to : GuidPrefix) (bytes out : List ℕ) : Type 0 where
  pub between : List ℕ
  pub rows : List WriterKind
  pub table : map said_row rows ≡ map (row_of k.own) k.writers.now
  pub adapts : Adapts Outward rows bytes between
  pub kinds : WithTheirKinds (reader_kind k.readers.now k.named.now to) (writer_kind k.writers.now k.named.now to) between out

-- It is longer than a datagram may be, but for what entities are called.
pub record IsTooLongOut (k : Known) (bytes : List ℕ) : Type 0 where
  pub between : List ℕ
  pub rows : List WriterKind
  pub table : map said_row rows ≡ map (row_of k.own) k.writers.now
  pub adapts : Adapts Outward rows bytes between
  pub long : max_message < length between

-- where a participant is sent samples to: the first of its default locators at the address that its datagrams come from
abbrev pub reach : Row → Option Locator
reach r = find (λ (l : Locator). bytes_eq l.address r.source) r.participant.default

-- the same of one that is known
abbrev pub address_of : GuidPrefix → List Row → Option Locator
address_of prefix rows = option_and_then reach (find (is_row prefix) rows)
