-- What of a message stays as it was, and what of it nobody reads (RTPS 2.5, 8.3.4 and 9.4.5).
use Rattle.std.specs.Prelude.{◌≡◌, ℕ, ◌≤◌, List, length, take, map, None, Some}
use Rattle.dds_base.specs.declared.guid.EntityId.{EntityId}
use Rattle.dds_base.specs.declared.guid.GuidPrefix.{GuidPrefix}
use Rattle.rtps_wire.specs.declared.data.Data.{Data as DataOf}
use Rattle.rtps_wire.specs.declared.submessage.Submessage.TheVariants.{Data}
use Rattle.rtps_wire.specs.Names.{max_message}
use Rattle.rtps_wire.specs.Submessages.{Reads}
use Rattle.rtps_adapter.specs.declared.direction.Direction.{Direction}
use Rattle.rtps_adapter.specs.declared.kinds.Kind.TheVariants.{Datum}
use Rattle.rtps_adapter.specs.declared.kinds.WriterKind.{WriterKind}
use Rattle.rtps_adapter.specs.Kinds.{kind_of}
use Rattle.rtps_adapter.specs.Opened.{payload_at}
use Rattle.rtps_adapter.specs.Turning.{Piece, Payload, foreign_payload, turned_payload, turned}
use Rattle.rtps_adapter.specs.Adapting.{IsMessage, Turns}

-- extraFlags, octetsToInlineQos, readerId, writerId and writerSN of a DATA
abbrev pub len_data_head : ℕ
len_data_head = 20

-- The submessage has the id that it had, and the same head.
pub record HasSameHead (was is : Piece) : Type 0 where
  pub id : is.id ≡ was.id
  pub head : take len_data_head is.body ≡ take len_data_head was.body

-- What a message turns into is a message of the same sender, with as many submessages, each in its place with its id
-- and head, and with the same octets behind them.
pub record StaysInPlace (direction : Direction) (kinds : List WriterKind) (bytes out : List ℕ) : Type 0 where
  pub source : GuidPrefix
  pub pieces : List Piece
  pub left : List ℕ
  pub was : IsMessage bytes source pieces left
  pub is : IsMessage out source (map (turned direction kinds source) pieces) left
  pub heads : (p : Piece) → HasSameHead p (turned direction kinds source p)

-- Each message that turns into one that is no longer than a message may be stays in its places.
abbrev pub Same : Type 0
Same = (direction : Direction) (kinds : List WriterKind) (bytes out : List ℕ) → Turns direction kinds bytes out
    → length out ≤ max_message → StaysInPlace direction kinds bytes out

-- A DATA of a writer whose topic carries the datum, by the table or as the table does not say, stays as it is.
abbrev pub StrangersStay : Type 0
StrangersStay = (direction : Direction) (kinds : List WriterKind) (source : GuidPrefix) (p : Piece) (writer : EntityId)
    (payload : List ℕ) → payload_at p.flags p.body ≡ Some (writer, payload) → kind_of kinds source writer ≡ Datum
    → turned direction kinds source p ≡ p

-- No peer reads a DATA whose payload can't be turned.
abbrev pub NoneIsRead : Type 0
NoneIsRead = (direction : Direction) (kinds : List WriterKind) (source : GuidPrefix) (p : Piece) (x : Payload)
    (d : DataOf)
    → foreign_payload kinds source p.id p.flags p.body ≡ Some x → turned_payload direction x ≡ None
    → Reads (turned direction kinds source p).id (turned direction kinds source p).flags
    (turned direction kinds source p).body (Data d)
    → ⊥
