-- What the topics of writers carry, as datagrams are turned by it (RTPS 2.5, clause 10: SerializedPayload).
use Rattle.std.specs.Prelude.{ℕ, ◌-◌, ◌==◌, ◌&&◌, ◌||◌, not, Bool, true, false, List, filter_map, slice_get, Option, None, option_map, if◌then◌else◌}
use Rattle.dds_base.specs.declared.guid.EntityId.{EntityId}
use Rattle.dds_base.specs.declared.guid.Guid.{Guid}
use Rattle.dds_base.specs.declared.guid.GuidPrefix.{GuidPrefix}
use Rattle.dds_base.specs.Checked.{same_prefix}
use Rattle.rtps_adapter.specs.declared.kinds.Encoding.{Encoding}
use Rattle.rtps_adapter.specs.declared.kinds.KeyField.{KeyField}
use Rattle.rtps_adapter.specs.declared.kinds.KeyRule.TheVariants.{Keyless as NoKeyRule, Fields, ParameterList}
use Rattle.rtps_adapter.specs.declared.kinds.Kind.{Kind}
use Rattle.rtps_adapter.specs.declared.kinds.Kind.TheVariants.{Datum as DatumKind, Opaque}
use Rattle.rtps_adapter.specs.declared.kinds.WriterKind.{WriterKind}
use Rattle.rtps_announcements.specs.declared.qos.EndpointKind.{EndpointKind}
use Rattle.rtps_announcements.specs.declared.qos.EndpointKind.TheVariants.{Reader, Writer}
use Rattle.dds_exchange.specs.declared.carried.Carried.{Carried}
use Rattle.dds_exchange.specs.declared.carried.Carried.TheVariants.{Datum, Keyed, Keyless}
use Rattle.dds_exchange.specs.declared.ends.OwnEnd.{OwnEnd}
use Rattle.dds_exchange.specs.declared.naming.NamedEnd.{NamedEnd}
use Rattle.dds_exchange.specs.Entities.{keyed}

-- what is said of a topic: the datum, a type without a key, one with these key fields, or a list of parameters
pub data Said : Type 0 where
  TheDatum : Said
  NoKey : Said
  KeyFields : Encoding → List KeyField → Said
  Parameters : Said

-- what a table says
abbrev pub said_of : Kind → Said
said_of DatumKind = TheDatum
said_of (Opaque NoKeyRule) = NoKey
said_of (Opaque (Fields encoding fields)) = KeyFields encoding fields.now
said_of (Opaque ParameterList) = Parameters

-- what an endpoint of ours says
abbrev pub said_by : Carried → Said
said_by Datum = TheDatum
said_by Keyless = NoKey
said_by (Keyed encoding fields) = KeyFields encoding fields.items

-- a row of a table: a writer, what it carries, and how many octets a value has at most
abbrev pub said_row : WriterKind → Guid × Said × ℕ
said_row row = (row.writer, said_of row.kind, row.max_value)

-- that of the writer that is called so, which carries what an endpoint of ours does
abbrev pub row_as : GuidPrefix → EntityId → OwnEnd → Guid × Said × ℕ
row_as prefix entity end = (record { prefix = prefix; entity = keyed entity }, said_by end.carried, end.max_value)

-- that of a writer of ours
abbrev pub row_of : GuidPrefix → OwnEnd → Guid × Said × ℕ
row_of own end = row_as own end.entity end

-- it is a writer
abbrev pub is_writer : EndpointKind → Bool
is_writer Writer = true
is_writer Reader = false

-- it is a writer of this participant
abbrev pub is_heard : GuidPrefix → NamedEnd → Bool
is_heard source end = is_writer end.kind && same_prefix end.guid.prefix source

-- that of a writer of this participant: it carries what the reader of ours does that was matched with it first
abbrev pub row_of_far : GuidPrefix → List OwnEnd → NamedEnd → Option (Guid × Said × ℕ)
row_of_far source readers end =
    if not (is_heard source end) || end.own == 0 then None
    else option_map (row_as source end.guid.entity) (slice_get readers (end.own - 1))

-- those of the writers of a participant
abbrev pub far_rows : GuidPrefix → List OwnEnd → List NamedEnd → List (Guid × Said × ℕ)
far_rows source readers named = filter_map (row_of_far source readers) named
