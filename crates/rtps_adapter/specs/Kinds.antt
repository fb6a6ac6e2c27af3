-- What the topics of writers carry (RTPS 2.5, 8.2: GUID_t; clause 10: SerializedPayload).
use Rattle.std.specs.Prelude.{ℕ, ◌&&◌, Bool, List, Option, None, Some, find, replicate}
use Rattle.std.specs.Option.{option_map_or}
use Rattle.dds_base.specs.declared.guid.EntityId.{EntityId}
use Rattle.dds_base.specs.declared.guid.GuidPrefix.{GuidPrefix}
use Rattle.dds_base.specs.declared.key.Key.{Key}
use Rattle.dds_base.specs.Bounds.{key_octets, usual_value}
use Rattle.dds_base.specs.Checked.{same_prefix, same_entity}
use Rattle.rtps_adapter.specs.declared.kinds.Kind.{Kind}
use Rattle.rtps_adapter.specs.declared.kinds.Kind.TheVariants.{Datum, Opaque}
use Rattle.rtps_adapter.specs.declared.kinds.KeyRule.{KeyRule}
use Rattle.rtps_adapter.specs.declared.kinds.WriterKind.{WriterKind}

-- the row is of this writer
abbrev pub is_of : GuidPrefix → EntityId → WriterKind → Bool
is_of prefix entity row = same_prefix row.writer.prefix prefix && same_entity row.writer.entity entity

-- what the topic of a writer carries: what its first row says, and a datum where it has none
abbrev pub kind_of : List WriterKind → GuidPrefix → EntityId → Kind
kind_of kinds prefix entity = option_map_or (λ (row : WriterKind). row.kind) (find (is_of prefix entity) kinds) Datum

-- how many octets a value of a writer has at most: what its first row says, and as many as usual where it has none
abbrev pub most_of : List WriterKind → GuidPrefix → EntityId → ℕ
most_of kinds prefix entity =
    option_map_or (λ (row : WriterKind). row.max_value) (find (is_of prefix entity) kinds) usual_value

-- the rule of the key, where it is no datum
abbrev pub rule_of : Kind → Option KeyRule
rule_of Datum = None
rule_of (Opaque rule) = Some rule

-- the key of the one instance of a type without a key: sixteen zeros
abbrev pub no_key : Key
no_key = record { 0 = replicate key_octets 0 }
