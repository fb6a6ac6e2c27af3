-- What the topics of writers carry, in arrays, and what a datagram becomes by it, in memory of the caller.
--
-- RTPS 2.5, 8.2 (GUID_t), 9.6.4.8 (KeyHash); that a table comes in arrays is this project's own.
use Rattle.std.specs.Prelude.{◌≡◌, ◌⊎◌, ℕ, ◌+◌, ◌==◌, ◌&&◌, ◌||◌, not, nat_lt, Bool, true, false, List, length, map, take, drop, if◌then◌else◌}
use Rattle.std.specs.List.{list_any}
use Rattle.dds_base.specs.declared.guid.Guid.{Guid}
use Rattle.rtps_adapter.specs.declared.adapt.Adapted.{Adapted}
use Rattle.rtps_adapter.specs.declared.adapt.Adapted.TheVariants.{AsItIs, Rewritten, TooLong}
use Rattle.rtps_adapter.specs.declared.direction.Direction.TheVariants.{Inward}
use Rattle.rtps_adapter.specs.declared.direction.Way.{Way}
use Rattle.rtps_adapter.specs.declared.direction.Way.TheVariants.{Filling, Turning}
use Rattle.rtps_adapter.specs.declared.kinds.Encoding.{Encoding}
use Rattle.rtps_adapter.specs.declared.kinds.Encoding.TheVariants.{Cdr, Cdr2}
use Rattle.rtps_adapter.specs.declared.kinds.FieldSize.{FieldSize}
use Rattle.rtps_adapter.specs.declared.kinds.FieldSize.TheVariants.{One, Two, Four, Eight}
use Rattle.rtps_adapter.specs.declared.kinds.KeyField.{KeyField}
use Rattle.rtps_adapter.specs.declared.kinds.KeyRule.TheVariants.{Keyless, Fields, ParameterList}
use Rattle.rtps_adapter.specs.declared.kinds.Kind.{Kind}
use Rattle.rtps_adapter.specs.declared.kinds.Kind.TheVariants.{Datum, Opaque}
use Rattle.rtps_adapter.specs.declared.kinds.WriterKind.{WriterKind}
use Rattle.rtps_adapter.specs.Adapting.{IsAnswer}
use Rattle.dds_c.specs.declared.adapting.FlatKeyField.{FlatKeyField}
use Rattle.dds_c.specs.declared.adapting.FlatKind.{FlatKind}
use Rattle.dds_c.specs.Fetching.{Copies, CopiesNothing}
use Rattle.dds_c.specs.Opening.{max_value_of}

-- how many octets a key field takes
abbrev pub size_of : ℕ → FieldSize
size_of octets = if octets == 1 then One else if octets == 2 then Two else if octets == 4 then Four else Eight

-- a key field
abbrev pub field_of : FlatKeyField → KeyField
field_of f = record { place = f.place; size = size_of f.size }

-- its size is one
abbrev pub is_field : FlatKeyField → Bool
is_field f = f.size == 1 || f.size == 2 || f.size == 4 || f.size == 8

-- a kind is one, and has fields among so many where it needs them
abbrev pub is_kind : ℕ → FlatKind → Bool
is_kind count k =
    k.kind == 0 || k.kind == 1 || k.kind == 4
    || ((k.kind == 2 || k.kind == 3)
    && (not (k.field_count == 0) && not (nat_lt count (k.first_field + k.field_count))))

-- a field or a kind is none
abbrev pub no_table : List FlatKeyField → List FlatKind → Bool
no_table fields kinds =
    list_any (λ (f : FlatKeyField). not (is_field f)) fields
    || list_any (λ (k : FlatKind). not (is_kind (length fields) k)) kinds

-- what a topic carries: the datum, a type without a key, one with these key fields, or a list of parameters
pub data Carried : Type 0 where
  TheDatum : Carried
  NoKey : Carried
  KeyFields : Encoding → List KeyField → Carried
  Parameters : Carried

-- what a row of a table says
abbrev pub carried_of : Kind → Carried
carried_of Datum = TheDatum
carried_of (Opaque Keyless) = NoKey
carried_of (Opaque (Fields encoding fields)) = KeyFields encoding fields.now
carried_of (Opaque ParameterList) = Parameters

abbrev pub said_of : WriterKind → Guid × Carried × ℕ
said_of row = (row.writer, carried_of row.kind, row.max_value)

-- what the same row says in arrays, among these fields
abbrev pub fields_at : List KeyField → FlatKind → List KeyField
fields_at fields k = take k.field_count (drop k.first_field fields)

abbrev pub carried_by : List KeyField → FlatKind → Carried
carried_by fields k =
    if k.kind == 0 then TheDatum
    else if k.kind == 1 then NoKey
    else if k.kind == 2 then KeyFields Cdr (fields_at fields k)
    else if k.kind == 4 then Parameters
    else KeyFields Cdr2 (fields_at fields k)

abbrev pub said_by : List KeyField → FlatKind → Guid × Carried × ℕ
said_by fields k = (
  record { prefix = record { 0 = k.prefix }; entity = record { 0 = k.entity } },
  carried_by fields k,
  max_value_of k.max_value,
)

-- what is done with a datagram of the network
abbrev pub way_of : Bool → Way
way_of true = Filling
way_of false = Turning Inward

-- What is handed on is copied; the code is 11 where it is the datagram as it stands, and nothing is written, and 5, with a
-- length of 0, where it would be longer than a message may be.
abbrev pub AdaptedCopied : Adapted → (old new : List ℕ) → (before needed code : ℕ) → Type 0
AdaptedCopied AsItIs old new before needed code = CopiesNothing old new before needed 11 code
AdaptedCopied (Rewritten octets) old new before needed code = Copies octets old new needed code
AdaptedCopied TooLong old new before needed code = (new ≡ old) × (needed ≡ 0) × (code ≡ 5)

-- what the datagram becomes, by rows that say what the arrays say, is handed on so
pub record TurnedBy (way : Way) (fields : List FlatKeyField) (kinds : List FlatKind) (datagram old new : List ℕ)
    (before needed code : ℕ) : Type 0 where
  pub rows : List WriterKind
  pub say : map said_of rows ≡ map (said_by (map field_of fields)) kinds
  pub becomes : Adapted
  pub answer : IsAnswer way rows datagram becomes
  pub copied : AdaptedCopied becomes old new before needed code

-- it is; or the arrays are no table, and the code is 3; or there is no memory, and it is 100; then nothing is written
abbrev pub Turned : Way → List FlatKeyField → List FlatKind → List ℕ → (old new : List ℕ) → (before needed code : ℕ)
    → Type 0
Turned way fields kinds datagram old new before needed code =
    ((no_table fields kinds ≡ false) × TurnedBy way fields kinds datagram old new before needed code)
    ⊎ ((no_table fields kinds ≡ true) × CopiesNothing old new before needed 3 code)
    ⊎ ((no_table fields kinds ≡ false) × CopiesNothing old new before needed 100 code)
