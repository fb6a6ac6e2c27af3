-- What a peer wrote goes to the network, and comes back to a peer as it was (RTPS 2.5, clause 10).
use Rattle.std.specs.Prelude.{◌≡◌, ℕ, ◌≤◌, List, ◌∷◌, length, Some}
use Rattle.std.specs.List.{AllByRecursion}
use Rattle.dds_base.specs.declared.guid.GuidPrefix.{GuidPrefix}
use Rattle.dds_base.specs.declared.key.Key.{Key}
use Rattle.rtps_wire.specs.declared.data.ChangeBody.{ChangeBody}
use Rattle.rtps_wire.specs.declared.data.ChangeBody.TheVariants.{Write, Dispose, Unregister, DisposeUnregister}
use Rattle.rtps_wire.specs.declared.message.Message.{Message}
use Rattle.rtps_wire.specs.declared.submessage.Submessage.{Submessage}
use Rattle.rtps_wire.specs.declared.submessage.Submessage.TheVariants.{Data}
use Rattle.rtps_wire.specs.Messages.{IsWritable, spelling_of}
use Rattle.rtps_wire.specs.Submessages.{octets_of_change}
use Rattle.rtps_wire.specs.Names.{max_message}
use Rattle.rtps_adapter.specs.declared.direction.Direction.TheVariants.{Inward, Outward}
use Rattle.rtps_adapter.specs.declared.direction.Way.TheVariants.{Filling}
use Rattle.rtps_adapter.specs.declared.kinds.Kind.{Kind}
use Rattle.rtps_adapter.specs.declared.kinds.Kind.TheVariants.{Datum, Opaque}
use Rattle.rtps_adapter.specs.declared.kinds.KeyRule.{KeyRule}
use Rattle.rtps_adapter.specs.declared.kinds.KeyRule.TheVariants.{Keyless, Fields, ParameterList}
use Rattle.rtps_adapter.specs.declared.kinds.WriterKind.{WriterKind}
use Rattle.rtps_adapter.specs.Kinds.{kind_of, most_of, no_key}
use Rattle.rtps_adapter.specs.Keys.{key_alone, key_by, representation_of}
use Rattle.rtps_adapter.specs.Payloads.{payload_of}
use Rattle.rtps_adapter.specs.Adapting.{Adapts, Makes}

-- a value that a payload can carry
abbrev pub IsValue : List ℕ → Type 0
IsValue value = (payload : List ℕ) × (payload_of value ≡ Some payload)

-- A key that a type of the rule has, and that can be said alone: of key fields it is what they say where they stand in
-- its own sixteen octets, big-endian; of a list of parameters it is any.
abbrev pub IsKey : KeyRule → Key → Type 0
IsKey Keyless k = k ≡ no_key
IsKey (Fields encoding fields) k =
    key_alone (Fields encoding fields) (0 ∷ representation_of encoding ∷ 0 ∷ 0 ∷ k.0) ≡ Some k
IsKey ParameterList k = Unit {0}

-- A change is one of a type of the rule: its value is a payload's, and has its key.
abbrev pub FitsRule : KeyRule → ChangeBody → Type 0
FitsRule rule (Write d) = IsValue d.value × (key_by rule d.value ≡ Some d.key)
FitsRule rule (Dispose k) = IsKey rule k
FitsRule rule (Unregister k) = IsKey rule k
FitsRule rule (DisposeUnregister k) = IsKey rule k

-- Any change is one of the datum.
abbrev pub FitsKind : Kind → ChangeBody → Type 0
FitsKind Datum b = Unit {0}
FitsKind (Opaque rule) b = FitsRule rule b

-- The change of a DATA is one of the type that the topic of its writer carries.
abbrev pub Fits : List WriterKind → GuidPrefix → Submessage → Type 0
Fits kinds source (Data d) = FitsKind (kind_of kinds source d.writer_id) d.content.body
Fits kinds source s = Unit {0}

-- A list of parameters that says a key alone has eight octets more than the key form; all else gets no longer.
abbrev pub GetsNoLonger : KeyRule → ChangeBody → Type 0
GetsNoLonger ParameterList (Write d) = Unit {0}
GetsNoLonger ParameterList b = ⊥
GetsNoLonger rule b = Unit {0}

abbrev pub StaysShort : Kind → ChangeBody → Type 0
StaysShort Datum b = Unit {0}
StaysShort (Opaque rule) b = GetsNoLonger rule b

-- The change of a DATA gets no longer.
abbrev pub IsShort : List WriterKind → GuidPrefix → Submessage → Type 0
IsShort kinds source (Data d) = StaysShort (kind_of kinds source d.writer_id) d.content.body
IsShort kinds source s = Unit {0}

-- What a peer wrote comes back as it was, octet for octet, where each change is one of the type that its topic carries;
-- and it gets no longer on its way, but for keys that lists of parameters say alone. With these it may get longer than a
-- message: then nothing is handed on.
abbrev pub ComesBack : Type 0
ComesBack = (kinds : List WriterKind) (m : Message) (out back : List ℕ) → IsWritable m
    → AllByRecursion (Fits kinds m.prefix) m.submessages
    → Adapts Outward kinds (spelling_of m) out → Adapts Inward kinds out back
    → (AllByRecursion (IsShort kinds m.prefix) m.submessages → length out ≤ length (spelling_of m))
    × (length out ≤ max_message → back ≡ spelling_of m)

-- The value of a DATA has no more octets than the table says of its writer.
abbrev pub IsWithin : List WriterKind → GuidPrefix → Submessage → Type 0
IsWithin kinds source (Data d) = octets_of_change d.content.body ≤ most_of kinds source d.writer_id
IsWithin kinds source s = Unit {0}

-- It comes back so too where the numbers that a peer could not read stand in GAPs: none of them is one that a peer
-- wrote, where no value is longer than the table says.
abbrev pub ComesBackWithGaps : Type 0
ComesBackWithGaps = (kinds : List WriterKind) (m : Message) (out back : List ℕ) → IsWritable m
    → AllByRecursion (Fits kinds m.prefix) m.submessages → AllByRecursion (IsWithin kinds m.prefix) m.submessages
    → Adapts Outward kinds (spelling_of m) out → Makes Filling kinds out back → length out ≤ max_message
    → back ≡ spelling_of m
