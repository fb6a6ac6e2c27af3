-- Which payloads of another type can't be turned for a peer (RTPS 2.5, clause 10: SerializedPayload; XTypes 1.3,
-- 7.6.3.1.2: how many octets of padding end a payload).
use Rattle.std.specs.Prelude.{◌≡◌, ℕ, ◌+◌, ◌%◌, ◌<◌, Bool, false, List, [], ◌∷◌, ◌++◌, length, None, Some}
use Rattle.rtps_adapter.specs.declared.kinds.KeyField.{KeyField}
use Rattle.rtps_adapter.specs.declared.kinds.KeyRule.{KeyRule}
use Rattle.rtps_adapter.specs.declared.kinds.KeyRule.TheVariants.{Keyless, Fields, ParameterList}
use Rattle.rtps_adapter.specs.Keys.{size_of}
use Rattle.rtps_adapter.specs.Payloads.{inward_payload, value_at}

-- a payload of fewer than four octets
abbrev pub ShortCantBeTurned : Type 0
ShortCantBeTurned = (rule : KeyRule) (is_key : Bool) (payload : List ℕ) → length payload < 4
    → inward_payload rule is_key payload ≡ None

-- one whose options count more octets of padding than follow them
abbrev pub PaddingCantBeTurned : Type 0
PaddingCantBeTurned = (rule : KeyRule) (is_key : Bool) (a b c d : ℕ) (body : List ℕ) → length body < d % 4
    → inward_payload rule is_key (a ∷ b ∷ c ∷ d ∷ body) ≡ None

-- the key fields of a rule
abbrev pub fields_of : KeyRule → List KeyField
fields_of Keyless = []
fields_of (Fields encoding fields) = fields.now
fields_of ParameterList = []

-- the payload of a value whose body ends before a key field does
abbrev pub FieldsHaveToBeThere : Type 0
FieldsHaveToBeThere = (rule : KeyRule) (before after : List KeyField) (f : KeyField) (payload : List ℕ) (a b c d : ℕ)
    (body : List ℕ) → fields_of rule ≡ before ++ f ∷ after → value_at payload ≡ Some (a ∷ b ∷ c ∷ d ∷ body)
    → length body < f.place + size_of f.size → inward_payload rule false payload ≡ None
