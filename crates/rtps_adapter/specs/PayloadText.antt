-- The octets of what stands in place of a payload. Inner functions alone cite this: nothing here has to be believed.
--
-- RTPS 2.5, clause 10 (SerializedPayload).
use Rattle.std.specs.Prelude.{◌≡◌, ℕ, ◌+◌, ◌≤◌, ◌<◌, Bool, List, ◌++◌, length, Option, None, Some, MatchBool}
use Rattle.dds_base.specs.DatumText.{spelling_of_datum, spelling_of_key}
use Rattle.rtps_wire.specs.Names.{max_message}
use Rattle.rtps_wire.specs.Submessages.{padding}
use Rattle.rtps_adapter.specs.Turning.{Piece}
use Rattle.rtps_adapter.specs.declared.payload.NewPayload.{NewPayload}
use Rattle.rtps_adapter.specs.declared.payload.NewPayload.TheVariants.{Datum, KeyForm, Own, ParameterList}
use Rattle.rtps_adapter.specs.Payloads.{list_of_key}

abbrev pub new_text : NewPayload → List ℕ
new_text (Datum key value) = spelling_of_datum (record { key = key; value = value })
new_text (KeyForm key) = spelling_of_key key
new_text (Own octets) = octets ++ padding (length octets)
new_text (ParameterList key) = list_of_key key

-- the body of a DATA that has it in place of its own payload, and of one that stands as it stood
abbrev pub body_with : List ℕ → Option NewPayload → List ℕ
body_with front None = front
body_with front (Some payload) = (front ++ new_text payload) ++ padding (length (front ++ new_text payload))

-- Octets are appended to those of a message, if all are then no longer than a message.
abbrev pub Puts : List ℕ → List ℕ → List ℕ → Bool → Type 0
Puts old new octets fits =
    MatchBool fits ((new ≡ old ++ octets) × (length new ≤ max_message)) (max_message < length old + length octets)

-- a submessage that stands in these octets
abbrev pub piece_in : ℕ → ℕ → List ℕ → List ℕ → Piece
piece_in id flags body octets = record { id = id; flags = flags; body = body; text = octets }
