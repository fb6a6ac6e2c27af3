-- What a datagram turns into, on its way from the network to a peer or back (RTPS 2.5, 8.3.4 and 9.4.5).
use Rattle.std.specs.Prelude.{◌≡◌, ℕ, ◌<◌, ◌≤◌, ◌||◌, ◌⊎◌, Bool, false, is_some, List, [], ◌∷◌, ◌++◌, length, map}
use Rattle.std.specs.List.{flat_map, list_any}
use Rattle.dds_base.specs.declared.guid.GuidPrefix.{GuidPrefix}
use Rattle.rtps_wire.specs.Frames.{IsFrame, IsEnd}
use Rattle.rtps_wire.specs.Messages.{HasHeader}
use Rattle.rtps_wire.specs.Names.{max_message}
use Rattle.rtps_adapter.specs.declared.kinds.WriterKind.{WriterKind}
use Rattle.rtps_adapter.specs.declared.direction.Direction.{Direction}
use Rattle.rtps_adapter.specs.declared.direction.Way.{Way}
use Rattle.rtps_adapter.specs.declared.direction.Way.TheVariants.{Turning, Filling}
use Rattle.rtps_adapter.specs.declared.adapt.Adapted.{Adapted}
use Rattle.rtps_adapter.specs.declared.adapt.Adapted.TheVariants.{AsItIs, Rewritten, TooLong}
use Rattle.rtps_adapter.specs.Turning.{Piece, foreign_payload, turned}
use Rattle.rtps_adapter.specs.Filling.{filled, lost}

-- The bytes are these submessages, up to where reading ends, and left is what stands there.
abbrev pub StandsIn : List ℕ → List Piece → List ℕ → Type 0
StandsIn bytes [] left = IsEnd bytes × (left ≡ bytes)
StandsIn bytes (p ∷ ps) left =
    (rest : List ℕ) × IsFrame bytes p.id p.flags p.body rest × (bytes ≡ p.text ++ rest) × StandsIn rest ps left

-- the octets of submessages
abbrev pub texts_of : List Piece → List ℕ
texts_of ps = flat_map (λ (p : Piece). p.text) ps

-- The bytes are a message of this sender: its header, submessages up to where reading ends, and what stands there.
pub record IsMessage (bytes : List ℕ) (source : GuidPrefix) (pieces : List Piece) (left : List ℕ) : Type 0 where
  pub header : List ℕ
  pub body : List ℕ
  pub begins : HasHeader bytes source body
  pub parts : bytes ≡ header ++ body
  pub stands : StandsIn body pieces left

-- what a submessage becomes, by what is done with the datagram
abbrev pub becomes : Way → List WriterKind → GuidPrefix → Piece → Piece
becomes (Turning direction) kinds source p = turned direction kinds source p
becomes Filling kinds source p = filled kinds source p

-- The header stays, each submessage becomes what it is to become, and what is not read stays.
pub record Becomes (way : Way) (kinds : List WriterKind) (bytes out : List ℕ) : Type 0 where
  pub source : GuidPrefix
  pub pieces : List Piece
  pub left : List ℕ
  pub message : IsMessage bytes source pieces left
  pub text : out ≡ message.header ++ (texts_of (map (becomes way kinds source) pieces) ++ left)

-- The header stays, each submessage is turned, and what is not read stays.
abbrev pub Turns : Direction → List WriterKind → List ℕ → List ℕ → Type 0
Turns direction kinds bytes out = Becomes (Turning direction) kinds bytes out

-- The bytes are no message.
abbrev pub IsNone : List ℕ → Type 0
IsNone bytes = (source : GuidPrefix) (body : List ℕ) → HasHeader bytes source body → ⊥

-- What bytes become. What is no message stays as it is.
abbrev pub Makes : Way → List WriterKind → List ℕ → List ℕ → Type 0
Makes way kinds bytes out = Becomes way kinds bytes out ⊎ (IsNone bytes × (out ≡ bytes))

-- What bytes turn into. What is no message stays as it is.
abbrev pub Adapts : Direction → List WriterKind → List ℕ → List ℕ → Type 0
Adapts direction kinds bytes out = Makes (Turning direction) kinds bytes out

-- the submessage is a DATA whose payload has to be turned
abbrev pub is_foreign : List WriterKind → GuidPrefix → Piece → Bool
is_foreign kinds source p = is_some (foreign_payload kinds source p.id p.flags p.body)

-- the submessage has to be turned, or its number stands in a GAP
abbrev pub is_touched : Way → List WriterKind → GuidPrefix → Piece → Bool
is_touched (Turning direction) kinds source p = is_foreign kinds source p
is_touched Filling kinds source p = is_foreign kinds source p || is_some (lost kinds source p.id p.flags p.body)

-- Each submessage stays.
abbrev pub Stays : Way → List WriterKind → List ℕ → Type 0
Stays way kinds bytes =
    (source : GuidPrefix) (pieces : List Piece) (left : List ℕ) → IsMessage bytes source pieces left
    → list_any (is_touched way kinds source) pieces ≡ false

-- No submessage has to be turned.
abbrev pub NeedsNothing : List WriterKind → List ℕ → Type 0
NeedsNothing kinds bytes =
    (source : GuidPrefix) (pieces : List Piece) (left : List ℕ) → IsMessage bytes source pieces left
    → list_any (is_foreign kinds source) pieces ≡ false

-- What is answered for bytes says what they become, and is no longer than a message. They become a longer one exactly
-- where that is answered.
abbrev pub IsAnswer : Way → List WriterKind → List ℕ → Adapted → Type 0
IsAnswer way kinds bytes AsItIs = Makes way kinds bytes bytes
IsAnswer way kinds bytes (Rewritten out) = Makes way kinds bytes out × (length out ≤ max_message)
IsAnswer way kinds bytes TooLong = (out : List ℕ) × Makes way kinds bytes out × (max_message < length out)

-- What is answered for bytes says what they turn into, and is no longer than a message. They turn into a longer one
-- exactly where that is answered.
abbrev pub Answers : Direction → List WriterKind → List ℕ → Adapted → Type 0
Answers direction kinds bytes answer = IsAnswer (Turning direction) kinds bytes answer
