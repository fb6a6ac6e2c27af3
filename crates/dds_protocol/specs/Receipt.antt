-- What a delivered packet does, submessage by submessage: each that is reached makes its moves, a DATA with the change
-- at a reader's place moves that place, and from the one that found no memory on none is applied
-- (RTPS 2.5, 8.3.4, the rules of the message receiver).
use Rattle.std.specs.Prelude.{◌≡◌, ◌⊎◌, ℕ, ◌+◌, ◌<◌, ◌≤◌, false, List, [], ◌∷◌, ◌++◌, Option, Some, None}
use Rattle.dds_base.specs.declared.change.Change.{Change}
use Rattle.dds_protocol.specs.Roster.{Roster}
use Rattle.dds_base.specs.declared.guid.GuidPrefix.{GuidPrefix}
use Rattle.dds_base.specs.Bounds.{max_sn}
use Rattle.dds_base.specs.Places.{coming}
use Rattle.dds_base.specs.Presence.{has_room}
use Rattle.rtps_wire.specs.declared.message.Message.{Message}
use Rattle.rtps_wire.specs.declared.submessage.Submessage.{Submessage}
use Rattle.rtps_wire.specs.Messages.{ReadsMessage}
use Rattle.dds_base.specs.declared.endpoint.Endpoint.{Endpoint}
use Rattle.dds_machine.specs.declared.reply.Move.{Move}
use Rattle.dds_machine.specs.declared.reply.Move.TheVariants.{Place}
use Rattle.dds_machine.specs.declared.reply.Report.{Report}
use Rattle.dds_machine.specs.Part.{Part, own_reader}
use Rattle.dds_machine.specs.Moves.{Grounds, match_of, IsMatchedAt, position_at, AreMoves}
use Rattle.dds_protocol.specs.Claims.{Receiver, receiver_of, after_submessage, ChangeIs, Concerns, Says}

-- one of the moves takes the reader's place in the writer's list beyond this number
abbrev pub GoesOver : Endpoint → ℕ → ℕ → List Move → Type 0
GoesOver writer reader number [] = ⊥
GoesOver writer reader number (Place w r to passed ∷ moves) =
    ((w ≡ writer) × (r ≡ reader) × (number < to)) ⊎ GoesOver writer reader number moves
GoesOver writer reader number (m ∷ moves) = GoesOver writer reader number moves

-- a change that the reader may take for the one at its place has no room
pub record HasNoRoom (grounds : Grounds) (part : Part) (writer : Endpoint) (reader publication place : ℕ) : Type 0 where
  pub change : Change
  pub is_change : grounds.is_change writer reader place change
  pub no_room : has_room (own_reader part reader).qos (own_reader part reader).happened
      (coming (match_of part reader publication) (position_at part reader place) change) ≡ false

-- A submessage with the change at the place of one of the peer's readers moves that place, unless there is no room. No
-- number of a message is above 2^62.
abbrev pub MovesOver : Roster → Grounds → ℕ → GuidPrefix → Receiver → Submessage → Part → List Move → Type 0
MovesOver roster grounds peer own at submessage part moves =
    (writer reader : Endpoint) (publication number : ℕ) (change : Change)
    → Says roster own at submessage (ChangeIs writer reader number change) → reader.peer ≡ peer
    → IsMatchedAt part writer reader.number publication number → 1 ≤ number → number ≤ max_sn
    → GoesOver writer reader.number number moves ⊎ HasNoRoom grounds part writer reader.number publication number

-- The submessages from this index on are taken up in turn. Either one that concerns the peer finds no memory, and
-- nothing is done from it on, or it makes its moves, and those that follow make theirs.
abbrev pub TakesUp : Roster → (ℕ → Grounds) → ℕ → GuidPrefix → ℕ → Receiver → List Submessage → Part → List Move
    → Option ℕ → Part → Type 0
TakesUp roster grounds peer own index at [] old moves refused new = (moves ≡ []) × (refused ≡ None) × (new ≡ old)
TakesUp roster grounds peer own index at (submessage ∷ rest) old moves refused new =
    ((moves ≡ []) × (refused ≡ Some index) × (new ≡ old) × Concerns roster own peer at submessage)
    ⊎ ((made later : List Move) × (mid : Part) × (moves ≡ made ++ later) × AreMoves (grounds index) old made mid
    × MovesOver roster (grounds index) peer own at submessage old made
    × TakesUp roster grounds peer own (index + 1) (after_submessage own at submessage) rest mid later refused new)

-- the bytes are a message, whose submessages are taken up
pub record IsTaken (roster : Roster) (grounds : ℕ → Grounds) (peer : ℕ) (bytes : List ℕ) (old : Part) (report : Report)
    (new : Part) : Type 0 where
  pub message : Message
  pub offset : ℕ
  pub is_read : ReadsMessage bytes message offset
  pub taken : TakesUp roster grounds peer (roster.prefix peer) 0
      (receiver_of message.prefix) message.submessages old report.moves report.refused new

-- the bytes are no message: nothing is done
pub record IsNotTaken (bytes : List ℕ) (old : Part) (report : Report) (new : Part) : Type 0 where
  pub unread : (message : Message) (offset : ℕ) → ReadsMessage bytes message offset → ⊥
  pub moves : report.moves ≡ []
  pub refused : report.refused ≡ None
  pub after : new ≡ old

-- what the peer of this number does with a packet
abbrev pub Receives : Roster → (ℕ → Grounds) → ℕ → List ℕ → Part → Report → Part → Type 0
Receives roster grounds peer bytes old report new =
    IsTaken roster grounds peer bytes old report new ⊎ IsNotTaken bytes old report new
