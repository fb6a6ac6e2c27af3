-- How far a peer has come in a packet: the readers that were told, and the submessages that were taken up.
use Rattle.std.specs.Prelude.{◌≡◌, ℕ, List, ◌++◌, drop, Option}
use Rattle.dds_protocol.specs.Roster.{Roster}
use Rattle.dds_base.specs.declared.guid.GuidPrefix.{GuidPrefix}
use Rattle.rtps_wire.specs.declared.submessage.Submessage.{Submessage}
use Rattle.dds_machine.specs.declared.reply.Move.{Move}
use Rattle.dds_protocol.specs.Claims.{Receiver, receiver_of}
use Rattle.dds_protocol.specs.Peer.{Peer, state_of}
use Rattle.dds_protocol.specs.DueMessages.{Due, AreSent}
use Rattle.dds_protocol.specs.Protocol.{State}
use Rattle.dds_core.specs.declared.effects.Effects.{Effects}
use Rattle.dds_ends.specs.declared.reader_told.Ready.{Ready}
use Rattle.dds_ends.specs.declared.sending.Announced.{Announced}
use Rattle.dds_core.specs.Kept.{PeerKept}
use Rattle.dds_core.specs.Standing.{StandsFor}
use Rattle.dds_core.specs.Readiness.{AreReady}
use Rattle.dds_core.specs.Receiving.{ReadersTake, FollowsBody, with_state}

-- each reader before this index was told what was ready for it; the others are as they were
pub record TakesSome (old : PeerKept) (ready : List (Option Ready)) (index : ℕ) (effects : Effects) (now : PeerKept)
    (after : Effects) : Type 0 where
  pub made : List Move
  pub after_is : after.moves.items ≡ effects.moves.items ++ made
  pub takes : (at : Receiver) (submessage : Submessage) → AreReady old.prefix at submessage old.readers ready
      → ReadersTake old at submessage index made effects.sent now after.sent
  pub left : drop index now.readers ≡ drop index old.readers
  pub prefix : now.prefix ≡ old.prefix

-- for each state that the old values stand for, so many submessages at the front of the body were taken up with these
-- moves, and what was then due was sent: whatever those that are left bring, it follows on
pub record TakenTo (old : PeerKept) (source : GuidPrefix) (body left : List ℕ) (index : ℕ) (at : Receiver)
    (moves : List Move) (now : PeerKept) (gone : Announced) (roster : Roster) (peer : Peer) : Type 0 where
  pub state : State
  pub dues : List Due
  pub stands : StandsFor now roster (with_state peer state)
  pub sent : AreSent dues gone.packets.items gone.unsent
  pub on : (later : List Move) (refused : Option ℕ) (last : List Due) (after : State)
      → FollowsBody roster old.prefix peer.number index at left state later refused last after
      → FollowsBody roster old.prefix peer.number 0 (receiver_of source) body (state_of peer)
      (moves ++ later) refused (dues ++ last) after

-- the same, said of each state that the old values stand for
abbrev pub TakesTo : PeerKept → GuidPrefix → List ℕ → List ℕ → ℕ → Receiver → List Move → PeerKept → Announced → Type 0
TakesTo old source body left index at moves now gone =
    (roster : Roster) (peer : Peer) → StandsFor old roster peer
    → TakenTo old source body left index at moves now gone roster peer
