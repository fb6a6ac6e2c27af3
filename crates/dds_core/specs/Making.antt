-- What a peer does when one of its writers is to make a change. Inner functions alone cite this: nothing here has to be
-- believed.
--
-- DDS 1.4, 2.2.2.4 (write, dispose, unregister_instance); RTPS 2.5, 8.4.7 (StatefulWriter).
use Rattle.std.specs.Prelude.{◌≡◌, ◌≢◌, ◌⊎◌, ℕ, ◌+◌, Contains, [], None, List}
use Rattle.dds_base.specs.declared.change.Change.{Change}
use Rattle.dds_base.specs.declared.change.ChangeKind.{ChangeKind}
use Rattle.dds_base.specs.declared.change.ChangeKind.TheVariants as kind
use Rattle.dds_base.specs.declared.code.Code.{Code}
use Rattle.dds_protocol.specs.Roster.{Roster}
use Rattle.dds_base.specs.declared.key.Key.{Key}
use Rattle.dds_base.specs.Refusal.{Refuses}
use Rattle.dds_base.specs.Written.{Changed}
use Rattle.dds_protocol.specs.declared.event.Output.{Output}
use Rattle.dds_protocol.specs.declared.event.Packet.{Packet}
use Rattle.dds_machine.specs.declared.reply.Reply.TheVariants.{Done, Refused}
use Rattle.dds_machine.specs.Part.{Part}
use Rattle.dds_machine.specs.Refusals.{change_made, change_refusal}
use Rattle.dds_machine.specs.Calls.{writes, effect}
use Rattle.dds_protocol.specs.Claims.{Claim, Claims}
use Rattle.dds_protocol.specs.Peer.{Peer, IsTrueAt}
use Rattle.dds_core.specs.Kept.{PeerKept}
use Rattle.dds_core.specs.Standing.{StandsFor}
use Rattle.dds_core.specs.Sending.{SendsFor}

-- the part of a peer to whose writer this has happened besides
abbrev pub entered : Part → ℕ → Change → Part
entered part writer change = record part { rtps = effect part.rtps (writes writer (Changed change)) }

-- only a write has a value
abbrev pub IsValueOf : ChangeKind → List ℕ → Type 0
IsValueOf k value = k ≢ kind.Write → value ≡ []

-- the change is refused, as the history says or for want of memory, and that is all
pub record IsNotMade (roster : Roster) (peer : Peer) (writer : ℕ) (change : Change) (output : Output)
    (new : PeerKept) : Type 0 where
  pub code : Code
  pub cause : Refuses (change_refusal peer.part writer change) code
  pub output_is : output ≡ record { reply = Refused code; packets = []; unsent = 0 }
  pub stands : StandsFor new roster peer

-- the change is made and announced, and what is sent claims the truth
pub record IsMade (roster : Roster) (peer : Peer) (writer : ℕ) (change : Change) (output : Output)
    (new : PeerKept) : Type 0 where
  pub accepted : change_refusal peer.part writer change ≡ None
  pub reply : output.reply ≡ Done
  pub sends : SendsFor roster peer (writes writer (Changed change)) output
  pub is_true : (packet : Packet) (claim : Claim) → Contains output.packets packet → Claims roster packet.bytes claim
      → IsTrueAt peer.number (entered peer.part writer change) claim
  pub stands : StandsFor new roster (record peer { part = entered peer.part writer change })

-- one or the other, for each state that the old values stand for
abbrev pub Makes : PeerKept → ℕ → ChangeKind → Key → List ℕ → Output → PeerKept → Type 0
Makes old index k key value output new = (roster : Roster) (peer : Peer) → StandsFor old roster peer
    → IsMade roster peer (index + 1) (change_made peer.part (index + 1) k key value) output new
    ⊎ IsNotMade roster peer (index + 1) (change_made peer.part (index + 1) k key value) output new
