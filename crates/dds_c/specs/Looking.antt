-- What is looked at of a participant: whom its writers and readers are matched with, and whether a reader is behind.
--
-- DDS 1.4, 2.2.2.4 (get_matched_subscriptions, wait_for_acknowledgments), 2.2.2.5 (get_matched_publications).
use Rattle.std.specs.Prelude.{◌≡◌, ◌⊎◌, ℕ, ◌≤◌, Bool, true, false, List, slice_get, Option, Some, None}
use Rattle.dds_core.specs.Standing.{StandsFor}
use Rattle.dds_machine.specs.Part.{Part}
use Rattle.dds_protocol.specs.Peer.{Peer}
use Rattle.dds_protocol.specs.Roster.{Roster}
use Rattle.rtps_announcements.specs.declared.qos.EndpointKind.{EndpointKind}
use Rattle.dds_exchange.specs.declared.naming.NamedEnd.{NamedEnd}
use Rattle.dds_exchange.specs.Behind.{is_behind}
use Rattle.dds_domain.specs.Matched.{AreMatched, own_at}
use Rattle.dds_domain.specs.Participants.{State}
use Rattle.dds_c.specs.Announcing.{kind_of}
use Rattle.dds_c.specs.Partaking.{ElementWritten, octets_of}
use Rattle.dds_c.specs.declared.member.Member.{Member}

-- the sixteen octets of what one is called on the network
abbrev pub end_octets : NamedEnd → List ℕ
end_octets end = octets_of end.guid

-- what is written of one that is matched, counted from 0
pub record MatchedWritten (a : State) (kind : EndpointKind) (number at : ℕ) (old new : List ℕ) (code : ℕ) : Type 0 where
  pub ends : List NamedEnd
  pub matched : AreMatched a kind number ends
  pub written : ElementWritten end_octets (slice_get ends at) old new code

-- Nothing is written for want of memory (code 100), or where there is no such writer or reader (code 3).
abbrev pub NothingWritten : State → EndpointKind → ℕ → List ℕ → List ℕ → ℕ → Type 0
NothingWritten a kind number old new code = (new ≡ old) × ((code ≡ 100) ⊎ ((code ≡ 3) × (own_at a kind number ≡ None)))

-- the same of a writer or a reader, by its kind; the code is 3 where that is none
abbrev pub MatchedLooked : State → Option EndpointKind → (number at : ℕ) → (old new : List ℕ) → (code : ℕ) → Type 0
MatchedLooked a None number at old new code = (new ≡ old) × (code ≡ 3)
MatchedLooked a (Some kind) number at old new code =
    MatchedWritten a kind number at old new code ⊎ NothingWritten a kind number old new code

-- the same at the participant that is open; the code is 4 where none is
abbrev pub MatchedFetched : Option Member → (kind number at : ℕ) → (old new : List ℕ) → (code : ℕ) → Type 0
MatchedFetched None kind number at old new code = (new ≡ old) × (code ≡ 4)
MatchedFetched (Some m) kind number at old new code = MatchedLooked m.participant (kind_of kind) number at old new code

-- A reader is behind at one of the writers, or none is at any of the sixteen that there may be.
abbrev pub IsBehind : Part → List NamedEnd → Bool → Type 0
IsBehind part named true = (writer : ℕ) × (is_behind part named writer ≡ true)
IsBehind part named false = (writer : ℕ) → 1 ≤ writer → writer ≤ 16 → is_behind part named writer ≡ false

abbrev pub number_of_behind : Bool → ℕ
number_of_behind true = 1
number_of_behind false = 0

-- So it is in each state that its peer stands for; 0 where none is open.
abbrev pub BehindSaid : Option Member → ℕ → Type 0
BehindSaid None number = number ≡ 0
BehindSaid (Some m) number =
    (behind : Bool) × (number ≡ number_of_behind behind)
    × ((roster : Roster) (peer : Peer) → StandsFor m.participant.sharing.exchange.core.filtered.peer roster peer
    → IsBehind peer.part m.participant.sharing.exchange.named behind)
