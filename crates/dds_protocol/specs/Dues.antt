-- What the messages that are due to other peers claim is true of the peer that sends them.
--
-- A notion of this project, of the messages of RTPS 2.5, 8.4.9 (reliable StatefulWriter) and 8.4.12 (reliable
-- StatefulReader); 8.3.8 has what each submessage means.
use Rattle.std.specs.Prelude.{◌≡◌, ℕ, ◌<◌, ◌≤◌, ◌==◌, true, List, length, map, Some, IsSome}
use Rattle.std.specs.List.{All, AllByRecursion, count_by}
use Rattle.dds_base.specs.declared.change.Change.{Change}
use Rattle.dds_protocol.specs.Roster.{Roster}
use Rattle.dds_base.specs.declared.guid.EntityId.{EntityId}
use Rattle.dds_base.specs.declared.endpoint.Endpoint.{Endpoint}
use Rattle.dds_base.specs.Bounds.{end_of_moments, greatest_value, key_octets, max_ends, max_sn, window_width}
use Rattle.dds_base.specs.Kept.{change_at}
use Rattle.rtps_wire.specs.declared.submessage.Submessage.{Submessage}
use Rattle.rtps_wire.specs.declared.submessage.Submessage.TheVariants.{AckNack}
use Rattle.rtps_wire.specs.Content.{IsEmptyUnlessWrite}
use Rattle.rtps_wire.specs.Data.{IsStrength}
use Rattle.rtps_wire.specs.Fields.{IsEntityId}
use Rattle.rtps_wire.specs.Messages.{IsWritable, spelling_of}
use Rattle.dds_machine.specs.declared.call.Call.{Call}
use Rattle.dds_machine.specs.declared.reply.Reply.{Reply}
use Rattle.dds_machine.specs.Calls.{CallStep, effect_of, tells}
use Rattle.dds_machine.specs.Matching.{Telling, is_matched, knows_reader}
use Rattle.dds_machine.specs.Part.{Part, ReaderProxy, TopicReader, Writer, own_writer, same_endpoint, writer_changes}
use Rattle.dds_machine.specs.Watching.{Tests}
use Rattle.dds_machine.specs.Numbered.{HasNumber}
use Rattle.dds_protocol.specs.Claims.{Claim, Claims}
use Rattle.dds_protocol.specs.Peer.{IsTrueAt}
use Rattle.dds_protocol.specs.DueMessages.{Due}

-- a change that an INFO_TS and a DATA tell whole: only a write has a value, and its moment is below 2^63
pub record IsTellable (change : Change) : Type 0 where
  pub empty : IsEmptyUnlessWrite change
  pub early : change.source_timestamp < end_of_moments

-- each change of the peer's writers is such a one
abbrev pub AreTellable : Part → Type 0
AreTellable part = (writer number : ℕ) (change : Change)
    → change_at (writer_changes (own_writer part writer)) number ≡ Some change → IsTellable change

-- the part is one of the peer of this number: the roster has each of its writers, whoever is matched with them
abbrev pub IsPartOf : Roster → ℕ → Part → Type 0
IsPartOf roster peer part = (number : ℕ) → HasNumber part.rtps.writers number
    → IsSome (roster.writers (record { peer = peer; number = number }))

-- what the message claims, once it is written, is true of the peer's own lists and places
abbrev pub IsTruthful : Roster → ℕ → Part → Due → Type 0
IsTruthful roster peer part due = (claim : Claim) → IsWritable due.message
    → Claims roster (spelling_of due.message) claim → IsTrueAt peer part claim

-- each of the messages is so
abbrev pub AreTruthful : Roster → ℕ → Part → List Due → Type 0
AreTruthful roster peer part dues = All (IsTruthful roster peer part) dues

-- the octets of the roster's names: 12 of each prefix, and 4 of each writer's and reader's entity id
pub record IsSized (roster : Roster) : Type 0 where
  pub prefix : (peer : ℕ) → length (roster.prefix peer).0 ≡ 12
  pub writer : (writer : Endpoint) (entity : EntityId) → roster.writers writer ≡ Some entity → IsEntityId entity
  pub reader : (reader : Endpoint) (entity : EntityId) → roster.readers reader ≡ Some entity → IsEntityId entity

-- there are fewer than 2^62 changes, each with a key of 16 octets, a value of at most so many, which is at most 65,000,
-- and a strength of 32 bits where it has one
pub record AreSmall (most : ℕ) (changes : List Change) : Type 0 where
  pub limited : most ≤ greatest_value
  pub few : length changes < max_sn
  pub key : (number : ℕ) (change : Change) → change_at changes number ≡ Some change → length change.key.0 ≡ key_octets
  pub value : (number : ℕ) (change : Change) → change_at changes number ≡ Some change → length change.value ≤ most
  pub strength : (number : ℕ) (change : Change) → change_at changes number ≡ Some change → IsStrength change.strength

-- so are the changes of each of the peer's writers
abbrev pub HasSmallChanges : Part → Type 0
HasSmallChanges part = (writer : ℕ)
    → AreSmall (own_writer part writer).max_value (writer_changes (own_writer part writer))

-- no peer has more of these readers than a peer may have
abbrev pub AreFew : List Endpoint → Type 0
AreFew readers = (peer : ℕ) → count_by (λ (r : Endpoint). r.peer == peer) readers ≤ max_ends

-- the readers of the writer's topic are few; it is matched with none but those, and with none twice; its rows are of
-- matched ones
pub record MatchesFew (w : Writer) : Type 0 where
  pub few : AreFew (map (λ (k : TopicReader). k.reader) w.known)
  pub known : (reader : Endpoint) → is_matched w reader ≡ true → knows_reader w reader ≡ true
  pub once : (reader : Endpoint) → count_by (λ e. same_endpoint e reader) w.matched ≤ 1
  pub rows : (reader : Endpoint) → count_by (λ (p : ReaderProxy). same_endpoint p.reader reader) w.readers
      ≤ count_by (λ e. same_endpoint e reader) w.matched

-- so is each of the peer's writers
abbrev pub HasFewMatches : Part → Type 0
HasFewMatches part = (writer : ℕ) → MatchesFew (own_writer part writer)

-- what the truth of due messages, and that they can be written, rest on stays so of a peer's part
pub record StaysDue (roster : Roster) (peer : ℕ) (old new : Part) : Type 0 where
  pub part : IsPartOf roster peer old → IsPartOf roster peer new
  pub tellable : AreTellable old → AreTellable new
  pub small : HasSmallChanges old → HasSmallChanges new
  pub few : HasFewMatches old → HasFewMatches new

-- so it is after a call that tells a writer or a reader that the two are matched, or no longer
abbrev pub CallsStayDue : Type 0
CallsStayDue = (roster : Roster) (peer : ℕ) (tests : Tests) (old : Part) (call : Call) (reply : Reply) (new : Part)
    (telling : Telling) → effect_of old call reply ≡ tells telling → CallStep tests old call reply new
    → StaysDue roster peer old new

-- the set of an ACKNACK has its 256 places
abbrev pub HasPlaces : Submessage → Type 0
HasPlaces (AckNack a) = length a.reader_sn_state.members ≡ window_width
HasPlaces other = Unit {0}

-- the message can be written, where the sets of its ACKNACKs have their places
abbrev pub CanBeWritten : Due → Type 0
CanBeWritten due = AllByRecursion HasPlaces due.message.submessages → IsWritable due.message
