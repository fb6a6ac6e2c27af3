-- What holds of every network and every run, by the definitions of the machine, of claims and of the protocol.
--
-- The laws are this project's own; what they speak of is in RTPS 2.5, 8.3.8 and 8.4 (behaviour), and DDS 1.4,
-- 2.2.3 (HISTORY: KEEP_ALL; OWNERSHIP).
use Rattle.std.specs.Prelude.{◌≡◌, ◌≢◌, ◌⊎◌, ℕ, ◌<◌, ◌≤◌, true, Some, IsSome, List, [], ◌∷◌, length, Contains}
use Rattle.std.specs.List.{All}
use Rattle.dds_base.specs.declared.config.Config.{Config}
use Rattle.dds_base.specs.declared.config.PeerConfig.{PeerConfig}
use Rattle.dds_base.specs.declared.config.ReaderConfig.{ReaderConfig}
use Rattle.dds_base.specs.declared.happening.Happening.{Happening}
use Rattle.dds_base.specs.declared.happening.PassedRun.{PassedRun}
use Rattle.dds_base.specs.declared.key.Key.{Key}
use Rattle.dds_base.specs.declared.qos.HistoryQos.TheVariants.{KeepAll}
use Rattle.dds_base.specs.Ownership.{IsMatched, HaveOwnGuids, joined_in, registered_writers, owner_of}
use Rattle.dds_protocol.specs.Noticing.{world_ended}
use Rattle.dds_machine.specs.declared.call.Call.TheVariants.{AssertLiveliness}
use Rattle.dds_base.specs.declared.endpoint.Endpoint.{Endpoint}
use Rattle.dds_base.specs.Matched.{is_reliable}
use Rattle.dds_machine.specs.declared.event.WorldEvent.{WorldEvent}
use Rattle.dds_machine.specs.declared.event.WorldEvent.TheVariants.{Deliver, Resume}
use Rattle.dds_machine.specs.declared.reply.Move.{Move}
use Rattle.dds_machine.specs.declared.reply.Move.TheVariants.{Place, Begun}
use Rattle.dds_machine.specs.declared.reply.Reply.{Reply}
use Rattle.dds_machine.specs.declared.reply.Report.{Report}
use Rattle.dds_machine.specs.declared.reply.Reply.TheVariants.{Done, Reported}
use Rattle.dds_machine.specs.Numbered.{numbered}
use Rattle.dds_protocol.specs.Receipt.{Receives}
use Rattle.dds_protocol.specs.Peer.{Delivery, no_peer, state_of, packets_of, claimed, claimed_by}
use Rattle.dds_protocol.specs.Contact.{Contact}
use Rattle.dds_protocol.specs.DueMessages.{Due, assertions_due, heartbeats_due}
use Rattle.dds_protocol.specs.Protocol.{State, TakesPacket}
use Rattle.dds_protocol.specs.Resuming.{Resumes}
use Rattle.dds_protocol.specs.Backed.{IsBacked}
use Rattle.dds_protocol.specs.Dues.{AreTellable, IsPartOf, AreTruthful, IsSized, HasSmallChanges, HasFewMatches, CanBeWritten}
use Rattle.dds_machine.specs.Moves.{ArePlaces, AreMoves}
use Rattle.dds_machine.specs.Ticks.{TickStep}
use Rattle.dds_machine.specs.Calls.{CallStep}
use Rattle.dds_machine.specs.Watching.{Tests}
use Rattle.dds_machine.specs.Machine.{Machine, AllTests, part_at, writer_at, Step}
use Rattle.dds_protocol.specs.World.{WorldState, WorldStep, machine_of, Sound}
use Rattle.dds_protocol.specs.Progress.{Progresses}
use Rattle.dds_machine.specs.Runs.{Run}
use Rattle.dds_machine.specs.Part.{Part, own_writer, own_reader, owed_from, publication_among}
use Rattle.dds_machine.specs.Opening.{matched_writers, reader_qos}
use Rattle.dds_protocol.specs.Opening.{opening_world}
use Rattle.dds_protocol.specs.Roster.{AreGood, IsRoster, Roster, roster_of}

-- a step of peers, on packets that were sent, is a step of the machine, which takes up what is delivered, and leaves
-- all claims true
abbrev pub Composes : Type 0
Composes = (roster : Roster) (tests : AllTests) (old new : WorldState) (event : WorldEvent) (reply : Reply)
    → Sound roster old → WorldStep roster tests old event reply new
    → Step tests (length old.sent) (machine_of old) event reply (machine_of new)
    × Progresses roster old.sent (machine_of old) event reply × Sound roster new

-- all claims are true at the opening of every configuration
abbrev pub OpensSound : Type 0
OpensSound = (config : Config) → Sound (roster_of config) (opening_world config)

-- a run of peers
abbrev pub WorldRun : Roster → AllTests → WorldState → List WorldEvent → List Reply → WorldState → Type 0
WorldRun roster tests old [] [] new = new ≡ old
WorldRun roster tests old (event ∷ events) (reply ∷ replies) new =
    (mid : WorldState) × WorldStep roster tests old event reply mid
    × WorldRun roster tests (world_ended old event mid) events replies new
WorldRun roster tests old [] (reply ∷ replies) new = ⊥
WorldRun roster tests old (event ∷ events) [] new = ⊥

-- a run of peers is a run of the machine
abbrev pub ComposesRuns : Type 0
ComposesRuns = (roster : Roster) (tests : AllTests) (old new : WorldState) (events : List WorldEvent)
    (replies : List Reply) → Sound roster old → WorldRun roster tests old events replies new
    → Run tests (length old.sent) (machine_of old) events replies (length new.sent) (machine_of new) × Sound roster new

-- no change of this writer is passed over by the peer's reader of this number
abbrev pub PassesNone : Endpoint → ℕ → List Move → Type 0
PassesNone writer reader [] = Unit {0}
PassesNone writer reader (Place w r to [] ∷ moves) = PassesNone writer reader moves
PassesNone writer reader (Place w r to (run ∷ runs) ∷ moves) =
    (w ≡ writer → r ≡ reader → ⊥) × PassesNone writer reader moves
PassesNone writer reader (m ∷ moves) = PassesNone writer reader moves

-- no reply reports that a change of this writer was passed over by this reader
abbrev pub LosesNone : Endpoint → Endpoint → List WorldEvent → List Reply → Type 0
LosesNone writer reader (Deliver peer packet ∷ events) (Reported report ∷ replies) =
    (peer ≡ reader.peer → PassesNone writer reader.number report.moves) × LosesNone writer reader events replies
LosesNone writer reader (Resume peer r ∷ events) (Reported report ∷ replies) =
    (peer ≡ reader.peer → PassesNone writer reader.number report.moves) × LosesNone writer reader events replies
LosesNone writer reader (event ∷ events) (reply ∷ replies) = LosesNone writer reader events replies
LosesNone writer reader events replies = Unit {0}

-- each of these runs ends below the number
abbrev pub EndBelow : ℕ → List PassedRun → Type 0
EndBelow bound [] = Unit {0}
EndBelow bound (run ∷ runs) = (run.last < bound) × EndBelow bound runs

-- the peer's reader of this number passes over no change of this writer from the bound on, also where its place begins
abbrev pub PassesNoneFrom : ℕ → Endpoint → ℕ → List Move → Type 0
PassesNoneFrom bound writer reader [] = Unit {0}
PassesNoneFrom bound writer reader (Place w r to passed ∷ moves) =
    (w ≡ writer → r ≡ reader → EndBelow bound passed) × PassesNoneFrom bound writer reader moves
PassesNoneFrom bound writer reader (Begun w r from to ∷ moves) =
    (w ≡ writer → r ≡ reader → (to ≤ bound) ⊎ (to ≡ from)) × PassesNoneFrom bound writer reader moves
PassesNoneFrom bound writer reader (m ∷ moves) = PassesNoneFrom bound writer reader moves

-- no reply reports that a change of this writer from the bound on was passed over by this reader
abbrev pub LosesNoneFrom : ℕ → Endpoint → Endpoint → List WorldEvent → List Reply → Type 0
LosesNoneFrom bound writer reader (Deliver peer packet ∷ events) (Reported report ∷ replies) =
    (peer ≡ reader.peer → PassesNoneFrom bound writer reader.number report.moves)
    × LosesNoneFrom bound writer reader events replies
LosesNoneFrom bound writer reader (Resume peer r ∷ events) (Reported report ∷ replies) =
    (peer ≡ reader.peer → PassesNoneFrom bound writer reader.number report.moves)
    × LosesNoneFrom bound writer reader events replies
LosesNoneFrom bound writer reader (event ∷ events) (reply ∷ replies) = LosesNoneFrom bound writer reader events replies
LosesNoneFrom bound writer reader events replies = Unit {0}

-- in no run is a change passed over by a reliable reader that a KEEP_ALL writer owes it at the end of the run
abbrev pub KeepAllIsKept : Type 0
KeepAllIsKept = (tests : AllTests) (writer reader : Endpoint) (m after : Machine) (events : List WorldEvent)
    (replies : List Reply) (sent last : ℕ)
    → (writer_at m writer).policy ≡ KeepAll
    → is_reliable (own_reader (part_at m reader.peer) reader.number).qos.reliability ≡ true
    → Run tests sent m events replies last after
    → LosesNoneFrom (owed_from (writer_at after writer) reader) writer reader events replies

-- A reader of these peers tells the writers apart that it is matched with from the opening on: no two have one GUID, and
-- each publication handle, from 1 on, is that of one, whatever has happened.
pub record TellsWritersApart (peers : List PeerConfig) (reader : ReaderConfig) : Type 0 where
  pub own_guids : (h : List Happening) → joined_in h ≡ [] → HaveOwnGuids (reader_qos peers reader) h
  pub each_handle : (h : List Happening) (handle : ℕ) → 1 ≤ handle
      → handle ≤ length (matched_writers reader.topic 1 peers)
      → IsMatched (reader_qos peers reader) h handle
  pub each_writer : (h : List Happening) (writer : Endpoint) (handle : ℕ)
      → publication_among (matched_writers reader.topic 1 peers) writer ≡ Some handle
      → IsMatched (reader_qos peers reader) h handle

-- so does each reader of a configuration that is not refused
abbrev pub ReadersTellWritersApart : Type 0
ReadersTellWritersApart =
    (config : Config) (peer : PeerConfig) (reader : ReaderConfig) → AreGood config.peers
    → Contains config.peers peer → Contains peer.readers reader
    → TellsWritersApart config.peers reader

-- at each of its readers an instance has an owner wherever a writer is registered for it, if nobody joined that the
-- configuration does not list
abbrev pub OwnersExist : Type 0
OwnersExist = (config : Config) (peer : PeerConfig) (reader : ReaderConfig) (i : Key) (h : List Happening)
    → AreGood config.peers → Contains config.peers peer → joined_in h ≡ []
    → Contains peer.readers reader → registered_writers (reader_qos config.peers reader) i h ≢ []
    → IsSome (owner_of (reader_qos config.peers reader) h (registered_writers (reader_qos config.peers reader) i h))

-- what a peer does with a packet by the rules of the protocol rests on what that packet and earlier ones claim, and
-- what it knows then is what they claim
abbrev pub RulesRestOnClaims : Type 0
RulesRestOnClaims = (roster : Roster) (peer : ℕ) (before : List Delivery) (bytes : List ℕ) (old : State)
    (report : Report) (dues : List Due) (new : State) → IsRoster roster
    → IsBacked roster peer (packets_of before) before old → TakesPacket roster peer bytes old report dues new
    → Receives roster (claimed roster before bytes old.part.rtps.readers peer) peer bytes old.part report new.part
    × IsBacked roster peer (bytes ∷ packets_of before)
    (record { packet = bytes; rows = old.part.rtps.readers; report = report } ∷ before) new

-- so does what it does where the places of a reader are tried again, on what earlier packets claim
abbrev pub ResumesRestOnClaims : Type 0
ResumesRestOnClaims = (roster : Roster) (peer reader : ℕ) (deliveries : List Delivery) (old : State) (report : Report)
    (new : State) → IsBacked roster peer (packets_of deliveries) deliveries old → Resumes reader old report new
    → ArePlaces reader report.moves
    × AreMoves (claimed_by roster (packets_of deliveries) peer) old.part report.moves new.part
    × IsBacked roster peer (packets_of deliveries) deliveries new

-- at the opening a peer knows nothing, so all that it knows is what was claimed
abbrev pub OpensBacked : Type 0
OpensBacked = (config : Config) (roster : Roster) (peer : ℕ)
    → IsBacked roster peer [] [] (state_of (numbered (opening_world config).peers peer no_peer))

-- what is due once a peer took a packet up by the rules claims only what is true of the peer's own lists and places
abbrev pub AnswersAreTrue : Type 0
AnswersAreTrue = (roster : Roster) (peer : ℕ) (before : List Delivery) (bytes : List ℕ) (old : State) (report : Report)
    (dues : List Due) (new : State) → IsRoster roster
    → IsBacked roster peer (packets_of before) before old → AreTellable old.part
    → TakesPacket roster peer bytes old report dues new
    → AreTruthful roster peer new.part dues

-- Each of these messages can be written, by a roster whose names have their octets, where the changes are small
-- and the sets of ACKNACKs have their places: so a peer that has memory sends it.
abbrev pub AnswersCanBeWritten : Type 0
AnswersCanBeWritten = (roster : Roster) (peer : ℕ) (before : List Delivery) (bytes : List ℕ) (old : State)
    (report : Report) (dues : List Due) (new : State) → IsRoster roster
    → IsBacked roster peer (packets_of before) before old → AreTellable old.part
    → TakesPacket roster peer bytes old report dues new → IsSized roster → HasSmallChanges old.part
    → All CanBeWritten dues

-- so do the HEARTBEATs that are due at a tick, whichever readers ask for one, or are silent
abbrev pub HeartbeatsAreTrue : Type 0
HeartbeatsAreTrue = (roster : Roster) (contacts : ℕ → Endpoint → Contact) (peer : ℕ) (old : Part) (now : ℕ)
    (reply : Reply) (new : Part) → IsRoster roster → IsPartOf roster peer old
    → TickStep old now reply new → AreTruthful roster peer new (heartbeats_due roster contacts peer old)

-- each message with them can be written, by a roster whose names have their octets, where the changes are small
-- and the matched readers few
abbrev pub HeartbeatsCanBeWritten : Type 0
HeartbeatsCanBeWritten = (roster : Roster) (contacts : ℕ → Endpoint → Contact) (peer : ℕ) (part : Part)
    → IsPartOf roster peer part → IsSized roster → HasSmallChanges part → HasFewMatches part
    → All CanBeWritten (heartbeats_due roster contacts peer part)

-- and the HEARTBEATs that tell an assertion are true of the peer that has entered it
abbrev pub AssertionsAreTrue : Type 0
AssertionsAreTrue = (roster : Roster) (tests : Tests) (contacts : Endpoint → Contact) (peer writer : ℕ) (old new : Part)
    → IsRoster roster
    → IsPartOf roster peer old → CallStep tests old (AssertLiveliness writer) Done new
    → AreTruthful roster peer new
    (assertions_due roster contacts (record { peer = peer; number = writer }) (own_writer old writer))

-- each message that tells an assertion can be written too
abbrev pub AssertionsCanBeWritten : Type 0
AssertionsCanBeWritten = (roster : Roster) (tests : Tests) (contacts : Endpoint → Contact) (peer writer : ℕ)
    (old new : Part) → IsPartOf roster peer old → CallStep tests old (AssertLiveliness writer) Done new
    → IsSized roster → HasSmallChanges old → HasFewMatches old
    → All CanBeWritten
    (assertions_due roster contacts (record { peer = peer; number = writer }) (own_writer old writer))
