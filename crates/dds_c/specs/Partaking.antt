-- What an event does to the participant that a caller holds, and what is fetched of what came of the last one.
--
-- DDS 1.4, 2.2.2.2.1 (DomainParticipant); that what came of the last event is kept is this project's own.
use Rattle.std.specs.Prelude.{◌≡◌, ◌⊎◌, ℕ, ◌++◌, Bool, true, false, List, [], slice_get, Option, Some, None, IsSomeAnd}
use Rattle.dds_base.specs.declared.guid.Guid.{Guid}
use Rattle.dds_machine.specs.declared.call.Call.{Call}
use Rattle.dds_machine.specs.declared.reply.Reply.{Reply}
use Rattle.dds_machine.specs.declared.reply.Reply.TheVariants.{Done}
use Rattle.rtps_discovery.specs.declared.packet.Packet.{Packet as Datagram}
use Rattle.rtps_discovery.specs.declared.row.Told.{Told as Presence}
use Rattle.rtps_discovery.specs.declared.row.Told.TheVariants.{Appeared, Gone}
use Rattle.rtps_matching.specs.declared.told.Told.{Told}
use Rattle.rtps_matching.specs.declared.told.Told.TheVariants.{Matched, Unmatched, Changed}
use Rattle.dds_domain.specs.Participants.{Calls, Hears, Leaves, State, Ticks}
use Rattle.dds_domain.specs.Turns.{State as Turn}
use Rattle.dds_c.specs.Answering.{code_number}
use Rattle.dds_c.specs.Fetching.{Copies, CopiesNothing, SampleCopied, TextWritten, ValueWritten, WritesNothing, sample_at}
use Rattle.dds_c.specs.declared.member.Member.{Member}
use Rattle.dds_c.specs.declared.out.FlatInfo.{FlatInfo}
use Rattle.dds_c.specs.declared.participant_answers.FlatPresence.{FlatPresence}
use Rattle.dds_c.specs.declared.participant_answers.FlatTold.{FlatTold}

-- ---- events

-- nothing came of an event yet
abbrev pub no_turn : Turn
no_turn = record { presences = []; told = []; datagrams = []; events = []; is_recording = false; lacks_memory = false }

-- whether memory was wanting: 100, else 0
abbrev pub number_of_lack : Bool → ℕ
number_of_lack true = 100
number_of_lack false = 0

-- what a step does to a participant, from nothing
abbrev pub Step : Type 1
Step = State → Turn → State → Turn → Type 0

-- It is one step, what came of it is kept in place of what was, and the number says whether memory was wanting.
pub record Turned (step : Step) (old : Member) (number : ℕ) (new : Member) : Type 0 where
  pub steps : step old.participant no_turn new.participant new.turn
  pub reply : new.reply ≡ Done
  pub code : number ≡ number_of_lack new.turn.lacks_memory

-- what an event does that is no call: where no participant is open it is refused, and none is open afterwards
abbrev pub Turns : Step → Option Member → ℕ → Option Member → Type 0
Turns step None code new = (code ≡ 4) × (new ≡ None)
Turns step (Some old) code new = IsSomeAnd new (Turned step old code)

-- It says that it leaves, and nothing else changes.
abbrev pub IsLeft : Step
IsLeft a t b u = (b ≡ a) × Leaves a t u

-- The call is one step or refused, what came of it is kept likewise, and the number is that of its reply.
pub record Answered (old : Member) (call : Call) (number : ℕ) (new : Member) : Type 0 where
  pub calls : Calls call old.participant no_turn new.reply new.participant new.turn
  pub code : number ≡ code_number new.reply

abbrev pub Happens : Option Member → Call → ℕ → Option Member → Type 0
Happens None call code new = (code ≡ 4) × (new ≡ None)
Happens (Some old) call code new = IsSomeAnd new (Answered old call code)

-- the same of a call whose value is copied before: where there is no memory for that, it is refused, and nothing changes
abbrev pub HappensCopied : Option Member → Call → ℕ → Option Member → Type 0
HappensCopied old call code new = Happens old call code new ⊎ ((code ≡ 100) × (new ≡ old))

-- one step by some call; or nothing changes, and the line names none, or there is no memory for what it names
abbrev pub HappensSomething : Option Member → ℕ → Option Member → Type 0
HappensSomething old code new = ((call : Call) × Happens old call code new) ⊎ (((code ≡ 3) ⊎ (code ≡ 100)) × (new ≡ old))

-- ---- fetches

-- a datagram, with the address and the port that it is for, where there is one; else the code is 11, and nothing is written
abbrev pub DatagramCopied : Option Datagram → (was_address address : List ℕ) → (was_port port : ℕ) → (old new : List ℕ)
    → (before needed code : ℕ) → Type 0
DatagramCopied (Some d) was_address address was_port port old new before needed code =
    (address ≡ d.to.address) × (port ≡ d.to.port) × Copies d.bytes old new needed code
DatagramCopied None was_address address was_port port old new before needed code =
    (address ≡ was_address) × WritesNothing was_port port old new before needed 11 code

-- the same of what came last, counted from 0; the code is 4 where no participant is open
abbrev pub DatagramFetched : Option Member → ℕ → (was_address address : List ℕ) → (was_port port : ℕ) → (old new : List ℕ)
    → (before needed code : ℕ) → Type 0
DatagramFetched (Some m) at was_address address was_port port old new before needed code =
    DatagramCopied (slice_get m.turn.datagrams at) was_address address was_port port old new before needed code
DatagramFetched None at was_address address was_port port old new before needed code =
    (address ≡ was_address) × WritesNothing was_port port old new before needed 4 code

-- a sample of the last reply, as of a peer's
abbrev pub SampleFetched : Option Member → ℕ → (was info : FlatInfo) → (old new : List ℕ) → (before needed code : ℕ) → Type 0
SampleFetched (Some m) at was info old new before needed code =
    SampleCopied (sample_at m.reply at) was info old new before needed code
SampleFetched None at was info old new before needed code = WritesNothing was info old new before needed 4 code

-- what is written of a value that is there; else nothing is, for its cause
abbrev pub ElementWritten : {X Y : Type 0} → (X → Y) → Option X → Y → Y → ℕ → Type 0
ElementWritten of (Some x) old new code = (new ≡ of x) × (code ≡ 0)
ElementWritten of None old new code = (new ≡ old) × (code ≡ 11)

-- the same of an element of what came last, counted from 0; the code is 4 where no participant is open
abbrev pub ElementFetched : {X Y : Type 0} → (Turn → List X) → (X → Y) → Option Member → ℕ → Y → Y → ℕ → Type 0
ElementFetched all of (Some m) at old new code = ElementWritten of (slice_get (all m.turn) at) old new code
ElementFetched all of None at old new code = (new ≡ old) × (code ≡ 4)

-- the sixteen octets of a GUID
abbrev pub octets_of : Guid → List ℕ
octets_of guid = guid.prefix.0 ++ guid.entity.0

abbrev pub told_by : ℕ → Guid → Guid → FlatTold
told_by change own other = record { change = change; own = octets_of own; other = octets_of other }

-- a change of a match
abbrev pub flat_told : Told → FlatTold
flat_told (Matched own other) = told_by 1 own other
flat_told (Unmatched own other) = told_by 2 own other
flat_told (Changed own other) = told_by 3 own other

-- who appeared or is gone
abbrev pub flat_presence : Presence → FlatPresence
flat_presence (Appeared prefix) = record { is_there = true; prefix = prefix.0 }
flat_presence (Gone prefix) = record { is_there = false; prefix = prefix.0 }

abbrev pub told_in : Turn → List Told
told_in t = t.told

abbrev pub presences_in : Turn → List Presence
presences_in t = t.presences

-- the reply in words, which no clause spells; the code is 4 where no participant is open
abbrev pub TextFetched : Option Member → (old new : List ℕ) → (before needed code : ℕ) → Type 0
TextFetched None old new before needed code = CopiesNothing old new before needed 4 code
TextFetched (Some m) old new before needed code = TextWritten old new before needed code
