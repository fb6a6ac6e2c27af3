-- What is fetched of the last answer, and into which memory.
--
-- DDS 1.4, 2.2.2.5 (SampleInfo), 2.2.4.1 (communication statuses), 2.3.3 (the bits of states).
use Rattle.std.specs.Prelude.{◌≡◌, ◌⊎◌, ℕ, List, ◌++◌, length, drop, slice_get, nat_lt, if◌then◌else◌, Option, Some, None}
use Rattle.dds_base.specs.declared.sample.Sample.{Sample}
use Rattle.dds_base.specs.declared.endpoint.Endpoint.{Endpoint}
use Rattle.dds_base.specs.declared.status.LivelinessChangedStatus.{LivelinessChangedStatus}
use Rattle.dds_base.specs.declared.status.MatchedStatus.{MatchedStatus}
use Rattle.dds_base.specs.Access.{instance_state_bit, sample_state_bit, view_state_bit}
use Rattle.dds_machine.specs.declared.reply.Reply.{Reply}
use Rattle.dds_machine.specs.declared.reply.Reply.TheVariants.{Created, InstanceHandle, KeyValue, LivelinessChanged, LivelinessLost, Matched, SampleLost, Samples}
use Rattle.dds_protocol.specs.declared.event.Packet.{Packet}
use Rattle.dds_c.specs.declared.out.FlatChanged.{FlatChanged}
use Rattle.dds_c.specs.declared.out.FlatInfo.{FlatInfo}
use Rattle.dds_c.specs.declared.out.FlatMatched.{FlatMatched}
use Rattle.dds_c.specs.declared.out.FlatTotal.{FlatTotal}
use Rattle.dds_c.specs.declared.session.Session.{Session}

-- a buffer that begins with these octets, and else is as before; where they don't fit, as before
abbrev pub filled : List ℕ → List ℕ → List ℕ
filled octets buffer = if nat_lt (length buffer) (length octets) then buffer else octets ++ drop (length octets) buffer

-- whether they fit: 0, else 5
abbrev pub fits_code : List ℕ → List ℕ → ℕ
fits_code octets buffer = if nat_lt (length buffer) (length octets) then 5 else 0

-- octets are copied to the start of a buffer, and it is said how many they are; where they don't fit, nothing is copied
pub record Copies (octets old new : List ℕ) (needed code : ℕ) : Type 0 where
  pub length_said : needed ≡ length octets
  pub buffer : new ≡ filled octets old
  pub answer : code ≡ fits_code octets old

-- nothing is copied, and how many octets there are is not said, for this cause
pub record CopiesNothing (old new : List ℕ) (before needed : ℕ) (cause code : ℕ) : Type 0 where
  pub buffer : new ≡ old
  pub length_kept : needed ≡ before
  pub answer : code ≡ cause

-- nothing is written beside it either
abbrev pub WritesNothing : {X : Type 0} → (was now : X) → (old new : List ℕ) → (before needed cause code : ℕ) → Type 0
WritesNothing was now old new before needed cause code =
    (now ≡ was) × CopiesNothing old new before needed cause code

-- a packet and the number of the peer that it is for, where there is one; else the code is 11, and nothing is written
abbrev pub PacketCopied : Option Packet → (was to : ℕ) → (old new : List ℕ) → (before needed code : ℕ) → Type 0
PacketCopied (Some p) was to old new before needed code = (to ≡ p.to) × Copies p.bytes old new needed code
PacketCopied None was to old new before needed code = WritesNothing was to old new before needed 11 code

-- the same of the last answer, counted from 0; the code is 4 where no peer is open
abbrev pub PacketFetched : Option Session → ℕ → (was to : ℕ) → (old new : List ℕ) → (before needed code : ℕ) → Type 0
PacketFetched (Some s) at was to old new before needed code =
    PacketCopied (slice_get s.last.packets at) was to old new before needed code
PacketFetched None at was to old new before needed code = WritesNothing was to old new before needed 4 code

-- what is said of a sample
abbrev pub info_of : Sample → FlatInfo
info_of s = record {
  key = s.key.0;
  source_timestamp = s.info.source_timestamp;
  instance_handle = s.info.instance_handle;
  publication_handle = s.info.publication_handle;
  disposed_generation_count = s.info.disposed_generation_count;
  no_writers_generation_count = s.info.no_writers_generation_count;
  sample_rank = s.info.sample_rank;
  generation_rank = s.info.generation_rank;
  absolute_generation_rank = s.info.absolute_generation_rank;
  sample_state = sample_state_bit s.info.sample_state;
  view_state = view_state_bit s.info.view_state;
  instance_state = instance_state_bit s.info.instance_state;
  valid_data = s.info.valid_data;
}

-- the sample of this place in a reply, counted from 0
abbrev pub sample_at : Reply → ℕ → Option Sample
sample_at (Samples samples) at = slice_get samples at
sample_at _ at = None

-- a sample's value, and what is said of it, where there is one; else the code is 11, and nothing is written
abbrev pub SampleCopied : Option Sample → (was info : FlatInfo) → (old new : List ℕ) → (before needed code : ℕ) → Type 0
SampleCopied (Some s) was info old new before needed code =
    (info ≡ info_of s) × Copies s.value old new needed code
SampleCopied None was info old new before needed code = WritesNothing was info old new before needed 11 code

-- the same of the last answer; the code is 4 where no peer is open
abbrev pub SampleFetched : Option Session → ℕ → (was info : FlatInfo) → (old new : List ℕ) → (before needed code : ℕ)
    → Type 0
SampleFetched (Some s) at was info old new before needed code =
    SampleCopied (sample_at s.last.reply at) was info old new before needed code
SampleFetched None at was info old new before needed code = WritesNothing was info old new before needed 4 code

-- a value is written where there is one, and the code is 0; else it is 11, and nothing is written
abbrev pub ValueWritten : {X : Type 0} → Option X → X → X → ℕ → Type 0
ValueWritten (Some x) old new code = (new ≡ x) × (code ≡ 0)
ValueWritten None old new code = (new ≡ old) × (code ≡ 11)

-- the same of what the last reply says; the code is 4 where no peer is open, and nothing is written
abbrev pub ValueFetched : {X : Type 0} → (Reply → Option X) → Option Session → X → X → ℕ → Type 0
ValueFetched said (Some s) old new code = ValueWritten (said s.last.reply) old new code
ValueFetched said None old new code = (new ≡ old) × (code ≡ 4)

-- the octets of a key
abbrev pub key_said : Reply → Option (List ℕ)
key_said (KeyValue key) = Some key.0
key_said _ = None

-- the handle of an instance
abbrev pub handle_said : Reply → Option ℕ
handle_said (InstanceHandle handle) = Some handle
handle_said _ = None

-- the number of what was made
abbrev pub number_said : Reply → Option ℕ
number_said (Created number) = Some number
number_said _ = None

-- a total and its change, of the samples that were lost, or of liveliness
abbrev pub total_said : Reply → Option FlatTotal
total_said (SampleLost status) = Some (record { total_count = status.total_count; total_count_change = status.total_count_change })
total_said (LivelinessLost status) = Some (record { total_count = status.total_count; total_count_change = status.total_count_change })
total_said _ = None

-- LIVELINESS_CHANGED
abbrev pub changed_of : LivelinessChangedStatus → FlatChanged
changed_of status = record {
  alive_count = status.alive_count;
  not_alive_count = status.not_alive_count;
  alive_count_change = status.alive_count_change;
  not_alive_count_change = status.not_alive_count_change;
  last_publication_handle = status.last_publication_handle;
}

-- a look at LIVELINESS_CHANGED
abbrev pub changed_said : Reply → Option FlatChanged
changed_said (LivelinessChanged status) = Some (changed_of status)
changed_said _ = None

-- the peer of an end, 0 where there is none
abbrev pub last_peer : Option Endpoint → ℕ
last_peer (Some end) = end.peer
last_peer None = 0

-- the number of an end there, likewise
abbrev pub last_number : Option Endpoint → ℕ
last_number (Some end) = end.number
last_number None = 0

-- PUBLICATION_MATCHED, or SUBSCRIPTION_MATCHED
abbrev pub matched_of : MatchedStatus → FlatMatched
matched_of status = record {
  total_count = status.total_count;
  total_count_change = status.total_count_change;
  current_count = status.current_count;
  current_count_change = status.current_count_change;
  last_peer = last_peer status.last;
  last_number = last_number status.last;
}

-- a look at one of the two
abbrev pub matched_said : Reply → Option FlatMatched
matched_said (Matched status) = Some (matched_of status)
matched_said _ = None

-- how many packets of the last event found no memory
abbrev pub unsent_of : Option Session → ℕ
unsent_of (Some s) = s.last.unsent
unsent_of None = 0

-- some text is copied, whatever it says, or nothing for want of memory (code 100)
abbrev pub TextWritten : (old new : List ℕ) → (before needed code : ℕ) → Type 0
TextWritten old new before needed code =
    ((octets : List ℕ) × Copies octets old new needed code) ⊎ CopiesNothing old new before needed 100 code

-- the same where a peer is open; else nothing is copied (code 4)
abbrev pub TextFetched : Option Session → (old new : List ℕ) → (before needed code : ℕ) → Type 0
TextFetched None old new before needed code = CopiesNothing old new before needed 4 code
TextFetched (Some session) old new before needed code = TextWritten old new before needed code
