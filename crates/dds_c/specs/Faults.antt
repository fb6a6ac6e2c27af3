-- Which rule a configuration in arrays breaks, and where, as C reads it.
--
-- DDS 1.4, 2.2.1.1 (BAD_PARAMETER, INCONSISTENT_POLICY), 2.2.3 (supported QoS); the numbers are this project's own.
use Rattle.std.specs.Prelude.{◌≡◌, ◌⊎◌, ℕ, List, length, true, false, Option, Some, None}
use Rattle.dds_base.specs.Checked.{check_refusal}
use Rattle.dds_base.specs.Code.{number_of_code}
use Rattle.dds_base.specs.Faults.{Breaks, code_of_rule}
use Rattle.dds_base.specs.declared.config_fault.ConfigFault.{ConfigFault}
use Rattle.dds_base.specs.declared.config_fault.ConfigPlace.{ConfigPlace}
use Rattle.dds_base.specs.declared.config_fault.ConfigPlace.TheVariants.{Whole, Peer, Writer, Reader}
use Rattle.dds_base.specs.declared.config_fault.ConfigRule.{ConfigRule}
use Rattle.dds_base.specs.declared.config_fault.ConfigRule.TheVariants.{PeerCount, WriterCount, ReaderCount, KnownPrefix, OwnPrefix, OwnEntity, EntityKind, Depth, MaxSamples, MaxInstances, MaxArrivals, Lease, DepthWithinMaximum, SameOwnership, OfferedLease, MaxValue, OfferedValue, OfferedReliability}
use Rattle.dds_c.specs.Fetching.{Copies, CopiesNothing, WritesNothing}
use Rattle.dds_c.specs.Opening.{config_of, names_no_peer}
use Rattle.dds_c.specs.declared.config.FlatPeer.{FlatPeer}
use Rattle.dds_c.specs.declared.config.FlatReader.{FlatReader}
use Rattle.dds_c.specs.declared.config.FlatWriter.{FlatWriter}
use Rattle.dds_c.specs.declared.fault.FlatFault.{FlatFault}

-- the number of a rule
abbrev pub number_of_rule : ConfigRule → ℕ
number_of_rule PeerCount = 1
number_of_rule WriterCount = 2
number_of_rule ReaderCount = 3
number_of_rule KnownPrefix = 4
number_of_rule OwnPrefix = 5
number_of_rule OwnEntity = 6
number_of_rule EntityKind = 7
number_of_rule Depth = 8
number_of_rule MaxSamples = 9
number_of_rule MaxInstances = 10
number_of_rule MaxArrivals = 11
number_of_rule Lease = 12
number_of_rule DepthWithinMaximum = 13
number_of_rule SameOwnership = 14
number_of_rule OfferedLease = 15
number_of_rule MaxValue = 16
number_of_rule OfferedValue = 17
number_of_rule OfferedReliability = 18

-- what breaks a rule: 0 all of the configuration, 1 a peer, 2 a writer of a peer, 3 a reader of a peer
abbrev pub number_of_place : ConfigPlace → ℕ
number_of_place Whole = 0
number_of_place (Peer peer) = 1
number_of_place (Writer peer writer) = 2
number_of_place (Reader peer reader) = 3

-- the number of the peer there, from 1, and 0 where there is none
abbrev pub peer_there : ConfigPlace → ℕ
peer_there Whole = 0
peer_there (Peer peer) = peer
peer_there (Writer peer writer) = peer
peer_there (Reader peer reader) = peer

-- the number of the writer or the reader there, likewise
abbrev pub end_there : ConfigPlace → ℕ
end_there Whole = 0
end_there (Peer peer) = 0
end_there (Writer peer writer) = writer
end_there (Reader peer reader) = reader

-- a fault in numbers
abbrev pub flat_of : ConfigFault → FlatFault
flat_of f = record {
  code = number_of_code (code_of_rule f.rule);
  rule = number_of_rule f.rule;
  place = number_of_place f.place;
  peer = peer_there f.place;
  number = end_there f.place;
}

-- a writer or a reader names a peer that there isn't
abbrev pub no_peer_fault : FlatFault
no_peer_fault = record { code = 3; rule = 0; place = 0; peer = 0; number = 0 }

-- the fault is written, and some sentence copied where it fits as a whole; where there is no fault the code is 11, and
-- where there is no memory for the sentence 100, and nothing is written
abbrev pub FaultWritten : Option ConfigFault → (was fault : FlatFault) → (old new : List ℕ) → (before needed code : ℕ)
    → Type 0
FaultWritten None was fault old new before needed code = WritesNothing was fault old new before needed 11 code
FaultWritten (Some f) was fault old new before needed code =
    ((fault ≡ flat_of f) × ((octets : List ℕ) × Copies octets old new needed code))
    ⊎ WritesNothing was fault old new before needed 100 code

-- the rule is broken at the place, and the code is the one with which the configuration is refused
pub record IsFaultOf (peers : List FlatPeer) (writers : List FlatWriter) (readers : List FlatReader) (found : ConfigFault)
    : Type 0 where
  pub named : names_no_peer (length peers) writers readers ≡ false
  pub broken : Breaks (config_of peers writers readers).peers found
  pub code : check_refusal (config_of peers writers readers).peers ≡ Some (code_of_rule found.rule)

-- nothing speaks against the configuration
pub record IsFaultless (peers : List FlatPeer) (writers : List FlatWriter) (readers : List FlatReader) : Type 0 where
  pub named : names_no_peer (length peers) writers readers ≡ false
  pub taken : check_refusal (config_of peers writers readers).peers ≡ None

-- What is answered of a configuration: that a writer or a reader names no peer of it, or a fault of it, each with a
-- sentence; or that it has none, or that there is no memory.
abbrev pub FaultSaid : List FlatPeer → List FlatWriter → List FlatReader → (was fault : FlatFault) → (old new : List ℕ)
    → (before needed code : ℕ) → Type 0
FaultSaid peers writers readers was fault old new before needed code =
    ((names_no_peer (length peers) writers readers ≡ true)
    × ((fault ≡ no_peer_fault) × ((octets : List ℕ) × Copies octets old new needed code)))
    ⊎ ((found : ConfigFault) × (IsFaultOf peers writers readers found
    × FaultWritten (Some found) was fault old new before needed code))
    ⊎ (IsFaultless peers writers readers × WritesNothing was fault old new before needed 11 code)
    ⊎ WritesNothing was fault old new before needed 100 code

-- some text, which no clause spells, is copied where it fits as a whole; or nothing is, as there is no cause (code 11), or
-- no memory (code 100)
abbrev pub CauseWritten : (old new : List ℕ) → (before needed code : ℕ) → Type 0
CauseWritten old new before needed code =
    ((octets : List ℕ) × Copies octets old new needed code)
    ⊎ (CopiesNothing old new before needed 11 code ⊎ CopiesNothing old new before needed 100 code)
