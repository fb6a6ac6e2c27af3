-- The search for the first rule that a configuration breaks: what the code does, on lists. Nothing here has to be
-- believed, since `Config::fault` says what it finds by `Checked` and `Faults` alone.
--
-- DDS 1.4, 2.2.1.1 (BAD_PARAMETER, INCONSISTENT_POLICY), 2.2.3.
use Rattle.std.specs.Prelude.{ℕ, ◌+◌, ◌==◌, ◌||◌, Bool, not, List, [], ◌∷◌, length, nat_lt, Option, Some, None, if◌then◌else◌}
use Rattle.std.specs.List.{list_any}
use Rattle.dds_base.specs.declared.config.PeerConfig.{PeerConfig}
use Rattle.dds_base.specs.declared.config.WriterConfig.{WriterConfig}
use Rattle.dds_base.specs.declared.config.ReaderConfig.{ReaderConfig}
use Rattle.dds_base.specs.declared.config_rules.PairPolicy.{PairPolicy}
use Rattle.dds_base.specs.declared.config_rules.PairPolicy.TheVariants as policy
use Rattle.dds_base.specs.declared.config_rules.Pass.{Pass}
use Rattle.dds_base.specs.declared.config_rules.Pass.TheVariants.{Parameters, Policies}
use Rattle.dds_base.specs.declared.config_fault.ConfigRule.{ConfigRule}
use Rattle.dds_base.specs.declared.config_fault.ConfigRule.TheVariants.{PeerCount, WriterCount, ReaderCount, KnownPrefix, OwnPrefix, OwnEntity, EntityKind, Depth, MaxSamples, MaxInstances, MaxArrivals, Lease, MaxValue, DepthWithinMaximum, SameOwnership, OfferedReliability, OfferedLease, OfferedValue}
use Rattle.dds_base.specs.declared.config_fault.ConfigPlace.{ConfigPlace}
use Rattle.dds_base.specs.declared.config_fault.ConfigPlace.TheVariants.{Whole, Peer, Writer, Reader}
use Rattle.dds_base.specs.declared.config_fault.ConfigFault.{ConfigFault}
use Rattle.dds_base.specs.Bounds.{max_ends, max_peers}
use Rattle.dds_base.specs.Life.{or_else}
use Rattle.dds_base.specs.Matched.{matched_writers_of}
use Rattle.dds_base.specs.Checked.{same_prefix, unknown_prefix, has_kind, prefix_count, entity_count, has_no_depth, is_maximum, is_bad_life, is_bad_lease, is_bad_value, exceeds_limit, differ, asks_for_more, is_longer}

-- the first of these rules that is broken
abbrev pub first_broken : List (ConfigRule × Bool) → Option ConfigRule
first_broken [] = None
first_broken (t ∷ ts) = if t.1 then Some t.0 else first_broken ts

-- the rules of a writer, and whether it breaks them
abbrev pub writer_rules : Pass → PeerConfig → WriterConfig → List (ConfigRule × Bool)
writer_rules Parameters p w =
    (OwnEntity, nat_lt 1 (entity_count p w.entity)) ∷ (EntityKind, not (has_kind 2 w.entity)) ∷
    (Depth, has_no_depth w.history)
    ∷ (MaxSamples, not (is_maximum w.max_samples)) ∷ (Lease, is_bad_lease w.lease)
    ∷ (MaxValue, is_bad_value w.max_value) ∷ []
writer_rules Policies p w = (DepthWithinMaximum, exceeds_limit w.history w.max_samples) ∷ []

-- a writer does not fit a reader that it is matched with, in this policy
abbrev pub is_unfit : PairPolicy → WriterConfig → ReaderConfig → Bool
is_unfit policy.Ownership w r = differ w.ownership r.ownership
is_unfit policy.Reliability w r = asks_for_more r.reliability w.reliability
is_unfit policy.Lease w r = is_longer w.lease r.lease
is_unfit policy.Value w r = nat_lt r.max_value w.max_value

-- the rules of a reader
abbrev pub reader_rules : Pass → List PeerConfig → PeerConfig → ReaderConfig → List (ConfigRule × Bool)
reader_rules Parameters peers p r =
    (OwnEntity, nat_lt 1 (entity_count p r.entity)) ∷ (EntityKind, not (has_kind 7 r.entity)) ∷
    (Depth, has_no_depth r.history)
    ∷ (MaxSamples, not (is_maximum r.max_samples)) ∷ (MaxInstances, not (is_maximum r.max_instances))
    ∷ (MaxArrivals, is_bad_life r.max_arrivals) ∷ (Lease, is_bad_lease r.lease)
    ∷ (MaxValue, is_bad_value r.max_value) ∷ []
reader_rules Policies peers p r =
    (DepthWithinMaximum, exceeds_limit r.history r.max_samples)
    ∷ (SameOwnership, list_any (λ (w : WriterConfig). differ w.ownership r.ownership) (matched_writers_of peers r))
    ∷ (
      OfferedReliability,
      list_any (λ (w : WriterConfig). asks_for_more r.reliability w.reliability)
          (matched_writers_of peers r),
    )
    ∷ (OfferedLease, list_any (λ (w : WriterConfig). is_longer w.lease r.lease) (matched_writers_of peers r))
    ∷ (OfferedValue, list_any (λ (w : WriterConfig). nat_lt r.max_value w.max_value) (matched_writers_of peers r)) ∷ []

-- the rules of a peer
abbrev pub peer_rules : Pass → List PeerConfig → PeerConfig → List (ConfigRule × Bool)
peer_rules Parameters peers p =
    (KnownPrefix, same_prefix p.prefix unknown_prefix) ∷ (OwnPrefix, nat_lt 1 (prefix_count peers p.prefix))
    ∷ (WriterCount, nat_lt max_ends (length p.writers)) ∷ (ReaderCount, nat_lt max_ends (length p.readers)) ∷ []
peer_rules Policies peers p = []

-- the rules of the whole
abbrev pub whole_rules : List PeerConfig → List (ConfigRule × Bool)
whole_rules peers = (PeerCount, (length peers == 0) || nat_lt max_peers (length peers)) ∷ []

-- the fault at a place, if a rule is broken there
abbrev pub fault_at : ConfigPlace → Option ConfigRule → Option ConfigFault
fault_at place None = None
fault_at place (Some rule) = Some (record { place = place; rule = rule })

-- the first fault that is told of these elements, which count on from this number
abbrev pub first_at : {X : Type 0} → (ℕ → X → Option ConfigFault) → ℕ → List X → Option ConfigFault
first_at tell number [] = None
first_at tell number (x ∷ xs) = or_else (tell number x) (first_at tell (number + 1) xs)

-- the first rule that a writer breaks in this pass, with the numbers of its peer and its own, both from 1
abbrev pub writer_fault : Pass → ℕ → PeerConfig → ℕ → WriterConfig → Option ConfigFault
writer_fault pass peer p writer w = fault_at (Writer peer writer) (first_broken (writer_rules pass p w))

-- the first rule that a reader breaks in this pass, with the numbers of its peer and its own, both from 1
abbrev pub reader_fault : Pass → List PeerConfig → ℕ → PeerConfig → ℕ → ReaderConfig → Option ConfigFault
reader_fault pass peers peer p reader r = fault_at (Reader peer reader) (first_broken (reader_rules pass peers p r))

-- the first fault among the writers of a peer in this pass, in their order
abbrev pub writers_fault : Pass → ℕ → PeerConfig → Option ConfigFault
writers_fault pass peer p = first_at (writer_fault pass peer p) 1 p.writers

-- the first fault among the readers of a peer in this pass, in their order
abbrev pub readers_fault : Pass → List PeerConfig → ℕ → PeerConfig → Option ConfigFault
readers_fault pass peers peer p = first_at (reader_fault pass peers peer p) 1 p.readers

-- the first fault at a peer in this pass: its own, then that of a writer, then that of a reader
abbrev pub peer_fault : Pass → List PeerConfig → ℕ → PeerConfig → Option ConfigFault
peer_fault pass peers peer p = or_else (fault_at (Peer peer) (first_broken (peer_rules pass peers p)))
    (or_else (writers_fault pass peer p) (readers_fault pass peers peer p))

-- the first fault of all peers in one pass
abbrev pub pass_fault : Pass → List PeerConfig → Option ConfigFault
pass_fault pass peers = first_at (peer_fault pass peers) 1 peers

-- the fault of a configuration
abbrev pub config_fault : List PeerConfig → Option ConfigFault
config_fault peers = or_else (fault_at Whole (first_broken (whole_rules peers)))
    (or_else (pass_fault Parameters peers) (pass_fault Policies peers))
