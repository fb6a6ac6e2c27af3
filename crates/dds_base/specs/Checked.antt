-- Why a configuration is refused (DDS 1.4, 2.2.1.1: BAD_PARAMETER, INCONSISTENT_POLICY). The counts, that a
-- lease is below 2^63, how many changes a reader takes, and how long values are, are limits of this project.
use Rattle.std.specs.Prelude.{ℕ, zero, suc, ◌+◌, ◌==◌, ◌&&◌, ◌||◌, Bool, true, false, not, List, length, count_by, replicate, slice_index, nat_eq, nat_lt, nat_le, Option, Some, None, ℤ, pos, negsuc, if◌then◌else◌}
use Rattle.std.specs.List.{list_any}
use Rattle.std.specs.Cmp.Lexicographic.{pointwise}
use Rattle.dds_base.specs.declared.code.Code.{Code}
use Rattle.dds_base.specs.declared.code.Code.TheVariants.{BadParameter, InconsistentPolicy}
use Rattle.dds_base.specs.declared.guid.GuidPrefix.{GuidPrefix}
use Rattle.dds_base.specs.declared.guid.EntityId.{EntityId}
use Rattle.dds_base.specs.declared.qos.HistoryQos.{HistoryQos}
use Rattle.dds_base.specs.declared.qos.HistoryQos.TheVariants.{KeepAll, KeepLast}
use Rattle.dds_base.specs.declared.qos.OwnershipQos.{OwnershipQos}
use Rattle.dds_base.specs.declared.qos.OwnershipQos.TheVariants.{Shared, Exclusive}
use Rattle.dds_base.specs.declared.qos.ReliabilityQos.{ReliabilityQos}
use Rattle.dds_base.specs.declared.config.PeerConfig.{PeerConfig}
use Rattle.dds_base.specs.declared.config.WriterConfig.{WriterConfig}
use Rattle.dds_base.specs.declared.config.ReaderConfig.{ReaderConfig}
use Rattle.dds_base.specs.Bounds.{end_of_moments, greatest_value, max_ends, max_peers, most_arrivals}
use Rattle.dds_base.specs.Matched.{is_reliable, matched_writers_of}
use Rattle.dds_base.specs.Offered.{offered, requested}
use Rattle.dds_base.specs.Offers.{is_empty, unfit_policies}

-- two prefixes are one (RTPS 2.5, 8.2: GuidPrefix_t)
abbrev pub same_prefix : GuidPrefix → GuidPrefix → Bool
same_prefix a b = pointwise nat_eq a.0 b.0

-- GUIDPREFIX_UNKNOWN, which is no peer's (RTPS 2.5, 9.3)
abbrev pub unknown_prefix : GuidPrefix
unknown_prefix = record { 0 = replicate 12 0 }

-- two entities are one (RTPS 2.5, 8.2: EntityId_t)
abbrev pub same_entity : EntityId → EntityId → Bool
same_entity a b = pointwise nat_eq a.0 b.0

-- what kind of entity it is: the last octet (RTPS 2.5, 9.3: 0x02 is a writer, 0x07 a reader, each with a key)
abbrev pub has_kind : ℕ → EntityId → Bool
has_kind kind e = slice_index e.0 3 == kind

-- how many peers have a prefix
abbrev pub prefix_count : List PeerConfig → GuidPrefix → ℕ
prefix_count peers prefix = count_by (λ (p : PeerConfig). same_prefix p.prefix prefix) peers

-- how many writers and readers of a peer are an entity
abbrev pub entity_count : PeerConfig → EntityId → ℕ
entity_count p entity = count_by (λ (w : WriterConfig). same_entity w.entity entity) p.writers + count_by
    (λ (r : ReaderConfig). same_entity r.entity entity) p.readers

-- KEEP_LAST with a depth of 0 (DDS 1.4, 2.2.3, HISTORY)
abbrev pub has_no_depth : HistoryQos → Bool
has_no_depth KeepAll = false
has_no_depth (KeepLast depth) = depth == 0

-- a maximum: LENGTH_UNLIMITED, which is -1, or a positive number (DDS 1.4, 2.2.3, RESOURCE_LIMITS)
abbrev pub is_maximum : ℤ → Bool
is_maximum (pos zero) = false
is_maximum (pos (suc n)) = true
is_maximum (negsuc zero) = true
is_maximum (negsuc (suc n)) = false

-- the limit of a maximum: LENGTH_UNLIMITED is none (DDS 1.4, 2.2.3, RESOURCE_LIMITS; 2.2.2.5, max_samples)
abbrev pub limit_of : ℤ → Option ℕ
limit_of (pos n) = Some n
limit_of (negsuc n) = None

-- a reader that takes no change in its life, or more than 2^63
abbrev pub is_bad_life : ℕ → Bool
is_bad_life arrivals = (arrivals == 0) || nat_lt most_arrivals arrivals

-- a lease of 0, or of 2^63 units and more (DDS 1.4, 2.2.3, LIVELINESS)
abbrev pub is_bad_lease : Option ℕ → Bool
is_bad_lease None = false
is_bad_lease (Some lease) = (lease == 0) || nat_le end_of_moments lease

-- values of no octet, or of more than 65,000
abbrev pub is_bad_value : ℕ → Bool
is_bad_value most = (most == 0) || nat_lt greatest_value most

-- a writer of another kind, without a depth, or with a maximum, a lease or a length of values that is invalid
abbrev pub is_bad_writer : WriterConfig → Bool
is_bad_writer w = not (has_kind 2 w.entity)
    || (has_no_depth w.history
    || (not (is_maximum w.max_samples) || (is_bad_lease w.lease || is_bad_value w.max_value)))

-- a reader of another kind, without a depth, or with a maximum, a life, a lease or a length of values that is invalid
abbrev pub is_bad_reader : ReaderConfig → Bool
is_bad_reader r = not (has_kind 7 r.entity)
    || (has_no_depth r.history
    || (not (is_maximum r.max_samples)
    || (not (is_maximum r.max_instances)
    || (is_bad_life r.max_arrivals || (is_bad_lease r.lease || is_bad_value r.max_value)))))

-- a peer with more than 16 writers or readers, with two equal entities, or with a writer or reader that is invalid
abbrev pub is_bad_peer : PeerConfig → Bool
is_bad_peer p =
    (nat_lt max_ends (length p.writers) || nat_lt max_ends (length p.readers))
    || ((list_any (λ (w : WriterConfig). nat_lt 1 (entity_count p w.entity)) p.writers
    || list_any (λ (r : ReaderConfig). nat_lt 1 (entity_count p r.entity)) p.readers)
    || (list_any is_bad_writer p.writers || list_any is_bad_reader p.readers))

-- no peer or more than 16, a prefix that is no peer's, two equal prefixes, or a bad peer
abbrev pub has_bad_parameter : List PeerConfig → Bool
has_bad_parameter peers =
    ((length peers == 0) || nat_lt max_peers (length peers))
    || (list_any (λ (p : PeerConfig). same_prefix p.prefix unknown_prefix
    || nat_lt 1 (prefix_count peers p.prefix)) peers
    || list_any is_bad_peer peers)

-- a depth above a max_samples that is a limit (DDS 1.4, 2.2.3, HISTORY, RESOURCE_LIMITS: depth <=
-- max_samples_per_instance <= max_samples)
abbrev pub exceeds_limit : HistoryQos → ℤ → Bool
exceeds_limit (KeepLast depth) (pos limit) = nat_lt limit depth
exceeds_limit _ _ = false

-- two kinds of ownership (DDS 1.4, 2.2.3, OWNERSHIP: offered and requested are the same)
abbrev pub differ : OwnershipQos → OwnershipQos → Bool
differ Shared Exclusive = true
differ Exclusive Shared = true
differ _ _ = false

-- a reliable reader, and a writer that is not (DDS 1.4, 2.2.3, RELIABILITY: offered is at least requested)
abbrev pub asks_for_more : ReliabilityQos → ReliabilityQos → Bool
asks_for_more reader writer = is_reliable reader && not (is_reliable writer)

-- a lease is longer than another; None never ends
abbrev pub is_longer : Option ℕ → Option ℕ → Bool
is_longer _ None = false
is_longer None (Some b) = true
is_longer (Some a) (Some b) = nat_lt b a

-- a matched pair does not fit: the writer offers less of some policy than the reader asks for, or its values may be
-- longer than those that the reader takes. Leases are compared as they stand, too: offered and asked for, one of
-- 2^31 - 1 seconds or more has no end (DDS 1.4, 2.2.3: the policies that are requested and offered)
abbrev pub are_incompatible : ReaderConfig → WriterConfig → Bool
are_incompatible r w =
    not (is_empty (unfit_policies (offered w) (requested r)))
    || (is_longer w.lease r.lease || nat_lt r.max_value w.max_value)

-- a writer or reader that contradicts itself, or a reader with a matched writer that does not fit it
abbrev pub is_inconsistent_peer : List PeerConfig → PeerConfig → Bool
is_inconsistent_peer peers p =
    list_any (λ (w : WriterConfig). exceeds_limit w.history w.max_samples) p.writers
    || list_any (λ (r : ReaderConfig). exceeds_limit r.history r.max_samples
    || list_any (are_incompatible r) (matched_writers_of peers r)) p.readers

-- some peer is inconsistent (DDS 1.4, 2.2.1.1, INCONSISTENT_POLICY)
abbrev pub has_inconsistent_policy : List PeerConfig → Bool
has_inconsistent_policy peers = list_any (is_inconsistent_peer peers) peers

-- the code with which a configuration is refused: a bad parameter anywhere goes before an inconsistent policy anywhere
abbrev pub check_refusal : List PeerConfig → Option Code
check_refusal peers =
    if has_bad_parameter peers then Some BadParameter
    else (if has_inconsistent_policy peers then Some InconsistentPolicy else None)
