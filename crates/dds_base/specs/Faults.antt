-- Which rule a configuration breaks, and where (DDS 1.4, 2.2.1.1: BAD_PARAMETER, INCONSISTENT_POLICY; 2.2.3).
use Rattle.std.specs.Prelude.{◌≡◌, ℕ, ◌-◌, ◌==◌, ◌||◌, Bool, true, false, not, List, length, slice_get, nat_lt, if◌then◌else◌}
use Rattle.std.specs.List.{list_any}
use Rattle.std.specs.Option.{option_map_or}
use Rattle.dds_base.specs.declared.code.Code.{Code}
use Rattle.dds_base.specs.declared.code.Code.TheVariants.{BadParameter, InconsistentPolicy}
use Rattle.dds_base.specs.declared.config.PeerConfig.{PeerConfig}
use Rattle.dds_base.specs.declared.config.WriterConfig.{WriterConfig}
use Rattle.dds_base.specs.declared.config.ReaderConfig.{ReaderConfig}
use Rattle.dds_base.specs.declared.config_fault.ConfigRule.{ConfigRule}
use Rattle.dds_base.specs.declared.config_fault.ConfigRule.TheVariants.{PeerCount, WriterCount, ReaderCount, KnownPrefix, OwnPrefix, OwnEntity, EntityKind, Depth, MaxSamples, MaxInstances, MaxArrivals, Lease, MaxValue, DepthWithinMaximum, SameOwnership, OfferedReliability, OfferedLease, OfferedValue}
use Rattle.dds_base.specs.declared.config_fault.ConfigPlace.{ConfigPlace}
use Rattle.dds_base.specs.declared.config_fault.ConfigPlace.TheVariants.{Whole, Peer, Writer, Reader}
use Rattle.dds_base.specs.declared.config_fault.ConfigFault.{ConfigFault}
use Rattle.dds_base.specs.Bounds.{max_ends, max_peers}
use Rattle.dds_base.specs.Matched.{matched_writers_of}
use Rattle.dds_base.specs.Checked.{same_prefix, unknown_prefix, has_kind, prefix_count, entity_count, has_no_depth, is_maximum, is_bad_life, is_bad_lease, is_bad_value, exceeds_limit, differ, asks_for_more, is_longer}

-- the code of a rule
abbrev pub code_of_rule : ConfigRule → Code
code_of_rule DepthWithinMaximum = InconsistentPolicy
code_of_rule SameOwnership = InconsistentPolicy
code_of_rule OfferedReliability = InconsistentPolicy
code_of_rule OfferedLease = InconsistentPolicy
code_of_rule OfferedValue = InconsistentPolicy
code_of_rule _ = BadParameter

-- the configuration as a whole breaks the rule
abbrev pub breaks_as_whole : List PeerConfig → ConfigRule → Bool
breaks_as_whole peers PeerCount = (length peers == 0) || nat_lt max_peers (length peers)
breaks_as_whole peers _ = false

-- the peer breaks the rule
abbrev pub breaks_as_peer : List PeerConfig → ConfigRule → PeerConfig → Bool
breaks_as_peer peers WriterCount p = nat_lt max_ends (length p.writers)
breaks_as_peer peers ReaderCount p = nat_lt max_ends (length p.readers)
breaks_as_peer peers KnownPrefix p = same_prefix p.prefix unknown_prefix
breaks_as_peer peers OwnPrefix p = nat_lt 1 (prefix_count peers p.prefix)
breaks_as_peer peers _ p = false

-- the writer of the peer breaks the rule
abbrev pub breaks_as_writer : PeerConfig → ConfigRule → WriterConfig → Bool
breaks_as_writer p OwnEntity w = nat_lt 1 (entity_count p w.entity)
breaks_as_writer p EntityKind w = not (has_kind 2 w.entity)
breaks_as_writer p Depth w = has_no_depth w.history
breaks_as_writer p MaxSamples w = not (is_maximum w.max_samples)
breaks_as_writer p Lease w = is_bad_lease w.lease
breaks_as_writer p MaxValue w = is_bad_value w.max_value
breaks_as_writer p DepthWithinMaximum w = exceeds_limit w.history w.max_samples
breaks_as_writer p _ w = false

-- the reader of the peer breaks the rule
abbrev pub breaks_as_reader : List PeerConfig → PeerConfig → ConfigRule → ReaderConfig → Bool
breaks_as_reader peers p OwnEntity r = nat_lt 1 (entity_count p r.entity)
breaks_as_reader peers p EntityKind r = not (has_kind 7 r.entity)
breaks_as_reader peers p Depth r = has_no_depth r.history
breaks_as_reader peers p MaxSamples r = not (is_maximum r.max_samples)
breaks_as_reader peers p MaxInstances r = not (is_maximum r.max_instances)
breaks_as_reader peers p MaxArrivals r = is_bad_life r.max_arrivals
breaks_as_reader peers p Lease r = is_bad_lease r.lease
breaks_as_reader peers p MaxValue r = is_bad_value r.max_value
breaks_as_reader peers p DepthWithinMaximum r = exceeds_limit r.history r.max_samples
breaks_as_reader peers p SameOwnership r =
    list_any (λ (w : WriterConfig). differ w.ownership r.ownership) (matched_writers_of peers r)
breaks_as_reader peers p OfferedReliability r =
    list_any (λ (w : WriterConfig). asks_for_more r.reliability w.reliability) (matched_writers_of peers r)
breaks_as_reader peers p OfferedLease r =
    list_any (λ (w : WriterConfig). is_longer w.lease r.lease) (matched_writers_of peers r)
breaks_as_reader peers p OfferedValue r =
    list_any (λ (w : WriterConfig). nat_lt r.max_value w.max_value) (matched_writers_of peers r)
breaks_as_reader peers p _ r = false

-- the element of this number, counted from 1, passes the test
abbrev pub passes_at : {X : Type 0} → (X → Bool) → ℕ → List X → Bool
passes_at test number xs = if nat_lt 0 number then option_map_or test (slice_get xs (number - 1)) false else false

-- what stands at the place breaks the rule
abbrev pub breaks_at : List PeerConfig → ConfigPlace → ConfigRule → Bool
breaks_at peers Whole rule = breaks_as_whole peers rule
breaks_at peers (Peer peer) rule = passes_at (breaks_as_peer peers rule) peer peers
breaks_at peers (Writer peer writer) rule =
    passes_at (λ (p : PeerConfig). passes_at (breaks_as_writer p rule) writer p.writers) peer peers
breaks_at peers (Reader peer reader) rule =
    passes_at (λ (p : PeerConfig). passes_at (breaks_as_reader peers p rule) reader p.readers) peer peers

-- the configuration breaks the rule that the fault names, at the place that it names
abbrev pub Breaks : List PeerConfig → ConfigFault → Type 0
Breaks peers fault = breaks_at peers fault.place fault.rule ≡ true
