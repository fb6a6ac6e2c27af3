-- The sum of a configuration, by which processes see that they were given the same one.
--
-- What is summed are the policies of DDS 1.4, 2.2.3, and the names of RTPS 2.5, 9.3; the sum is this project's own.
use Rattle.std.specs.Prelude.{ℕ, ◌+◌, ◌*◌, ◌%◌, ◌==◌, if◌then◌else◌, List, length, Bool, true, false, Option, Some, None}
use Rattle.std.specs.Int.{w32, cast_unsigned}
use Rattle.std.specs.List.{fold}
use Rattle.dds_base.specs.Bounds.{usual_value}
use Rattle.dds_base.specs.declared.config.Config.{Config}
use Rattle.dds_base.specs.declared.config.PeerConfig.{PeerConfig}
use Rattle.dds_base.specs.declared.config.ReaderConfig.{ReaderConfig}
use Rattle.dds_base.specs.declared.config.WriterConfig.{WriterConfig}
use Rattle.dds_base.specs.declared.qos.HistoryQos.{HistoryQos}
use Rattle.dds_base.specs.declared.qos.HistoryQos.TheVariants.{KeepAll, KeepLast}
use Rattle.dds_base.specs.declared.qos.OwnershipQos.{OwnershipQos}
use Rattle.dds_base.specs.declared.qos.OwnershipQos.TheVariants.{Exclusive, Shared}
use Rattle.dds_base.specs.declared.qos.ReliabilityQos.{ReliabilityQos}
use Rattle.dds_base.specs.declared.qos.ReliabilityQos.TheVariants.{BestEffort, Reliable}

-- a sum with a number more, in 64 bits
abbrev pub mixed : ℕ → ℕ → ℕ
mixed sum number = ((sum * 1099511628211) % 18446744073709551616 + number) % 18446744073709551616

-- policies in numbers
abbrev pub bit : Bool → ℕ
bit true = 1
bit false = 0

abbrev pub number_of_ownership : OwnershipQos → ℕ
number_of_ownership Shared = 0
number_of_ownership Exclusive = 1

abbrev pub number_of_reliability : ReliabilityQos → ℕ
number_of_reliability Reliable = 0
number_of_reliability BestEffort = 1

abbrev pub number_of_history : HistoryQos → ℕ
number_of_history KeepAll = 0
number_of_history (KeepLast depth) = depth + 1

-- whether there is a lease, and how long it is
abbrev pub mixed_lease : ℕ → Option ℕ → ℕ
mixed_lease sum None = mixed sum 0
mixed_lease sum (Some lease) = mixed (mixed sum 1) lease

-- how long values may be, where that is not as usual
unfoldable pub mixed_value : ℕ → ℕ → ℕ
mixed_value sum most = if most == usual_value then sum else mixed sum most

-- that a writer is best-effort, where it is: no value may be so long
abbrev pub mixed_best_effort : ℕ → ReliabilityQos → ℕ
mixed_best_effort sum Reliable = sum
mixed_best_effort sum BestEffort = mixed sum 4294967296

-- with a writer, a reader, a peer more
abbrev pub with_writer : ℕ → WriterConfig → ℕ
with_writer sum w = mixed_best_effort (mixed_value (mixed_lease (mixed (mixed (mixed (mixed (mixed (mixed
    (fold mixed sum w.entity.0) w.topic)
    (number_of_ownership w.ownership)) (number_of_history w.history)) (cast_unsigned w32 w.max_samples))
    (cast_unsigned w32 w.strength)) (bit w.autodispose)) w.lease) w.max_value) w.reliability

abbrev pub with_reader : ℕ → ReaderConfig → ℕ
with_reader sum r = mixed_value (mixed_lease (mixed (mixed (mixed (mixed (mixed (mixed (mixed (fold mixed sum r.entity.0) r.topic)
    (number_of_ownership r.ownership)) (number_of_reliability r.reliability)) (number_of_history r.history))
    (cast_unsigned w32 r.max_samples)) (cast_unsigned w32 r.max_instances)) r.max_arrivals) r.lease) r.max_value

abbrev pub with_peer : ℕ → PeerConfig → ℕ
with_peer sum p = mixed (mixed (fold with_reader (fold with_writer (fold mixed sum p.prefix.0) p.writers) p.readers)
    (length p.writers)) (length p.readers)

-- the sum of a configuration
abbrev pub sum_of : Config → ℕ
sum_of config = fold with_peer 0 config.peers
