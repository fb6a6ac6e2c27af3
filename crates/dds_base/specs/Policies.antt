-- What the policies that are compared say: the numbers of their kinds, and times (DDS 1.4, 2.2.3; RTPS 2.5, 9.3.2:
-- Duration_t; 9.6: ParameterId values).
use Rattle.std.specs.Prelude.{ℕ, ◌+◌, ◌*◌, ◌/◌, ◌%◌, ◌^◌, ◌==◌, if◌then◌else◌, false, nat_lt, Option, Some, None}
use Rattle.dds_base.specs.declared.duration.Duration.{Duration}
use Rattle.dds_base.specs.declared.policies.DestinationOrderQos.{DestinationOrderQos}
use Rattle.dds_base.specs.declared.policies.DestinationOrderQos.TheVariants.{ByReceptionTimestamp, BySourceTimestamp}
use Rattle.dds_base.specs.declared.policies.DurabilityQos.{DurabilityQos}
use Rattle.dds_base.specs.declared.policies.DurabilityQos.TheVariants.{Volatile, TransientLocal, Transient, Persistent}
use Rattle.dds_base.specs.declared.policies.LivelinessKind.{LivelinessKind}
use Rattle.dds_base.specs.declared.policies.LivelinessKind.TheVariants.{Automatic, ManualByParticipant, ManualByTopic}
use Rattle.dds_base.specs.declared.policies.PresentationQos.{PresentationQos}
use Rattle.dds_base.specs.declared.policies.PresentationScope.{PresentationScope}
use Rattle.dds_base.specs.declared.policies.PresentationScope.TheVariants.{Instance, Topic, Group}
use Rattle.dds_base.specs.declared.qos.OwnershipQos.{OwnershipQos}
use Rattle.dds_base.specs.declared.qos.OwnershipQos.TheVariants.{Shared, Exclusive}
use Rattle.dds_base.specs.declared.qos.ReliabilityQos.{ReliabilityQos}
use Rattle.dds_base.specs.declared.qos.ReliabilityQos.TheVariants.{BestEffort, Reliable}

-- ---- kinds

-- the number of a kind of RELIABILITY
abbrev pub reliability_code : ReliabilityQos → ℕ
reliability_code BestEffort = 1
reliability_code Reliable = 2

-- the number of a kind of DURABILITY
abbrev pub durability_code : DurabilityQos → ℕ
durability_code Volatile = 0
durability_code TransientLocal = 1
durability_code Transient = 2
durability_code Persistent = 3

-- the number of a kind of OWNERSHIP
abbrev pub ownership_code : OwnershipQos → ℕ
ownership_code Shared = 0
ownership_code Exclusive = 1

-- the number of a kind of LIVELINESS
abbrev pub liveliness_code : LivelinessKind → ℕ
liveliness_code Automatic = 0
liveliness_code ManualByParticipant = 1
liveliness_code ManualByTopic = 2

-- the number of a kind of DESTINATION_ORDER
abbrev pub destination_order_code : DestinationOrderQos → ℕ
destination_order_code ByReceptionTimestamp = 0
destination_order_code BySourceTimestamp = 1

-- the number of an access scope of PRESENTATION
abbrev pub scope_code : PresentationScope → ℕ
scope_code Instance = 0
scope_code Topic = 1
scope_code Group = 2

-- within an instance, neither coherent nor ordered
abbrev pub default_presentation : PresentationQos
default_presentation = record { scope = Instance; coherent_access = false; ordered_access = false }

-- ---- times

-- no end: the seconds are the greatest
abbrev pub infinite : Duration
infinite = record { seconds = 0x7fffffff; fraction = 0xffffffff }

-- no time at all
abbrev pub no_time : Duration
no_time = record { seconds = 0; fraction = 0 }

-- the time in units of 2^-32 second, where it has an end: the seconds are not the greatest
abbrev pub units_of : Duration → Option ℕ
units_of d = if d.seconds == 0x7fffffff then None else Some (d.seconds * 2 ^ 32 + d.fraction)

-- The time of so many units of 2^-32 second. Where it is none, or of 2^31 - 1 seconds or more, it has no end.
abbrev pub lasting : Option ℕ → Duration
lasting None = infinite
lasting (Some units) = if nat_lt (units / 2 ^ 32) 0x7fffffff
    then record { seconds = units / 2 ^ 32; fraction = units % 2 ^ 32 }
    else infinite
