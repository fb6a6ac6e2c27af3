-- What a configured writer offers, and what a configured reader asks for (DDS 1.4, 2.2.3: the policies that are
-- requested and offered).
use Rattle.std.specs.Prelude.{pos}
use Rattle.dds_base.specs.Policies.{default_presentation, infinite, lasting, no_time}
use Rattle.dds_base.specs.declared.config.WriterConfig.{WriterConfig}
use Rattle.dds_base.specs.declared.config.ReaderConfig.{ReaderConfig}
use Rattle.dds_base.specs.declared.policies.DestinationOrderQos.TheVariants.{ByReceptionTimestamp}
use Rattle.dds_base.specs.declared.policies.DurabilityQos.TheVariants.{Volatile}
use Rattle.dds_base.specs.declared.policies.LivelinessKind.TheVariants.{Automatic, ManualByTopic}
use Rattle.dds_base.specs.declared.policies.Policies.{Policies}

-- A writer offers its RELIABILITY, keeps nothing for readers that come later, and asserts itself.
abbrev pub offered : WriterConfig → Policies
offered w = record {
  reliability = w.reliability;
  durability = Volatile;
  liveliness = record { kind = ManualByTopic; lease = lasting w.lease };
  ownership = w.ownership;
  strength = w.strength;
  deadline = infinite;
  latency_budget = no_time;
  destination_order = ByReceptionTimestamp;
  presentation = default_presentation;
}

-- A reader asks for its RELIABILITY, its OWNERSHIP and its lease, and of all else for nothing.
abbrev pub requested : ReaderConfig → Policies
requested r = record {
  reliability = r.reliability;
  durability = Volatile;
  liveliness = record { kind = Automatic; lease = lasting r.lease };
  ownership = r.ownership;
  strength = pos 0;
  deadline = infinite;
  latency_budget = infinite;
  destination_order = ByReceptionTimestamp;
  presentation = default_presentation;
}
