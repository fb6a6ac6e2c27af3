-- Writers and readers of other participants, as the arguments of a call say them.
--
-- RTPS 2.5, 8.2 (GUID_t); DDS 1.4, 2.2.3 (supported QoS). The policies that no argument says are those of
-- `WriterConfig::new` and `ReaderConfig::new`.
use Rattle.std.specs.Prelude.{ℕ, ℤ, List, Bool, true, pos, negsuc, Option, None}
use Rattle.dds_base.specs.Bounds.{usual_arrivals, usual_value}
use Rattle.dds_base.specs.Offered.{offered, requested}
use Rattle.dds_base.specs.declared.config.ReaderConfig.{ReaderConfig}
use Rattle.dds_base.specs.declared.config.WriterConfig.{WriterConfig}
use Rattle.dds_base.specs.declared.endpoint.Endpoint.{Endpoint}
use Rattle.dds_base.specs.declared.guid.Guid.{Guid}
use Rattle.dds_base.specs.declared.qos.HistoryQos.TheVariants.{KeepAll}
use Rattle.dds_base.specs.declared.qos.OwnershipQos.TheVariants.{Shared}
use Rattle.dds_base.specs.declared.qos.ReliabilityQos.TheVariants.{Reliable}
use Rattle.dds_machine.specs.declared.far.FarReader.{FarReader}
use Rattle.dds_machine.specs.declared.far.FarWriter.{FarWriter}
use Rattle.dds_c.specs.Opening.{reliability_of}

-- the GUID of this prefix and this entity id
abbrev pub guid_of : List ℕ → List ℕ → Guid
guid_of prefix entity = record { prefix = record { 0 = prefix }; entity = record { 0 = entity } }

-- a reader of the usual policies, but for its RELIABILITY
abbrev pub usual_reader : List ℕ → Bool → ReaderConfig
usual_reader entity is_best_effort = record {
  entity = record { 0 = entity };
  topic = 0;
  ownership = Shared;
  reliability = reliability_of is_best_effort;
  history = KeepAll;
  max_samples = negsuc 0;
  max_instances = negsuc 0;
  max_arrivals = usual_arrivals;
  lease = None;
  max_value = usual_value;
}

-- a writer of the usual policies, but for its OWNERSHIP_STRENGTH and its lease
abbrev pub usual_writer : List ℕ → ℤ → Option ℕ → WriterConfig
usual_writer entity strength lease = record {
  entity = record { 0 = entity };
  topic = 0;
  ownership = Shared;
  reliability = Reliable;
  history = KeepAll;
  max_samples = negsuc 0;
  strength = strength;
  lease = lease;
  autodispose = true;
  max_value = usual_value;
}

-- the reader of this name and this GUID that asks for what such a reader does
abbrev pub far_reader : Endpoint → List ℕ → List ℕ → Bool → FarReader
far_reader endpoint prefix entity is_best_effort = record {
  endpoint = endpoint;
  guid = guid_of prefix entity;
  requested = requested (usual_reader entity is_best_effort);
}

-- the writer of this name and this GUID that offers what such a writer does
abbrev pub far_writer : Endpoint → List ℕ → List ℕ → ℤ → Option ℕ → FarWriter
far_writer endpoint prefix entity strength lease = record {
  endpoint = endpoint;
  guid = guid_of prefix entity;
  offered = offered (usual_writer entity strength lease);
}
