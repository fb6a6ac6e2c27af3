-- Our endpoints, as our peer has them (DDS 1.4, 2.2.3: supported QoS).
use Rattle.std.specs.Prelude.{◌≡◌, ℕ, true, false, None, pos, negsuc}
use Rattle.dds_base.specs.declared.config.ReaderConfig.{ReaderConfig}
use Rattle.dds_base.specs.declared.config.WriterConfig.{WriterConfig}
use Rattle.dds_base.specs.declared.policies.DestinationOrderQos.TheVariants.{ByReceptionTimestamp}
use Rattle.dds_base.specs.declared.policies.DurabilityQos.TheVariants.{Volatile}
use Rattle.dds_base.specs.declared.policies.LivelinessKind.TheVariants.{Automatic}
use Rattle.dds_base.specs.declared.policies.Policies.{Policies}
use Rattle.dds_base.specs.declared.qos.HistoryQos.TheVariants.{KeepAll}
use Rattle.dds_base.specs.Bounds.{usual_arrivals}
use Rattle.dds_base.specs.Policies.{default_presentation, infinite}
use Rattle.rtps_matching.specs.declared.end.End.{End}
use Rattle.dds_exchange.specs.Entities.{keyed}

-- Our peer holds to all that the policies offer or ask for, beside RELIABILITY and OWNERSHIP.
pub record CanHold (p : Policies) : Type 0 where
  pub durability : p.durability ≡ Volatile
  pub liveliness : p.liveliness ≡ record { kind = Automatic; lease = infinite }
  pub deadline : p.deadline ≡ infinite
  pub order : p.destination_order ≡ ByReceptionTimestamp
  pub presentation : p.presentation ≡ default_presentation

-- a writer of ours, of a topic of its own
abbrev pub writer_of : End → ℕ → ℕ → WriterConfig
writer_of end topic max_value = record {
  entity = keyed end.endpoint.guid.entity;
  topic = topic;
  ownership = end.endpoint.policies.ownership;
  reliability = end.endpoint.policies.reliability;
  history = KeepAll;
  max_samples = negsuc 0;
  strength = end.endpoint.policies.strength;
  lease = None;
  autodispose = true;
  max_value = max_value;
}

-- a reader of ours, likewise
abbrev pub reader_of : End → ℕ → ℕ → ReaderConfig
reader_of end topic max_value = record {
  entity = keyed end.endpoint.guid.entity;
  topic = topic;
  ownership = end.endpoint.policies.ownership;
  reliability = end.endpoint.policies.reliability;
  history = KeepAll;
  max_samples = negsuc 0;
  max_instances = negsuc 0;
  max_arrivals = usual_arrivals;
  lease = None;
  max_value = max_value;
}
