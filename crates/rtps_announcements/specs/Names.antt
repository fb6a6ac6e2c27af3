-- The ids of the parameters that announcements have, and bounds (RTPS 2.5, 9.6: ParameterId values). `src/names.rt`
-- has the same names for the code.
use Rattle.std.specs.Prelude.{ℕ}

-- ---- of endpoints

-- the name of a topic
abbrev pub pid_topic_name : ℕ
pid_topic_name = 0x0005

-- the strength of a writer
abbrev pub pid_ownership_strength : ℕ
pid_ownership_strength = 0x0006

-- the name of a type
abbrev pub pid_type_name : ℕ
pid_type_name = 0x0007

-- RELIABILITY
abbrev pub pid_reliability : ℕ
pid_reliability = 0x001a

-- LIVELINESS
abbrev pub pid_liveliness : ℕ
pid_liveliness = 0x001b

-- DURABILITY
abbrev pub pid_durability : ℕ
pid_durability = 0x001d

-- OWNERSHIP
abbrev pub pid_ownership : ℕ
pid_ownership = 0x001f

-- PRESENTATION
abbrev pub pid_presentation : ℕ
pid_presentation = 0x0021

-- DEADLINE
abbrev pub pid_deadline : ℕ
pid_deadline = 0x0023

-- DESTINATION_ORDER
abbrev pub pid_destination_order : ℕ
pid_destination_order = 0x0025

-- LATENCY_BUDGET
abbrev pub pid_latency_budget : ℕ
pid_latency_budget = 0x0027

-- where an endpoint can be reached, in place of its participant's locators
abbrev pub pid_unicast_locator : ℕ
pid_unicast_locator = 0x002f

-- ---- of participants, and of both

-- how long a participant is taken to be there after it was last heard
abbrev pub pid_participant_lease_duration : ℕ
pid_participant_lease_duration = 0x0002

-- the domain of a participant
abbrev pub pid_domain_id : ℕ
pid_domain_id = 0x000f

-- the version of the protocol
abbrev pub pid_protocol_version : ℕ
pid_protocol_version = 0x0015

-- the vendor
abbrev pub pid_vendor_id : ℕ
pid_vendor_id = 0x0016

-- where the endpoints of a participant can be reached
abbrev pub pid_default_unicast_locator : ℕ
pid_default_unicast_locator = 0x0031

-- where the builtin endpoints of a participant can be reached
abbrev pub pid_metatraffic_unicast_locator : ℕ
pid_metatraffic_unicast_locator = 0x0032

-- which builtin endpoints a participant has
abbrev pub pid_builtin_endpoint_set : ℕ
pid_builtin_endpoint_set = 0x0058

-- the tag of a domain, which must be understood
abbrev pub pid_domain_tag : ℕ
pid_domain_tag = 0x4014

-- the GUID of a participant, also in an announcement of one of its endpoints
abbrev pub pid_participant_guid : ℕ
pid_participant_guid = 0x0050

-- PARTITION
abbrev pub pid_partition : ℕ
pid_partition = 0x0029

-- DATA_REPRESENTATION
abbrev pub pid_data_representation : ℕ
pid_data_representation = 0x0073

-- the GUID of an endpoint
abbrev pub pid_endpoint_guid : ℕ
pid_endpoint_guid = 0x005a

-- ---- bounds

-- the longest name of a topic or a type, in octets
abbrev pub max_name : ℕ
max_name = 256

-- so many locators of a kind are read
abbrev pub max_locators : ℕ
max_locators = 4

-- so many names a PARTITION has
abbrev pub max_partitions : ℕ
max_partitions = 16

-- so many ids a DATA_REPRESENTATION has
abbrev pub max_representations : ℕ
max_representations = 8

-- LOCATOR_KIND_UDPv4
abbrev pub locator_kind_udp_v4 : ℕ
locator_kind_udp_v4 = 1

-- from this id on a parameter must be understood, up to `vendor_ids`
abbrev pub must_understand_ids : ℕ
must_understand_ids = 0x4000

-- from this id on parameters are a vendor's own
abbrev pub vendor_ids : ℕ
vendor_ids = 0x8000
