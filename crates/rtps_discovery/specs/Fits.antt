-- Which writers and readers are matched (DDS 1.4, 2.2.2 and 2.2.3: topics, PARTITION, policies that are requested and
-- offered; DDS-XTypes 1.3, 7.6.3.1.1: DATA_REPRESENTATION).
use Rattle.std.specs.Prelude.{ℕ, ◌==◌, ◌&&◌, Bool, List, [], ◌∷◌, Option, Some, None, if◌then◌else◌}
use Rattle.std.specs.List.{list_any}
use Rattle.std.specs.Option.{option_or, is_none}
use Rattle.std.specs.Str.{bytes_eq}
use Rattle.rtps_announcements.specs.Endpoints.{xcdr1, default_representations}
use Rattle.rtps_announcements.specs.declared.endpoint.Endpoint.{Endpoint}
use Rattle.dds_policies.specs.Offers.{unfit}
use Rattle.dds_policies.specs.declared.misfit.Misfit.{Misfit}
use Rattle.dds_policies.specs.declared.misfit.Misfit.TheVariants.{DataRepresentation}

-- one topic, of one type
abbrev pub same_names : Endpoint → Endpoint → Bool
same_names w r = bytes_eq w.topic_name r.topic_name && bytes_eq w.type_name r.type_name

-- Who names no partition is in the one without a name.
abbrev pub partitions_of : List (List ℕ) → List (List ℕ)
partitions_of [] = [] ∷ []
partitions_of (name ∷ names) = name ∷ names

-- a partition of both; names are compared as they stand
abbrev pub share_partition : Endpoint → Endpoint → Bool
share_partition w r =
    list_any (λ name. list_any (bytes_eq name) (partitions_of r.partitions)) (partitions_of w.partitions)

-- Who names no representation has XCDR1 alone.
abbrev pub representations_of : List ℕ → List ℕ
representations_of [] = default_representations
representations_of (id ∷ ids) = id ∷ ids

-- what a writer writes: the first of its representations
abbrev pub first_representation : List ℕ → ℕ
first_representation [] = xcdr1
first_representation (id ∷ ids) = id

-- what the writer writes is one that the reader reads
abbrev pub offers_representation : Endpoint → Endpoint → Bool
offers_representation w r =
    list_any (λ id. id == first_representation w.representations) (representations_of r.representations)

-- the first policy of which the writer offers less than the reader asks for; representations come last
abbrev pub misfit : Endpoint → Endpoint → Option Misfit
misfit w r =
    option_or (unfit w.policies r.policies) (if offers_representation w r then None else Some DataRepresentation)

-- one topic and type, and a partition of both
abbrev pub meet : Endpoint → Endpoint → Bool
meet w r = same_names w r && share_partition w r

-- one topic and type, a partition of both, and no misfit
abbrev pub fits : Endpoint → Endpoint → Bool
fits w r = meet w r && is_none (misfit w r)
