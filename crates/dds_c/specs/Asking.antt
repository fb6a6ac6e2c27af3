-- What the numbers of a call mean.
--
-- DDS 1.4, 2.2.2.5 (sample_states, view_states, instance_states); that an end is named by two numbers is this project's
-- own.
use Rattle.std.specs.Prelude.{ℕ}
use Rattle.dds_base.specs.declared.endpoint.Endpoint.{Endpoint}
use Rattle.dds_base.specs.declared.mask.Masks.{Masks}

-- the masks of these bits
abbrev pub masks_of : ℕ → ℕ → ℕ → Masks
masks_of samples views instances =
    record { samples = record { 0 = samples }; views = record { 0 = views }; instances = record { 0 = instances } }

-- the writer or reader of this number at the peer of that one
abbrev pub end_of : ℕ → ℕ → Endpoint
end_of peer number = record { peer = peer; number = number }
