-- The last samples of a collection that stands by handle. What is told of them nobody looks into.
--
-- DDS 1.4, 2.2.2.5 (sample_rank, generation_rank, absolute_generation_rank).
use Rattle.std.specs.Prelude.{◌≡◌, ◌+◌, ◌<◌, ◌^◌, List, [], ◌∷◌, length, Option, None, Some}
use Rattle.std.specs.List.Sorted.{IsNonDecreasingBy}
use Rattle.dds_base.specs.declared.sample.Picked.{Picked}
use Rattle.dds_info.specs.declared.followers.Followers.{Followers}
use Rattle.dds_info.specs.declared.ranks.Next.{Next}
use Rattle.dds_info.specs.Followers.{IsFollowed}

-- it was told how a sample is followed by the later ones
pub record IsToldOf (p : Picked) (later : List Picked) (next : Option Next) : Type 0 where
  pub followers : Followers
  pub next_is : next ≡ Some (record { handle = p.instance_handle; followers = followers })
  pub followed : IsFollowed p later followers

-- these samples were told, the last one first
abbrev pub AreTold : List Picked → Option Next → Type 0
AreTold [] next = next ≡ None
AreTold (p ∷ later) next = IsToldOf p later next

-- a sample stands by handle before those that were told, and all are fewer than 2^64
pub record StandsBefore (p : Picked) (later : List Picked) (next : Option Next) : Type 0 where
  pub told : AreTold later next
  pub sorted : IsNonDecreasingBy (λ (x : Picked). x.instance_handle) (p ∷ later)
  pub few : length later + 1 < 2 ^ 64
