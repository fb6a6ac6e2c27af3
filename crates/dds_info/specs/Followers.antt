-- The samples of the same instance that follow a sample in a collection. Inner functions alone cite this: nothing here
-- has to be believed.
--
-- DDS 1.4, 2.2.2.5 (sample_rank, generation_rank, absolute_generation_rank).
use Rattle.std.specs.Prelude.{◌≡◌, ℕ, List, [], ◌∷◌, Bool, false, count_by}
use Rattle.dds_base.specs.declared.sample.Picked.{Picked}
use Rattle.dds_base.specs.Access.{is_of, most_recent, own_generations}
use Rattle.dds_info.specs.declared.followers.Followers.{Followers}

-- how many of its instance follow a sample, and the generations of the most recent of them
pub record IsFollowed (p : Picked) (later : List Picked) (f : Followers) : Type 0 where
  pub count_is : f.count ≡ count_by (is_of p.instance_handle) later
  pub recent_is : f.recent ≡ own_generations (most_recent p later)

-- the same of the first of them, if there is one
abbrev pub IsFirstFollowed : List Picked → Followers → Type 0
IsFirstFollowed [] f = Unit {0}
IsFirstFollowed (p ∷ later) f = IsFollowed p later f

-- the first of them is of this instance
abbrev pub starts_with : ℕ → List Picked → Bool
starts_with handle [] = false
starts_with handle (p ∷ ps) = is_of handle p
