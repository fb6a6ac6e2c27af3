-- When what is kept of a writer's liveliness stands for what happened. Inner functions alone cite this: nothing here has
-- to be believed.
--
-- DDS 1.4, 2.2.3 (LIVELINESS), 2.2.4.1 (LIVELINESS_LOST).
use Rattle.std.specs.Prelude.{◌≡◌, ℕ, List, Option}
use Rattle.dds_base.specs.Written.{Written, live_since, loss_count, losses_seen, told_losses}
use Rattle.rtps_writer.specs.declared.liveliness.Liveliness.{Liveliness}

-- what is kept of the liveliness of a writer with this lease stands for what happened there
pub record IsLiveliness (kept : Liveliness) (lease : Option ℕ) (written : List Written) : Type 0 where
  pub lease_is : kept.lease ≡ lease
  pub since_is : kept.since ≡ live_since lease written
  pub losses_are : kept.losses ≡ loss_count lease written
  pub seen_are : kept.losses_seen ≡ told_losses (losses_seen lease written)
