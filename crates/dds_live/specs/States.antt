-- A participant on the network, and its socket before it begins.
use Rattle.std.specs.Prelude.{ℕ, List}
use Rattle.rtps_announcements.specs.declared.locator.Locator.{Locator}
use Rattle.dds_domain.specs.Participants.{State as Participant}
use Rattle.dds_live.specs.declared.moments.Moments.{Moments}

-- a socket of a domain: where it is, who is told of it, and when it was opened
pub record Binding : Type 0 where
  pub locator : Locator
  pub domain : ℕ
  pub addresses : List Locator
  pub moments : Moments

-- a participant, where its socket is, and when that was opened
pub record State : Type 0 where
  pub participant : Participant
  pub locator : Locator
  pub moments : Moments
