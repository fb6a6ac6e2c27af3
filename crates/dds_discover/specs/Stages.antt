-- How far a session has come.
use Rattle.std.specs.Prelude.{◌≡◌, ℕ, ◌++◌, [], ◌∷◌, IsErr, IsSomeAnd, OnOk, Option, None, Some, Result, MatchOption, MatchResult}
use Rattle.dds_base.specs.declared.code.Code.{Code}
use Rattle.rtps_announcements.specs.declared.locator.Locator.{Locator}
use Rattle.rtps_announcements.specs.declared.participant.Participant.{Participant}
use Rattle.dds_discovery.specs.Events.{opened}
use Rattle.dds_discovery.specs.States.{State}
use Rattle.dds_discover.specs.declared.session.Beginning.{Beginning}
use Rattle.dds_discover.specs.declared.session.Stage.{Stage}
use Rattle.dds_discover.specs.declared.session.Stage.TheVariants.{Naming, Open, Refused}

-- what was said of us, where discovery has not begun
abbrev pub said_of : Stage → Option Beginning
said_of (Naming b) = Some b
said_of Refused = None
said_of (Open d) = None

-- how far discovery has come, where it goes on
abbrev pub discovery_of : Stage → Option State
discovery_of (Naming b) = None
discovery_of Refused = None
discovery_of (Open d) = Some d

-- nothing was said yet: 64 participants may be known, in all and at an address, and 128 endpoints of each
pub record IsUnsaid (b : Beginning) : Type 0 where
  pub participant : b.participant ≡ None
  pub addresses : b.addresses.items ≡ []
  pub limits : b.limits ≡ record { of_all = 64; of_one_address = 64 }
  pub most : b.most ≡ 128

-- one more address was said, and nothing else
pub record SaysAddress (address : Locator) (b c : Beginning) : Type 0 where
  pub addresses : c.addresses.items ≡ b.addresses.items ++ address ∷ []
  pub rest : c ≡ record b { addresses = c.addresses }

-- What is said is this of what was said before; once discovery has begun, nothing is said any more.
abbrev pub Says : {A E : Type 0} → (Beginning → Beginning → Type 0) → Stage → Result A E → Stage → Type 0
Says P old answered new =
    MatchOption (said_of old) (IsErr answered × (new ≡ old)) (λ b. OnOk answered (IsSomeAnd (said_of new) (P b)))

-- Discovery begins with what was said; where that is refused, no line is taken any more.
abbrev pub Begins : Beginning → Participant × ℕ → Stage → Result (Unit {0}) Code → Type 0
Begins b who new answered = MatchResult answered
    (λ _. new ≡ Open (opened who.0 who.1 b.addresses.items b.limits b.most)) (λ _. new ≡ Refused)
