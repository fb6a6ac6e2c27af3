-- How a participant begins on the network (RTPS 2.5, 9.6.2: well-known ports; 9.3: GuidPrefix_t; 8.5.3: SPDP).
use Rattle.std.specs.Prelude.{◌≡◌, ℕ, ◌<◌, ◌∷◌, List, [], Option, None, Some, IfSome, if◌then◌else◌, nat_lt, take}
use Rattle.std.specs.List.{fold}
use Rattle.dds_base.specs.declared.guid.GuidPrefix.{GuidPrefix}
use Rattle.rtps_announcements.specs.declared.locator.Locator.{Locator}
use Rattle.rtps_announcements.specs.declared.participant.Participant.{Participant}
use Rattle.rtps_announcements.specs.Participants.{vendor_unknown}
use Rattle.rtps_discovery.specs.declared.discovery.Settings.{Settings}
use Rattle.dds_domain.specs.declared.opening.OurEnd.{OurEnd}
use Rattle.dds_domain.specs.Opening.{no_parts, with_end}
use Rattle.dds_domain.specs.Participants.{IsOpened}
use Rattle.dds_live.specs.declared.ends.EndSettings.{EndSettings}
use Rattle.dds_live.specs.declared.failure.Failure.{Failure}
use Rattle.dds_live.specs.declared.failure.Failure.TheVariants.{NoDomain, NoIndex}
use Rattle.dds_live.specs.declared.place.Place.{Place}
use Rattle.dds_live.specs.Addresses.{all_locators}
use Rattle.dds_live.specs.Ends.{AreEnds}
use Rattle.dds_live.specs.Ports.{unicast_port}
use Rattle.dds_live.specs.States.{Binding, State}

-- ---- the socket

-- Nothing is said but the domain.
pub record IsUsualPlace (domain : ℕ) (p : Place) : Type 0 where
  pub domain_is : p.domain ≡ domain
  pub index : p.index ≡ None
  pub interface : p.interface ≡ None
  pub targets : p.targets.now ≡ []

-- why there is no such place: domains end with 230, indices with 119
abbrev pub fault_of_index : Option ℕ → Option Failure
fault_of_index None = None
fault_of_index (Some index) = if nat_lt 119 index then Some (NoIndex index) else None

abbrev pub fault_of : Place → Option Failure
fault_of p = if nat_lt 230 p.domain then Some (NoDomain p.domain) else fault_of_index p.index

-- It is at the port of the index that is said, or of one of the 120.
abbrev pub IsAtIndex : ℕ → Option ℕ → List ℕ → Locator → Type 0
IsAtIndex domain (Some index) address l = l ≡ record { address = address; port = unicast_port domain index }
IsAtIndex domain None address l =
    (index : ℕ) × (index < 120) × (l ≡ record { address = address; port = unicast_port domain index })

-- It is of this place: at the address that is said, or at some.
pub record IsBound (p : Place) (b : Binding) : Type 0 where
  pub address : List ℕ
  pub said : IfSome p.interface (λ (a : List ℕ). address ≡ a)
  pub port : IsAtIndex p.domain p.index address b.locator
  pub domain : b.domain ≡ p.domain
  pub addresses : b.addresses ≡ all_locators p.domain p.targets.now

-- ---- the participant

-- what it announces of itself: its socket for all, each builtin endpoint of discovery and of liveliness, and that it is there for
-- eight seconds
abbrev pub participant_at : GuidPrefix → Locator → Participant
participant_at prefix locator = record {
  prefix = prefix;
  vendor = vendor_unknown;
  builtin_endpoints = 3135;
  lease = record { seconds = 8; fraction = 0 };
  metatraffic = locator ∷ [];
  default = locator ∷ [];
}

-- whom it is told to, and how many others it knows
pub record AreSettings (prefix : GuidPrefix) (b : Binding) (s : Settings) : Type 0 where
  pub participant : s.participant ≡ participant_at prefix b.locator
  pub domain : s.domain ≡ b.domain
  pub addresses : s.addresses.items ≡ b.addresses
  pub limits : s.limits ≡ record { of_all = 64; of_one_address = 64 }

-- It begins at this socket, with these endpoints, and knows nobody.
pub record IsBegun (prefix : GuidPrefix) (b : Binding) (ours : List OurEnd) (l : State) : Type 0 where
  pub settings : Settings
  pub said : AreSettings prefix b settings
  pub opened : IsOpened settings 128 (fold with_end no_parts ours) l.participant
  pub locator : l.locator ≡ b.locator
  pub moments : l.moments ≡ b.moments

-- It begins at this place, with the endpoints that are said, under a name that begins with two zeros.
pub record IsOpen (p : Place) (ends : List EndSettings) (l : State) : Type 0 where
  pub prefix : GuidPrefix
  pub bound : Binding
  pub ours : List OurEnd
  pub zeros : take 2 prefix.0 ≡ 0 ∷ 0 ∷ []
  pub place : IsBound p bound
  pub ends_are : AreEnds prefix ends ours
  pub begun : IsBegun prefix bound ours l
