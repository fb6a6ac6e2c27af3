-- The locators that parameters say (RTPS 2.5, 9.3.2: Locator_t; 9.6: the addresses of UDP over IPv4).
--
-- 0...............8...............16..............24.............31
-- |                             kind                              |
-- |                             port                              |
-- |                  12 octets, not looked at                     |
-- |                       address of IPv4                         |
use Rattle.std.specs.Prelude.{ℕ, ◌==◌, ◌&&◌, ◌||◌, Bool, List, [], ◌∷◌, take, Option, Some, None, nat_lt, if◌then◌else◌, slice_index, filter_map}
use Rattle.std.specs.Int.{w32}
use Rattle.dds_base.specs.declared.endianness.Endianness.{Endianness}
use Rattle.dds_base.specs.Fields.{number_at, octets_at, ◌>>=◌}
use Rattle.rtps_wire.specs.Parameters.{Parameter}
use Rattle.rtps_announcements.specs.Names.{locator_kind_udp_v4, max_locators}
use Rattle.rtps_announcements.specs.declared.locator.Locator.{Locator}

-- The first octet of an address that one host can have: not 0, nor that of a group (224 to 239), nor 255.
abbrev pub is_of_host : ℕ → Bool
is_of_host first = nat_lt 0 first && (nat_lt first 224 || nat_lt 239 first) && nat_lt first 255

-- the locator that a value says: of UDP over IPv4, with a port, and an address that one host can have
unfoldable pub locator_at : Endianness → List ℕ → Option Locator
locator_at order value = do
  kind ← number_at order w32 value
  port ← number_at order w32 kind.1
  before ← octets_at 12 port.1
  address ← octets_at 4 before.1
  if kind.0 == locator_kind_udp_v4 && nat_lt 0 port.0 && nat_lt port.0 65536 && is_of_host (slice_index address.0 0)
      then Some (record { address = address.0; port = port.0 }) else None

-- the locator that a parameter says, where it has this id
abbrev pub locator_said : Endianness → ℕ → Parameter → Option Locator
locator_said order id p = if p.id == id then locator_at order p.value else None

-- the locators that the parameters of this id say, the first `max_locators`; those of other kinds are passed over
abbrev pub locators_of : Endianness → ℕ → List Parameter → List Locator
locators_of order id ps = take max_locators (filter_map (locator_said order id) ps)

-- these, or where there is none the others
abbrev pub or_else : List Locator → List Locator → List Locator
or_else [] others = others
or_else (l ∷ ls) others = l ∷ ls
