-- How an announcement is written (RTPS 2.5, clause 10: PL_CDR_LE; 9.4.2: ParameterList, strings; 9.3.2: Locator_t;
-- DDS-XTypes 1.3, 7.6.3.1.1): as parameters in little-endian.
use Rattle.std.specs.Prelude.{◌≡◌, ℕ, ◌-◌, ◌*◌, ◌%◌, ◌<◌, Bool, true, false, List, [], ◌∷◌, ◌++◌, length, replicate, slice_index, nat_lt, if◌then◌else◌}
use Rattle.std.specs.Int.{w16, w32}
use Rattle.std.specs.List.{flat_map}
use Rattle.dds_base.specs.declared.endianness.Endianness.TheVariants.{Little}
use Rattle.dds_base.specs.Fields.{number}
use Rattle.rtps_wire.specs.Names.{pid_sentinel}
use Rattle.rtps_wire.specs.Parameters.{parameter_text}
use Rattle.rtps_announcements.specs.Lists.{list_representation}
use Rattle.rtps_announcements.specs.Locators.{is_of_host}
use Rattle.rtps_announcements.specs.Names.{locator_kind_udp_v4}
use Rattle.rtps_announcements.specs.Values.{listed_text, padded_text}
use Rattle.rtps_announcements.specs.declared.locator.Locator.{Locator}

-- one more behind these, where fewer than so many are there
abbrev pub pushed : {X : Type 0} → ℕ → List X → X → List X
pushed max xs x = if nat_lt (length xs) max then xs ++ x ∷ [] else xs

-- an id, and the values of its parameters
abbrev pub Row : Type 0
Row = ℕ × List (List ℕ)

-- a parameter for each value
unfoldable pub row_text : Row → List ℕ
row_text row = flat_map (λ v. parameter_text Little (record { id = row.0; value = v })) row.1

-- PL_CDR_LE without options, the parameters of the rows, and the sentinel
abbrev pub list_text : List Row → List ℕ
list_text rows =
    list_representation Little ++ (0 ∷ 0 ∷ []) ++ flat_map row_text rows
    ++ parameter_text Little (record { id = pid_sentinel; value = [] })

-- a value that is left out, or said
abbrev pub unless : Bool → List ℕ → List (List ℕ)
unless true value = []
unless false value = value ∷ []

-- a name, and zeros up to a multiple of 4
abbrev pub padded_name_text : List ℕ → List ℕ
padded_name_text name = padded_text Little (name, replicate (3 - length name % 4) 0)

-- the ids of representations, and zeros up to a multiple of 4
abbrev pub representations_text : List ℕ → List ℕ
representations_text ids = listed_text Little (number Little w16) ids ++ replicate (length ids % 2 * 2) 0

-- a locator of UDP over IPv4
abbrev pub locator_text : Locator → List ℕ
locator_text l =
    number Little w32 locator_kind_udp_v4 ++ number Little w32 l.port ++ replicate 12 0 ++ l.address

-- a port that is not 0, and an address that one host can have
pub record IsLocator (l : Locator) : Type 0 where
  pub address : length l.address ≡ 4
  pub host : is_of_host (slice_index l.address 0) ≡ true
  pub port : 0 < l.port
  pub small : l.port < 65536
