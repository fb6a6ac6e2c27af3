-- What the words of the command line ask for.
use Rattle.std.specs.Prelude.{◌≡◌, ℕ, ◌==◌, Bool, List, [], ◌∷◌, codes, Option, Some, None, if◌then◌else◌}
use Rattle.std.specs.Option.{option_and_then, option_map, option_or}
use Rattle.std.specs.Str.{bytes_eq}
use Rattle.dds_base.specs.Bounds.{usual_value}
use Rattle.dds_base.specs.declared.guid.EntityId.{EntityId}
use Rattle.dds_script.specs.Numbers.{decimal_of}
use Rattle.rtps_announcements.specs.declared.locator.Locator.{Locator}
use Rattle.rtps_announcements.specs.declared.qos.EndpointKind.{EndpointKind}
use Rattle.rtps_announcements.specs.declared.qos.EndpointKind.TheVariants.{Reader, Writer}
use Rattle.discovery_script.specs.Addresses.{address_of, locator_of, number_below}
use Rattle.dds_participant.specs.declared.samples.TypeKind.TheVariants.{Keyless}
use Rattle.dds_participant.specs.declared.words.Purpose.TheVariants.{Watch}
use Rattle.dds_participant.specs.declared.words.Request.{Request}
use Rattle.dds_live.specs.declared.addresses.Target.{Target}

-- a domain has a number up to 230: above it ports end (RTPS 2.5, 9.6.2)
abbrev pub domain_of : List ℕ → Option ℕ
domain_of word = number_below 231 word

-- an address alone, or one with its port
abbrev pub target_of : List ℕ → Option Target
target_of word =
    option_or (option_map (λ (a : List ℕ). record { address = a; port = None }) (address_of word))
    (option_map (λ (l : Locator). record { address = l.address; port = Some l.port }) (locator_of word))

-- how many octets a value has at most: 1 to 65,000
abbrev pub max_value_of : List ℕ → Option ℕ
max_value_of word = option_and_then (λ n. if n == 0 then None else Some n) (number_below 65001 word)

-- the kind of a writer or a reader whose topic has a key or none (RTPS 2.5, 9.3.1.2: entityKind)
abbrev pub kind_of : EndpointKind → Bool → ℕ
kind_of Writer has_key = if has_key then 0x02 else 0x03
kind_of Reader has_key = if has_key then 0x07 else 0x04

-- its entity id, by its number
abbrev pub entity_of : EndpointKind → ℕ → Bool → EntityId
entity_of kind number has_key = record { 0 = 0 ∷ 0 ∷ number ∷ kind_of kind has_key ∷ [] }

-- what is asked for where no option stands
pub record IsUsual (r : Request) : Type 0 where
  pub purpose : r.purpose ≡ Watch
  pub kind : r.of.kind ≡ Keyless
  pub values : r.of.max_value ≡ usual_value
  pub domain : r.domain ≡ 0
  pub targets : r.targets.items ≡ []
  pub interface : r.interface ≡ None
  pub seconds : r.seconds ≡ None
  pub ends : r.ends.items ≡ []
  pub trace : r.trace ≡ None

-- what is asked for where an option of one word stands too; none where it is no such option, or not with this word
abbrev pub with_option : List ℕ → List ℕ → Request → Option Request
with_option name word r =
    if bytes_eq name (codes "--domain") then option_map (λ (n : ℕ). record r { domain = n }) (domain_of word)
    else if bytes_eq name (codes "--interface")
    then option_map (λ (a : List ℕ). record r { interface = Some a }) (address_of word)
    else if bytes_eq name (codes "--seconds") then option_map (λ (n : ℕ). record r { seconds = Some n }) (decimal_of word)
    else if bytes_eq name (codes "--values")
    then option_map (λ (n : ℕ). record r { of = record r.of { max_value = n } }) (max_value_of word)
    else None
