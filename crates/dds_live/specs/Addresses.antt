-- Who is told of a participant (RTPS 2.5, 9.6.2: the default multicast address, well-known ports).
use Rattle.std.specs.Prelude.{ℕ, List, [], ◌∷◌, map, Option, Some, None, if◌then◌else◌}
use Rattle.std.specs.List.{flat_map, range_with_len}
use Rattle.rtps_announcements.specs.declared.locator.Locator.{Locator}
use Rattle.dds_live.specs.declared.addresses.Target.{Target}
use Rattle.dds_live.specs.Ports.{group_port, is_group, unicast_port}

-- the ports of the first ten participants of a machine
abbrev pub machine_locators : ℕ → List ℕ → List Locator
machine_locators domain address =
    map (λ (index : ℕ). record { address = address; port = unicast_port domain index }) (range_with_len 0 10)

-- where we are told of at an address: at its port, or at those of the domain
abbrev pub locators_at : ℕ → List ℕ → Option ℕ → List Locator
locators_at domain address (Some port) = record { address = address; port = port } ∷ []
locators_at domain address None =
    if is_group address then record { address = address; port = group_port domain } ∷ []
    else machine_locators domain address

abbrev pub locators_of : ℕ → Target → List Locator
locators_of domain target = locators_at domain target.address target.port

-- where no address was said: the group of all participants, 239.255.0.1, and this machine
abbrev pub usual_targets : List Target
usual_targets =
    record { address = 239 ∷ 255 ∷ 0 ∷ 1 ∷ []; port = None } ∷ record { address = 127 ∷ 0 ∷ 0 ∷ 1 ∷ []; port = None } ∷ []

abbrev pub all_locators : ℕ → List Target → List Locator
all_locators domain [] = flat_map (locators_of domain) usual_targets
all_locators domain targets = flat_map (locators_of domain) targets
