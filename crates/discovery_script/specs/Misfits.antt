-- Which misfits are one (DDS 1.4, 2.2.4.1: OFFERED_INCOMPATIBLE_QOS, REQUESTED_INCOMPATIBLE_QOS).
use Rattle.std.specs.Prelude.{◌&&◌, Bool}
use Rattle.dds_policies.specs.contracts.misfit.MisfitPartialEq.TheImpl as of_policies
use Rattle.rtps_matching.specs.declared.told.Misfitting.{Misfitting}
use Rattle.rtps_matching.specs.Matches.{same_guid}

-- the two are of the same endpoints, by the same policy
abbrev pub same_misfit : Misfitting → Misfitting → Bool
same_misfit a b = same_guid a.own b.own && (same_guid a.far b.far && of_policies.ghosts.eq a.policy b.policy)
