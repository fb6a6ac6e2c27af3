-- Which endpoints meet and are not matched, and why (DDS 1.4, 2.2.3: policies that are requested and offered).
use Rattle.std.specs.Prelude.{◌≡◌, ◌⊎◌, ℕ, Bool, true, false, List, flat_map, filter_map, Option, Some, None, if◌then◌else◌}
use Rattle.std.specs.Option.{option_map}
use Rattle.dds_base.specs.declared.guid.Guid.{Guid}
use Rattle.rtps_announcements.specs.declared.endpoint.Endpoint.{Endpoint}
use Rattle.rtps_announcements.specs.declared.qos.EndpointKind.{EndpointKind}
use Rattle.rtps_announcements.specs.declared.qos.EndpointKind.TheVariants.{Reader, Writer}
use Rattle.dds_policies.specs.declared.misfit.Misfit.{Misfit}
use Rattle.rtps_discovery.specs.Fits.{meet, misfit}
use Rattle.rtps_matching.specs.declared.end.End.{End}
use Rattle.rtps_matching.specs.declared.far.Far.{Far}
use Rattle.rtps_matching.specs.declared.told.Misfitting.{Misfitting}

-- the first policy by which a writer and a reader that meet do not fit
abbrev pub misfit_of : Endpoint → Endpoint → Option Misfit
misfit_of w r = if meet w r then misfit w r else None

-- of two endpoints, whichever comes first
abbrev pub misfit_by : EndpointKind → EndpointKind → Endpoint → Endpoint → Option Misfit
misfit_by Writer Reader w r = misfit_of w r
misfit_by Reader Writer r w = misfit_of w r
misfit_by _ _ a b = None

abbrev pub misfit_together : End → End → Option Misfit
misfit_together a b = misfit_by a.kind b.kind a.endpoint b.endpoint

-- of what can't be read nothing is known
abbrev pub misfit_with : End → Option End → Option Misfit
misfit_with own None = None
misfit_with own (Some e) = misfit_together own e

-- an own endpoint and a far one, whose participant is there
abbrev pub misfitting : End → Far → Option Misfitting
misfitting own f = if f.is_awake
    then option_map (λ (policy : Misfit). record { own = own.endpoint.guid; far = f.guid; policy = policy }) (misfit_with own f.end)
    else None

-- those of an own endpoint, and all
abbrev pub misfits_with : List Far → End → List Misfitting
misfits_with far own = filter_map (misfitting own) far

abbrev pub misfits : List End → List Far → List Misfitting
misfits own far = flat_map (misfits_with far) own
