-- Who is matched with whom: a function of what was announced, and of nothing else (DDS 1.4, 2.2.3: supported QoS,
-- PARTITION; RTPS 2.5, 8.5.4: SEDP).
use Rattle.std.specs.Prelude.{◌≡◌, ℕ, ◌&&◌, Bool, true, false, List, map, filter, flat_map, filter_map, Option, Some, None}
use Rattle.std.specs.Option.{option_map}
use Rattle.dds_base.specs.declared.guid.Guid.{Guid}
use Rattle.dds_base.specs.declared.guid.GuidPrefix.{GuidPrefix}
use Rattle.dds_base.specs.Checked.{same_entity, same_prefix}
use Rattle.rtps_announcements.specs.Endpoints.{ReadsEndpoint}
use Rattle.rtps_announcements.specs.declared.endpoint.Endpoint.{Endpoint}
use Rattle.rtps_announcements.specs.declared.qos.EndpointKind.{EndpointKind}
use Rattle.rtps_announcements.specs.declared.qos.EndpointKind.TheVariants.{Reader, Writer}
use Rattle.rtps_discovery.specs.Fits.{fits}
use Rattle.rtps_matching.specs.declared.end.End.{End}
use Rattle.rtps_matching.specs.declared.far.Far.{Far}
use Rattle.rtps_matching.specs.declared.told.Told.{Told}
use Rattle.rtps_matching.specs.declared.told.Told.TheVariants.{Changed, Matched, Unmatched}

-- the two names are one
abbrev pub same_guid : Guid → Guid → Bool
same_guid a b = same_prefix a.prefix b.prefix && same_entity a.entity b.entity

-- the own endpoint has this name
abbrev pub is_named : Guid → End → Bool
is_named guid e = same_guid e.endpoint.guid guid

-- so has the far one
abbrev pub is_far : Guid → Far → Bool
is_far guid f = same_guid f.guid guid

-- the far endpoint is of this participant
abbrev pub is_of : GuidPrefix → Far → Bool
is_of prefix f = same_prefix f.guid.prefix prefix

-- a writer and a reader fit, whichever comes first
abbrev pub fit_by : EndpointKind → EndpointKind → Endpoint → Endpoint → Bool
fit_by Writer Reader w r = fits w r
fit_by Reader Writer r w = fits w r
fit_by _ _ a b = false

abbrev pub fit_together : End → End → Bool
fit_together a b = fit_by a.kind b.kind a.endpoint b.endpoint

-- what can't be read fits nobody
abbrev pub fits_what : End → Option End → Bool
fits_what own None = false
fits_what own (Some e) = fit_together own e

-- an own endpoint and a far one are matched: the participant of the far one is there, and what it announced last fits
abbrev pub is_matched : End → Far → Bool
is_matched own f = f.is_awake && fits_what own f.end

-- who is matched with whom, by name: our own first
abbrev pub matches : List End → List Far → List (Guid × Guid)
matches own far =
    flat_map (λ (o : End). map (λ (f : Far). (o.endpoint.guid, f.guid)) (filter (is_matched o) far)) own

-- ---- what is told

-- two were matched or not, and are or not; where they stay matched, what the far one announces is another
abbrev pub change : Guid → Guid → Bool → Bool → Option Told
change own far false false = None
change own far false true = Some (Matched own far)
change own far true false = Some (Unmatched own far)
change own far true true = Some (Changed own far)

-- it was matched with a far endpoint, if that was known
abbrev pub was_matched : End → Option Far → Bool
was_matched own None = false
was_matched own (Some f) = is_matched own f

-- a far endpoint was this, if it was known, and is that
abbrev pub change_of : Option Far → Far → End → Option Told
change_of old new own = change own.endpoint.guid new.guid (was_matched own old) (is_matched own new)

abbrev pub changes : List End → Option Far → Far → List Told
changes own old new = filter_map (change_of old new) own

-- the two part, if they are matched
abbrev pub parting : End → Far → Option Told
parting own f = change own.endpoint.guid f.guid (is_matched own f) false

-- ---- what an announcement says

-- it can be read as this, in the name of the endpoint itself; or not at all
abbrev pub Announces : Guid → EndpointKind → List ℕ → Option Endpoint → Type 0
Announces guid kind payload (Some e) = ReadsEndpoint guid.prefix kind payload e × (e.guid ≡ guid)
Announces guid kind payload None = (e : Endpoint) → ReadsEndpoint guid.prefix kind payload e → e.guid ≡ guid → ⊥

-- the far endpoint that announced this
abbrev pub announced : Guid → EndpointKind → List ℕ → Option Endpoint → Far
announced guid kind payload said = record {
  guid = guid;
  is_awake = true;
  kind = kind;
  payload = payload;
  end = option_map (λ e. record { kind = kind; endpoint = e }) said;
}
