-- What a sample of a builtin reader says of an endpoint (RTPS 2.5, 8.5.4: SEDP).
use Rattle.std.specs.Prelude.{◌≡◌, ◌⊎◌, true, false, List, []}
use Rattle.dds_base.specs.declared.guid.Guid.{Guid}
use Rattle.dds_base.specs.declared.guid.GuidPrefix.{GuidPrefix}
use Rattle.dds_base.specs.declared.sample.Sample.{Sample}
use Rattle.dds_base.specs.Checked.{same_prefix}
use Rattle.rtps_announcements.specs.declared.qos.EndpointKind.{EndpointKind}
use Rattle.rtps_matching.specs.declared.told.Told.{Told}
use Rattle.rtps_matching.specs.Matches.{is_far}
use Rattle.rtps_matching.specs.Steps.{Hears, Table, WhereSo, has_far, is_full, told_without, without}
use Rattle.dds_builtin.specs.Keys.{guid_of}

-- nothing changes, and nothing is told
abbrev pub Nothing : Table → Table → List Told → Type 0
Nothing t new told = (new ≡ t) × (told ≡ [])

-- An endpoint is announced so: that counts from then on. One more than are known of a participant at most is not taken.
abbrev pub TakesUp : Guid → EndpointKind → Sample → Table → Table → List Told → Type 0
TakesUp guid kind sample t new told =
    ((has_far guid t ≡ false → is_full guid.prefix t ≡ false) × Hears t guid kind sample.value new told)
    ⊎ ((has_far guid t ≡ false) × (is_full guid.prefix t ≡ true) × Nothing t new told)

-- The endpoint is gone.
abbrev pub LetsGo : Guid → Table → Table → List Told → Type 0
LetsGo guid t new told = (new ≡ without (is_far guid) t) × (told ≡ told_without (is_far guid) t)

-- What a sample of a participant's builtin writer does: one with data announces the endpoint of its key, one without says that
-- it is gone; of an endpoint of another participant it says nothing.
abbrev pub HearsSample : GuidPrefix → EndpointKind → Sample → Table → Table → List Told → Type 0
HearsSample prefix kind sample t new told =
    WhereSo (same_prefix (guid_of sample.key).prefix prefix)
    (WhereSo sample.info.valid_data (TakesUp (guid_of sample.key) kind sample t new told)
    (LetsGo (guid_of sample.key) t new told))
    (Nothing t new told)
