-- What a sample says, by cases.
use Rattle.std.proofs.Common.{◌≡◌, true, List, subst}
use Rattle.dds_base.specs.declared.guid.Guid.{Guid}
use Rattle.dds_base.specs.declared.guid.GuidPrefix.{GuidPrefix}
use Rattle.dds_base.specs.declared.sample.Sample.{Sample}
use Rattle.dds_base.specs.Checked.{same_prefix}
use Rattle.rtps_announcements.specs.declared.qos.EndpointKind.{EndpointKind}
use Rattle.rtps_matching.specs.declared.told.Told.{Told}
use Rattle.rtps_matching.specs.Steps.{Table}
use Rattle.dds_builtin.specs.Keys.{guid_of}
use Rattle.dds_builtin.specs.Samples.{HearsSample, TakesUp}

-- one with data, of the participant's own endpoint
pub says_there : (prefix : GuidPrefix) (kind : EndpointKind) (sample : Sample) (t new : Table) (told : List Told) (guid : Guid)
    → guid ≡ guid_of sample.key → same_prefix guid.prefix prefix ≡ true → sample.info.valid_data ≡ true
    → TakesUp guid kind sample t new told → HearsSample prefix kind sample t new told
says_there prefix kind sample t new told guid is own valid h =
    let there : TakesUp (guid_of sample.key) kind sample t new told =
    subst (λ (g : Guid). TakesUp g kind sample t new told) is h in
    let same : same_prefix (guid_of sample.key).prefix prefix ≡ true =
    subst (λ (g : Guid). same_prefix g.prefix prefix ≡ true) is own in
    rw (same, valid) there
