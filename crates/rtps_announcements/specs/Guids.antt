-- Which participant or endpoint a list of parameters is about (RTPS 2.5, 8.5: the keys of SPDP and SEDP; 9.6: ids).
use Rattle.std.specs.Prelude.{ℕ, List, [], ◌∷◌, Option, None}
use Rattle.std.specs.Option.{option_or}
use Rattle.dds_base.specs.declared.endianness.Endianness.{Endianness}
use Rattle.dds_base.specs.declared.guid.Guid.{Guid}
use Rattle.dds_base.specs.declared.guid.GuidPrefix.{GuidPrefix}
use Rattle.rtps_wire.specs.Parameters.{Parameter, parameter_value}
use Rattle.rtps_announcements.specs.Lists.{ReadsList, IsUnderstood}
use Rattle.rtps_announcements.specs.Names.{pid_participant_guid, pid_endpoint_guid, pid_domain_tag}
use Rattle.rtps_announcements.specs.Values.{Says, guid_text, IsGuidOf}

-- the GUID of an endpoint, or where there is none that of a participant
abbrev pub named_value : List Parameter → Option (List ℕ)
named_value ps = option_or (parameter_value pid_endpoint_guid ps) (parameter_value pid_participant_guid ps)

-- the bytes are a list of parameters about this participant, or this endpoint, of this sender
pub record ReadsGuid (source : GuidPrefix) (bytes : List ℕ) (guid : Guid) : Type 0 where
  pub order : Endianness
  pub ps : List Parameter
  pub list : ReadsList bytes order ps
  pub understood : IsUnderstood (pid_domain_tag ∷ []) ps
  pub named : Says None guid_text (IsGuidOf source) (named_value ps) guid
