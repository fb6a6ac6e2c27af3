-- A participant, and who leaves, are read as they were written.
use Rattle.std.proofs.Common.{◌≡◌, ◌≢◌, ℕ, ◌<◌, ◌^◌, Bool, true, false, List, [], ◌∷◌, ◌++◌, length, map, Option, Some, None, refl, sym, ap, subst, ◌∙◌, append-nil, arith}
use Rattle.std.specs.List.{AllByRecursion}
use Rattle.std.specs.Int.{w32}
use Rattle.std.specs.Option.{option_or}
use Rattle.std.specs.Str.{bytes_eq}
use Rattle.std.proofs.lemmas.List.{length-append}
use Rattle.dds_base.specs.declared.endianness.Endianness.TheVariants.{Little}
use Rattle.dds_base.specs.declared.guid.Guid.{Guid}
use Rattle.dds_base.specs.Fields.{number}
use Rattle.rtps_wire.specs.Parameters.{parameter_value}
use Rattle.rtps_announcements.specs.Guids.{named_value, ReadsGuid}
use Rattle.rtps_announcements.specs.Locators.{or_else}
use Rattle.rtps_announcements.specs.Names.{pid_participant_guid, pid_endpoint_guid, pid_protocol_version, pid_vendor_id, pid_domain_id, pid_domain_tag, pid_builtin_endpoint_set, pid_participant_lease_duration, pid_metatraffic_unicast_locator, pid_default_unicast_locator}
use Rattle.rtps_announcements.specs.Participants.{ReadsParticipant, protocol_major, vendor_unknown, default_builtin_endpoints, default_lease}
use Rattle.rtps_announcements.specs.Values.{Says, Always, IsDuration, duration_text, IsName, name_text, guid_text, IsGuidOf, participant_guid}
use Rattle.rtps_announcements.specs.Written.{Row, list_text, locator_text}
use Rattle.rtps_announcements.specs.WrittenParticipants.{participant_rows, text_of_participant, IsWritableParticipant, text_of_guid, IsGuid}
use Rattle.rtps_announcements.specs.declared.locator.Locator.{Locator}
use Rattle.rtps_announcements.specs.declared.participant.Participant.{Participant}
use Rattle.rtps_announcements.proofs.WrittenLaws.{IsValue, IsRow, parameters_of, list_reads, rows_understood, row_value, value_of_rows}
use Rattle.rtps_announcements.proofs.WrittenAgain.{value_of_len, locator_values, locators_again, plain_row}
use Rattle.rtps_announcements.proofs.EndpointAgain.{said_by}

guid_value : (guid : Guid) → IsGuid guid → IsValue (guid_text guid)
guid_value guid is =
    value_of_len _ 16 (omega (arith, length-append guid.prefix.0 guid.entity.0, is.prefix, is.entity)) (omega arith) refl

rows_are : (domain : ℕ) (p : Participant) → IsWritableParticipant p → AllByRecursion IsRow (participant_rows domain p)
rows_are domain p w = (
  plain_row (pid_participant_guid, guid_text (participant_guid p.prefix) ∷ []) refl
      (guid_value (participant_guid p.prefix) (record { prefix = w.prefix; entity = refl }), tt),
  (
    plain_row _ refl (value_of_len (2 ∷ 5 ∷ 0 ∷ 0 ∷ []) 4 refl (omega arith) refl, tt),
    (
      plain_row (pid_vendor_id, (p.vendor.0 ++ 0 ∷ 0 ∷ []) ∷ []) refl
          (value_of_len _ 4 (omega (arith, length-append p.vendor.0 (0 ∷ 0 ∷ []), w.vendor)) (omega arith) refl, tt),
      (
        plain_row _ refl (value_of_len (number Little w32 domain) 4 refl (omega arith) refl, tt),
        (
          plain_row _ refl (value_of_len (number Little w32 p.builtin_endpoints) 4 refl (omega arith) refl, tt),
          (
            plain_row _ refl (value_of_len (duration_text Little p.lease) 8 refl (omega arith) refl, tt),
            (
              plain_row (pid_metatraffic_unicast_locator, map locator_text p.metatraffic) refl
                  (locator_values p.metatraffic w.metatraffic.listed.each),
              (
                plain_row (pid_default_unicast_locator, map locator_text p.default) refl
                    (locator_values p.default w.default.listed.each),
                tt,
              ),
            ),
          ),
        ),
      ),
    ),
  ),
)

else_none : (ls others : List Locator) → ls ≢ [] → or_else ls others ≡ ls
else_none [] others some = absurd (some refl)
else_none (l ∷ ls) others some = refl

pub participant_again : (domain : ℕ) (p : Participant) → domain < 2 ^ 32 → IsWritableParticipant p
    → ReadsParticipant p.prefix domain (text_of_participant domain p) p
participant_again domain p small w =
    let rows = participant_rows domain p in let each = rows_are domain p w in record {
      order = Little;
      ps = parameters_of rows;
      list = list_reads rows each;
      understood = rows_understood (pid_domain_tag ∷ []) rows each;
      sender = refl;
      guid = said_by (λ o. Says None guid_text (IsGuidOf p.prefix) o (participant_guid p.prefix)) pid_participant_guid rows
          (record { sender = refl; len = refl }, ([], sym (append-nil _)));
      version = said_by (λ o. Says (Some protocol_major) (λ major. major ∷ []) Always o protocol_major)
          pid_protocol_version rows (tt, (5 ∷ 0 ∷ 0 ∷ [], refl));
      ours = said_by (λ o. Says (Some domain) (number Little w32) (λ n. n < 2 ^ 32) o domain) pid_domain_id rows
          (small, ([], refl));
      untagged = said_by (λ o. Says (Some []) (name_text Little) IsName o []) pid_domain_tag rows refl;
      vendor = said_by (λ o. Says (Some vendor_unknown) (λ v. v.0) (λ v. length v.0 ≡ 2) o p.vendor) pid_vendor_id rows
          (w.vendor, (0 ∷ 0 ∷ [], refl));
      builtin_endpoints = said_by (λ o. Says (Some default_builtin_endpoints) (number Little w32) (λ n. n < 2 ^ 32) o p.builtin_endpoints)
          pid_builtin_endpoint_set rows (w.builtin_endpoints, ([], refl));
      lease = said_by (λ o. Says (Some default_lease) (duration_text Little) IsDuration o p.lease)
          pid_participant_lease_duration rows (w.lease, ([], refl));
      metatraffic = locators_again pid_metatraffic_unicast_locator rows p.metatraffic w.metatraffic.listed (append-nil _);
      reachable = w.metatraffic.some;
      default = ap (λ (ls : List Locator). or_else ls p.metatraffic)
          (locators_again pid_default_unicast_locator rows p.default w.default.listed (append-nil _))
          ∙ else_none p.default p.metatraffic w.default.some;
    }

-- ---- who leaves

pub guid_again : (guid : Guid) → IsGuid guid → ReadsGuid guid.prefix (text_of_guid guid) guid
guid_again guid is = by_test (bytes_eq guid.entity.0 (0x00 ∷ 0x00 ∷ 0x01 ∷ 0xc1 ∷ [])) refl
  where
    row_is : (id : ℕ) → IsRow (id, guid_text guid ∷ []) → named_value (parameters_of ((id, guid_text guid ∷ []) ∷ [])) ≡ Some (guid_text guid)
        → ReadsGuid guid.prefix (list_text ((id, guid_text guid ∷ []) ∷ [])) guid
    row_is id row named =
        let rows : List Row = (id, guid_text guid ∷ []) ∷ [] in record {
          order = Little;
          ps = parameters_of rows;
          list = list_reads rows (row, tt);
          understood = rows_understood (pid_domain_tag ∷ []) rows (row, tt);
          named = subst (λ (o : Option (List ℕ)). Says None guid_text (IsGuidOf guid.prefix) o guid) (sym named)
              (record { sender = refl; len = is.entity }, ([], sym (append-nil _)));
        }

    named_by : (id : ℕ) → option_or (row_value pid_endpoint_guid ((id, guid_text guid ∷ []) ∷ []))
        (row_value pid_participant_guid ((id, guid_text guid ∷ []) ∷ [])) ≡ Some (guid_text guid)
        → named_value (parameters_of ((id, guid_text guid ∷ []) ∷ [])) ≡ Some (guid_text guid)
    named_by id e =
        let rows : List Row = (id, guid_text guid ∷ []) ∷ [] in
        ap (λ (o : Option (List ℕ)). option_or o (parameter_value pid_participant_guid (parameters_of rows)))
        (value_of_rows pid_endpoint_guid rows)
        ∙ ap (option_or (row_value pid_endpoint_guid rows)) (value_of_rows pid_participant_guid rows) ∙ e

    by_test : (b : Bool) → bytes_eq guid.entity.0 (0x00 ∷ 0x00 ∷ 0x01 ∷ 0xc1 ∷ []) ≡ b
        → ReadsGuid guid.prefix (text_of_guid guid) guid
    by_test true e =
        rw e (row_is pid_participant_guid (plain_row _ refl (guid_value guid is, tt)) (named_by pid_participant_guid refl))
    by_test false e =
        rw e (row_is pid_endpoint_guid (plain_row _ refl (guid_value guid is, tt)) (named_by pid_endpoint_guid refl))
