-- An endpoint is read as it was written.
use Rattle.std.proofs.Common.{◌≡◌, ℕ, ◌-◌, ◌*◌, ◌%◌, ◌<◌, ◌≤◌, ◌^◌, Bool, true, false, eqb, List, [], ◌∷◌, ◌++◌, length, map, replicate, Option, Some, None, refl, sym, subst, append-nil, arith, ℤ, pos}
use Rattle.std.specs.Prelude.{FitsSigned}
use Rattle.std.specs.List.{AllByRecursion, flat_map}
use Rattle.std.specs.Int.{w16, w32}
use Rattle.std.proofs.lemmas.List.{length-append}
use Rattle.dds_base.specs.declared.endianness.Endianness.TheVariants.{Little}
use Rattle.dds_base.specs.declared.qos.OwnershipQos.TheVariants.{Shared}
use Rattle.dds_base.specs.Fields.{number}
use Rattle.dds_base.specs.Policies.{default_presentation, reliability_code, durability_code, ownership_code, destination_order_code, scope_code, infinite, no_time}
use Rattle.dds_base.specs.declared.policies.DestinationOrderQos.TheVariants.{ByReceptionTimestamp}
use Rattle.dds_base.specs.declared.policies.DurabilityQos.TheVariants.{Volatile}
use Rattle.dds_base.specs.declared.policies.PresentationQos.{PresentationQos}
use Rattle.rtps_wire.specs.Fields.{count_text}
use Rattle.rtps_wire.specs.Parameters.{parameter_value}
use Rattle.rtps_announcements.specs.Endpoints.{default_liveliness, default_representations, SaysPartitions, SaysPolicies, ReadsEndpoint}
use Rattle.rtps_announcements.specs.Names.{max_partitions, max_representations, pid_partition, pid_data_representation, pid_unicast_locator, pid_topic_name, pid_type_name, pid_participant_guid, pid_endpoint_guid, pid_reliability, pid_durability, pid_liveliness, pid_ownership, pid_ownership_strength, pid_deadline, pid_latency_budget, pid_destination_order, pid_presentation}
use Rattle.rtps_announcements.specs.Values.{Says, Always, AreListed, listed_text, default_reliability, IsDuration, duration_text, liveliness_text, flag_text, presentation_text, IsName, name_text, guid_text, IsGuidOf, IsOfSender, participant_guid}
use Rattle.rtps_announcements.specs.Written.{Row, unless, padded_name_text, representations_text, locator_text}
use Rattle.rtps_announcements.specs.WrittenEndpoints.{is_infinite, is_no_time, is_default_presentation, leaves_out_strength, endpoint_rows, text_of_endpoint, IsWritableEndpoint}
use Rattle.rtps_announcements.specs.declared.endpoint.Endpoint.{Endpoint}
use Rattle.rtps_announcements.specs.declared.qos.EndpointKind.{EndpointKind}
use Rattle.rtps_announcements.proofs.PutLaws.{name_whole, name_short, names_short, names_whole, representations_len}
use Rattle.rtps_announcements.proofs.WrittenLaws.{IsValue, IsRow, parameters_of, list_reads, rows_understood, row_value, value_of_rows}
use Rattle.rtps_announcements.proofs.WrittenAgain.{value_of_len, unless_each, says_unless, infinite_is, no_time_is, reception_is, presentation_is, strength_is, locator_values, locators_again, partitions_again, is_plain, plain_row}

-- ---- each row is one

name_value : (name : List ℕ) → IsName name → IsValue (padded_name_text name)
name_value name is = record { short = omega (arith, name_short name is); whole = name_whole name }

partitions_value : (names : List (List ℕ)) → AreListed max_partitions IsName names
    → IsValue (listed_text Little padded_name_text names)
partitions_value names are =
    let len = length-append (number Little w32 (length names)) (flat_map padded_name_text names) in
    record {
      short = omega (arith, len, names_short names are.each, are.few);
      whole = omega (arith, len, names_whole names);
    }

representations_value : (ids : List ℕ) → length ids ≤ 8 → IsValue (representations_text ids)
representations_value ids few = record {
  short = omega (arith, representations_len ids, few);
  whole = omega (arith, representations_len ids);
}

presentation_value : (p : PresentationQos) → IsValue (presentation_text Little p ++ 0 ∷ 0 ∷ [])
presentation_value p = by_flags p.coherent_access p.ordered_access
  where
    by_flags : (c o : Bool)
        → IsValue ((number Little w32 (scope_code p.scope) ++ flag_text c ++ flag_text o) ++ 0 ∷ 0 ∷ [])
    by_flags false false = value_of_len _ 8 refl (omega arith) refl
    by_flags false true = value_of_len _ 8 refl (omega arith) refl
    by_flags true false = value_of_len _ 8 refl (omega arith) refl
    by_flags true true = value_of_len _ 8 refl (omega arith) refl

word_value : (n : ℕ) → IsValue (number Little w32 n)
word_value n = value_of_len (number Little w32 n) 4 refl (omega arith) refl

strength_row_is : (b : Bool) (z : ℤ) → IsRow (pid_ownership_strength, unless b (count_text Little z))
strength_row_is b z = record {
  no_sentinel = λ e. absurd cc;
  no_key_hash = λ e. absurd cc;
  no_status = λ e. absurd cc;
  below = omega arith;
  values = unless_each IsValue b (count_text Little z) (value_of_len _ 4 refl (omega arith) refl);
  strength = λ e. unless_each (λ v. length v ≡ 4) b (count_text Little z) refl;
}

time_row : (id : ℕ) → is_plain id ≡ true → (b : Bool) (v : List ℕ) → length v ≡ 8 → IsRow (id, unless b v)
time_row id plain b v len =
    plain_row (id, unless b v) plain (unless_each IsValue b v (value_of_len v 8 len (omega arith) refl))

rows_are : (kind : EndpointKind) (e : Endpoint) → IsWritableEndpoint kind e
    → AllByRecursion IsRow (endpoint_rows kind e)
rows_are kind e w =
    let p = e.policies in (
      plain_row (pid_endpoint_guid, guid_text e.guid ∷ []) refl
          (value_of_len _ 16 (omega (arith, length-append e.guid.prefix.0 e.guid.entity.0, w.prefix, w.entity)) (omega arith) refl, tt),
      (
        plain_row (pid_participant_guid, guid_text (participant_guid e.guid.prefix) ∷ []) refl
            (value_of_len _ 16 (omega (arith, length-append e.guid.prefix.0 (0x00 ∷ 0x00 ∷ 0x01 ∷ 0xc1 ∷ []), w.prefix)) (omega arith) refl, tt),
        (
          plain_row (pid_topic_name, padded_name_text e.topic_name ∷ []) refl (name_value e.topic_name w.topic_name, tt),
          (
            plain_row (pid_type_name, padded_name_text e.type_name ∷ []) refl (name_value e.type_name w.type_name, tt),
            (
              plain_row _ refl (value_of_len _ 12 refl (omega arith) refl, tt),
              (
                plain_row _ refl (word_value (durability_code p.durability), tt),
                (
                  plain_row _ refl (value_of_len _ 12 refl (omega arith) refl, tt),
                  (
                    plain_row _ refl (word_value (ownership_code p.ownership), tt),
                    (
                      strength_row_is (leaves_out_strength kind p) p.strength,
                      (
                        time_row pid_deadline refl (is_infinite p.deadline) (duration_text Little p.deadline) refl,
                        (
                          time_row pid_latency_budget refl (is_no_time p.latency_budget) (duration_text Little p.latency_budget) refl,
                          (
                            plain_row _ refl (unless_each IsValue (eqb (destination_order_code p.destination_order) 0) _
                                (word_value (destination_order_code p.destination_order))),
                            (
                              plain_row _ refl (unless_each IsValue (is_default_presentation p.presentation) _ (presentation_value p.presentation)),
                              (
                                plain_row _ refl (unless_each IsValue (eqb (length e.partitions) 0) _ (partitions_value e.partitions w.partitions)),
                                (
                                  plain_row _ refl (representations_value e.representations w.representations.few, tt),
                                  (
                                    plain_row (pid_unicast_locator, map locator_text e.locators) refl (locator_values e.locators w.locators.each),
                                    tt,
                                  ),
                                ),
                              ),
                            ),
                          ),
                        ),
                      ),
                    ),
                  ),
                ),
              ),
            ),
          ),
        ),
      ),
    )

-- ---- what they say

-- what the rows say, the parameters say
pub said_by : (P : Option (List ℕ) → Type 0) (id : ℕ) (rows : List Row) → P (row_value id rows)
    → P (parameter_value id (parameters_of rows))
said_by P id rows h = subst P (sym (value_of_rows id rows)) h

policies_again : (kind : EndpointKind) (e : Endpoint) → IsWritableEndpoint kind e
    → SaysPolicies kind Little (parameters_of (endpoint_rows kind e)) e.policies
policies_again kind e w =
    let p = e.policies in let rows = endpoint_rows kind e in record {
      reliability = said_by (λ o. Says (Some (default_reliability kind)) (λ k. number Little w32 (reliability_code k)) Always o p.reliability)
          pid_reliability rows (tt, (duration_text Little no_time, refl));
      durability = said_by (λ o. Says (Some Volatile) (λ k. number Little w32 (durability_code k)) Always o p.durability)
          pid_durability rows (tt, ([], refl));
      liveliness = said_by (λ o. Says (Some default_liveliness) (liveliness_text Little) (λ l. IsDuration l.lease) o p.liveliness)
          pid_liveliness rows (w.policies.lease, ([], refl));
      ownership = said_by (λ o. Says (Some Shared) (λ k. number Little w32 (ownership_code k)) Always o p.ownership)
          pid_ownership rows (tt, ([], refl));
      strength = said_by (λ o. Says (Some (pos 0)) (count_text Little) (λ z. FitsSigned w32 z) o p.strength)
          pid_ownership_strength rows (says_unless (pos 0) p.strength (count_text Little) (λ z. FitsSigned w32 z)
          (leaves_out_strength kind p) _ [] (strength_is kind p) w.policies.strength refl);
      deadline = said_by (λ o. Says (Some infinite) (duration_text Little) IsDuration o p.deadline) pid_deadline rows
          (says_unless infinite p.deadline (duration_text Little) IsDuration (is_infinite p.deadline) _ []
          (infinite_is p.deadline) w.policies.deadline refl);
      latency_budget = said_by (λ o. Says (Some no_time) (duration_text Little) IsDuration o p.latency_budget)
          pid_latency_budget rows (says_unless no_time p.latency_budget (duration_text Little) IsDuration
          (is_no_time p.latency_budget) _ [] (no_time_is p.latency_budget) w.policies.latency_budget refl);
      destination_order = said_by (λ o. Says (Some ByReceptionTimestamp) (λ k. number Little w32 (destination_order_code k)) Always o p.destination_order)
          pid_destination_order rows (says_unless ByReceptionTimestamp p.destination_order
          (λ k. number Little w32 (destination_order_code k)) Always (eqb (destination_order_code p.destination_order) 0) _ []
          (reception_is p.destination_order) tt refl);
      presentation = said_by (λ o. Says (Some default_presentation) (presentation_text Little) Always o p.presentation)
          pid_presentation rows (says_unless default_presentation p.presentation (presentation_text Little) Always
          (is_default_presentation p.presentation) _ (0 ∷ 0 ∷ []) (presentation_is p.presentation) tt refl);
    }

pub endpoint_again : (kind : EndpointKind) (e : Endpoint) → IsWritableEndpoint kind e
    → ReadsEndpoint e.guid.prefix kind (text_of_endpoint kind e) e
endpoint_again kind e w =
    let rows = endpoint_rows kind e in let each = rows_are kind e w in record {
      order = Little;
      ps = parameters_of rows;
      list = list_reads rows each;
      understood = rows_understood [] rows each;
      guid = said_by (λ o. Says None guid_text (IsGuidOf e.guid.prefix) o e.guid) pid_endpoint_guid rows
          (record { sender = refl; len = w.entity }, ([], sym (append-nil _)));
      of_kind = w.of_kind;
      participant = said_by (λ o. IsOfSender e.guid.prefix o) pid_participant_guid rows
          (0x00 ∷ 0x00 ∷ 0x01 ∷ 0xc1 ∷ [], refl, ([], sym (append-nil _)));
      topic_name = said_by (λ o. Says None (name_text Little) IsName o e.topic_name) pid_topic_name rows
          (w.topic_name, (replicate (3 - length e.topic_name % 4) 0, refl));
      type_name = said_by (λ o. Says None (name_text Little) IsName o e.type_name) pid_type_name rows
          (w.type_name, (replicate (3 - length e.type_name % 4) 0, refl));
      locators = locators_again pid_unicast_locator rows e.locators w.locators (append-nil _);
      partitions = said_by (λ o. SaysPartitions Little o e.partitions) pid_partition rows
          (partitions_again e.partitions w.partitions);
      representations = said_by (λ o. Says (Some default_representations) (listed_text Little (number Little w16))
          (AreListed max_representations (λ id. id < 2 ^ 16)) o e.representations) pid_data_representation rows
          (w.representations, (replicate (length e.representations % 2 * 2) 0, refl));
      policies = policies_again kind e w;
    }
