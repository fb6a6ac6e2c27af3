-- Whether a writer offers what a reader asks for (DDS 1.4, 2.2.3: the policies that are requested and offered), and the
-- policies of which it does not (2.3.3: QosPolicyId_t).
use Rattle.std.specs.Prelude.{ℕ, ◌^◌, ◌==◌, ◌&&◌, ◌||◌, Bool, true, false, not, List, [], ◌∷◌, map, filter, sum, Option, Some, None, nat_le, if◌then◌else◌}
use Rattle.dds_base.specs.Access.{has_bit}
use Rattle.dds_base.specs.Policies.{reliability_code, durability_code, ownership_code, liveliness_code, destination_order_code, scope_code, units_of}
use Rattle.dds_base.specs.declared.policies.Policies.{Policies}
use Rattle.dds_base.specs.declared.unfit.UnfitPolicies.{UnfitPolicies}

-- no longer; what has no end is longer than all that has one
abbrev pub is_within : Option ℕ → Option ℕ → Bool
is_within offered None = true
is_within None (Some requested) = false
is_within (Some offered) (Some requested) = nat_le offered requested

-- true, unless it is not asked for
abbrev pub is_given : Bool → Bool → Bool
is_given offered requested = offered || not requested

-- BEST_EFFORT is less than RELIABLE
abbrev pub offers_reliability : Policies → Policies → Bool
offers_reliability w r = nat_le (reliability_code r.reliability) (reliability_code w.reliability)

-- VOLATILE is less than TRANSIENT_LOCAL, than TRANSIENT, than PERSISTENT
abbrev pub offers_durability : Policies → Policies → Bool
offers_durability w r = nat_le (durability_code r.durability) (durability_code w.durability)

-- INSTANCE is less than TOPIC, than GROUP; coherent and ordered access where they are asked for
abbrev pub offers_presentation : Policies → Policies → Bool
offers_presentation w r =
    nat_le (scope_code r.presentation.scope) (scope_code w.presentation.scope)
    && is_given w.presentation.coherent_access r.presentation.coherent_access
    && is_given w.presentation.ordered_access r.presentation.ordered_access

-- a period that is no longer
abbrev pub offers_deadline : Policies → Policies → Bool
offers_deadline w r = is_within (units_of w.deadline) (units_of r.deadline)

-- a duration that is no longer
abbrev pub offers_latency_budget : Policies → Policies → Bool
offers_latency_budget w r = is_within (units_of w.latency_budget) (units_of r.latency_budget)

-- the same
abbrev pub offers_ownership : Policies → Policies → Bool
offers_ownership w r = ownership_code w.ownership == ownership_code r.ownership

-- AUTOMATIC is less than MANUAL_BY_PARTICIPANT, than MANUAL_BY_TOPIC; a lease that is no longer
abbrev pub offers_liveliness : Policies → Policies → Bool
offers_liveliness w r =
    nat_le (liveliness_code r.liveliness.kind) (liveliness_code w.liveliness.kind)
    && is_within (units_of w.liveliness.lease) (units_of r.liveliness.lease)

-- BY_RECEPTION_TIMESTAMP is less than BY_SOURCE_TIMESTAMP
abbrev pub offers_destination_order : Policies → Policies → Bool
offers_destination_order w r =
    nat_le (destination_order_code r.destination_order) (destination_order_code w.destination_order)

-- a policy, by its id, and whether it is offered as it is asked for
pub record Compared : Type 0 where
  pub id : ℕ
  pub is_offered : Bool

-- the policies that are compared, by ascending id (DURABILITY_QOS_POLICY_ID and kin)
abbrev pub compared : Policies → Policies → List Compared
compared w r =
    record { id = 2; is_offered = offers_durability w r }
    ∷ record { id = 3; is_offered = offers_presentation w r }
    ∷ record { id = 4; is_offered = offers_deadline w r }
    ∷ record { id = 5; is_offered = offers_latency_budget w r }
    ∷ record { id = 6; is_offered = offers_ownership w r }
    ∷ record { id = 8; is_offered = offers_liveliness w r }
    ∷ record { id = 11; is_offered = offers_reliability w r }
    ∷ record { id = 12; is_offered = offers_destination_order w r }
    ∷ []

-- the bit of a policy that is not offered as it is asked for
abbrev pub unfit_bit : Compared → ℕ
unfit_bit c = if c.is_offered then 0 else 2 ^ c.id

-- the policies of which a writer offers less than a reader asks for, a bit for each
unfoldable pub unfit_policies : Policies → Policies → UnfitPolicies
unfit_policies w r = record { 0 = sum (map unfit_bit (compared w r)) }

-- there is no such policy
abbrev pub is_empty : UnfitPolicies → Bool
is_empty unfit = unfit.0 == 0

-- the policy of this id is one
abbrev pub has_policy : UnfitPolicies → ℕ → Bool
has_policy unfit id = has_bit unfit.0 (2 ^ id)

-- the ids of the policies that are compared
abbrev pub policy_ids : List ℕ
policy_ids = 2 ∷ 3 ∷ 4 ∷ 5 ∷ 6 ∷ 8 ∷ 11 ∷ 12 ∷ []

-- the ids of those that are there, ascending
unfoldable pub ids_of : UnfitPolicies → List ℕ
ids_of unfit = filter (has_policy unfit) policy_ids
