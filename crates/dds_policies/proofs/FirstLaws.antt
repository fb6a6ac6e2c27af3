-- The first misfit of a list whose policy is in a set.
use Rattle.std.specs.Prelude.{if◌then◌else◌}
use Rattle.std.proofs.Common.{◌≡◌, ℕ, ◌+◌, ◌<◌, ◌≤◌, Bool, true, false, not, Option, Some, None, List, [], ◌∷◌, length, drop, get_or, refl, ap, sym, ◌∙◌}
use Rattle.std.proofs.lemmas.List.{drop_all, get_or_default}
use Rattle.dds_base.specs.Access.{has_bit}
use Rattle.dds_base.specs.Offers.{offers_reliability, offers_durability, offers_presentation, offers_deadline, offers_latency_budget, offers_ownership, offers_liveliness, offers_destination_order, unfit_policies}
use Rattle.dds_base.specs.declared.policies.Policies.{Policies}
use Rattle.dds_base.specs.declared.unfit.UnfitPolicies.{UnfitPolicies}
use Rattle.dds_base.proofs.Lists.{drop-step}
use Rattle.dds_base.proofs.UnfitLaws.{TellsEach, tells_each}
use Rattle.dds_policies.specs.Offers.{unfit}
use Rattle.dds_policies.specs.declared.misfit.Misfit.{Misfit}
use Rattle.dds_policies.specs.declared.misfit.Misfit.TheVariants.{Reliability, Durability, Presentation, Deadline, LatencyBudget, Ownership, Liveliness, DestinationOrder}

-- the first misfit whose policy is in the set
first_in : UnfitPolicies → List (UnfitPolicies × Misfit) → Option Misfit
first_in found [] = None
first_in found (t ∷ ts) = if has_bit found.0 t.0.0 then Some t.1 else first_in found ts

-- that of those from here on is the one that is sought
pub Sought : UnfitPolicies → List (UnfitPolicies × Misfit) → ℕ → Policies → Policies → Type 0
Sought found ts at w r = first_in found (drop at ts) ≡ unfit w r

-- ---- at first

abbrev pub bit : ℕ → UnfitPolicies
bit n = record { 0 = n }

-- the policies in their order
abbrev pub in_order : List (UnfitPolicies × Misfit)
in_order =
    (bit 2048, Reliability) ∷ (bit 4, Durability) ∷ (bit 8, Presentation) ∷ (bit 16, Deadline) ∷ (bit 32, LatencyBudget)
    ∷ (bit 64, Ownership) ∷ (bit 256, Liveliness) ∷ (bit 4096, DestinationOrder) ∷ []

-- the first of eight policies that is missed
first_of : Bool → Bool → Bool → Bool → Bool → Bool → Bool → Bool → Option Misfit
first_of a b c d e f g h =
    if a then Some Reliability else
    (if b then Some Durability else
    (if c then Some Presentation else
    (if d then Some Deadline else
    (if e then Some LatencyBudget else
    (if f then Some Ownership else
    (if g then Some Liveliness else
    (if h then Some DestinationOrder else None)))))))

of_set : (found : UnfitPolicies) → first_in found in_order ≡
    first_of (has_bit found.0 2048) (has_bit found.0 4) (has_bit found.0 8) (has_bit found.0 16) (has_bit found.0 32)
    (has_bit found.0 64) (has_bit found.0 256) (has_bit found.0 4096)
unfolding first_in first_of
of_set found = refl

of_table : (w r : Policies) → first_of (not (offers_reliability w r)) (not (offers_durability w r))
    (not (offers_presentation w r)) (not (offers_deadline w r)) (not (offers_latency_budget w r))
    (not (offers_ownership w r)) (not (offers_liveliness w r)) (not (offers_destination_order w r)) ≡ unfit w r
unfolding first_of
of_table w r = refl

pub sought-first : (found : UnfitPolicies) (w r : Policies) → found ≡ unfit_policies w r → Sought found in_order 0 w r
unfolding Sought
sought-first found w r is =
    let each : TellsEach w r = tells_each w r in
    ap (λ (s : UnfitPolicies). first_in s in_order) is
    ∙ (of_set (unfit_policies w r)
    ∙ (cc (
      each.reliability,
      each.durability,
      each.presentation,
      each.deadline,
      each.latency_budget,
      each.ownership,
      each.liveliness,
      each.destination_order,
    )
    ∙ of_table w r))

-- ---- one after another

from_here : (found : UnfitPolicies) (ts : List (UnfitPolicies × Misfit)) (at : ℕ) (t : UnfitPolicies × Misfit)
    (has : Bool) → at < length ts → t ≡ get_or ts at t → has_bit found.0 t.0.0 ≡ has
    → first_in found (drop at ts) ≡ (if has then Some t.1 else first_in found (drop (at + 1) ts))
unfolding first_in
from_here found ts at t has within is said =
    ap (λ (us : List (UnfitPolicies × Misfit)). first_in found us) (drop-step ts at t within is)
    ∙ ap (λ (b : Bool). if b then Some t.1 else first_in found (drop (at + 1) ts)) said

pub sought-here : (found : UnfitPolicies) (ts : List (UnfitPolicies × Misfit)) (at : ℕ) (w r : Policies)
    (t d : UnfitPolicies × Misfit) → Sought found ts at w r → at < length ts → t ≡ get_or ts at d
    → has_bit found.0 t.0.0 ≡ true → Some t.1 ≡ unfit w r
unfolding Sought
sought-here found ts at w r t d sought within is said =
    sym (from_here found ts at t true within (is ∙ get_or_default ts at d t within) said) ∙ sought

pub sought-next : (found : UnfitPolicies) (ts : List (UnfitPolicies × Misfit)) (at : ℕ) (w r : Policies)
    (t d : UnfitPolicies × Misfit) → Sought found ts at w r → at < length ts → t ≡ get_or ts at d
    → has_bit found.0 t.0.0 ≡ false → Sought found ts (at + 1) w r
unfolding Sought
sought-next found ts at w r t d sought within is said =
    sym (from_here found ts at t false within (is ∙ get_or_default ts at d t within) said) ∙ sought

pub sought-last : (found : UnfitPolicies) (ts : List (UnfitPolicies × Misfit)) (at : ℕ) (w r : Policies)
    → Sought found ts at w r → length ts ≤ at → None ≡ unfit w r
unfolding Sought first_in
sought-last found ts at w r sought end =
    sym (ap (λ (us : List (UnfitPolicies × Misfit)). first_in found us) (drop_all at ts end)) ∙ sought
