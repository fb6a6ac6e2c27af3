-- The first policy of which a writer offers less than a reader asks for (DDS 1.4, 2.2.3: the policies that are
-- requested and offered).
use Rattle.std.specs.Prelude.{not, Option, Some, None, if◌then◌else◌}
use Rattle.dds_base.specs.Offers.{offers_reliability, offers_durability, offers_presentation, offers_deadline, offers_latency_budget, offers_ownership, offers_liveliness, offers_destination_order}
use Rattle.dds_base.specs.declared.policies.Policies.{Policies}
use Rattle.dds_policies.specs.declared.misfit.Misfit.{Misfit}
use Rattle.dds_policies.specs.declared.misfit.Misfit.TheVariants.{Reliability, Durability, Presentation, Deadline, LatencyBudget, Ownership, Liveliness, DestinationOrder}

-- the first policy, in this order, of which a writer offers less than a reader asks for
abbrev pub unfit : Policies → Policies → Option Misfit
unfit w r =
    if not (offers_reliability w r) then Some Reliability else
    (if not (offers_durability w r) then Some Durability else
    (if not (offers_presentation w r) then Some Presentation else
    (if not (offers_deadline w r) then Some Deadline else
    (if not (offers_latency_budget w r) then Some LatencyBudget else
    (if not (offers_ownership w r) then Some Ownership else
    (if not (offers_liveliness w r) then Some Liveliness else
    (if not (offers_destination_order w r) then Some DestinationOrder else None)))))))
