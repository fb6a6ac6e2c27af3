use Rattle.std.proofs.Common.{}
use Rattle.rtps_announcements.specs.WrittenEndpoints.{reliability_row, durability_row, liveliness_row, ownership_row, strength_row, deadline_row, latency_budget_row, destination_order_row, presentation_row}
use Rattle.rtps_announcements.proofs.PutLaws.{puts_none, puts_more}
use Rattle.rtps_announcements.proofs.write.put_policies.Goals as goal

pub returns-clause-ok : goal.returns-clause-ok
returns-clause-ok c =
    let p = c.args.policies.now in
    (puts_more (presentation_row p.presentation) (puts_more (destination_order_row p.destination_order) (puts_more (latency_budget_row p.latency_budget) (puts_more (deadline_row p.deadline) (puts_more (strength_row c.args.kind p) (puts_more (ownership_row p.ownership) (puts_more (liveliness_row p.liveliness) (puts_more (durability_row p.durability) (puts_more (reliability_row p.reliability) (puts_none c.args.out.now.items)
    c.in_ok-put_reliability.ensures.ok)
    c.in_ok-put_durability.ensures.ok)
    c.in_ok-put_liveliness.ensures.ok)
    c.in_ok-put_ownership.ensures.ok)
    c.in_ok-put_strength.ensures.ok)
    c.in_ok-put_deadline.ensures.ok)
    c.in_ok-put_latency_budget.ensures.ok)
    c.in_ok-put_destination_order.ensures.ok)
    c.in_ok-put_presentation.ensures.ok).is
