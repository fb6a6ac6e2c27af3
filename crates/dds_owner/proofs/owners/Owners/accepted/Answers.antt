use Rattle.std.proofs.Common.{List, Some, ap, subst, sym, ◌∙◌}
use Rattle.dds_owner.specs.declared.registration.Registration.{Registration}
use Rattle.dds_owner.specs.Ranking.{accepted_among, order_by, owner_before}
use Rattle.dds_owner.specs.Standing.{Kept, StandsFor}
use Rattle.dds_owner.proofs.KeptLaws.{accepted-among}
use Rattle.dds_owner.proofs.owners.Owners.accepted.Goals as goal

pub returns : goal.returns
returns c = record {
  accepted = λ h given tells.
      let inside = subst (λ (k : Kept). StandsFor k c.args.qos.now c.args.arrival.now.change.key h) (sym c.self.view_is)
      given in
      c.accepted_by.ensures
      ∙ (ap (λ (rs : List Registration). accepted_among (order_by c.args.qos.now c.args.strengths.now (Some c.args.arrival.now))
      c.args.qos.now (owner_before c.args.strengths.now c.self.inside.owner c.args.arrival.now) rs
      c.args.arrival.now.writer c.args.arrival.now.change.kind) c.deref.ensures.value
      ∙ accepted-among c.args.qos.now h c.args.arrival.now c.args.strengths.now _ tells inside);
}
