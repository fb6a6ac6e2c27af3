use Rattle.std.proofs.Common.{◌≡◌, Bool, List, Option, Some, None, subst, sym, ap, ◌∙◌}
use Rattle.std.specs.Prelude.{if◌then◌else◌}
use Rattle.dds_base.specs.declared.happening.Happening.{Happening}
use Rattle.dds_base.specs.declared.key.Key.{Key}
use Rattle.dds_base.specs.Ownership.{owner_of, registered_writers}
use Rattle.dds_owner.specs.declared.ranking.Leader.{Leader}
use Rattle.dds_owner.specs.declared.registration.Registration.{Registration}
use Rattle.dds_owner.specs.Standing.{Kept, StandsFor, TellsStrengths}
use Rattle.dds_owner.specs.Ranking.{leader_among, order_by, sole}
use Rattle.dds_owner.proofs.KeptLaws.{owner-current}
use Rattle.dds_owner.proofs.RankingLaws.{owner-found}
use Rattle.dds_owner.proofs.owners.Owners.owner.Goals as goal
use Rattle.dds_owner.proofs.owners.Owners.owner.Goals.{After-leader_of}

-- the owner is the leader, where it is alone
alone : (c : After-leader_of) → (i : Key) (h : List Happening) → StandsFor c.args.self.now c.args.qos.now i h
    → TellsStrengths c.args.strengths.now h
    → sole c.leader_of.result ≡ owner_of c.args.qos.now h (registered_writers c.args.qos.now i h)
alone c i h given tells =
    ap (λ (l : Option Leader). sole l) c.leader_of.ensures
    ∙ (ap (λ (rs : List Registration). sole (leader_among (order_by c.args.qos.now c.args.strengths.now None) None rs))
    (c.deref.ensures.value ∙ ap (λ (k : Kept). k.registrations) c.self.view_is)
    ∙ owner-found c.args.qos.now i h c.args.strengths.now c.args.self.now tells given)

pub returns-in_err-leader : goal.returns-in_err-leader
returns-in_err-leader c = record {
  owner = λ i h given tells.
      c.from_residual.ensures
      ∙ (ap (λ (l : Option Leader). sole l) (sym c.in_err-leader.was)
      ∙ alone (goal.at.returns-in_err-leader c).After-leader_of i h given tells);
}

pub returns-then-leader : goal.returns-then-leader
returns-then-leader c = record {
  owner = λ i h given tells.
      ap (λ (b : Bool). if b then Some c.in_ok-leader.leader.writer else None) (sym c.if-leader.true)
      ∙ (ap (λ (l : Option Leader). sole l) (sym c.in_ok-leader.was)
      ∙ alone (goal.at.returns-then-leader c).After-leader_of i h given tells);
}

pub returns-else-leader : goal.returns-else-leader
returns-else-leader c = record {
  owner = λ i h given tells.
      ap (λ (b : Bool). if b then Some c.in_ok-leader.leader.writer else None) (sym c.if-leader.false)
      ∙ (ap (λ (l : Option Leader). sole l) (sym c.in_ok-leader.was)
      ∙ alone (goal.at.returns-else-leader c).After-leader_of i h given tells);
}

pub returns-in-Some : goal.returns-in-Some
returns-in-Some c = record {
  owner = λ i h given tells.
      let inside = subst (λ (k : Kept). StandsFor k c.args.qos.now i h) (sym c.self.view_is) given in
      sym (owner-current c.args.qos.now i h c.args.strengths.now _ c.in-Some.owner tells inside
      (sym c.current_owner.ensures ∙ c.in-Some.is));
}
