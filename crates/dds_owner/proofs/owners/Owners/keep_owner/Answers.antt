use Rattle.std.proofs.Common.{List, Option, None, subst, sym, ap, ◌∙◌}
use Rattle.dds_owner.specs.declared.ranking.KeptOwner.{KeptOwner}
use Rattle.dds_owner.specs.declared.registration.Registration.{Registration}
use Rattle.dds_owner.specs.Ranking.{order_by, owner_to_keep}
use Rattle.dds_owner.specs.Standing.{Kept, StandsFor}
use Rattle.dds_owner.proofs.KeptLaws.{owner-anew}
use Rattle.dds_owner.proofs.owners.Owners.keep_owner.Goals as goal

pub returns-then-is_none-clause-same : goal.returns-then-is_none-clause-same
returns-then-is_none-clause-same c = λ i h given tells.
    subst
    (λ (o : Option KeptOwner). StandsFor (record { registrations = c.self.inside.registrations.items; owner = o })
    c.args.qos.now i h)
    (sym (c.owner_to_keep-self-inside.ensures
    ∙ ap (λ (rs : List Registration). owner_to_keep (order_by c.args.qos.now c.args.strengths.now None)
    c.args.strengths.now rs) c.deref.ensures.value))
    (owner-anew c.args.qos.now i h c.args.strengths.now _ tells
    (subst (λ (k : Kept). StandsFor k c.args.qos.now i h) (sym c.self.view_is) given))
