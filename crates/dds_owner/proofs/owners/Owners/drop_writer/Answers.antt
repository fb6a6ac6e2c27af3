use Rattle.std.proofs.Common.{List, ◌∷◌, Option, sym, ap, subst, ◌∙◌}
use Rattle.std.specs.List.{list_any}
use Rattle.dds_base.specs.declared.happening.Happening.TheVariants.{Died}
use Rattle.dds_owner.specs.declared.ranking.KeptOwner.{KeptOwner}
use Rattle.dds_owner.specs.declared.registration.Registration.{Registration}
use Rattle.dds_owner.specs.Registration.{is_there}
use Rattle.dds_owner.specs.Standing.{Kept, StandsFor, has_writers}
use Rattle.dds_owner.proofs.KeptLaws.{died-ended}
use Rattle.dds_owner.proofs.RegistrationLaws.{left-before}
use Rattle.dds_owner.proofs.owners.Owners.drop_writer.Goals as goal

pub returns-clause-died : goal.returns-clause-died
returns-clause-died c = λ q i h moment given.
    subst
    (λ (o : Option KeptOwner). StandsFor (record { registrations = c.enter.new.registrations.items; owner = o }) q i
    (Died c.args.dead moment ∷ h))
    (sym c.owner_but-self-inside.ensures)
    (died-ended q i h c.args.dead moment _ c.enter.new.registrations.items
    (subst (λ (k : Kept). StandsFor k q i h) (sym c.self.view_is) given) c.enter.ensures)

pub returns-clause-fewer : goal.returns-clause-fewer
returns-clause-fewer c = λ after.
    sym (ap (λ (k : Kept). has_writers k) c.self.view_is)
    ∙ left-before c.args.dead c.self.inside.registrations.items
    (sym (ap (λ (rs : List Registration). list_any is_there rs) c.enter.ensures) ∙ after)
