use Rattle.std.proofs.Common.{List, ap, ◌∙◌}
use Rattle.std.specs.List.{list_any}
use Rattle.dds_owner.specs.declared.registration.Registration.{Registration}
use Rattle.dds_owner.specs.Registration.{is_there}
use Rattle.dds_owner.specs.Standing.{Kept}
use Rattle.dds_owner.proofs.RegistrationLaws.{somebody-there}
use Rattle.dds_owner.proofs.owners.Owners.has_writers.Goals as goal

pub returns-clause-anybody : goal.returns-clause-anybody
returns-clause-anybody c = λ q i h given. c.is_anybody_there.ensures
    ∙ (ap (λ (rs : List Registration). list_any is_there rs)
    (c.deref.ensures.value ∙ ap (λ (k : Kept). k.registrations) c.self.view_is)
    ∙ somebody-there c.args.self.now q i h given)
