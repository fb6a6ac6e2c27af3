use Rattle.std.proofs.Common.{List, ap, ◌∙◌}
use Rattle.dds_owner.specs.declared.registration.Registration.{Registration}
use Rattle.dds_owner.specs.Registration.{is_there_at}
use Rattle.dds_owner.specs.Standing.{Kept}
use Rattle.dds_owner.proofs.RegistrationLaws.{has-matched, has-unmatched}
use Rattle.dds_owner.proofs.owners.Owners.is_registered.Goals as goal

pub returns-clause-matched : goal.returns-clause-matched
returns-clause-matched c = λ q i h given matched. c.is_writer_there.ensures
    ∙ (ap (λ (rs : List Registration). is_there_at rs c.args.writer)
    (c.deref.ensures.value ∙ ap (λ (k : Kept). k.registrations) c.self.view_is)
    ∙ has-matched c.args.self.now q i h c.args.writer matched given)

pub returns-clause-unmatched : goal.returns-clause-unmatched
returns-clause-unmatched c = λ q i h given out. c.is_writer_there.ensures
    ∙ (ap (λ (rs : List Registration). is_there_at rs c.args.writer)
    (c.deref.ensures.value ∙ ap (λ (k : Kept). k.registrations) c.self.view_is)
    ∙ has-unmatched c.args.self.now q i h c.args.writer out given)
