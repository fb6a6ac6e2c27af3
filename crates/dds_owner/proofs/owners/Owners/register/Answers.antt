use Rattle.std.proofs.Common.{List, subst, sym, ap, ◌∙◌, arith}
use Rattle.dds_owner.specs.declared.registration.Registration.{Registration}
use Rattle.dds_owner.specs.Registration.{is_there_at}
use Rattle.dds_owner.specs.Standing.{Kept, StandsFor, places_of}
use Rattle.dds_owner.proofs.KeptLaws.{came-again, came-anew}
use Rattle.dds_owner.proofs.owners.Owners.register.Goals as goal

pub returns-then-not-is_writer_there : goal.returns-then-not-is_writer_there
returns-then-not-is_writer_there c = record {
  came = λ q h a placed given writer kind.
      came-anew q h a c.args.writer _ c.enter.new.registrations.items
      (omega (arith, placed, ap (λ (k : Kept). places_of k) c.self.view_is))
      (subst (λ (k : Kept). StandsFor k q a.change.key h) (sym c.self.view_is) given) writer kind c.enter.ensures;
}

pub returns-else-not-is_writer_there : goal.returns-else-not-is_writer_there
returns-else-not-is_writer_there c = record {
  came = λ q h a placed given writer kind.
      came-again q h a c.args.writer c.args.self.now given writer kind
      (ap (λ (k : Kept). is_there_at k.registrations c.args.writer) (sym c.self.view_is)
      ∙ (ap (λ (rs : List Registration). is_there_at rs c.args.writer) (sym c.deref.ensures.value)
      ∙ (sym c.is_writer_there.ensures ∙ c.if-not-is_writer_there.false)));
}
