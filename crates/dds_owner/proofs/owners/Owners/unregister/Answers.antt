use Rattle.std.proofs.Common.{Option, subst, sym}
use Rattle.dds_owner.specs.declared.ranking.KeptOwner.{KeptOwner}
use Rattle.dds_base.specs.declared.happening.Happening.TheVariants.{Came}
use Rattle.std.specs.Prelude.{◌∷◌}
use Rattle.dds_owner.specs.Standing.{Kept, StandsFor}
use Rattle.dds_owner.proofs.KeptLaws.{came-ended}
use Rattle.dds_owner.proofs.owners.Owners.unregister.Goals as goal

pub returns : goal.returns
returns c = record {
  came = λ q h a given writer kind.
      subst
      (λ (o : Option KeptOwner). StandsFor (record { registrations = c.enter.new.registrations.items; owner = o }) q
      a.change.key (Came a ∷ h))
      (sym c.owner_but-self-inside.ensures)
      (came-ended q h a c.args.writer _ c.enter.new.registrations.items
      (subst (λ (k : Kept). StandsFor k q a.change.key h) (sym c.self.view_is) given) writer kind c.enter.ensures);
}
