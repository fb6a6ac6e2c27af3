use Rattle.std.proofs.Common.{refl, subst, sym}
use Rattle.dds_base.specs.declared.happening.Happening.TheVariants.{Passed, Heard, Left, Looked}
use Rattle.dds_instances.specs.Table.{Table, Stands}
use Rattle.dds_instances.specs.Sound.{table_of}
use Rattle.dds_instances.proofs.EndingLaws.{stands-quiet}
use Rattle.dds_instances.proofs.instances.Instances.skip.Goals as goal

pub returns-clause-passed : goal.returns-clause-passed
returns-clause-passed c = λ q h w first last stands matched.
    stands-quiet q h (Passed w first last) (table_of c.self.inside) _ (λ are. are) (λ it. record { tells = it.tells; joined_are = it.joined_are; counts = it.counts }) refl refl refl
    (record { accepts = λ i. refl; registers = λ i v. refl; takes = λ i. refl; introduces = refl; names = matched }) (λ i j. refl)
    (subst (λ (t : Table). Stands q t h) (sym c.self.view_is) stands)

pub returns-clause-heard : goal.returns-clause-heard
returns-clause-heard c = λ q h w moment stands matched.
    stands-quiet q h (Heard w moment) (table_of c.self.inside) _ (λ are. are) (λ it. record { tells = it.tells; joined_are = it.joined_are; counts = it.counts }) refl refl refl
    (record { accepts = λ i. refl; registers = λ i v. refl; takes = λ i. refl; introduces = refl; names = matched }) (λ i j. refl)
    (subst (λ (t : Table). Stands q t h) (sym c.self.view_is) stands)

pub returns-clause-left : goal.returns-clause-left
returns-clause-left c = λ q h w moment stands matched.
    stands-quiet q h (Left w moment) (table_of c.self.inside) _ (λ are. are) (λ it. record { tells = it.tells; joined_are = it.joined_are; counts = it.counts }) refl refl refl
    (record { accepts = λ i. refl; registers = λ i v. refl; takes = λ i. refl; introduces = refl; names = matched }) (λ i j. refl)
    (subst (λ (t : Table). Stands q t h) (sym c.self.view_is) stands)

pub returns-clause-looked : goal.returns-clause-looked
returns-clause-looked c = λ q h kind stands.
    stands-quiet q h (Looked kind) (table_of c.self.inside) _ (λ are. are) (λ it. record { tells = it.tells; joined_are = it.joined_are; counts = it.counts }) refl refl refl
    (record { accepts = λ i. refl; registers = λ i v. refl; takes = λ i. refl; introduces = refl; names = tt }) (λ i j. refl)
    (subst (λ (t : Table). Stands q t h) (sym c.self.view_is) stands)
