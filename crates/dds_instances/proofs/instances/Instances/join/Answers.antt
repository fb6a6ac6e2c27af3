use Rattle.std.proofs.Common.{◌≡◌, ◌+◌, refl, rules, subst, sym, ap, ◌∙◌, ℕ}
use Rattle.dds_base.specs.declared.happening.Happening.TheVariants.{Joined}
use Rattle.dds_base.proofs.JoinLaws.{count-joined}
use Rattle.dds_instances.specs.Table.{Table, Stands}
use Rattle.dds_instances.specs.Sound.{table_of}
use Rattle.dds_instances.proofs.EndingLaws.{stands-quiet}
use Rattle.dds_instances.proofs.instances.Instances.join.Goals as goal

pub returns-clause-joined : goal.returns-clause-joined
returns-clause-joined c = λ q h stands.
    let more : c.in_ok-writers.writers ≡ c.self.inside.writers + 1 = search rules in
    let counted : c.in_ok-happened.happened ≡ c.self.inside.happened + 1 = search rules in
    stands-quiet q h (Joined c.args.writer) (table_of c.self.inside) _
    (λ are. more ∙ (ap (λ (n : ℕ). n + 1) are ∙ sym (count-joined q h c.args.writer)))
    (λ it. c.in_ok-join.ensures.joined h it) refl counted refl
    (record { accepts = λ i. refl; registers = λ i v. refl; takes = λ i. refl; introduces = refl; names = tt }) (λ i j. refl)
    (subst (λ (t : Table). Stands q t h) (sym c.self.view_is) stands)
