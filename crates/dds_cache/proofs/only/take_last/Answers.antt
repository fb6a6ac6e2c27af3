use Rattle.std.proofs.Common.{◌≡◌, ◌∙◌, ℕ, ◌-◌, List, [], ◌∷◌, true, false, sym, ap, subst, arith}
use Rattle.std.specs.List.{All}
use Rattle.std.specs.Prelude.{OnOk, Result, take, vec_len}
use Rattle.dds_base.specs.declared.code.Code.{Code}
use Rattle.dds_base.specs.declared.happening.SamplePosition.{SamplePosition}
use Rattle.dds_base.specs.declared.happening.Happening.{Happening}
use Rattle.dds_base.specs.declared.happening.Happening.TheVariants.{Took}
use Rattle.dds_base.specs.declared.qos.ReaderQos.{ReaderQos}
use Rattle.dds_instances.specs.Known.{IsReturnable}
use Rattle.dds_instances.specs.Table.{HoldsLeft, Stands, Table, is_any_left}
use Rattle.dds_cache.specs.declared.kept.Kept.{Kept}
use Rattle.dds_cache.specs.Finding.{Holds}
use Rattle.dds_cache.proofs.OnlyLaws.{holds-none, returnable-only}
use Rattle.dds_cache.proofs.only.take_last.Goals as goal

pub returns-in-Some-clause-holds : goal.returns-in-Some-clause-holds
returns-in-Some-clause-holds c = λ q h only.
    let before : Table = c.args.instances.now in
    let after : Table = c.took.new.self in
    let ks : List Kept = c.args.samples.now.items in
    let s : SamplePosition = c.args.sample in
    let ss : List SamplePosition = c.from_ref.result.now in
    let same : ss ≡ s ∷ [] = c.from_ref.ensures.value in
    let took : Stands q after (Took ss ∷ h) =
    subst (λ (r : Result (Unit {0}) Code). OnOk r ((p : ReaderQos) (g : List Happening) → Stands p before g
    → All (IsReturnable p g) ss → (is_any_left p g ss ≡ true → HoldsLeft p g ss before)
    → Stands p after (Took ss ∷ g))) c.unwrap.ensures c.took.ensures.took q h only.holds.instances
    (subst (λ (xs : List SamplePosition). All (IsReturnable q h) xs) (sym same)
    (returnable-only q before s ks h c.requires.one only))
    (λ any. absurd (let clash : true ≡ false =
    sym any ∙ (ap (λ (xs : List SamplePosition). is_any_left q h xs) same ∙ only.registered) in cc)) in
    let gone : c.pop-last.new.self.items ≡ [] =
    c.pop-last.ensures.rest
    ∙ ap (λ (n : ℕ). take n ks) (let none : vec_len c.args.samples.now - 1 ≡ 0 = omega (arith, c.requires.one, c.args.samples.now.ok.0) in none) in
    subst (λ (xs : List Kept). Holds q after xs (Took (s ∷ []) ∷ h)) (sym gone)
    (holds-none q before after s ks h c.requires.one only
    (subst (λ (xs : List SamplePosition). Stands q after (Took xs ∷ h)) same took))
