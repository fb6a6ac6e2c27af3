use Rattle.std.proofs.Common.{◌≡◌, ◌∷◌, List, map, true, false, sym, ap, ◌∙◌, subst}
use Rattle.std.specs.List.{All, list_any}
use Rattle.std.specs.Prelude.{OnOk, Result}
use Rattle.dds_base.specs.declared.code.Code.{Code}
use Rattle.dds_base.specs.declared.happening.SamplePosition.{SamplePosition}
use Rattle.dds_base.specs.declared.happening.Happening.{Happening}
use Rattle.dds_base.specs.declared.happening.Happening.TheVariants.{Took}
use Rattle.dds_base.specs.declared.qos.ReaderQos.{ReaderQos}
use Rattle.dds_instances.specs.Known.{IsReturnable}
use Rattle.dds_instances.specs.Table.{HoldsLeft, Stands, Table, is_any_left, is_held}
use Rattle.dds_cache.specs.declared.kept.Kept.{Kept}
use Rattle.dds_cache.specs.Finding.{Holds}
use Rattle.dds_cache.specs.Kept.{taken}
use Rattle.dds_cache.specs.Sweeping.{left_since, stays_of}
use Rattle.dds_cache.proofs.HoldLaws.{left-there, marked-there}
use Rattle.dds_cache.proofs.StandingLaws.{holds-in, holds-took}
use Rattle.dds_cache.proofs.entering.take_out.Goals as goal
use Rattle.dds_cache.proofs.entering.take_out.Goals.{then-is_any_left, else-is_any_left}

pub returns-clause-holds : goal.returns-clause-holds
returns-clause-holds c = λ h ks found.
    let holds = found.holds in
    let q : ReaderQos = c.args.qos.now in
    let ss : List SamplePosition = c.args.taken.now in
    let held : Table = c.if-is_any_left.instances in
    let marked : List Kept = map (taken ss) ks in
    let stands : Stands q held h = elim c.if-is_any_left.branch [
      | then-is_any_left w ↦ subst (λ (t : Table). Stands q t h) (sym w.instances-is)
          (w.hold_present.ensures.same q h holds.instances)
      | else-is_any_left w ↦ subst (λ (t : Table). Stands q t h) (sym w.instances-is) holds.instances
    ] in
    let noted : is_any_left q h ss ≡ true → HoldsLeft q h ss held = elim c.if-is_any_left.branch [
      | then-is_any_left w ↦ λ any i known.
          let same : w.deref.result.now ≡ marked = w.deref.ensures.value ∙ found.marked_are in
          ap (λ (t : Table). is_held t i) w.instances-is
          ∙ (w.hold_present.ensures.held h i holds.instances known
          ∙ (ap (λ (xs : List Kept). list_any (stays_of q h i) xs) same
          ∙ (marked-there q ss h i ks holds.each ∙ left-there q ss h c.args.instances.now i ks holds)))
      | else-is_any_left w ↦ λ any. absurd (let clash : true ≡ false =
          sym any ∙ (sym (c.is_any_left.ensures.left q h holds.instances) ∙ w.if-is_any_left.false) in cc)
    ] in
    let took : Stands q c.took.new.self (Took ss ∷ h) =
    subst (λ (r : Result (Unit {0}) Code). OnOk r ((p : ReaderQos) (g : List Happening) → Stands p held g
    → All (IsReturnable p g) ss → (is_any_left p g ss ≡ true → HoldsLeft p g ss held)
    → Stands p c.took.new.self (Took ss ∷ g))) c.unwrap.ensures c.took.ensures.took q h stands found.returnable noted in
    let left : Holds q c.took.new.self c.let_go.new.samples.items (Took ss ∷ h) =
    subst (λ (xs : List Kept). Holds q c.took.new.self xs (Took ss ∷ h))
    (sym (c.let_go.ensures.items (Took ss ∷ h) took
    ∙ ap (λ (xs : List Kept). left_since q (Took ss ∷ h) c.len-before.result xs) found.marked_are))
    (holds-took q ss h c.args.instances.now c.took.new.self c.len-before.result ks
    (c.len-before.ensures.len q h holds.instances) took holds) in
    holds-in q c.took.new.self (Took ss ∷ h) c.let_go.new.samples.items c.let_out_go.new.samples.items
    c.let_out_go.ensures.items left
