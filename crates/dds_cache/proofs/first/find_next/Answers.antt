use Rattle.std.proofs.Common.{◌≡◌, ◌<◌, List, length, take, sym, subst, arith}
use Rattle.std.specs.List.{All}
use Rattle.std.proofs.lemmas.Bool.Decides.{nat_tests}
use Rattle.std.proofs.lemmas.List.{take_all}
use Rattle.dds_base.specs.declared.key.Key.{Key}
use Rattle.dds_base.specs.Instance.{known_instances}
use Rattle.dds_cache.specs.declared.access.Candidate.{Candidate}
use Rattle.dds_cache.specs.First.{AreOfForm, IsBarren}
use Rattle.dds_cache.proofs.NextLaws.{barren-first, barren-found, barren-more, barren-none, barren-there, next-form, no-next-form, none-asked}
use Rattle.dds_cache.proofs.first.find_next.Goals as goal
use Rattle.dds_cache.proofs.first.find_next.Goals.{in-Some+in_ok-found+else-not-is_empty, in_default}

pub returns-then-is_full-clause-found : goal.returns-then-is_full-clause-found
returns-then-is_full-clause-found g c = λ h holds next.
    subst (λ (cs : List Candidate). AreOfForm c.args.content.now.qos.now h c.args.selection.now c.args.masks
    (g.T.Test.meaning c.args.test.now) c.args.max c.args.content.now.samples.now cs) (sym c.new.ensures.items)
    (none-asked c.args.content.now.qos.now h c.args.selection.now c.args.masks (g.T.Test.meaning c.args.test.now) c.args.max
    c.args.content.now.samples.now (c.is_full.ensures.full c.if-is_full.true))

pub loop-place-init : goal.loop-place-init
loop-place-init g c = record {
  barren = λ h holds. barren-first c.args.content.now.qos.now h c.args.selection.now c.args.masks (g.T.Test.meaning c.args.test.now)
      (take c.first_place-first.result (known_instances c.args.content.now.qos.now h))
      (c.first_place-first.ensures c.args.content.now.qos.now h holds.instances).before;
}

pub returns-then-not-is_empty-clause-found : goal.returns-then-not-is_empty-clause-found
returns-then-not-is_empty-clause-found g c = λ h holds next.
    let asked = c.in-Some.ensures.asked c.args.content.now.qos.now h holds.instances in
    let some : 0 < length c.in_ok-found.found.items =
    grind (arith, nat_tests, c.in_ok-found.found.ok.0, c.is_empty.ensures, c.if-not-is_empty.true) in
    next-form c.args.content.now.qos.now c.args.content.now.instances.now h c.args.selection.now c.args.masks
    (g.T.Test.meaning c.args.test.now) c.args.max c.args.content.now.samples.now c.loop-place.place c.in-Some.known
    c.in_ok-found.found.items next holds asked.0 asked.1 (c.loop-place.invariant.barren h holds)
    (c.in_ok-found.ensures.found h asked.2 holds.each) some

pub loop-place-preserved : goal.loop-place-preserved
loop-place-preserved g c = record {
  barren = λ h holds.
      let P : Key → Type 0 = IsBarren c.args.content.now.qos.now h c.args.selection.now c.args.masks
      (g.T.Test.meaning c.args.test.now) in
      barren-more P (known_instances c.args.content.now.qos.now h) c.loop-place.place
      (elim c.match-asked_at.branch [
        | in-Some+in_ok-found+else-not-is_empty w ↦
            let asked = w.in-Some.ensures.asked c.args.content.now.qos.now h holds.instances in
            let none : length w.in_ok-found.found.items ≡ 0 =
            grind (arith, nat_tests, w.in_ok-found.found.ok.0, w.is_empty.ensures, w.if-not-is_empty.false) in
            barren-there P (known_instances c.args.content.now.qos.now h) c.loop-place.place w.in-Some.known.key asked.0
            (barren-found c.args.content.now.qos.now c.args.content.now.instances.now h c.args.selection.now c.args.masks
            (g.T.Test.meaning c.args.test.now) c.args.max c.args.content.now.samples.now w.in-Some.known.key
            w.in_ok-found.found.items holds (c.is_full.ensures.few c.if-is_full.false)
            (w.in_ok-found.ensures.found h asked.2 holds.each) none)
        | in_default w ↦
            barren-none c.args.content.now.qos.now h c.args.selection.now c.args.masks (g.T.Test.meaning c.args.test.now)
            c.loop-place.place (w.in_default.ensures.asked c.args.content.now.qos.now h holds.instances)
      ]) (c.loop-place.invariant.barren h holds);
}

pub returns-clause-found : goal.returns-clause-found
returns-clause-found g c = λ h holds next.
    let known : c.len-place-end.result ≡ length (known_instances c.args.content.now.qos.now h) =
    c.len-place-end.ensures.len c.args.content.now.qos.now h holds.instances in
    let P : Key → Type 0 = IsBarren c.args.content.now.qos.now h c.args.selection.now c.args.masks
    (g.T.Test.meaning c.args.test.now) in
    subst (λ (cs : List Candidate). AreOfForm c.args.content.now.qos.now h c.args.selection.now c.args.masks
    (g.T.Test.meaning c.args.test.now) c.args.max c.args.content.now.samples.now cs) (sym c.new-2.ensures.items)
    (no-next-form c.args.content.now.qos.now h c.args.selection.now c.args.masks (g.T.Test.meaning c.args.test.now) c.args.max
    c.args.content.now.samples.now next
    (subst (λ (is : List Key). All P is)
    (take_all c.loop-place.place (known_instances c.args.content.now.qos.now h) (omega (arith, known, c.loop-place-test.false)))
    (c.loop-place.invariant.barren h holds)))
