use Rattle.std.proofs.Common.{◌≡◌, List, Bool, ◌||◌, true, false, get_or, sym, ap, ◌∙◌, subst}
use Rattle.std.specs.List.{list_any}
use Rattle.std.proofs.lemmas.List.{take_all}
use Rattle.std.proofs.lemmas.List.Folds.{list_any_at, list_any_more}
use Rattle.dds_cache.specs.declared.kept.Kept.{Kept}
use Rattle.dds_cache.specs.Kept.{IsKept}
use Rattle.dds_cache.specs.Finding.{is_sought, passes}
use Rattle.dds_cache.proofs.CountLaws.{present-any}
use Rattle.dds_cache.proofs.access.is_any_match.Goals as goal

pub returns-then-is_sought_match : goal.returns-then-is_sought_match
returns-then-is_sought_match g c = record {
  matched = λ h holds.
      let ks : List Kept = c.args.samples.now in
      let k : Kept = c.kept-item.result in
      let test : Kept → Bool = passes c.args.qos.now h
      (is_sought c.args.qos.now h c.args.selection.now c.args.masks (g.T.Test.meaning c.args.test.now)) in
      let kept : IsKept c.args.qos.now h k =
      subst (λ (x : Kept). IsKept c.args.qos.now h x) (sym c.kept-item.is)
      (holds.each c.loop-kept.kept-index k c.loop-kept-test.true) in
      let passes : test (get_or ks c.loop-kept.kept-index k) ≡ true =
      ap test (sym c.kept-item.is)
      ∙ (sym (c.is_sought_match.ensures.wanted h holds.instances kept) ∙ c.if-is_sought_match.true)
      in
      sym (list_any_at test ks c.loop-kept.kept-index k c.loop-kept-test.true passes)
      ∙ sym (present-any c.args.qos.now h
      (is_sought c.args.qos.now h c.args.selection.now c.args.masks (g.T.Test.meaning c.args.test.now)) ks holds.each
      holds.present);
}

pub loop-kept-preserved : goal.loop-kept-preserved
loop-kept-preserved g c = λ h stands each.
    let ks : List Kept = c.args.samples.now in
    let k : Kept = c.kept-item.result in
    let test : Kept → Bool = passes c.args.qos.now h
    (is_sought c.args.qos.now h c.args.selection.now c.args.masks (g.T.Test.meaning c.args.test.now)) in
    let kept : IsKept c.args.qos.now h k =
    subst (λ (x : Kept). IsKept c.args.qos.now h x) (sym c.kept-item.is)
    (each c.loop-kept.kept-index k c.loop-kept-test.true) in
    let fails : test (get_or ks c.loop-kept.kept-index k) ≡ false =
    ap test (sym c.kept-item.is)
    ∙ (sym (c.is_sought_match.ensures.wanted h stands kept) ∙ c.if-is_sought_match.false) in
    list_any_more test ks c.loop-kept.kept-index k c.loop-kept-test.true
    ∙ (ap (λ (b : Bool). b || test (get_or ks c.loop-kept.kept-index k)) (c.loop-kept.invariant h stands each) ∙ fails)

pub returns : goal.returns
returns g c = record {
  matched = λ h holds.
      let ks : List Kept = c.args.samples.now in
      let test : Kept → Bool = passes c.args.qos.now h
      (is_sought c.args.qos.now h c.args.selection.now c.args.masks (g.T.Test.meaning c.args.test.now)) in
      sym (c.loop-kept.invariant h holds.instances holds.each)
      ∙ (ap (λ (xs : List Kept). list_any test xs) (take_all c.loop-kept.kept-index ks c.loop-kept-test.false)
      ∙ sym (present-any c.args.qos.now h
      (is_sought c.args.qos.now h c.args.selection.now c.args.masks (g.T.Test.meaning c.args.test.now)) ks holds.each
      holds.present));
}
