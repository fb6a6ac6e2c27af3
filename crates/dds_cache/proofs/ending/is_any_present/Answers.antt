use Rattle.std.proofs.Common.{◌≡◌, ◌+◌, refl, List, Bool, ◌&&◌, ◌||◌, true, false, get_or, sym, ap, ◌∙◌, arith}
use Rattle.std.specs.List.{list_any}
use Rattle.std.proofs.lemmas.List.{take_all}
use Rattle.std.proofs.lemmas.List.Folds.{list_any_at, list_any_more}
use Rattle.dds_base.specs.declared.qos.ReaderQos.{ReaderQos}
use Rattle.dds_cache.specs.declared.kept.Kept.{Kept}
use Rattle.dds_cache.specs.Kept.{IsKept, is_here}
use Rattle.dds_cache.specs.Sweeping.{stays}
use Rattle.dds_cache.proofs.HoldLaws.{here-by, none-apart, none-before, none-further}
use Rattle.dds_cache.proofs.PushLaws.{all-at}
use Rattle.dds_cache.proofs.ending.is_any_present.Goals as goal
use Rattle.dds_cache.proofs.ending.is_any_present.Goals.{else-eq-via-then-eq+else-is_still_live, else-eq-via-else-eq}

pub loop-place-init : goal.loop-place-init
loop-place-init c = record {
  none = λ h stands each.
      let ks : List Kept = c.args.samples.now in
      none-further (is_here c.args.qos.now h c.args.key) ks 0 c.first-place.result (omega arith)
      (λ j d from below within. none-before c.args.qos.now h c.args.key ks c.first-place.result each
      (c.first-place.ensures.first ks c.requires.chains refl) j d below within) refl;
}

pub returns-then-is_still_live : goal.returns-then-is_still_live
returns-then-is_still_live c = λ h stands each.
    let q : ReaderQos = c.args.qos.now in
    let ks : List Kept = c.args.samples.now in
    let k : Kept = c.index-samples-place.result in
    let kept : IsKept q h k =
    all-at (IsKept q h) ks c.loop-place.place k c.loop-place-test.true c.index-samples-place.is each in
    let here : is_here q h c.args.key (get_or ks c.loop-place.place k) ≡ true =
    ap (λ (x : Kept). is_here q h c.args.key x) (sym c.index-samples-place.is)
    ∙ (here-by q h c.args.key k c.is_still_live.result kept (c.is_still_live.ensures h stands)
    ∙ (ap (λ (b : Bool). b && c.is_still_live.result) (sym c.eq.ensures ∙ c.if-eq.true) ∙ c.if-is_still_live.true)) in
    sym (list_any_at (is_here q h c.args.key) ks c.loop-place.place k c.loop-place-test.true here)

pub loop-place-preserved : goal.loop-place-preserved
loop-place-preserved c = record {
  none = λ h stands each.
      let q : ReaderQos = c.args.qos.now in
      let ks : List Kept = c.args.samples.now in
      let k : Kept = c.index-samples-place.result in
      let kept : IsKept q h k =
      all-at (IsKept q h) ks c.loop-place.place k c.loop-place-test.true c.index-samples-place.is each in
      let other : is_here q h c.args.key k ≡ false = elim c.else-eq.branch [
        | else-eq-via-then-eq+else-is_still_live w ↦
            here-by q h c.args.key k w.is_still_live.result kept (w.is_still_live.ensures h stands)
            ∙ (ap (λ (b : Bool). b && w.is_still_live.result) (sym c.eq.ensures ∙ w.if-eq.true) ∙ w.if-is_still_live.false)
        | else-eq-via-else-eq w ↦
            here-by q h c.args.key k (stays q h k) kept refl
            ∙ ap (λ (b : Bool). b && stays q h k) (sym c.eq.ensures ∙ w.if-eq.false)
      ] in
      none-further (is_here q h c.args.key) ks (c.loop-place.place + 1) c.next-place.result
      (omega (arith, c.next-place.ensures.later))
      (λ j d from below within. none-apart q h c.args.key (get_or ks j d)
      (c.next-place.ensures.between c.requires.chains j d (omega (arith, from)) below within))
      (list_any_more (is_here q h c.args.key) ks c.loop-place.place k c.loop-place-test.true
      ∙ (ap (λ (b : Bool). b || is_here q h c.args.key (get_or ks c.loop-place.place k))
      (c.loop-place.invariant.none h stands each)
      ∙ (ap (λ (x : Kept). is_here q h c.args.key x) (sym c.index-samples-place.is) ∙ other)));
}

pub returns : goal.returns
returns c = λ h stands each.
    let ks : List Kept = c.args.samples.now in
    sym (ap (λ (xs : List Kept). list_any (is_here c.args.qos.now h c.args.key) xs)
    (sym (take_all c.loop-place.place ks (omega (arith, c.loop-place-test.false))))
    ∙ c.loop-place.invariant.none h stands each)
