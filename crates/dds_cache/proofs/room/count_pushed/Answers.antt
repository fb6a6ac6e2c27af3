use Rattle.std.proofs.Common.{◌≡◌, ◌≤◌, ◌+◌, ℕ, List, Bool, true, false, ◌&&◌, length, get_or, take, sym, ap, ◌∙◌, arith, cond, refl, ◌<◌}
use mir.Val.{bool_byte}
use Rattle.std.specs.List.{count_by}
use Rattle.std.proofs.lemmas.List.{get_or_default, take_all}
use Rattle.std.proofs.lemmas.List.Sums.{count_by_more_no, count_by_more_yes}
use Rattle.dds_base.specs.declared.qos.ReaderQos.{ReaderQos}
use Rattle.dds_base.specs.Happening.{same_key}
use Rattle.dds_instances.specs.declared.known.KnownInstance.{KnownInstance}
use Rattle.dds_cache.specs.declared.kept.Kept.{Kept}
use Rattle.dds_cache.specs.Kept.{IsKept, has_data}
use Rattle.dds_cache.specs.Pushing.{is_pushed}
use Rattle.dds_cache.proofs.PushLaws.{all-at, none-first}
use Rattle.dds_cache.proofs.RoomLaws.{count-further, pushed-own, unpushed-apart, unpushed-before, unpushed-from}
use Rattle.dds_cache.proofs.room.count_pushed.Goals as goal

pub loop-place-init : goal.loop-place-init
loop-place-init c = record {
  few = omega arith;
  counted = λ table a h awaits holds.
      let q : ReaderQos = c.args.qos.now in
      let known : KnownInstance = c.args.known.now in
      let ks : List Kept = c.args.samples.now in
      sym (count-further (is_pushed q a h) ks 0 c.first-place.result (omega arith)
      (λ j d from below within. unpushed-before q table a h known ks c.first-place.result awaits.key holds
      (none-first known ks c.first-place.result
      (c.first-place.ensures.first ks c.requires.chains refl)) j d below within));
}

pub loop-place-preserved : goal.loop-place-preserved
loop-place-preserved c =
    let ks : List Kept = c.args.samples.now in
    let k : Kept = c.index-samples-place.result in
    let own : Bool = same_key k.sample.key c.args.known.now.key && has_data k in
    let x : Kept = c.index-samples-place-in-loop-place.result in
    let same : x ≡ k = c.index-samples-place-in-loop-place.is
    ∙ (get_or_default ks c.loop-place.place x k c.loop-place-test.true ∙ sym c.index-samples-place.is) in
    let one : c.from-count.result ≡ cond own 1 0 =
    c.from-count.ensures ∙ (byte (c.eq-is_own.result && c.has_data.result) ∙ ap (λ (b : Bool). cond b 1 0)
    (ap (λ (b : Bool). b && c.has_data.result) c.eq-is_own.ensures
    ∙ (ap (λ (b : Bool). same_key x.sample.key c.args.known.now.key && b) c.has_data.ensures
    ∙ ap (λ (y : Kept). same_key y.sample.key c.args.known.now.key && has_data y) same))) in
    record {
      few = omega (arith, c.loop-place.invariant.few, c.next-place.ensures.later, one, at-most own);
      counted = λ table a h awaits holds.
          let q : ReaderQos = c.args.qos.now in
          let known : KnownInstance = c.args.known.now in
          let p : Kept → Bool = is_pushed q a h in
          let so_far = c.loop-place.invariant.counted table a h awaits holds in
          let is : p k ≡ own = pushed-own q table a h known ks c.loop-place.place k awaits.key holds c.loop-place-test.true
          c.index-samples-place.is
          (sym (c.stays_after.ensures a h awaits
          (all-at (IsKept q h) ks c.loop-place.place k c.loop-place-test.true c.index-samples-place.is holds.each))
          ∙ c.if-not-stays_after.true) in
          let more : count_by p (take (c.loop-place.place + 1) ks)
          ≡ count_by p (take c.loop-place.place ks) + cond own 1 0 =
          more-by p own ks c.loop-place.place k c.loop-place-test.true (ap p (sym c.index-samples-place.is) ∙ is) in
          let rest : count_by p (take c.next-place.result ks) ≡ count_by p (take (c.loop-place.place + 1) ks) =
          count-further p ks (c.loop-place.place + 1) c.next-place.result (omega (arith, c.next-place.ensures.later))
          (λ j d from below within. unpushed-apart q table a h known ks awaits.key holds j d within
          (c.next-place.ensures.between c.requires.chains j d (omega (arith, from)) below within)) in
          omega (arith, so_far, one, more, rest);
    }
  where
    byte : (b : Bool) → bool_byte b ≡ cond {A = ℕ} b 1 0
    byte true = refl
    byte false = refl

    at-most : (b : Bool) → cond {A = ℕ} b 1 0 ≤ 1
    at-most true = omega arith
    at-most false = omega arith

    more-by : (p : Kept → Bool) (b : Bool) (ks : List Kept) (at : ℕ) (k : Kept) → at < length ks
        → p (get_or ks at k) ≡ b → count_by p (take (at + 1) ks) ≡ count_by p (take at ks) + cond b 1 0
    more-by p true ks at k within is = count_by_more_yes p ks at k within is
    more-by p false ks at k within is = count_by_more_no p ks at k within is ∙ omega arith

pub returns-else-not-stays_after : goal.returns-else-not-stays_after
returns-else-not-stays_after c = λ table a h awaits holds.
    let q : ReaderQos = c.args.qos.now in
    let ks : List Kept = c.args.samples.now in
    let k : Kept = c.index-samples-place.result in
    c.loop-place.invariant.counted table a h awaits holds
    ∙ (sym (count-further (is_pushed q a h) ks c.loop-place.place (length ks) (omega (arith, c.loop-place-test.true))
    (λ j d from below within. unpushed-from q table a h c.args.known.now ks c.loop-place.place k awaits.key holds
    c.loop-place-test.true c.index-samples-place.is
    (sym (c.stays_after.ensures a h awaits
    (all-at (IsKept q h) ks c.loop-place.place k c.loop-place-test.true c.index-samples-place.is holds.each))
    ∙ c.if-not-stays_after.false) j d from within))
    ∙ ap (λ (xs : List Kept). count_by (is_pushed q a h) xs) (take_all (length ks) ks (omega arith)))
