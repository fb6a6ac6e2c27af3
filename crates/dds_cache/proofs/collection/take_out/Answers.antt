use Rattle.std.proofs.Common.{◌≡◌, ◌<◌, ◌+◌, ◌∙◌, ℕ, List, Bool, false, true, length, take, get_or, sym, ap, refl, subst, arith}
use Rattle.std.specs.Prelude.{nat_lt, if◌then◌else◌}
use Rattle.std.proofs.lemmas.Bool.Decides.{nat_tests}
use Rattle.std.proofs.lemmas.List.{get_or_default, length-set}
use Rattle.dds_base.specs.declared.sample.Sample.{Sample}
use Rattle.dds_cache.specs.declared.access.Candidate.{Candidate}
use Rattle.dds_cache.specs.declared.access_kind.AccessKind.TheVariants.{Read, Take}
use Rattle.dds_cache.specs.declared.kept.Kept.{Kept}
use Rattle.dds_cache.specs.Finding.{AreChanged, is_place}
use Rattle.dds_cache.specs.Kept.{IsOutAt, out_if}
use Rattle.dds_cache.specs.Picking.{collected}
use Rattle.dds_cache.proofs.CollectionLaws.{length-collected, value-read, values-all, values-more}
use Rattle.dds_cache.proofs.PlaceLaws.{apart-so-far, changed-more}
use Rattle.dds_cache.proofs.collection.take_out.Goals as goal

pub loop-at-preserved : goal.loop-at-preserved
loop-at-preserved c =
    let ks : List Kept = c.args.samples.now.items in
    let cs : List Candidate = c.args.found.now in
    let one : Candidate = c.index-found-at.result in
    let out : IsOutAt one.at c.loop-at.samples.items c.let_out.result c.let_out.new.samples.items = c.let_out.ensures.out in
    let x : Kept = out.before in
    let k : Kept = get_or ks one.at x in
    let y : Sample = c.index_mut.result.now in
    let placed : one.at < length ks = subst (λ (z : Candidate). z.at < length ks) (sym c.index-found-at.is)
    (c.requires.placed c.loop-at.at one c.loop-at-test.true).within in
    record {
      done =
          subst (λ (zs : List Kept). AreChanged out_if (take (c.loop-at.at + 1) cs) ks zs) (sym out.new_is)
          (changed-more out_if cs c.loop-at.at one ks c.loop-at.samples.items x (out_if true x) (λ b z. refl)
          c.loop-at-test.true c.index-found-at.is placed out.before_is refl c.loop-at.invariant.done);
      counted = c.let_out.ensures.counted;
      len = c.let_out.ensures.len ∙ c.loop-at.invariant.len;
      capacity = c.let_out.ensures.capacity ∙ c.loop-at.invariant.capacity;
      whole =
          length-set c.loop-at.collection.items c.loop-at.at (record y { value = c.let_out.result })
          ∙ c.loop-at.invariant.whole;
      so_far = λ apart gathered n d within.
          let reads : List Sample = collected Read ks cs in
          let takes : List Sample = collected Take ks cs in
          let so_far = c.loop-at.invariant.so_far apart gathered in
          let free : is_place (take c.loop-at.at cs) one.at ≡ false =
          apart-so-far cs c.loop-at.at one apart c.loop-at-test.true c.index-found-at.is in
          let own : x ≡ k = out.before_is
          ∙ (c.loop-at.invariant.done.each one.at x placed ∙ ap (λ (b : Bool). out_if b k) free) in
          let empty : y ≡ get_or takes c.loop-at.at y = c.index_mut.ensures.value
          ∙ (so_far c.loop-at.at y c.loop-at-test.true
          ∙ ap (λ (b : Bool). get_or (if b then reads else takes) c.loop-at.at y) (not-below c.loop-at.at)) in
          values-more reads takes c.loop-at.collection.items c.loop-at.at (record y { value = c.let_out.result })
          (omega (arith, c.loop-at-test.true, c.loop-at.invariant.whole))
          (omega (arith, c.loop-at-test.true, length-collected Read ks cs))
          (λ m e inside. so_far m e (omega (arith, inside, c.loop-at.invariant.whole)))
          (value-read ks cs c.loop-at.at one y k c.let_out.result c.loop-at-test.true c.index-found-at.is placed
          (get_or_default ks one.at x k placed) (out.value_is ∙ ap (λ (z : Kept). z.value) own) empty)
          n d (omega (arith, within, c.loop-at.invariant.whole));
    }
  where
    not-below : (n : ℕ) → nat_lt n n ≡ false
    not-below n = grind (arith, nat_tests)

pub returns-clause-taken : goal.returns-clause-taken
returns-clause-taken c = λ apart gathered.
    let ks : List Kept = c.args.samples.now.items in
    let cs : List Candidate = c.args.found.now in
    values-all (collected Read ks cs) (collected Take ks cs) c.loop-at.collection.items c.loop-at.at
    (c.loop-at.invariant.whole ∙ sym (length-collected Read ks cs))
    (omega (arith, c.loop-at-test.false, c.loop-at.invariant.whole))
    (λ n d within. c.loop-at.invariant.so_far apart gathered n d (omega (arith, within, c.loop-at.invariant.whole)))

pub returns-clause-counted : goal.returns-clause-counted
returns-clause-counted c = c.loop-at.invariant.counted
