use Rattle.std.proofs.Common.{◌≡◌, ◌≤◌, ◌⊎◌, ◌+◌, ◌++◌, ℕ, List, get_or, inl, inr, length, sym, ◌∙◌, subst, arith}
use Rattle.std.specs.List.{All}
use Rattle.std.specs.List.Sorted.{IsNonDecreasingBy}
use Rattle.std.proofs.lemmas.List.Elements.{All-append, All-nil}
use Rattle.dds_base.specs.Instance.{known_instances}
use Rattle.dds_cache.specs.declared.access.Candidate.{Candidate}
use Rattle.dds_cache.specs.Finding.{IsPlaced, handle_in}
use Rattle.dds_cache.specs.First.{AreFirstUpTo, IsFull}
use Rattle.dds_cache.proofs.FirstLaws.{cut-each}
use Rattle.dds_cache.proofs.WalkLaws.{all-walked, below-more, none-walked, one-walked, sorted-cut, sorted-more}
use Rattle.dds_cache.proofs.by_instance.find_by_instance.Goals as goal
use Rattle.dds_cache.proofs.by_instance.find_by_instance.Goals.{else-loop-place-test, then-loop-place-test+then-is_full}

pub loop-place-init : goal.loop-place-init
loop-place-init g c = record {
  placed = subst (λ (xs : List Candidate). All (IsPlaced (length c.args.content.now.samples.now)) xs) (sym c.new-found.ensures.items)
      (All-nil (IsPlaced (length c.args.content.now.samples.now)));
  sorted = subst (λ (xs : List Candidate). IsNonDecreasingBy handle_in xs) (sym c.new-found.ensures.items)
      (λ i j d le within. absurd (omega (arith, within)));
  below = subst (λ (xs : List Candidate). All (λ (x : Candidate). handle_in x ≤ 0) xs) (sym c.new-found.ensures.items)
      (All-nil (λ (x : Candidate). handle_in x ≤ 0));
  found = λ h holds. subst (λ (xs : List Candidate). AreFirstUpTo c.args.content.now.qos.now h c.args.masks
      (g.T.Test.meaning c.args.test.now) c.args.max c.args.content.now.samples.now 0 xs) (sym c.new-found.ensures.items)
      (none-walked c.args.content.now.qos.now h c.args.masks (g.T.Test.meaning c.args.test.now) c.args.max c.args.content.now.samples.now);
}

pub loop-place-preserved : goal.loop-place-preserved
loop-place-preserved g c =
    let cs : List Candidate = c.loop-place.found.items in
    let more : List Candidate = c.in_ok-more.more.items in
    let handle : c.number-handle.result ≡ c.in-Some.known.handle = c.number-handle.ensures.number in
    let from : c.loop-place.newest ≤ c.in-Some.known.handle = omega (arith, handle, c.if-handle-newest.false) in
    record {
      placed = subst (λ (xs : List Candidate). All (IsPlaced (length c.args.content.now.samples.now)) xs)
          (sym c.in_ok-append.ensures.items)
          (All-append (IsPlaced (length c.args.content.now.samples.now)) cs more c.loop-place.invariant.placed
          c.in_ok-more.ensures.placed);
      sorted = subst (λ (xs : List Candidate). IsNonDecreasingBy handle_in xs) (sym c.in_ok-append.ensures.items)
          (sorted-more c.in-Some.known.handle cs more c.loop-place.invariant.sorted
          (λ k d within. let is : handle_in (get_or cs k d) ≤ c.loop-place.newest = c.loop-place.invariant.below k d within in
          omega (arith, is, from)) c.in_ok-more.ensures.handles);
      below = subst (λ (xs : List Candidate). All (λ (x : Candidate). handle_in x ≤ c.number-handle.result) xs)
          (sym c.in_ok-append.ensures.items)
          (subst (λ (n : ℕ). All (λ (x : Candidate). handle_in x ≤ n) (cs ++ more)) (sym handle)
          (below-more c.loop-place.newest c.in-Some.known.handle cs more from c.loop-place.invariant.below
          c.in_ok-more.ensures.handles));
      found = λ h holds.
          subst (λ (xs : List Candidate). AreFirstUpTo c.args.content.now.qos.now h c.args.masks (g.T.Test.meaning c.args.test.now)
          c.args.max c.args.content.now.samples.now (c.loop-place.place + 1) xs) (sym c.in_ok-append.ensures.items)
          (one-walked c.args.content.now.qos.now h c.args.masks (g.T.Test.meaning c.args.test.now) c.args.max c.args.content.now.samples.now
          c.args.content.now.instances.now c.loop-place.place c.in-Some.known.key cs more holds
          (sym (c.in-Some.ensures.key c.args.content.now.qos.now h holds.instances))
          (c.in_ok-more.ensures.found h (c.in-Some.ensures.known c.args.content.now.qos.now h holds.instances) holds.each) (c.loop-place.invariant.found h holds));
    }

pub returns-clause-placed : goal.returns-clause-placed
returns-clause-placed g c =
    cut-each (IsPlaced (length c.args.content.now.samples.now)) c.args.max c.loop-place.found.items c.cut_to.new.found.items
    c.cut_to.ensures c.loop-place.invariant.placed

pub returns-clause-found : goal.returns-clause-found
returns-clause-found g c = λ h holds.
    let known : c.len-place-end.result ≡ length (known_instances c.args.content.now.qos.now h) =
    c.len-place-end.ensures.len c.args.content.now.qos.now h holds.instances in
    let done : IsFull c.args.max (length c.loop-place.found.items)
    ⊎ (length (known_instances c.args.content.now.qos.now h) ≤ c.loop-place.place) =
    elim c.loop-place-test.branch [
      | else-loop-place-test w ↦ inr (omega (arith, known, w.loop-place-test.false))
      | then-loop-place-test+then-is_full w ↦
          inl (subst (λ (n : ℕ). IsFull c.args.max n) (w.len.ensures ∙ c.loop-place.found.ok.0)
          (w.is_full.ensures.full w.if-is_full.true))
    ] in
    all-walked c.args.content.now.qos.now h c.args.masks (g.T.Test.meaning c.args.test.now) c.args.max c.args.content.now.samples.now
    c.loop-place.place c.loop-place.found.items c.cut_to.new.found.items done c.cut_to.ensures
    (c.loop-place.invariant.found h holds)

pub returns-clause-sorted : goal.returns-clause-sorted
returns-clause-sorted g c =
    sorted-cut c.args.max c.loop-place.found.items c.cut_to.new.found.items c.cut_to.ensures
    c.loop-place.invariant.sorted
