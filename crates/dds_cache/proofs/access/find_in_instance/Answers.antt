use Rattle.std.proofs.Common.{Bool, not, ⊎_elim, ℕ, ◌≤◌, ◌⊎◌, ◌<◌, ◌+◌, List, [], None, get_or, refl, arith, inl, inr, take, length, sym, ap, ◌∙◌, subst}
use Rattle.std.specs.List.{All}
use Rattle.std.proofs.lemmas.Bool.{cases_Bool}
use Rattle.std.proofs.lemmas.List.Elements.{All-nil, All-push}
use Rattle.dds_cache.specs.declared.kept.Kept.{Kept}
use Rattle.dds_cache.specs.declared.access.Candidate.{Candidate}
use Rattle.dds_cache.specs.Kept.{IsKept}
use Rattle.dds_cache.specs.Finding.{IsCandidate, IsPlaced}
use Rattle.dds_cache.specs.First.{AreFirstOf, IsFull, IsOf}
use Rattle.dds_cache.proofs.FirstLaws.{cut-each, first-cut, first-none, first-past, first-some, unwanted-first, unwanted-other, unwanted-unread}
use Rattle.dds_cache.proofs.access.find_in_instance.Goals as goal
use Rattle.dds_cache.proofs.access.find_in_instance.Goals.{in-Some+in_ok-push, in_default, else-loop-at-test, then-loop-at-test+else-not-is_full}

pub loop-at-init : goal.loop-at-init
loop-at-init g c = record {
  placed = subst (λ (cs : List Candidate). All (IsPlaced (length c.args.content.now.samples.now)) cs) (sym c.new-found.ensures.items)
      (All-nil (IsPlaced (length c.args.content.now.samples.now)));
  handles = subst (λ (cs : List Candidate). All (IsOf c.args.known.now.handle) cs) (sym c.new-found.ensures.items)
      (All-nil (IsOf c.args.known.now.handle));
  found = λ h is_known all.
      let ks : List Kept = c.args.content.now.samples.now in
      subst (λ (cs : List Candidate). AreFirstOf c.args.content.now.qos.now h c.args.masks (g.T.Test.meaning c.args.test.now)
      c.args.known.now.key None ks (take c.first-at.result ks) cs) (sym c.new-found.ensures.items)
      (first-past c.args.content.now.qos.now h c.args.masks (g.T.Test.meaning c.args.test.now) c.args.known.now.key ks 0
      c.first-at.result [] (omega arith)
      (λ j d from below within. ⊎_elim
      (λ asked. unwanted-first c.args.content.now.qos.now h c.args.masks (g.T.Test.meaning c.args.test.now)
      c.args.known.now.key ks c.first-at.result j d all
      (c.first-at.ensures.first ks c.requires.chained.chains (ap (λ (b : Bool). not b) asked)) below within)
      (λ unasked. unwanted-unread c.args.content.now.qos.now h c.args.masks (g.T.Test.meaning c.args.test.now)
      c.args.known.now.key ks c.first-at.result j d all (sym c.asks_for_sample-is_unread.ensures ∙ unasked)
      (c.first-at.ensures.unread ks c.requires.chained.chains (ap (λ (b : Bool). not b) unasked)) below within)
      (cases_Bool c.asks_for_sample-is_unread.result))
      (record { samples_are = refl; each = All-nil (IsCandidate c.args.content.now.qos.now h ks) }));
}

pub loop-at-preserved : goal.loop-at-preserved
loop-at-preserved g c =
    let ks : List Kept = c.args.content.now.samples.now in
    let k : Kept = c.index-samples-at.result in
    record {
      placed = elim c.match-as_candidate_of.branch [
        | in-Some+in_ok-push w ↦ subst (λ (cs : List Candidate). All (IsPlaced (length ks)) cs)
            (sym (ap (λ v. v.items) w.found-is ∙ w.in_ok-push.ensures.items))
            (All-push (IsPlaced (length ks)) c.loop-at.found.items _ c.loop-at.invariant.placed
            (record {
              within = subst (λ (n : ℕ). n < length ks)
                  (sym w.in-Some.ensures.placed.0) c.loop-at-test.true;
              small = w.in-Some.ensures.placed.1;
            }))
        | in_default w ↦
            subst (λ (cs : List Candidate). All (IsPlaced (length ks)) cs)
            (sym (ap (λ v. v.items) w.found-is)) c.loop-at.invariant.placed
      ];
      handles = elim c.match-as_candidate_of.branch [
        | in-Some+in_ok-push w ↦ subst (λ (cs : List Candidate). All (IsOf c.args.known.now.handle) cs)
            (sym (ap (λ v. v.items) w.found-is ∙ w.in_ok-push.ensures.items))
            (All-push (IsOf c.args.known.now.handle) c.loop-at.found.items _ c.loop-at.invariant.handles
            w.in-Some.ensures.handle)
        | in_default w ↦
            subst (λ (cs : List Candidate). All (IsOf c.args.known.now.handle) cs)
            (sym (ap (λ v. v.items) w.found-is)) c.loop-at.invariant.handles
      ];
      found = λ h is_known all.
          let kept : IsKept c.args.content.now.qos.now h k =
          subst (λ (x : Kept). IsKept c.args.content.now.qos.now h x) (sym c.index-samples-at.is)
          (all c.loop-at.at k c.loop-at-test.true) in
          let so_far = c.loop-at.invariant.found h is_known all in
          let P : List Candidate → Type 0 =
          λ cs. AreFirstOf c.args.content.now.qos.now h c.args.masks
          (g.T.Test.meaning c.args.test.now) c.args.known.now.key None ks (take (c.loop-at.at + 1) ks) cs in
          let here : P c.match-as_candidate_of.found.items = elim c.match-as_candidate_of.branch [
            | in-Some+in_ok-push w ↦
                subst P (sym (ap (λ v. v.items) w.found-is ∙ w.in_ok-push.ensures.items))
                (first-some c.args.content.now.qos.now h c.args.masks
                (g.T.Test.meaning c.args.test.now) c.args.known.now.key ks c.loop-at.at k _ c.loop-at.found.items
                c.loop-at-test.true c.index-samples-at.is kept (w.in-Some.ensures.wanted h is_known kept) so_far)
            | in_default w ↦
                subst P (sym (ap (λ v. v.items) w.found-is))
                (first-none c.args.content.now.qos.now h c.args.masks
                (g.T.Test.meaning c.args.test.now) c.args.known.now.key ks c.loop-at.at k c.loop-at.found.items
                c.loop-at-test.true c.index-samples-at.is (w.in_default.ensures.wanted h is_known kept) so_far)
          ] in
          first-past c.args.content.now.qos.now h c.args.masks (g.T.Test.meaning c.args.test.now) c.args.known.now.key ks
          (c.loop-at.at + 1) c.next-at.result c.match-as_candidate_of.found.items
          (omega (arith, c.next-at.ensures.later))
          (λ j d from below within. unwanted-other c.args.content.now.qos.now h c.args.masks (g.T.Test.meaning c.args.test.now)
          c.args.known.now.key (get_or ks j d)
          (c.next-at.ensures.between c.requires.chained.chains j d (omega (arith, from)) below within)) here;
    }

pub returns-clause-placed : goal.returns-clause-placed
returns-clause-placed g c =
    cut-each (IsPlaced (length c.args.content.now.samples.now)) c.args.max c.loop-at.found.items c.cut_to.new.found.items
    c.cut_to.ensures c.loop-at.invariant.placed

pub returns-clause-handles : goal.returns-clause-handles
returns-clause-handles g c =
    cut-each (IsOf c.args.known.now.handle) c.args.max c.loop-at.found.items c.cut_to.new.found.items
    c.cut_to.ensures c.loop-at.invariant.handles

pub returns-clause-found : goal.returns-clause-found
returns-clause-found g c = λ h is_known all.
    let done : IsFull c.args.max (length c.loop-at.found.items) ⊎ (length c.args.content.now.samples.now ≤ c.loop-at.at) =
    elim c.loop-at-test.branch [
      | else-loop-at-test w ↦ inr w.loop-at-test.false
      | then-loop-at-test+else-not-is_full w ↦
          inl (subst (λ (n : ℕ). IsFull c.args.max n) (w.len.ensures ∙ c.loop-at.found.ok.0)
          (w.is_full.ensures.full w.if-not-is_full.false))
    ] in
    first-cut c.args.content.now.qos.now h c.args.masks
    (g.T.Test.meaning c.args.test.now) c.args.known.now.key c.args.max c.args.content.now.samples.now c.loop-at.at
    c.loop-at.found.items c.cut_to.new.found.items done c.cut_to.ensures (c.loop-at.invariant.found h is_known all)
