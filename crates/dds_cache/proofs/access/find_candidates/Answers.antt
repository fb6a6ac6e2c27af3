use Rattle.std.proofs.Common.{ℕ, ◌<◌, ◌+◌, List, take, length, sym, ap, ◌∙◌, subst}
use Rattle.std.proofs.lemmas.List.{take_all}
use Rattle.dds_cache.specs.declared.kept.Kept.{Kept}
use Rattle.dds_cache.specs.declared.access.Candidate.{Candidate}
use Rattle.dds_cache.specs.Kept.{IsKept}
use Rattle.dds_cache.specs.Finding.{AreCandidates, IsPlaced}
use Rattle.std.specs.List.{All}
use Rattle.std.proofs.lemmas.List.Elements.{All-push}
use Rattle.dds_cache.proofs.FindingLaws.{candidates-none, candidates-some}
use Rattle.dds_cache.proofs.access.find_candidates.Goals as goal
use Rattle.dds_cache.proofs.access.find_candidates.Goals.{in-Some+in_ok-push, in_default}

pub loop-at-preserved : goal.loop-at-preserved
loop-at-preserved g c =
    let ks : List Kept = c.args.samples.now in
    let k : Kept = c.index-samples-at.result in
    record {
      placed = elim c.match-as_candidate.branch [
        | in-Some+in_ok-push w ↦ subst (λ (cs : List Candidate). All (IsPlaced (length ks)) cs)
            (sym (ap (λ v. v.items) w.found-is ∙ w.in_ok-push.ensures.items))
            (All-push (IsPlaced (length ks)) c.loop-at.found.items _ c.loop-at.invariant.placed
            (record {
              within = subst (λ (n : ℕ). n < length ks)
                  (sym w.in-Some.ensures.placed.0) c.loop-at-test.true;
              small = w.in-Some.ensures.placed.1;
            }))
        | in_default w ↦
            subst (λ (cs : List Candidate). All (IsPlaced (length ks)) cs)
            (sym (ap (λ v. v.items) w.found-is)) c.loop-at.invariant.placed
      ];
      found = λ h stands all.
          let kept : IsKept c.args.qos.now h k =
          subst (λ (x : Kept). IsKept c.args.qos.now h x) (sym c.index-samples-at.is)
          (all c.loop-at.at k c.loop-at-test.true) in
          let so_far : AreCandidates c.args.qos.now h c.args.masks (g.T.Test.meaning c.args.test.now) ks
          (take c.loop-at.at ks) c.loop-at.found.items = c.loop-at.invariant.found h stands all in
          let P : List Candidate → Type 0 =
          λ cs. AreCandidates c.args.qos.now h c.args.masks (g.T.Test.meaning c.args.test.now) ks
          (take (c.loop-at.at + 1) ks) cs in
          elim c.match-as_candidate.branch [
            | in-Some+in_ok-push w ↦
                subst P (sym (ap (λ v. v.items) w.found-is ∙ w.in_ok-push.ensures.items))
                (candidates-some c.args.qos.now h c.args.masks
                (g.T.Test.meaning c.args.test.now) ks c.loop-at.at k _ c.loop-at.found.items c.loop-at-test.true
                c.index-samples-at.is kept (w.in-Some.ensures.wanted h stands kept) so_far)
            | in_default w ↦
                subst P (sym (ap (λ v. v.items) w.found-is))
                (candidates-none c.args.qos.now h c.args.masks
                (g.T.Test.meaning c.args.test.now) ks c.loop-at.at k c.loop-at.found.items c.loop-at-test.true
                c.index-samples-at.is (w.in_default.ensures.wanted h stands kept) so_far)
          ];
    }

pub returns-clause-found : goal.returns-clause-found
returns-clause-found g c =
    λ h stands all. subst (λ (xs : List Kept). AreCandidates c.args.qos.now h c.args.masks
    (g.T.Test.meaning c.args.test.now) c.args.samples.now xs c.loop-at.found.items)
    (take_all c.loop-at.at c.args.samples.now c.loop-at-test.false) (c.loop-at.invariant.found h stands all)
