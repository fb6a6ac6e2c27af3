use Rattle.std.proofs.Common.{length}
use Rattle.std.proofs.lemmas.List.Sorted.{All-permutation}
use Rattle.dds_cache.specs.Finding.{IsPlaced}
use Rattle.dds_cache.proofs.FindingLaws.{matched, candidates-after}
use Rattle.dds_cache.proofs.access.find_matching.Goals as goal

pub returns-clause-placed : goal.returns-clause-placed
returns-clause-placed g c =
    All-permutation (IsPlaced (length c.args.samples.now)) c.in_ok-found.found.items
    c.sort_by_handle.new.candidates.items c.in_ok-sort_by_handle.ensures.permutation c.in_ok-found.ensures.placed

pub returns-clause-found : goal.returns-clause-found
returns-clause-found g c = λ h holds. record {
  samples_are = matched c.args.qos.now c.args.instances.now h c.args.masks
      (g.T.Test.meaning c.args.test.now) c.args.samples.now c.in_ok-found.found.items
      c.sort_by_handle.new.candidates.items holds
      (c.in_ok-found.ensures.found h holds.instances holds.each) c.in_ok-sort_by_handle.ensures.permutation
      c.in_ok-sort_by_handle.ensures.sorted c.in_ok-sort_by_handle.ensures.stable;
  each =
      candidates-after c.args.qos.now h c.args.masks
      (g.T.Test.meaning c.args.test.now) c.args.samples.now c.in_ok-found.found.items
      c.sort_by_handle.new.candidates.items
      (c.in_ok-found.ensures.found h holds.instances holds.each) c.in_ok-sort_by_handle.ensures.permutation;
}
