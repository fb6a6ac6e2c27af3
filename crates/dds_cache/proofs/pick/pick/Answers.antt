use Rattle.std.proofs.Common.{List, [], length, sym, subst, arith}
use Rattle.std.specs.List.{All}
use Rattle.std.specs.List.Sorted.{IsNonDecreasingBy}
use Rattle.std.proofs.lemmas.List.Sorted.{IsNonDecreasingBy-short}
use Rattle.std.proofs.lemmas.List.Elements.{All-nil}
use Rattle.dds_cache.specs.declared.access.Candidate.{Candidate}
use Rattle.dds_cache.specs.Finding.{IsPlaced, handle_in}
use Rattle.dds_cache.specs.Picking.{Picks, test_in}
use Rattle.dds_cache.proofs.AnyLaws.{picks-none}
use Rattle.dds_cache.proofs.CountLaws.{unsought}
use Rattle.dds_cache.proofs.PickLaws.{picked, picked-all, picked-sorted}
use Rattle.dds_cache.proofs.pick.pick.Goals as goal

pub returns-then-is_none_asked-clause-placed : goal.returns-then-is_none_asked-clause-placed
returns-then-is_none_asked-clause-placed g c =
    subst (λ (cs : List Candidate). All (IsPlaced (length c.args.samples.now)) cs) (sym c.new.ensures.items)
    (All-nil (IsPlaced (length c.args.samples.now)))

pub returns-then-is_none_asked-clause-picks : goal.returns-then-is_none_asked-clause-picks
returns-then-is_none_asked-clause-picks g c = λ h holds.
    let asked = c.in_ok-request.ensures c.args.qos.now h holds.instances in
    subst (λ (cs : List Candidate). Picks c.args.qos.now h c.args.selection (g.T.Test.meaning c.args.test.now)
    c.args.samples.now cs) (sym c.new.ensures.items)
    (picks-none c.args.qos.now c.args.instances.now h c.args.selection (g.T.Test.meaning c.args.test.now)
    c.args.samples.now c.in_ok-request.request.masks holds asked.0 (sym asked.2)
    (unsought c.args.qos.now h c.args.selection c.in_ok-request.request.masks
    (test_in c.args.selection (g.T.Test.meaning c.args.test.now)) c.args.samples.now holds.each holds.present
    (c.is_none_asked.ensures c.args.qos.now h holds c.if-is_none_asked.true)))

pub returns-clause-placed : goal.returns-clause-placed
returns-clause-placed g c =
    picked-all (IsPlaced (length c.args.samples.now)) c.args.selection c.in_ok-request.request.limit
    c.in_ok-found-2.found.items c.restrict.new.found.items c.cut_to.new.found.items c.restrict.ensures c.cut_to.ensures
    c.in_ok-found-2.ensures.placed

pub returns-clause-picks : goal.returns-clause-picks
returns-clause-picks g c = λ h holds.
    let asked = c.in_ok-request.ensures c.args.qos.now h holds.instances in
    picked c.args.qos.now h c.args.selection
    (g.T.Test.meaning c.args.test.now) c.in_ok-request.request.masks c.in_ok-request.request.limit
    c.args.samples.now c.in_ok-found-2.found.items c.restrict.new.found.items c.cut_to.new.found.items asked.0 asked.1
    asked.2 (c.in_ok-found-2.ensures.found h holds) c.restrict.ensures c.cut_to.ensures

pub returns-then-is_none_asked-clause-sorted : goal.returns-then-is_none_asked-clause-sorted
returns-then-is_none_asked-clause-sorted g c =
    subst (λ (cs : List Candidate). IsNonDecreasingBy handle_in cs) (sym c.new.ensures.items)
    (IsNonDecreasingBy-short handle_in [] (omega arith))

pub returns-clause-sorted : goal.returns-clause-sorted
returns-clause-sorted g c =
    picked-sorted c.args.selection c.in_ok-request.request.limit c.in_ok-found-2.found.items
    c.restrict.new.found.items c.cut_to.new.found.items c.restrict.ensures c.cut_to.ensures c.in_ok-found-2.ensures.sorted
