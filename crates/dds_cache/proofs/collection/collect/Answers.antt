use Rattle.std.proofs.Common.{◌≡◌, ℕ, ◌+◌, ◌-◌, ◌<◌, ◌^◌, List, length, get_or, map, drop, sym, subst, arith}
use Rattle.dds_base.specs.declared.sample.Picked.{Picked}
use Rattle.dds_base.specs.declared.sample.Sample.{Sample}
use Rattle.dds_info.specs.Ranking.{StandsBefore}
use Rattle.dds_cache.specs.declared.access.Candidate.{Candidate}
use Rattle.dds_cache.specs.declared.kept.Kept.{Kept}
use Rattle.dds_cache.specs.Finding.{picked_in}
use Rattle.dds_cache.proofs.CollectionLaws.{CollectsMore, collects-more, stands-before}
use Rattle.dds_cache.proofs.collection.collect.Goals as goal

pub loop-done-preserved : goal.loop-done-preserved
loop-done-preserved c =
    let ks : List Kept = c.args.samples.now in
    let cs : List Candidate = c.args.found.now in
    let done : ℕ = c.loop-done.done in
    let one : Candidate = c.index-found-count.result in
    let later : List Picked = map picked_in (drop (length cs - done) cs) in
    let within : done < length cs = c.loop-done-test.true in
    let few : length cs < 2 ^ 64 = omega (arith, c.in_ok-collection.ensures.capacity, c.in_ok-collection.collection.small) in
    let one_is : one ≡ get_or cs (length cs - 1 - done) one = c.index-found-count.is in
    let inside : one.at < length ks = subst (λ (y : Candidate). y.at < length ks) (sym one_is)
    (c.requires.placed (length cs - 1 - done) one (omega (arith, within))).within in
    let before : StandsBefore one.picked later c.loop-done.ranks =
    stands-before c.args.kind ks cs done c.loop-done.ranks c.loop-done.collection.items one within few
    c.requires.sorted one_is c.loop-done.invariant in
    subst (λ (xs : List Sample). CollectsMore c.args.kind ks cs (done + 1) c.as_sample.new.ranks xs)
    (sym c.in_ok-push.ensures.items)
    (collects-more c.args.kind ks cs done c.loop-done.ranks c.as_sample.new.ranks c.loop-done.collection.items one
    c.index-samples-candidate.result c.as_sample.result c.in_ok-value.value within one_is inside
    c.index-samples-candidate.is c.in_ok-value.ensures (c.as_sample.ensures.sample later before)
    (c.as_sample.ensures.told later before) c.loop-done.invariant)
