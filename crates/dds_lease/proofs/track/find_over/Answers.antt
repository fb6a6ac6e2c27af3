use Rattle.std.proofs.Common.{ℕ, drop, Some, sym, ap, ◌∙◌, arith}
use Rattle.dds_lease.specs.Track.{first_over}
use Rattle.dds_lease.proofs.FindingLaws.{first-skips, first-passes, first-is, first-none}
use Rattle.dds_lease.proofs.track.find_over.Goals as goal

pub loop-at-init : goal.loop-at-init
loop-at-init c = record {
  above = omega (arith, c.number-from.ensures.number);
  same = first-skips c.args.after c.args.now 1 c.number-from.result c.args.tracks.now
      (omega (arith, c.number-from.ensures.number))
      ∙ ap (λ (n : ℕ). first_over c.args.after c.args.now n (drop c.number-from.result c.args.tracks.now))
      (omega arith);
}

pub loop-at-preserved : goal.loop-at-preserved
loop-at-preserved c = record {
  above = let low = c.loop-at.invariant.above in omega (arith, low);
  same = c.loop-at.invariant.same
      ∙ first-passes c.args.after c.args.now c.loop-at.at c.args.tracks.now c.index-tracks-at.result
      c.loop-at-test.true c.index-tracks-at.is (sym c.is_over.ensures ∙ c.if-is_over.false);
}

pub returns-then-is_over-clause-first : goal.returns-then-is_over-clause-first
returns-then-is_over-clause-first c =
    ap (λ (n : ℕ). Some n) c.new.ensures.number
    ∙ sym (c.loop-at.invariant.same
    ∙ first-is c.args.after c.args.now c.loop-at.at c.args.tracks.now c.index-tracks-at.result
    c.loop-at-test.true c.index-tracks-at.is c.loop-at.invariant.above (sym c.is_over.ensures ∙ c.if-is_over.true))

pub returns-clause-first : goal.returns-clause-first
returns-clause-first c =
    sym (c.loop-at.invariant.same
    ∙ first-none c.args.after c.args.now c.loop-at.at c.args.tracks.now (omega (arith, c.loop-at-test.false)))
