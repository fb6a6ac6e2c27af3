use Rattle.std.proofs.Common.{◌≡◌, true, List, get_or, set, ap, sym, ◌∙◌}
use Rattle.dds_machine.specs.Part.{same_endpoint}
use Rattle.dds_ends.specs.declared.matching.LastCount.{LastCount}
use Rattle.dds_ends.proofs.Joining.{no_count, same_by_parts, set_here}
use Rattle.dds_ends.proofs.coming.set_count.Goals as goal

pub returns-then-eq : goal.returns-then-eq
returns-then-eq c =
    let counts : List LastCount = c.args.counts.now in
    let row = c.loop-row.row in
    let here : same_endpoint (get_or counts row no_count).reader c.args.reader ≡ true =
    ap (λ (xs : List LastCount). same_endpoint (get_or xs row no_count).reader c.args.reader)
    (sym c.loop-row.invariant.whole)
    ∙ (same_by_parts (get_or c.loop-row.counts row no_count).reader c.args.reader
    ∙ (sym c.eq.ensures ∙ c.if-eq.true)) in
    ap (λ (xs : List LastCount). set xs row (record (get_or xs row no_count) { count = c.args.count }))
    c.loop-row.invariant.whole
    ∙ sym (c.loop-row.invariant.rest
    ∙ set_here counts row c.args.reader c.args.count no_count c.loop-row-test.true here)
