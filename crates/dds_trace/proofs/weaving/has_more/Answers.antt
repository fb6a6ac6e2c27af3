use Rattle.std.proofs.Common.{◌<◌, length, arith, below_more, inl, inr, sym, ◌∙◌, ap, Some}
use Rattle.std.specs.Prelude.{slice_index}
use Rattle.std.proofs.lemmas.Option.{slice_get_within, slice_get_cases, get_or_from_slice_get, slice_get-get_or}
use Rattle.dds_trace.specs.Entries.{Traced}
use Rattle.dds_trace.proofs.weaving.has_more.Goals as goal

pub returns-then-placed-at : goal.returns-then-placed-at
returns-then-placed-at c =
    let tr = c.index-traces-at.result in
    let got = slice_get-get_or c.args.traces.now c.loop-at.at tr c.loop-at-test.true in
    elim (slice_get_cases tr.entries (slice_index c.args.placed.now c.loop-at.at)).1 [
      | inl h ↦ (c.loop-at.at, h.0, (tr, got ∙ ap Some (sym c.index-traces-at.is), h.2))
      | inr h ↦ absurd (omega (arith, h.0, c.if-placed-at.true, c.len.ensures.count))
    ]

pub loop-at-preserved : goal.loop-at-preserved
loop-at-preserved c t lt tr got =
    below_more _ _ c.loop-at.invariant
    (λ (tr : Traced) got.
    let same = c.index-traces-at.is ∙ get_or_from_slice_get c.args.traces.now c.loop-at.at tr c.index-traces-at.result got in
    omega (arith, c.if-placed-at.false, c.len.ensures.count, ap (λ (y : Traced). length y.entries) same))
    t lt tr got

pub returns : goal.returns
returns c t tr got =
    let here = slice_get_within c.args.traces.now t tr got in
    let lt : t < c.loop-at.at = omega (arith, here, c.loop-at-test.false) in
    c.loop-at.invariant t lt tr got
