use Rattle.std.proofs.Common.{ℕ, List, sym, subst}
use Rattle.dds_trace.specs.declared.trace.Entry.{Entry}
use Rattle.dds_trace.specs.Weaving.{AllPlaced, IsHonest, IsNext, IsStuck}
use Rattle.dds_trace.proofs.Interleaved.{runs_histories}
use Rattle.dds_trace.proofs.Orders.{none_is_honest}
use Rattle.dds_trace.proofs.weaving.weave.Goals as goal

pub returns-then-has_more-clause-fault : goal.returns-then-has_more-clause-fault
returns-then-has_more-clause-fault c =
    let ts = c.args.traces.now in
    let Q : List ℕ → Type 0 = λ ps. (t : ℕ) × (e : Entry) × IsNext ts ps t e in
    let stuck : IsStuck ts c.in-Ok.all.counts.items = record {
      fits = c.in-Ok.ensures.fits;
      reached = (c.in-Ok.all.order.items, c.in-Ok.ensures.reaches);
      more = subst Q c.as_slice.ensures.value c.if-has_more.ensures;
      blocked = c.in-Ok.ensures.blocked;
    } in (
      subst (λ (ps : List ℕ). IsStuck ts ps) (sym c.from_vec.ensures.elements) stuck,
      none_is_honest ts c.in-Ok.all.counts.items stuck,
    )

pub returns-clause-runs : goal.returns-clause-runs
returns-clause-runs c =
    let ts = c.args.traces.now in
    let whole : IsHonest ts c.in-Ok.all.order.items = (
      c.in-Ok.all.counts.items,
      c.in-Ok.ensures.reaches,
      subst (λ (ps : List ℕ). AllPlaced ts ps) c.as_slice.ensures.value c.if-has_more.ensures,
    ) in
    runs_histories ts c.from_vec-2.result
    (subst (λ (os : List ℕ). IsHonest ts os) (sym c.from_vec-2.ensures.elements) whole)
