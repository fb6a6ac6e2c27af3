use Rattle.std.proofs.Common.{◌≡◌, ◌+◌, List, sum_by, refl, subst}
use Rattle.dds_shared.specs.Passes.{Carried}
use Rattle.dds_shared.proofs.shared.Shared.end.Goals as goal

pub close-requires : goal.close-requires
close-requires g c = record {
  passes = subst (λ (ps : List Carried). sum_by (λ (p : Carried). p.parts) ps + c.into_inner-locked.result.left ≡ 4294967295)
      c.as_slice.ensures.value (c.if-has_all.ensures.all.0 refl);
}

pub returns-then-has_all-clause-history : goal.returns-then-has_all-clause-history
returns-then-has_all-clause-history g c =
    let left = c.close.ensures in (
      record {
        entries = c.into_inner-locked.result.entries;
        history = left.history;
        lists = left.lists;
        complete = left.complete;
        fronts = left.fronts;
      },
      left.stored,
    )
