use Rattle.std.proofs.Common.{◌∙◌, Global, Vec, ap, sym}
use Rattle.dds_exchange.specs.declared.naming.NamedEnd.{NamedEnd}
use Rattle.dds_domain.specs.Matched.{is_matched_end}
use Rattle.dds_domain.proofs.Matching.{kept_more, left_out}
use Rattle.dds_domain.proofs.matched.matched_ends.Goals as goal
use Rattle.dds_domain.proofs.matched.matched_ends.Goals.{then-is_matched_end+in_ok-push, else-is_matched_end}

pub loop-end-preserved : goal.loop-end-preserved
loop-end-preserved c = elim c.if-is_matched_end.branch [
  | then-is_matched_end+in_ok-push w ↦ kept_more (is_matched_end c.args.own.now c.args.far.now) c.args.named.now
      c.loop-end.end-index _ c.loop-end.ends.items _ c.loop-end-test.true c.loop-end.invariant
      (sym w.if-is_matched_end.ensures) (ap (λ (v : Vec NamedEnd Global). v.items) w.ends-is ∙ w.in_ok-push.ensures.items)
  | else-is_matched_end w ↦ left_out (is_matched_end c.args.own.now c.args.far.now) c.args.named.now
      c.loop-end.end-index _ c.loop-end.ends.items _ c.loop-end-test.true c.loop-end.invariant
      (sym w.if-is_matched_end.ensures) (ap (λ (v : Vec NamedEnd Global). v.items) w.ends-is)
]
