use Rattle.std.proofs.Common.{arith, ◌∙◌}
use Rattle.std.specs.Prelude.{◌==◌}
use Rattle.std.proofs.lemmas.Bool.Decides.{nat_tests}
use Rattle.rtps_reader.proofs.SlotLaws.{marks_more, unmarked_more}
use Rattle.rtps_reader.proofs.writer_proxy.mark_named.Goals as goal

pub loop-number-preserved : goal.loop-number-preserved
loop-number-preserved c =
    let it = c.loop-number.invariant in
    record {
      place = c.mark_if.ensures.place ∙ it.place;
      marks = λ n. marks_more _ _ c.args.window.now c.loop-number.window c.mark_if.new.window c.loop-number.number n
          c.is_named-named.result (omega arith) (omega arith) it.place c.is_named-named.ensures.named it.marks
          (c.mark_if.ensures.marks n);
      small = λ n high none. unmarked_more c.is_named-named.result _ (c.loop-number.number == n) _ _
          (c.mark_if.ensures.marks n) (λ is. let low = c.is_named-named.ensures.small is in grind (arith, nat_tests))
          (it.small n high none);
    }
