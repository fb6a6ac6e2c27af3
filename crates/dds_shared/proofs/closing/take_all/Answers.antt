use Rattle.std.proofs.Common.{◌≤◌, List, arith, length, [], ◌∷◌, ◌++◌, ◌∙◌, ap, sym, append_assoc}
use Rattle.std.proofs.lemmas.List.Elements.{All-append, All-cons, All-nil}
use Rattle.std.proofs.lemmas.List.Sums.{sum_by-append, sum_by-cons}
use Rattle.dds_trace.specs.declared.trace.Entry.{Entry}
use Rattle.dds_shared.specs.Passes.{Carried, lists_of}
use Rattle.dds_shared.proofs.Seats.{lists_of-snoc, lists_of_append}
use Rattle.dds_shared.proofs.closing.take_all.Goals as goal

pub loop-pass-preserved : goal.loop-pass-preserved
loop-pass-preserved g c =
    let i = c.loop-pass.invariant in
    let pass = c.in-Some.pass in
    let Seen = λ (p : Carried). p.front ≤ length c.args.keeper.now.log in
    let gives = c.give_up.ensures in (
      omega (
        arith,
        gives.parts,
        i.0,
        sum_by-append (λ (p : Carried). p.parts) c.loop-pass.yielded (pass ∷ []),
        sum_by-cons (λ (p : Carried). p.parts) pass [],
      ),
      omega (arith, gives.amount, i.1, lists_of-snoc c.loop-pass.yielded pass),
      gives.log ∙ i.2,
      gives.list
          ∙ ap (λ (es : List Entry). es ++ pass.list) i.3
          ∙ append_assoc c.args.keeper.now.list (lists_of c.loop-pass.yielded) pass.list
          ∙ ap (λ (es : List Entry). c.args.keeper.now.list ++ es) (sym (lists_of_append c.loop-pass.yielded pass)),
      All-append Seen c.loop-pass.yielded (pass ∷ []) i.4
          (All-cons Seen pass [] (omega (arith, gives.bound, ap (λ (es : List Entry). length es) i.2)) (All-nil Seen)),
    )
