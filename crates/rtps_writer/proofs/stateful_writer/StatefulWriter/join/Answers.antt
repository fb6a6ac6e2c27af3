use Rattle.std.proofs.Common.{◌≡◌, ℕ, ◌+◌, Bool, false, List, [], ◌∷◌, ◌++◌, Option, ap, sym, ◌∙◌, arith}
use Rattle.std.specs.Prelude.{ℤ}
use Rattle.rtps_writer.specs.WriterState.{history_of, last_of}
use Rattle.rtps_writer.proofs.Parts.{history_at, stands-joined, stands_as}
use Rattle.rtps_writer.proofs.stateful_writer.StatefulWriter.join.Goals as goal

pub returns-clause-ok : goal.returns-clause-ok
returns-clause-ok c = λ s given.
    let h = history_at _ c.args.self.now s c.self.view_is given in
    let here = stands_as c.args.self.now _ s (sym c.self.view_is) given in
    let next : ℕ = c.saturating_add-next.result in
    let next_is : next ≡ last_of s + 1 =
    omega (
      arith,
      c.saturating_add-next.ensures,
      c.number.ensures.number,
      c.last.ensures.last
          (history_of s) h,
      c.last.ensures.few (history_of s) h,
    ) in
    stands-joined _ s c.args.count c.args.is_silent next c.join.new.self _ _ _ _ here next_is
    (c.in_ok-join.ensures.ok (history_of s) h)
    (c.push_reserved.ensures.items ∙ ap (λ (ns : List ℕ). ns ++ next ∷ []) c.in_ok-reserve.ensures.items)
    (c.push_reserved-2.ensures.items
    ∙ ap (λ (cs : List (Option ℤ)). cs ++ c.args.count ∷ []) c.in_ok-reserve-2.ensures.items)
    (c.push_reserved-3.ensures.items
    ∙ ap (λ (bs : List Bool). bs ++ false ∷ []) c.in_ok-reserve-3.ensures.items)
    (c.push_reserved-4.ensures.items
    ∙ ap (λ (bs : List Bool). bs ++ c.args.is_silent ∷ []) c.in_ok-reserve-4.ensures.items)
