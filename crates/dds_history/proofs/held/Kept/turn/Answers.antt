use Rattle.std.proofs.Common.{ℕ, ◌≤◌, ◌^◌, arith, sym, subst}
use Rattle.dds_base.specs.declared.qos.HistoryQos.{HistoryQos}
use Rattle.dds_history.specs.Entries.{IsCounted, IsCountedBy, IsFewBy, state}
use Rattle.dds_history.proofs.held.Kept.turn.Goals as goal

pub returns-in_ok-number-in-KeepLast-clause-counts : goal.returns-in_ok-number-in-KeepLast-clause-counts
returns-in_ok-number-in-KeepLast-clause-counts c = λ last below.
    let was = state c.args.self.now in
    let now = state c.count.new.self in
    let number : ℕ = c.in_ok-number-in-KeepLast.number in
    subst (λ (p : HistoryQos). IsFewBy p last was → IsCountedBy p c.args.key was now c.new-in-KeepLast.result)
    (sym c.in-KeepLast.is)
    (λ few.
    let counted = c.in_ok-number-in-KeepLast.ensures.counts last below few in
    let at_most : number ≤ 2 ^ 48 = omega (arith, counted.newest, few.turns c.args.key, below) in
    subst (λ (turn : ℕ). IsCounted c.in-KeepLast.depth c.args.key was now turn) (sym (c.new-in-KeepLast.ensures at_most)) counted)
