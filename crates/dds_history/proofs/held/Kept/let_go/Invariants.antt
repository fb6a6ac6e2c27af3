use Rattle.std.proofs.Common.{◌≡◌, ℕ}
use Rattle.std.specs.Prelude.{nat_le, filter}
use Rattle.std.specs.VecDeque.{deque_len}
use Rattle.dds_history.specs.Entries.{Holds, shown, state}
use Rattle.dds_history.proofs.held.Kept.let_go.Given as goal

abbrev pub invariant-loop-self : goal.invariant-loop-self
invariant-loop-self l =
    (l.self.policy ≡ l.initial.self.policy)
    × ((last : ℕ) → Holds last (state l.initial.self)
    → Holds last (state l.self)
    × (filter (λ h. nat_le l.number h.number) (shown (state l.self))
    ≡ filter (λ h. nat_le l.number h.number) (shown (state l.initial.self))))

abbrev pub decreases-loop-self : goal.decreases-loop-self
decreases-loop-self l = deque_len l.self.entries
