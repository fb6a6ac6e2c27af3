use Rattle.std.proofs.Common.{◌≡◌, ◌+◌, ◌≤◌, ℕ, List, ◌++◌, map, vec_len}
use Rattle.std.specs.Prelude.{vec_capacity}
use Rattle.dds_base.specs.Kept.{numbers_from}
use Rattle.dds_notices.specs.Listeners.{ByEntity}
use Rattle.dds_machine.specs.declared.event.WorldEvent.TheVariants as world
use Rattle.dds_world.specs.declared.round.RoundReply.{RoundReply}
use Rattle.dds_world.specs.Holding.{filters_of, kept_of, tests_in}
use Rattle.dds_world.specs.Round.{AreSteps}
use Rattle.dds_world.proofs.world.World.deliver_answers.Given as goal

-- so many packets were delivered, and there is room for the others
abbrev pub invariant-loop-index : goal.invariant-loop-index
invariant-loop-index g l =
    ((given : ℕ → ByEntity g.row.L.Denot)
    → (added : List RoundReply) × (l.replies.items ≡ l.initial.replies.items ++ added)
    × AreSteps (tests_in g.F.Filter.meaning l.initial.self)
    (kept_of g.L.Listener.notices g.L.Listener.capacity g.L.Listener.becomes given l.initial.self)
    (map (λ k. world.Deliver l.fn.peer k) (numbers_from (l.fn.from + 1) l.index)) added
    (kept_of g.L.Listener.notices g.L.Listener.capacity g.L.Listener.becomes given l.self))
    × (vec_len l.replies ≡ vec_len l.initial.replies + l.index)
    × (vec_capacity l.initial.replies ≤ vec_capacity l.replies)
    × (filters_of l.self ≡ filters_of l.initial.self)
